use Rattle.std.proofs.Common.{◌≡◌, ◌∙◌, sym, ap, ℕ, ◌+◌, List, map, length, drop}
use Rattle.std.specs.BTreeMap.{get_by_text}
use Rattle.pulsar_frame.specs.Payload.{PayloadValues, payload_values}
use Rattle.pulsar_broker.specs.Kept.{consumer_in, topic_in}
use Rattle.pulsar_broker.specs.State.{Consumer, Served, Topic, passed, serving_from, serving_of, with_cursor}
use Rattle.pulsar_broker.proofs.Serving.{cursor_set, goes_behind, served_forward, stays_behind}
use Rattle.pulsar_broker.proofs.topic.Topic.serve.Goals as goal

-- what was served is what was to be served
is_served : (cursor : ℕ) (c : Consumer) (t : Topic) (ms : List PayloadValues) → cursor ≡ passed c.subscription t → ms ≡ t.messages → serving_from cursor c ms ≡ serving_of c t
is_served cursor c t ms e f = ap (λ n. serving_from n c ms) e ∙ ap (serving_from (passed c.subscription t) c) f

forward_of : (c : Consumer) (t : Topic) → (serving_of c t).cursor ≡ passed c.subscription t + length (serving_of c t).messages
forward_of c t = served_forward c.number c.granted c.spent (passed c.subscription t) (drop (passed c.subscription t) t.messages)

pub returns-then-after-cursor-clause-after : goal.returns-then-after-cursor-clause-after
returns-then-after-cursor-clause-after c =
    let me = consumer_in c.args.consumer.now in
    let t = topic_in c.args.self.now in
    let start : c.passed-cursor.result ≡ passed me.subscription t = c.passed-cursor.ensures ∙ ap (λ s. passed s t) c.as_str.ensures.value in
    let served = is_served c.passed-cursor.result me t (map payload_values c.deref.result.now) start (ap (map payload_values) c.deref.ensures.value) in
    let end : c.in_ok-after.after ≡ (serving_of me t).cursor = c.in_ok-after.ensures.cursor ∙ ap (λ (r : Served). r.cursor) served in
    sym (stays_behind me (serving_of me t) (passed me.subscription t) t (forward_of me t) (sym end ∙ c.if-after-cursor.true ∙ start))

pub returns-clause-after : goal.returns-clause-after
returns-clause-after c =
    let me = consumer_in c.args.consumer.now in
    let t = topic_in c.args.self.now in
    let start : c.passed-cursor.result ≡ passed me.subscription t = c.passed-cursor.ensures ∙ ap (λ s. passed s t) c.as_str.ensures.value in
    let served = is_served c.passed-cursor.result me t (map payload_values c.deref.result.now) start (ap (map payload_values) c.deref.ensures.value) in
    let end : c.in_ok-after.after ≡ (serving_of me t).cursor = c.in_ok-after.ensures.cursor ∙ ap (λ (r : Served). r.cursor) served in
    let named : c.as_str-subscription.result.now ≡ me.subscription = c.as_str-subscription.ensures.value ∙ ap (λ (r : Consumer). r.subscription) c.in_ok-after.ensures.after in
    cursor_set t c.as_str-subscription.result.now c.in_ok-after.after (λ s. get_by_text c.set_cursor.new.cursors s) c.in_ok-set_cursor.ensures
    ∙ ap (λ s. with_cursor s c.in_ok-after.after t) named
    ∙ ap (λ n. with_cursor me.subscription n t) end
    ∙ sym (goes_behind me (serving_of me t) (passed me.subscription t) t (forward_of me t) (λ e. c.if-after-cursor.false (end ∙ e ∙ sym start)))
