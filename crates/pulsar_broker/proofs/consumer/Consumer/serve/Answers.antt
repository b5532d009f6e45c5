use Rattle.std.proofs.Common.{◌≡◌, ◌∙◌, ◌≤◌, ◌<◌, ◌+◌, ◌∷◌, ◌++◌, inl, inr, sym, ap, refl, subst, ℕ, suc, List, drop, map, length, arith, add-one, drop-cons, length-drop}
use Rattle.std.proofs.lemmas.List.{drop-map, length-map}
use Rattle.pulsar_frame.specs.Payload.{PayloadValues, payload_values}
use Rattle.pulsar_broker.specs.Answers.{delivery}
use Rattle.pulsar_broker.specs.Kept.{consumer_in, owed_on}
use Rattle.pulsar_broker.specs.History.{bytes_for}
use Rattle.pulsar_broker.specs.State.{Consumer, owed_to, serving_from, weight}
use Rattle.pulsar_broker.proofs.Serving.{IsNothing, IsServing, serving_done, serving_more}
use Rattle.pulsar_broker.proofs.consumer.Consumer.serve.Goals as goal

pub loop-message-init : goal.loop-message-init
loop-message-init c = record {
  same = refl;
  serves = let P : List PayloadValues → Type 0 = λ ps. IsServing c.args.self.now.link c.args.self.now.number c.args.self.now.granted c.args.self.now.spent c.args.cursor ps (owed_on c.args.out.now)
      (serving_from c.args.cursor (consumer_in c.args.self.now) (map payload_values c.args.messages.now)) (owed_on c.args.out.now) in
      subst P (sym (ap (map payload_values) c.messages_from-message-items.ensures ∙ sym (drop-map payload_values c.args.cursor c.args.messages.now))) (record { cursor = refl; costs = refl; given = λ l. refl });
}

pub loop-message-preserved : goal.loop-message-preserved
loop-message-preserved c =
    let items = c.messages_from-message-items.result.now in
    let i = c.loop-message.message-index in
    let p = c.message-item.result in
    let me = c.args.self.now in
    let old = c.loop-message.self in
    let same = c.loop-message.invariant.same in
    let lt : i < length items = c.loop-message-test.true in
    let here : drop i items ≡ p ∷ drop (i + 1) items = rw add-one (drop-cons items i p lt ∙ ap (λ x. x ∷ drop (suc i) items) (sym c.message-item.is)) in
    let after = c.in_ok-give.ensures.after in
    let gives = c.in_ok-give.ensures.given in
    let w : ℕ = old.spent + weight (payload_values p) in
    let whole = serving_from c.args.cursor (consumer_in me) (map payload_values c.args.messages.now) in
    let P : ℕ → ℕ → List PayloadValues → (ℕ → List ℕ) → Type 0 = λ s n ps given. IsServing me.link me.number me.granted s n ps given whole (owed_on c.args.out.now) in
    let before : P old.spent c.loop-message.place (payload_values p ∷ map payload_values (drop (i + 1) items)) (owed_on c.loop-message.out) =
    subst (λ ps. P old.spent c.loop-message.place ps (owed_on c.loop-message.out)) (ap (map payload_values) here) c.loop-message.invariant.serves in
    let room : old.spent < me.granted = subst (λ g. old.spent < g) (ap (λ (r : Consumer). r.granted) same) c.if-self.false in
    let next : P w (c.loop-message.place + 1) (map payload_values (drop (i + 1) items)) (owed_on c.give.new.out) =
    serving_more me.link me.number me.granted old.spent c.loop-message.place (payload_values p) (map payload_values (drop (i + 1) items))
    (owed_on c.loop-message.out) (owed_on c.give.new.out) whole (owed_on c.args.out.now) room
    (λ l. gives l ∙ ap (λ (r : Consumer). owed_on c.loop-message.out l ++ bytes_for l (owed_to r.link (delivery r.number c.loop-message.place (payload_values p)))) same)
    before in
    let spent : c.give.new.self.spent ≡ w = ap (λ (r : Consumer). r.spent) after in
    record {
      same = after ∙ ap (λ (r : Consumer). record r { spent = w }) same ∙ ap (λ n. record (consumer_in me) { spent = n }) (sym spent);
      serves = subst (λ s. P s c.in_ok-place.place (map payload_values (drop (i + 1) items)) (owed_on c.give.new.out)) (sym spent)
          (subst (λ n. P w n (map payload_values (drop (i + 1) items)) (owed_on c.give.new.out)) (sym c.in_ok-place.ensures) next);
    }

ended : (c : goal.After-loop-message) → IsNothing c.args.self.now.granted c.loop-message.self.spent (length (map payload_values (drop c.loop-message.message-index c.messages_from-message-items.result.now)))
ended c =
    let items = c.messages_from-message-items.result.now in
    let l = length-map (drop c.loop-message.message-index items) payload_values in
    let d = length-drop c.loop-message.message-index items in
    let end : length items ≤ c.loop-message.message-index = c.loop-message-test.false in
    inr (omega (arith, l, d, end))

pub returns-after-loop-message : goal.returns-after-loop-message
returns-after-loop-message c =
    let me = c.args.self.now in
    let done = serving_done me.link me.number me.granted c.loop-message.self.spent c.loop-message.place (map payload_values (drop c.loop-message.message-index c.messages_from-message-items.result.now))
    (owed_on c.loop-message.out) (serving_from c.args.cursor (consumer_in me) (map payload_values c.args.messages.now)) (owed_on c.args.out.now) (ended c) c.loop-message.invariant.serves in
    record {
      cursor = done.0;
      after = c.loop-message.invariant.same ∙ ap (λ n. record (consumer_in me) { spent = n }) done.1;
      given = done.2;
    }

pub returns-then-self : goal.returns-then-self
returns-then-self c =
    let me = c.args.self.now in
    let spent : me.granted ≤ c.loop-message.self.spent = subst (λ g. g ≤ c.loop-message.self.spent) (ap (λ (r : Consumer). r.granted) c.loop-message.invariant.same) c.if-self.true in
    let done = serving_done me.link me.number me.granted c.loop-message.self.spent c.loop-message.place (map payload_values (drop c.loop-message.message-index c.messages_from-message-items.result.now))
    (owed_on c.loop-message.out) (serving_from c.args.cursor (consumer_in me) (map payload_values c.args.messages.now)) (owed_on c.args.out.now) (inl spent) c.loop-message.invariant.serves in
    record {
      cursor = done.0;
      after = c.loop-message.invariant.same ∙ ap (λ n. record (consumer_in me) { spent = n }) done.1;
      given = done.2;
    }
