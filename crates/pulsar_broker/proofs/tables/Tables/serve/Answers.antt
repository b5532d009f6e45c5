use Rattle.std.proofs.Common.{◌≡◌, ◌∙◌, sym, ap, refl, subst, Some}
use Rattle.std.specs.BTreeMap.{get}
use Rattle.std.specs.Option.{IsSome, option_map}
use Rattle.std.specs.Ordering.{nat_cmp}
use Rattle.pulsar_broker.specs.Kept.{consumer_in, state_in, topics_in}
use Rattle.pulsar_broker.specs.State.{Consumer, set_at}
use Rattle.pulsar_broker.proofs.SetKeys.{seat_set}
use Rattle.pulsar_broker.proofs.Serving.{is_behind, put_behind}
use Rattle.pulsar_broker.proofs.tables.Tables.serve.Goals as goal

pub returns-clause-after : goal.returns-clause-after
returns-clause-after c =
    let s = state_in c.args.self.now in
    let me = consumer_in c.in-Some.consumer.now in
    let now = c.serve_of.new.consumer in
    let found : s.consumers c.args.seat ≡ Some me = ap (option_map consumer_in) (sym c.in-Some.ensures.value) in
    let written = (c.get_mut.follows.holds now).3 (subst IsSome c.in-Some.ensures.value refl) in
    put_behind c.args.seat me s (λ k. option_map consumer_in (get nat_cmp (c.get_mut.follows.lender now) k)) (topics_in c.serve_of.new.topics)
    (λ k. seat_set consumer_in c.args.seat (Some now) (get nat_cmp c.args.self.now.consumers) (get nat_cmp (c.get_mut.follows.lender now)) written.0 k
    ∙ ap (λ (r : Consumer). set_at c.args.seat (Some r) s.consumers k) c.in_ok-serve_of.ensures.consumer)
    c.in_ok-serve_of.ensures.topics
    ∙ is_behind c.args.seat me s found
