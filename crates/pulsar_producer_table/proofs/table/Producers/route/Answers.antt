use Rattle.std.proofs.Common.{refl, subst}
use Rattle.std.specs.BTreeMap.{get}
use Rattle.std.specs.Option.{IsSome}
use Rattle.std.specs.Ordering.{nat_cmp}
use Rattle.pulsar_messages.specs.Content.{message_content}
use Rattle.pulsar_producer_table.specs.KeptProducers.{producers_of}
use Rattle.pulsar_producer_table.proofs.Producing.{routed_so}
use Rattle.pulsar_producer_table.proofs.table.Producers.route.Goals as goal

pub returns-in_err-number-clause-after : goal.returns-in_err-number-clause-after
returns-in_err-number-clause-after c =
    let now = c.target.new.self in
    let written = (c.get_mut.follows.holds now).3 (subst IsSome c.in_ok-producer.ensures.value refl) in
    routed_so (producers_of c.args.self.now) c.args.ticket (message_content c.args.message.now) (get nat_cmp (c.get_mut.follows.lender now)) c.in_ok-producer.producer.now now
    c.in_ok-producer.ensures.value c.target.ensures.after written.0

pub returns-clause-after : goal.returns-clause-after
returns-clause-after c =
    let now = c.target.new.self in
    let written = (c.get_mut.follows.holds now).3 (subst IsSome c.in_ok-producer.ensures.value refl) in
    routed_so (producers_of c.args.self.now) c.args.ticket (message_content c.args.message.now) (get nat_cmp (c.get_mut.follows.lender now)) c.in_ok-producer.producer.now now
    c.in_ok-producer.ensures.value c.target.ensures.after written.0
