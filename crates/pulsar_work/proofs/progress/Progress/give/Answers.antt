use Rattle.std.proofs.Common.{rules, ◌≡◌, ◌+◌, refl, None}
use Rattle.std.specs.Prelude.{string_bytes}
use Rattle.pulsar_wire.specs.Views.{message_id_values}
use Rattle.pulsar_work.proofs.Learning.{gives, owes}
use Rattle.pulsar_work.proofs.progress.Progress.give.Goals as goal

pub returns-clause-knows : goal.returns-clause-knows
returns-clause-knows c = λ es acked ticket k.
    let free : c.args.self.now.owed ≡ None = search rules in
    let topic : string_bytes c.in_ok-topic.topic ≡ string_bytes c.args.handed.now.topic = search rules in
    let id : message_id_values c.in_ok-id.id ≡ message_id_values c.args.handed.now.id.id = search rules in
    let one : c.in-Some.given ≡ c.args.self.now.given + 1 = search rules in
    gives c.args.self.now _ es acked _ (record { topic = c.in_ok-topic.topic; id = c.in_ok-id.id }) free refl one refl refl refl refl refl refl
    (owes _ _ _ _ _ c.in_ok-encode.ensures.again topic id) k
