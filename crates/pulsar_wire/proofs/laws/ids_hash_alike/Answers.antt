use Rattle.std.proofs.Common.{ap, sym, ◌∙◌}
use Rattle.std.specs.List.{fold}
use Rattle.pulsar_wire.specs.Views.{message_id_values}
use Rattle.pulsar_wire.specs.Hashing.{id_words}
use Rattle.pulsar_wire.proofs.laws.ids_hash_alike.Goals as goal

pub returns-clause-first : goal.returns-clause-first
unfolding message_id_values
returns-clause-first g c = c.hash.ensures

pub returns-clause-second : goal.returns-clause-second
unfolding message_id_values
returns-clause-second g c = c.hash-2.ensures

pub returns-clause-alike : goal.returns-clause-alike
unfolding message_id_values
returns-clause-alike g c = λ same states.
    c.hash.ensures
    ∙ (ap (λ s. fold g.H.Hasher.write s (id_words (message_id_values c.args.a.now))) states
    ∙ (ap (λ v. fold g.H.Hasher.write c.args.second.now (id_words v)) same ∙ sym c.hash-2.ensures))
