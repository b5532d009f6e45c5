use Rattle.pulsar_cli.specs.Demo.{url}
use Rattle.pulsar_cli.proofs.Demos.{sides-owe, sides-take}
use Rattle.pulsar_cli.proofs.play.Play.take.Goals as goal

pub returns-clause-owes : goal.returns-clause-owes
returns-clause-owes c = λ keeps seed count h holds.
    sides-owe h c.in_ok-piece.piece.items holds.sides
    (c.in_ok-piece.ensures.answer url holds.sides.acts (rw c.deref_mut.ensures.value holds.sides.stands))
