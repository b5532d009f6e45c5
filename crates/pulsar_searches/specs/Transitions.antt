-- What a search does at what it is told.
use Rattle.pulsar_searches.specs.declared.transition.Transition.{Transition}
use Rattle.pulsar_searches.specs.declared.turn.Action.{Action}

abbrev pub SearchTransition : Type 0 → Type 0 → Type 0
SearchTransition S A = Transition S Action A
