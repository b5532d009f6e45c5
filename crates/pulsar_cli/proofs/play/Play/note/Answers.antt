use Rattle.std.proofs.Common.{subst, map, List, ◌≡◌, ◌∷◌}
use Rattle.pulsar_calls.specs.declared.event.Event.{Event}
use Rattle.pulsar_calls.specs.declared.effect.Effect.{Effect}
use Rattle.pulsar_calls.specs.Content.{heard, shown}
use Rattle.pulsar_broker.specs.Stands.{StandsFor}
use Rattle.pulsar_cli.specs.Demo.{fed_in, url}
use Rattle.pulsar_cli.specs.Played.{Counts}
use Rattle.pulsar_cli.proofs.Demos.{sides-keep}
use Rattle.pulsar_cli.proofs.play.Play.note.Goals as goal

pub returns : goal.returns
returns c = λ keeps seed count h holds said.
    let noted = c.in_ok-note.ensures seed count h holds.counts in
    let by_event = subst (λ (x : Event). Counts seed count c.note.new.self (record { event = heard x; effects = map shown c.deref-3.result.now } ∷ h)) c.deref-2.ensures noted in
    record {
      kept = c.in_ok-keep.ensures keeps h holds.kept;
      sides = sides-keep (heard c.args.event.value) (map shown c.args.effects.items) h holds.sides
          (λ acts stands. subst (λ (xs : List Effect). StandsFor url (fed_in (map shown xs) acts) c.feed.new.broker) c.deref.ensures.value (c.in_ok-feed.ensures acts (rw c.deref_mut.ensures.value stands)));
      answered = (said, holds.answered);
      counts = subst (λ (xs : List Effect). Counts seed count c.note.new.self (record { event = heard c.args.event.value; effects = map shown xs } ∷ h)) c.deref-3.ensures.value by_event;
    }
