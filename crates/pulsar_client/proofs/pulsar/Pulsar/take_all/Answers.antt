use Rattle.std.proofs.Common.{◌≡◌, ◌∙◌, ◌<◌, ◌+◌, ◌++◌, ◌∷◌, [], ap, arith, length, length-append, length-take, reverse, sym, take}
use Rattle.std.proofs.lemmas.List.{take_all, take_more}
use Rattle.pulsar_client.specs.History.{answered}
use Rattle.pulsar_client.proofs.Stepping.{history_more, same_step}
use Rattle.pulsar_client.proofs.Taking.{stands_same}
use Rattle.pulsar_client.proofs.pulsar.Pulsar.take_all.Goals as goal

pub loop-event-preserved : goal.loop-event-preserved
loop-event-preserved g c =
    let i = c.loop-event.event-index in
    let events = c.args.events.now in
    let all = c.loop-event.all.items in
    let event = c.event-item.result in
    let h = reverse (answered (take i events) all) in
    let lt : i < length events = omega arith in
    let counts : length all ≡ length (take i events) = simp length-take (omega (arith, c.loop-event.invariant.count)) in
    let before : take i events ++ event ∷ [] ≡ take (i + 1) events =
    sym (take_more events i event lt ∙ ap (λ e. take i events ++ e ∷ []) (sym c.event-item.is))
    in
    record {
      stands = λ o taken s.
          stands_same _ _
          (ap (λ x. x ∷ h) (same_step c.in_ok-copy.field-0 event c.in_ok-take.field-0.items c.in_ok-copy.ensures)
          ∙ sym (history_more (take i events) all event c.in_ok-take.field-0 counts)
          ∙ (λ j. reverse (answered (before j) (sym c.in_ok-push.ensures.items j))))
          (c.in_ok-take.ensures.ok o h taken (c.loop-event.invariant.stands o taken s));
      count = rw c.in_ok-push.ensures.items (simp length-append (omega (arith, c.loop-event.invariant.count)));
    }

pub returns-clause-stands : goal.returns-clause-stands
returns-clause-stands g c = λ o taken s.
    let i = c.loop-event.event-index in
    let events = c.args.events.now in
    let all : take i events ≡ events = take_all i events (omega arith) in
    stands_same _ _ (ap (λ es. reverse (answered es c.loop-event.all.items)) all) (c.loop-event.invariant.stands o taken s)
