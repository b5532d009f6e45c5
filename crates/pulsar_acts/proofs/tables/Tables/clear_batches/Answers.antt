use Rattle.std.proofs.Common.{◌≡◌, ◌∙◌, ◌∷◌, [], ap, subst, sym}
use Rattle.std.specs.Prelude.{MatchOption}
use Rattle.pulsar_acts.specs.Tables.{view_of}
use Rattle.pulsar_acts.specs.View.{View, clear_all}
use Rattle.pulsar_acts.proofs.Turned.{none_left}
use Rattle.pulsar_acts.proofs.tables.Tables.clear_batches.Goals as goal

pub loop-number-preserved : goal.loop-number-preserved
loop-number-preserved c =
    let so_far = c.loop-number.invariant in
    record {
      alarms =
          ap (clear_all c.next.new.self) c.in_ok-clear.ensures
          ∙ sym (ap (λ ns. clear_all ns c.loop-number.self.alarms) c.in-Some.ensures)
          ∙ so_far.alarms;
      sees = ap (λ (x : View). record x { alarms = c.clear.new.self }) so_far.sees;
      settings = so_far.settings;
    }

pub returns-clause-sees : goal.returns-clause-sees
returns-clause-sees c =
    let so_far = c.loop-number.invariant in
    let numbers = c.loop-number.numbers in
    let none : numbers ≡ [] =
    subst (λ r. MatchOption r (numbers ≡ []) (λ n. numbers ≡ n ∷ c.next.new.self)) (none_left c.next.result c.in_default.not-Some) c.next.ensures
    in
    so_far.sees
    ∙ ap (λ alarms. record (view_of c.args.self.now) { alarms = alarms })
    (sym (ap (λ ns. clear_all ns c.loop-number.self.alarms) none) ∙ so_far.alarms)
