use Rattle.std.proofs.Common.{◌∙◌, ap, cond, ℕ}
use Rattle.std.specs.List.{flat_map, list_any}
use Rattle.pulsar_calls.specs.declared.act.Alarm.{Alarm}
use Rattle.pulsar_links.specs.Kept.{base_at}
use Rattle.pulsar_acts.specs.Rules.{stopped_with}
use Rattle.pulsar_acts.specs.Tables.{view_of}
use Rattle.pulsar_acts.specs.View.{is_to_follow}
use Rattle.pulsar_links.specs.Seats.{nobody}
use Rattle.pulsar_calls.proofs.Lists.{any_map, flat_map_of}
use Rattle.pulsar_acts.proofs.tables.Tables.stop_alarms.Goals as goal

pub returns-clause-notices : goal.returns-clause-notices
returns-clause-notices c =
    let v = view_of c.args.self.now in
    let first = λ (e : Alarm × ℕ). e.0 in
    c.in_ok-notices.ensures
    ∙ ap (flat_map (stopped_with v.addresses)) (c.deref.ensures.value ∙ c.in_ok-all.ensures)
    ∙ flat_map_of (stopped_with v.addresses) first v.alarms

pub returns-clause-sees : goal.returns-clause-sees
returns-clause-sees c =
    let v = view_of c.args.self.now in
    let first = λ (e : Alarm × ℕ). e.0 in
    λ i. record v {
      addresses = record {
        base = λ key.
            (ap (λ bases. base_at bases key) c.forget_pauses.ensures.bases
            ∙ c.in_ok-forget_all.ensures.bases key
            ∙ ap (λ alarms. cond (list_any (is_to_follow v.addresses key) alarms) nobody (v.addresses.base key)) (c.deref-2.ensures.value ∙ c.in_ok-all.ensures)
            ∙ ap (λ b. cond b nobody (v.addresses.base key)) (any_map first (is_to_follow v.addresses key) v.alarms)) i;
        pause = λ l. c.forget_pauses.ensures.pauses l i;
      };
      alarms = c.new.ensures i;
    }
