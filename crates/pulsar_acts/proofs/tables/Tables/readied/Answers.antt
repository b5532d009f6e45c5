use Rattle.std.proofs.Common.{◌∙◌, ◌++◌, ap, sym}
use Rattle.std.proofs.lemmas.List.{append-nil}
use Rattle.std.proofs.lemmas.Result.{on_ok_weaker}
use Rattle.pulsar_calls.specs.declared.act.Alarm.TheVariants.{KeepAlive}
use Rattle.pulsar_calls.specs.declared.act.Arrival.TheVariants.{Readied}
use Rattle.pulsar_links.specs.Alarms.{set}
use Rattle.pulsar_links.specs.Kept.{pause_at}
use Rattle.pulsar_acts.specs.Rules.{served_on, waiters_of}
use Rattle.pulsar_acts.specs.Tables.{turned_view, view_of}
use Rattle.pulsar_acts.proofs.Turned.{none_left}
use Rattle.pulsar_acts.proofs.Turning.{welcomed_none, welcomed_some}
use Rattle.pulsar_acts.proofs.tables.Tables.readied.Goals as goal

pub returns-in_default-clause-notices : goal.returns-in_default-clause-notices
returns-in_default-clause-notices c =
    let v = view_of c.args.self.now in
    let l = c.args.link in
    let none = welcomed_none l Readied (v.links.live l) (sym c.in_ok-address.ensures ∙ none_left c.in_ok-address.field-0 c.in_default.not-Some) in
    sym (append-nil c.args.notices.now.items) ∙ sym (ap (λ t. c.args.notices.now.items ++ waiters_of served_on v.addresses t) none)

pub returns-in_default-clause-sees : goal.returns-in_default-clause-sees
returns-in_default-clause-sees c =
    let v = view_of c.args.self.now in
    let l = c.args.link in
    let none = welcomed_none l Readied (v.links.live l) (sym c.in_ok-address.ensures ∙ none_left c.in_ok-address.field-0 c.in_default.not-Some) in
    sym (ap (λ t. turned_view t v) none)

pub returns-clause-notices : goal.returns-clause-notices
returns-clause-notices c =
    let v = view_of c.args.self.now in
    let l = c.args.link in
    let some = welcomed_some l Readied (v.links.live l) c.in-Some.address (sym c.in_ok-address.ensures ∙ c.in-Some.is) in
    on_ok_weaker c.set.result
    (λ set. c.in_ok-ready.ensures.notices ∙ sym (ap (λ t. c.args.notices.now.items ++ waiters_of served_on v.addresses t) some)) c.set.ensures

pub returns-clause-sees : goal.returns-clause-sees
returns-clause-sees c =
    let v = view_of c.args.self.now in
    let l = c.args.link in
    let some = welcomed_some l Readied (v.links.live l) c.in-Some.address (sym c.in_ok-address.ensures ∙ c.in-Some.is) in
    on_ok_weaker c.set.result
    (λ is. (λ i. record v {
      addresses = record { base = λ key. c.in_ok-ready.ensures.bases key i; pause = pause_at (c.in_ok-ready.ensures.pauses i) };
      alarms = (is ∙ ap (λ m. set (KeepAlive l) m v.alarms) c.later-moment.ensures) i;
    }) ∙ sym (ap (λ t. turned_view t v) some))
    c.set.ensures
