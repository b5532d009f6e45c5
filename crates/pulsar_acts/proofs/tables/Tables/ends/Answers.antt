use Rattle.std.proofs.Common.{◌≡◌, ◌∙◌, ◌++◌, Option, ap, append_assoc, map, refl, subst, sym, Some, None}
use Rattle.std.proofs.lemmas.List.{append-nil}
use Rattle.std.proofs.lemmas.Result.{on_ok_weaker}
use Rattle.std.specs.Option.{option_map}
use Rattle.pulsar_addresses.specs.Address.{address_key}
use Rattle.pulsar_run.specs.Order.{arranged}
use Rattle.pulsar_wire.specs.Failures.{Fault}
use Rattle.pulsar_calls.specs.declared.act.Act.TheVariants.{Comes}
use Rattle.pulsar_calls.specs.declared.act.Alarm.TheVariants.{KeepAlive}
use Rattle.pulsar_calls.specs.declared.act.LinkAct.TheVariants.{Ends}
use Rattle.pulsar_calls.specs.declared.act.Part.TheVariants.{ToLink}
use Rattle.pulsar_links.specs.Alarms.{clear}
use Rattle.pulsar_calls.specs.Content.{shown}
use Rattle.pulsar_acts.specs.Effects.{retries_on}
use Rattle.pulsar_links.specs.LinkEffects.{given_at}
use Rattle.pulsar_links.specs.Kept.{IsEnd}
use Rattle.pulsar_acts.specs.Rules.{failed_on, waiters_of}
use Rattle.pulsar_links.specs.LinkRules.{ended_on, failed_over}
use Rattle.pulsar_calls.specs.Order.{below, opens}
use Rattle.pulsar_consumer_table.specs.Consumers.{Consumers, all_changed, loses_by, over_rows}
use Rattle.pulsar_consumer_table.specs.Notices.{lost_at}
use Rattle.pulsar_agenda.specs.Agenda.{agenda_of}
use Rattle.pulsar_acts.specs.Tables.{retry_set, retry_shown, view_of}
use Rattle.pulsar_acts.specs.View.{addresses_after, alarms_after, alarms_on, alarms_over, base_on, links_after, pause_of, pause_on, turned}
use Rattle.pulsar_links.specs.Seats.{closing, may_retry, pause_with}
use Rattle.pulsar_consumer_table.proofs.Heard.{all_same, over_none}
use Rattle.pulsar_acts.proofs.Turned.{linked, none_left, retries_set, retries_shown, still_sees}
use Rattle.pulsar_acts.proofs.Turning.{none_ended, nothing_more, open_still, retries_still, turned_end, waiters_still}
use Rattle.pulsar_acts.proofs.tables.Tables.ends.Goals as goal

-- NO END AFTER ALL

pub returns-in_default-clause-out : goal.returns-in_default-clause-out
returns-in_default-clause-out c =
    let v = view_of c.args.self.now in
    let l = c.args.link in
    let row = v.links.live l in
    let closed : closing c.args.end v.now row ≡ None =
    subst (λ r. IsEnd r c.args.end v.now row) (none_left c.in_ok-address.field-0 c.in_default.not-Some) c.in_ok-address.ensures.end
    in
    c.in_ok-address.ensures.out
    ∙ nothing_more _ _ _ (retries_still v.chosen _ (open_still v.chosen v.addresses v.now l c.args.end row closed))

pub returns-in_default-clause-left : goal.returns-in_default-clause-left
returns-in_default-clause-left c =
    let v = view_of c.args.self.now in
    let l = c.args.link in
    let g = agenda_of c.args.tasks.now in
    let row = v.links.live l in
    let closed : closing c.args.end v.now row ≡ None =
    subst (λ r. IsEnd r c.args.end v.now row) (none_left c.in_ok-address.field-0 c.in_default.not-Some) c.in_ok-address.ensures.end
    in
    let t = turned v (Comes (ToLink l (Ends c.args.end))) in
    let waiters = waiters_of (failed_on c.args.end) v.addresses t in
    let lost = over_rows (lost_at l (closing c.args.end v.now row)) v.consumers in
    let nobody =
    ap (λ ns. (ns ++ waiters) ++ lost) (none_ended c.args.end v.now row closed)
    ∙ ap (λ ns. ns ++ lost) (waiters_still c.args.end v.addresses t (open_still v.chosen v.addresses v.now l c.args.end row closed))
    ∙ ap (λ cause. over_rows (lost_at l cause) v.consumers) closed
    ∙ over_none (lost_at l None) (λ u m. refl) v.consumers.rows v.consumers.tickets
    in
    ap (λ causes. record { now = g.now; here = g.here; behind = causes; parts = g.parts })
    (sym (append-nil g.behind) ∙ sym (ap (λ ns. g.behind ++ map (arranged below) (opens ns)) nobody))

pub returns-in_default-clause-sees : goal.returns-in_default-clause-sees
returns-in_default-clause-sees c =
    let v = view_of c.args.self.now in
    let l = c.args.link in
    let x = Ends c.args.end in
    let row = v.links.live l in
    let closed : closing c.args.end v.now row ≡ None =
    subst (λ r. IsEnd r c.args.end v.now row) (none_left c.in_ok-address.field-0 c.in_default.not-Some) c.in_ok-address.ensures.end
    in
    still_sees v l x _ (open_still v.chosen v.addresses v.now l c.args.end row closed)
    (linked v l x _ _ c.in_ok-address.ensures.started c.in_ok-address.ensures.live)
    ∙ ap (λ (cs : Consumers). record v {
      links = links_after v (Comes (ToLink l x));
      addresses = addresses_after v (Comes (ToLink l x));
      alarms = alarms_after v (Comes (ToLink l x));
      consumers = cs;
    }) (all_same (loses_by l None) (λ m. refl) v.consumers)
    ∙ ap (λ (cause : Option Fault). record v {
      links = links_after v (Comes (ToLink l x));
      addresses = addresses_after v (Comes (ToLink l x));
      alarms = alarms_after v (Comes (ToLink l x));
      consumers = all_changed (loses_by l cause) v.consumers;
    }) (sym closed)

-- AN END

pub returns-clause-out : goal.returns-clause-out
returns-clause-out c =
    let v = view_of c.args.self.now in
    let o = v.chosen in
    let l = c.args.link in
    let row = v.links.live l in
    let p = c.in-Some.address in
    let end : IsEnd (Some (p, c.in-Some.notices)) c.args.end v.now row = subst (λ r. IsEnd r c.args.end v.now row) c.in-Some.is c.in_ok-address.ensures.end in
    let w = may_retry o.connection.max_retries c.args.end (v.addresses.base (address_key p)).series in
    let again = c.in_ok-again.again in
    let before = map shown c.args.out.now.items in
    let given = given_at l (Ends c.args.end) v.now row in
    let shows =
    ap (retry_shown o l) c.in_ok-again.ensures.again
    ∙ retries_shown o l p w
    ∙ sym (ap (retries_on o) (turned_end o v.addresses v.now l c.args.end row p end.0 end.1 end.2))
    in
    on_ok_weaker c.open.result
    (λ left. c.in_ok-pauses.ensures.out
    ∙ ap (λ es. es ++ retry_shown o l again) c.in_ok-address.ensures.out
    ∙ append_assoc before given (retry_shown o l again)
    ∙ ap (λ es. before ++ (given ++ es)) shows)
    c.open.ensures

pub returns-clause-left : goal.returns-clause-left
returns-clause-left c =
    let v = view_of c.args.self.now in
    let l = c.args.link in
    let g = agenda_of c.args.tasks.now in
    let row = v.links.live l in
    let p = c.in-Some.address in
    let end : IsEnd (Some (p, c.in-Some.notices)) c.args.end v.now row = subst (λ r. IsEnd r c.args.end v.now row) c.in-Some.is c.in_ok-address.ensures.end in
    let turns = turned_end v.chosen v.addresses v.now l c.args.end row p end.0 end.1 end.2 in
    let waiters = waiters_of (failed_on c.args.end) v.addresses in
    let base = v.addresses.base (address_key p) in
    let failed = failed_over c.args.end (pause_of v.chosen c.args.end p base.series) base in
    let before =
    c.in_ok-again.ensures.notices
    ∙ ap (λ ns. ns ++ failed) end.3
    ∙ sym (ap (λ t. ended_on c.args.end v.now row ++ waiters t) turns)
    in
    let lost = c.in_ok-lost.ensures.notices ∙ ap (λ cause. over_rows (lost_at l cause) v.consumers) (sym end.1) in
    let notices = c.in_ok-add_all.ensures ∙ (λ i. before i ++ lost i) in
    on_ok_weaker c.open.result
    (λ opened. opened
    ∙ ap (λ ns. record { now = g.now; here = g.here; behind = g.behind ++ map (arranged below) (opens ns); parts = g.parts }) notices)
    c.open.ensures

pub returns-clause-sees : goal.returns-clause-sees
returns-clause-sees c =
    let v = view_of c.args.self.now in
    let o = v.chosen in
    let l = c.args.link in
    let x = Ends c.args.end in
    let row = v.links.live l in
    let p = c.in-Some.address in
    let end : IsEnd (Some (p, c.in-Some.notices)) c.args.end v.now row = subst (λ r. IsEnd r c.args.end v.now row) c.in-Some.is c.in_ok-address.ensures.end in
    let w = may_retry o.connection.max_retries c.args.end (v.addresses.base (address_key p)).series in
    let turns = turned_end o v.addresses v.now l c.args.end row p end.0 end.1 end.2 in
    let links = linked v l x _ _ c.in_ok-address.ensures.started c.in_ok-address.ensures.live in
    let again = c.in_ok-again.again in
    let cleared = clear (KeepAlive l) v.alarms in
    let alarms : retry_set o v.now l again c.clear.new.self ≡ alarms_over o v.now l (option_map (pause_with p) w) cleared =
    ap (retry_set o v.now l again) c.in_ok-clear.ensures
    ∙ ap (λ n. retry_set o v.now l n cleared) c.in_ok-again.ensures.again
    ∙ retries_set o v.now l p w cleared
    in
    on_ok_weaker c.open.result
    (λ left. c.in_ok-pauses.ensures.sees
    ∙ (λ i. record v {
      links = links i;
      addresses = record { base = λ key. c.in_ok-again.ensures.bases key i; pause = λ k. c.in_ok-again.ensures.pauses k i };
      alarms = alarms i;
      consumers = (c.in_ok-lost.ensures.after ∙ ap (λ cause. all_changed (loses_by l cause) v.consumers) (sym end.1)) i;
    })
    ∙ sym (ap (λ t. record v {
      links = links_after v (Comes (ToLink l x));
      addresses = record { base = λ key. base_on t key (v.addresses.base key); pause = λ k. pause_on t k (v.addresses.pause k) };
      alarms = alarms_on o v.now t v.alarms;
      consumers = all_changed (loses_by l (closing c.args.end v.now row)) v.consumers;
    }) turns))
    c.open.ensures
