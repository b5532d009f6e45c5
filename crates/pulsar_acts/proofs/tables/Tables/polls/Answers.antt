use Rattle.std.proofs.Common.{◌∙◌, ◌++◌, ap, map, sym, List, Option}
use Rattle.std.proofs.lemmas.List.{append-nil}
use Rattle.std.proofs.lemmas.Result.{on_ok_weaker}
use Rattle.std.specs.List.{flat_map}
use Rattle.std.specs.Option.{option_map, option_to_list}
use Rattle.std.specs.Vec.{Vec}
use Rattle.pulsar_run.specs.Order.{put_all}
use Rattle.pulsar_calls.specs.Content.{Shown, shown}
use Rattle.pulsar_calls.specs.declared.act.Notice.{Notice}
use Rattle.pulsar_calls.specs.declared.effect.Effect.{Effect}
use Rattle.pulsar_calls.specs.Order.{below}
use Rattle.pulsar_consumer_table.specs.Consumers.{IsPolled}
use Rattle.pulsar_consumer_table.proofs.Asking.{changed_is}
use Rattle.pulsar_agenda.specs.Agenda.{agenda_of}
use Rattle.pulsar_acts.specs.Tables.{view_of}
use Rattle.pulsar_acts.proofs.Turned.{none_left}
use Rattle.pulsar_acts.proofs.tables.Tables.polls.Goals as goal

-- what a poll shows and whom it tells
abbrev shows : Option (Effect × Vec Notice) → Option Shown
shows r = option_map (λ x. shown x.0) r

abbrev tells : Option (Effect × Vec Notice) → List Notice
tells r = flat_map (λ x. x.1.items) (option_to_list r)

pub returns-in_default-clause-out : goal.returns-in_default-clause-out
returns-in_default-clause-out c =
    let before = map shown c.args.out.now.items in
    let none = none_left c.in_ok-effect.field-0 c.in_default.not-Some in
    sym (append-nil before) ∙ ap (λ x. before ++ option_to_list x) (ap shows (sym none) ∙ c.in_ok-effect.ensures.effect)

pub returns-in_default-clause-left : goal.returns-in_default-clause-left
returns-in_default-clause-left c =
    let g = agenda_of c.args.tasks.now in
    let none = none_left c.in_ok-effect.field-0 c.in_default.not-Some in
    let due = ap tells (sym none) ∙ c.in_ok-effect.ensures.due in
    λ i. record g { here = put_all below (due i) g.here; behind = sym (append-nil g.behind) i }

pub returns-in_default-clause-sees : goal.returns-in_default-clause-sees
returns-in_default-clause-sees c =
    let v = view_of c.args.self.now in
    ap (λ cs. record v { consumers = cs }) (c.in_ok-effect.ensures.after ∙ changed_is c.args.ticket (IsPolled v.now) v.consumers)

pub returns-clause-out : goal.returns-clause-out
returns-clause-out c =
    let before = map shown c.args.out.now.items in
    let is = ap shows (sym c.in-Some.is) ∙ c.in_ok-effect.ensures.effect in
    on_ok_weaker c.join_all.result (λ joined. c.in_ok-show.ensures ∙ ap (λ x. before ++ option_to_list x) is) c.join_all.ensures

pub returns-clause-left : goal.returns-clause-left
returns-clause-left c =
    let g = agenda_of c.args.tasks.now in
    let due = sym (append-nil c.in-Some.notices.items) ∙ ap tells (sym c.in-Some.is) ∙ c.in_ok-effect.ensures.due in
    on_ok_weaker c.join_all.result
    (λ joined. joined ∙ (λ i. record g { here = put_all below (due i) g.here; behind = sym (append-nil g.behind) i })) c.join_all.ensures

pub returns-clause-sees : goal.returns-clause-sees
returns-clause-sees c =
    let v = view_of c.args.self.now in
    on_ok_weaker c.join_all.result
    (λ joined. ap (λ cs. record v { consumers = cs }) (c.in_ok-effect.ensures.after ∙ changed_is c.args.ticket (IsPolled v.now) v.consumers))
    c.join_all.ensures
