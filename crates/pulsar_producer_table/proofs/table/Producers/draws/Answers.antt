use Rattle.std.proofs.Common.{◌∙◌, ap, sym}
use Rattle.std.proofs.lemmas.Result.{MatchResult-weaker}
use Rattle.pulsar_producer_table.specs.KeptProducers.{producers_of}
use Rattle.std.proofs.Common.{Some}
use Rattle.pulsar_producer.specs.Topic.{Draws}
use Rattle.pulsar_producer_table.specs.Asks.{draw_outcome, draw_said, drawn_by}
use Rattle.pulsar_producer_table.specs.Producers.{done_to}
use Rattle.pulsar_producer_table.proofs.Asking.{changed_is, nothing_done}
use Rattle.pulsar_producer_table.proofs.table.Producers.draws.Goals as goal

pub returns-in-Some-2-clause-says : goal.returns-in-Some-2-clause-says
returns-in-Some-2-clause-says c =
    let row = (producers_of c.args.self.now).topics c.args.number in
    MatchResult-weaker c.grants.result c.grants.ensures.says
    (λ g is. is ∙ ap (λ d. Some (draw_said d)) (sym c.in-Some-2.is ∙ c.in_ok-drawn.ensures.drawn)
    ∙ ap (λ r. Some (draw_outcome r row)) (sym c.in-Some.is)) (λ e u. u)

pub returns-in-Some-2-clause-after : goal.returns-in-Some-2-clause-after
returns-in-Some-2-clause-after c =
    let ps = producers_of c.args.self.now in
    let n = c.args.number in
    MatchResult-weaker c.grants.result c.grants.ensures.says
    (λ g is. c.in_ok-drawn.ensures.after ∙ changed_is n Draws ps ∙ ap (λ r. done_to n (drawn_by r) ps) (sym c.in-Some.is)) (λ e u. u)

pub returns-in-None-clause-says : goal.returns-in-None-clause-says
returns-in-None-clause-says c =
    let row = (producers_of c.args.self.now).topics c.args.number in
    MatchResult-weaker c.refused-in-None.result c.refused-in-None.ensures.says
    (λ g is. is ∙ ap (λ d. Some (draw_said d)) (sym c.in-None.is ∙ c.in_ok-drawn.ensures.drawn)
    ∙ ap (λ r. Some (draw_outcome r row)) (sym c.in-Some.is)) (λ e u. u)

pub returns-in-None-clause-after : goal.returns-in-None-clause-after
returns-in-None-clause-after c =
    let ps = producers_of c.args.self.now in
    let n = c.args.number in
    MatchResult-weaker c.refused-in-None.result c.refused-in-None.ensures.says
    (λ g is. c.in_ok-drawn.ensures.after ∙ changed_is n Draws ps ∙ ap (λ r. done_to n (drawn_by r) ps) (sym c.in-Some.is)) (λ e u. u)

pub returns-in_default-clause-says : goal.returns-in_default-clause-says
returns-in_default-clause-says c =
    let row = (producers_of c.args.self.now).topics c.args.number in
    MatchResult-weaker c.refused.result c.refused.ensures.says
    (λ g is. is ∙ ap (λ r. Some (draw_outcome r row)) (sym c.in_default.is)) (λ e u. u)

pub returns-in_default-clause-after : goal.returns-in_default-clause-after
returns-in_default-clause-after c =
    let ps = producers_of c.args.self.now in
    let n = c.args.number in
    MatchResult-weaker c.refused.result c.refused.ensures.says
    (λ g is. nothing_done n ps ∙ ap (λ r. done_to n (drawn_by r) ps) (sym c.in_default.is)) (λ e u. u)
