use Rattle.std.proofs.Common.{◌∙◌, ap, false, sym, true}
use Rattle.std.proofs.lemmas.Result.{MatchResult-weaker}
use Rattle.pulsar_messages.specs.Content.{message_content}
use Rattle.pulsar_calls.specs.declared.act.Procedure.TheVariants.{Send}
use Rattle.pulsar_producer_table.specs.Producers.{Producers, batches_in, errand_of}
use Rattle.pulsar_acts.specs.Tables.{chosen_of, view_of}
use Rattle.pulsar_acts.specs.View.{ways_of}
use Rattle.pulsar_acts.proofs.Sending.{same_batches, sent_so}
use Rattle.pulsar_acts.proofs.tables.Tables.sends_as.Goals as goal

pub returns-then-batches-clause-procedure : goal.returns-then-batches-clause-procedure
returns-then-batches-clause-procedure c =
    let ps = (view_of c.args.self.now).producers in
    let t = c.args.producer in
    let m = message_content c.args.message in
    let batches =
    sym (same_batches t m ps) ∙ sym (ap (λ (x : Producers). batches_in (x.built t)) c.route.ensures.after) ∙ sym c.batches.ensures ∙ c.if-batches.true
    in
    MatchResult-weaker c.stores_as.result c.stores_as.ensures
    (λ p is. is
    ∙ sent_so (batches_in (ps.built t)) c.args.share m (ways_of (chosen_of c.args.self.now.settings)) (errand_of c.args.advice m (ps.built t)) true c.in-Some-2.ways
    c.in-Some.errand batches (sym c.in_ok-ways.ensures ∙ c.in-Some-2.is) (sym c.route.ensures.errand ∙ c.in-Some.is))
    (λ e u. u)

pub returns-clause-procedure : goal.returns-clause-procedure
returns-clause-procedure c =
    let ps = (view_of c.args.self.now).producers in
    let t = c.args.producer in
    let m = message_content c.args.message in
    let batches =
    sym (same_batches t m ps) ∙ sym (ap (λ (x : Producers). batches_in (x.built t)) c.route.ensures.after) ∙ sym c.batches.ensures ∙ c.if-batches.false
    in
    ap (Send c.in-Some-2.ways c.in-Some.errand c.args.share) c.in_ok-of_message.ensures
    ∙ sent_so (batches_in (ps.built t)) c.args.share m (ways_of (chosen_of c.args.self.now.settings)) (errand_of c.args.advice m (ps.built t)) false c.in-Some-2.ways
    c.in-Some.errand batches (sym c.in_ok-ways.ensures ∙ c.in-Some-2.is) (sym c.route.ensures.errand ∙ c.in-Some.is)
