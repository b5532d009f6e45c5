use Rattle.std.proofs.Common.{◌∙◌, ap, sym}
use Rattle.std.proofs.lemmas.Result.{on_ok_weaker}
use Rattle.pulsar_calls.specs.declared.act.Outcome.TheVariants.{Refused}
use Rattle.pulsar_calls.specs.Who.{ticket_of}
use Rattle.pulsar_consumer_table.specs.Consumers.{numbered}
use Rattle.pulsar_consumer_table.proofs.Asking.{numbered_is}
use Rattle.pulsar_acts.specs.Reading.{numbering_said, tells}
use Rattle.pulsar_agenda.specs.Agenda.{agenda_of}
use Rattle.pulsar_acts.specs.Tables.{view_of}
use Rattle.pulsar_acts.proofs.Granting.{in_front}
use Rattle.pulsar_acts.proofs.tables.Tables.takes_number.Goals as goal

pub returns-in-Has-clause-left : goal.returns-in-Has-clause-left
returns-in-Has-clause-left c =
    on_ok_weaker c.tell_word.result
    (λ told. told
    ∙ in_front (agenda_of c.args.tasks.now) _ _ (ap (λ n. tells c.args.who (numbering_said n)) (sym c.in-Has.is ∙ c.in_ok-number.ensures.numbering)))
    c.tell_word.ensures

pub returns-in-Has-clause-sees : goal.returns-in-Has-clause-sees
returns-in-Has-clause-sees c =
    let v = view_of c.args.self.now in
    on_ok_weaker c.tell_word.result
    (λ told. ap (λ cs. record v { consumers = cs })
    (c.in_ok-number.ensures.after ∙ ap (λ t. numbered t c.args.wanted v.consumers) c.ticket_of.ensures
    ∙ numbered_is (ticket_of c.args.who) c.args.wanted v.consumers))
    c.tell_word.ensures

pub returns-in-InUse-clause-left : goal.returns-in-InUse-clause-left
returns-in-InUse-clause-left c =
    on_ok_weaker c.tell_word-in-InUse.result
    (λ told. told
    ∙ in_front (agenda_of c.args.tasks.now) _ _ (ap (λ n. tells c.args.who (numbering_said n)) (sym c.in-InUse.is ∙ c.in_ok-number.ensures.numbering)))
    c.tell_word-in-InUse.ensures

pub returns-in-InUse-clause-sees : goal.returns-in-InUse-clause-sees
returns-in-InUse-clause-sees c =
    let v = view_of c.args.self.now in
    on_ok_weaker c.tell_word-in-InUse.result
    (λ told. ap (λ cs. record v { consumers = cs })
    (c.in_ok-number.ensures.after ∙ ap (λ t. numbered t c.args.wanted v.consumers) c.ticket_of.ensures
    ∙ numbered_is (ticket_of c.args.who) c.args.wanted v.consumers))
    c.tell_word-in-InUse.ensures

pub returns-in_ok-cause-in-Spent-clause-left : goal.returns-in_ok-cause-in-Spent-clause-left
returns-in_ok-cause-in-Spent-clause-left c =
    on_ok_weaker c.tell.result
    (λ told. told
    ∙ in_front (agenda_of c.args.tasks.now) _ _
    (ap (λ f. tells c.args.who (Refused f)) c.in_ok-cause-in-Spent.ensures
    ∙ ap (λ n. tells c.args.who (numbering_said n)) (sym c.in-Spent.is ∙ c.in_ok-number.ensures.numbering)))
    c.tell.ensures

pub returns-in_ok-cause-in-Spent-clause-sees : goal.returns-in_ok-cause-in-Spent-clause-sees
returns-in_ok-cause-in-Spent-clause-sees c =
    let v = view_of c.args.self.now in
    on_ok_weaker c.tell.result
    (λ told. ap (λ cs. record v { consumers = cs })
    (c.in_ok-number.ensures.after ∙ ap (λ t. numbered t c.args.wanted v.consumers) c.ticket_of.ensures
    ∙ numbered_is (ticket_of c.args.who) c.args.wanted v.consumers))
    c.tell.ensures
