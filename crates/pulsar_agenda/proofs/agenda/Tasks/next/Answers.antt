use Rattle.std.proofs.Common.{◌∙◌, sym, ap, []}
use Rattle.std.proofs.lemmas.List.{nil_from_length}
use Rattle.pulsar_agenda.specs.Agenda.{first_of}
use Rattle.pulsar_agenda.proofs.agenda.Tasks.next.Goals as goal

pub returns-in-Some-next-clause-first : goal.returns-in-Some-next-clause-first
returns-in-Some-next-clause-first c =
    let t = c.args.self.now in
    let u = c.turn_to_next.new.self in
    sym (ap (λ here. first_of [] here u.behind.items u.parts.items) c.in-Some-next.ensures)
    ∙ c.turn_to_next.ensures.first
    ∙ sym (ap (λ now. first_of now t.here t.behind.items t.parts.items) (nil_from_length t.now.items (sym t.now.ok.0 ∙ c.in_default.ensures.cases.0)))

pub returns-in-Some-pop_front-clause-first : goal.returns-in-Some-pop_front-clause-first
returns-in-Some-pop_front-clause-first c =
    let t = c.args.self.now in
    let u = c.turn_to_next.new.self in
    let here = c.in-None.ensures.0 in
    sym (ap (λ parts. first_of [] [] [] parts) c.in-Some-pop_front.ensures.items)
    ∙ sym (ap (λ behind. first_of [] [] behind u.parts.items) (c.turn_to_next.ensures.none here))
    ∙ sym (ap (λ here. first_of [] here u.behind.items u.parts.items) here)
    ∙ c.turn_to_next.ensures.first
    ∙ sym (ap (λ now. first_of now t.here t.behind.items t.parts.items) (nil_from_length t.now.items (sym t.now.ok.0 ∙ c.in_default.ensures.cases.0)))

pub returns-in-None-pop_front-clause-first : goal.returns-in-None-pop_front-clause-first
returns-in-None-pop_front-clause-first c =
    let t = c.args.self.now in
    let u = c.turn_to_next.new.self in
    let here = c.in-None.ensures.0 in
    sym (ap (λ parts. first_of [] [] [] parts) (nil_from_length u.parts.items (sym u.parts.ok.0 ∙ c.in-None-pop_front.ensures.cases.0)))
    ∙ sym (ap (λ behind. first_of [] [] behind u.parts.items) (c.turn_to_next.ensures.none here))
    ∙ sym (ap (λ here. first_of [] here u.behind.items u.parts.items) here)
    ∙ c.turn_to_next.ensures.first
    ∙ sym (ap (λ now. first_of now t.here t.behind.items t.parts.items) (nil_from_length t.now.items (sym t.now.ok.0 ∙ c.in_default.ensures.cases.0)))
