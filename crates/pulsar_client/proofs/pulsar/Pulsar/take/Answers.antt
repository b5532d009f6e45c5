use Rattle.std.proofs.Common.{◌≡◌, ◌∙◌, ◌∷◌, ap, map, refl, sym, true, false}
use Rattle.pulsar_calls.specs.Content.{heard, shown}
use Rattle.pulsar_client.specs.History.{step}
use Rattle.pulsar_acts.specs.Tables.{view_of}
use Rattle.pulsar_client.specs.Taken.{drawn_to, ended_in, held_but}
use Rattle.pulsar_machine.specs.Options.{Options}
use Rattle.pulsar_client.proofs.Counting.{ticket_is}
use Rattle.pulsar_client.proofs.Stepping.{dead_step, not_live}
use Rattle.pulsar_client.proofs.Taking.{drawn_more, held_on, held_still}
use Rattle.pulsar_client.proofs.pulsar.Pulsar.take.Goals as goal

pub returns-clause-ok : goal.returns-clause-ok
returns-clause-ok g c = λ o h taken s.
    let new = step c.args.event c.in_ok-out.out.items in
    let stands = c.in_ok-out.ensures.stands o h (ap (λ (x : Options). x.policies) s.made ∙ sym (ap (map _) (c.as_slice.ensures.value ∙ ap (λ x. x.policies.items) c.deref.ensures))) s.stands in
    record {
      made = s.made;
      stands = stands;
      answers = λ t.
          c.in_ok-note.ensures t
          ∙ (λ i. ended_in (map shown (c.deref-2.ensures.value i)) t
          (drawn_to (ticket_is c.args.self.now.tables s.stands i) (ticket_is c.step.new.tables stands i) t (s.answers t i)))
          ∙ held_on taken t new h (s.drawn t);
      drawn = λ t k. drawn_more t new h (s.drawn t k);
      whole = refl;
    }

pub returns-then-not-is_live-clause-ok : goal.returns-then-not-is_live-clause-ok
returns-then-not-is_live-clause-ok g c = λ o h taken s.
    let e = heard c.args.event in
    let dead = sym c.is_live.ensures ∙ c.if-not-is_live.true in
    let stands = dead_step c.args.self.now.tables e dead s.stands in
    record {
      made = s.made;
      stands = rw c.new.ensures.items stands;
      answers = λ t.
          s.answers t
          ∙ held_still taken t (view_of c.args.self.now.tables) e h dead
          ∙ sym (ap (λ es. held_but taken t (step c.args.event es ∷ h)) c.new.ensures.items);
      drawn = λ t k. drawn_more t (step c.args.event c.new.result.items) h (s.drawn t k);
      whole = s.whole;
    }

pub returns-clause-dead : goal.returns-clause-dead
returns-clause-dead g c = λ d.
    let no : true ≡ false = sym (sym c.is_live.ensures ∙ c.if-not-is_live.false) ∙ not_live c.args.self.now.tables (heard c.args.event) d.3.stands d.4 in
    absurd cc

pub returns-in_err-out-clause-dead : goal.returns-in_err-out-clause-dead
returns-in_err-out-clause-dead g c = λ d.
    let no : true ≡ false = sym (sym c.is_live.ensures ∙ c.if-not-is_live.false) ∙ not_live c.args.self.now.tables (heard c.args.event) d.3.stands d.4 in
    absurd cc

pub returns-in_err-note-clause-dead : goal.returns-in_err-note-clause-dead
returns-in_err-note-clause-dead g c = λ d.
    let no : true ≡ false = sym (sym c.is_live.ensures ∙ c.if-not-is_live.false) ∙ not_live c.args.self.now.tables (heard c.args.event) d.3.stands d.4 in
    absurd cc
