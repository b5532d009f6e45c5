use Rattle.std.proofs.Common.{◌≡◌, ◌==◌, ◌∙◌, ℕ, ap, refl, subst, sym}
use Rattle.std.specs.List.Sorted.{IsStrictlySortedBy}
use Rattle.std.specs.Ordering.{nat_cmp}
use Rattle.pulsar_calls.specs.declared.act.Word.TheVariants.{Lost}
use Rattle.pulsar_consumer.specs.Topic.{Loses, resubscribes}
use Rattle.pulsar_consumer_table.specs.Consumers.{lives_at, member_after, number_at, word_if}
use Rattle.pulsar_consumer_table.specs.KeptConsumers.{is_known, rows_in}
use Rattle.pulsar_calls.specs.Places.{is_listed}
use Rattle.pulsar_consumer_table.specs.Notices.{word_to}
use Rattle.pulsar_consumer_table.proofs.Finding.{found_change, found_give}
use Rattle.pulsar_consumer_table.proofs.Heard.{consumers_are, lost_by, none_lost}
use Rattle.pulsar_consumer_table.proofs.Living.{ended_heard, found_living}
use Rattle.pulsar_consumer_table.proofs.Numbered.{act_holds, number_kept, own_number, same_number}
use Rattle.pulsar_consumer_table.proofs.Placed.{some_placed}
use Rattle.pulsar_consumer_table.proofs.table.Consumers.end.Goals as goal

pub invariant_of-self-2 : goal.invariant_of-self-2
invariant_of-self-2 c =
    let cs = c.args.self.now in
    let l = c.args.link in
    let ts = c.deref.result.now in
    let found = found_living l cs.heard (rows_in cs.rows) (cs.lives c.if-self.false) ts (c.deref.ensures.value ∙ c.in_ok-tickets.ensures.tickets) in
    let f = member_after (Loses l) in
    let after = rows_in c.lose_all.new.rows in
    let number : (t : ℕ) → number_at (after t) ≡ number_at (rows_in cs.rows t) = λ t.
    ap number_at (c.in_ok-notices.ensures.rows t) ∙ number_kept f (λ m. same_number (Loses l) m.seen) (is_listed t ts) (rows_in cs.rows t) in
    record {
      ordered = λ whole. subst (IsStrictlySortedBy nat_cmp) (sym c.in_ok-notices.ensures.tickets) (cs.ordered c.if-self.false);
      listed = λ whole. some_placed is_known cs.listing (rows_in cs.rows) (cs.listed c.if-self.false) c.prune_each.new.listing ts c.deref-2.result.now (c.deref-2.ensures.value ∙ sym c.deref.ensures.value) (λ t. number_at (after t)) f
          after (act_holds (Loses l)) c.in_ok-notices.ensures.rows (λ t n h known. ap (λ k. n == k) (number t) ∙ own_number n (rows_in cs.rows t) known) c.in_ok-prune_each.ensures;
      lives = λ whole. ended_heard cs.heard (rows_in cs.rows) (cs.lives c.if-self.false) c.remove.new.self l (rows_in c.lose_all.new.rows)
          (found_change cs.rows (lives_at l) ts found (member_after (Loses l)) (member_after (Loses l)) (rows_in c.lose_all.new.rows) (lost_by l) c.in_ok-notices.ensures.rows)
          c.remove.ensures.updates.0;
    }

pub returns-clause-notices : goal.returns-clause-notices
returns-clause-notices c =
    let cs = c.args.self.now in
    let l = c.args.link in
    let ts = c.deref.result.now in
    let found = found_living l cs.heard (rows_in cs.rows) (cs.lives c.if-self.false) ts (c.deref.ensures.value ∙ c.in_ok-tickets.ensures.tickets) in
    c.in_ok-notices.ensures.notices
    ∙ found_give cs.rows (lives_at l) ts found (λ t m. word_to t m (word_if (resubscribes l m.seen) Lost)) (λ t m. word_to t m (word_if (resubscribes l m.seen) Lost))
    (subst (IsStrictlySortedBy nat_cmp) (sym c.deref.ensures.value) c.in_ok-tickets.ensures.sorted) (cs.ordered c.if-self.false) (none_lost l) (λ t m h. refl)

pub returns-clause-after : goal.returns-clause-after
returns-clause-after c =
    let cs = c.args.self.now in
    let l = c.args.link in
    let ts = c.deref.result.now in
    let found = found_living l cs.heard (rows_in cs.rows) (cs.lives c.if-self.false) ts (c.deref.ensures.value ∙ c.in_ok-tickets.ensures.tickets) in
    consumers_are _ _
    (found_change cs.rows (lives_at l) ts found (member_after (Loses l)) (member_after (Loses l)) (rows_in c.lose_all.new.rows) (lost_by l) c.in_ok-notices.ensures.rows)
    c.in_ok-notices.ensures.tickets refl refl refl refl
