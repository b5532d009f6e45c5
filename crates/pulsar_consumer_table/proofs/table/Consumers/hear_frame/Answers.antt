use Rattle.std.proofs.Common.{◌∙◌, refl, subst, sym}
use Rattle.std.specs.List.Sorted.{IsStrictlySortedBy}
use Rattle.std.specs.Ordering.{nat_cmp}
use Rattle.pulsar_calls.specs.declared.act.Arrival.TheVariants.{Gives}
use Rattle.pulsar_consumer_table.specs.Consumers.{hears, hears_frame, lives_at, lives_with, word_of_frame}
use Rattle.pulsar_consumer_table.specs.KeptConsumers.{is_known, rows_in}
use Rattle.pulsar_consumer_table.specs.Notices.{heard_at, word_to}
use Rattle.pulsar_consumer_table.proofs.Finding.{found_change, found_give, living_found}
use Rattle.pulsar_consumer_table.proofs.Heard.{consumers_are, heard_by, none_told, same_told}
use Rattle.pulsar_consumer_table.proofs.Living.{frame_lifeless, living_place}
use Rattle.pulsar_consumer_table.proofs.Numbered.{frame_holds, known_place}
use Rattle.pulsar_consumer_table.proofs.Placed.{some_placed}
use Rattle.pulsar_consumer_table.proofs.table.Consumers.hear_frame.Goals as goal

pub invariant_of-self-2 : goal.invariant_of-self-2
invariant_of-self-2 c =
    let cs = c.args.self.now in
    let n = c.args.number in
    let l = c.args.link in
    let ts = c.deref.result.now in
    let found = living_found n l cs.listing (rows_in cs.rows) (cs.listed c.if-self.false) ts (c.deref.ensures.value ∙ c.in_ok-tickets.ensures.tickets) in
    record {
      ordered = λ whole. subst (IsStrictlySortedBy nat_cmp) (sym c.in_ok-notices.ensures.tickets) (cs.ordered c.if-self.false);
      listed = λ whole. some_placed is_known cs.listing (rows_in cs.rows) (cs.listed c.if-self.false) c.prune_all.new.listing ts c.deref-2.result.now (c.deref-2.ensures.value ∙ sym c.deref.ensures.value) (λ t. n) (hears_frame l c.args.reply)
          (rows_in c.hear_all.new.rows) (frame_holds l c.args.reply) c.in_ok-notices.ensures.rows (λ t k h. known_place k n l (rows_in cs.rows t) (sym (found t) ∙ h)) c.in_ok-prune_all.ensures;
      lives = λ whole. some_placed lives_at cs.heard (rows_in cs.rows) (cs.lives c.if-self.false) c.leave_all.new.heard ts c.deref-3.result.now (c.deref-3.ensures.value ∙ sym c.deref.ensures.value) (λ t. l) (hears_frame l c.args.reply)
          (rows_in c.hear_all.new.rows) (frame_lifeless l c.args.reply) c.in_ok-notices.ensures.rows (λ t k h. living_place k n l (rows_in cs.rows t) (sym (found t) ∙ h)) c.in_ok-leave_all.ensures;
    }

pub returns-clause-notices : goal.returns-clause-notices
returns-clause-notices c =
    let cs = c.args.self.now in
    let n = c.args.number in
    let l = c.args.link in
    let r = c.args.reply in
    let ts = c.deref.result.now in
    let found = living_found n l cs.listing (rows_in cs.rows) (cs.listed c.if-self.false) ts (c.deref.ensures.value ∙ c.in_ok-tickets.ensures.tickets) in
    c.in_ok-notices.ensures.notices
    ∙ found_give cs.rows (lives_with n l) ts found (heard_at l (Gives n r)) (λ t m. word_to t m (word_of_frame l r m)) (subst (IsStrictlySortedBy nat_cmp) (sym c.deref.ensures.value) c.in_ok-tickets.ensures.sorted)
    (cs.ordered c.if-self.false) (none_told n l r) (same_told n l r)

pub returns-clause-after : goal.returns-clause-after
returns-clause-after c =
    let cs = c.args.self.now in
    let n = c.args.number in
    let l = c.args.link in
    let r = c.args.reply in
    let ts = c.deref.result.now in
    let found = living_found n l cs.listing (rows_in cs.rows) (cs.listed c.if-self.false) ts (c.deref.ensures.value ∙ c.in_ok-tickets.ensures.tickets) in
    consumers_are _ _
    (found_change cs.rows (lives_with n l) ts found (hears l (Gives n r)) (hears_frame l r) (rows_in c.hear_all.new.rows) (heard_by n l r) c.in_ok-notices.ensures.rows)
    c.in_ok-notices.ensures.tickets refl refl refl refl
