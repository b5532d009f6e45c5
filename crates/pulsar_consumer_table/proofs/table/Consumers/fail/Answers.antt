use Rattle.std.proofs.Common.{◌≡◌, ◌==◌, ◌∙◌, ℕ, ap, cond, false, subst, sym}
use Rattle.std.specs.List.Sorted.{IsStrictlySortedBy}
use Rattle.std.specs.Option.{option_map}
use Rattle.std.specs.Ordering.{nat_cmp}
use Rattle.pulsar_consumer_table.specs.Consumers.{failed, link_at, lives_at}
use Rattle.pulsar_consumer_table.specs.KeptConsumers.{is_known, known_at, rows_in}
use Rattle.pulsar_consumer_table.proofs.Living.{where_it_lives}
use Rattle.pulsar_consumer_table.proofs.Numbered.{known_by}
use Rattle.pulsar_consumer_table.proofs.Placed.{moved_placed}
use Rattle.pulsar_consumer_table.proofs.table.Consumers.fail.Goals as goal

pub invariant_of-self-2 : goal.invariant_of-self-2
invariant_of-self-2 c =
    let cs = c.args.self.now in
    let done = c.in_ok-notices.ensures in
    let after = rows_in c.fail_at.new.rows in
    let others : (t : ℕ) → (t == c.args.ticket) ≡ false → after t ≡ rows_in cs.rows t =
    λ t e. done.rows t ∙ ap (λ b. cond b (option_map (failed c.args.failure) (rows_in cs.rows t)) (rows_in cs.rows t)) e in
    record {
      ordered = λ whole. subst (IsStrictlySortedBy nat_cmp) (sym done.tickets) (cs.ordered c.if-self.false);
      listed = λ whole. moved_placed is_known cs.listing (rows_in cs.rows) (cs.listed c.if-self.false) known_at known_by c.relist.new.listing c.args.ticket after others
          c.known_number-number.result c.known_number-new_number.result c.known_number-number.ensures c.known_number-new_number.ensures c.in_ok-relist.ensures;
      lives = λ whole. moved_placed lives_at cs.heard (rows_in cs.rows) (cs.lives c.if-self.false) link_at where_it_lives c.relist-2.new.listing c.args.ticket after others
          c.link_of-link.result c.link_of-new_link.result c.link_of-link.ensures c.link_of-new_link.ensures c.in_ok-relist-2.ensures;
    }
