use Rattle.std.proofs.Common.{subst, sym}
use Rattle.std.specs.List.Sorted.{IsStrictlySortedBy}
use Rattle.std.specs.Ordering.{nat_cmp}
use Rattle.pulsar_consumer_table.specs.Consumers.{lives_at, seeks}
use Rattle.pulsar_consumer_table.specs.KeptConsumers.{is_known, rows_in}
use Rattle.pulsar_consumer_table.proofs.Placed.{one_placed}
use Rattle.pulsar_consumer_table.proofs.Staying.{seeks_known, seeks_living}
use Rattle.pulsar_consumer_table.proofs.table.Consumers.seek.Goals as goal

pub invariant_of-self-2 : goal.invariant_of-self-2
invariant_of-self-2 c =
    let cs = c.args.self.now in
    record {
      ordered = λ whole. subst (IsStrictlySortedBy nat_cmp) (sym c.in_ok-found.ensures.tickets) (cs.ordered c.if-self.false);
      listed = λ whole. one_placed is_known cs.listing (rows_in cs.rows) (cs.listed c.if-self.false) c.args.ticket (seeks c.args.who) (rows_in c.seek_at.new.rows)
          (seeks_known c.args.who) c.in_ok-found.ensures.rows;
      lives = λ whole. one_placed lives_at cs.heard (rows_in cs.rows) (cs.lives c.if-self.false) c.args.ticket (seeks c.args.who) (rows_in c.seek_at.new.rows)
          (seeks_living c.args.who) c.in_ok-found.ensures.rows;
    }
