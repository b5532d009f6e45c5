use Rattle.std.proofs.Common.{subst, sym}
use Rattle.std.specs.List.Sorted.{IsStrictlySortedBy}
use Rattle.std.specs.Ordering.{nat_cmp}
use Rattle.pulsar_consumer.specs.Topic.{Asks}
use Rattle.pulsar_consumer_table.specs.Consumers.{lives_at, member_after}
use Rattle.pulsar_consumer_table.specs.KeptConsumers.{is_known, rows_in}
use Rattle.pulsar_consumer_table.proofs.Placed.{one_placed}
use Rattle.pulsar_consumer_table.proofs.Staying.{asks_known, asks_living}
use Rattle.pulsar_consumer_table.proofs.table.Consumers.take_flow.Goals as goal

pub invariant_of-self : goal.invariant_of-self
invariant_of-self c =
    let cs = c.args.self.now in
    let done = c.take_flow_at-flow.ensures in
    record {
      ordered = λ whole. subst (IsStrictlySortedBy nat_cmp) (sym done.tickets) (cs.ordered c.if-self.false);
      listed = λ whole. one_placed is_known cs.listing (rows_in cs.rows) (cs.listed c.if-self.false) c.args.ticket (member_after Asks) (rows_in c.take_flow_at-flow.new.rows)
          asks_known done.rows;
      lives = λ whole. one_placed lives_at cs.heard (rows_in cs.rows) (cs.lives c.if-self.false) c.args.ticket (member_after Asks) (rows_in c.take_flow_at-flow.new.rows)
          asks_living done.rows;
    }
