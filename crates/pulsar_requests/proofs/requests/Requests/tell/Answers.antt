use Rattle.std.proofs.Common.{◌+◌}
use Rattle.pulsar_wire.specs.Sink.{capped}
use Rattle.pulsar_requests.specs.Kept.{all_pending}
use Rattle.pulsar_requests.proofs.Pendings.{capped_later, up_to_later}
use Rattle.pulsar_requests.proofs.requests.Requests.tell.Goals as goal

pub invariant_of-self : goal.invariant_of-self
invariant_of-self c =
    let i = c.self.inside in
    record {
      fresh = c.self.invariant.fresh;
      indexed = c.self.invariant.indexed;
      ascends = c.self.invariant.ascends;
      so_far = up_to_later (capped (i.clock + i.timeout)) (capped (c.later_of-self-inside.result + i.timeout)) (all_pending i.waiters.entries)
          (rw c.later_of-self-inside.ensures (capped_later i.clock c.args.now i.timeout)) c.self.invariant.so_far;
      ordered = c.self.invariant.ordered;
      are_timed = c.self.invariant.are_timed;
    }
