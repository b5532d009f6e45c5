use Rattle.std.proofs.Common.{arith, ◌≡◌, ◌+◌, ◌++◌, ◌∙◌, ap, List, [], ℕ, length}
use Rattle.std.proofs.lemmas.Bool.Decides.{nat_tests}
use Rattle.pulsar_frame.specs.Frame.{cut, left}
use Rattle.std.specs.List.{sum_by}
use Rattle.pulsar_speed.specs.Tallies.{number_in}
use Rattle.pulsar_speed.proofs.Blocks.{is_nothing, parted, fed, left-settled, settled_has_none}
use Rattle.pulsar_speed.proofs.decoding.read_block.Goals as goal

pub loop-rest-preserved : goal.loop-rest-preserved
loop-rest-preserved c =
    let held = c.loop-rest.reader in
    let piece = c.split_at.result.0.now in
    let f = fed held c.loop-rest.rest.now piece c.split_at.result.1.now (parted _ _ _ _ c.split_at.ensures.front c.split_at.ensures.back) in
    let joined : c.feed.new.self ≡ held ++ piece = c.in_ok-feed.ensures.ok in
    let r : c.take_frames.new.reader ≡ left (held ++ piece) = c.in_ok-take_frames.ensures.rest ∙ ap left joined in
    let count : c.take_frames.new.tally.count ≡ c.loop-rest.tally.count + length (cut (held ++ piece)) = c.in_ok-take_frames.ensures.counts.0 ∙ ap (λ (t : List ℕ). c.loop-rest.tally.count + length (cut t)) joined in
    let sum : c.take_frames.new.tally.sum ≡ c.loop-rest.tally.sum + sum_by number_in (cut (held ++ piece)) = c.in_ok-take_frames.ensures.counts.1 ∙ ap (λ (t : List ℕ). c.loop-rest.tally.sum + sum_by number_in (cut t)) joined in
    record {
      settled = rw r (left-settled (held ++ piece));
      rest = rw r f.left_over ∙ c.loop-rest.invariant.rest;
      count = rw r (omega (arith, f.frames, count, c.loop-rest.invariant.count));
      sum = rw r (omega (arith, f.numbers, sum, c.loop-rest.invariant.sum));
      bytes = c.in_ok-take_frames.ensures.bytes ∙ c.loop-rest.invariant.bytes;
    }

pub returns-clause-counts : goal.returns-clause-counts
returns-clause-counts c =
    let size : length c.loop-rest.rest.now ≡ 0 = grind (arith, nat_tests, c.is_empty.ensures, c.loop-rest-test.false) in
    let nothing : c.loop-rest.rest.now ≡ [] = is_nothing _ size in
    let none = settled_has_none c.loop-rest.reader c.loop-rest.rest.now c.loop-rest.invariant.settled nothing in
    (omega (arith, none.0, c.loop-rest.invariant.count), omega (arith, none.1, c.loop-rest.invariant.sum))
