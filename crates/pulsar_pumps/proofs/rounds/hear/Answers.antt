use Rattle.std.proofs.Common.{refl, []}
use Rattle.pulsar_pumps.proofs.Ran.{in_none, piece_none, piece_some}
use Rattle.pulsar_pumps.proofs.rounds.hear.Goals as goal

pub returns-in-Err-submit_bytes-clause-ran : goal.returns-in-Err-submit_bytes-clause-ran
returns-in-Err-submit_bytes-clause-ran g c = (
  [],
  c.in-Ok-Some.piece.items,
  in_none _ _ _ c.in-Ok-Some.piece.items c.in-Err-submit_bytes.ensures.made c.in-Err-submit_bytes.ensures.told
      (piece_some _ _ 0 0 c.in-Ok-Some.field-0 c.in-Ok-Some.piece c.in-Ok-Some.field-0-is c.in-Ok-Some.ensures.piece) c.take_piece.ensures.grows,
)

pub returns-in-Err-submit_lost-clause-ran : goal.returns-in-Err-submit_lost-clause-ran
returns-in-Err-submit_lost-clause-ran g c = (
  [],
  [],
  in_none _ _ _ [] c.in-Err-submit_lost.ensures.made c.in-Err-submit_lost.ensures.told
      (piece_none _ _ 0 0 c.in-Ok-None.field-0 c.in-Ok-None.field-0-is c.in-Ok-None.ensures.piece) c.take_piece.ensures.grows,
)

pub returns-in-Err-clause-ran : goal.returns-in-Err-clause-ran
returns-in-Err-clause-ran g c = ([], c.in-Err.ensures.err.0, in_none _ _ _ c.in-Err.ensures.err.0 refl refl c.in-Err.ensures.err.1 c.take_piece.ensures.grows)
