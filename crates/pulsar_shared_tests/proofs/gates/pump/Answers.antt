use denote.Builtin.{u64}
use denote.Exit.{no}
use denote.Param.{param}
use denote.Param.Send.{IsSend, IsSync, arg_send, param_send, shr_send, sendable}
use denote.Param.SendFields.{as_row_send, declared_send}
use denote.Ref.{ShrRef}
use denote.Struct.Field.{row_field}
use denote.Struct.Tuple.{type_at}
use Rattle.std.proofs.Common.{[], ◌∷◌}
use Rattle.std.proofs.Crossing as heap
use Rattle.std.proofs.sync.atomic.AtomicU64.TheSendSync as atomic
use Rattle.std.specs.contracts.alloc.Global as Global
use Rattle.std.specs.contracts.sync.atomic.AtomicU64 as AtomicU64
use Rattle.pulsar_shared.proofs.shared.Pass.TheSendSync as pass
use Rattle.pulsar_shared.specs.contracts.shared.Pass as Pass
use Rattle.pulsar_shared.specs.contracts.shared.Shared as Shared
use Rattle.pulsar_shared_tests.proofs.Shares.{shared_sync}
use Rattle.pulsar_shared_tests.proofs.gates.pump.Goals as goal

-- what the closure captures may go to a thread
pub join-requires-send-F : goal.join-requires-send-F
join-requires-send-F g c κs within =
    let client : IsSync (Shared.the_row (param 0 g.row.L) (param 1 g.row.C) (param 3 g.row.C-Boxed) (param 4 g.row.C-Options) g.L.Opening g.C.Machine g.L.Ledger) = search (shared_sync, c.type_bounds.send-C) depth 10 in
    let passed : IsSend (Pass.the_row (param 0 g.row.L) g.L.Opening g.L.Ledger) = search (pass.the_send, c.type_bounds.send-L) depth 10 in
    let counts : IsSync u64 = search sendable in
    param_send 1 _ (arg_send _ no _ (declared_send (type_at _ (ShrRef _ _ (param 2 g.row.R) ∷ ShrRef _ _ Global.the_row ∷ ShrRef _ _ (Shared.the_row (param 0 g.row.L) (param 1 g.row.C) (param 3 g.row.C-Boxed) (param 4 g.row.C-Options) g.L.Opening g.C.Machine g.L.Ledger) ∷ Pass.the_row (param 0 g.row.L) g.L.Opening g.L.Ledger ∷ ShrRef _ _ u64 ∷ ShrRef _ _ AtomicU64.the_row ∷ []))
    (as_row_send (row_field _) (shr_send _ _ _ c.type_bounds.sync-R), (as_row_send (row_field _) (shr_send _ _ _ heap.sync), (as_row_send (row_field _) (shr_send _ _ _ client), (as_row_send (row_field _) passed, (as_row_send (row_field _) (shr_send _ _ _ counts), (as_row_send (row_field _) (shr_send _ _ _ atomic.the_sync), tt))))))))
