-- A shared client may be called from any thread, where the client itself may go to another.
use denote.RattleType.{RattleType}
use denote.Param.Send.{IsSend, IsSync, sendable}
use denote.Param.SendFields.{as_row_send, as_row_sync, declared_send, declared_sync}
use denote.Struct.Field.{row_field}
use denote.Struct.Tuple.{Tuple, tuple_type}
use Rattle.std.proofs.Common.{[], ◌∷◌}
use Rattle.std.specs.contracts.vec.Vec as Vec
use Rattle.std.specs.contracts.alloc.Global as Global
use Rattle.std.specs.contracts.impls.GlobalAllocator.TheImpl.{ghosts}
use Rattle.pulsar_calls.specs.contracts.event.Event as event-row
use Rattle.pulsar_calls.specs.contracts.effect.Effect as effect-row
use Rattle.std.proofs.Crossing as heap
use Rattle.std.proofs.sync.ledger.Book.TheSendSync as book
use Rattle.std.specs.declared.sync.ledger.Ledger as ledger
use Rattle.pulsar_calls.proofs.event.Event.TheSendSync as event
use Rattle.pulsar_machine.specs.declared.Machine as machine
use Rattle.pulsar_shared.specs.declared.shared.Opening as opening
use Rattle.pulsar_shared.specs.contracts.shared.Desk as desk
use Rattle.pulsar_shared.specs.contracts.shared.Shared as shared
use Rattle.pulsar_shared.specs.contracts.traced.Traced as traced
use Rattle.pulsar_shared_tests.proofs.Sent.{calls-Effect-send}

module _ (C B O : RattleType) (m : machine.Ghosts C.Denot B.Denot O.Denot) (s : IsSend C) where
  entry_send : IsSend (Vec.the_row (Tuple (event-row.the_row ∷ Vec.the_row effect-row.the_row Global.the_row ghosts ∷ [])) Global.the_row ghosts)
  entry_send =
      let effects : IsSend (Vec.the_row effect-row.the_row Global.the_row ghosts) = heap.Vec-send _ calls-Effect-send in
      heap.Vec-send _ (declared_send (tuple_type (event-row.the_row ∷ Vec.the_row effect-row.the_row Global.the_row ghosts ∷ [])) (as_row_send (row_field _) event.the_send, (as_row_send (row_field _) effects, tt)))

  pub traced_send : IsSend (traced.the_row C B O m)
  traced_send =
      declared_send (traced.the_type C B O m) (search (s, as_row_send, sendable) depth 10, (entry_send, (search (as_row_send, sendable) depth 10, (search (as_row_send, heap.send, sendable) depth 10, tt))))

  module _ (L : RattleType) (o : opening.Ghosts L.Denot) (l : ledger.Ghosts L.Denot) where
    pub desk_send : IsSend (desk.the_row L C B O o m l)
    desk_send = declared_send (desk.the_type L C B O o m l) (search (as_row_send, traced_send, book.the_send, sendable) depth 20 fits 20000)

    pub shared_sync : IsSync (shared.the_row L C B O o m l)
    shared_sync = declared_sync (shared.the_type L C B O o m l) (search (as_row_sync, desk_send, heap.crosses, sendable) depth 20 fits 20000)
