use mathlib.Core.Logic.{◌⊎◌, inl, inr}
use denote.Exit.{no}
use denote.Param.Object.{Vt, ghosts_of}
use denote.Param.Send.{arg_send, param_send, sendable}
use denote.Param.Sent.{code_send}
use Rattle.pulsar_client.specs.contracts.machine.PulsarMachine.new.dyn-1.{slots}
use Rattle.pulsar_shared_tests.proofs.Sent.{client-Pulsar-send}
use Rattle.pulsar_shared_tests.proofs.gates.both_links_are_served_at_once.OwnLists.{own-1, lawful-own-1}
use Rattle.pulsar_shared_tests.proofs.gates.both_links_are_served_at_once.Goals as goal

-- no policy is boxed here
never : ⊥ ⊎ (⊥ ⊎ (⊥ ⊎ ⊥)) → ⊥
never (inl i) = i
never (inr (inl i)) = i
never (inr (inr (inl i))) = i
never (inr (inr (inr i))) = i

pub serve_two-requires-send-C : goal.serve_two-requires-send-C
serve_two-requires-send-C g c κs =
    param_send 0 _ (arg_send _ no _ (client-Pulsar-send (Vt slots own-1) (ghosts_of slots own-1 lawful-own-1) (λ i. absurd (never i)) (search (code_send, sendable) depth 20)))
