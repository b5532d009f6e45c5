-- How a client without policies begins.
use Rattle.std.proofs.Common.{◌≡◌, ◌∙◌, ap, subst, List, [], map}
use Rattle.std.specs.declared.dyn_box.DynBox.{DynBox}
use Rattle.std.specs.declared.alloc.Global.{Global}
use Rattle.pulsar_producer.specs.Routing.{Policy}
use Rattle.pulsar_machine.specs.Options.{Chosen, Options}
use Rattle.pulsar_client.specs.Client.{StandsFor}
use Rattle.pulsar_client.specs.declared.pulsar.Pulsar.{Pulsar}
use Rattle.pulsar_cli.specs.Script.{default_choice, defaults}

chosen-none : {A : Type 0} (f : A → Policy) (xs : List A) (ch : Chosen) → ch ≡ default_choice → xs ≡ [] → record { chosen = ch; policies = map f xs } ≡ defaults []
chosen-none f xs ch chose none = ap (λ (x : Chosen). record { chosen = x; policies = map f xs }) chose ∙ ap (λ (ys : List _). record { chosen = default_choice; policies = map f ys }) none

-- no option is set, and there is no policy
pub none-set : {A : Type 0} (f : A → Policy) (xs : List A) (ch : Chosen) {o : Options} → o ≡ record { chosen = ch; policies = map f xs } → ch ≡ default_choice → xs ≡ [] → o ≡ defaults []
none-set f xs ch is chose none = is ∙ chosen-none f xs ch chose none

-- it stands for the same with other words for its options
pub in-words : {X : Type 0} {d : X → Type 0} (routes : DynBox X Global d → Policy) (c : Pulsar X d) {o o' : Options} → o ≡ o' → StandsFor routes o c [] [] → StandsFor routes o' c [] []
in-words routes c same stands = subst (λ (x : Options). StandsFor routes x c [] []) same stands
