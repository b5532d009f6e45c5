-- Taking the fields of bytes one by one, as a loop does.
use Rattle.std.proofs.Common.{◌≡◌, ℕ, ◌<◌, List, ◌∷◌, length, Option, Some, None, refl, ◌∙◌}
use Rattle.std.proofs.lemmas.List.{nil_from_length}
use Rattle.pulsar_wire.specs.Field.{◌>>=◌, Field, field_at, fields}
use Rattle.pulsar_wire.specs.Merge.{steps}
use Rattle.pulsar_wire.specs.Run.{run}
use Rattle.pulsar_wire.proofs.Fields.{bind_assoc, fields-nil, fields-next, fields-stop}

pub run-done : {X : Type 0} (step : X → Field → Option X) (x : X) (bytes : List ℕ) → length bytes ≡ 0 → run step x bytes ≡ Some x
unfolding run
run-done step x bytes e = rw (nil_from_length bytes e, fields-nil) refl

pub run-stop : {X : Type 0} (step : X → Field → Option X) (x : X) (bytes : List ℕ) → 0 < length bytes → field_at bytes ≡ None → run step x bytes ≡ None
unfolding run
run-stop step x bytes long e = rw (fields-stop bytes long e) refl

pub run-next : {X : Type 0} (step : X → Field → Option X) (x y : X) (bytes : List ℕ) (f : Field) (rest : List ℕ) → field_at bytes ≡ Some (f, rest) → step x f ≡ Some y → run step x bytes ≡ run step y rest
unfolding run
run-next step x y bytes f rest e taken = rw (fields-next bytes f rest e) (bind_assoc (fields rest) (λ fs. Some (f ∷ fs)) (λ fs. steps step x fs) ∙ rw taken refl)

refused : {X : Type 0} (step : X → Field → Option X) (x : X) (f : Field) (o : Option (List Field)) → step x f ≡ None → ((o >>= λ fs. Some (f ∷ fs)) >>= λ fs. steps step x fs) ≡ None
refused step x f None e = refl
refused step x f (Some fs) e = rw e refl

pub run-refused : {X : Type 0} (step : X → Field → Option X) (x : X) (bytes : List ℕ) (f : Field) (rest : List ℕ) → field_at bytes ≡ Some (f, rest) → step x f ≡ None → run step x bytes ≡ None
unfolding run
run-refused step x bytes f rest e none = rw (fields-next bytes f rest e) (refused step x f (fields rest) none)
