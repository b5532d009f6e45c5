-- What is written is never refused.
use Rattle.std.proofs.Common.{◌≡◌, Option, Some, Result, Ok, Err, MatchResult, refl, sym, ◌∙◌}
use Rattle.pulsar_wire.specs.declared.error.ConnectionError.{ConnectionError}
use Rattle.pulsar_wire.specs.declared.error.ConnectionError.TheVariants.{Decoding, NoMemory}
use Rattle.pulsar_wire.specs.declared.error.Reason.TheVariants.{Message}
use Rattle.pulsar_wire.specs.Refused.{IsRefusal, Decodes}
use Rattle.pulsar_wire.proofs.Fields.{some_is}

only_memory : {Y : Type 0} (e : ConnectionError) (meaning : Option Y) (y : Y) → meaning ≡ Some y → IsRefusal e meaning → e ≡ NoMemory
only_memory (Decoding Message) meaning y is none = absurd (let both = sym none ∙ is in cc)
only_memory NoMemory meaning y is h = refl
only_memory _ meaning y is h = absurd h

pub comes_back : {X Y : Type 0} (seen : X → Y) (r : Result X ConnectionError) (meaning : Option Y) (y : Y) → meaning ≡ Some y → Decodes seen r meaning → MatchResult r (λ x. seen x ≡ y) (λ e. e ≡ NoMemory)
comes_back seen (Ok x) meaning y is h = some_is (seen x) y (sym h ∙ is)
comes_back seen (Err e) meaning y is h = only_memory e meaning y is h
