use Rattle.std.proofs.Common.{◌∙◌, ap}
use Rattle.rand_core.specs.Steps.{stream_of}
use Rattle.rand_core.specs.Stream.{fill_bytes}
use Rattle.rand_pcg.specs.Lcg.{Lcg}
use Rattle.rand_pcg.specs.Pcg.{pcg32}
use Rattle.rand_core.specs.Steps.{fill_via_u32}
use Rattle.uuid.specs.Parts.{with_variant, with_version}
use Rattle.uuid.specs.declared.Variant.TheVariants.{RFC4122}
use Rattle.uuid.specs.declared.Version.TheVariants.{Random}
use Rattle.std.specs.Prelude.{ℕ, List}
use Rattle.pulsar_addresses.proofs.random.connection_id.Goals as goal

abbrev marked : Lcg → List ℕ
marked g = with_version (with_variant (fill_via_u32 pcg32 16 g).0 RFC4122) Random

pub returns : goal.returns
unfolding stream_of fill_bytes
returns c = ap (λ p. p.0) c.new_v4.ensures.drawn ∙ ap marked c.new-stream.ensures
