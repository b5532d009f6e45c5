use Rattle.std.proofs.Common.{◌∙◌, ap, refl, sym, []}
use Rattle.std.specs.Option.{option_or}
use Rattle.std.specs.Prelude.{unwrap_or}
use Rattle.pulsar_laws.proofs.words.frames_say_their_messages.Goals as goal

pub returns-clause-metadata : goal.returns-clause-metadata
returns-clause-metadata c = λ now sequence name m. refl

pub returns-clause-version : goal.returns-clause-version
returns-clause-version c = λ version m. (
  λ own h. (λ i. record m { schema_version = (ap (λ v. option_or v version) h ∙ sym h) i }),
  λ h. (λ i. record m { schema_version = option_or (h i) version }),
)

pub returns-clause-given : goal.returns-clause-given
returns-clause-given c = λ r. (λ name h. ap (λ x. unwrap_or x []) h, refl)
