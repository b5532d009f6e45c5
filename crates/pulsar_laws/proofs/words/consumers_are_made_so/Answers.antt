use Rattle.std.proofs.Common.{◌≡◌, ◌∙◌, ap, refl, ℕ, Bool, true, false, cond, Option, None, Some}
use Rattle.pulsar_incoming.specs.Content.{ConfigValues}
use Rattle.pulsar_consumer.specs.Topic.{batch_size, queue_of}
use Rattle.pulsar_producer_table.specs.Producers.{recalled_at, recalled_by}
use Rattle.pulsar_laws.specs.WordLaws.{batch_said, queue_said}
use Rattle.pulsar_laws.proofs.words.consumers_are_made_so.Goals as goal

queue_is : (n : Option ℕ) → queue_of n ≡ queue_said n
queue_is None = refl
queue_is (Some n) = refl

batch_is : (b : Bool) (c : ConfigValues) → cond b None (Some (batch_size c)) ≡ batch_said b c
batch_is true c = refl
batch_is false c = refl

pub returns-clause-made : goal.returns-clause-made
returns-clause-made c = record {
  built = λ key j. refl;
  raw = λ s. (refl, refl, refl, refl, refl, refl, refl);
  sizes = λ s. (queue_is s.config.options.receiver_queue_size, batch_is s.is_raw s.config);
}

pub returns-clause-again : goal.returns-clause-again
returns-clause-again c = record {
  producers = λ ps n row p h g. ap (recalled_at ps) h ∙ ap (recalled_by row) g;
  consumers = λ m. refl;
}
