-- What a message gives, from its parts as the code has them.
use Rattle.std.proofs.Common.{◌≡◌, ℤ, ◌∙◌, ap, [], ◌∷◌, refl, cond, true, false, Some, None}
use Rattle.pulsar_wire.specs.Rows.{message_metadata}
use Rattle.pulsar_wire.specs.Views.{message_id_values, message_metadata_values}
use Rattle.pulsar_wire.specs.declared.commands.ids.MessageIdData.{MessageIdData}
use Rattle.pulsar_wire.specs.declared.commands.metadata.MessageMetadata.{MessageMetadata}
use Rattle.pulsar_wire.specs.declared.error.IoKind.TheVariants.{Other}
use Rattle.pulsar_frame.specs.Batch.{batch_items, num_messages_in_batch}
use Rattle.pulsar_frame.specs.Payload.{payload_values}
use Rattle.pulsar_frame.specs.declared.payload.Payload.{Payload}
use Rattle.pulsar_wire.specs.Failures.{OfConsumer, ConsumerIo}
use Rattle.pulsar_frame.specs.Items.{int32_in, is_compressed}
use Rattle.pulsar_consumer.specs.Items.{Item, Faulty, counted, given, items_of, opened}

compression_is : (m : MessageMetadata) → int32_in 8 message_metadata (message_metadata_values m) ≡ m.compression
unfolding message_metadata_values
compression_is m = refl

count_is : (m : MessageMetadata) → num_messages_in_batch (message_metadata_values m) ≡ m.num_messages_in_batch
unfolding message_metadata_values
count_is m = refl

-- the fault of a payload that is compressed
abbrev pub unreadable : Item
unreadable = Faulty (OfConsumer (ConsumerIo Other))

module _ (id : MessageIdData) (p : Payload) where
  by_kind : items_of (message_id_values id) (payload_values p)
      ≡ cond (is_compressed p.metadata.compression) (unreadable ∷ []) (counted p.metadata.num_messages_in_batch (message_id_values id) (payload_values p))
  by_kind =
      ap (λ c. cond (is_compressed c) (unreadable ∷ [])
      (counted (num_messages_in_batch (message_metadata_values p.metadata)) (message_id_values id) (payload_values p))) (compression_is p.metadata)
      ∙ ap (λ n. cond (is_compressed p.metadata.compression) (unreadable ∷ []) (counted n (message_id_values id) (payload_values p))) (count_is p.metadata)

  pub compressed : is_compressed p.metadata.compression ≡ true → items_of (message_id_values id) (payload_values p) ≡ unreadable ∷ []
  compressed h = by_kind ∙ ap (λ c. cond c (unreadable ∷ []) (counted p.metadata.num_messages_in_batch (message_id_values id) (payload_values p))) h

  plain : is_compressed p.metadata.compression ≡ false →
      items_of (message_id_values id) (payload_values p) ≡ counted p.metadata.num_messages_in_batch (message_id_values id) (payload_values p)
  plain h = by_kind ∙ ap (λ c. cond c (unreadable ∷ []) (counted p.metadata.num_messages_in_batch (message_id_values id) (payload_values p))) h

  pub batched : (n : ℤ) → is_compressed p.metadata.compression ≡ false → p.metadata.num_messages_in_batch ≡ Some n →
      items_of (message_id_values id) (payload_values p) ≡ opened (batch_items (message_id_values id) (payload_values p))
  batched n h is = plain h ∙ ap (λ c. counted c (message_id_values id) (payload_values p)) is

  pub single : is_compressed p.metadata.compression ≡ false → p.metadata.num_messages_in_batch ≡ None →
      items_of (message_id_values id) (payload_values p) ≡ given (message_id_values id, payload_values p) ∷ []
  single h is = plain h ∙ ap (λ c. counted c (message_id_values id) (payload_values p)) is
