-- The small runs are good, by computing.
use Rattle.std.proofs.Common.{refl, reverse}
use Rattle.std.specs.Str.{is_utf8, chars}
use Rattle.std.specs.Char.{encode_utf8}
use Rattle.std.specs.Fmt.{digits}
use Rattle.pulsar_wire.specs.Field.{bytes_at, fields, fields_within, field_at, value_at, varint_within}
use Rattle.pulsar_wire.specs.Row.{reading, value, spelling, varint_in, varints, varints_within}
use Rattle.pulsar_wire.specs.Command.{command_reading, some_body}
use Rattle.pulsar_frame.specs.Batch.{batch_bytes, entry_bytes}
use Rattle.pulsar_frame.specs.Checksum.{after_bit, after_byte, crc32c}
use Rattle.pulsar_frame.specs.Payload.{covered_bytes, payload_at, payload_bytes}
use Rattle.pulsar_frame.specs.Sized.{sized_at, with_size}
use Rattle.pulsar_frame.specs.Tail.{tail_at}
use Rattle.pulsar_frame.specs.Key.{key}
use Rattle.pulsar_frame.specs.Frame.{content, counted_bytes, front, frame_bytes}
use Rattle.url.proofs.OnLiterals.{url_on_literals}
use Rattle.pulsar_searches.specs.Plans.{mentions}
use Rattle.pulsar_searches.specs.Replies.{count_in, place_heard}
use Rattle.pulsar_laws.specs.Traces.{IsGood, LocalIsKnown, attempt_fails, attempt_is_retried, batch_is_sent, client_is_stopped, consumer_is_polled, deadline_comes, line_moves_up, lookup_is_redirected, message_is_sent, options, reply_comes_early, request_is_answered}
use Rattle.pulsar_laws.proofs.Driving.{computed}

pub answered_good : IsGood 8 request_is_answered
unfolding front content counted_bytes frame_bytes sized_at with_size bytes_at command_reading fields fields_within field_at value_at varint_within some_body
    reading value spelling varint_in key is_utf8 chars encode_utf8 digits
answered_good = computed (options 8) 20 (reverse request_is_answered) refl

pub early_good : IsGood 8 reply_comes_early
unfolding front content counted_bytes frame_bytes sized_at with_size bytes_at command_reading fields fields_within field_at value_at varint_within some_body
    reading value spelling varint_in key is_utf8 chars encode_utf8 digits
early_good = computed (options 8) 20 (reverse reply_comes_early) refl

pub failed_good : IsGood 8 attempt_fails
unfolding front content counted_bytes frame_bytes sized_at with_size bytes_at command_reading fields fields_within field_at value_at varint_within some_body
    reading value spelling varint_in key is_utf8 chars encode_utf8 digits
failed_good = computed (options 8) 20 (reverse attempt_fails) refl

pub polled_good : IsGood 8 consumer_is_polled
unfolding front content counted_bytes frame_bytes sized_at with_size bytes_at command_reading fields fields_within field_at value_at varint_within some_body
    reading value spelling varint_in key is_utf8 chars encode_utf8 digits payload_at tail_at crc32c after_byte after_bit varints varints_within
polled_good = computed (options 8) 20 (reverse consumer_is_polled) refl

pub deadline_good : IsGood 8 deadline_comes
unfolding front content counted_bytes frame_bytes sized_at with_size bytes_at command_reading fields fields_within field_at value_at varint_within some_body
    reading value spelling varint_in key is_utf8 chars encode_utf8 digits
deadline_good = computed (options 8) 20 (reverse deadline_comes) refl

pub line_good : IsGood 1 line_moves_up
unfolding front content counted_bytes frame_bytes sized_at with_size bytes_at command_reading fields fields_within field_at value_at varint_within some_body
    reading value spelling varint_in key is_utf8 chars encode_utf8 digits
line_good = computed (options 1) 20 (reverse line_moves_up) refl

pub stopped_good : IsGood 8 client_is_stopped
unfolding front content counted_bytes frame_bytes sized_at with_size bytes_at command_reading fields fields_within field_at value_at varint_within some_body
    reading value spelling varint_in key is_utf8 chars encode_utf8 digits
stopped_good = computed (options 8) 20 (reverse client_is_stopped) refl

pub retried_good : IsGood 8 attempt_is_retried
unfolding front content counted_bytes frame_bytes sized_at with_size bytes_at command_reading fields fields_within field_at value_at varint_within some_body
    reading value spelling varint_in key is_utf8 chars encode_utf8 digits
retried_good = computed (options 8) 20 (reverse attempt_is_retried) refl

pub redirected_good : IsGood 8 lookup_is_redirected
unfolding front content counted_bytes frame_bytes sized_at with_size bytes_at command_reading fields fields_within field_at value_at varint_within some_body
    reading value spelling varint_in key is_utf8 chars encode_utf8 digits place_heard url_on_literals
redirected_good = computed (options 8) 20 (reverse lookup_is_redirected) refl

pub sent_good : IsGood 8 message_is_sent
unfolding front content counted_bytes frame_bytes sized_at with_size bytes_at command_reading fields fields_within field_at value_at varint_within some_body
    reading value spelling varint_in key is_utf8 chars encode_utf8 digits payload_bytes covered_bytes crc32c after_byte after_bit mentions count_in place_heard
    url_on_literals
sent_good = computed (options 8) 20 (reverse message_is_sent) refl

pub batched_good : IsGood 8 batch_is_sent
unfolding front content counted_bytes frame_bytes sized_at with_size bytes_at command_reading fields fields_within field_at value_at varint_within some_body
    reading value spelling varint_in key is_utf8 chars encode_utf8 digits payload_bytes covered_bytes crc32c after_byte after_bit mentions count_in place_heard
    url_on_literals batch_bytes entry_bytes
batched_good = computed (options 8) 30 (reverse batch_is_sent) refl

-- and their address is that of a URL
pub local_known : LocalIsKnown
unfolding url_on_literals
local_known = refl
