-- What is drawn for a producer.
use Rattle.std.specs.Prelude.{ℕ, ◌+◌, ◌*◌, ◌^◌, ◌%◌, ◌==◌, if◌then◌else◌}
use Rattle.rand_pcg.specs.Pcg.{pcg32}
use Rattle.pulsar_addresses.specs.Backoff.{generator}

-- a producer draws from the stream of four times its ticket and three
abbrev pub stream_of_producer : (ticket : ℕ) → ℕ
stream_of_producer ticket = (ticket * 4 % 2 ^ 64 + 3) % 2 ^ 64

-- the first word of its stream, of so many values
abbrev pub first_index : (seed ticket count : ℕ) → ℕ
first_index seed ticket count = if count == 0 then 0 else (pcg32 (generator seed (stream_of_producer ticket))).0 % count
