-- A payload that was written is read again.
use Rattle.std.proofs.Common.{◌≡◌, ◌≢◌, ℕ, ◌+◌, ◌^◌, ◌<◌, List, [], ◌∷◌, ◌++◌, length, Option, Some, None, Ok, refl, length-append, eq-eqb, arith}
use Rattle.std.specs.Int.{w16, w32, to_be_bytes}
use Rattle.std.proofs.lemmas.Nat.{from_be_bytes-to_be_bytes_2, from_be_bytes-to_be_bytes_4}
use Rattle.pulsar_wire.specs.Field.{bytes_at}
use Rattle.pulsar_wire.specs.Row.{Values, reading, spelling}
use Rattle.pulsar_wire.specs.Rows.{message_metadata}
use Rattle.pulsar_wire.proofs.RoundTrip.{round_trip}
use Rattle.pulsar_frame.specs.Checksum.{crc32c}
use Rattle.pulsar_frame.specs.Payload.{PayloadValues, PayloadInRange, magic_number, payload_at, payload_behind, covered_bytes, payload_bytes, bytes_behind}
use Rattle.pulsar_frame.specs.Read.{described_bytes, IsReadBehind}
use Rattle.pulsar_frame.specs.Sized.{sized_at, with_size}
use Rattle.pulsar_frame.specs.Tail.{Tail, tail_at}
use Rattle.pulsar_frame.proofs.Changes.{crc32c-lt}
use Rattle.pulsar_frame.proofs.Splits.{bytes_at-front, length-with_size, sized_at-with_size}

abbrev tail_of : (magic checksum : ℕ) (covered metadata payload : List ℕ) → Option Tail
tail_of magic checksum covered metadata payload = Some (record { magic = magic; checksum = checksum; covered = covered; metadata = metadata; payload = payload })

tail_at-parts : (magic checksum : ℕ) (covered metadata payload : List ℕ) → magic < 2 ^ 16 → checksum < 2 ^ 32 → sized_at covered ≡ Some (metadata, payload)
    → tail_at (to_be_bytes w16 magic ++ (to_be_bytes w32 checksum ++ covered)) ≡ tail_of magic checksum covered metadata payload
unfolding tail_at
tail_at-parts magic checksum covered metadata payload two four sized =
    rw (bytes_at-front 2 (to_be_bytes w16 magic) (to_be_bytes w32 checksum ++ covered) refl, from_be_bytes-to_be_bytes_2 magic two, bytes_at-front 4 (to_be_bytes w32 checksum) covered refl, from_be_bytes-to_be_bytes_4 checksum four, sized) refl

payload_at-parts : (bytes : List ℕ) (t : Tail) (vs : Values message_metadata) → tail_at bytes ≡ Some t → t.magic ≡ magic_number → reading message_metadata t.metadata ≡ Some vs → t.checksum ≡ crc32c t.covered
    → payload_at bytes ≡ Ok (record { metadata = vs; bytes = t.payload })
unfolding payload_at
payload_at-parts bytes t vs tail magic read sum =
    rw (tail, eq-eqb t.magic magic_number magic, read, eq-eqb t.checksum (crc32c t.covered) sum) refl

length-covered : (p : PayloadValues) → length (covered_bytes p) ≡ 4 + length (spelling message_metadata p.metadata) + length p.bytes
unfolding covered_bytes
length-covered p = omega (arith, length-append (with_size (spelling message_metadata p.metadata)) p.bytes, length-with_size (spelling message_metadata p.metadata))

pub length-payload_bytes : (p : PayloadValues) → length (payload_bytes p) ≡ 10 + length (spelling message_metadata p.metadata) + length p.bytes
unfolding payload_bytes
length-payload_bytes p =
    omega (arith, length-covered p, length-append (to_be_bytes w16 magic_number) (to_be_bytes w32 (crc32c (covered_bytes p)) ++ covered_bytes p), length-append (to_be_bytes w32 (crc32c (covered_bytes p))) (covered_bytes p))

sized-covered : (p : PayloadValues) → length (spelling message_metadata p.metadata) < 2 ^ 32 → sized_at (covered_bytes p) ≡ Some (spelling message_metadata p.metadata, p.bytes)
unfolding covered_bytes
sized-covered p short = sized_at-with_size (spelling message_metadata p.metadata) p.bytes short

payload-again : (p : PayloadValues) → length (spelling message_metadata p.metadata) < 2 ^ 32 → IsReadBehind (Some p) → payload_at (payload_bytes p) ≡ Ok p
unfolding payload_bytes
payload-again p short again =
    payload_at-parts _ _ p.metadata (tail_at-parts magic_number (crc32c (covered_bytes p)) (covered_bytes p) _ _ (omega arith) again.1 (sized-covered p short)) refl again.0 refl

-- a payload is never empty
nothing-refused : (p : PayloadValues) → payload_at [] ≢ Ok p
unfolding payload_at tail_at bytes_at
nothing-refused p e = absurd cc

payload_behind-whole : (bytes : List ℕ) (p : PayloadValues) → payload_at bytes ≡ Ok p → payload_behind bytes ≡ Ok (Some p)
payload_behind-whole [] p e = absurd (nothing-refused p e)
payload_behind-whole (b ∷ bytes) p e = rw e refl

-- what stands behind a command is read again
pub behind-again : (p : Option PayloadValues) → length (described_bytes p) < 2 ^ 32 → IsReadBehind p → payload_behind (bytes_behind p) ≡ Ok p
behind-again None short again = refl
behind-again (Some p) short again = payload_behind-whole (payload_bytes p) p (payload-again p short again)

-- there is room for the metadata
pub short_metadata : (p : Option PayloadValues) → length (bytes_behind p) < 2 ^ 32 → length (described_bytes p) < 2 ^ 32
short_metadata None short = omega arith
short_metadata (Some p) short = omega (arith, length-payload_bytes p)

-- a payload in range is read again
pub in_range-again : (p : Option PayloadValues) → length (described_bytes p) < 2 ^ 32 → PayloadInRange p → IsReadBehind p
in_range-again None short range = tt
in_range-again (Some p) short range =
    (round_trip message_metadata p.metadata refl (range.0, omega arith), crc32c-lt (covered_bytes p) range.1)
