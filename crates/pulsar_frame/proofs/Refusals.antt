-- What a caller is told of bytes that are refused.
use Rattle.std.proofs.Common.{◌≡◌, Option, Err, refl}
use Rattle.pulsar_wire.specs.Shown.{Refuses}
use Rattle.pulsar_wire.specs.declared.encoding.read_error.ReadError.{ReadError}
use Rattle.pulsar_wire.specs.declared.encoding.read_error.ReadError.TheVariants.{Malformed, NoMemory}
use Rattle.pulsar_wire.specs.declared.error.ConnectionError.{ConnectionError}
use Rattle.pulsar_wire.specs.declared.error.Reason.{Reason}
use Rattle.pulsar_wire.specs.declared.error.Reason.TheVariants.{Batch}
use Rattle.pulsar_frame.specs.Batch.{ReadsBatch}
use Rattle.pulsar_frame.specs.Read.{Holds, refusal}
use Rattle.pulsar_frame.specs.Refusal.{or_refused}

pub holds_refused : {X Y : Type 0} (view : X → Y) (r : Reason) (e : ReadError) (told : ConnectionError) (reading : Option Y) → told ≡ refusal r e → Refuses e reading → Holds view (Err told) (or_refused r reading)
holds_refused view r Malformed told reading is none = rw (is, none) refl
holds_refused view r NoMemory told reading is none = rw is tt

pub batch_refused : {X Y : Type 0} (view : X → Y) (e : ReadError) (told : ConnectionError) (reading : Option Y) → told ≡ refusal Batch e → Refuses e reading → ReadsBatch view (Err told) reading
batch_refused view Malformed told reading is none = rw is none
batch_refused view NoMemory told reading is none = rw is tt
