-- What a reply says to a question.  (Pulsar binary protocol, Partitioned topics discovery; Topic lookup; PulsarApi.proto,
-- CommandPartitionedTopicMetadataResponse, CommandLookupTopicResponse, CommandError, ServerError)
use Rattle.std.specs.Prelude.{ℕ, ℤ, pos, Bool, true, false, ◌&&◌, ◌||◌, List, Option, Some, None, codes, ◌==◌, if◌then◌else◌}
use Rattle.std.specs.Ordering.{int_eq}
use Rattle.pulsar_wire.specs.Field.{◌>>=◌}
use Rattle.pulsar_wire.specs.Command.{body_name}
use Rattle.pulsar_wire.specs.Enumerations.{error_of}
use Rattle.pulsar_wire.specs.Failures.{Fault, PulsarError, UnexpectedResponse, Failure, OfDiscovery, Query, DiscoveryNotFound}
use Rattle.pulsar_frame.specs.Reply.{Reply, Written, is_body}
use Rattle.pulsar_addresses.specs.Address.{Place, place_in}
use Rattle.pulsar_addresses.specs.Backoff.{allow_retry}
use Rattle.pulsar_searches.specs.declared.replies.Heard.{Heard}
use Rattle.pulsar_searches.specs.declared.replies.Heard.TheVariants.{Says, Later, Denies}
use Rattle.pulsar_searches.specs.declared.replies.Pointed.{Pointed}
use Rattle.pulsar_searches.specs.declared.replies.Pointed.TheVariants.{Redirects, Serves}
use Rattle.pulsar_searches.specs.declared.turn.Ways.{Ways}
use Rattle.pulsar_addresses.specs.Address.{in_discovery}

-- why a reply fails a question that expects another body: the broker's error with its text, or the name of the body
unfoldable pub unexpected : Reply → Option Written → Fault
unexpected r None = UnexpectedResponse (codes "none")
unexpected r (Some b) = if b.number == 14 then PulsarError (r.error >>= error_of) r.text else UnexpectedResponse (body_name b.number)

-- a choice is this number
abbrev pub is_choice : ℤ → Option ℤ → Bool
is_choice n None = false
is_choice n (Some m) = int_eq m n

-- a response of this number fails, and so does a missing one
abbrev pub fails_by : ℤ → Option ℤ → Bool
fails_by n None = true
fails_by n (Some m) = int_eq m n

-- a flag that is there and set
abbrev pub is_set : Option Bool → Bool
is_set None = false
is_set (Some b) = b

-- the error that a reply tells is the answer
abbrev pub query : Option ℤ → Option (List ℕ) → Failure
query error text = OfDiscovery (Query (error >>= error_of) text)

-- a reply that fails: the service isn't ready, and one more retry is allowed after so many, or it is the answer
abbrev pub failing : {A : Type 0} → Ways → (n : ℕ) → Option ℤ → Option (List ℕ) → Heard A
failing w n error text = if is_choice (pos 6) error && allow_retry w.max_retries n then Later else Denies (query error text)

-- HOW MANY PARTITIONS THERE ARE

abbrev pub counted_of : Reply → Option ℕ → Heard ℕ
counted_of r None = Denies (query r.error r.text)
counted_of r (Some count) = Says count

unfoldable pub count_in : Ways → (n : ℕ) → Reply → Heard ℕ
count_in w n r =
    if is_body 22 r.body then (if fails_by (pos 1) r.response then failing w n r.error r.text else counted_of r r.partitions)
    else Denies (in_discovery (unexpected r r.body))

-- WHICH BROKER TO ASK NEXT, OR WHICH ONE SERVES

abbrev pub pointed_at : (response : Option ℤ) → (authority : Option Bool) → Option Place → Heard Pointed
pointed_at response authority None = Denies (OfDiscovery DiscoveryNotFound)
pointed_at response authority (Some place) =
    if is_choice (pos 0) response then Says (Redirects place (is_set authority)) else Says (Serves place)

-- the address in a reply
abbrev pub place_at : (base : Place) → (proxy : Bool) → Option (List ℕ) → Option Place
place_at base proxy None = None
place_at base proxy (Some url) = place_in base proxy url

-- a proxy stays: `proxy` says whether an earlier reply has named one
unfoldable pub place_heard : Ways → (proxy : Bool) → (n : ℕ) → Reply → Heard Pointed
place_heard w proxy n r =
    if is_body 24 r.body then
    (if fails_by (pos 2) r.response then failing w n r.error r.text
    else pointed_at r.response r.authority (place_at w.base (proxy || is_set r.proxy) r.url))
    else Denies (in_discovery (unexpected r r.body))
