-- A connection as the code keeps it.
use Rattle.std.specs.Prelude.{◌≡◌, ℕ, Bool, true, false, List, map, Option, Some, None, Result, string_bytes}
use Rattle.std.specs.Option.{option_map}
use Rattle.std.specs.Global.{Vec}
use Rattle.pulsar_wire.specs.declared.error.ConnectionError.{ConnectionError}
use Rattle.pulsar_frame.specs.Frame.{Front, Short, Refused, Whole, front}
use Rattle.pulsar_frame.specs.Shown.{message_values}
use Rattle.pulsar_messages.specs.Content.{authentication_values}
use Rattle.pulsar_session.specs.declared.states.Asked.{Asked}
use Rattle.pulsar_session.specs.declared.states.Arrived.{Arrived}
use Rattle.pulsar_session.specs.declared.states.Arrived.TheVariants as arrived
use Rattle.pulsar_session.specs.declared.frames.Arrival.{Arrival}
use Rattle.pulsar_session.specs.declared.frames.Arrival.TheVariants as arrival
use Rattle.pulsar_session.specs.declared.frames.Next.{Next}
use Rattle.pulsar_session.specs.declared.frames.Next.TheVariants as next
use Rattle.pulsar_session.specs.declared.incoming.First.{First}
use Rattle.pulsar_session.specs.declared.incoming.First.TheVariants as first
use Rattle.pulsar_session.specs.declared.link.Setup as codes
use Rattle.pulsar_session.specs.declared.link.Standing as standings
use Rattle.pulsar_session.specs.declared.link.Link.{Link}
use Rattle.pulsar_session.specs.Answers.{is}
use Rattle.pulsar_wire.specs.Failures.{fault}
use Rattle.pulsar_session.specs.Link.{Came, Nothing, Readied, Settles, Gives, Challenged, Dropped, Bad, Seen, Setup, Standing, is_memory}

abbrev pub setup_of : codes.Setup → Setup
setup_of s =
    record {
      id = s.id;
      url = s.url;
      auth = option_map authentication_values s.auth;
      proxy = option_map string_bytes s.proxy;
      connection_timeout = s.connection_timeout;
      operation_timeout = s.operation_timeout;
      outbound = s.outbound;
      first_number = s.first_number;
      made = s.made;
    }

abbrev pub standing : standings.Standing → Standing
standing s = record { frame = s.frame.items; claim = s.claim }

abbrev pub contents : List (Vec ℕ) → List (List ℕ)
contents frames = map (λ f. f.items) frames

abbrev pub table : Link → Seen
table l =
    record {
      setup = setup_of l.setup;
      stage = l.stage;
      error = option_map fault l.error;
      next_number = l.next_number;
      unwritten = contents l.unwritten.items;
      line = map standing l.line.items;
      waits = l.requests;
      unread = l.incoming;
    }

abbrev pub came_of : Option Arrived → Came
came_of None = Nothing
came_of (Some arrived.Ready) = Readied
came_of (Some (arrived.Settled places reply)) = Settles places.items (message_values reply)
came_of (Some (arrived.ForConsumer consumer reply)) = Gives consumer (message_values reply)
came_of (Some arrived.Challenge) = Challenged
came_of (Some arrived.Dropped) = Dropped
came_of (Some (arrived.Bad e)) = Bad (fault e)

-- the same of what arrives in a box
abbrev pub arrival_of : Arrival → Came
arrival_of arrival.Ready = Readied
arrival_of (arrival.Settled places reply) = Settles places.items (message_values reply.value)
arrival_of (arrival.ForConsumer consumer reply) = Gives consumer (message_values reply.value)
arrival_of arrival.Challenge = Challenged
arrival_of arrival.Dropped = Dropped
arrival_of (arrival.Bad e) = Bad (fault e)

abbrev pub arrives : Option Arrival → Came
arrives None = Nothing
arrives (Some a) = arrival_of a

-- what stood in front of a stream, and what is left of it
abbrev pub IsNext : Next → List ℕ → List ℕ → Type 0
IsNext next.Short old new = (front old ≡ Short) × (new ≡ old)
IsNext (next.Refused r) old new = (front old ≡ Refused r) × (new ≡ old)
IsNext (next.Whole m) old new = front old ≡ Whole (message_values m.value) new

-- what the first frame says, by what stands in front
abbrev pub first_by : Bool → First
first_by true = first.Connected
first_by false = first.Wrong

abbrev pub first_of : Front → First
first_of Short = first.Short
first_of (Refused r) = first.Wrong
first_of (Whole m rest) = first_by (is 3 m)

abbrev pub kept_by : Bool → (rest old : List ℕ) → List ℕ
kept_by true rest old = rest
kept_by false rest old = old

abbrev pub kept_of : Front → List ℕ → List ℕ
kept_of Short old = old
kept_of (Refused r) old = old
kept_of (Whole m rest) old = kept_by (is 3 m) rest old

abbrev pub IsFirst : First → List ℕ → List ℕ → Type 0
IsFirst first old new = (first ≡ first_of (front old)) × (new ≡ kept_of (front old) old)

-- what a request call answers and does, unless memory ran out
abbrev pub OnAnswer : Result Asked ConnectionError → Type 0 → Type 0
OnAnswer r P = is_memory r ≡ false → P
