-- A step of a history, and the options of a program's client.
use Rattle.std.specs.Prelude.{ℕ, List, None, map}
use Rattle.pulsar_calls.specs.declared.effect.Effect.{Effect}
use Rattle.pulsar_calls.specs.declared.event.Event.{Event}
use Rattle.pulsar_calls.specs.Content.{heard, shown}
use Rattle.pulsar_addresses.specs.Backoff.{default_connection_retry, default_operation_retry}
use Rattle.pulsar_producer.specs.Routing.{Policy}
use Rattle.pulsar_addresses.specs.Address.{base_in}
use Rattle.pulsar_machine.specs.Options.{Chosen, Options}
use Rattle.pulsar_calls.specs.Steps.{Step}

-- an event with its effects
abbrev pub step : Event → List Effect → Step
step e es = record { event = heard e; effects = map shown es }

-- the options for the service at an address, at a moment: no credential, the seed 0, and all else by default
abbrev pub chosen_for : (url : List ℕ) (now : ℕ) → Chosen
chosen_for url now =
    record {
      base = base_in url;
      auth = None;
      connection = default_connection_retry;
      operation = default_operation_retry;
      outbound = 100;
      seed = 0;
      first_number = 0;
      now = now;
    }

abbrev pub options_for : (url : List ℕ) (now : ℕ) → List Policy → Options
options_for url now policies = record { chosen = chosen_for url now; policies = policies }
