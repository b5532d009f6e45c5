-- The run of a script.
use Rattle.std.specs.Prelude.{◌≡◌, ◌⊎◌, if◌then◌else◌, codes, ℕ, ◌+◌, ◌<◌, ◌≤◌, ◌↔◌, List, [], ◌∷◌, ◌++◌, length, drop, Option, Some, None}
use Rattle.pulsar_wire.specs.Field.{◌>>=◌}
use Rattle.pulsar_addresses.specs.Backoff.{default_connection_retry, default_operation_retry}
use Rattle.pulsar_producer.specs.Routing.{Policy}
use Rattle.pulsar_addresses.specs.Address.{base_in}
use Rattle.pulsar_calls.specs.Content.{Heard}
use Rattle.pulsar_machine.specs.Options.{Chosen, Options}
pub use Rattle.pulsar_job.specs.Outside.{Adds, AddsFront, Given, HasFault, Seen, limit, seen, since}
use Rattle.pulsar_acts.specs.Run.{Good, is_empty}
use Rattle.pulsar_calls.specs.Steps.{Step}
use Rattle.pulsar_grammar.specs.Grammar.{Setting, Url, Auth, Outbound, Timeout, RetryDelay, OpRetries, Retries, MinBackoff, MaxBackoff, ConnectionTimeout, KeepAlive, MaxIdle, Seed, First, Now, Line, Nothing, Sets, Happens, Refused, line, lines}
use Rattle.pulsar_printing.specs.Text.{step, refusal}

-- what a script says: the options of its client, and its events
pub record Script : Type 0 where
  pub options : Options
  pub events : List Heard

-- the choice where no option is set
abbrev pub default_choice : Chosen
default_choice =
    record {
      base = base_in (codes "pulsar://127.0.0.1:6650");
      auth = None;
      connection = default_connection_retry;
      operation = default_operation_retry;
      outbound = 100;
      seed = 0;
      first_number = 0;
      now = 0;
    }

-- this, with these policies
abbrev pub defaults : List Policy → Options
defaults policies = record { chosen = default_choice; policies = policies }

-- a script that says nothing, for a client with these policies
abbrev pub blank : List Policy → Script
blank policies = record { options = defaults policies; events = [] }

-- an option that is set again has the later value
abbrev pub chooses : Setting → Chosen → Chosen
chooses (Url text) o = record o { base = base_in text }
chooses (Auth credential) o = record o { auth = Some credential }
chooses (Outbound size) o = record o { outbound = size }
chooses (Timeout time) o = record o { operation = record o.operation { operation_timeout = time } }
chooses (RetryDelay time) o = record o { operation = record o.operation { retry_delay = time } }
chooses (OpRetries most) o = record o { operation = record o.operation { max_retries = Some most } }
chooses (Retries most) o = record o { connection = record o.connection { max_retries = most } }
chooses (MinBackoff time) o = record o { connection = record o.connection { min_backoff = time } }
chooses (MaxBackoff time) o = record o { connection = record o.connection { max_backoff = time } }
chooses (ConnectionTimeout time) o = record o { connection = record o.connection { connection_timeout = time } }
chooses (KeepAlive time) o = record o { connection = record o.connection { keep_alive = time } }
chooses (MaxIdle time) o = record o { connection = record o.connection { connection_max_idle = time } }
chooses (Seed seed) o = record o { seed = seed }
chooses (First number) o = record o { first_number = number }
chooses (Now time) o = record o { now = time }

abbrev pub sets : Setting → Options → Options
sets setting o = record o { chosen = chooses setting o.chosen }

-- one more line; there is no script where it isn't in the grammar, or is a `set` line behind an event
abbrev pub with_line : Line → Script → Option Script
with_line Nothing s = Some s
with_line (Sets setting) s = if is_empty s.events then Some (record s { options = sets setting s.options }) else None
with_line (Happens e) s = Some (record s { events = s.events ++ e ∷ [] })
with_line Refused s = None

-- the script of lines, behind what was said before
abbrev pub script_from : Script → List (List ℕ) → Option Script
script_from s [] = Some s
script_from s (l ∷ ls) = with_line (line l) s >>= λ next. script_from next ls

abbrev pub script_of : List Policy → List (List ℕ) → Option Script
script_of policies ls = script_from (blank policies) ls

-- the lines are in the grammar
abbrev pub InGrammar : List Policy → List ℕ → Type 0
InGrammar policies bytes = (script : Script) × (script_of policies (lines bytes) ≡ Some script)

-- the events of a history, oldest first; the newest step of a history is its first
abbrev pub happened : List Step → List Heard
happened [] = []
happened (s ∷ h) = happened h ++ s.event ∷ []

-- the text of a history: its steps are numbered from 0
abbrev pub text : List Step → List ℕ
text [] = []
text (s ∷ h) = text h ++ step (length h) s.effects

-- a history is the run of these lines
pub record IsRunOf (policies : List Policy) (ls : List (List ℕ)) (h : List Step) : Type 0 where
  pub script : Script
  pub is : script_of policies ls ≡ Some script
  pub events : script.events ≡ happened h
  pub good : Good script.options h

-- Status 0: the lines are in the grammar, and the text of their run was printed.
pub record IsDone (policies : List Policy) (bytes : List ℕ) (old new : Option (List ℕ)) : Type 0 where
  pub history : List Step
  pub run : IsRunOf policies (lines bytes) history
  pub prints : Adds old new (text history)

-- Status 1: with a line the lines aren't in the grammar any more. The run of the lines before was printed, and the refusal
-- behind it, as far as the sink took them.
pub record IsRefused (policies : List Policy) (bytes : List ℕ) (old new : Option (List ℕ)) (faultless : Type 0) : Type 0 where
  pub before : List (List ℕ)
  pub bad : List ℕ
  pub after : List (List ℕ)
  pub apart : lines bytes ≡ before ++ bad ∷ after
  pub refused : script_of policies (before ++ bad ∷ []) ≡ None
  pub history : List Step
  pub run : IsRunOf policies before history
  pub prints : faultless → Adds old new (text history ++ refusal (length before + 1))
  pub begins : AddsFront old new (text history ++ refusal (length before + 1))

-- Each other status: a front of the text of the run of the lines that were read was printed.
pub record IsStopped (policies : List Policy) (bytes : List ℕ) (old new : Option (List ℕ)) : Type 0 where
  pub before : List (List ℕ)
  pub after : List (List ℕ)
  pub apart : lines bytes ≡ before ++ after
  pub history : List Step
  pub run : IsRunOf policies before history
  pub begins : AddsFront old new (text history)

-- what was printed of a script of these bytes, by the status with which its run ended
pub record Printed (policies : List Policy) (status : ℕ) (bytes : List ℕ) (old new : Option (List ℕ)) (faultless : Type 0) : Type 0 where
  pub done : status ≡ 0 → IsDone policies bytes old new
  pub refused : status ≡ 1 → IsRefused policies bytes old new faultless
  pub stopped : 3 ≤ status → IsStopped policies bytes old new

-- How a script's run ended: with status 0 its source was read to the end, and with status 6 and no other one more bytes than
-- the limit were taken.
pub record Ran (policies : List Policy) (status : ℕ) (source sink : Seen) : Type 0 where
  pub known : (status ≤ 6) × (status ≡ 2 → ⊥)
  pub given : Given source
  pub printed : Printed policies status given.bytes sink.before sink.after (HasFault sink → ⊥)
  pub whole : status ≡ 0 → given.count ≡ length given.bytes
  pub source_failed : status ≡ 4 → HasFault source
  pub sink_failed : status ≡ 5 → HasFault sink
  pub limits : (status ≡ 6) ↔ (limit < given.count)

-- a script is run to its end only where it is in the grammar, and refused only where it isn't
abbrev pub Decides : Type 0
Decides =
    (policies : List Policy) (status : ℕ) (source sink : Seen) (ran : Ran policies status source sink)
    → (status ≡ 0 → InGrammar policies ran.given.bytes) × (status ≡ 1 → InGrammar policies ran.given.bytes → ⊥)

-- a script in the grammar and within the limit is run to its end, unless memory runs out or there is a fault
abbrev pub Completes : Type 0
Completes =
    (policies : List Policy) (status : ℕ) (source sink : Seen) (ran : Ran policies status source sink)
    → InGrammar policies ran.given.bytes → length ran.given.bytes ≤ limit
    → (HasFault source → ⊥) → (HasFault sink → ⊥) → (status ≡ 0) ⊎ (status ≡ 3)
