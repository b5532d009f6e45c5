-- Answers, each of which is told once. `h` is a history, and `taken` has the tickets whose answers were taken.
use Rattle.std.specs.Prelude.{◌≡◌, ℕ, ◌==◌, ◌&&◌, nat_lt, nat_le, Bool, if◌then◌else◌, List, [], ◌∷◌, codes, Option, Some, None, Result, Ok, Err}
use Rattle.std.specs.Option.{is_some, option_map}
use Rattle.std.specs.BTreeMap.{BTreeMap, get}
use Rattle.std.specs.List.{list_any}
use Rattle.std.specs.Ordering.{nat_cmp}
use Rattle.pulsar_wire.specs.Row.{spelling}
use Rattle.pulsar_wire.specs.Rows.{send_receipt}
use Rattle.pulsar_wire.specs.Views.{send_receipt_values}
use Rattle.pulsar_wire.specs.declared.commands.producer.CommandSendReceipt.{CommandSendReceipt}
use Rattle.pulsar_wire.specs.declared.error.Error.{Error}
use Rattle.pulsar_wire.specs.Failures.{Failure, OfProducer, ProducerCustom, failure}
use Rattle.pulsar_outgoing.specs.Errors.{IsNoMemory}
use Rattle.pulsar_client.specs.declared.answers.Taken.{Taken}
use Rattle.pulsar_client.specs.declared.answers.Taken.TheVariants as taken
use Rattle.pulsar_calls.specs.Content.{Said, Receipt, Failed, Done, Names, Address, Count, Addresses, Sends, Replies, Shown, Ends, said}
use Rattle.pulsar_acts.specs.Run.{tickets_in}
use Rattle.pulsar_calls.specs.Steps.{Step}

-- what there is of a ticket: nothing, a call that waits, or what it ended with
abbrev pub Held : Type 0
Held = Option (Option Said)

-- WHAT A HISTORY SAYS

-- a call ends with this
abbrev pub left_after : Shown → (ticket : ℕ) → Held → Held
left_after (Ends u answer) t row = if (u == t) && is_some row then Some (Some answer) else row
left_after _ t row = row

abbrev pub ended_in : List Shown → (ticket : ℕ) → Held → Held
ended_in [] t row = row
ended_in (e ∷ es) t row = ended_in es t (left_after e t row)

-- the tickets from one on up to another were drawn
abbrev pub drawn_to : (from to ticket : ℕ) → Held → Held
drawn_to from to t row = if nat_le from t && nat_lt t to then Some None else row

-- what there is of a ticket whose answer nobody took
abbrev pub held : (ticket : ℕ) → List Step → Held
held t [] = None
held t (s ∷ h) = ended_in s.effects t (drawn_to (tickets_in h) (tickets_in (s ∷ h)) t (held t h))

-- THE ANSWERS THAT WERE TAKEN

abbrev pub is_in : (ticket : ℕ) → List ℕ → Bool
is_in t ts = list_any (λ u. u == t) ts

abbrev pub held_but : (taken : List ℕ) → (ticket : ℕ) → List Step → Held
held_but ts t h = if is_in t ts then None else held t h

-- what is left of a ticket that is taken: a call that waits is taken nothing of
abbrev pub taken_left : Held → Held
taken_left None = None
taken_left (Some None) = Some None
taken_left (Some (Some answer)) = None

-- the ticket counts as taken where its answer was there
abbrev pub with_taken : Held → (ticket : ℕ) → List ℕ → List ℕ
with_taken None t ts = ts
with_taken (Some None) t ts = ts
with_taken (Some (Some answer)) t ts = t ∷ ts

abbrev pub taken_with : (ticket : ℕ) → List Step → List ℕ → List ℕ
taken_with t h ts = with_taken (held_but ts t h) t ts

-- what is told of it
abbrev pub taken_of : Taken → Held
taken_of (taken.Answer answer) = Some (Some (said answer))
taken_of taken.Waiting = Some None
taken_of taken.Unknown = None

-- an answer is told once, and it is that of the ticket in the run
abbrev pub IsTaken : Taken → (ticket : ℕ) → List Step → List ℕ → Type 0
IsTaken x t h ts = taken_of x ≡ held_but ts t h

-- A SEND: its receipt, or why there is none. Another answer, and a ticket of which there is nothing, is the loss of its producer.

abbrev pub is_lost : Failure
is_lost = OfProducer (ProducerCustom (codes "producer unexpectedly disconnected"))

abbrev pub polled_answer : Said → Result (List ℕ) Failure
polled_answer (Receipt bytes) = Ok bytes
polled_answer (Failed f) = Err f
polled_answer Done = Err is_lost
polled_answer (Names names) = Err is_lost
polled_answer (Address place) = Err is_lost
polled_answer (Count n) = Err is_lost
polled_answer (Addresses names) = Err is_lost
polled_answer (Sends tickets) = Err is_lost
polled_answer (Replies bodies) = Err is_lost

abbrev pub polled : Held → Option (Result (List ℕ) Failure)
polled None = Some (Err is_lost)
polled (Some None) = None
polled (Some (Some answer)) = Some (polled_answer answer)

abbrev pub poll_said : Result CommandSendReceipt Error → Result (List ℕ) Failure
poll_said (Ok receipt) = Ok (spelling send_receipt (send_receipt_values receipt))
poll_said (Err e) = Err (failure e)

-- want of memory may take the place of the text
pub data IsPolled (x : Option (Result CommandSendReceipt Error)) (t : ℕ) (h : List Step) (ts : List ℕ) : Type 0 where
  IsSaid : option_map poll_said x ≡ polled (held_but ts t h) → IsPolled x t h ts
  IsUnsaid : (e : Error) → x ≡ Some (Err e) → IsNoMemory (failure e) → polled (held_but ts t h) ≡ Some (Err is_lost) → IsPolled x t h ts

-- FOR THE CODE'S CONTRACTS ALONE: the answers as the code keeps them

abbrev pub held_in : BTreeMap ℕ (Option Said) → (ticket : ℕ) → Held
held_in rows t = get nat_cmp rows t
