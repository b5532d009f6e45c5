-- Messages that are to be given again: the id of an item that was placed is kept until it is due, and it is asked for again then, unless it
-- was acknowledged.  (PulsarApi.proto, CommandRedeliverUnacknowledgedMessages)
use Rattle.std.specs.Prelude.{ℕ, nat_lt, ◌+◌, Bool, false, not, List, [], ◌∷◌, map, filter, Option, Some, None}
use Rattle.std.specs.BTreeMap.{insert_entry, is_at}
use Rattle.pulsar_wire.specs.Orders.{id_order}
use Rattle.pulsar_wire.specs.Row.{Values}
use Rattle.pulsar_wire.specs.Rows.{message_id}
use Rattle.pulsar_wire.specs.Sink.{capped}
use Rattle.pulsar_consumer.specs.Items.{Item, Given, Faulty}

-- the id of a message
abbrev pub Id : Type 0
Id = Values message_id

abbrev pub is_same_id : Id → Id → Bool
is_same_id a b = is_at (id_order a) b

-- the ids that are kept, in the order of ids, each with the moment at which it is due
abbrev pub Kept : Type 0
Kept = List (Id × ℕ)

-- an id is kept until this moment, in the place of an earlier one; or it is kept no longer
abbrev pub keep : (due : ℕ) → Id → Kept → Kept
keep due id kept = insert_entry id_order kept id due

abbrev pub forget : Id → Kept → Kept
forget id kept = filter (λ e. not (is_same_id id e.0)) kept

abbrev pub forget_one : Option Id → Kept → Kept
forget_one None kept = kept
forget_one (Some id) kept = forget id kept

abbrev pub forget_all : List Id → Kept → Kept
forget_all [] kept = kept
forget_all (id ∷ ids) kept = forget_all ids (forget id kept)

-- where there is a delay, an item that is placed at this moment is due once it has passed
abbrev pub due_at : (delay : Option ℕ) → (clock : ℕ) → Option ℕ
due_at None clock = None
due_at (Some delay) clock = Some (capped (clock + delay))

-- its id is kept until then; an error has none
abbrev pub id_of : Item → Option Id
id_of (Given id payload) = Some id
id_of (Faulty f) = None

abbrev pub keep_if : (due : ℕ) → Option Id → Kept → Kept
keep_if due None kept = kept
keep_if due (Some id) kept = keep due id kept

abbrev pub keep_item : (due : Option ℕ) → Item → Kept → Kept
keep_item None item kept = kept
keep_item (Some due) item kept = keep_if due (id_of item) kept

abbrev pub keep_all : (due : Option ℕ) → List Item → Kept → Kept
keep_all due [] kept = kept
keep_all due (item ∷ items) kept = keep_all due items (keep_item due item kept)

-- those that are due before a moment, in the order of ids
abbrev pub is_early : (clock : ℕ) → (due : Option ℕ) → Bool
is_early clock None = false
is_early clock (Some due) = nat_lt due clock

abbrev pub is_due_before : (clock : ℕ) → Id × ℕ → Bool
is_due_before clock e = nat_lt e.1 clock

abbrev pub due_before : (clock : ℕ) → Kept → List Id
due_before clock kept = map (λ e. e.0) (filter (is_due_before clock) kept)

-- CHECKS. Where there is a delay, the first is due 500 milliseconds after the first subscription was made, and each other so long after the
-- one before.
abbrev pub pause : ℕ
pause = 500

abbrev pub first_check : (delay : Option ℕ) → (clock : ℕ) → Option ℕ
first_check None clock = None
first_check (Some delay) clock = Some (capped (clock + pause))

abbrev pub next_check : (clock : ℕ) → (due : Option ℕ) → Option ℕ
next_check clock None = None
next_check clock (Some due) = Some (capped (clock + pause))
