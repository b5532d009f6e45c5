-- For the code's contracts alone: the consumers, as the code keeps them. Their tickets are listed by their numbers.
use Rattle.std.specs.Prelude.{◌≡◌, ◌==◌, ◌&&◌, ◌||◌, not, ℕ, Bool, false, if◌then◌else◌, List, [], Option, Some, None}
use Rattle.std.specs.BTreeMap.{BTreeMap, get, keys}
use Rattle.std.specs.BTreeSet.{BTreeSet}
use Rattle.std.specs.Option.{is_some, option_map}
use Rattle.std.specs.Ordering.{nat_cmp}
use Rattle.pulsar_consumer_table.specs.declared.numbers.Numbers.{Numbers}
use Rattle.pulsar_consumer_table.specs.declared.row.ConsumerRow.{ConsumerRow}
use Rattle.pulsar_consumer.specs.Topic.{is_ended, is_on, link_of}
use Rattle.pulsar_consumer_table.specs.Consumers.{Consumers, Member, lives_at}
use Rattle.pulsar_calls.specs.Places.{is_listed}

abbrev pub member_in : ConsumerRow → Member
member_in r = record { seen = r.consumer.inner; seekers = r.seekers.items }

abbrev pub rows_in : BTreeMap ℕ ConsumerRow → ℕ → Option Member
rows_in rows t = option_map member_in (get nat_cmp rows t)

abbrev pub consumers_in : BTreeMap ℕ ConsumerRow → Numbers → Consumers
consumers_in rows numbers =
    record {
      rows = rows_in rows;
      tickets = keys rows;
      held = numbers.held.entries;
      named = numbers.named.keys;
      next = numbers.next;
      next_key = numbers.next_key;
    }

-- THE LISTING

-- the tickets that are listed of a number
abbrev pub tickets_of : Option (BTreeSet ℕ) → List ℕ
tickets_of None = []
tickets_of (Some tickets) = tickets.keys

abbrev pub listed_at : BTreeMap ℕ (BTreeSet ℕ) → (number : ℕ) → List ℕ
listed_at listing n = tickets_of (get nat_cmp listing n)

-- one of them is changed, and some are
abbrev pub one_changed : (ticket : ℕ) → (Member → Member) → (ℕ → Option Member) → ℕ → Option Member
one_changed ticket f rows t = if t == ticket then option_map f (rows t) else rows t

abbrev pub some_changed : (tickets : List ℕ) → (Member → Member) → (ℕ → Option Member) → ℕ → Option Member
some_changed tickets f rows t = if is_listed t tickets then option_map f (rows t) else rows t

-- one that has not ended, or lives on a link, is to be found by its number
abbrev pub is_known : (number : ℕ) → Option Member → Bool
is_known n None = false
is_known n (Some m) = (m.seen.number == n) && (not (is_ended m.seen) || is_some (link_of m.seen))

-- the number by which it is to be found, if there is one
abbrev pub known_at : Option Member → Option ℕ
known_at None = None
known_at (Some m) = if is_known m.seen.number (Some m) then Some m.seen.number else None

-- whoever is to be found by a number is listed under it, and nobody else: what has ended keeps no place there
abbrev pub AreListed : BTreeMap ℕ (BTreeSet ℕ) → (ℕ → Option Member) → Type 0
AreListed listing rows = (t n : ℕ) → is_listed t (listed_at listing n) ≡ is_known n (rows t)

-- whoever lives on a link is listed under it, and nobody else
abbrev pub AreHeard : BTreeMap ℕ (BTreeSet ℕ) → (ℕ → Option Member) → Type 0
AreHeard heard rows = (t l : ℕ) → is_listed t (listed_at heard l) ≡ lives_at l (rows t)

-- of these tickets, those that are not kept are listed no more at their place, and all others stay listed as they were
abbrev pub Drops : (tickets : List ℕ) (place : ℕ → ℕ) (is_kept : ℕ → Bool) (before after : BTreeMap ℕ (BTreeSet ℕ)) → Type 0
Drops tickets place is_kept before after =
    (t n : ℕ) →
    is_listed t (listed_at after n) ≡ (is_listed t (listed_at before n) && not (is_listed t tickets && ((n == place t) && not (is_kept t))))

-- a ticket leaves one place, and gets another, where there are such; all others stay listed as they were
abbrev pub Moves : (ticket : ℕ) (from to : Option ℕ) (before after : BTreeMap ℕ (BTreeSet ℕ)) → Type 0
Moves ticket from to before after =
    (t n : ℕ) →
    is_listed t (listed_at after n) ≡ ((is_listed t (listed_at before n) && not (is_on n from && (t == ticket))) || (is_on n to && (t == ticket)))
