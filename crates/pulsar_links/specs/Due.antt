-- For the code's contracts alone: when links are due, as the code keeps it.
use Rattle.std.specs.Prelude.{◌≡◌, ℕ, ◌==◌, Bool, false, List, Option, Some, None}
use Rattle.std.specs.BTreeMap.{BTreeMap, get, is_at}
use Rattle.std.specs.BTreeSet.{BTreeSet, contains}
use Rattle.std.specs.Map.{lookup}
use Rattle.std.specs.Ordering.{nat_cmp}
use Rattle.pulsar_links.specs.declared.due.DueMoments.TheInside.{Inside}

-- the moment of a link
abbrev pub moment_at : List (ℕ × ℕ) → ℕ → Option ℕ
moment_at moments l = lookup (is_at (nat_cmp l)) moments

-- a link is listed at a moment
abbrev pub is_in : ℕ → Option (BTreeSet ℕ) → Bool
is_in l None = false
is_in l (Some links) = contains nat_cmp links l

abbrev pub is_listed : BTreeMap ℕ (BTreeSet ℕ) → (moment link : ℕ) → Bool
is_listed links m l = is_in l (get nat_cmp links m)

-- this is the moment of a link
abbrev pub is_moment : ℕ → Option ℕ → Bool
is_moment m None = false
is_moment m (Some moment) = moment == m

-- each link is listed at its moment, and at no other
abbrev pub AreListed : List (ℕ × ℕ) → BTreeMap ℕ (BTreeSet ℕ) → Type 0
AreListed moments links = (m l : ℕ) → is_listed links m l ≡ is_moment m (moment_at moments l)

abbrev pub IsWhole : Inside → Type 0
IsWhole i = AreListed i.moments.entries i.links
