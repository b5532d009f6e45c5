-- For the code's contracts alone: the ids that are kept as the code keeps them, by id and by the moments at which they are due.
use Rattle.std.specs.Prelude.{◌≡◌, ℕ, ◌==◌, Bool, false, Option, Some, None}
use Rattle.std.specs.BTreeMap.{IsOrdered, get}
use Rattle.std.specs.BTreeSet.{BTreeSet, contains}
use Rattle.std.specs.Map.{lookup}
use Rattle.std.specs.Ordering.{nat_cmp}
use Rattle.pulsar_wire.specs.Orders.{id_order}
use Rattle.pulsar_consumer.specs.Redelivery.{Id, Kept, is_same_id}
use Rattle.pulsar_consumer.specs.declared.kept.KeptIds.TheInside.{Inside}

abbrev pub moment_of : Id → Kept → Option ℕ
moment_of id kept = lookup (is_same_id id) kept

abbrev pub is_moment : ℕ → Option ℕ → Bool
is_moment m None = false
is_moment m (Some moment) = moment == m

abbrev pub is_in : Id → Option (BTreeSet Id) → Bool
is_in id None = false
is_in id (Some ids) = contains id_order ids id

-- each id is listed at its moment, and at no other
pub record AreListed (i : Inside) : Type 0 where
  pub listed : (m : ℕ) (id : Id) → is_in id (get nat_cmp i.ids m) ≡ is_moment m (moment_of id i.moments.entries)
  pub ordered : IsOrdered id_order i.moments
