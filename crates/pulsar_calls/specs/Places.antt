-- Numbers in lists.
use Rattle.std.specs.Prelude.{◌==◌, ℕ, Bool, List}
use Rattle.std.specs.List.{list_any}

abbrev pub is_listed : ℕ → List ℕ → Bool
is_listed t tickets = list_any (λ u. u == t) tickets
