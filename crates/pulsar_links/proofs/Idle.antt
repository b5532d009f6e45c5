-- What links give, one by one and by their table.
use Rattle.std.proofs.Common.{◌≡◌, ◌∙◌, ℕ, sym, ap, refl, List, ◌∷◌, ◌++◌, Some, []}
use Rattle.std.proofs.lemmas.Cmp.{nat_cmp_total}
use Rattle.std.proofs.lemmas.List.{append-nil}
use Rattle.std.proofs.lemmas.List.Elements.{recursion_from_All}
use Rattle.std.proofs.lemmas.Map.Views.{All-found}
use Rattle.std.specs.BTreeMap.{BTreeMap, IsOrdered, get, keys}
use Rattle.std.specs.List.{AllByRecursion, flat_map}
use Rattle.std.specs.Map.{keys_of}
use Rattle.std.specs.Option.{option_map, option_to_list}
use Rattle.std.specs.Ordering.{nat_cmp}
use Rattle.pulsar_links.specs.declared.row.Row.{Row}
use Rattle.pulsar_links.specs.Kept.{live_in, seat_of}
use Rattle.pulsar_links.specs.LinkRules.{on_link}
use Rattle.pulsar_links.specs.Seats.{Seat}

-- WHAT EACH LINK GIVES

each_gives : {A : Type 0} (f : ℕ → Seat → List A) (live : BTreeMap ℕ Row) (es : List (ℕ × Row)) → AllByRecursion (λ e. get nat_cmp live e.0 ≡ Some e.1) es →
    flat_map (λ e. f e.0 (seat_of e.1)) es ≡ flat_map (on_link f (live_in live)) (keys_of es)
each_gives f live [] h = refl
each_gives f live (e ∷ es) h =
    ap (λ xs. f e.0 (seat_of e.1) ++ xs) (each_gives f live es h.1)
    ∙ sym (ap (λ xs. xs ++ flat_map (on_link f (live_in live)) (keys_of es)) (append-nil (f e.0 (seat_of e.1))))
    ∙ sym (ap (λ row. flat_map (f e.0) (option_to_list (option_map seat_of row)) ++ flat_map (on_link f (live_in live)) (keys_of es)) h.0)

pub all_give : {A : Type 0} (f : ℕ → Seat → List A) (live : BTreeMap ℕ Row) → IsOrdered nat_cmp live →
    flat_map (λ e. f e.0 (seat_of e.1)) live.entries ≡ flat_map (on_link f (live_in live)) (keys live)
all_give f live sorted = each_gives f live live.entries (recursion_from_All (λ e. get nat_cmp live e.0 ≡ Some e.1) live.entries (All-found nat_cmp_total live sorted))
