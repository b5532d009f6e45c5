-- Links that nothing uses: those that rest, but for those that are heard on or held.
use Rattle.std.proofs.Common.{◌≡◌, ◌==◌, ◌∙◌, ℕ, ◌&&◌, ◌||◌, not, nat_le, nat_lt, ap, sym, refl, arith, Bool, true, false, length, List, [], ◌∷◌, ◌++◌, Option, Some, None, if◌then◌else◌}
use Rattle.std.proofs.lemmas.Bool.Decides.{nat_tests}
use Rattle.std.proofs.lemmas.Grind.{flat_map-append}
use Rattle.std.proofs.lemmas.List.{append-nil}
use Rattle.std.specs.List.{flat_map}
use Rattle.std.specs.Option.{option_to_list}
use Rattle.pulsar_requests.specs.Waits.{is_empty}
use Rattle.pulsar_session.specs.Link.{is_ready}
use Rattle.pulsar_calls.specs.declared.act.Act.TheVariants.{Comes}
use Rattle.pulsar_calls.specs.declared.act.End.TheVariants.{Idles}
use Rattle.pulsar_calls.specs.declared.act.LinkAct.TheVariants.{Ends}
use Rattle.pulsar_calls.specs.declared.act.Part.TheVariants.{ToLink}
use Rattle.pulsar_calls.specs.Content.{numbers_from}
use Rattle.pulsar_links.specs.LinkRules.{is_resting_at, on_link, over_links, resting_at}
use Rattle.pulsar_links.specs.Seats.{Links, Seat, later}
use Rattle.pulsar_consumer_table.specs.Consumers.{Consumers, is_heard}
use Rattle.pulsar_producer_table.specs.Producers.{Producers, is_held}
use Rattle.pulsar_acts.specs.Rules.{idle_act_at}
use Rattle.pulsar_acts.specs.Tables.{is_unused, unused_act}

-- a link rests, none hears on it, and no topic producer is there
none_stand : (standing : ℕ) → (standing == 0) ≡ not (nat_lt 0 standing)
none_stand standing = grind (arith, nat_tests)

idle_by : (ready late empty some heard held : Bool) →
    ((ready && (late && (empty && not some))) && (not heard && not held)) ≡ (ready && (late && not (not empty || (some || (heard || held)))))
idle_by false late empty some heard held = refl
idle_by true false empty some heard held = refl
idle_by true true false some heard held = refl
idle_by true true true true heard held = refl
idle_by true true true false true held = refl
idle_by true true true false false held = refl

idle_is : (ready late empty heard held : Bool) (standing : ℕ) →
    ((ready && (late && (empty && (standing == 0)))) && (not heard && not held))
    ≡ (ready && (late && not (not empty || (nat_lt 0 standing || (heard || held)))))
idle_is ready late empty heard held standing =
    ap (λ b. (ready && (late && (empty && b))) && (not heard && not held)) (none_stand standing)
    ∙ idle_by ready late empty (nat_lt 0 standing) heard held

-- LINK BY LINK

nested : {A B C : Type 0} (g : B → List C) (f : A → List B) (xs : List A) → flat_map g (flat_map f xs) ≡ flat_map (λ x. flat_map g (f x)) xs
nested g f [] = refl
nested g f (x ∷ xs) = flat_map-append g (f x) (flat_map f xs) ∙ ap (λ ys. flat_map g (f x) ++ ys) (nested g f xs)

module _ (now most : ℕ) (cs : Consumers) (ps : Producers) where
  rest_ends : (rests : Bool) (l : ℕ) →
      flat_map (unused_act cs ps) ((if rests then l ∷ [] else []) ++ []) ≡ (if rests && is_unused l cs ps then Comes (ToLink l (Ends Idles)) ∷ [] else [])
  rest_ends false l = refl
  rest_ends true l = append-nil (unused_act cs ps l)

  seat_ends : (l : ℕ) (seat : Seat) → flat_map (unused_act cs ps) (resting_at now most l seat ++ []) ≡ idle_act_at now most cs ps l seat ++ []
  seat_ends l seat =
      rest_ends (is_resting_at now most seat) l
      ∙ ap (λ b. if b then Comes (ToLink l (Ends Idles)) ∷ [] else [])
      (idle_is (is_ready seat.seen.stage) (nat_le (later seat.got most) now) (is_empty seat.seen.waits.waiting) (is_heard cs l) (is_held ps l) (length seat.seen.line))
      ∙ sym (append-nil (idle_act_at now most cs ps l seat))

  row_ends : (l : ℕ) (row : Option Seat) →
      flat_map (unused_act cs ps) (flat_map (resting_at now most l) (option_to_list row)) ≡ flat_map (idle_act_at now most cs ps l) (option_to_list row)
  row_ends l None = refl
  row_ends l (Some seat) = seat_ends l seat

  pub all_end : (ls : Links) → flat_map (unused_act cs ps) (over_links (resting_at now most) ls) ≡ over_links (idle_act_at now most cs ps) ls
  all_end ls =
      nested (unused_act cs ps) (on_link (resting_at now most) ls.live) (numbers_from 0 ls.started)
      ∙ ap (λ f. flat_map f (numbers_from 0 ls.started)) (λ i l. row_ends l (ls.live l) i)
