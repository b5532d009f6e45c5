-- What acts make of a link, as its rows are written by the code.
use Rattle.std.proofs.Common.{◌≡◌, ℕ, ◌==◌, Bool, true, false, cond, List, [], ◌∷◌, map, refl, Option, Some, None}
use Rattle.std.specs.Option.{is_some, option_map, option_to_list}
use Rattle.pulsar_addresses.specs.Address.{Place}
use Rattle.pulsar_messages.specs.Words.{Words}
use Rattle.pulsar_calls.specs.declared.act.Act.TheVariants.{Comes, Dials, Does}
use Rattle.pulsar_calls.specs.declared.act.Action.TheVariants.{Ask, Get}
use Rattle.pulsar_calls.specs.declared.act.LinkAct.{LinkAct}
use Rattle.pulsar_calls.specs.declared.act.LinkAct.TheVariants.{Opens, Reads, Drains, Pings, Ends}
use Rattle.pulsar_calls.specs.declared.act.Part.TheVariants.{ToLink}
use Rattle.pulsar_calls.specs.declared.act.Who.{Who}
use Rattle.pulsar_calls.specs.Content.{Bytes}
use Rattle.pulsar_run.specs.Things.{row_after, row_by}
use Rattle.pulsar_links.specs.Asks.{Deed, IsAsked, IsClosed, IsFed, IsGot, comes_by, got_by, is_end, seat_by}
use Rattle.pulsar_links.specs.Links.{closed_by}
use Rattle.pulsar_links.specs.Seats.{Seat, got_at, seat_asked, seat_fed, took_end, took_some}
use Rattle.pulsar_acts.specs.View.{View, dialed, link_got, link_row, live_begun}

-- one thing is done to one of the rows
row_either : (b : Bool) (d : Deed) (row : Option Seat) → row_by seat_by (cond b (d ∷ []) []) row ≡ cond b (option_map (seat_by d) row) row
row_either true d row = refl
row_either false d row = refl

pub took_one : (x : LinkAct) (now : ℕ) (row : Option Seat) →
    row_after seat_by None (is_end x now row) (comes_by x now row) row ≡ took_some x now row
took_one Opens now None = refl
took_one Opens now (Some seat) = refl
took_one Reads now None = refl
took_one Reads now (Some seat) = refl
took_one (Drains most) now None = refl
took_one (Drains most) now (Some seat) = refl
took_one Pings now None = refl
took_one Pings now (Some seat) = refl
took_one (Ends end) now None = refl
took_one (Ends end) now (Some seat) =
    elim (closed_by end now seat.seen) as
    (λ c. row_after seat_by None (is_some c) (map IsClosed (option_to_list c)) (Some seat) ≡ took_end c seat) [ None ↦ refl | Some cause ↦ refl ]

pub took_is : (v : View) (k : ℕ) (x : LinkAct) (l : ℕ) →
    link_row v (Comes (ToLink k x)) l (v.links.live l) ≡ cond (l == k) (took_some x v.now (v.links.live l)) (v.links.live l)
took_is v k x l = by (l == k)
  where
    row : Option Seat
    row = v.links.live l

    by : (b : Bool) →
        row_after seat_by None (cond b (is_end x v.now row) false) (cond b (comes_by x v.now row) []) row ≡ cond b (took_some x v.now row) row
    by true = took_one x v.now row
    by false = refl

pub asked_is : (v : View) (who : Who) (k : ℕ) (request : Words) (l : ℕ) →
    link_row v (Does who (Ask k request)) l (v.links.live l) ≡ cond (l == k) (option_map (seat_asked who v.now request) (v.links.live l)) (v.links.live l)
asked_is v who k request l = row_either (l == k) (IsAsked who v.now request) (v.links.live l)

pub got_row : (link : Option ℕ) (now l : ℕ) (row : Option Seat) → row_by seat_by (got_by l link now) row ≡ got_at link now l row
got_row None now l row = refl
got_row (Some k) now l row = row_either (l == k) (IsGot now) row

pub dialed_is : (v : View) (p : Place) (starter : Who) (n l : ℕ) (row : Option Seat) →
    link_row v (Dials p starter n) l row ≡ cond (l == v.links.started) (Some (dialed v.chosen v.links.started v.now p)) row
dialed_is v p starter n l row =
    elim (l == v.links.started) as
    (λ b. row_after seat_by (cond b (Some (dialed v.chosen v.links.started v.now p)) None) false [] row
    ≡ cond b (Some (dialed v.chosen v.links.started v.now p)) row)
    [ true ↦ refl | false ↦ refl ]

pub fed_is : (k : ℕ) (piece : List ℕ) (l : ℕ) (row : Option Seat) → live_begun (Bytes k piece) l row ≡ cond (l == k) (option_map (seat_fed piece) row) row
fed_is k piece l row = row_either (l == k) (IsFed piece) row
