-- A link has ended exactly where an end of it stands in the log, and a tick ends each link that is due.
use Rattle.std.proofs.Common.{◌≡◌, ◌∙◌, sym, ap, ℕ, ◌+◌, ◌≤◌, ◌==◌, ◌&&◌, ◌||◌, List, [], ◌∷◌, refl, arith, map, Bool, true, false, cond, nat_le, nat_lt, Option, Some, None, inl, inr, ◌⊎◌}
use Rattle.std.proofs.lemmas.Bool.{cases_Bool}
use Rattle.std.proofs.lemmas.Bool.Decides.{nat_tests}
use Rattle.std.specs.Option.{is_none, is_some}
use Rattle.pulsar_laws.proofs.ActWords.{Comes, Dials, Ends, LinkAct, numbers_from, Overdue, Part, Rings, ToLink, Act}
use Rattle.pulsar_laws.proofs.RunWords.{Begins, begun_same, dialed, Entry, In, is_live, Options, parts, Then, View, view}
use Rattle.pulsar_laws.proofs.LinkWords.{over_links, Seat}
use Rattle.pulsar_session.specs.Link.{due}
use Rattle.pulsar_calls.specs.Content.{Ticked}
use Rattle.pulsar_links.specs.Alarms.{ringing}
use Rattle.pulsar_links.specs.LinkRules.{due_part, on_link}
use Rattle.pulsar_links.specs.Seats.{Links, has_ended, closing}
use Rattle.pulsar_laws.specs.Laws.{dialed_with}
use Rattle.pulsar_laws.specs.LinkLaws.{DueLinksEnd, EndedIs, end_in, is_end}
use Rattle.pulsar_laws.proofs.Cases.{none_some}
use Rattle.pulsar_laws.proofs.Lists.{in_left, into_flat}
use Rattle.pulsar_laws.proofs.calls.Done.{all_is_done_lem}
use Rattle.pulsar_laws.proofs.calls.Stopping.{in_numbers}
use Rattle.pulsar_laws.proofs.links.Alone.{alone}
use Rattle.pulsar_laws.proofs.links.Rows.{gone_by}
use Rattle.pulsar_run.specs.Things.{row_after, row_by}
use Rattle.pulsar_acts.specs.View.{link_acts, link_gone, link_heard}
use Rattle.pulsar_links.specs.Asks as of_link
use Rattle.pulsar_links.specs.Asks.{Deed, seat_by}
use Rattle.pulsar_calls.specs.declared.act.LinkAct.TheVariants.{Opens, Reads, Drains, Pings}

-- A LINK THAT WAS NOT STARTED

before_next : (l n : ℕ) → nat_lt l (n + 1) ≡ false → nat_lt l n ≡ false
before_next l n h = grind (arith, nat_tests)

not_next : (l n : ℕ) → nat_lt l (n + 1) ≡ false → (l == n) ≡ false
not_next l n h = grind (arith, nat_tests)

-- it was not dialed
pub undialed : (o : Options) (log : List Entry) (l : ℕ) → nat_lt l (view o log).links.started ≡ false → dialed_with o l log ≡ None
undialed o [] l h = refl
undialed o (Begins e ∷ log) l h = undialed o log l (ap (nat_lt l) (sym (begun_same (λ v. v.links.started) e (view o log) refl)) ∙ h)
undialed o (Then (Dials p starter retries) ∷ log) l h =
    let n : ℕ = (view o log).links.started in
    let other : (l == n) ≡ false = not_next l n h in
    rw other (undialed o log l (before_next l n h))
undialed o (Then a ∷ log) l h = undialed o log l h

-- and there is none
unborn : (o : Options) (log : List Entry) (l : ℕ) (row : Option Seat) → nat_lt l (view o log).links.started ≡ false → (view o log).links.live l ≡ row →
    row ≡ None
unborn o log l None h e = refl
unborn o log l (Some seat) h e = absurd (none_some (sym (undialed o log l h) ∙ (alone o log l seat e).dialed))

-- WHAT LEAVES A LINK THERE

none_by : (es : List Deed) (row : Option Seat) → is_none (row_by seat_by es row) ≡ is_none row
none_by [] row = refl
none_by (e ∷ es) None = refl
none_by (e ∷ es) (Some r) = refl

none_gone : (g : Bool) (es : List Deed) (row : Option Seat) → is_none (row_after seat_by None g es row) ≡ (g || is_none row)
none_gone true es row = refl
none_gone false es row = none_by es row

-- of a link that was started
started_so : (b e n : Bool) → (b ≡ false → e ≡ false) → (b && (e || n)) ≡ (e || (b && n))
started_so true e n h = refl
started_so false e n h = sym (ap (λ x. x || false) (h refl))

fresh_ended : (l n : ℕ) → (l == n) ≡ true → (nat_lt l (n + 1) && false) ≡ (nat_lt l n && false)
fresh_ended l n e = either (nat_lt l (n + 1)) (nat_lt l n)
  where
    either : (a b : Bool) → (a && false) ≡ (b && false)
    either true true = refl
    either true false = refl
    either false true = refl
    either false false = refl

unstarted : (l n : ℕ) (b : Bool) → (l == n) ≡ true → (nat_lt l n && b) ≡ false
unstarted l n b e = ap (λ x. x && b) (late l n e)
  where
    late : (l n : ℕ) → (l == n) ≡ true → nat_lt l n ≡ false
    late l n e = grind (arith, nat_tests)

pub up : (l n : ℕ) → nat_lt l n ≡ true → nat_lt l (n + 1) ≡ true
up l n h = grind (arith, nat_tests)

down : (l n : ℕ) → (l == n) ≡ false → nat_lt l n ≡ false → nat_lt l (n + 1) ≡ false
down l n e h = grind (arith, nat_tests)

next_started : (l n : ℕ) → (l == n) ≡ false → nat_lt l (n + 1) ≡ nat_lt l n
next_started l n e = elim (cases_Bool (nat_lt l n)) [ inl t ↦ up l n t ∙ sym t | inr f ↦ down l n e f ∙ sym f ]

none_before : (l : ℕ) → nat_lt l 0 ≡ false
none_before l = grind (arith, nat_tests)

-- ALONG A LOG

same_end : (x : LinkAct) (now : ℕ) (row : Option Seat) → of_link.is_end x now row ≡ is_end x now row
same_end Opens now row = refl
same_end Reads now row = refl
same_end (Drains most) now row = refl
same_end Pings now row = refl
same_end (Ends end) now row = refl

either_end : (is_own e f r : Bool) → e ≡ f → cond is_own (f || r) r ≡ (cond is_own e false || r)
either_end true e f r s = ap (λ b. b || r) (sym s)
either_end false e f r s = refl

-- an end stands in the log where the view lets the link go
pub end_of : (o : Options) (l : ℕ) (log : List Entry) (a : Act) → end_in o l (Then a ∷ log) ≡ (link_gone (view o log) l a || end_in o l log)
end_of o l log (Comes (ToLink k x)) =
    let now : ℕ = (view o log).now in
    let row : Option Seat = (view o log).links.live l in
    either_end (l == k) (of_link.is_end x now row) (is_end x now row) (end_in o l log) (same_end x now row)
end_of o l log a = refl

module _ (o : Options) (l : ℕ) where
  abbrev n : List Entry → ℕ
  n log = (view o log).links.started

  abbrev row : List Entry → Option Seat
  row log = (view o log).links.live l

  abbrev So : List Entry → Type 0
  So log = has_ended l (view o log).links ≡ end_in o l log

  stays : (log : List Entry) (a : Act) → So log →
      (nat_lt l (n log) && is_none (row_after seat_by None (link_gone (view o log) l a) (link_acts (view o log) l a) (row log)))
      ≡ (link_gone (view o log) l a || end_in o l log)
  stays log a so =
      let g : Bool = link_gone (view o log) l a in
      ap (λ b. nat_lt l (n log) && b) (none_gone g (link_acts (view o log) l a) (row log))
      ∙ started_so (nat_lt l (n log)) g (is_none (row log)) (not_gone (cases_Bool g)) ∙ ap (λ b. g || b) so
    where
      not_gone : ((link_gone (view o log) l a ≡ true) ⊎ (link_gone (view o log) l a ≡ false)) → nat_lt l (n log) ≡ false →
          link_gone (view o log) l a ≡ false
      not_gone (inr e) h = e
      not_gone (inl e) h =
          let k = gone_by (view o log) l a e in
          let none : row log ≡ None = unborn o log l (row log) h refl in
          let f : false ≡ true = ap (λ r. is_some (closing k.end (view o log).now r)) (sym none) ∙ k.closes in
          absurd cc

  dials : (log : List Entry) (new : Seat) → So log →
      (nat_lt l (n log + 1) && is_none (row_after seat_by (cond (l == n log) (Some new) None) false [] (row log))) ≡ end_in o l log
  dials log new so = elim (cases_Bool (l == n log)) [
    | inl e ↦
        ap (λ b. nat_lt l (n log + 1) && is_none (row_after seat_by (cond b (Some new) None) false [] (row log))) e
        ∙ fresh_ended l (n log) e
        ∙ unstarted l (n log) false e
        ∙ sym (unstarted l (n log) (is_none (row log)) e)
        ∙ so
    | inr e ↦
        ap (λ b. nat_lt l (n log + 1) && is_none (row_after seat_by (cond b (Some new) None) false [] (row log))) e
        ∙ ap (λ b. b && is_none (row log)) (next_started l (n log) e)
        ∙ so
  ]

  pub ended_so : (log : List Entry) → So log
  ended_so [] = ap (λ b. b && true) (none_before l)
  ended_so (Begins e ∷ log) =
      begun_same (λ v. has_ended l v.links) e (view o log) (ap (λ b. nat_lt l (n log) && b) (none_by (link_heard l e) (row log))) ∙ ended_so log
  ended_so (Then (Dials p starter retries) ∷ log) = dials log (dialed (view o log).chosen (view o log).links.started (view o log).now p) (ended_so log)
  ended_so (Then a ∷ log) = stays log a (ended_so log) ∙ sym (end_of o l log a)

pub ended_is_lem : EndedIs
ended_is_lem o log l = ended_so o l log

-- A DEADLINE

into_map : {A B : Type 0} (f : A → B) (x : A) (xs : List A) → In x xs → In (f x) (map f xs)
into_map f x [] i = i
into_map f x (y ∷ xs) (inl e) = inl (ap f e)
into_map f x (y ∷ xs) (inr i) = inr (into_map f x xs i)

in_due : (ls : Links) (now l : ℕ) (seat : Seat) → ls.live l ≡ Some seat → nat_lt l ls.started ≡ true → due now seat.seen ≡ true →
    In (ToLink l (Ends (Overdue seat.seen.waits.queued))) (over_links (due_part now) ls)
in_due ls now l seat h lt d =
    let part : Part = ToLink l (Ends (Overdue seat.seen.waits.queued)) in
    let own : In part (on_link (due_part now) ls.live l) = rw (h, d) (inl refl) in
    let below_all : nat_lt l (0 + ls.started) ≡ true = grind (arith, nat_tests) in
    into_flat (on_link (due_part now) ls.live) l part (numbers_from 0 ls.started) (in_numbers ls.started 0 l (omega arith) below_all) own

pub started : (o : Options) (log : List Entry) (l : ℕ) (seat : Seat) → (view o log).links.live l ≡ Some seat → nat_lt l (view o log).links.started ≡ true
started o log l seat h = elim (cases_Bool (nat_lt l (view o log).links.started)) [
  | inl e ↦ e
  | inr e ↦ absurd (none_some (sym (unborn o log l ((view o log).links.live l) e refl) ∙ h))
]

not_before : (a b : ℕ) → a ≤ b → nat_le a b ≡ true
not_before a b h = grind (arith, nat_tests)

pub due_links_end_lem : DueLinksEnd
due_links_end_lem o newer older now l seat run rests acts le h d =
    let v : View = view o older in
    let part : Part = ToLink l (Ends (Overdue seat.seen.waits.queued)) in
    let live : is_live v (Ticked now) ≡ true = not_before v.now now le in
    let due_now : In part (over_links (due_part now) v.links) = in_due v.links now l seat h (started o older l seat h) d in
    let i : In part (parts o v (Ticked now)) =
    rw live (in_left part (over_links (due_part now) v.links) (map Rings (ringing now v.alarms)) due_now) in
    all_is_done_lem o newer older (Begins (Ticked now)) (Comes part) run rests acts (into_map Comes part (parts o v (Ticked now)) i)
