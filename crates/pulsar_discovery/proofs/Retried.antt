-- The next attempt of a series is waited for where a retry was told, until it is started.
use Rattle.std.proofs.Common.{◌≡◌, ◌∙◌, sym, ap, subst, refl, ℕ, ◌<◌, ◌≤◌, Bool, true, false, ◌||◌, IsTrue, List, [], ◌∷◌, ◌++◌, inl, inr, Option, Some, None, ◌==◌, if◌then◌else◌, append-nil, arith}
use Rattle.pulsar_session.specs.Link as session
use Rattle.pulsar_session.specs.declared.states.Stage.{Stage}
use Rattle.pulsar_session.specs.declared.states.Stage.TheVariants as stages
use Rattle.pulsar_session.specs.declared.states.Stage.TheVariants.{Dialing, Handshaking, Over}
use Rattle.pulsar_addresses.specs.Address.{Place, is_reachable}
use Rattle.pulsar_addresses.specs.Backoff.{one_more}
use Rattle.pulsar_discovery.specs.declared.addresses.Phase.{Phase}
use Rattle.pulsar_discovery.specs.declared.addresses.Phase.TheVariants.{Runs, Pauses, Serves}
use Rattle.pulsar_discovery.specs.declared.addresses.Seat.{Seat}
use Rattle.pulsar_discovery.specs.declared.manager.Seen.{Seen}
use Rattle.pulsar_discovery.specs.declared.manager.Terms.{Terms}
use Rattle.pulsar_discovery.specs.declared.manager.Seen.TheVariants as seen
use Rattle.pulsar_discovery.specs.Manager.{Known, after_again_at, after_got, after_seen, is_pause, is_pausing, phase_after, retries_of, seen_at, seen_running, starts}
use Rattle.pulsar_discovery.specs.Series.{in_phase, put_at, reseated, seat_of, standing, without}
use Rattle.pulsar_discovery.specs.History.{Does, Event, IsHistory, IsRetried, Looks, Retries, Wants, address_of, change, known_after, retries_made, told_of, was_retried}
use Rattle.pulsar_discovery.specs.Laws.{RetriesAreWaitedFor}
use Rattle.pulsar_discovery.proofs.Cases.{apart, at, nothing_more, off, reseated_at, reseated_off, same, seat_left, which}
use Rattle.pulsar_discovery.proofs.Sound.{Fits, Holds, Sound, sound, stands}

-- of a connection: none of its series was started since where it has a seat, and one was where it was told a retry and has none
abbrev Since : Option Seat → List Seen → Bool → Type 0
Since None ms b = IsRetried ms → b ≡ true
Since (Some s) ms b = b ≡ false

record Waited (k : Known) (ms : ℕ → List Seen) (was : ℕ → Bool) : Type 0 where
  since : (l : ℕ) → Since (k.series.seat l) (ms l) (was l)
  unused : (l : ℕ) → k.links ≤ l → was l ≡ false

since_too : (s z : Option Seat) (ms ns : List Seen) (b c : Bool) → z ≡ s → ns ≡ ms → c ≡ b → Since s ms b → Since z ns c
since_too s z ms ns b c e f g x = subst (λ y. Since y ns c) (sym e) (subst (λ y. Since s y c) (sym f) (subst (λ y. Since s ms y) (sym g) x))

module _ (k : Known) (ms : ℕ → List Seen) (was : ℕ → Bool) (x : Waited k ms was) where
  untold : Waited k (λ l. ms l ++ []) was
  untold = record { since = λ l. since_too (k.series.seat l) (k.series.seat l) (ms l) (ms l ++ []) (was l) (was l) refl (append-nil (ms l)) refl (x.since l); unused = x.unused }

  first : (p : Place) (now : ℕ) → Waited (starts p 0 now k) ms was
  first p now = record {
    since = λ l. elim (which l k.links) [
      | inl one ↦ since_too (Some (seat_of p (Runs 0))) (put_at k.links (Some (seat_of p (Runs 0))) k.series.seat l) (ms l) (ms l) false (was l)
          (subst (λ m. put_at k.links (Some (seat_of p (Runs 0))) k.series.seat m ≡ Some (seat_of p (Runs 0))) (sym one) (at k.links (Some (seat_of p (Runs 0))) k.series.seat))
          refl (x.unused l (omega (arith, one))) refl
      | inr two ↦ since_too (k.series.seat l) (put_at k.links (Some (seat_of p (Runs 0))) k.series.seat l) (ms l) (ms l) (was l) (was l) (off l k.links (Some (seat_of p (Runs 0))) k.series.seat two) refl refl (x.since l)
    ];
    unused = λ l le. x.unused l (omega (arith, le));
  }

  moved : (l : ℕ) (p : Place) (phase : Phase) (s : Seat) → k.series.seat l ≡ Some s → Waited (record k { series = in_phase l p phase k.series }) ms was
  moved l p phase s here = record {
    since = λ m. elim (which m l) [
      | inl one ↦ since_too (Some (seat_of p phase)) (put_at l (Some (seat_of p phase)) k.series.seat m) (ms m) (ms m) (was m) (was m)
          (subst (λ y. put_at l (Some (seat_of p phase)) k.series.seat y ≡ Some (seat_of p phase)) (sym one) (at l (Some (seat_of p phase)) k.series.seat))
          refl refl (subst (λ y. Since y (ms m) (was m)) (ap k.series.seat one ∙ here) (x.since m))
      | inr two ↦ since_too (k.series.seat m) (put_at l (Some (seat_of p phase)) k.series.seat m) (ms m) (ms m) (was m) (was m) (off m l (Some (seat_of p phase)) k.series.seat two) refl refl (x.since m)
    ];
    unused = x.unused;
  }

  tried : (l now r : ℕ) (s : Seat) → l < k.links → Waited (starts s.address r now (record k { series = without l k.series })) ms (λ m. m == l || was m)
  tried l now r s below = record {
    since = λ m. elim (which m k.links) [
      | inl one ↦ since_too (Some new) (put_at k.links (Some new) gone m) (ms m) (ms m) false (m == l || was m)
          (subst (λ y. put_at k.links (Some new) gone y ≡ Some new) (sym one) (at k.links (Some new) gone)) refl
          (ap (λ b. b || was m) (apart m l (λ mine. omega (arith, below, one, mine))) ∙ x.unused m (omega (arith, one))) refl
      | inr two ↦ (elim (which m l) [
        | inl mine ↦ since_too None (put_at k.links (Some new) gone m) (ms m) (ms m) true (m == l || was m)
            (off m k.links (Some new) gone two ∙ subst (λ y. put_at l None k.series.seat y ≡ None) (sym mine) (at l None k.series.seat)) refl
            (ap (λ b. b || was m) (subst (λ y. (y == l) ≡ true) (sym mine) (same l))) (λ h. refl)
        | inr other ↦ since_too (k.series.seat m) (put_at k.links (Some new) gone m) (ms m) (ms m) (was m) (m == l || was m)
            (off m k.links (Some new) gone two ∙ off m l None k.series.seat other) refl (ap (λ b. b || was m) other) (x.since m)
      ])
    ];
    unused = λ m le. ap (λ b. b || was m) (apart m l (λ mine. omega (arith, below, le, mine))) ∙ x.unused m (omega (arith, le));
  }
    where
      new : Seat
      new = seat_of s.address (Runs r)

      gone : ℕ → Option Seat
      gone = put_at l None k.series.seat

-- a look at a connection that loses its seat tells no retry
abbrev Goes : Terms → (l now : ℕ) → Seat → List Seen → Bool → Seen → Type 0
Goes u l now s ms b what = Since (seat_left s.address (phase_after now s.phase what)) (ms ++ change what) b

look_since : (u : Terms) (l now : ℕ) (s : Seat) (c : Option session.Seen) (p : Option Place) (ms : List Seen) (b : Bool) → Fits (Some s) c p ms → b ≡ false → Goes u l now s ms b (seen_at u l (Some s) c)
look_since u l now s c None ms b h e = absurd h
look_since u l now s c (Some p) ms b h e = by s.phase refl c h.1
  where
    failed : (delay : ℕ) (t : Bool) → ms ≡ [] → Goes u l now s ms b (if t then seen.Retry delay else seen.Failed)
    failed delay true none = e
    failed delay false none = subst (λ ns. IsRetried (ns ++ seen.Failed ∷ []) → b ≡ true) (sym none) (λ no_retry. absurd no_retry)

    ran : (r : ℕ) (d : session.Seen) (stage : Stage) → ms ≡ [] → Goes u l now s ms b (seen_running u l r stage d.error)
    ran r d Dialing none = e
    ran r d Handshaking none = e
    ran r d stages.Ready none = e
    ran r d Over none = failed _ _ none

    serves : (over : Bool) → ms ≡ seen.Ready ∷ [] → Goes u l now s ms b (if over then seen.Ended else seen.Same)
    serves true told = subst (λ ns. IsRetried (ns ++ seen.Ended ∷ []) → b ≡ true) (sym told) (λ no_retry. absurd no_retry)
    serves false told = e

    by : (phase : Phase) → s.phase ≡ phase → (c : Option session.Seen) → Holds phase c ms → Goes u l now s ms b (seen_at u l (Some (seat_of s.address phase)) c)
    by phase is None g = e
    by (Runs r) is (Some d) g = ran r d d.stage g
    by (Pauses r) is (Some d) g = e
    by (Serves since) is (Some d) g = serves (session.is_over d.stage) g.0

looked : (k : Known) (a : ℕ → Option Place) (ms : ℕ → List Seen) (was : ℕ → Bool) (l now : ℕ) (st : Option Seat) → k.series.seat l ≡ st → Fits st (k.connection l) (a l) (ms l) → Waited k ms was →
    Waited (after_seen l now st (seen_at k.terms l st (k.connection l)) k) (λ m. ms m ++ (if m == l then change (seen_at k.terms l st (k.connection l)) else [])) was
looked k a ms was l now None here fits x = record {
  since = λ m. since_too (k.series.seat m) (k.series.seat m) (ms m) (ms m ++ (if m == l then [] else [])) (was m) (was m) refl (nothing_more (m == l) (ms m)) refl (x.since m);
  unused = x.unused;
}
looked k a ms was l now (Some s) here fits x = record {
  since = λ m. elim (which m l) [
    | inl one ↦ since_too (seat_left s.address (phase_after now s.phase what)) ((reseated l s.address (phase_after now s.phase what) k.series).seat m) (ms m ++ change what) (ms m ++ (if m == l then change what else [])) (was m) (was m)
        (subst (λ y. (reseated l s.address (phase_after now s.phase what) k.series).seat y ≡ seat_left s.address (phase_after now s.phase what)) (sym one) (reseated_at l s.address (phase_after now s.phase what) k.series))
        (ap (λ b. ms m ++ (if b then change what else [])) (subst (λ y. (y == l) ≡ true) (sym one) (same l))) refl
        (subst (λ y. Since (seat_left s.address (phase_after now s.phase what)) (ms y ++ change what) (was y)) (sym one)
        (look_since k.terms l now s (k.connection l) (a l) (ms l) (was l) fits (subst (λ y. Since y (ms l) (was l)) here (x.since l))))
    | inr two ↦ since_too (k.series.seat m) ((reseated l s.address (phase_after now s.phase what) k.series).seat m) (ms m) (ms m ++ (if m == l then change what else [])) (was m) (was m)
        (reseated_off m l s.address (phase_after now s.phase what) k.series two) (ap (λ b. ms m ++ (if b then change what else [])) two ∙ append-nil (ms m)) refl (x.since m)
  ];
  unused = x.unused;
}
  where
    what : Seen
    what = seen_at k.terms l (Some s) (k.connection l)

module _ (t : Terms) (k : Known) (a : ℕ → Option Place) (ms : ℕ → List Seen) (rs : ℕ → ℕ) (was : ℕ → Bool) (y : Sound t k a ms rs) (x : Waited k ms was) where
  wanted : (p : Place) (now : ℕ) (b : Bool) (st : Option (ℕ × Phase)) → standing p k.series ≡ st → Waited (if b then after_got p now st k else k) ms was
  wanted p now false st e = x
  wanted p now true None e = first k ms was x p now
  wanted p now true (Some (l, Runs r)) e = x
  wanted p now true (Some (l, Pauses r)) e = x
  wanted p now true (Some (l, Serves since)) e = let z = stands t k a ms rs y p l (Serves since) e in moved k ms was x l p (Serves now) z.0 z.1

  again : (l now : ℕ) (st : Option Seat) → k.series.seat l ≡ st → IsTrue (is_pausing st) → Waited (after_again_at l now st k) ms (λ m. m == l || was m)
  again l now None e g = absurd cc
  again l now (Some s) e g = tried k ms was x l now (one_more (retries_of s.phase)) s (y.books.below l s e)

waited : (t : Terms) (h : List Event) → IsHistory t h → Waited (known_after t h) (λ l. told_of t l h) (λ l. was_retried l h)
waited t [] ok = record { since = λ l no_retry. absurd no_retry; unused = λ l le. refl }
waited t (Wants p now ∷ h) ok =
    let k = known_after t h in
    let told : ℕ → List Seen = λ l. told_of t l h in
    untold _ told (λ l. was_retried l h) (wanted t k (λ l. address_of t l h) told (retries_made t h) (λ l. was_retried l h) (sound t h ok.1) (waited t h ok.1) p now (is_reachable p) (standing p k.series) refl)
waited t (Does l act ∷ h) ok = let x = waited t h ok.1 in untold _ (λ l. told_of t l h) (λ l. was_retried l h) (record { since = x.since; unused = x.unused })
waited t (Looks l now ∷ h) ok =
    looked (known_after t h) (λ l. address_of t l h) (λ l. told_of t l h) (λ l. was_retried l h) l now ((known_after t h).series.seat l) refl ((sound t h ok.1).fits l) (waited t h ok.1)
waited t (Retries l now ∷ h) ok =
    let k = known_after t h in
    untold _ (λ l. told_of t l h) (λ m. m == l || was_retried m h) (again t k (λ l. address_of t l h) (λ l. told_of t l h) (retries_made t h) (λ l. was_retried l h) (sound t h ok.1) (waited t h ok.1) l now (k.series.seat l) refl ok.0)

pub retries_are_waited_for : RetriesAreWaitedFor
retries_are_waited_for t h ok l = (there s c p ms ((sound t h ok).fits l) was ((waited t h ok).since l), back s c p ms ((sound t h ok).fits l) was ((waited t h ok).since l))
  where
    s : Option Seat
    s = (known_after t h).series.seat l

    c : Option session.Seen
    c = (known_after t h).connection l

    p : Option Place
    p = address_of t l h

    ms : List Seen
    ms = told_of t l h

    was : Bool
    was = was_retried l h

    pauses : (phase : Phase) (c : Option session.Seen) (ms : List Seen) → Holds phase c ms → IsTrue (is_pause phase) → IsRetried ms
    pauses (Runs r) c ms h g = absurd cc
    pauses (Pauses r) None ms h g = h
    pauses (Pauses r) (Some c) ms h g = absurd h
    pauses (Serves since) c ms h g = absurd cc

    there : (s : Option Seat) (c : Option session.Seen) (p : Option Place) (ms : List Seen) → Fits s c p ms → (b : Bool) → Since s ms b → IsTrue (is_pausing s) → IsRetried ms × (b ≡ false)
    there None c p ms h b x g = absurd cc
    there (Some s) c None ms h b x g = absurd h
    there (Some s) c (Some p) ms h b x g = (pauses s.phase c ms h.1 g, x)

    told : (phase : Phase) (c : Option session.Seen) (ms : List Seen) → Holds phase c ms → IsRetried ms → IsTrue (is_pause phase)
    told (Runs r) None ms h g = absurd h
    told (Runs r) (Some c) ms h g = absurd (subst IsRetried h g)
    told (Pauses r) c ms h g = refl
    told (Serves since) None ms h g = absurd h
    told (Serves since) (Some c) ms h g = absurd (subst IsRetried h.0 g)

    back : (s : Option Seat) (c : Option session.Seen) (p : Option Place) (ms : List Seen) → Fits s c p ms → (b : Bool) → Since s ms b → IsRetried ms × (b ≡ false) → IsTrue (is_pausing s)
    back None c p ms h b x g = absurd (let yes_it_is = x g.0 in let not_yet = g.1 in cc)
    back (Some s) c None ms h b x g = absurd h
    back (Some s) c (Some p) ms h b x g = told s.phase c ms h.1 g.0
