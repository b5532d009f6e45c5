-- What is kept of a link by all that is done to it; and that one which was ready is so until it ends.
use Rattle.std.proofs.Common.{◌≡◌, ◌∙◌, sym, ap, subst, ℕ, ◌+◌, List, ◌∷◌, refl, drop, arith, nat_lt, Bool, true, false, ◌++◌, ◌==◌, Option, Some, None, Result, Ok, Err}
use Rattle.std.proofs.lemmas.Bool.Decides.{nat_tests}
use Rattle.pulsar_laws.proofs.ActWords.{Act, Dials}
use Rattle.pulsar_laws.proofs.RunWords.{Begins, begun_same, calls_of, Entry, Options, Then, view, View}
use Rattle.pulsar_laws.proofs.LinkWords.{answer_at, ConnectionError, is_numbered, Seat, SendPing, Words}
use Rattle.pulsar_frame.specs.Frame.{Front, Short, Refused, Whole, front}
use Rattle.pulsar_requests.specs.Waits.{places}
use Rattle.pulsar_session.specs.declared.states.Asked.{Asked as Placed}
use Rattle.pulsar_session.specs.declared.states.Stage.{Stage}
use Rattle.pulsar_session.specs.declared.states.Stage.TheVariants.{Ready}
use Rattle.pulsar_session.specs.Link.{Act as Act', Opens as Opens', Feeds, Takes, Asks, Drains as Drains', Closes, Seen, after as after', after_of, answer_of, answered, drawn, is_open, is_ready, moved_up, number_for, opens_in, request, settled_by, taken_in, ticked}
use Rattle.pulsar_session.specs.Laws.{IsInLine}
use Rattle.pulsar_session.proofs.Others.{none_stands_beside_room}
use Rattle.pulsar_session.proofs.Pieces.{asks_for_apart, unless_stage}
use Rattle.pulsar_laws.proofs.Cases.{cond_so}
use Rattle.pulsar_laws.proofs.links.Alone.{is_close, links_alone_lem}
use Rattle.pulsar_links.specs.Asks.{Deed, IsAsked, IsClosed, IsDrained, IsFed, IsGot, IsOpened, IsPinged, IsRead, seat_by}
use Rattle.pulsar_laws.proofs.links.Rows.{CameFrom, after_holds, begun_holds}
use Rattle.pulsar_laws.proofs.links.Early.{drawn_stage, moved_stage, ready_of}
use Rattle.pulsar_laws.proofs.calls.Stopping.{is_started}

-- A CONNECTION that is ready stays so, until it is closed

abbrev pub IsReady : Seen → Type 0
IsReady v = is_ready v.stage ≡ true

same_ready : (v w : Seen) → w.stage ≡ v.stage → IsReady v → IsReady w
same_ready v w e h = ap is_ready e ∙ h

opens_ready : (stage : Stage) (v : Seen) → is_ready stage ≡ true → IsReady v → IsReady (opens_in stage v)
opens_ready Ready v s h = h
opens_ready stage v s h = absurd cc

taken_ready : (stage : Stage) (f : Front) (v : Seen) → is_ready stage ≡ true → IsReady v → IsReady (taken_in stage f v)
taken_ready Ready Short v s h = h
taken_ready Ready (Refused r) v s h = h
taken_ready Ready (Whole m rest) v s h =
    let u : Seen = record v { unread = rest } in
    same_ready v (taken_in Ready (Whole m rest) v) (unless_stage (places (settled_by m u)) m (answered m u)) h
taken_ready stage f v s h = absurd cc

asked_ready : (n : Result ℕ ConnectionError) (now : ℕ) (words : Words) (v : Seen) → IsReady v → IsReady (after_of n now words v)
asked_ready (Err e) now words v h = h
asked_ready (Ok id) now words v h =
    same_ready v (after_of (Ok id) now words v)
    ((asks_for_apart (request id now words)).stage (drawn (is_numbered words) v) ∙ drawn_stage (is_numbered words) v) h

stays_ready : (act : Act') (v : Seen) → is_close act ≡ false → IsReady v → IsReady (after' act v)
stays_ready (Opens' now) v c h = opens_ready v.stage (ticked now v) h h
stays_ready (Feeds piece) v c h = cond_so IsReady (is_open v.stage) (record v { unread = v.unread ++ piece }) v h h
stays_ready (Takes now) v c h = taken_ready v.stage (front v.unread) (ticked now v) h h
stays_ready (Asks now words) v c h = asked_ready (number_for (is_numbered words) v) now words (ticked now v) h
stays_ready (Drains' most now) v c h =
    let b : Seen = record (ticked now v) { unwritten = drop most v.unwritten } in
    cond_so IsReady (is_open v.stage) (moved_up v.line b) (ticked now v) (same_ready v (moved_up v.line b) (moved_stage v.line b) h) h
stays_ready (Closes cause) v c h = absurd cc

-- A LINK, where it has not ended. What its acts keep of a connection remains so.

abbrev pub IsAt : (Seen → Type 0) → Option Seat → Type 0
IsAt P None = Unit {0}
IsAt P (Some seat) = P seat.seen

-- the connection of a link has no frame in its line where there is room
pub in_seat : (o : Options) (log : List Entry) (l : ℕ) (seat : Seat) → (view o log).links.live l ≡ Some seat → IsInLine seat.seen
in_seat o log l seat e = let k = links_alone_lem o log l seat e in subst IsInLine (sym k.2) (none_stands_beside_room k.0 (calls_of o l log))

-- no link is started twice
not_next : (l n : ℕ) → nat_lt l n ≡ true → (l == n) ≡ false
not_next l n h = grind (arith, nat_tests)

abbrev pub Keeps : (Seen → Type 0) → Type 0
Keeps P = (act : Act') (v : Seen) → is_close act ≡ false → IsInLine v → P v → P (after' act v)

module _ (P : Seen → Type 0) (keeps : Keeps P) where
  did_at : (v : View) (l : ℕ) (a : Act) (d : Deed) → CameFrom v l a d → (seat : Seat) → IsInLine seat.seen → P seat.seen → P (seat_by d seat).seen
  did_at v l a (IsOpened now) c seat r h = keeps (Opens' now) seat.seen refl r h
  did_at v l a (IsRead now) c seat r h = keeps (Takes now) seat.seen refl r h
  did_at v l a (IsDrained most now) c seat r h = keeps (Drains' most now) seat.seen refl r h
  did_at v l a (IsPinged now) c seat r h = keeps (Asks now SendPing) seat.seen refl r h
  did_at v l a (IsAsked who now request) c seat r h = keeps (Asks now request) seat.seen refl r h
  did_at v l a (IsGot now) c seat r h = h
  did_at v l a (IsFed piece) c seat r h = absurd c
  did_at v l a (IsClosed cause) c seat r h = absurd c

  -- so what is so of a link that was started stays so
  pub more_at : (o : Options) (e : Entry) (log : List Entry) (l : ℕ) → nat_lt l (view o log).links.started ≡ true → IsAt P ((view o log).links.live l) →
      IsAt P ((view o (e ∷ log)).links.live l)
  more_at o (Begins e) log l s h =
      begun_holds (IsAt P) (view o log) l e (λ piece is seat at k. keeps (Feeds piece) seat.seen refl (in_seat o log l seat at) k) h
  more_at o (Then a) log l s h =
      after_holds (IsAt P) (view o log) l a (λ seat d. (let f : true ≡ false = sym d.is_next ∙ not_next l (view o log).links.started s in absurd cc))
      (λ end. tt) (λ d c seat at k. did_at (view o log) l a d c seat (in_seat o log l seat at) k) h

-- it was ready once: it is so still, or has ended
pub record WasReady (v : View) (l : ℕ) : Type 0 where
  pub started : nat_lt l v.links.started ≡ true
  pub now : IsAt IsReady (v.links.live l)

one_more : (l n : ℕ) → nat_lt l n ≡ true → nat_lt l (n + 1) ≡ true
one_more l n h = grind (arith, nat_tests)

started_more : (o : Options) (e : Entry) (log : List Entry) (l : ℕ) → nat_lt l (view o log).links.started ≡ true →
    nat_lt l (view o (e ∷ log)).links.started ≡ true
started_more o (Begins e) log l h = subst (λ n. nat_lt l n ≡ true) (sym (begun_same (λ v. v.links.started) e (view o log) refl)) h
started_more o (Then (Dials p starter n)) log l h = one_more l (view o log).links.started h
started_more o (Then a) log l h = h

pub more_ready : (o : Options) (e : Entry) (log : List Entry) (l : ℕ) → WasReady (view o log) l → WasReady (view o (e ∷ log)) l
more_ready o e log l h = record {
  started = started_more o e log l h.started;
  now = more_at IsReady (λ act v c r k. stays_ready act v c k) o e log l h.started h.now;
}

-- where a link takes what is asked of it, it is ready
taken_so : (numbered : Bool) (now : ℕ) (words : Words) (v : Seen) (n : Result ℕ ConnectionError) (placed : Placed) → number_for numbered v ≡ n →
    answer_of n now words (ticked now v) ≡ Ok placed → IsReady v
taken_so numbered now words v (Err e) placed is h = absurd cc
taken_so numbered now words v (Ok id) placed is h = ready_of numbered v id is

row_ready : (now : ℕ) (words : Words) (row : Option Seat) (placed : Placed) → answer_at now words row ≡ Ok placed → IsAt IsReady row
row_ready now words None placed h = tt
row_ready now words (Some seat) placed h = taken_so (is_numbered words) now words seat.seen (number_for (is_numbered words) seat.seen) placed refl h

pub takes_ready : (o : Options) (log : List Entry) (l : ℕ) (words : Words) (placed : Placed) →
    answer_at (view o log).now words ((view o log).links.live l) ≡ Ok placed → WasReady (view o log) l
takes_ready o log l words placed h = record {
  started = by ((view o log).links.live l) refl h;
  now = row_ready (view o log).now words ((view o log).links.live l) placed h;
}
  where
    by : (row : Option Seat) → (view o log).links.live l ≡ row → answer_at (view o log).now words row ≡ Ok placed →
        nat_lt l (view o log).links.started ≡ true
    by None e k = absurd cc
    by (Some seat) e k = is_started o log l seat e
