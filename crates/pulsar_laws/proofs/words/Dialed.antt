-- What a link was dialed with stays so, and so does its timeout; its clock is not ahead of that of the client.
use Rattle.std.proofs.Common.{◌≡◌, ◌∙◌, sym, ap, subst, ℕ, ◌+◌, ◌≤◌, ◌==◌, List, [], ◌∷◌, ◌++◌, refl, arith, drop, Bool, true, false, cond, nat_le, nat_lt, Option, Some, None, Result, Ok, Err, inl, inr}
use Rattle.std.proofs.lemmas.Bool.{cases_Bool, eq-eqb}
use Rattle.std.proofs.lemmas.Bool.Decides.{nat_tests}
use Rattle.std.specs.List.{list_any}
use Rattle.std.specs.BTreeSet.{insert_key}
use Rattle.std.specs.Option.{option_map}
use Rattle.std.specs.Ordering.{nat_cmp}
use Rattle.std.specs.Prelude.{unwrap_or}
use Rattle.url.specs.Host.{host_text}
use Rattle.url.specs.Parts.{nonempty_host}
use Rattle.url.specs.declared.host.Host.{Host}
use Rattle.pulsar_laws.proofs.ActWords.{Act as Done, Bytes, Dials, Heard, Who}
use Rattle.pulsar_laws.proofs.RunWords.{Begins, begun, begun_live, begun_same, calls_of, Entry, Options, Then, View, view}
use Rattle.pulsar_laws.proofs.LinkWords.{ConnectionError, is_numbered, Place, Seat, SendPing, Words}
use Rattle.pulsar_frame.specs.Frame.{Front, Whole, front}
use Rattle.pulsar_frame.specs.Message.{MessageValues}
use Rattle.pulsar_messages.specs.Claims.{claim}
use Rattle.pulsar_messages.specs.Content.{AuthenticationValues}
use Rattle.pulsar_requests.specs.Waits.{Pending, Waits, ended, later_of, places, request_at, request_of}
use Rattle.pulsar_wire.specs.Awaited.{is_same}
use Rattle.pulsar_wire.specs.declared.awaited.Awaited.TheVariants.{Reply}
use Rattle.pulsar_wire.specs.Sink.{capped}
use Rattle.pulsar_wire.specs.declared.awaited.Claim.{Claim}
use Rattle.pulsar_session.proofs.Deadlines.{queued_waits}
use Rattle.pulsar_session.specs.Answers.{is}
use Rattle.pulsar_session.specs.declared.states.Stage.{Stage}
use Rattle.pulsar_session.specs.declared.states.Stage.TheVariants.{Dialing, Handshaking, Over, Ready}
use Rattle.pulsar_session.specs.Link as session
use Rattle.pulsar_session.specs.Link.{Act, Asks, Closes, Drains, Feeds, Opens, Request, Seen, Setup, Standing, Takes, after_of, answered, asks_for, bare, can_wait, challenged, drawn, due_in, frame_for, greeted, greeting, greets_with, has_room, is_open, is_over, moved_up, named_by, number_for, opens_in, pongs, put_frame, put_in, queue, reacts, reacts_unless, request, responds, settled_by, taken_in, ticked, unready_in}
use Rattle.pulsar_calls.specs.Content.{Connect, Ticked}
use Rattle.pulsar_links.specs.LinkEffects.{connects_to}
use Rattle.pulsar_links.specs.Asks.{Deed, IsAsked, IsClosed, IsDrained, IsFed, IsGot, IsOpened, IsPinged, IsRead, seat_by}
use Rattle.pulsar_acts.specs.Effects.{effects}
use Rattle.pulsar_acts.specs.View.{setup}
use Rattle.pulsar_laws.specs.Laws.{dialed_with}
use Rattle.pulsar_laws.specs.WordLaws.{ByOptions, LinksAreDialed, LinksAreDue, RequestsAreDue, due_so}
use Rattle.pulsar_laws.proofs.Cases.{cond_so, none_some, some_is}
use Rattle.pulsar_laws.proofs.links.Alone.{alone}
use Rattle.pulsar_laws.proofs.links.Rows.{CameFrom, after_holds, begun_holds}

-- WHAT AN ACT LEAVES of a connection, but for the moment that it tells

record Fixed (v w : Seen) : Type 0 where
  setup : w.setup ≡ v.setup
  timeout : w.waits.timeout ≡ v.waits.timeout
  clock : w.waits.clock ≡ v.waits.clock

same : (v : Seen) → Fixed v v
same v = record { setup = refl; timeout = refl; clock = refl }

then : (u v w : Seen) → Fixed u v → Fixed v w → Fixed u w
then u v w a b = record { setup = b.setup ∙ a.setup; timeout = b.timeout ∙ a.timeout; clock = b.clock ∙ a.clock }

either : (b : Bool) (v x y : Seen) → Fixed v x → Fixed v y → Fixed v (cond b x y)
either true v x y h g = h
either false v x y h g = g

put : (room w : Bool) (frame : List ℕ) (c : Option Claim) (v : Seen) → Fixed v (put_in room w frame c v)
put true w frame c v = record { setup = refl; timeout = refl; clock = refl }
put false true frame c v = record { setup = refl; timeout = refl; clock = refl }
put false false frame c v = same v

put_any : (frame : Option (List ℕ)) (w : Bool) (c : Option Claim) (v : Seen) → Fixed v (put_frame frame w c v)
put_any None w c v = same v
put_any (Some frame) w c v = put (has_room v) w frame c v

asking : (r : Request) (v : Seen) → Fixed v (asks_for r v)
asking r v = put_any (frame_for r.message) (can_wait r.when_full) r.claim v

reacting : (m : MessageValues) (v : Seen) → Fixed v (reacts m v)
reacting m v =
    either (is 18 m) v (asks_for pongs v) (cond (is 36 m) (challenged v.setup.auth v) (named_by (unready_in m.command.body) v)) (asking pongs v)
    (either (is 36 m) v (challenged v.setup.auth v) (named_by (unready_in m.command.body) v) (challenging v.setup.auth) (naming (unready_in m.command.body)))
  where
    challenging : (c : Option AuthenticationValues) → Fixed v (challenged c v)
    challenging None = same v
    challenging (Some auth) = asking (responds auth) v

    naming : (n : Option ℕ) → Fixed v (named_by n v)
    naming None = same v
    naming (Some i) =
        let w : Waits = v.waits in
        let test : Bool = list_any (λ p. is_same (Reply i) p.awaits) w.waiting in
        record {
          setup = refl;
          timeout = cond_so (λ (x : Waits). x.timeout ≡ w.timeout) test (record w { excused = insert_key nat_cmp w.excused i }) w refl refl;
          clock = cond_so (λ (x : Waits). x.clock ≡ w.clock) test (record w { excused = insert_key nat_cmp w.excused i }) w refl refl;
        }

unless : (ps : List ℕ) (m : MessageValues) (v : Seen) → Fixed v (reacts_unless ps m v)
unless [] m v = reacting m v
unless (p ∷ ps) m v = same v

moving : (line : List Standing) (v : Seen) → Fixed v (moved_up line v)
moving [] v = record { setup = refl; timeout = refl; clock = refl }
moving (s ∷ line) v =
    let u : Seen = queue s.frame s.claim v in
    either (has_room v) v (moved_up line u) (record v { line = s ∷ line })
    (then v u (moved_up line u) (record { setup = refl; timeout = refl; clock = refl }) (moving line u))
    (record { setup = refl; timeout = refl; clock = refl })

greeted_so : (frame : Option (List ℕ)) (v : Seen) → Fixed v (greets_with frame v)
greeted_so None v = same v
greeted_so (Some frame) v = record { setup = refl; timeout = refl; clock = refl }

opening : (stage : Stage) (v : Seen) → Fixed v (opens_in stage v)
opening Dialing v =
    let u : Seen = record v { stage = Handshaking } in
    then v u (greets_with (frame_for (greeting v.setup)) u) (record { setup = refl; timeout = refl; clock = refl })
    (greeted_so (frame_for (greeting v.setup)) u)
opening Handshaking v = same v
opening Ready v = same v
opening Over v = same v

ready_so : (b : Bool) (rest : List ℕ) (v : Seen) → Fixed v (greeted b rest v)
ready_so true rest v = record { setup = refl; timeout = refl; clock = refl }
ready_so false rest v = same v

taking : (stage : Stage) (f : Front) (v : Seen) → Fixed v (taken_in stage f v)
taking Handshaking (Whole m rest) v = ready_so (is 3 m) rest v
taking Ready (Whole m rest) v =
    let u : Seen = record v { unread = rest } in
    then v (answered m u) (reacts_unless (places (settled_by m u)) m (answered m u)) (record { setup = refl; timeout = refl; clock = refl })
    (unless (places (settled_by m u)) m (answered m u))
taking _ _ v = same v

drawing : (b : Bool) (v : Seen) → Fixed v (drawn b v)
drawing true v = record { setup = refl; timeout = refl; clock = refl }
drawing false v = same v

numbered : (n : Result ℕ ConnectionError) (now : ℕ) (words : Words) (v : Seen) → Fixed v (after_of n now words v)
numbered (Err e) now words v = same v
numbered (Ok id) now words v =
    let u : Seen = drawn (is_numbered words) v in
    then v u (asks_for (request id now words) u) (drawing (is_numbered words) v) (asking (request id now words) u)

-- what it has been told by then
abbrev at : Act → Seen → Seen
at (Opens now) v = ticked now v
at (Feeds piece) v = v
at (Takes now) v = ticked now v
at (Asks now words) v = ticked now v
at (Drains most now) v = ticked now v
at (Closes cause) v = v

acting : (act : Act) (v : Seen) → Fixed (at act v) (session.after act v)
acting (Opens now) v = opening v.stage (ticked now v)
acting (Feeds piece) v =
    either (is_open v.stage) v (record v { unread = v.unread ++ piece }) v (record { setup = refl; timeout = refl; clock = refl }) (same v)
acting (Takes now) v = taking v.stage (front v.unread) (ticked now v)
acting (Asks now words) v = numbered (number_for (is_numbered words) v) now words (ticked now v)
acting (Drains most now) v =
    let t : Seen = ticked now v in
    let u : Seen = record t { unwritten = drop most v.unwritten } in
    either (is_open v.stage) t (moved_up v.line u) t
    (then t u (moved_up v.line u) (record { setup = refl; timeout = refl; clock = refl }) (moving v.line u)) (same t)
acting (Closes cause) v =
    either (is_over v.stage) v v
    (record v { stage = Over; error = Some cause; unwritten = []; line = []; waits = ended v.waits; unread = [] }) (same v)
    (record { setup = refl; timeout = refl; clock = refl })

told_setup : (act : Act) (v : Seen) → (at act v).setup ≡ v.setup
told_setup (Opens now) v = refl
told_setup (Feeds piece) v = refl
told_setup _ v = refl

told_timeout : (act : Act) (v : Seen) → (at act v).waits.timeout ≡ v.waits.timeout
told_timeout (Opens now) v = refl
told_timeout (Feeds piece) v = refl
told_timeout _ v = refl

setup_stays : (s : Setup) (h : List Act) → (session.seen s h).setup ≡ s
setup_stays s [] = refl
setup_stays s (act ∷ h) = (acting act (session.seen s h)).setup ∙ told_setup act (session.seen s h) ∙ setup_stays s h

timeout_stays : (s : Setup) (h : List Act) → (session.seen s h).waits.timeout ≡ s.operation_timeout
timeout_stays s [] = refl
timeout_stays s (act ∷ h) = (acting act (session.seen s h)).timeout ∙ told_timeout act (session.seen s h) ∙ timeout_stays s h

-- THE CLOCK OF A LINK

no_later : (c now most : ℕ) → c ≤ most → now ≤ most → later_of c now ≤ most
no_later c now most h k = cond_so (λ x. x ≤ most) (nat_lt c now) now c k h

abbrev moment_of : Act → Option ℕ
moment_of (Opens now) = Some now
moment_of (Feeds piece) = None
moment_of (Takes now) = Some now
moment_of (Asks now words) = Some now
moment_of (Drains most now) = Some now
moment_of (Closes cause) = None

abbrev IsBy : ℕ → Option ℕ → Type 0
IsBy most None = Unit {0}
IsBy most (Some now) = now ≤ most

told_clock : (act : Act) (v : Seen) (most : ℕ) → IsBy most (moment_of act) → v.waits.clock ≤ most → (at act v).waits.clock ≤ most
told_clock (Opens now) v most h k = no_later v.waits.clock now most k h
told_clock (Feeds piece) v most h k = k
told_clock (Takes now) v most h k = no_later v.waits.clock now most k h
told_clock (Asks now words) v most h k = no_later v.waits.clock now most k h
told_clock (Drains m now) v most h k = no_later v.waits.clock now most k h
told_clock (Closes cause) v most h k = k

acts_clock : (act : Act) (v : Seen) (most : ℕ) → IsBy most (moment_of act) → v.waits.clock ≤ most → (session.after act v).waits.clock ≤ most
acts_clock act v most h k = subst (λ c. c ≤ most) (sym (acting act v).clock) (told_clock act v most h k)

abbrev IsClocked : ℕ → Option Seat → Type 0
IsClocked now row = (seat : Seat) → row ≡ Some seat → seat.seen.waits.clock ≤ now

is_seat : (now : ℕ) (x : Seat) → x.seen.waits.clock ≤ now → IsClocked now (Some x)
is_seat now x h seat e = subst (λ (y : Seat). y.seen.waits.clock ≤ now) (some_is e) h

by_now : (a now : ℕ) → a ≡ now → a ≤ now
by_now a now e = omega (arith, e)

module _ (v : View) (l : ℕ) where
  deed_clock : (a : Done) (d : Deed) → CameFrom v l a d → (seat : Seat) → seat.seen.waits.clock ≤ v.now → (seat_by d seat).seen.waits.clock ≤ v.now
  deed_clock a (IsFed piece) c seat h = absurd c
  deed_clock a (IsOpened now) c seat h = acts_clock (Opens now) seat.seen v.now (by_now now v.now c.1) h
  deed_clock a (IsRead now) c seat h = acts_clock (Takes now) seat.seen v.now (by_now now v.now c.1) h
  deed_clock a (IsDrained most now) c seat h = acts_clock (Drains most now) seat.seen v.now (by_now now v.now c.1) h
  deed_clock a (IsPinged now) c seat h = acts_clock (Asks now SendPing) seat.seen v.now (by_now now v.now c.1) h
  deed_clock a (IsAsked who now words) c seat h = acts_clock (Asks now words) seat.seen v.now (by_now now v.now c.1) h
  deed_clock a (IsGot now) c seat h = h
  deed_clock a (IsClosed cause) c seat h = absurd c

now_grows : (e : Heard) (v : View) → v.now ≤ (begun e v).now
now_grows (Ticked now) v = by (nat_le v.now now) refl
  where
    by : (b : Bool) → nat_le v.now now ≡ b → v.now ≤ (cond b (begun_live (Ticked now) v) v).now
    by true e = grind (arith, nat_tests)
    by false e = omega arith
now_grows (Bytes l piece) v = by_now v.now _ (sym (begun_same (λ w. w.now) (Bytes l piece) v refl))
now_grows e v = by_now v.now _ (sym (begun_same (λ w. w.now) e v refl))

clocked : (o : Options) (l : ℕ) (log : List Entry) → IsClocked (view o log).now ((view o log).links.live l)
clocked o l [] seat h = absurd (none_some h)
clocked o l (Begins e ∷ log) seat h =
    let v : View = view o log in
    let k : seat.seen.waits.clock ≤ v.now =
    begun_holds (IsClocked v.now) v l e
    (λ piece is x f k. is_seat v.now _ (acts_clock (Feeds piece) x.seen v.now tt (k x refl))) (clocked o l log) seat h in
    let grows : v.now ≤ (begun e v).now = now_grows e v in
    omega (arith, k, grows)
clocked o l (Then a ∷ log) seat h =
    let v : View = view o log in
    after_holds (IsClocked v.now) v l a
    (λ x d. is_seat v.now x (subst (λ (x : Seat). x.seen.waits.clock ≤ v.now) d.is_it (by_now v.now v.now refl)))
    (λ e x f. absurd (none_some f))
    (λ d c x f k. is_seat v.now (seat_by d x) (deed_clock v l a d c x (k x refl)))
    (clocked o l log) seat h

-- HOW IT IS DIALED

dialed_so : (o : Options) (log : List Entry) (l : ℕ) (s : Setup) → dialed_with o l log ≡ Some s → ByOptions o l s
dialed_so o [] l s h = absurd (none_some h)
dialed_so o (Begins e ∷ log) l s h = dialed_so o log l s h
dialed_so o (Then (Dials p starter n) ∷ log) l s h = by (λ e. dialed_so o log l s e) (l == (view o log).links.started) h
  where
    by : (dialed_with o l log ≡ Some s → ByOptions o l s) → (b : Bool) →
        cond b (Some (setup o.chosen l (view o log).now p)) (dialed_with o l log) ≡ Some s → ByOptions o l s
    by more true e = subst (ByOptions o l) (some_is e) (refl, refl, refl, refl, refl, refl)
    by more false e = more e
dialed_so o (Then a ∷ log) l s h = dialed_so o log l s h

connects_so : (o : Options) (log : List Entry) (p : Place) (starter : Who) (n : ℕ) (host : Host (List ℕ)) → nonempty_host p.url ≡ Some host →
    effects (view o log) (Dials p starter n) ≡ Connect (view o log).links.started (host_text host) (unwrap_or p.url.port 6650) ∷ []
connects_so o log p starter n host h =
    ap (λ r. connects_to (view o log).links.started (option_map (λ x. (host_text x, unwrap_or p.url.port 6650)) r)) h

pub links_are_dialed_lem : LinksAreDialed
links_are_dialed_lem = record {
  by_options = dialed_so;
  there = λ o log p starter n.
      (let l : ℕ = (view o log).links.started in
      let s : Setup = setup o.chosen l (view o log).now p in
      (s, (ap (λ b. cond b (Some s) (dialed_with o l log)) (eq-eqb l l refl), refl, refl, refl, λ host h. connects_so o log p starter n host h)));
}

-- WHEN IT IS DUE

late_by : (o : Options) (s : Setup) (now : ℕ) (v : Seen) → v.setup ≡ s → s.connection_timeout ≡ o.chosen.connection.connection_timeout →
    nat_le (capped (v.setup.made + v.setup.connection_timeout)) now ≡ nat_le (capped (s.made + o.chosen.connection.connection_timeout)) now
late_by o s now v e f =
    ap (λ (x : Setup). nat_le (capped (x.made + x.connection_timeout)) now) e ∙ ap (λ t. nat_le (capped (s.made + t)) now) f

due_by : (stage : Stage) (o : Options) (s : Setup) (now : ℕ) (v : Seen) → v.setup ≡ s → s.connection_timeout ≡ o.chosen.connection.connection_timeout →
    due_in stage now v ≡ due_so o s stage now v
due_by Dialing o s now v e f = late_by o s now v e f
due_by Handshaking o s now v e f = late_by o s now v e f
due_by Ready o s now v e f = refl
due_by Over o s now v e f = refl

pub links_are_due_lem : LinksAreDue
links_are_due_lem o log l now seat h =
    let k = alone o log l seat h in
    let same : seat.seen.setup ≡ k.setup = ap (λ (v : Seen). v.setup) k.same ∙ setup_stays k.setup (calls_of o l log) in
    (k.setup, k.dialed, due_by seat.seen.stage o k.setup now seat.seen same (dialed_so o log l k.setup k.dialed).0)

not_before : (c now : ℕ) → c ≤ now → later_of c now ≡ now
not_before c now h = elim (cases_Bool (nat_lt c now)) [
  | inl e ↦ ap (λ b. cond b now c) e
  | inr e ↦ ap (λ b. cond b now c) e ∙ (let f : c ≡ now = grind (arith, nat_tests) in f)
]

pub requests_are_due_lem : RequestsAreDue
requests_are_due_lem o log l place seat words c h asked known =
    let now : ℕ = (view o log).now in
    let k = alone o log l seat h in
    let calls : List Act = calls_of o l log in
    let v : Seen = session.seen k.setup calls in
    let r : Pending = request_of place (ticked now seat.seen).waits c in
    let waits = queued_waits k.setup calls now words place (ap (λ x. session.asked now words x) (sym k.same) ∙ asked) in
    let timeout : seat.seen.waits.timeout ≡ o.chosen.operation.operation_timeout =
    ap (λ (x : Seen). x.waits.timeout) k.same ∙ timeout_stays k.setup calls ∙ (dialed_so o log l k.setup k.dialed).1 in (
      r,
      ap (λ x. request_at place (session.after (Asks now words) x).waits.waiting) k.same ∙ waits
          ∙ ap (λ x. option_map (request_of place (ticked now x).waits) (claim x.next_number words)) (sym k.same)
          ∙ ap (option_map (request_of place (ticked now seat.seen).waits)) known,
      refl,
      (λ i. capped (not_before seat.seen.waits.clock now (clocked o l log seat h) i + timeout i)),
    )
