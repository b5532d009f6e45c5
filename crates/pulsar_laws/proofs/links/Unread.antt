-- At the end of a step no whole frame of a link is left unread: what came is read on, until less than a frame is in front, or the link ends.
use Rattle.std.proofs.Common.{◌≡◌, ◌⊎◌, inl, inr, ◌∙◌, sym, ap, subst, ℕ, List, ◌∷◌, ◌++◌, refl, drop, Bool, true, false, cond, ◌==◌, Option, Some, None, Result, Ok, Err, append-nil, []}
use Rattle.std.proofs.lemmas.Bool.{cases_Bool, eqb-true, eq-eqb}
use Rattle.pulsar_laws.proofs.ActWords.{Act, Arrival, Bytes, Comes, Dials, Ends, Heard, LinkAct, Notice, Part, Reads, ToLink, Who}
use Rattle.pulsar_laws.proofs.RunWords.{agenda, at_once, Begins, begun_live, calls_of, dialed, Entry, first, first_of, further, In, is_live, IsRun, live_begun, none_now, Options, rest, rest_of, rules, Then, view, View, after}
use Rattle.pulsar_laws.proofs.LinkWords.{arrival_at, ConnectionError, Fault, is_numbered, Place, Seat, SendPing, took_some, Words}
use Rattle.pulsar_wire.specs.declared.key.RequestKey.{RequestKey}
use Rattle.pulsar_frame.specs.Frame.{Front, Short, Refused, Whole, cut, front}
use Rattle.pulsar_frame.specs.Key.{key}
use Rattle.pulsar_frame.specs.Message.{MessageValues}
use Rattle.pulsar_frame.proofs.Streams.{cut-short, front-nil}
use Rattle.pulsar_requests.specs.Waits.{ended, places}
use Rattle.pulsar_session.specs.declared.states.Stage.{Stage}
use Rattle.pulsar_session.specs.declared.states.Stage.TheVariants.{Dialing, Handshaking, Ready, Over}
use Rattle.pulsar_session.specs.Answers.{is}
use Rattle.pulsar_session.specs.Laws.{messages_taken}
use Rattle.pulsar_session.specs.Link.{Act as Act', Asks, Closes, Came, Feeds, Seen, Setup, after_of, answered_to, came, came_by, came_in, drawn, for_consumer, greeted, greeted_by, greets_with, has_room, is_open, is_over, moved_up, number_for, opens_in, queue, request, settled_by, Standing, taken_in, ticked, unasked}
use Rattle.pulsar_session.proofs.Pieces.{asks_for_apart, unless_stage}
use Rattle.pulsar_session.proofs.Still.{asked_of, moving, opening}
use Rattle.pulsar_session.proofs.Streams.{taken_are_cut}
use Rattle.pulsar_calls.specs.declared.act.End.TheVariants.{Broken}
use Rattle.pulsar_laws.proofs.Lists.{in_right}
use Rattle.pulsar_laws.proofs.Cases.{none_some, some_is}
use Rattle.pulsar_laws.specs.Laws.{FramesAreCut, dialed_with}
use Rattle.pulsar_links.specs.Links.{arrives}
use Rattle.pulsar_acts.specs.Rules.{breaks_at, brings, reads_on}
use Rattle.pulsar_acts.specs.View.{is_dialing, link_born}
use Rattle.pulsar_wire.specs.declared.key.RequestKey.TheVariants as keys
use Rattle.pulsar_session.specs.Link as session
use Rattle.pulsar_calls.specs.declared.act.Arrival.TheVariants as arrivals
use Rattle.pulsar_laws.proofs.links.Alone.{Made, alone}
use Rattle.pulsar_links.specs.Asks.{Deed, IsAsked, IsClosed, IsDrained, IsFed, IsGot, IsOpened, IsPinged, IsRead as ReadsIt, seat_by}
use Rattle.pulsar_acts.proofs.Linking.{took_is}
use Rattle.pulsar_laws.proofs.links.Rows.{CameFrom, IsDialed, after_holds}

-- A CONNECTION THAT IS DIALED HAS NOTHING UNREAD

abbrev Early : Seen → Type 0
Early v = is_dialing v.stage ≡ true → v.unread ≡ []

dialing_shut : (stage : Stage) → is_dialing stage ≡ true → is_open stage ≡ true → {X : Type 0} → X
dialing_shut Dialing d o {X} = absurd cc
dialing_shut Handshaking d o {X} = absurd cc
dialing_shut Ready d o {X} = absurd cc
dialing_shut Over d o {X} = absurd cc

opens_early : (stage : Stage) (v : Seen) → Early v → Early (opens_in stage v)
opens_early Dialing v k = greeting (session.frame_for (session.greeting v.setup))
  where
    greeting : (frame : Option (List ℕ)) → Early (greets_with frame (record v { stage = Handshaking }))
    greeting None e = absurd cc
    greeting (Some frame) e = absurd cc
opens_early Handshaking v k = k
opens_early Ready v k = k
opens_early Over v k = k

greeted_early : (b : Bool) (more : List ℕ) (v : Seen) → Early v → Early (greeted b more v)
greeted_early true more v k e = absurd cc
greeted_early false more v k e = k e

taken_early : (stage : Stage) (f : Front) (v : Seen) → v.stage ≡ stage → Early v → Early (taken_in stage f v)
taken_early Handshaking (Whole m more) v s k = greeted_early (is 3 m) more v k
taken_early Ready (Whole m more) v s k = λ e.
    let u = record v { unread = more } in
    let same = unless_stage (places (settled_by m u)) m (record u { waits = answered_to m u.waits }) in
    let f : false ≡ true = sym (ap is_dialing (same ∙ s)) ∙ e in
    absurd cc
taken_early _ _ v s k = k

pub drawn_stage : (b : Bool) (v : Seen) → (drawn b v).stage ≡ v.stage
drawn_stage true v = refl
drawn_stage false v = refl

asks_early : (n : Result ℕ ConnectionError) (now : ℕ) (words : Words) (v : Seen) → Early v → Early (after_of n now words v)
asks_early (Err x) now words v k = k
asks_early (Ok id) now words v k = λ e.
    (asked_of (Ok id) now words v).unread
    ∙ k (ap is_dialing (sym ((asks_for_apart (request id now words)).stage (drawn (is_numbered words) v) ∙ drawn_stage (is_numbered words) v)) ∙ e)

pub moved_stage : (line : List Standing) (v : Seen) → (moved_up line v).stage ≡ v.stage
moved_stage [] v = refl
moved_stage (s ∷ line) v = by (has_room v) (moved_stage line (queue s.frame s.claim v))
  where
    by : (b : Bool) → (moved_up line (queue s.frame s.claim v)).stage ≡ v.stage →
        (cond b (moved_up line (queue s.frame s.claim v)) (record v { line = s ∷ line })).stage ≡ v.stage
    by true more = more
    by false more = refl

early_on : (act : Act') (v : Seen) → Early v → Early (session.after act v)
early_on (session.Opens now) v k = opens_early v.stage (ticked now v) k
early_on (Feeds piece) v k = by (is_open v.stage) refl
  where
    by : (b : Bool) → is_open v.stage ≡ b → Early (cond b (record v { unread = v.unread ++ piece }) v)
    by true o e = dialing_shut v.stage e o
    by false o e = k e
early_on (session.Takes now) v k = taken_early v.stage (front v.unread) (ticked now v) refl k
early_on (Asks now words) v k = asks_early (number_for (is_numbered words) v) now words (ticked now v) k
early_on (session.Drains most now) v k = by (is_open v.stage) refl
  where
    left : Seen
    left = record (ticked now v) { unwritten = drop most v.unwritten }

    by : (b : Bool) → is_open v.stage ≡ b → Early (cond b (moved_up v.line left) (ticked now v))
    by true o e = dialing_shut v.stage (ap is_dialing (sym (moved_stage v.line left)) ∙ e) o
    by false o e = k e
early_on (Closes cause) v k = by (is_over v.stage)
  where
    by : (b : Bool) → Early (cond b v (record v { stage = Over; error = Some cause; unwritten = []; line = []; waits = ended v.waits; unread = [] }))
    by true e = k e
    by false e = refl

early : (s : Setup) (h : List Act') → Early (session.seen s h)
early s [] e = refl
early s (act ∷ h) e = early_on act (session.seen s h) (early s h) e

-- LESS THAN A FRAME IS IN FRONT

abbrev IsRead : Seen → Type 0
IsRead v = front v.unread ≡ Short

consumer_came : (k : Option RequestKey) (m : MessageValues) {X : Type 0} → for_consumer k m ≡ session.Nothing → X
consumer_came None m {X} h = absurd cc
consumer_came (Some (keys.RequestId n)) m {X} h = absurd cc
consumer_came (Some (keys.ProducerSend p s)) m {X} h = absurd cc
consumer_came (Some (keys.Consumer c)) m {X} h = absurd cc
consumer_came (Some (keys.CloseConsumer c n)) m {X} h = absurd cc
consumer_came (Some keys.AuthChallenge) m {X} h = absurd cc

unasked_came : (m : MessageValues) {X : Type 0} → unasked m ≡ session.Nothing → X
unasked_came m {X} h = by (is 36 m) h
  where
    by : (b : Bool) → cond b session.Challenged (for_consumer (key m) m) ≡ session.Nothing → X
    by true e = absurd cc
    by false e = consumer_came (key m) m e

pub whole_came : (ps : List ℕ) (m : MessageValues) {X : Type 0} → came_by ps m ≡ session.Nothing → X
whole_came [] m {X} h = unasked_came m h
whole_came (p ∷ ps) m {X} h = absurd cc

greeted_came : (b : Bool) {X : Type 0} → greeted_by b ≡ session.Nothing → X
greeted_came true {X} h = absurd cc
greeted_came false {X} h = absurd cc

-- nothing comes only of a connection that isn't open, or has less than a frame
pub came_short : (stage : Stage) (f : Front) (v : Seen) → came_in stage f v ≡ session.Nothing → (is_open stage ≡ false) ⊎ (f ≡ Short)
came_short Dialing f v h = inl refl
came_short Over f v h = inl refl
came_short Handshaking Short v h = inr refl
came_short Handshaking (Refused r) v h = absurd cc
came_short Handshaking (Whole m more) v h = greeted_came (is 3 m) h
came_short Ready Short v h = inr refl
came_short Ready (Refused r) v h = absurd cc
came_short Ready (Whole m more) v h = whole_came (places (settled_by m v)) m h

shut_dialing : (stage : Stage) → is_open stage ≡ false → is_over stage ≡ false → is_dialing stage ≡ true
shut_dialing Dialing o l = refl
shut_dialing Handshaking o l = absurd cc
shut_dialing Ready o l = absurd cc
shut_dialing Over o l = absurd cc

pub nothing_came : (c : Came) → arrives c ≡ arrivals.Nothing → c ≡ session.Nothing
nothing_came session.Nothing h = refl
nothing_came _ h = absurd cc

-- what nothing came of was read before, and is afterwards
none_left : (start : Option Setup) (calls : List Act') (v : Seen) → Made start calls v → arrives (came v) ≡ arrivals.Nothing → IsRead v
none_left start calls v k h = elim (came_short v.stage (front v.unread) v (nothing_came (came v) h)) [
  | inl shut ↦ ap front (subst Early (sym k.same) (early k.setup calls) (shut_dialing v.stage shut k.live)) ∙ front-nil
  | inr short ↦ short
]

pub short_taken : (stage : Stage) (v : Seen) → taken_in stage Short v ≡ v
short_taken Dialing v = refl
short_taken Handshaking v = refl
short_taken Ready v = refl
short_taken Over v = refl

taken_read : (now : ℕ) (v : Seen) → IsRead v → IsRead (session.after (session.Takes now) v)
taken_read now v short =
    ap (λ (x : Seen). front x.unread) (ap (λ f. taken_in v.stage f (ticked now v)) short ∙ short_taken v.stage (ticked now v)) ∙ short

-- WHAT IS LEFT TO READ

-- the next frame of a link is to be read, or it is to end by what came
abbrev IsLeft : ℕ → List Act → List Part → Type 0
IsLeft l now ps = In (ToLink l Reads) ps ⊎ ((c : Fault) × In (Comes (ToLink l (Ends (Broken c)))) now)

now_left : (x : Act) (now : List Act) (here : List Notice) (behind : List (List Notice)) (ps : List Part) (a : Act) →
    first_of rules now here behind ps ≡ Some a →
    In x now → (x ≡ a) ⊎ In x (rest_of now here behind ps).now
now_left x [] here behind ps a h i = absurd i
now_left x (b ∷ now) here behind ps a h (inl e) = inl (let f : b ≡ a = cc in e ∙ f)
now_left x (b ∷ now) here behind ps a h (inr i) = inr i

parts_left : (p : Part) (now : List Act) (here : List Notice) (behind : List (List Notice)) (ps : List Part) (a : Act) →
    first_of rules now here behind ps ≡ Some a →
    In p ps → (Comes p ≡ a) ⊎ In p (rest_of now here behind ps).parts
parts_left p (b ∷ now) here behind ps a h i = inr i
parts_left p [] (n ∷ here) behind ps a h i = inr i
parts_left p [] [] (cause ∷ behind) ps a h i = parts_left p [] cause behind ps a h i
parts_left p [] [] [] [] a h i = absurd i
parts_left p [] [] [] (q ∷ ps) a h (inl e) = inl (let f : Comes q ≡ a = cc in ap Comes e ∙ f)
parts_left p [] [] [] (q ∷ ps) a h (inr i) = inr i

pub none_parts : (now : List Act) (here : List Notice) (behind : List (List Notice)) (ps : List Part) → first_of rules now here behind ps ≡ None → ps ≡ []
none_parts (b ∷ now) here behind ps h = absurd cc
none_parts [] (n ∷ here) behind ps h = absurd cc
none_parts [] [] (cause ∷ behind) ps h = none_parts [] cause behind ps h
none_parts [] [] [] [] h = refl
none_parts [] [] [] (p ∷ ps) h = absurd cc

-- the act by which it is done
abbrev is_done_by : ℕ → Act → Bool
is_done_by l (Comes (ToLink k Reads)) = l == k
is_done_by l (Comes (ToLink k (Ends (Broken c)))) = l == k
is_done_by l _ = false

own_link : (l : ℕ) → (l == l) ≡ true
own_link l = eq-eqb l l refl

module _ (o : Options) (l : ℕ) (log : List Entry) where
  abbrev Left : Type 0
  Left = IsLeft l (agenda o log).now (agenda o log).parts

  resting : first (agenda o log) ≡ None → Left → {X : Type 0} → X
  resting h (inl i) {X} =
      absurd (subst (In (ToLink l Reads)) (none_parts (agenda o log).now (agenda o log).here (agenda o log).behind (agenda o log).parts h) i)
  resting h (inr i) {X} =
      absurd
      (subst (In (Comes (ToLink l (Ends (Broken i.0))))) (none_now (agenda o log).now (agenda o log).here (agenda o log).behind (agenda o log).parts h) i.1)

  -- it stays until then
  stays : (a : Act) → first (agenda o log) ≡ Some a → is_done_by l a ≡ false → Left → IsLeft l (agenda o (Then a ∷ log)).now (agenda o (Then a ∷ log)).parts
  stays a h other (inl i) = elim (parts_left (ToLink l Reads) (agenda o log).now (agenda o log).here (agenda o log).behind (agenda o log).parts a h i) [
    | inl e ↦ (let no : true ≡ false = sym (own_link l) ∙ ap (is_done_by l) e ∙ other in absurd cc)
    | inr j ↦ inl (in_right (ToLink l Reads) (further (view o log) a) (rest (agenda o log)).parts j)
  ]
  stays a h other (inr i) =
      elim (now_left (Comes (ToLink l (Ends (Broken i.0)))) (agenda o log).now (agenda o log).here (agenda o log).behind (agenda o log).parts a h i.1) [
        | inl e ↦ (let no : true ≡ false = sym (own_link l) ∙ ap (is_done_by l) e ∙ other in absurd cc)
        | inr j ↦ inr (i.0, in_right (Comes (ToLink l (Ends (Broken i.0)))) (at_once (view o log) a) (rest (agenda o log)).now j)
      ]

-- ALONG A LOG

abbrev Reading : Options → ℕ → List Entry → Type 0
Reading o l log = (seat : Seat) → (view o log).links.live l ≡ Some seat → IsRead seat.seen ⊎ IsLeft l (agenda o log).now (agenda o log).parts

-- a seat whose bytes are those of one before
abbrev Holds : Option Seat → Option Seat → Type 0
Holds row later = (seat : Seat) → later ≡ Some seat → (old : Seat) × (row ≡ Some old) × (seat.seen.unread ≡ old.seen.unread)

asked_unread : (now : ℕ) (words : Words) (v : Seen) → (session.after (Asks now words) v).unread ≡ v.unread
asked_unread now words v = (asked_of (number_for (is_numbered words) v) now words (ticked now v)).unread

drained_unread : (most now : ℕ) (v : Seen) → (session.after (session.Drains most now) v).unread ≡ v.unread
drained_unread most now v = by (is_open v.stage)
  where
    left : Seen
    left = record (ticked now v) { unwritten = drop most v.unwritten }

    by : (b : Bool) → (cond b (moved_up v.line left) (ticked now v)).unread ≡ v.unread
    by true = (moving v.line left).unread
    by false = refl

unread_by : (v : View) (l : ℕ) (a : Act) (d : Deed) → CameFrom v l a d → is_done_by l a ≡ false → (seat : Seat) →
    (seat_by d seat).seen.unread ≡ seat.seen.unread
unread_by v l a (IsOpened now) c n seat = (opening seat.seen.stage (ticked now seat.seen) refl).unread
unread_by v l a (ReadsIt now) c n seat = (let f : true ≡ false = sym (own_link l) ∙ sym (ap (is_done_by l) c.0) ∙ n in absurd cc)
unread_by v l a (IsDrained most now) c n seat = drained_unread most now seat.seen
unread_by v l a (IsPinged now) c n seat = asked_unread now SendPing seat.seen
unread_by v l a (IsAsked who now request) c n seat = asked_unread now request seat.seen
unread_by v l a (IsGot now) c n seat = refl
unread_by v l a (IsFed piece) c n seat = absurd c
unread_by v l a (IsClosed cause) c n seat = absurd c

-- an act leaves its bytes, unless it reads it, or makes it
left_holds : (v : View) (l : ℕ) (a : Act) → is_done_by l a ≡ false → link_born v l a ≡ None → Holds (v.links.live l) ((after a v).links.live l)
left_holds v l a n none =
    after_holds (Holds (v.links.live l)) v l a (λ new d. absurd (not_born new d)) (λ end seat h. absurd (none_some h))
    (λ d c old e k seat h. (old, e, ap (λ (s : Seat). s.seen.unread) (sym (some_is h)) ∙ unread_by v l a d c n old)) (λ seat h. (seat, h, refl))
  where
    not_born : (new : Seat) → IsDialed v l a new → ⊥
    not_born new d =
        let born : link_born v l a ≡ Some (dialed v.chosen v.links.started v.now d.place) =
        ap (link_born v l) d.is_act ∙ ap (λ b. cond b (Some (dialed v.chosen v.links.started v.now d.place)) None) d.is_next in
        none_some (sym none ∙ born)

took_broken : (c : Fault) (now : ℕ) (row : Option Seat) → took_some (Ends (Broken c)) now row ≡ None
took_broken c now None = refl
took_broken c now (Some r) = refl

module _ (o : Options) (l : ℕ) (log : List Entry) (k : Reading o l log) where
  -- where its bytes stay, and it is not read
  carried : (a : Act) → first (agenda o log) ≡ Some a → is_done_by l a ≡ false → link_born (view o log) l a ≡ None → Reading o l (Then a ∷ log)
  carried a h other none seat live =
      let old = left_holds (view o log) l a other none seat live in
      elim (k old.0 old.1) [
        | inl short ↦ inl (ap front old.2 ∙ short)
        | inr left ↦ inr (stays o l log a h other left)
      ]

  -- A LINK IS READ

  reads_left : (a : Arrival) (now : List Act) (ps : List Part) → (a ≡ arrivals.Nothing) ⊎ IsLeft l (breaks_at l a ++ now) (reads_on l a ++ ps)
  reads_left arrivals.Nothing now ps = inl refl
  reads_left (arrivals.Bad cause) now ps = inr (inr (cause, inl refl))
  reads_left _ now ps = inr (inl (inl refl))

  read_here : (row : Option Seat) → (view o log).links.live l ≡ row → (seat : Seat) → took_some Reads (view o log).now row ≡ Some seat →
      IsRead seat.seen ⊎ IsLeft l (agenda o (Then (Comes (ToLink l Reads)) ∷ log)).now (agenda o (Then (Comes (ToLink l Reads)) ∷ log)).parts
  read_here None e seat h = absurd (none_some h)
  read_here (Some r) e seat h = elim (reads_left (arrival_at ((view o log).links.live l)) (rest (agenda o log)).now (rest (agenda o log)).parts) [
    | inl none ↦
        (let short : IsRead r.seen = none_left (dialed_with o l log) (calls_of o l log) r.seen (alone o log l r e) (sym (ap arrival_at e) ∙ none) in
        inl (ap (λ (s : Seat). front s.seen.unread) (sym (some_is h)) ∙ taken_read (view o log).now r.seen short))
    | inr left ↦ inr left
  ]

  own_act : (x : LinkAct) → is_done_by l (Comes (ToLink l x)) ≡ true → Reading o l (Then (Comes (ToLink l x)) ∷ log)
  own_act Reads y seat live =
      let v : View = view o log in
      read_here (v.links.live l) refl seat
      (sym (took_is v l Reads l ∙ ap (λ b. cond b (took_some Reads v.now (v.links.live l)) (v.links.live l)) (own_link l)) ∙ live)
  own_act (Ends (Broken c)) y seat live =
      let v : View = view o log in
      let x : LinkAct = Ends (Broken c) in
      absurd
      (none_some (sym (took_broken c v.now (v.links.live l))
      ∙ sym (took_is v l x l ∙ ap (λ b. cond b (took_some x v.now (v.links.live l)) (v.links.live l)) (own_link l)) ∙ live))
  own_act x y seat live = absurd cc

  to_link : (m : ℕ) (x : LinkAct) → first (agenda o log) ≡ Some (Comes (ToLink m x)) → Reading o l (Then (Comes (ToLink m x)) ∷ log)
  to_link m x f = elim (cases_Bool (is_done_by l (Comes (ToLink m x)))) [
    | inl y ↦
        (let same : l ≡ m = own_done x y in
        subst (λ j. Reading o l (Then (Comes (ToLink j x)) ∷ log)) same (own_act x (subst (λ j. is_done_by l (Comes (ToLink j x)) ≡ true) (sym same) y)))
    | inr n ↦ carried (Comes (ToLink m x)) f n refl
  ]
    where
      own_done : (x : LinkAct) → is_done_by l (Comes (ToLink m x)) ≡ true → l ≡ m
      own_done Reads y = eqb-true l m y
      own_done (Ends (Broken c)) y = eqb-true l m y
      own_done x y = absurd cc

  dials : (p : Place) (starter : Who) (retries : ℕ) → first (agenda o log) ≡ Some (Dials p starter retries) → Reading o l (Then (Dials p starter retries) ∷ log)
  dials p starter retries f = elim (cases_Bool (l == (view o log).links.started)) [
    | inl e ↦ (λ seat h.
        let fresh : dialed (view o log).chosen (view o log).links.started (view o log).now p ≡ seat = some_is (rw e at h) in
        inl (ap (λ (s : Seat). front s.seen.unread) (sym fresh) ∙ front-nil))
    | inr e ↦ carried (Dials p starter retries) f refl (rw e refl)
  ]

  -- AN EVENT BEGINS

  begins : (e : Heard) → first (agenda o log) ≡ None → Reading o l (Begins e ∷ log)
  begins e rests seat live = by (is_live (view o log) e) live
    where
      was_read : (old : Seat) → (view o log).links.live l ≡ Some old → IsRead old.seen
      was_read old h = elim (k old h) [ inl short ↦ short | inr left ↦ resting o l log rests left ]

      fed : (x : Heard) → live_begun x l ((view o log).links.live l) ≡ Some seat → IsRead seat.seen ⊎ IsLeft l [] (brings o.policies (view o log) x)
      fed (Bytes m piece) h = elim (cases_Bool (l == m)) [
        | inl d ↦ inr (inl (inl (ap (λ j. ToLink j Reads) (eqb-true l m d))))
        | inr d ↦ inl (was_read seat (rw d at h))
      ]
      fed x h = inl (was_read seat h)

      by : (b : Bool) → (cond b (begun_live e (view o log)) (view o log)).links.live l ≡ Some seat →
          IsRead seat.seen ⊎ IsLeft l [] (cond b (brings o.policies (view o log) e) [])
      by true h = fed e h
      by false h = inl (was_read seat h)

reading : (o : Options) (l : ℕ) (log : List Entry) → IsRun o log → Reading o l log
reading o l [] run = λ seat h. absurd (none_some h)
reading o l (Begins e ∷ log) run = begins o l log (reading o l log run.0) e run.1
reading o l (Then (Comes (ToLink m x)) ∷ log) run = to_link o l log (reading o l log run.0) m x run.1
reading o l (Then (Dials p starter retries) ∷ log) run = dials o l log (reading o l log run.0) p starter retries run.1
reading o l (Then a ∷ log) run = carried o l log (reading o l log run.0) a run.1 refl refl

pub frames_are_cut_lem : FramesAreCut
frames_are_cut_lem o log l seat run rests live =
    let k : Made (dialed_with o l log) (calls_of o l log) seat.seen = alone o log l seat live in
    let calls : List Act' = calls_of o l log in
    let short : IsRead seat.seen = elim (reading o l log run seat live) [ inl s ↦ s | inr left ↦ resting o l log rests left ] in
    let none : cut (session.seen k.setup calls).unread ≡ [] = ap (λ (v : Seen). cut v.unread) (sym k.same) ∙ cut-short seat.seen.unread short in (
      k.setup,
      k.dialed,
      sym (append-nil (messages_taken k.setup calls))
          ∙ ap (λ ms. messages_taken k.setup calls ++ ms) (sym none)
          ∙ taken_are_cut k.setup calls (ap (λ (v : Seen). is_over v.stage) (sym k.same) ∙ k.live),
    )
