-- A frame that is there is the same whatever is fed behind it.
use Rattle.std.proofs.Common.{◌≡◌, ◌∙◌, sym, ap, refl, ℕ, Bool, true, false, cond, List, [], ◌∷◌, ◌++◌, Option, Some, None}
use Rattle.pulsar_wire.specs.declared.key.RequestKey.{RequestKey}
use Rattle.pulsar_wire.specs.declared.key.RequestKey.TheVariants as keys
use Rattle.pulsar_frame.specs.Message.{MessageValues}
use Rattle.pulsar_frame.specs.Key.{key}
use Rattle.pulsar_frame.specs.Frame.{Front, Short, Refused, Whole, front}
use Rattle.pulsar_frame.proofs.Streams.{front-refused-append, front-whole-append}
use Rattle.pulsar_wire.specs.declared.awaited.Claim.{Claim}
use Rattle.pulsar_session.specs.declared.states.Stage.{Stage}
use Rattle.pulsar_session.specs.declared.states.Stage.TheVariants.{Dialing, Handshaking, Ready, Over}
use Rattle.pulsar_session.specs.Answers.{is}
use Rattle.pulsar_session.specs.Link.{Bad, Challenged, Request, Seen, Takes, after, answered_to, asks_for, came, came_by, came_in, can_wait, challenged, feeds, for_consumer, frame_for, greeted, greeted_by, has_room, is_open, named_by, pongs, put_frame, put_in, reacts, reacts_unless, responds, settled_by, taken_in, ticked, unready_in}
use Rattle.pulsar_requests.specs.Waits.{places}
use Rattle.pulsar_messages.specs.Content.{AuthenticationValues}
use Rattle.pulsar_wire.specs.Failures.{Fault}
use Rattle.pulsar_session.specs.Laws.{BadStays, TakenBeforeOrAfter, is_there}

-- other bytes wait to be taken
abbrev with : List ℕ → Seen → Seen
with bytes v = record v { unread = bytes }

-- what a link does by itself leaves the stage, and does the same whatever bytes wait
pub record Apart (f : Seen → Seen) : Type 0 where
  pub same : (bytes : List ℕ) (v : Seen) → f (with bytes v) ≡ with bytes (f v)
  pub stage : (v : Seen) → (f v).stage ≡ v.stage

put_in_same : (room : Bool) (w : Bool) (frame : List ℕ) (c : Option Claim) (bytes : List ℕ) (v : Seen) → put_in room w frame c (with bytes v) ≡ with bytes (put_in room w frame c v)
put_in_same true w frame c bytes v = refl
put_in_same false true frame c bytes v = refl
put_in_same false false frame c bytes v = refl

put_in_stage : (room : Bool) (w : Bool) (frame : List ℕ) (c : Option Claim) (v : Seen) → (put_in room w frame c v).stage ≡ v.stage
put_in_stage true w frame c v = refl
put_in_stage false true frame c v = refl
put_in_stage false false frame c v = refl

put_frame_apart : (frame : Option (List ℕ)) (w : Bool) (c : Option Claim) → Apart (put_frame frame w c)
put_frame_apart None w c = record { same = λ bytes v. refl; stage = λ v. refl }
put_frame_apart (Some frame) w c = record { same = λ bytes v. put_in_same (has_room v) w frame c bytes v; stage = λ v. put_in_stage (has_room v) w frame c v }

pub asks_for_apart : (r : Request) → Apart (asks_for r)
asks_for_apart r = put_frame_apart (frame_for r.message) (can_wait r.when_full) r.claim

challenged_same : (c : Option AuthenticationValues) (bytes : List ℕ) (v : Seen) → challenged c (with bytes v) ≡ with bytes (challenged c v)
challenged_same None bytes v = refl
challenged_same (Some c) bytes v = (asks_for_apart (responds c)).same bytes v

challenged_stage : (c : Option AuthenticationValues) (v : Seen) → (challenged c v).stage ≡ v.stage
challenged_stage None v = refl
challenged_stage (Some c) v = (asks_for_apart (responds c)).stage v

named_same : (n : Option ℕ) (bytes : List ℕ) (v : Seen) → named_by n (with bytes v) ≡ with bytes (named_by n v)
named_same None bytes v = refl
named_same (Some n) bytes v = refl

named_stage : (n : Option ℕ) (v : Seen) → (named_by n v).stage ≡ v.stage
named_stage None v = refl
named_stage (Some n) v = refl

reacts_same : (m : MessageValues) (bytes : List ℕ) (v : Seen) → reacts m (with bytes v) ≡ with bytes (reacts m v)
reacts_same m bytes v = by (is 18 m) (is 36 m)
  where
    by : (b c : Bool) →
        cond b (asks_for pongs (with bytes v)) (cond c (challenged v.setup.auth (with bytes v)) (named_by (unready_in m.command.body) (with bytes v)))
        ≡ with bytes (cond b (asks_for pongs v) (cond c (challenged v.setup.auth v) (named_by (unready_in m.command.body) v)))
    by true c = (asks_for_apart pongs).same bytes v
    by false true = challenged_same v.setup.auth bytes v
    by false false = named_same (unready_in m.command.body) bytes v

reacts_stage : (m : MessageValues) (v : Seen) → (reacts m v).stage ≡ v.stage
reacts_stage m v = by (is 18 m) (is 36 m)
  where
    by : (b c : Bool) → (cond b (asks_for pongs v) (cond c (challenged v.setup.auth v) (named_by (unready_in m.command.body) v))).stage ≡ v.stage
    by true c = (asks_for_apart pongs).stage v
    by false true = challenged_stage v.setup.auth v
    by false false = named_stage (unready_in m.command.body) v

unless_same : (ps : List ℕ) (m : MessageValues) (bytes : List ℕ) (v : Seen) → reacts_unless ps m (with bytes v) ≡ with bytes (reacts_unless ps m v)
unless_same [] m bytes v = reacts_same m bytes v
unless_same (p ∷ ps) m bytes v = refl

pub unless_stage : (ps : List ℕ) (m : MessageValues) (v : Seen) → (reacts_unless ps m v).stage ≡ v.stage
unless_stage [] m v = reacts_stage m v
unless_stage (p ∷ ps) m v = refl

unless_unread : (ps : List ℕ) (m : MessageValues) (v : Seen) → (reacts_unless ps m v).unread ≡ v.unread
unless_unread ps m v = ap (λ x. x.unread) (unless_same ps m v.unread v)

fed : (b : List ℕ) (v : Seen) → v.stage ≡ Ready → feeds b v ≡ with (v.unread ++ b) v
fed b v e = ap (λ s. cond (is_open s) (with (v.unread ++ b) v) v) e

-- AT EVERY STAGE

abbrev wider : Front → List ℕ → Front
wider Short b = Short
wider (Refused r) b = Refused r
wider (Whole m rest) b = Whole m (rest ++ b)

wider_is : (x b : List ℕ) (f : Front) → front x ≡ f → is_there f ≡ true → front (x ++ b) ≡ wider f b
wider_is x b Short e t = absurd cc
wider_is x b (Refused r) e t = front-refused-append x b r e
wider_is x b (Whole m rest) e t = front-whole-append x b m rest e

came_wider : (stage : Stage) (f : Front) (b : List ℕ) (v : Seen) → came_in stage (wider f b) (with (v.unread ++ b) v) ≡ came_in stage f v
came_wider Dialing f b v = refl
came_wider Handshaking Short b v = refl
came_wider Handshaking (Refused r) b v = refl
came_wider Handshaking (Whole m rest) b v = refl
came_wider Ready Short b v = refl
came_wider Ready (Refused r) b v = refl
came_wider Ready (Whole m rest) b v = refl
came_wider Over f b v = refl

-- what is taken of an open connection, with some bytes fed before or after
fed_open : (b : List ℕ) (v : Seen) (stage : Stage) → v.stage ≡ stage → is_open stage ≡ true → feeds b v ≡ with (v.unread ++ b) v
fed_open b v stage e o = ap (λ s. cond (is_open s) (with (v.unread ++ b) v) v) e ∙ ap (λ c. cond c (with (v.unread ++ b) v) v) o

greeted_wider : (now : ℕ) (c : Bool) (rest b : List ℕ) (v : Seen) → v.stage ≡ Handshaking → greeted c (rest ++ b) (ticked now (with (v.unread ++ b) v)) ≡ feeds b (greeted c rest (ticked now v))
greeted_wider now true rest b v e = sym (fed_open b (greeted true rest (ticked now v)) Ready refl refl)
greeted_wider now false rest b v e = sym (fed_open b (ticked now v) Handshaking e refl)

taken_wider : (now : ℕ) (stage : Stage) (f : Front) (b : List ℕ) (v : Seen) → v.stage ≡ stage → is_open stage ≡ true →
    taken_in stage (wider f b) (ticked now (with (v.unread ++ b) v)) ≡ feeds b (taken_in stage f (ticked now v))
taken_wider now Dialing f b v e o = absurd cc
taken_wider now Over f b v e o = absurd cc
taken_wider now Handshaking Short b v e o = sym (fed_open b (ticked now v) Handshaking e refl)
taken_wider now Handshaking (Refused r) b v e o = sym (fed_open b (ticked now v) Handshaking e refl)
taken_wider now Handshaking (Whole m rest) b v e o = greeted_wider now (is 3 m) rest b v e
taken_wider now Ready Short b v e o = sym (fed_open b (ticked now v) Ready e refl)
taken_wider now Ready (Refused r) b v e o = sym (fed_open b (ticked now v) Ready e refl)
taken_wider now Ready (Whole m rest) b v e o =
    let u = with rest (ticked now v) in
    let a = record u { waits = answered_to m u.waits } in
    let ps = places (settled_by m u) in
    let w = reacts_unless ps m a in
    unless_same ps m (rest ++ b) a
    ∙ ap (λ x. with (x ++ b) w) (sym (unless_unread ps m a))
    ∙ sym (fed_open b w Ready (unless_stage ps m a ∙ e) refl)

fed_shut : (b : List ℕ) (v : Seen) (stage : Stage) → v.stage ≡ stage → is_open stage ≡ false → feeds b v ≡ v
fed_shut b v stage e o = ap (λ s. cond (is_open s) (with (v.unread ++ b) v) v) e ∙ ap (λ c. cond c (with (v.unread ++ b) v) v) o

taken_shut : (now : ℕ) (stage : Stage) (f : Front) (v : Seen) → is_open stage ≡ false → taken_in stage f (ticked now v) ≡ ticked now v
taken_shut now Dialing f v o = refl
taken_shut now Over f v o = refl
taken_shut now Handshaking f v o = absurd cc
taken_shut now Ready f v o = absurd cc

pub taken_before_or_after : TakenBeforeOrAfter
taken_before_or_after now b v t = by (is_open v.stage) refl
  where
    more : front (v.unread ++ b) ≡ wider (front v.unread) b
    more = wider_is v.unread b (front v.unread) refl t

    by : (o : Bool) → is_open v.stage ≡ o → (came (feeds b v) ≡ came v) × (after (Takes now) (feeds b v) ≡ feeds b (after (Takes now) v))
    by true o =
        let v' = with (v.unread ++ b) v in (
          ap came (fed_open b v v.stage refl o) ∙ ap (λ f. came_in v.stage f v') more ∙ came_wider v.stage (front v.unread) b v,
          ap (after (Takes now)) (fed_open b v v.stage refl o) ∙ ap (λ f. taken_in v.stage f (ticked now v')) more ∙ taken_wider now v.stage (front v.unread) b v refl o,
        )
    by false o =
        let shut = fed_shut b v v.stage refl o in
        let still = taken_shut now v.stage (front v.unread) v o in
        (ap came shut, ap (after (Takes now)) shut ∙ still ∙ sym (fed_shut b (ticked now v) v.stage refl o) ∙ ap (feeds b) (sym still))

-- WHAT IS BAD

greeted_bad : (fault : Fault) (b : Bool) (rest : List ℕ) (u : Seen) → greeted_by b ≡ Bad fault → greeted b rest u ≡ u
greeted_bad fault true rest u h = absurd cc
greeted_bad fault false rest u h = refl

never_bad : (fault : Fault) (m : MessageValues) (c : Bool) (k : Option RequestKey) → cond c Challenged (for_consumer k m) ≡ Bad fault → ⊥
never_bad fault m true k h = cc
never_bad fault m false None h = cc
never_bad fault m false (Some (keys.RequestId n)) h = cc
never_bad fault m false (Some (keys.ProducerSend p s)) h = cc
never_bad fault m false (Some (keys.Consumer c)) h = cc
never_bad fault m false (Some (keys.CloseConsumer c n)) h = cc
never_bad fault m false (Some keys.AuthChallenge) h = cc

never_bad_by : (fault : Fault) (ps : List ℕ) (m : MessageValues) → came_by ps m ≡ Bad fault → ⊥
never_bad_by fault [] m h = never_bad fault m (is 36 m) (key m) h
never_bad_by fault (p ∷ ps) m h = cc

bad_in : (fault : Fault) (stage : Stage) (f : Front) (v u : Seen) → came_in stage f v ≡ Bad fault → (taken_in stage f u ≡ u) × (is_there f ≡ true)
bad_in fault Dialing f v u h = absurd cc
bad_in fault Handshaking Short v u h = absurd cc
bad_in fault Handshaking (Refused r) v u h = (refl, refl)
bad_in fault Handshaking (Whole m rest) v u h = (greeted_bad fault (is 3 m) rest u h, refl)
bad_in fault Ready Short v u h = absurd cc
bad_in fault Ready (Refused r) v u h = (refl, refl)
bad_in fault Ready (Whole m rest) v u h = absurd (never_bad_by fault (places (settled_by m v)) m h)
bad_in fault Over f v u h = absurd cc

pub bad_stays : BadStays
bad_stays now fault v h =
    let x = bad_in fault v.stage (front v.unread) v (ticked now v) h in
    (x.0, λ b. (taken_before_or_after 0 b v x.1).0 ∙ h)
