-- The link of a live subscription has not ended, and it is ready where the consumer was built.
use Rattle.std.proofs.Common.{◌≡◌, ◌⊎◌, inl, inr, ◌∙◌, sym, ap, subst, ℕ, ◌+◌, ◌==◌, List, [], ◌∷◌, ◌++◌, refl, Bool, true, false, ◌&&◌, cond, Option, Some, None, eq-eqb, nat_lt}
use Rattle.std.proofs.lemmas.Bool.{cases_Bool}
use Rattle.std.specs.Option.{is_some, option_map}
use Rattle.pulsar_laws.proofs.ActWords.{Act, Answers, Arrival, Call, Comes, Does, End, Ends, Heard, is_same, Makes, Revive, ticket_of, ToLink, Who, OfConsumer}
use Rattle.pulsar_laws.proofs.RunWords.{after, Begins, begun, EndsOnce, Entry, IsRun, member_on, Options, Then, view, View}
use Rattle.pulsar_laws.proofs.LinkWords.{closing, Failure, Fault, is_body, Reply, Seat, url_at}
use Rattle.url.specs.Parts.{Parts}
use Rattle.pulsar_session.specs.Link.{is_ready}
use Rattle.pulsar_messages.specs.Claims.{is_spent}
use Rattle.pulsar_consumer.specs.Frames.{Frame, failed, frame_in}
use Rattle.pulsar_consumer.specs.Items.{Item}
use Rattle.pulsar_consumer.specs.Topic as reader
use Rattle.pulsar_consumer.specs.Topic.{Act as Done, Lives, Hears, Loses, Fails, Ends as Over, Polls as Polled, Asks, Engine, Live, Seen, Setup, asked, begins, finish, finishes, first_of, fresh, gives, gives_from, goes_on, half, hears as hears', is_ended, is_on, link_of, lives_on, is_finished, places, subscribed}
use Rattle.pulsar_incoming.specs.declared.polled.Ending.{Ending}
use Rattle.pulsar_incoming.specs.declared.polled.Ending.TheVariants.{Closed, LinkLost, NotSubscribed, Stopped, TopicEnded}
use Rattle.pulsar_consumer.proofs.Held.{next_of}
use Rattle.pulsar_consumer.proofs.Histories.{counted_same}
use Rattle.pulsar_calls.specs.declared.act.Arrival.TheVariants as arrivals
use Rattle.pulsar_calls.specs.declared.act.Makes.TheVariants as makes
use Rattle.pulsar_calls.specs.declared.content.Joining.{Joining}
use Rattle.pulsar_consumer_table.specs.Consumers.{Arrives, ClientStops, CloseAsked, Deed, FlowTaken, IsPolled, IsSought, LinkEnds, Member, NotRevived, Revived, is_closed_by, subscribed_on}
use Rattle.pulsar_laws.proofs.Cases.{none_some, some_is}
use Rattle.pulsar_laws.proofs.calls.Ticketed.{consumer_ticket}
use Rattle.pulsar_laws.specs.ConsumerLaws.{arrival_does, does_to, done_since, done_to, frame_does, loss_does, made_as, made_with, making_does, subscription_does}
use Rattle.pulsar_laws.proofs.consumers.Ended.{after_made}
use Rattle.pulsar_laws.proofs.consumers.Deeds.{deed_does}
use Rattle.pulsar_laws.proofs.consumers.Lone.{IsKept, IsMade, IsNone, RowFrom, applied, applied_append, begun_rows, did_so, is_revival, none_after, row_from}
use Rattle.pulsar_laws.proofs.consumers.Members.{CameFrom}
use Rattle.pulsar_laws.proofs.links.Ready.{IsAt, IsReady, WasReady, more_ready}
use Rattle.pulsar_laws.proofs.consumers.Reached.{makes_ready, revives_ready}
use Rattle.pulsar_laws.proofs.links.Rows.{after_holds as after_links, begun_holds as begun_links}

-- WHAT ACTS MAKE OF THE LINK OF A CONSUMER

abbrev link_in : Option Live → Option ℕ
link_in l = option_map (λ x. x.link) l

finished_link : (b : Bool) (x y : Live) → x.link ≡ y.link → (cond b x y).link ≡ y.link
finished_link true x y h = h
finished_link false x y h = refl

finish_link : (batch : Option ℕ) (l : Option Live) → link_in (option_map (finishes batch) l) ≡ link_in l
finish_link None None = refl
finish_link None (Some l) = refl
finish_link (Some b) None = refl
finish_link (Some b) (Some l) = ap Some (finished_link (nat_lt l.level (half b + l.weight)) _ _ refl)

begin_link : (weight : ℕ) (l : Option Live) → link_in (option_map (begins weight) l) ≡ link_in l
begin_link weight None = refl
begin_link weight (Some l) = refl

asked_link : (l : Option Live) → link_in (option_map asked l) ≡ link_in l
asked_link None = refl
asked_link (Some l) = refl

goes_link : (fs : List Frame) (e : Engine) → link_in (goes_on fs e).live ≡ link_in e.live
goes_link [] e = by (is_finished e)
  where
    by : (b : Bool) → link_in (cond b (finish e) e).live ≡ link_in e.live
    by true = finish_link e.batch e.live
    by false = refl
goes_link (f ∷ fs) e =
    by (is_finished e) (goes_link fs (next_of f fs e) ∙ begin_link f.weight (option_map (finishes e.batch) e.live) ∙ finish_link e.batch e.live)
  where
    by : (b : Bool) → link_in (goes_on fs (next_of f fs e)).live ≡ link_in e.live → link_in (cond b (goes_on fs (next_of f fs e)) e).live ≡ link_in e.live
    by true all = all
    by false all = refl

hears_link : (f : Frame) (e : Engine) → link_in (hears' f e).live ≡ link_in e.live
hears_link f e = goes_link (e.waiting ++ f ∷ []) (places (record e { waiting = e.waiting ++ f ∷ [] }))

gives_from_link : (us : List Item) (e : Engine) → link_in (gives_from us e).live ≡ link_in e.live
gives_from_link [] e = refl
gives_from_link (x ∷ xs) e = goes_link e.waiting (places (record e { unread = xs }))

-- a consumer that was on no other link before
abbrev Tame : List Done → Seen → Type 0
Tame xs s = (k : ℕ) → link_of (applied xs s) ≡ Some k → link_of s ≡ Some k

tame_none : (s : Seen) → Tame [] s
tame_none s k h = h

tame_either : (b : Bool) (xs ys : List Done) (s : Seen) → Tame xs s → Tame ys s → Tame (cond b xs ys) s
tame_either true xs ys s p q = p
tame_either false xs ys s p q = q

seen_either : (b : Bool) (v w s : Seen) → ((k : ℕ) → link_of v ≡ Some k → link_of s ≡ Some k) → ((k : ℕ) → link_of w ≡ Some k → link_of s ≡ Some k) →
    (k : ℕ) → link_of (cond b v w) ≡ Some k → link_of s ≡ Some k
seen_either true v w s p q = p
seen_either false v w s p q = q

tame_hears : (l : ℕ) (f : Frame) (s : Seen) → Tame (Hears l f ∷ []) s
tame_hears l f s =
    seen_either (lives_on l s) (reader.heard f s) s s (λ k h. sym (hears_link (reader.frame_for s f) s.engine) ∙ h) (λ k h. h)

lost_link : (s : Seen) → link_of (reader.loses s) ≡ None
lost_link s = elim s.is_raw as (λ b. link_of (cond b (reader.ends LinkLost s) (record s { engine = record s.engine { live = None } })) ≡ None)
    [ true ↦ refl | false ↦ refl ]

tame_loses : (l : ℕ) (s : Seen) → Tame (Loses l ∷ []) s
tame_loses l s = seen_either (lives_on l s) (reader.loses s) s s (λ k h. absurd (none_some (sym (lost_link s) ∙ h))) (λ k h. h)

-- it is not on the link that it loses
loses_other : (l : ℕ) (s : Seen) (k : ℕ) → link_of (applied (Loses l ∷ []) s) ≡ Some k → (k == l) ≡ false
loses_other l s k h = by (is_on l (link_of s)) refl h
  where
    by : (b : Bool) → is_on l (link_of s) ≡ b → link_of (cond b (reader.loses s) s) ≡ Some k → (k == l) ≡ false
    by true e g = absurd (none_some (sym (lost_link s) ∙ g))
    by false e g = sym (ap (is_on l) g) ∙ e

tame_over : (why : Ending) (s : Seen) → Tame (Over why ∷ []) s
tame_over why s k h = absurd (none_some h)

tame_fails : (f : Failure) (s : Seen) → Tame (Fails f ∷ []) s
tame_fails f s =
    seen_either (is_ended s) s (reader.ends NotSubscribed (record s { engine = hears' (failed f) s.engine })) s (λ k h. h) (λ k h. absurd (none_some h))

tame_polled : (clock : ℕ) (s : Seen) → Tame (Polled clock ∷ []) s
tame_polled clock s k h =
    sym (ap (λ e. link_in e.live) (counted_same (first_of s.engine.unread) clock (record s { engine = gives (reader.clocked clock s.engine) })).0
    ∙ gives_from_link s.engine.unread (reader.clocked clock s.engine))
    ∙ h

tame_asks : (s : Seen) → Tame (Asks ∷ []) s
tame_asks s k h = sym (asked_link s.engine.live) ∙ h

tame_frame : (l : ℕ) (r : Reply) (s : Seen) → Tame (frame_does l r s) s
tame_frame l r s =
    tame_either (is_body 9 r.content.body) (Hears l (frame_in r) ∷ []) _ s (tame_hears l (frame_in r) s)
    (tame_either (is_body 27 r.content.body) (cond (lives_on l s) (Over TopicEnded ∷ []) []) _ s
    (tame_either (lives_on l s) (Over TopicEnded ∷ []) [] s (tame_over TopicEnded s) (tame_none s))
    (tame_either (is_body 16 r.content.body) (Loses l ∷ []) [] s (tame_loses l s) (tame_none s)))

tame_arrival : (l : ℕ) (a : Arrival) (s : Seen) → Tame (arrival_does l a s) s
tame_arrival l (arrivals.Gives n r) s = tame_either (s.number == n) (frame_does l r s) [] s (tame_frame l r s) (tame_none s)
tame_arrival l arrivals.Nothing s = tame_none s
tame_arrival l arrivals.Readied s = tame_none s
tame_arrival l arrivals.Settles s = tame_none s
tame_arrival l arrivals.Passes s = tame_none s
tame_arrival l (arrivals.Bad cause) s = tame_none s

tame_loss : (l : ℕ) (cause : Option Fault) (s : Seen) → Tame (loss_does l cause) s
tame_loss l None s = tame_none s
tame_loss l (Some cause) s = tame_loses l s

tame_append : (xs ys : List Done) (s : Seen) → Tame ys s → Tame xs (applied ys s) → Tame (xs ++ ys) s
tame_append xs ys s q p k h = q k (p k (ap link_of (sym (applied_append xs ys s)) ∙ h))

tame_other : (v : View) (t : ℕ) (a : Act) → is_revival a ≡ false → (m : Member) → Tame (does_to v t m a) m.seen
tame_other v t a h = did_so Tame tame_none tame_append v t a one
  where
    one : (d : Deed) → CameFrom v t a d → (m : Member) → Tame (deed_does d m) m.seen
    one (Arrives l x) c m = tame_arrival l x m.seen
    one (LinkEnds l cause) c m = tame_loss l cause m.seen
    one (CloseAsked closed l b) c m =
        tame_either (b && is_closed_by closed l m) (Over Closed ∷ []) [] m.seen (tame_over Closed m.seen) (tame_none m.seen)
    one (IsPolled clock) c m = tame_polled clock m.seen
    one (IsSought who) c m = tame_none m.seen
    one FlowTaken c m = tame_asks m.seen
    one (Revived l url) c m = let f : true ≡ false = sym (ap is_revival c.1) ∙ h in absurd cc
    one (NotRevived f) c m = tame_fails f m.seen
    one ClientStops c m = tame_over Stopped m.seen

-- a subscription is made on a link that has not ended
lives_link : (l : ℕ) (url : Parts) (s : Seen) (k : ℕ) → link_of (applied (Lives l url ∷ []) s) ≡ Some k → (link_of s ≡ Some k) ⊎ (k ≡ l)
lives_link l url s k h = by (is_ended s) h
  where
    on : (batch : Option ℕ) → (subscribed batch l url).link ≡ l
    on None = refl
    on (Some b) = refl

    by : (b : Bool) → link_of (cond b s (record s { engine = reader.lives l url s.engine })) ≡ Some k →
        (link_of s ≡ Some k) ⊎ (k ≡ l)
    by true g = inl g
    by false g = inr (sym (some_is g) ∙ on s.engine.batch)

subscription_link : (l : ℕ) (row : Option Seat) (s : Seen) (k : ℕ) → link_of (applied (subscription_does l (url_at row)) s) ≡ Some k →
    (link_of s ≡ Some k) ⊎ ((k ≡ l) × (is_some row ≡ true))
subscription_link l None s k h = inl h
subscription_link l (Some seat) s k h = elim (lives_link l seat.address.url s k h) [ inl e ↦ inl e | inr e ↦ inr (e, refl) ]

-- LINKS THAT HAVE NOT ENDED

abbrev IsLive : View → ℕ → Type 0
IsLive v k = is_some (v.links.live k) ≡ true

-- but where it ends
stays_live : (v : View) (a : Act) (k : ℕ) → ((end : End) → a ≡ Comes (ToLink k (Ends end)) → closing end v.now (v.links.live k) ≡ None) → IsLive v k →
    IsLive (after a v) k
stays_live v a k lasts h =
    after_links (λ row. is_some row ≡ true) v k a (λ seat d. refl)
    (λ end. (let f : false ≡ true = sym (ap is_some (lasts end.end end.is_act)) ∙ end.closes in absurd cc)) (λ d c seat at s. refl) h

begun_stays : (e : Heard) (v : View) (k : ℕ) → IsLive v k → IsLive (begun e v) k
begun_stays e v k h = begun_links (λ row. is_some row ≡ true) v k e (λ piece is seat at s. refl) h

-- HOW IT WAS MADE stays

pub applied_raw : (xs : List Done) (s : Seen) → (applied xs s).is_raw ≡ s.is_raw
applied_raw [] s = refl
applied_raw (x ∷ xs) s = (after_made x (applied xs s)).0 ∙ applied_raw xs s

-- the link that an act ends
abbrev ending : Act → Option (ℕ × End)
ending (Comes (ToLink l (Ends end))) = Some (l, end)
ending _ = None

-- ALONG A LOG

abbrev Rides : Options → List Entry → Member → Type 0
Rides o log m = (k : ℕ) → link_of m.seen ≡ Some k → IsLive (view o log) k × (m.seen.is_raw ≡ false → WasReady (view o log) k)

abbrev RidesAt : Options → List Entry → ℕ → Type 0
RidesAt o log t = (m : Member) → (view o log).consumers.rows t ≡ Some m → Rides o log m

module _ (o : Options) (log : List Entry) (a : Act) (t : ℕ) (m n : Member) (was : Rides o log m) (is : n.seen ≡ applied (does_to (view o log) t m a) m.seen)
  where
    abbrev v : View
    v = view o log

    raw : m.seen.is_raw ≡ n.seen.is_raw
    raw = sym (ap (λ (s : Seen). s.is_raw) is ∙ applied_raw (does_to v t m a) m.seen)

    -- it rides where it rode before
    on : (k : ℕ) → link_of m.seen ≡ Some k → ((end : End) → a ≡ Comes (ToLink k (Ends end)) → closing end v.now (v.links.live k) ≡ None) →
        IsLive (view o (Then a ∷ log)) k × (n.seen.is_raw ≡ false → WasReady (view o (Then a ∷ log)) k)
    on k h lasts = (stays_live v a k lasts (was k h).0, λ r. more_ready o (Then a) log k ((was k h).1 (raw ∙ r)))

    now_on : (k : ℕ) → link_of n.seen ≡ Some k → link_of (applied (does_to v t m a) m.seen) ≡ Some k
    now_on k h = sym (ap link_of is) ∙ h

    tame_rides : Tame (does_to v t m a) m.seen → ((k : ℕ) (end : End) → a ≡ Comes (ToLink k (Ends end)) → closing end v.now (v.links.live k) ≡ None) →
        Rides o (Then a ∷ log) n
    tame_rides tame lasts k h = on k (tame k (now_on k h)) (lasts k)

    -- a subscription is made, on a link that was ready
    again_rides : (l : ℕ) → WasReady v l → ((end : End) (k : ℕ) → a ≡ Comes (ToLink k (Ends end)) → ⊥) →
        ((k : ℕ) → link_of (applied (does_to v t m a) m.seen) ≡ Some k → (link_of m.seen ≡ Some k) ⊎ ((k ≡ l) × IsLive v l)) → Rides o (Then a ∷ log) n
    again_rides l ready other sub k h = elim (sub k (now_on k h)) [
      | inl e ↦ on k e (λ end is. absurd (other end k is))
      | inr e ↦ (
        stays_live v a k (λ end is. absurd (other end k is)) (subst (IsLive v) (sym e.0) e.1),
        λ r. more_ready o (Then a) log k (subst (WasReady v) (sym e.0) ready),
      )
    ]

    ended_rides : (l : ℕ) (end : End) (c : Option Fault) → closing end v.now (v.links.live l) ≡ c → a ≡ Comes (ToLink l (Ends end)) →
        does_to v t m a ≡ loss_does l c → Rides o (Then a ∷ log) n
    ended_rides l end None e at does k h =
        let was_on : link_of m.seen ≡ Some k = (let f : link_of (applied (loss_does l None) m.seen) ≡ Some k =
        ap (λ xs. link_of (applied xs m.seen)) (sym does) ∙ now_on k h in f) in
        on k was_on (λ other is.
        (let f : (l, end) ≡ (k, other) = some_is (ap ending (sym at ∙ is)) in sym (ap (λ x. closing x.1 v.now (v.links.live x.0)) f) ∙ e))
    ended_rides l end (Some cause) e at does k h =
        let f : link_of (applied (Loses l ∷ []) m.seen) ≡ Some k = ap (λ xs. link_of (applied xs m.seen)) (sym does) ∙ now_on k h in
        on k (tame_loses l m.seen k f) (λ other is.
        (let x : k ≡ l = sym (ap (λ y. y.0) (some_is (ap ending (sym at ∙ is)))) in
        let y : true ≡ false = sym (eq-eqb k l x) ∙ loses_other l m.seen k f in absurd cc))

-- a consumer that is made
made_rides : (o : Options) (log : List Entry) (a : Act) (t l : ℕ) (s : Setup) (n : Member) →
    ((r : s.is_raw ≡ false) → IsLive (view o log) l → WasReady (view o log) l) →
    ((end : End) (k : ℕ) → a ≡ Comes (ToLink k (Ends end)) → ⊥) → member_on (view o log).links.live l s ≡ n → Rides o (Then a ∷ log) n
made_rides o log a t l s n ready other is k h =
    by ((view o log).links.live l) refl (ap (λ (m : Member). link_of m.seen) is ∙ h)
  where
    fresh_on : (row : Option Seat) → link_of (subscribed_on l (url_at row) (record { seen = fresh s; seekers = [] })).seen ≡ Some k →
        (k ≡ l) × (is_some row ≡ true)
    fresh_on None g = absurd (none_some g)
    fresh_on (Some seat) g = elim (lives_link l seat.address.url (fresh s) k g) [ inl e ↦ absurd (none_some e) | inr e ↦ (e, refl) ]

    raw_of : (row : Option Seat) → (subscribed_on l (url_at row) (record { seen = fresh s; seekers = [] })).seen.is_raw ≡ s.is_raw
    raw_of None = refl
    raw_of (Some seat) = refl

    by : (row : Option Seat) → (view o log).links.live l ≡ row →
        link_of (member_on (view o log).links.live l s).seen ≡ Some k →
        IsLive (view o (Then a ∷ log)) k × (n.seen.is_raw ≡ false → WasReady (view o (Then a ∷ log)) k)
    by row e g =
        let x = fresh_on ((view o log).links.live l) g in
        let alive : IsLive (view o log) k = subst (IsLive (view o log)) (sym x.0) x.1 in (
          stays_live (view o log) a k (λ end at. absurd (other end k at)) alive,
          λ r.
              (let plain : s.is_raw ≡ false = sym (raw_of ((view o log).links.live l)) ∙ ap (λ (m : Member). m.seen.is_raw) is ∙ r in
              more_ready o (Then a) log k (subst (WasReady (view o log)) (sym x.0) (ready plain x.1))),
        )

-- the link on which a verdict makes it
abbrev first_link : List Done → Option ℕ
first_link (Lives l url ∷ xs) = Some l
first_link _ = None

row_link : (l : ℕ) (row : Option Seat) → is_some row ≡ true → first_link (subscription_does l (url_at row)) ≡ Some l
row_link l None h = absurd cc
row_link l (Some seat) h = refl

link_row : (k : ℕ) (row : Option Seat) (l : ℕ) → first_link (subscription_does k (url_at row)) ≡ Some l → k ≡ l
link_row k None l h = absurd (none_some h)
link_row k (Some seat) l h = some_is h

made_link : (live : ℕ → Option Seat) (key : ℕ) (m : Makes) (s : Setup) (l : ℕ) → made_as key m ≡ Some s →
    making_does live m ≡ subscription_does l (url_at (live l)) →
    s.is_raw ≡ false → is_some (live l) ≡ true → (j : Joining) × (m ≡ makes.Consumer j) × (j.link ≡ l)
made_link live key (makes.Consumer j) s l how did raw alive =
    (j, refl, link_row j.link (live j.link) l (ap first_link did ∙ row_link l (live l) alive))
made_link live key (makes.RawConsumer k made) s l how did raw alive =
    let f : true ≡ s.is_raw = ap (λ (x : Setup). x.is_raw) (some_is how) in let g : true ≡ false = f ∙ raw in absurd cc
made_link live key makes.Nothing s l how did raw alive = absurd (none_some how)
made_link live key makes.Client s l how did raw alive = absurd (none_some how)
made_link live key (makes.Producer b) s l how did raw alive = absurd (none_some how)

module _ (o : Options) (log : List Entry) (t : ℕ) where
  -- only the verdict of its call makes it
  made_by : (a : Act) (s : Setup) (l : ℕ) (n : Member) → IsRun o (Then a ∷ log) → (view o log).consumers.rows t ≡ None →
      (view o (Then a ∷ log)).consumers.rows t ≡ Some n → made_with o t (Then a ∷ log) ≡ Some s →
      done_to o t (Then a ∷ log) ≡ subscription_does l (url_at ((view o log).links.live l)) → s.is_raw ≡ false → IsLive (view o log) l → WasReady (view o log) l
  made_by (Answers who verdict) s l n run none is how did raw alive = elim (cases_Bool (is_same (Call t) who)) [
    | inl e ↦
        (let how2 : made_as (view o log).consumers.next_key verdict.makes ≡ Some s =
        sym (ap (λ b. cond b (made_as (view o log).consumers.next_key verdict.makes) (made_with o t log)) e) ∙ how in
        let did2 : making_does (view o log).links.live verdict.makes ≡ subscription_does l (url_at ((view o log).links.live l)) =
        sym (ap (λ r. done_since (view o log) t (Answers who verdict) r (done_to o t log)) none
        ∙ ap (λ b. cond b (making_does (view o log).links.live verdict.makes) (done_to o t log)) e)
        ∙ did in
        let x = made_link (view o log).links.live (view o log).consumers.next_key verdict.makes s l how2 did2 raw alive in
        subst (WasReady (view o log)) x.2 (makes_ready o log who verdict x.0 run x.1))
    | inr e ↦
        absurd (none_some (sym (none_after (view o log) t (Answers who verdict)
        (λ w x f. (let g : who ≡ w = cc in subst (λ y. is_same (Call t) y ≡ false) g e)) none) ∙ is))
  ]
  made_by a s l n run none is how did raw alive = absurd (none_some (sym (none_after (view o log) t a (λ w x f. absurd cc) none) ∙ is))

  made_open : (a : Act) → (view o log).consumers.rows t ≡ None → (n : Member) → (view o (Then a ∷ log)).consumers.rows t ≡ Some n →
      (end : End) (k : ℕ) → a ≡ Comes (ToLink k (Ends end)) → ⊥
  made_open a none n is end k at =
      none_some (sym (none_after (view o log) t a (λ w x f. (let g : Comes (ToLink k (Ends end)) ≡ Answers w x = sym at ∙ f in absurd cc)) none) ∙ is)

  -- but where it is subscribed again it is on no other link than before
  abbrev Revives : Act → Type 0
  Revives a = (who : Who) × (l : ℕ) × (a ≡ Does who (OfConsumer (Revive l))) × ((t == ticket_of who && is_some ((view o log).links.live l)) ≡ true)

  tame_by : (a : Act) (m : Member) → Tame (does_to (view o log) t m a) m.seen ⊎ Revives a
  tame_by (Does who (OfConsumer (Revive l))) m = elim (cases_Bool (t == ticket_of who)) [
    | inl e ↦ on_row ((view o log).links.live l) refl e
    | inr e ↦
        inl (subst (λ b. Tame (cond b (subscription_does l (url_at ((view o log).links.live l))) []) m.seen) (sym e) (tame_none m.seen))
  ]
    where
      none : (b : Bool) → Tame (cond b (subscription_does l None) []) m.seen
      none true = tame_none m.seen
      none false = tame_none m.seen

      on_row : (row : Option Seat) → (view o log).links.live l ≡ row → (t == ticket_of who) ≡ true →
          Tame (cond (t == ticket_of who) (subscription_does l (url_at ((view o log).links.live l))) []) m.seen
          ⊎ Revives (Does who (OfConsumer (Revive l)))
      on_row None f e =
          inl (subst (λ r. Tame (cond (t == ticket_of who) (subscription_does l (url_at r)) []) m.seen) (sym f) (none (t == ticket_of who)))
      on_row (Some seat) f e = inr (who, l, refl, (λ i. e i && is_some (f i)))
  tame_by a m = inl (tame_other (view o log) t a refl m)

  kept_by : (a : Act) (m n : Member) → IsRun o (Then a ∷ log) → Rides o log m → n.seen ≡ applied (does_to (view o log) t m a) m.seen → Rides o (Then a ∷ log) n
  kept_by (Comes (ToLink l (Ends end))) m n run was is =
      ended_rides o log (Comes (ToLink l (Ends end))) t m n was is l end (closing end (view o log).now ((view o log).links.live l)) refl refl refl
  kept_by (Does who (OfConsumer (Revive l))) m n run was is =
      again_rides o log (Does who (OfConsumer (Revive l))) t m n was is l (revives_ready o log who l run) (λ end k at. absurd cc) (λ k h. by
      (t == ticket_of who) k h)
    where
      by : (b : Bool) (k : ℕ) → link_of (applied (cond b (subscription_does l (url_at ((view o log).links.live l))) []) m.seen) ≡ Some k →
          (link_of m.seen ≡ Some k) ⊎ ((k ≡ l) × IsLive (view o log) l)
      by true k h = subscription_link l ((view o log).links.live l) m.seen k h
      by false k h = inl h
  kept_by a m n run was is = elim (tame_by a m) [
    | inl tame ↦ tame_rides o log a t m n was is tame (λ k end at. absurd cc)
    | inr k ↦ absurd (let e : a ≡ Does k.0 (OfConsumer (Revive k.1)) = k.2 in cc)
  ]

  row_rides : (a : Act) → IsRun o (Then a ∷ log) → RidesAt o log t → RowFrom o log a t → RidesAt o (Then a ∷ log) t
  row_rides a run was (IsNone e f) n h = absurd (none_some (sym f ∙ h))
  row_rides a run was (IsMade s l e f how did) n h =
      made_rides o log a t l s n (λ raw alive. made_by a s l n run e h how did raw alive) (made_open a e n h) (some_is (sym f ∙ h))
  row_rides a run was (IsKept m e r how did) n h =
      subst (Rides o (Then a ∷ log)) (some_is (sym r.is_it ∙ h)) (kept_by a m r.row run (was m e) r.seen)

-- a consumer is on the link on which it was before, unless it is made, or subscribed again
abbrev pub IsFresh : Options → List Entry → Act → (ticket : ℕ) → Type 0
IsFresh o log a t =
    ((view o log).consumers.rows t ≡ None) ⊎
    ((who : Who) × (l : ℕ) × (a ≡ Does who (OfConsumer (Revive l))) × ((t == ticket_of who && is_some ((view o log).links.live l)) ≡ true))

abbrev pub LinkFrom : Options → List Entry → Act → (ticket link : ℕ) → Type 0
LinkFrom o log a t k = ((m : Member) × ((view o log).consumers.rows t ≡ Some m) × (link_of m.seen ≡ Some k)) ⊎ IsFresh o log a t

pub link_from : EndsOnce → (o : Options) (log : List Entry) (a : Act) (t k : ℕ) (n : Member) → IsRun o (Then a ∷ log) →
    (view o (Then a ∷ log)).consumers.rows t ≡ Some n → link_of n.seen ≡ Some k → LinkFrom o log a t k
link_from once o log a t k n run h on = by (row_from o log t once a (consumer_ticket o (Then a ∷ log) t n run h) run)
  where
    by : RowFrom o log a t → LinkFrom o log a t k
    by (IsNone e f) = absurd (none_some (sym f ∙ h))
    by (IsMade s l e f how did) = inr (inl e)
    by (IsKept m e r how did) = elim (tame_by o log t a m) [
      | inl tame ↦ inl (m, e, tame k (sym (ap link_of r.seen) ∙ ap (λ (x : Member). link_of x.seen) (some_is (sym r.is_it ∙ h)) ∙ on))
      | inr k ↦ inr (inr k)
    ]

-- where there is none there was none
pub none_from : EndsOnce → (o : Options) (log : List Entry) (a : Act) (t : ℕ) → IsRun o (Then a ∷ log) →
    (view o (Then a ∷ log)).consumers.rows t ≡ None → (view o log).consumers.rows t ≡ None
none_from once o log a t run h = at ((view o log).consumers.rows t) refl
  where
    by : RowFrom o log a t → (view o log).consumers.rows t ≡ None
    by (IsNone e f) = e
    by (IsMade s l e f how did) = e
    by (IsKept m e r how did) = absurd (none_some (sym h ∙ r.is_it))

    at : (row : Option Member) → (view o log).consumers.rows t ≡ row → (view o log).consumers.rows t ≡ None
    at None e = e
    at (Some m) e = by (row_from o log t once a (consumer_ticket o log t m run.0 e) run)

begun_rides : (o : Options) (log : List Entry) (e : Heard) (t : ℕ) → RidesAt o log t → RidesAt o (Begins e ∷ log) t
begun_rides o log e t was m h k is =
    let x = was m (sym (begun_rows e (view o log) t) ∙ h) k is in
    (begun_stays e (view o log) k x.0, λ r. more_ready o (Begins e) log k (x.1 r))

rides_run : EndsOnce → (o : Options) (log : List Entry) (t : ℕ) → is_spent t ≡ false → IsRun o log → RidesAt o log t
rides_run once o [] t un run = λ m h. absurd (none_some h)
rides_run once o (Begins e ∷ log) t un run = begun_rides o log e t (rides_run once o log t un run.0)
rides_run once o (Then a ∷ log) t un run = row_rides o log t a run (rides_run once o log t un run.0) (row_from o log t once a un run)

-- the link of a live subscription has not ended
pub rides_on : EndsOnce → (o : Options) (log : List Entry) (t : ℕ) (m : Member) (k : ℕ) → IsRun o log → (view o log).consumers.rows t ≡ Some m →
    link_of m.seen ≡ Some k → (seat : Seat) × ((view o log).links.live k ≡ Some seat)
rides_on once o log t m k run h there =
    by ((view o log).links.live k) refl (rides_run once o log t (consumer_ticket o log t m run h) run m h k there).0
  where
    by : (row : Option Seat) → (view o log).links.live k ≡ row → is_some row ≡ true → (seat : Seat) × ((view o log).links.live k ≡ Some seat)
    by None e some = absurd cc
    by (Some seat) e some = (seat, e)

-- and it is ready where the consumer was built
pub rides : EndsOnce → (o : Options) (log : List Entry) (t : ℕ) (m : Member) (k : ℕ) → IsRun o log → (view o log).consumers.rows t ≡ Some m →
    link_of m.seen ≡ Some k → m.seen.is_raw ≡ false → (seat : Seat) × ((view o log).links.live k ≡ Some seat) × (is_ready seat.seen.stage ≡ true)
rides once o log t m k run h there plain =
    let x = rides_run once o log t (consumer_ticket o log t m run h) run m h k there in
    by ((view o log).links.live k) refl x.0 (x.1 plain).now
  where
    by : (row : Option Seat) → (view o log).links.live k ≡ row → is_some row ≡ true → IsAt IsReady row →
        (seat : Seat) × ((view o log).links.live k ≡ Some seat) × (is_ready seat.seen.stage ≡ true)
    by None e some ready = absurd cc
    by (Some seat) e some ready = (seat, e, ready)
