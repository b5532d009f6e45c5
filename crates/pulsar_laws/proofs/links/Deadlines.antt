-- A deadline comes to a link only in a tick at which the link was due, and an alarm only in one at which it rang. So a keep-alive ping and
-- an end for want of use come only where their alarm rings.
use Rattle.std.proofs.Common.{◌≡◌, ◌⊎◌, inl, inr, ◌∙◌, sym, ap, subst, ℕ, List, ◌∷◌, refl, map, Bool, true, false, cond, Option, Some, None, []}
use Rattle.std.specs.Option.{is_none}
use Rattle.pulsar_laws.proofs.ActWords.{Act, Alarm, CheckIdle, Comes, Ends, Heard, Idles, KeepAlive, Notice, Overdue, Part, Pings, Rings, Told, ToLink}
use Rattle.pulsar_laws.proofs.RunWords.{Arises, Begins, Entry, In, InOne, is_live, Options, rules, Then, view, View}
use Rattle.pulsar_laws.proofs.LinkWords.{over_links, rings, Seat}
use Rattle.pulsar_run.proofs.Arising.{acts_arise_lem}
use Rattle.pulsar_session.specs.Link.{due}
use Rattle.pulsar_producer.specs.Routing.{Policy}
use Rattle.pulsar_links.specs.Alarms.{ringing}
use Rattle.pulsar_calls.specs.Content.{Ticked}
use Rattle.pulsar_laws.proofs.Lists.{in_append, in_map}
use Rattle.pulsar_laws.specs.Laws.{AlarmsAreTicked, DeadlinesAreTicked, IsDueAt, RingsAt}
use Rattle.pulsar_laws.specs.AddressLaws.{IdleEnds, IsIdleAt, IsQuietAt, KeepAlivePings}
use Rattle.pulsar_acts.specs.Rules.{brings, idle_act, is_idle, keeps_alive, rung}
use Rattle.pulsar_links.specs.LinkRules.{due_part, may_ping}
use Rattle.pulsar_laws.proofs.calls.Sources.{Any, Check, Fits, Keeping, Source, Tick, arises_fits, gives, in_links, in_one, source, step_more}

-- WHAT COMES FROM ELSEWHERE

abbrev is_tick : Source → Bool
is_tick Tick = true
is_tick _ = false

abbrev is_keeping : Source → Bool
is_keeping Keeping = true
is_keeping _ = false

abbrev is_check : Source → Bool
is_check Check = true
is_check _ = false

none : {X : Type 0} (test : Source → Bool) (a : Act) (s : Source) → test (source a) ≡ true → test Any ≡ false → test s ≡ false → Fits s a → X
none test a s t any h (inl e) = let f : true ≡ false = sym t ∙ ap test e ∙ any in absurd cc
none test a s t any h (inr e) = let f : true ≡ false = sym t ∙ ap test e ∙ h in absurd cc

then_no_tick : (b : Act) → is_tick (gives (Then b)) ≡ false
then_no_tick (Comes (Rings (KeepAlive l))) = refl
then_no_tick (Comes (Rings CheckIdle)) = refl
then_no_tick _ = refl

-- WITH A TICK

-- a part of a tick is a deadline of a link that is due, or an alarm that rings
ticked : (policies : List Policy) (v : View) (now : ℕ) (p : Part) (b : Bool) → In (Comes p) (map Comes (cond b (brings policies v (Ticked now)) [])) →
    ((l : ℕ) × (seat : Seat) × (v.links.live l ≡ Some seat) × (due now seat.seen ≡ true) × (p ≡ ToLink l (Ends (Overdue seat.seen.waits.queued))))
    ⊎ ((a : Alarm) × In a (ringing now v.alarms) × (p ≡ Rings a))
ticked policies v now p true i =
    let k = in_map Comes (Comes p) (brings policies v (Ticked now)) i in
    let same : k.0 ≡ p = cc in
    elim (in_append p (over_links (due_part now) v.links) (map Rings (ringing now v.alarms)) (subst (λ q. In q (brings policies v (Ticked now))) same k.1)) [
      | inl j ↦
          (let d = in_links (due_part now) p v.links j in
          let e = in_one (due now d.1.seen) (ToLink d.0 (Ends (Overdue d.1.seen.waits.queued))) p d.3 in
          inl (d.0, d.1, d.2, e.0, e.1))
      | inr j ↦ inr (in_map Rings p (ringing now v.alarms) j)
    ]
ticked policies v now p false i = absurd i

module _ (o : Options) (l queued : ℕ) where
  abbrev overdue : Act
  overdue = Comes (ToLink l (Ends (Overdue queued)))

  due_at : (e : Entry) (older : List Entry) → Arises rules o overdue e older → IsDueAt o l queued e older
  due_at (Begins (Ticked now)) older i =
      elim (ticked o.policies (view o older) now (ToLink l (Ends (Overdue queued))) (is_live (view o older) (Ticked now)) i) [
        | inl d ↦
            (let same = d.4 in
            let link : l ≡ d.0 = cc in
            let count : queued ≡ d.1.seen.waits.queued = cc in
            (now, d.1, refl, ap (view o older).links.live link ∙ d.2, d.3, count))
        | inr a ↦ (let no = a.2 in absurd cc)
      ]
  due_at (Begins e) older i = none is_tick overdue (gives (Begins e)) refl refl refl (arises_fits o overdue (Begins e) older i)
  due_at (Then b) older i = none is_tick overdue (gives (Then b)) refl refl (then_no_tick b) (arises_fits o overdue (Then b) older i)

pub deadlines_are_ticked_lem : DeadlinesAreTicked
deadlines_are_ticked_lem o log l queued run =
    step_more (Arises rules o (Comes (ToLink l (Ends (Overdue queued))))) (IsDueAt o l queued) (due_at o l queued) log
    (acts_arise_lem _ _ _ _ _ _ _ rules o (Comes (ToLink l (Ends (Overdue queued)))) log run)

module _ (o : Options) (a : Alarm) where
  rings_at : (e : Entry) (older : List Entry) → Arises rules o (Comes (Rings a)) e older → RingsAt o a e older
  rings_at (Begins (Ticked now)) older i = elim (ticked o.policies (view o older) now (Rings a) (is_live (view o older) (Ticked now)) i) [
    | inl d ↦ (let no = d.4 in absurd cc)
    | inr k ↦
        (let is = k.2 in
        let same : k.0 ≡ a = cc in
        (now, refl, subst (λ x. In x (ringing now (view o older).alarms)) same k.1))
  ]
  rings_at (Begins e) older i = none is_tick (Comes (Rings a)) (gives (Begins e)) refl refl refl (arises_fits o (Comes (Rings a)) (Begins e) older i)
  rings_at (Then b) older i = none is_tick (Comes (Rings a)) (gives (Then b)) refl refl (then_no_tick b) (arises_fits o (Comes (Rings a)) (Then b) older i)

pub alarms_are_ticked_lem : AlarmsAreTicked
alarms_are_ticked_lem o log a run =
    step_more (Arises rules o (Comes (Rings a))) (RingsAt o a) (rings_at o a) log (acts_arise_lem _ _ _ _ _ _ _ rules o (Comes (Rings a)) log run)

-- WITH AN ALARM

none_told : {X : Type 0} (p : Part) (nss : List (List Notice)) → InOne (Comes p) (map (map Told) nss) → X
none_told {X} p [] i = absurd i
none_told {X} p (ns ∷ nss) (inl i) = let k = in_map Told (Comes p) ns i in let no = k.2 in absurd cc
none_told {X} p (ns ∷ nss) (inr i) = none_told p nss i

-- what comes to a link at an alarm comes at once, and the alarm rings
at_alarm : (o : Options) (a : Alarm) (p : Part) (older : List Entry) → Arises rules o (Comes p) (Then (Comes (Rings a))) older →
    (rings (view o older).now a (view o older).alarms ≡ true) × In (Comes p) (rung (view o older) a)
at_alarm o a p older (inl i) = by (rings (view o older).now a (view o older).alarms) i
  where
    by : (b : Bool) → In (Comes p) (cond b (rung (view o older) a) []) → (b ≡ true) × In (Comes p) (rung (view o older) a)
    by true j = (refl, j)
    by false j = absurd j
at_alarm o a p older (inr (inl i)) = absurd i
at_alarm o a p older (inr (inr (inl i))) = none_told p (rules.causes (view o older) (Comes (Rings a))) i
at_alarm o a p older (inr (inr (inr i))) = absurd i

event_no_check : (e : Heard) → is_check (gives (Begins e)) ≡ false
event_no_check (Ticked now) = refl
event_no_check _ = refl

event_no_keeping : (e : Heard) → is_keeping (gives (Begins e)) ≡ false
event_no_keeping (Ticked now) = refl
event_no_keeping _ = refl

no_ping : (place : Option ℕ) → is_none place ≡ true → place ≡ None
no_ping None h = refl
no_ping (Some place) h = absurd cc

module _ (o : Options) (l : ℕ) where
  abbrev idles : Act
  idles = Comes (ToLink l (Ends Idles))

  abbrev pings : Act
  pings = Comes (ToLink l Pings)

  -- the check ends those that are idle
  idle_at : (e : Entry) (older : List Entry) → Arises rules o idles e older → IsIdleAt o l e older
  idle_at (Then (Comes (Rings CheckIdle))) older i =
      let k = at_alarm o CheckIdle (ToLink l (Ends Idles)) older i in
      let d = in_links (idle_act (view o older)) idles (view o older).links k.1 in
      let e = in_one (is_idle (view o older) d.0 d.1) (Comes (ToLink d.0 (Ends Idles))) idles d.3 in
      let same = e.1 in
      let link : l ≡ d.0 = cc in
      (d.1, refl, k.0, ap (view o older).links.live link ∙ d.2, ap (λ m. is_idle (view o older) m d.1) link ∙ e.0)
  idle_at (Then b) older i = none is_check idles (gives (Then b)) refl refl refl (arises_fits o idles (Then b) older i)
  idle_at (Begins e) older i = none is_check idles (gives (Begins e)) refl refl (event_no_check e) (arises_fits o idles (Begins e) older i)

  -- the alarm of a link asks that link
  asks_it : (k : ℕ) (row : Option Seat) → In pings (keeps_alive k row) → (l ≡ k) × ((seat : Seat) × (row ≡ Some seat) × (seat.ping ≡ None))
  asks_it k None i = absurd i
  asks_it k (Some seat) i =
      let e = in_one (may_ping (Some seat)) (Comes (ToLink k Pings)) pings i in
      let same = e.1 in
      let link : l ≡ k = cc in
      (link, (seat, refl, no_ping seat.ping e.0))

  quiet_at : (e : Entry) (older : List Entry) → Arises rules o pings e older → IsQuietAt o l e older
  quiet_at (Then (Comes (Rings (KeepAlive k)))) older i =
      let r = at_alarm o (KeepAlive k) (ToLink l Pings) older i in
      let d = asks_it k ((view o older).links.live k) r.1 in
      subst (λ m. IsQuietAt o m (Then (Comes (Rings (KeepAlive k)))) older) (sym d.0) (d.1.0, refl, r.0, d.1.1, d.1.2)
  quiet_at (Then b) older i = none is_keeping pings (gives (Then b)) refl refl refl (arises_fits o pings (Then b) older i)
  quiet_at (Begins e) older i = none is_keeping pings (gives (Begins e)) refl refl (event_no_keeping e) (arises_fits o pings (Begins e) older i)

pub idle_ends_lem : IdleEnds
idle_ends_lem o log l run =
    step_more (Arises rules o (Comes (ToLink l (Ends Idles)))) (IsIdleAt o l) (idle_at o l) log
    (acts_arise_lem _ _ _ _ _ _ _ rules o (Comes (ToLink l (Ends Idles))) log run)

pub keep_alive_pings_lem : KeepAlivePings
keep_alive_pings_lem o log l run =
    step_more (Arises rules o (Comes (ToLink l Pings))) (IsQuietAt o l) (quiet_at o l) log
    (acts_arise_lem _ _ _ _ _ _ _ rules o (Comes (ToLink l Pings)) log run)
