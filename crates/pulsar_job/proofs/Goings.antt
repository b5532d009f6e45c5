-- One moment leads to another: rounds, events, and one after the other.
use Rattle.std.proofs.Common.{◌≡◌, ◌∙◌, ◌≤◌, ◌<◌, ◌+◌, ◌-◌, ◌^◌, ◌++◌, ◌==◌, ◌||◌, ◌⊎◌, inl, inr, ℕ, Bool, true, false, sym, ap, subst, refl, List, [], ◌∷◌, length, append-nil, append_assoc, arith, map, take, drop, get_or, zero, suc, Option, Some, None}
use Rattle.std.specs.List.{AllByRecursion, list_any}
use Rattle.std.specs.Prelude.{not, slice_set}
use Rattle.std.proofs.Math.Seq.{take-suc}
use Rattle.std.proofs.lemmas.Grind.{flat_map-append}
use Rattle.std.proofs.lemmas.List.{map-append, take-append-le, take_all}
use Rattle.pulsar_calls.specs.declared.event.Event.{Event}
use Rattle.pulsar_calls.specs.declared.effect.Effect.{Effect}
use Rattle.pulsar_pumps.specs.declared.submitter.Receipt.{Receipt}
use Rattle.pulsar_wire.specs.declared.error.IoKind.{IoKind}
use Rattle.pulsar_wire.specs.declared.error.IoKind.TheVariants as kind
use Rattle.pulsar_calls.specs.Content.{Asked, Heard, Called, Opened, FailedToOpen, Bytes, Lost, Drain, Ticked, Shown, shown}
use Rattle.pulsar_calls.specs.Steps.{Step}
use Rattle.pulsar_pumps.specs.declared.rounds.PumpEnd.{PumpEnd}
use Rattle.pulsar_pumps.specs.declared.rounds.PumpEnd.TheVariants as pump_end
use Rattle.pulsar_pumps.specs.Made as made
use Rattle.pulsar_pumps.specs.Made.{Made, lost_in, made_of, pieces, written}
use Rattle.pulsar_pumps.specs.Outside.{Grows, Rose, first_of, later_of}
use Rattle.pulsar_pumps.specs.Pumping.{End, MadeIn, MadeOut, RanIn, RanOut, says_last}
use Rattle.pulsar_work.specs.Calls.{Work}
use Rattle.pulsar_work.specs.Progress.{Knows, links_of, wanted_in, wanted_of}
use Rattle.pulsar_work.specs.declared.progress.Progress.{Progress}
use Rattle.pulsar_job.specs.Links.{Carries, LinkSeen, TicksWithin, failed_as, failures_in, is_kind, is_one_of, is_tick, uses}
use Rattle.pulsar_job.specs.Driven.{Asks, Dialing, EdgeNow, Goes, IsBefore, IsDialed, IsQuiet, IsUpToDate, Knits, Learns, LinkNow, Reaches, Runs, Serves, Submits, Works, effects_made, fresh, grown, link_now, seen_of, serves}
use Rattle.pulsar_job.specs.declared.links.Link.{Link}
use Rattle.pulsar_job.proofs.Steps.{apart-past, grown-failures, is_apart, itself, none-more}
use Rattle.pulsar_job.proofs.Dials.{dialing-all, dialing-dialed, dialing-grown, dialing-late, dialing-step, in-time-grown, in-time-step, in-time-tick, told-later, told-now, ticks-grown, ticks-later, ticks-step, ticks-told}
use Rattle.pulsar_job.proofs.Holds.{IsNew, carries-in, carries-out, date-in, date-out, dates-opened, dates-step, links-opened, links-step, round-dates, round-links}
use Rattle.pulsar_job.proofs.Stages.{works-grown, works-same, works-step}

-- ONE AFTER THE OTHER

pub quiet-same : (h : List Step) → IsQuiet h h
quiet-same h = record { failures = λ k. refl; ticks = λ greatest t. t }

pub quiet-then : (a b c : List Step) → IsQuiet a b → IsQuiet b c → IsQuiet a c
quiet-then a b c p q = record { failures = λ k. q.failures k ∙ p.failures k; ticks = λ greatest t. q.ticks greatest (p.ticks greatest t) }

pub goes-same : (w : Work) (h : List Step) (p : Progress) (ls : List LinkNow) → Goes w h h p p ls ls
goes-same w h p ls = record { runs = λ late r. r; quiet = quiet-same h; stopped = refl }

pub goes-then : (w : Work) (a b c : List Step) (p q r : Progress) (ls ms ns : List LinkNow) → Goes w a b p q ls ms → Goes w b c q r ms ns → Goes w a c p r ls ns
goes-then w a b c p q r ls ms ns f g = record { runs = λ late x. g.runs late (f.runs late x); quiet = quiet-then a b c f.quiet g.quiet; stopped = g.stopped ∙ f.stopped }

pub knits-same : (h : List Step) (e : EdgeNow) → Knits h h e e
knits-same h e = record { fits = λ before f. f; first = λ now f. f }

pub knits-then : (a b c : List Step) (e f g : EdgeNow) → Knits a b e f → Knits b c f g → Knits a c e g
knits-then a b c e f g p q = record { fits = λ before x. q.fits before (p.fits before x); first = λ now x. q.first now (p.first now x) }

pub knits-quiet : (h h' : List Step) (e : EdgeNow) → IsQuiet h h' → Knits h h' e e
knits-quiet h h' e q =
    record {
      fits = λ before f. record {
        failures = λ k. subst (λ n. (before k + n ≤ e.failed k) ⊎ (2 ^ 64 - 1 ≤ e.failed k)) (sym (q.failures k)) (f.failures k);
        ticks = q.ticks e.greatest f.ticks;
      };
      first = λ now f. f;
    }

pub reaches-same : (w : Work) (h : List Step) (p : Progress) (ls : List LinkNow) (e : EdgeNow) → Reaches w h h p p ls ls e e
reaches-same w h p ls e = record { runs = λ late r. r; knits = knits-same h e; stopped = refl }

pub reaches-then : (w : Work) (a b c : List Step) (p q r : Progress) (ls ms ns : List LinkNow) (e f g : EdgeNow) → Reaches w a b p q ls ms e f → Reaches w b c q r ms ns f g → Reaches w a c p r ls ns e g
reaches-then w a b c p q r ls ms ns e f g x y =
    record { runs = λ late z. y.runs late (x.runs late z); knits = knits-then a b c e f g x.knits y.knits; stopped = y.stopped ∙ x.stopped }

-- A ROUND

date-at : (h : List Step) (before behind : List LinkNow) (v : LinkNow) → AllByRecursion (IsUpToDate h) (before ++ v ∷ behind) → IsUpToDate h v
date-at h [] behind v all = all.0
date-at h (a ∷ before) behind v all = date-at h before behind v all.1

pub goes-round : (w : Work) (ms : List Made) (h : List Step) (p q : Progress) (v v' : LinkNow) → v'.seen.number ≡ v.seen.number → Serves v.seen.number ms → Learns (effects_made ms) p q
    → (IsUpToDate h v → Carries h v.seen → Carries (grown ms h) v'.seen) → (IsUpToDate h v → IsUpToDate (grown ms h) v')
    → (before behind : List LinkNow) → Goes w h (grown ms h) p q (before ++ v ∷ behind) (before ++ v' ∷ behind)
goes-round w ms h p q v v' same s learns carry date before behind =
    record {
      runs = λ late r. record {
        works = works-grown w v.seen.number ms h p q s learns r.works;
        links = round-links ms h v v' same s before behind (carry (date-at h before behind v r.writing)) r.links;
        writing = round-dates ms h v v' same s before behind r.links.once date r.writing;
        dialing = subst (Dialing late (grown ms h)) (sym learns.dials) (dialing-grown late v.seen.number ms h (links_of p.dials.items) s r.dialing);
        in_time = in-time-grown v.seen.number ms h s r.in_time;
      };
      quiet = record { failures = λ k. grown-failures v.seen.number k ms h s; ticks = λ greatest t. ticks-grown greatest v.seen.number ms h s t };
      stopped = learns.stopped;
    }

serves-one : (l : ℕ) (ms : List Made) (m : Made) (e : Heard) → ms ≡ m ∷ [] → m.event ≡ e → serves l e ≡ true → Serves l ms
serves-one l ms m e is at s = subst (Serves l) (sym is) (ap (serves l) at ∙ s, tt)

none-one : (ms : List Made) (m : Made) (e : Heard) → ms ≡ m ∷ [] → m.event ≡ e → made.drained e m.effects ≡ [] → written ms ≡ []
none-one ms m e is at none = ap written is ∙ ap (λ x. made.drained x m.effects ++ []) at ∙ ap (λ x. x ++ []) none

serves-in : (l : ℕ) (r : Option PumpEnd) (ms : List Made) → MadeIn l r ms → Serves l ms × (written ms ≡ [])
serves-in l (Some pump_end.LinkEnded) ms m = (subst (Serves l) (sym m) tt, ap written m)
serves-in l (Some pump_end.Lost) ms m = (serves-one l ms m.0 (Lost l) m.1 m.2 (itself l), none-one ms m.0 (Lost l) m.1 m.2 refl)
serves-in l (Some pump_end.Idle) ms m = absurd m
serves-in l None ms m = (serves-one l ms m.0 (Bytes l m.1) m.2 m.3 (itself l), none-one ms m.0 (Bytes l m.1) m.2 m.3 refl)

no-piece-one : (l : ℕ) (m : Made) → m.event ≡ Drain l 1 → made.piece_of m.event ≡ []
no-piece-one l m at = ap made.piece_of at

serves-out : (l : ℕ) (r : Option PumpEnd) (ms : List Made) (rest : List ℕ) → MadeOut l r ms rest → Serves l ms × (pieces ms ≡ []) × (says_last r ≡ false → rest ≡ [])
serves-out l (Some pump_end.LinkEnded) ms rest m = (subst (Serves l) (sym m.0) tt, ap pieces m.0, λ e. m.1)
serves-out l (Some pump_end.Lost) ms rest m = (
  subst (Serves l) (sym m.2) (ap (serves l) m.3 ∙ itself l, (ap (serves l) m.4 ∙ itself l, tt)),
  ap pieces m.2 ∙ ap (λ x. made.piece_of x ++ (made.piece_of m.1.event ++ [])) m.3 ∙ ap (λ x. made.piece_of x ++ []) m.4,
  λ e. absurd cc,
)
serves-out l (Some pump_end.Idle) ms rest m = (serves-one l ms m.0 (Drain l 1) m.1 m.2 (itself l), ap pieces m.1 ∙ ap (λ x. made.piece_of x ++ []) m.2, λ e. m.4)
serves-out l None ms rest m = (serves-one l ms m.0 (Drain l 1) m.1 m.2 (itself l), ap pieces m.1 ∙ ap (λ x. made.piece_of x ++ []) m.2, λ e. m.4)

-- a round in, where nothing was made before
pub goes-in : (w : Work) (h h' : List Step) (p q : Progress) (v : LinkSeen) (writes : Bool) (given : Option (List ℕ)) (faults : ℕ) (r : Option PumpEnd) (all : List Made) (s t : End)
    → s.made ≡ [] → t.made ≡ all → s.bytes ≡ v.given → t.bytes ≡ given → s.faults ≡ v.input_faults → t.faults ≡ faults
    → ((ms : List Made) → Grows s.told t.told ms → h' ≡ grown ms h) → Learns (effects_made all) p q
    → (more : List Made) × RanIn v.number s t more [] × MadeIn v.number r more
    → (before behind : List LinkNow) → Goes w h h' p q (before ++ record { seen = v; writes = writes } ∷ behind) (before ++ record { seen = record v { given = given; input_faults = faults }; writes = writes } ∷ behind)
goes-in w h h' p q v writes given faults r all s t none made bytes bytes' f f' told learns ran before behind =
    let ms = ran.0 in
    let x = ran.1 in
    let sv = serves-in v.number r ms ran.2 in
    let same : all ≡ ms = sym made ∙ x.made ∙ ap (λ z. z ++ ms) none in
    let old : LinkNow = record { seen = v; writes = writes } in
    let new : LinkNow = record { seen = record v { given = given; input_faults = faults }; writes = writes } in
    let grows : Grows v.given given (pieces ms ++ []) = subst (λ a. Grows a given (pieces ms ++ [])) bytes (subst (λ b. Grows s.bytes b (pieces ms ++ [])) bytes' x.bytes) in
    let more : v.input_faults ≤ faults = omega (arith, x.faults, f, f') in
    let rose : (lost_in ms ≡ true → Rose v.input_faults faults) = λ l. subst (λ a. Rose a faults) f (subst (λ b. Rose s.faults b) f' (x.lost l)) in
    subst (λ z. Goes w h z p q (before ++ old ∷ behind) (before ++ new ∷ behind)) (sym (told ms x.told))
    (goes-round w ms h p q old new refl sv.0 (subst (λ z. Learns (effects_made z) p q) same learns) (λ d c. carries-in ms h v given faults sv.0 sv.1 grows more rose c)
    (λ d. date-in ms h v given faults sv.0 sv.1 writes d) before behind)

-- a round out, where the output still had rounds
pub goes-out : (w : Work) (h h' : List Step) (p q : Progress) (v : LinkSeen) (was now : Bool) (taken : Option (List ℕ)) (faults : ℕ) (r : Option PumpEnd) (all : List Made) (s t : End)
    → was ≡ true → s.made ≡ [] → t.made ≡ all → s.bytes ≡ v.taken → t.bytes ≡ taken → s.faults ≡ v.output_faults → t.faults ≡ faults
    → ((ms : List Made) → Grows s.told t.told ms → h' ≡ grown ms h) → Learns (effects_made all) p q → (now ≡ true → says_last r ≡ false)
    → (more : List Made) × (rest : List ℕ) × RanOut v.number s t more rest × MadeOut v.number r more rest
    → (before behind : List LinkNow) → Goes w h h' p q (before ++ record { seen = v; writes = was } ∷ behind) (before ++ record { seen = record v { taken = taken; output_faults = faults }; writes = now } ∷ behind)
goes-out w h h' p q v was now taken faults r all s t still none made bytes bytes' f f' told learns last ran before behind =
    let ms = ran.0 in
    let rest = ran.1 in
    let x = ran.2 in
    let sv = serves-out v.number r ms rest ran.3 in
    let same : all ≡ ms = sym made ∙ x.made ∙ ap (λ z. z ++ ms) none in
    let old : LinkNow = record { seen = v; writes = was } in
    let new : LinkNow = record { seen = record v { taken = taken; output_faults = faults }; writes = now } in
    let grows : Grows v.taken taken x.put = subst (λ a. Grows a taken x.put) bytes (subst (λ b. Grows s.bytes b x.put) bytes' x.bytes) in
    let more : v.output_faults ≤ faults = omega (arith, x.faults, f, f') in
    let rose : (Rose s.faults t.faults → Rose v.output_faults faults) = λ l. subst (λ a. Rose a faults) f (subst (λ b. Rose s.faults b) f' l) in
    let cut : (rest ≡ []) ⊎ Rose v.output_faults faults = elim x.cut as (λ z. (rest ≡ []) ⊎ Rose v.output_faults faults) [ inl e ↦ inl e | inr l ↦ inr (rose l) ] in
    subst (λ z. Goes w h z p q (before ++ old ∷ behind) (before ++ new ∷ behind)) (sym (told ms x.told))
    (goes-round w ms h p q old new refl sv.0 (subst (λ z. Learns (effects_made z) p q) same learns)
    (λ d c. carries-out ms h v taken faults x.put rest sv.0 sv.1 x.writes grows (λ b e. d still b e) more cut (λ l. rose (x.lost l)) c)
    (λ d. date-out ms h v taken faults x.put rest sv.0 sv.1 x.writes grows (λ b e. d still b e) now (λ e. sv.2 (last e))) before behind)

-- AN EVENT

-- an event of no round that uses no link and dials none
pub runs-event : (late : Bool) (w : Work) (e : Heard) (out : List Shown) (h h' : List Step) (p q : Progress) (ls : List LinkNow) → is_apart e ≡ true → ((k : ℕ) → uses k e ≡ false) → is_tick e ≡ false
    → h' ≡ record { event = e; effects = out } ∷ h → links_of q.dials.items ≡ links_of p.dials.items ++ wanted_in out → Works w h' q → Runs late w h p ls → Runs late w h' q ls
runs-event late w e out h h' p q ls apart free quiet is dials works r =
    let s : Step = record { event = e; effects = out } in
    subst (λ t. Runs late w t q ls) (sym is)
    (record {
      works = subst (λ t. Works w t q) is works;
      links = links-step s h (λ k. apart-past k e apart) free ls r.links;
      writing = dates-step s h (λ k. apart-past k e apart) ls r.writing;
      dialing = subst (Dialing late (s ∷ h)) (sym dials) (dialing-step late s h (links_of p.dials.items) quiet r.dialing);
      in_time = in-time-step s h quiet r.in_time;
    })

pub quiet-event : (e : Heard) (out : List Shown) (h h' : List Step) → is_tick e ≡ false → ((k : IoKind) → failed_as k e ≡ 0) → h' ≡ record { event = e; effects = out } ∷ h → IsQuiet h h'
quiet-event e out h h' quiet none is =
    let s : Step = record { event = e; effects = out } in
    record {
      failures = λ k. ap (failures_in k) is ∙ none-more (failures_in k h) (failed_as k e) (none k);
      ticks = λ greatest t. subst (TicksWithin greatest) (sym is) (ticks-step greatest s h quiet t);
    }

-- the turn's tick
pub runs-tick : (w : Work) (now : ℕ) (h h' : List Step) (p q : Progress) (ls : List LinkNow) → Submits (Ticked now) h h' p q → Runs false w h p ls → Runs true w h' q ls
runs-tick w now h h' p q ls submits r =
    let s : Step = record { event = Ticked now; effects = submits.out } in
    subst (λ t. Runs true w t q ls) (sym submits.step)
    (record {
      works = subst (λ t. Works w t q) submits.step (works-step w (Ticked now) h h' p q refl submits r.works);
      links = links-step s h (λ k. apart-past k (Ticked now) refl) (λ k. refl) ls r.links;
      writing = dates-step s h (λ k. apart-past k (Ticked now) refl) ls r.writing;
      dialing = subst (Dialing true (s ∷ h)) (sym submits.learns.dials) (dialing-late false s h (links_of p.dials.items) r.dialing);
      in_time = in-time-tick s h (links_of p.dials.items) r.dialing r.in_time;
    })

more-failed : (n a b : ℕ) → a ≤ b → (n ≤ a) ⊎ (2 ^ 64 - 1 ≤ a) → (n ≤ b) ⊎ (2 ^ 64 - 1 ≤ b)
more-failed n a b le (inl l) = inl (omega (arith, le, l))
more-failed n a b le (inr l) = inr (omega (arith, le, l))

pub knits-tick : (now : ℕ) (h h' : List Step) (p q : Progress) (e f g : EdgeNow) → Submits (Ticked now) h h' p q → f.first ≡ Some (first_of e.first now) → f.greatest ≡ Some (later_of e.greatest now)
    → ((k : IoKind) → e.failed k ≤ f.failed k) → g.first ≡ f.first → g.greatest ≡ f.greatest → ((k : IoKind) → f.failed k ≤ g.failed k) → Knits h h' e g
knits-tick now h h' p q e f g submits first greatest grows first' greatest' grows' =
    let s : Step = record { event = Ticked now; effects = submits.out } in
    let told : g.greatest ≡ Some (later_of e.greatest now) = greatest' ∙ greatest in
    record {
      fits = λ before x. record {
        failures = λ k.
            let le : e.failed k ≤ g.failed k = omega (arith, grows k, grows' k) in
            let none : failures_in k h' ≡ failures_in k h = ap (failures_in k) submits.step ∙ none-more (failures_in k h) 0 refl in
            subst (λ n. (before k + n ≤ g.failed k) ⊎ (2 ^ 64 - 1 ≤ g.failed k)) (sym none) (more-failed (before k + failures_in k h) (e.failed k) (g.failed k) le (x.failures k));
        ticks = subst (λ t. TicksWithin g.greatest t) (sym submits.step)
            (subst (λ t. TicksWithin t (s ∷ h)) (sym told)
            (ticks-told (Some (later_of e.greatest now)) s h now refl (told-now e.greatest now) (ticks-later e.greatest (Some (later_of e.greatest now)) h (told-later e.greatest now) x.ticks)));
      };
      first = λ n x. first' ∙ first ∙ ap (λ o. Some (first_of o now)) x;
    }

-- what was to be dialed is dialed
pub runs-dialed : (late : Bool) (w : Work) (h : List Step) (p : Progress) (ls : List LinkNow) → IsDialed p → Runs late w h p ls → Runs false w h p ls
runs-dialed late w h p ls none r =
    record { works = r.works; links = r.links; writing = r.writing; dialing = dialing-all late h (links_of p.dials.items) none r.dialing; in_time = r.in_time }

-- A DIAL

kind-rose : (f g : IoKind → ℕ) (j k : IoKind) → is_kind j k ≡ true → Rose (f j) (g j) → Rose (f k) (g k)
kind-rose f g kind.ConnectionRefused kind.ConnectionRefused e r = r
kind-rose f g kind.TimedOut kind.TimedOut e r = r
kind-rose f g kind.Other kind.Other e r = r
kind-rose f g kind.ConnectionRefused kind.TimedOut e r = absurd cc
kind-rose f g kind.ConnectionRefused kind.Other e r = absurd cc
kind-rose f g kind.TimedOut kind.ConnectionRefused e r = absurd cc
kind-rose f g kind.TimedOut kind.Other e r = absurd cc
kind-rose f g kind.Other kind.ConnectionRefused e r = absurd cc
kind-rose f g kind.Other kind.TimedOut e r = absurd cc

one-failed : (n m a b : ℕ) (l : ℕ) (j k : IoKind) → a ≤ b → (is_kind j k ≡ true → Rose a b) → (n + m ≤ a) ⊎ (2 ^ 64 - 1 ≤ a) → (c : Bool) → is_kind j k ≡ c → (n + (m + failed_as k (FailedToOpen l j)) ≤ b) ⊎ (2 ^ 64 - 1 ≤ b)
one-failed n m a b l j k le rose old false is = more-failed _ a b le (elim old as (λ v. (n + (m + failed_as k (FailedToOpen l j)) ≤ a) ⊎ (2 ^ 64 - 1 ≤ a)) [
  | inl o ↦ inl (let none : failed_as k (FailedToOpen l j) ≡ 0 = rw is refl in omega (arith, o, none))
  | inr o ↦ inr o
])
one-failed n m a b l j k le rose old true is = elim (rose is) as (λ v. (n + (m + failed_as k (FailedToOpen l j)) ≤ b) ⊎ (2 ^ 64 - 1 ≤ b)) [
  | inl lt ↦ elim old as (λ v. (n + (m + failed_as k (FailedToOpen l j)) ≤ b) ⊎ (2 ^ 64 - 1 ≤ b)) [
    | inl o ↦ inl (let one : failed_as k (FailedToOpen l j) ≡ 1 = rw is refl in omega (arith, o, one, lt))
    | inr o ↦ inr (omega (arith, o, lt))
  ]
  | inr end ↦ inr (omega (arith, end))
]

module _ (w : Work) (h h' : List Step) (q p p' : Progress) (l : ℕ) (first : IsBefore l q p) where
  pub reaches-failed : (j : IoKind) (ls : List LinkNow) (e e' : EdgeNow) → Submits (FailedToOpen l j) h h' p p' → e'.first ≡ e.first → e'.greatest ≡ e.greatest
      → ((k : IoKind) → e.failed k ≤ e'.failed k) → Rose (e.failed j) (e'.failed j) → Reaches w h h' q p' ls ls e e'
  reaches-failed j ls e e' submits same same' grows rose =
      let s : Step = record { event = FailedToOpen l j; effects = submits.out } in
      record {
        runs = λ late r. subst (λ t. Runs late w t p' ls) (sym submits.step)
            (record {
              works = subst (λ t. Works w t p') submits.step (works-step w (FailedToOpen l j) h h' p p' refl submits (works-same w h q p first.knows first.calls first.stopped first.before r.works));
              links = links-step s h (λ k. apart-past k (FailedToOpen l j) refl) (λ k. refl) ls r.links;
              writing = dates-step s h (λ k. apart-past k (FailedToOpen l j) refl) ls r.writing;
              dialing = subst (Dialing late (s ∷ h)) (sym submits.learns.dials) (dialing-dialed late l s h (links_of p.dials.items) (itself l) refl (subst (Dialing late h) first.dials r.dialing));
              in_time = in-time-step s h refl r.in_time;
            });
        knits = record {
          fits = λ before x. record {
            failures = λ k. subst (λ t. (before k + failures_in k t ≤ e'.failed k) ⊎ (2 ^ 64 - 1 ≤ e'.failed k)) (sym submits.step)
                (one-failed (before k) (failures_in k h) (e.failed k) (e'.failed k) l j k (grows k) (λ is. kind-rose e.failed e'.failed j k is rose) (x.failures k) (is_kind j k) refl);
            ticks = subst (λ t. TicksWithin e'.greatest t) (sym submits.step) (subst (λ t. TicksWithin t (s ∷ h)) (sym same') (ticks-step e.greatest s h refl x.ticks));
          };
          first = λ n x. same ∙ x;
        };
        stopped = submits.learns.stopped ∙ first.stopped;
      }

  pub reaches-opened : (v : LinkSeen) (ls ls' : List LinkNow) (e e' : EdgeNow) → v.number ≡ l → Submits (Opened l) h h' p p' → ls' ≡ ls ++ fresh v ∷ [] → is_one_of (seen_of ls) l ≡ false → IsNew v.given → IsNew v.taken
      → e'.first ≡ e.first → e'.greatest ≡ e.greatest → ((k : IoKind) → e.failed k ≤ e'.failed k) → Reaches w h h' q p' ls ls' e e'
  reaches-opened v ls ls' e e' number submits more free given taken same same' grows =
      let s : Step = record { event = Opened l; effects = submits.out } in
      let at : s.event ≡ Opened v.number = ap Opened (sym number) in
      let free' : is_one_of (seen_of ls) v.number ≡ false = ap (is_one_of (seen_of ls)) number ∙ free in
      record {
        runs = λ late r. subst (λ z. Runs late w h' p' z) (sym more) (subst (λ t. Runs late w t p' (ls ++ fresh v ∷ [])) (sym submits.step)
            (record {
              works = subst (λ t. Works w t p') submits.step (works-step w (Opened l) h h' p p' refl submits (works-same w h q p first.knows first.calls first.stopped first.before r.works));
              links = links-opened h s ls v at (λ k. apart-past k (Opened l) refl) free' r.links given taken;
              writing = dates-opened h s ls v at (λ k. apart-past k (Opened l) refl) free' r.links given taken r.writing;
              dialing = subst (Dialing late (s ∷ h)) (sym submits.learns.dials) (dialing-dialed late l s h (links_of p.dials.items) (itself l) refl (subst (Dialing late h) first.dials r.dialing));
              in_time = in-time-step s h refl r.in_time;
            }));
        knits = record {
          fits = λ before x. record {
            failures = λ k.
                let none : failures_in k h' ≡ failures_in k h = ap (failures_in k) submits.step ∙ none-more (failures_in k h) 0 refl in
                subst (λ n. (before k + n ≤ e'.failed k) ⊎ (2 ^ 64 - 1 ≤ e'.failed k)) (sym none) (more-failed (before k + failures_in k h) (e.failed k) (e'.failed k) (grows k) (x.failures k));
            ticks = subst (λ t. TicksWithin e'.greatest t) (sym submits.step) (subst (λ t. TicksWithin t (s ∷ h)) (sym same') (ticks-step e.greatest s h refl x.ticks));
          };
          first = λ n x. same ∙ x;
        };
        stopped = submits.learns.stopped ∙ first.stopped;
      }

-- the numbers of links
pub one-of-links : {I O : Type 0} (given : I → Option (List ℕ)) (input_faults : I → ℕ) (taken : O → Option (List ℕ)) (output_faults : O → ℕ) (links : List (Link I O)) (n : ℕ)
    → is_one_of (seen_of (map (link_now given input_faults taken output_faults) links)) n ≡ list_any (λ l. l.number == n) links
one-of-links given input_faults taken output_faults [] n = refl
one-of-links given input_faults taken output_faults (l ∷ links) n = ap (λ b. (l.number == n) || b) (one-of-links given input_faults taken output_faults links n)

-- the answer of a round says whether another one follows
pub still-writes : (now last : Bool) → now ≡ not last → now ≡ true → last ≡ false
still-writes now true is e = let no : false ≡ true = sym is ∙ e in absurd cc
still-writes now false is e = refl

-- a list that was lent is given back
pub lent-back : {A : Type 0} (xs ys : List A) (n : ℕ) → length xs ≡ length ys → n ≡ length ys → take n (xs ++ drop (length xs) ys) ≡ xs
lent-back xs ys n same size = take-append-le n xs (drop (length xs) ys) (omega (arith, same, size)) ∙ take_all n xs (omega (arith, same, size))

-- one of several links has changed
module _ {L : Type 0} (f : L → LinkNow) (w : Work) (h h' : List Step) (p q : Progress) where
  goes-set : (front : List LinkNow) (xs : List L) (k : ℕ) (x x' d : L) → k < length xs → x ≡ get_or xs k d → ((before behind : List LinkNow) → Goes w h h' p q (before ++ f x ∷ behind) (before ++ f x' ∷ behind))
      → Goes w h h' p q (front ++ map f xs) (front ++ map f (slice_set xs k x'))
  goes-set front [] k x x' d lt is g = absurd (omega (arith, lt))
  goes-set front (y ∷ xs) zero x x' d lt is g = subst (λ z. Goes w h h' p q (front ++ f z ∷ map f xs) (front ++ f x' ∷ map f xs)) is (g front (map f xs))
  goes-set front (y ∷ xs) (suc k) x x' d lt is g =
      subst (λ z. Goes w h h' p q z (front ++ f y ∷ map f (slice_set xs k x'))) (append_assoc front (f y ∷ []) (map f xs))
      (subst (λ z. Goes w h h' p q ((front ++ f y ∷ []) ++ map f xs) z) (append_assoc front (f y ∷ []) (map f (slice_set xs k x')))
      (goes-set (front ++ f y ∷ []) xs k x x' d (omega (arith, lt)) is g))

  pub goes-at : (xs : List L) (k : ℕ) (x x' d : L) → k < length xs → x ≡ get_or xs k d → ((before behind : List LinkNow) → Goes w h h' p q (before ++ f x ∷ behind) (before ++ f x' ∷ behind))
      → Goes w h h' p q (map f xs) (map f (slice_set xs k x'))
  goes-at xs k x x' d lt is g = goes-set [] xs k x x' d lt is g

-- LEARNING

-- what these effects tell was learned
pub learned : (xs ys : List Effect) (p q : Progress) → xs ≡ ys → ((es : List Shown) (acked : List Asked) → Knows p es acked → Knows q (es ++ map shown xs) acked)
    → links_of q.dials.items ≡ links_of p.dials.items ++ wanted_in (map shown xs) → (length q.ended.items ≡ length p.ended.items) × (q.stopped ≡ p.stopped) × (q.failed_before ≡ p.failed_before) → Learns (map shown ys) p q
learned xs ys p q is knows dials rest = subst (λ z. Learns (map shown z) p q) is (record { knows = knows; dials = dials; calls = rest.0; stopped = rest.1; before = rest.2 })

pub learns-then : (es fs : List Shown) (p q r : Progress) → Learns es p q → Learns fs q r → Learns (es ++ fs) p r
learns-then es fs p q r f g =
    record {
      knows = λ seen acked k. subst (λ z. Knows r z acked) (append_assoc seen es fs) (g.knows (seen ++ es) acked (f.knows seen acked k));
      dials = g.dials ∙ ap (λ z. z ++ wanted_in fs) f.dials ∙ append_assoc (links_of p.dials.items) (wanted_in es) (wanted_in fs) ∙ ap (λ z. links_of p.dials.items ++ z) (sym (flat_map-append wanted_of es fs));
      calls = g.calls ∙ f.calls;
      stopped = g.stopped ∙ f.stopped;
      before = g.before ∙ f.before;
    }

up : (k : ℕ) → k + 1 ≡ suc k
up k = omega arith

made-next : (xs : List (Event × Receipt)) (k : ℕ) (x : Event × Receipt) → k < length xs → x ≡ get_or xs k x
    → effects_made (map made_of (take (k + 1) xs)) ≡ effects_made (map made_of (take k xs)) ++ map shown x.1.effects.items
made-next xs k x lt is =
    ap (λ n. effects_made (map made_of (take n xs))) (up k) ∙ ap (λ ys. effects_made (map made_of ys)) (take-suc xs k x lt ∙ ap (λ z. take k xs ++ z ∷ []) (sym is))
    ∙ ap effects_made (map-append made_of (take k xs) (x ∷ [])) ∙ flat_map-append (λ m. m.effects) (map made_of (take k xs)) (made_of x ∷ [])
    ∙ ap (λ z. effects_made (map made_of (take k xs)) ++ z) (append-nil (map shown x.1.effects.items))

pub learns-next : (xs : List (Event × Receipt)) (k : ℕ) (x : Event × Receipt) (p q r : Progress) → k < length xs → x ≡ get_or xs k x → Learns (effects_made (map made_of (take k xs))) p q
    → Learns (map shown x.1.effects.items) q r → Learns (effects_made (map made_of (take (k + 1) xs))) p r
learns-next xs k x p q r lt is f g = subst (λ z. Learns z p r) (sym (made-next xs k x lt is)) (learns-then (effects_made (map made_of (take k xs))) (map shown x.1.effects.items) p q r f g)

-- a call is made: it has its ticket behind its step
pub asks-of : (c : Asked) (out : List Shown) (h h' : List Step) (p p' q : Progress) → h' ≡ record { event = Called c; effects = out } ∷ h → ((es : List Shown) (acked : List Asked) → Knows p es acked → Knows p' es acked)
    → length p'.ended.items ≡ length p.ended.items + 1 → p'.dials ≡ p.dials → p'.stopped ≡ p.stopped → p'.failed_before ≡ p.failed_before
    → ((es : List Shown) (acked : List Asked) → Knows p' es acked → Knows q (es ++ out) acked) → links_of q.dials.items ≡ links_of p'.dials.items ++ wanted_in out
    → length q.ended.items ≡ length p'.ended.items → q.stopped ≡ p'.stopped → q.failed_before ≡ p'.failed_before → Asks c h h' p q
asks-of c out h h' p p' q step calls one dials stopped before learns dials' size stopped' before' =
    record {
      out = out;
      step = step;
      knows = λ es acked k. learns es acked (calls es acked k);
      dials = dials' ∙ ap (λ d. links_of d.items ++ wanted_in out) dials;
      one = size ∙ one;
      stopped = stopped' ∙ stopped;
      before = before' ∙ before;
    }
