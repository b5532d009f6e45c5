-- The calls of a turn, and turns one after the other.
use Rattle.std.proofs.Common.{◌≡◌, ◌∙◌, ◌≤◌, ◌<◌, ◌++◌, ℕ, Bool, true, false, sym, ap, subst, refl, List, [], ◌∷◌, length, Option, Some, None}
use Rattle.std.specs.Option.{is_some}
use Rattle.std.specs.Prelude.{Result, Ok, Err, IfOk, OnOk, slice_get}
use Rattle.pulsar_wire.specs.declared.error.NoMemory.{NoMemory}
use Rattle.pulsar_wire.specs.declared.error.IoKind.{IoKind}
use Rattle.pulsar_calls.specs.Content.{Asked, Stop, Called, Ticked, Poll, Shown}
use Rattle.pulsar_calls.specs.Steps.{Step}
use Rattle.pulsar_pumps.specs.Outside.{first_of, later_of}
use Rattle.pulsar_work.specs.Asking.{IsTaking, call_at}
use Rattle.pulsar_work.specs.Calls.{Work}
use Rattle.pulsar_work.specs.Progress.{Knows, links_of, owed_ack, wanted_in}
use Rattle.pulsar_work.specs.declared.progress.Progress.{Progress}
use Rattle.pulsar_job.specs.Driven.{Asks, Calls, ComesOut, Dialing, EdgeNow, Ends, Goes, IsDialed, IsQuiet, IsSame, Knits, LinkNow, Makes, MakesLast, Reaches, Rests, Runs, Submits, UpToCalls, Works}
use Rattle.pulsar_job.proofs.Goings.{knits-quiet, knits-same, knits-then, knits-tick, quiet-event, quiet-same, quiet-then, runs-dialed, runs-event, runs-tick}
use Rattle.pulsar_job.proofs.Stages.{works-acked, works-called, works-same, works-step, works-stopped}

-- what is known does not depend on these
pub knows-dials : (p : Progress) (es : List Shown) (acked : List Asked) (q : Progress) → q.ended ≡ p.ended → q.first_open ≡ p.first_open → q.failed ≡ p.failed → q.given ≡ p.given → q.owed ≡ p.owed
    → q.is_over ≡ p.is_over → Knows p es acked → Knows q es acked
knows-dials p es acked q ended first failed given owed over k =
    record {
      ended = λ t h. k.ended t (ap (λ v. slice_get v.items t) (sym ended) ∙ h);
      marked = λ t h. ap (λ v. slice_get v.items t) ended ∙ k.marked t h;
      all = λ t lt. k.all t (subst (λ n. t < n) first lt);
      good = λ h. k.good (sym failed ∙ h);
      bad = λ h. k.bad (sym failed ∙ h);
      given = given ∙ k.given;
      acks = k.acks ∙ ap (λ o. acked ++ owed_ack o) (sym owed);
      over = λ h. k.over (sym over ∙ h);
    }

-- what is said of a value that is there
pub on-ok : {A E : Type 0} (r : Result A E) (P Q : Type 0) → (P → Q) → OnOk r P → OnOk r Q
on-ok (Ok x) P Q f h = f h
on-ok (Err e) P Q f h = tt

pub always-ok : {A E : Type 0} (r : Result A E) (P : Type 0) → P → OnOk r P
always-ok (Ok x) P h = h
always-ok (Err e) P h = tt

pub none-of : {A : Type 0} (o : Option A) → false ≡ is_some o → o ≡ None
none-of None h = refl
none-of (Some x) h = absurd cc

-- ONE CALL

module _ (w : Work) (h h' : List Step) (p q : Progress) (going : p.stopped ≡ false) where
  pub makes-called : (c : Asked) → call_at w (length p.ended.items) ≡ Some c → Asks c h h' p q → Makes w h h' p q
  makes-called c at asks =
      record {
        runs = λ late ls r. runs-event late w (Called c) asks.out h h' p q ls refl (λ k. refl) refl asks.step asks.dials (works-called w h h' p q c at going asks r.works) r;
        quiet = quiet-event (Called c) asks.out h h' refl (λ k. refl) asks.step;
        stopped = asks.stopped ∙ going;
      }

  pub makes-acked : (p' : Progress) (c : Asked) → c ∷ [] ≡ owed_ack p.owed → 2 ≤ length p.ended.items → IsTaking w
      → ((es : List Shown) (acked : List Asked) → Knows p es acked → Knows p' es (acked ++ owed_ack p.owed)) → p'.stopped ≡ p.stopped → length p'.ended.items ≡ length p.ended.items → p'.dials ≡ p.dials
      → Asks c h h' p' q → Makes w h h' p q
  makes-acked p' c owed two taking knows stopped size dials asks =
      record {
        runs = λ late ls r. runs-event late w (Called c) asks.out h h' p q ls refl (λ k. refl) refl asks.step (asks.dials ∙ ap (λ d. links_of d.items ++ wanted_in asks.out) dials)
            (works-acked w h h' p p' q c owed two taking going knows stopped size asks r.works) r;
        quiet = quiet-event (Called c) asks.out h h' refl (λ k. refl) asks.step;
        stopped = asks.stopped ∙ stopped ∙ going;
      }

  pub makes-polled : (t : ℕ) → Submits (Poll t) h h' p q → Makes w h h' p q
  makes-polled t submits =
      record {
        runs = λ late ls r. runs-event late w (Poll t) submits.out h h' p q ls refl (λ k. refl) refl submits.step submits.learns.dials (works-step w (Poll t) h h' p q refl submits r.works) r;
        quiet = quiet-event (Poll t) submits.out h h' refl (λ k. refl) submits.step;
        stopped = submits.learns.stopped ∙ going;
      }

pub makes-none : (w : Work) (h : List Step) (p : Progress) → p.stopped ≡ false → Makes w h h p p
makes-none w h p going = record { runs = λ late ls r. r; quiet = quiet-same h; stopped = going }

-- ALL CALLS

-- so far none was the last
pub record Going (w : Work) (h h' : List Step) (p p' : Progress) (ls ls' : List LinkNow) : Type 0 where
  pub runs : (late : Bool) → Runs late w h p ls → Runs late w h' p' ls'
  pub quiet : IsQuiet h h'
  pub stopped : p'.stopped ≡ false

pub going-none : (w : Work) (h : List Step) (p : Progress) (ls : List LinkNow) → p.stopped ≡ false → Going w h h p p ls ls
going-none w h p ls going = record { runs = λ late r. r; quiet = quiet-same h; stopped = going }

pub going-made : (w : Work) (a b c : List Step) (p q r : Progress) (ls ms : List LinkNow) → Going w a b p q ls ms → Makes w b c q r → Going w a c p r ls ms
going-made w a b c p q r ls ms g m = record { runs = λ late x. m.runs late ms (g.runs late x); quiet = quiet-then a b c g.quiet m.quiet; stopped = m.stopped }

pub going-goes : (w : Work) (a b c : List Step) (p q r : Progress) (ls ms ns : List LinkNow) → Going w a b p q ls ms → Goes w b c q r ms ns → Going w a c p r ls ns
going-goes w a b c p q r ls ms ns g m = record { runs = λ late x. m.runs late (g.runs late x); quiet = quiet-then a b c g.quiet m.quiet; stopped = m.stopped ∙ g.stopped }

pub going-same : (w : Work) (a b c : List Step) (p q r : Progress) (ls ms : List LinkNow) → Going w a b p q ls ms → IsSame b c q r → Going w a c p r ls ms
going-same w a b c p q r ls ms g same = subst (λ t. Going w a t p r ls ms) (sym same.history) (subst (λ x. Going w a b p x ls ms) (sym same.progress) g)

-- what is known does not depend on how it stops
pub knows-stopped : (q : Progress) (es : List Shown) (acked : List Asked) → Knows q es acked → Knows (record q { stopped = true; failed_before = q.failed }) es acked
knows-stopped q es acked k = knows-dials q es acked (record q { stopped = true; failed_before = q.failed }) refl refl refl refl refl refl k

pub going-ends : (w : Work) (a b : List Step) (p q : Progress) (ls ms : List LinkNow) → Going w a b p q ls ms → Calls w a b p q ls ms
going-ends w a b p q ls ms g = record { runs = g.runs; quiet = g.quiet }

pub going-last : (w : Work) (a b c : List Step) (p q r : Progress) (ls ms : List LinkNow) → Going w a b p q ls ms → MakesLast w b c q r
    → ((es : List Shown) (acked : List Asked) → Knows q es acked → Knows (record q { stopped = true; failed_before = q.failed }) es acked) → Calls w a c p r ls ms
going-last w a b c p q r ls ms g last same =
    let asks = last.asks in
    record {
      runs = λ late x.
          let y = g.runs late x in
          runs-event late w (Called Stop) asks.out b c q r ms refl (λ k. refl) refl asks.step asks.dials (works-stopped w b c q r last.stops g.stopped asks same y.works) y;
      quiet = quiet-then a b c g.quiet (quiet-event (Called Stop) asks.out b c refl (λ k. refl) asks.step);
    }

-- TURNS

-- so far the job goes on
pub record Turns (w : Work) (h h' : List Step) (p p' : Progress) (ls ls' : List LinkNow) (e e' : EdgeNow) : Type 0 where
  pub runs : Runs true w h p ls → Runs true w h' p' ls'
  pub stopped : p'.stopped ≡ false
  pub knits : Knits h h' e e'

pub turns-none : (w : Work) (h : List Step) (p : Progress) (ls : List LinkNow) (e : EdgeNow) → p.stopped ≡ false → Turns w h h p p ls ls e e
turns-none w h p ls e going = record { runs = λ r. r; stopped = going; knits = knits-same h e }

-- what was to be dialed is dialed, and then nothing is dry
module _ (w : Work) (b c d : List Step) (q r r' s : Progress) (ms ns os : List LinkNow) (f g : EdgeNow) (going : q.stopped ≡ false) (reaches : Reaches w b c q r ms ns f g) (dialed : IsDialed r)
    (knows : (es : List Shown) (acked : List Asked) → Knows r es acked → Knows r' es acked) (ended : r'.ended ≡ r.ended) (stopped : r'.stopped ≡ r.stopped) (before : r'.failed_before ≡ r.failed_before)
    (dials : r'.dials ≡ r.dials) (calls : r'.stopped ≡ false → Calls w c d r' s ns os) where
  dry : Runs false w c r ns → Runs false w c r' ns
  dry now =
      record {
        works = works-same w c r r' knows (ap (λ v. length v.items) ended) stopped before now.works;
        links = now.links;
        writing = now.writing;
        dialing = subst (λ ds. Dialing false c (links_of ds.items)) (sym dials) now.dialing;
        in_time = now.in_time;
      }

  pub turn-begins : UpToCalls w b d q s ms os f g
  turn-begins =
      let made = calls (stopped ∙ reaches.stopped ∙ going) in
      record {
        runs = λ x. made.runs false (dry (runs-dialed true w c r ns dialed (reaches.runs true x)));
        knits = knits-then b c d f g g reaches.knits (knits-quiet c d g made.quiet);
      }

-- turns, and the front of one more
pub turn-called : (w : Work) (a b d : List Step) (p q s : Progress) (ls ms os : List LinkNow) (e f g : EdgeNow) → Turns w a b p q ls ms e f
    → (q.stopped ≡ false → UpToCalls w b d q s ms os f g) → UpToCalls w a d p s ls os e g
turn-called w a b d p q s ls ms os e f g turns front =
    let begun = front turns.stopped in
    record { runs = λ x. begun.runs (turns.runs x); knits = knits-then a b d e f g turns.knits begun.knits }

-- the end of a job
pub ends-out : (w : Work) (a c d : List Step) (p s t : Progress) (ls os us : List LinkNow) (e g : EdgeNow) (all_well : Bool) → (p.stopped ≡ false → UpToCalls w a c p s ls os e g)
    → Goes w c d s t os us → ((x : Work) (h : List Step) → Works x h t → ComesOut x h all_well) → Ends w a d p ls us all_well
ends-out w a c d p s t ls os us e g all_well called goes out =
    record {
      out = λ x going. out w d (goes.runs false ((called going).runs x)).works;
      links = λ x going. let y = goes.runs false ((called going).runs x) in (y.links, y.in_time);
    }

pub ends-knits : (w : Work) (a c d : List Step) (p s t : Progress) (ls os us : List LinkNow) (e g : EdgeNow) → (p.stopped ≡ false → UpToCalls w a c p s ls os e g) → Goes w c d s t os us → p.stopped ≡ false → Knits a d e g
ends-knits w a c d p s t ls os us e g called goes going = knits-then a c d e g g (called going).knits (knits-quiet c d g goes.quiet)

pub ends-all : (r : Result Bool NoMemory) (w : Work) (a c d : List Step) (p s t : Progress) (ls os us : List LinkNow) (e g : EdgeNow) → (p.stopped ≡ false → UpToCalls w a c p s ls os e g)
    → Goes w c d s t os us → IfOk r (λ all_well. (x : Work) (h : List Step) → Works x h t → ComesOut x h all_well) → IfOk r (λ all_well. Ends w a d p ls us all_well)
ends-all (Ok all_well) w a c d p s t ls os us e g called goes out = ends-out w a c d p s t ls os us e g all_well called goes out
ends-all (Err none) w a c d p s t ls os us e g called goes out = tt

-- the rest of a turn
pub rests : (w : Work) (c d k m : List Step) (s t u v : Progress) (os us vs : List LinkNow) (g g' g'' : EdgeNow) (now : ℕ)
    → Goes w c d s t os us → Goes w d k t u us vs → Submits (Ticked now) k m u v → g'.first ≡ Some (first_of g.first now) → g'.greatest ≡ Some (later_of g.greatest now)
    → ((j : IoKind) → g.failed j ≤ g'.failed j) → g''.first ≡ g'.first → g''.greatest ≡ g'.greatest → ((j : IoKind) → g'.failed j ≤ g''.failed j) → Rests w c m s v os vs g g''
rests w c d k m s t u v os us vs g g' g'' now writes hears tick first greatest grows first' greatest' grows' =
    record {
      runs = λ x. runs-tick w now k m u v vs tick (hears.runs false (writes.runs false x));
      knits = knits-then c k m g g g'' (knits-quiet c k g (quiet-then c d k writes.quiet hears.quiet)) (knits-tick now k m u v g g' g'' tick first greatest grows first' greatest' grows');
      stopped = tick.learns.stopped ∙ hears.stopped ∙ writes.stopped;
    }

-- one turn more
pub turn-ends : (w : Work) (a c m : List Step) (p s v : Progress) (ls os vs : List LinkNow) (e g g'' : EdgeNow) → UpToCalls w a c p s ls os e g → s.stopped ≡ false
    → Rests w c m s v os vs g g'' → Turns w a m p v ls vs e g''
turn-ends w a c m p s v ls os vs e g g'' called going rest =
    record { runs = λ x. rest.runs (called.runs x); stopped = rest.stopped ∙ going; knits = knits-then a c m e g g'' called.knits rest.knits }
