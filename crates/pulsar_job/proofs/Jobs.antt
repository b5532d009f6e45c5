-- How a run went, by its parts.
use Rattle.std.proofs.Common.{inl, inr, ◌⊎◌, ◌≡◌, ℕ, sym, subst, List, refl, arith, Option, Some, None}
use Rattle.std.specs.Prelude.{IfSome, MatchOption}
use Rattle.pulsar_producer.specs.Routing.{Policy}
use Rattle.pulsar_machine.specs.Options.{Options}
use Rattle.pulsar_calls.specs.Steps.{Step}
use Rattle.pulsar_work.specs.Calls.{Work}
use Rattle.pulsar_work.specs.Form.{Asking, url_of}
use Rattle.pulsar_job.specs.Links.{LinkSeen}
use Rattle.pulsar_job.specs.Outside.{Seen}
use Rattle.pulsar_job.specs.Parts.{Begins, IsHalted, IsIdle, Performs, status_of}
use Rattle.pulsar_job.specs.Went.{Completes, Drove, EdgeSeen, Ended, Idled, ReadToItsEnd, Went, work_of}
use Rattle.pulsar_job.specs.declared.status.Stop.{Stop}
use Rattle.pulsar_job.specs.declared.status.Stop.TheVariants as stop

-- the statuses of what was performed
performed : (IsGood : Options → List Step → Type 0) (status : ℕ) (url : List ℕ) (policies : List Policy) (w : Work) (sink : Seen) (edge : EdgeSeen) (links : List LinkSeen) (trace : Option (Options × List Step))
    → MatchOption trace (IsIdle status sink) (λ t. Drove IsGood url policies edge links t.0 t.1 × Ended status w sink t.1) → (status ≡ 3) ⊎ ((status ≡ 0) ⊎ (status ≡ 5) ⊎ (status ≡ 7))
performed IsGood status url policies w sink edge links None h = inl h.memory
performed IsGood status url policies w sink edge links (Some t) h = inr h.1.known

no-other : (status n : ℕ) → n ≡ 4 ⊎ n ≡ 6 → status ≡ n → (status ≡ 3) ⊎ ((status ≡ 0) ⊎ (status ≡ 5) ⊎ (status ≡ 7)) → ⊥
no-other status n (inl e) is (inl h) = omega (arith, e, is, h)
no-other status n (inl e) is (inr (inl h)) = omega (arith, e, is, h)
no-other status n (inl e) is (inr (inr (inl h))) = omega (arith, e, is, h)
no-other status n (inl e) is (inr (inr (inr h))) = omega (arith, e, is, h)
no-other status n (inr e) is (inl h) = omega (arith, e, is, h)
no-other status n (inr e) is (inr (inl h)) = omega (arith, e, is, h)
no-other status n (inr e) is (inr (inr (inl h))) = omega (arith, e, is, h)
no-other status n (inr e) is (inr (inr (inr h))) = omega (arith, e, is, h)

how-of : (IsGood : Options → List Step → Type 0) (a : Asking) (policies : List Policy) (status : ℕ) (source sink : Seen) (edge : EdgeSeen) (links : List LinkSeen) (url : List ℕ) (w : Work) (b : Begins a url w source) (trace : Option (Options × List Step))
    → MatchOption trace (IsIdle status sink) (λ t. Drove IsGood url policies edge links t.0 t.1 × Ended status w sink t.1)
    → MatchOption trace (Idled status sink) (λ t. Drove IsGood (url_of a) policies edge links t.0 t.1 × Ended status (work_of a b.given.bytes) sink t.1 × ReadToItsEnd a b.given.count b.given.bytes)
how-of IsGood a policies status source sink edge links url w b None h = record { known = inl h.memory; printed = h.printed }
how-of IsGood a policies status source sink edge links url w b (Some t) h = (
  subst (λ u. Drove IsGood u policies edge links t.0 t.1) b.address h.0,
  subst (λ x. Ended status x sink t.1) b.work h.1,
  b.whole,
)

pub went-begun : {IsGood : Options → List Step → Type 0} (a : Asking) (policies : List Policy) (status : ℕ) (source sink : Seen) (edge : EdgeSeen) (links : List LinkSeen) (trace : Option (Options × List Step)) (url : List ℕ) (w : Work)
    → Begins a url w source → Performs IsGood url policies w status sink edge links trace → Went IsGood a policies status source sink edge links trace
went-begun {IsGood = IsGood} a policies status source sink edge links trace url w b p =
    let is = performed IsGood status url policies w sink edge links trace p.how in
    let within = b.limits in
    record {
      given = b.given;
      source_failed = λ e. absurd (no-other status 4 (inl refl) e is);
      sink_failed = p.sink_failed;
      limits = (λ e. absurd (no-other status 6 (inr refl) e is), λ more. absurd (omega (arith, more, within)));
      how = how-of IsGood a policies status source sink edge links url w b trace p.how;
    }

pub went-halted : {IsGood : Options → List Step → Type 0} (a : Asking) (policies : List Policy) (s : Stop) (source sink : Seen) (edge : EdgeSeen) (links : List LinkSeen) → IsHalted s source → sink.after ≡ sink.before
    → Went IsGood a policies (status_of s) source sink edge links None
went-halted a policies stop.NoMemory source sink edge links h same =
    let why = h.why in
    record {
      given = h.given;
      source_failed = λ e. absurd (omega (arith, e));
      sink_failed = λ e. absurd (omega (arith, e));
      limits = (λ e. absurd (omega (arith, e)), λ more. absurd (omega (arith, more, why)));
      how = record { known = inl refl; printed = same };
    }
went-halted a policies stop.Source source sink edge links h same =
    let why = h.why.1 in
    record {
      given = h.given;
      source_failed = λ e. h.why.0;
      sink_failed = λ e. absurd (omega (arith, e));
      limits = (λ e. absurd (omega (arith, e)), λ more. absurd (omega (arith, more, why)));
      how = record { known = inr (inl refl); printed = same };
    }
went-halted a policies stop.TooLong source sink edge links h same =
    record {
      given = h.given;
      source_failed = λ e. absurd (omega (arith, e));
      sink_failed = λ e. absurd (omega (arith, e));
      limits = (λ e. h.why, λ more. refl);
      how = record { known = inr (inr refl); printed = same };
    }

-- THE WORDS

pub at-some : {A : Type 0} (o : Option A) (a : A) (P : A → Type 0) → o ≡ Some a → IfSome o P → P a
at-some {A} o a P is h = subst (λ (x : Option A). IfSome x P) is h

pub match-some : {A : Type 0} (o : Option A) (a : A) (P : A → Type 0) → o ≡ Some a → P a → MatchOption o (Unit {0}) P
match-some {A} o a P is h = subst (λ (x : Option A). MatchOption x (Unit {0}) P) (sym is) h

-- with the status, and without a trace
pub went-idle : {IsGood : Options → List Step → Type 0} (a : Asking) (policies : List Policy) (s : Stop) (status : ℕ) (source sink : Seen) (edge : EdgeSeen) (links : List LinkSeen) (trace : Option (Options × List Step)) → status ≡ status_of s → trace ≡ None → IsHalted s source → sink.after ≡ sink.before
    → Went IsGood a policies status source sink edge links trace
went-idle {IsGood = IsGood} a policies s status source sink edge links trace is none halted same =
    subst (λ n. Went IsGood a policies n source sink edge links trace) (sym is) (subst (λ t. Went IsGood a policies (status_of s) source sink edge links t) (sym none) (went-halted a policies s source sink edge links halted same))

-- COMPLETENESS

finished : (IsGood : Options → List Step → Type 0) (status : ℕ) (a : Asking) (policies : List Policy) (sink : Seen) (edge : EdgeSeen) (links : List LinkSeen) (w : Work) (count : ℕ) (bytes : List ℕ) (trace : Option (Options × List Step))
    → MatchOption trace (Idled status sink) (λ t. Drove IsGood (url_of a) policies edge links t.0 t.1 × Ended status w sink t.1 × ReadToItsEnd a count bytes)
    → (status ≡ 4 → ⊥) → (status ≡ 5 → ⊥) → (status ≡ 6 → ⊥) → (status ≡ 0) ⊎ (status ≡ 3) ⊎ (status ≡ 7)
finished IsGood status a policies sink edge links w count bytes None h four five six = elim h.known as (λ v. (status ≡ 0) ⊎ (status ≡ 3) ⊎ (status ≡ 7)) [
  | inl e ↦ inr (inl e)
  | inr m ↦ elim m as (λ v. (status ≡ 0) ⊎ (status ≡ 3) ⊎ (status ≡ 7)) [ inl e ↦ absurd (four e) | inr e ↦ absurd (six e) ]
]
finished IsGood status a policies sink edge links w count bytes (Some t) h four five six = elim h.1.known as (λ v. (status ≡ 0) ⊎ (status ≡ 3) ⊎ (status ≡ 7)) [
  | inl e ↦ inl e
  | inr m ↦ elim m as (λ v. (status ≡ 0) ⊎ (status ≡ 3) ⊎ (status ≡ 7)) [ inl e ↦ absurd (five e) | inr e ↦ inr (inr e) ]
]

pub completes : (IsGood : Options → List Step → Type 0) → Completes IsGood
completes IsGood a policies status source sink edge links trace went no_source no_sink within =
    finished IsGood status a policies sink edge links (work_of a went.given.bytes) went.given.count went.given.bytes trace went.how (λ e. no_source (went.source_failed e)) (λ e. no_sink (went.sink_failed e))
    (λ e. let more = went.limits.0 e in omega (arith, more, within))
