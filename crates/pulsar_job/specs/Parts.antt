-- For the code's contracts alone: the parts of a run.
use Rattle.std.specs.Prelude.{◌≡◌, ◌≤◌, ◌<◌, ℕ, List, Option, MatchOption}
use Rattle.pulsar_wire.specs.declared.error.IoKind.{IoKind}
use Rattle.pulsar_producer.specs.Routing.{Policy}
use Rattle.pulsar_machine.specs.Options.{Options}
use Rattle.pulsar_calls.specs.Steps.{Step}
use Rattle.pulsar_work.specs.Calls.{Work}
use Rattle.pulsar_work.specs.Form.{Asking, url_of}
use Rattle.pulsar_job.specs.Links.{LinkSeen}
use Rattle.pulsar_job.specs.Outside.{Given, HasFault, Seen, limit}
use Rattle.pulsar_job.specs.Went.{Drove, EdgeSeen, Ended, Ran, ReadToItsEnd, work_of}
use Rattle.pulsar_job.specs.declared.status.Stop.{Stop}
use Rattle.pulsar_job.specs.declared.status.Stop.TheVariants as stop

-- what is to be done is known, and the source of `produce` was read to its end
pub record Begins (a : Asking) (url : List ℕ) (w : Work) (source : Seen) : Type 0 where
  pub address : url ≡ url_of a
  pub given : Given source
  pub work : w ≡ work_of a given.bytes
  pub limits : given.count ≤ limit
  pub whole : ReadToItsEnd a given.count given.bytes

-- why it is not known
abbrev pub IsWhy : Stop → (source : Seen) → (count : ℕ) → Type 0
IsWhy stop.NoMemory source n = n ≤ limit
IsWhy stop.Source source n = HasFault source × (n ≤ limit)
IsWhy stop.TooLong source n = limit < n

pub record IsHalted (s : Stop) (source : Seen) : Type 0 where
  pub given : Given source
  pub why : IsWhy s source given.count

-- its status
abbrev pub status_of : Stop → ℕ
status_of stop.NoMemory = 3
status_of stop.Source = 4
status_of stop.TooLong = 6

-- without a trace nothing was printed
pub record IsIdle (status : ℕ) (sink : Seen) : Type 0 where
  pub memory : status ≡ 3
  pub printed : sink.after ≡ sink.before

-- the report of this history was printed
pub record Finishes (IsGood : Options → List Step → Type 0) (o : Options) (h : List Step) (w : Work) (status : ℕ) (sink : Seen) (before links : List LinkSeen) (trace : Option (Options × List Step)) : Type 0 where
  pub sink_failed : status ≡ 5 → HasFault sink
  pub how : MatchOption trace (IsIdle status sink) (λ t. (t.0 ≡ o) × (t.1 ≡ h) × (links ≡ before) × ∥ IsGood t.0 t.1 ∥₁ × Ended status w sink t.1)

-- a client of these options was driven
pub record Drives (IsGood : Options → List Step → Type 0) (o : Options) (w : Work) (before after : IoKind → ℕ) (greatest : Option ℕ) (status : ℕ) (sink : Seen) (links : List LinkSeen) (trace : Option (Options × List Step)) : Type 0 where
  pub sink_failed : status ≡ 5 → HasFault sink
  pub how : MatchOption trace (IsIdle status sink) (λ t. (t.0 ≡ o) × ∥ IsGood t.0 t.1 ∥₁ × Ran before after greatest links t.1 × Ended status w sink t.1)

-- a client for this address was driven
pub record Performs (IsGood : Options → List Step → Type 0) (url : List ℕ) (policies : List Policy) (w : Work) (status : ℕ) (sink : Seen) (edge : EdgeSeen) (links : List LinkSeen) (trace : Option (Options × List Step)) : Type 0 where
  pub sink_failed : status ≡ 5 → HasFault sink
  pub how : MatchOption trace (IsIdle status sink) (λ t. Drove IsGood url policies edge links t.0 t.1 × Ended status w sink t.1)
