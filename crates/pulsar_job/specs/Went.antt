-- How a run of `produce` or `consume` went.
use Rattle.std.specs.Prelude.{◌≡◌, ◌≤◌, ◌<◌, ◌⊎◌, ◌↔◌, ℕ, List, length, Option, Some, None, MatchOption}
use Rattle.pulsar_wire.specs.declared.error.IoKind.{IoKind}
use Rattle.pulsar_producer.specs.Routing.{Policy}
use Rattle.pulsar_machine.specs.Options.{Options}
use Rattle.pulsar_calls.specs.Steps.{Step}
use Rattle.pulsar_machine.specs.Machine.{options_for}
use Rattle.pulsar_work.specs.Form.{Asking, Produce, Consume, lines_of, url_of}
use Rattle.pulsar_job.specs.Outside.{Adds, AddsFront, Given, HasFault, Seen, limit}
use Rattle.pulsar_work.specs.Report.{report}
use Rattle.pulsar_work.specs.Calls.{Work, Sends, Takes, IsDone, HasFailed}
use Rattle.pulsar_job.specs.Links.{LinkSeen, AreLinks, DialsInTime, Fits}

-- What is seen of an edge: how many dials have failed with each kind, before and after; the first moment that it has told, before and after,
-- and the greatest.
pub record EdgeSeen : Type 0 where
  pub failed_before : IoKind → ℕ
  pub failed_after : IoKind → ℕ
  pub first_before : Option ℕ
  pub first_after : Option ℕ
  pub greatest : Option ℕ

abbrev pub edge_seen : {E : Type 0} → (E → IoKind → ℕ) → (E → Option ℕ) → (E → Option ℕ) → E → E → EdgeSeen
edge_seen failures first greatest old new =
    record {
      failed_before = failures old;
      failed_after = failures new;
      first_before = first old;
      first_after = first new;
      greatest = greatest new;
    }

-- what is to be done, with these bytes of the source
abbrev pub work_of : Asking → List ℕ → Work
work_of (Produce url topic) bytes = Sends topic (lines_of bytes)
work_of (Consume url topic subscription count) bytes = Takes topic subscription count

-- the client was made at the first moment that the edge told, where it had told none before
abbrev pub IsMadeAt : EdgeSeen → (now : ℕ) → Type 0
IsMadeAt edge now = edge.first_before ≡ None → edge.first_after ≡ Some now

-- Each link was dialed in time, and carried just what its halves gave and took. The edge has counted the dials that failed, and has told the
-- moments.
pub record Ran (before after : IoKind → ℕ) (greatest : Option ℕ) (links : List LinkSeen) (h : List Step) : Type 0 where
  pub dials : DialsInTime h
  pub carried : AreLinks h links
  pub fits : Fits before after greatest h

-- The trace of a run. It is a good run of the client for the address among the words; `IsGood` says of options and a history that they are one.
pub record Drove (IsGood : Options → List Step → Type 0) (url : List ℕ) (policies : List Policy) (edge : EdgeSeen) (links : List LinkSeen) (o : Options) (h : List Step) : Type 0 where
  pub now : ℕ
  pub made : IsMadeAt edge now
  pub options : o ≡ options_for url now policies
  pub good : ∥ IsGood o h ∥₁
  pub ran : Ran edge.failed_before edge.failed_after edge.greatest links h

-- What is said of it by the status: at 0 the work is done, and at 7 an error stands in it. The report of it is what was printed, or a front
-- of that at status 5.
pub record Ended (status : ℕ) (w : Work) (sink : Seen) (h : List Step) : Type 0 where
  pub known : (status ≡ 0) ⊎ (status ≡ 5) ⊎ (status ≡ 7)
  pub done : status ≡ 0 → IsDone w h
  pub failed : status ≡ 7 → HasFailed w h
  pub printed : (status ≡ 5 → ⊥) → Adds sink.before sink.after (report h)
  pub begun : AddsFront sink.before sink.after (report h)

-- What is left where there is no trace: nothing was printed.
pub record Idled (status : ℕ) (sink : Seen) : Type 0 where
  pub known : (status ≡ 3) ⊎ (status ≡ 4) ⊎ (status ≡ 6)
  pub printed : sink.after ≡ sink.before

-- all bytes of the source of `produce` were taken
abbrev pub ReadToItsEnd : Asking → (count : ℕ) → (bytes : List ℕ) → Type 0
ReadToItsEnd (Produce url topic) count bytes = count ≡ length bytes
ReadToItsEnd (Consume url topic subscription n) count bytes = Unit {0}

-- How a run went for what the words ask. With status 4 the source has had a fault, with status 5 the sink, and with status 6 and no other one
-- more bytes than the limit were taken. Where a trace is there the source of `produce` was read to its end.
pub record Went (IsGood : Options → List Step → Type 0) (a : Asking) (policies : List Policy) (status : ℕ) (source sink : Seen) (edge : EdgeSeen) (links : List LinkSeen)
    (trace : Option (Options × List Step)) : Type 0 where
  pub given : Given source
  pub source_failed : status ≡ 4 → HasFault source
  pub sink_failed : status ≡ 5 → HasFault sink
  pub limits : (status ≡ 6) ↔ (limit < given.count)
  pub how : MatchOption trace (Idled status sink)
      (λ t. Drove IsGood (url_of a) policies edge links t.0 t.1 × Ended status (work_of a given.bytes) sink t.1 × ReadToItsEnd a given.count given.bytes)

-- so it went, with some links and some trace
pub record HasGone (IsGood : Options → List Step → Type 0) (a : Asking) (policies : List Policy) (status : ℕ) (source sink : Seen) (edge : EdgeSeen) : Type 0 where
  pub links : List LinkSeen
  pub trace : Option (Options × List Step)
  pub went : Went IsGood a policies status source sink edge links trace

-- Without faults, and within the limit, a run is done, or has failed by an error in its trace, unless memory runs out.
abbrev pub Completes : (IsGood : Options → List Step → Type 0) → Type 0
Completes IsGood =
    (a : Asking) (policies : List Policy) (status : ℕ) (source sink : Seen) (edge : EdgeSeen) (links : List LinkSeen) (trace : Option (Options × List Step))
    → (went : Went IsGood a policies status source sink edge links trace) → (HasFault source → ⊥) → (HasFault sink → ⊥) → went.given.count ≤ limit
    → (status ≡ 0) ⊎ (status ≡ 3) ⊎ (status ≡ 7)
