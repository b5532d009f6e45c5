use Rattle.std.proofs.Common.{◌≡◌, ◌++◌, sym, refl, subst, ℕ, List, true, string_bytes}
use Rattle.std.proofs.lemmas.List.{append-nil}
use Rattle.std.specs.Option.{is_some}
use Rattle.pulsar_frame.specs.Frame.{bad, left}
use Rattle.pulsar_frame.proofs.Streams.{bad-append, left-append}
use Rattle.pulsar_broker.specs.History.{stream, turns}
use Rattle.pulsar_broker.specs.Kept.{IsKept, owed_on, state_in}
use Rattle.pulsar_broker.specs.Stands.{HasAnswered, HasGoneOn, HasRead, IsReading}
use Rattle.pulsar_broker.specs.declared.broker.Broker.{Broker}
use Rattle.pulsar_broker.specs.declared.broker.Reading.{Reading}
use Rattle.pulsar_broker.specs.declared.broker.Reading.TheVariants.{Refused}
use Rattle.pulsar_broker.proofs.Hearing.{ended_is, ended_refused, still_refused}
use Rattle.pulsar_broker.proofs.broker.Broker.go_on.Goals as goal

gone_on : (url : List ℕ) (link : ℕ) (reader piece stream : List ℕ) (after : Reading) (old new : Broker) → reader ≡ left stream → HasRead url link (reader ++ piece) after old new →
    HasGoneOn url link piece stream after old new
gone_on url link reader piece stream after old new at read =
    let h : HasRead url link (left stream ++ piece) after old new = subst (λ xs. HasRead url link (xs ++ piece) after old new) at read in
    record {
      answered = subst (λ ms. HasAnswered (turns url link ms (state_in old.tables)) old new) (sym (ended_is piece stream)) h.answered;
      reads = subst (λ xs. IsReading after xs (bad (stream ++ piece))) (sym (left-append stream piece)) (subst (λ o. IsReading after (left (left stream ++ piece)) o) (sym (bad-append stream piece)) h.reads);
    }

refused_on : (url : List ℕ) (link : ℕ) (piece stream : List ℕ) (old : Broker) → IsKept old.tables → is_some (bad stream) ≡ true → HasGoneOn url link piece stream Refused old old
refused_on url link piece stream old kept refused =
    record {
      answered = subst (λ ms. HasAnswered (turns url link ms (state_in old.tables)) old old) (sym (ended_refused piece stream (bad stream) refl refused)) (record {
        same = record { url = refl; readings = refl };
        state = refl;
        given = λ l. sym (append-nil (owed_on old.outbox l));
        kept = kept;
      });
      reads = still_refused piece stream (bad stream) refl refused;
    }

pub returns-in_ok-read-in-Reads-clause-after : goal.returns-in_ok-read-in-Reads-clause-after
returns-in_ok-read-in-Reads-clause-after c kept stream reads =
    gone_on (string_bytes c.args.self.now.url) c.args.link c.in-Reads.reader c.args.piece.now stream c.in_ok-read-in-Reads.field-0 c.args.self.now c.read.new.self
    (subst (λ r. IsReading r (left stream) (bad stream)) c.in-Reads.is reads) (c.in_ok-read-in-Reads.ensures.read kept)

pub returns-in-Refused-clause-after : goal.returns-in-Refused-clause-after
returns-in-Refused-clause-after c kept stream reads =
    refused_on (string_bytes c.args.self.now.url) c.args.link c.args.piece.now stream c.args.self.now kept (subst (λ r. IsReading r (left stream) (bad stream)) c.in-Refused.is reads)
