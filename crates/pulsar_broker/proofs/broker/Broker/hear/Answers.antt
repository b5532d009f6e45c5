use Rattle.std.proofs.Common.{◌∙◌, ◌<◌, sym, ap, refl, subst, ℕ, List, length, arith, string_bytes}
use Rattle.std.proofs.lemmas.Bool.{false≢true}
use Rattle.std.specs.Option.{is_some}
use Rattle.pulsar_broker.specs.Stands.{HasAnswered}
use Rattle.pulsar_frame.specs.Frame.{bad, cut, left}
use Rattle.pulsar_frame.specs.Shown.{message_values}
use Rattle.pulsar_frame.proofs.Streams.{bad-refused, cut-refused, cut-short, front-shorter, left-refused, left-short}
use Rattle.pulsar_broker.specs.History.{turns}
use Rattle.pulsar_broker.specs.Kept.{owed_on, state_in}
use Rattle.pulsar_broker.specs.State.{turn}
use Rattle.pulsar_broker.proofs.Hearing.{heard_all, heard_one}
use Rattle.pulsar_broker.proofs.broker.Broker.hear.Goals as goal

pub loop-message-init : goal.loop-message-init
loop-message-init c = record {
  failed = refl;
  heard = λ kept. record {
    same = record { url = refl; readings = refl };
    kept = kept;
    hears = record { state = refl; given = λ l. refl; ends = refl; refuses = refl };
  };
}

pub loop-message-smaller : goal.loop-message-smaller
loop-message-smaller c =
    let is = rw c.in-Ok-Some.field-0-is at c.in-Ok-Some.ensures in
    let le = front-shorter c.loop-message.reader (message_values c.in-Ok-Some.message) c.next.new.self is in
    let lt : length c.next.new.self < length c.loop-message.reader = omega (arith, le) in
    lt

pub loop-message-preserved : goal.loop-message-preserved
loop-message-preserved c = record {
  failed = c.answer.ensures.failed ∙ c.loop-message.invariant.failed;
  heard = λ kept.
      let is = rw c.in-Ok-Some.field-0-is at c.in-Ok-Some.ensures in
      let old = c.loop-message.self in
      let new = c.answer.new.self in
      let me = c.args.self.now in
      let before = c.loop-message.invariant.heard kept in
      let m = message_values c.in-Ok-Some.message in
      let done : HasAnswered (turn (string_bytes me.url) c.args.link m (state_in old.tables)) old new =
      let P : List ℕ → Type 0 = λ u. HasAnswered (turn u c.args.link m (state_in old.tables)) old new in
      subst P (ap (λ u. string_bytes u) before.same.url) (c.in_ok-answer-in-Ok-Some.ensures.answered before.kept) in
      record {
        same = record {
          url = done.same.url ∙ before.same.url;
          readings = done.same.readings ∙ before.same.readings;
        };
        kept = done.kept;
        hears = heard_one (string_bytes me.url) c.args.link m c.loop-message.reader c.next.new.self (state_in old.tables) (state_in new.tables) (owed_on old.outbox) (owed_on new.outbox)
            (turns (string_bytes me.url) c.args.link (cut c.args.reader.now) (state_in me.tables)) (owed_on me.outbox) (left c.args.reader.now) (bad c.args.reader.now)
            is done.state done.given before.hears;
      };
}

pub returns-in-Ok-None-clause-heard : goal.returns-in-Ok-None-clause-heard
returns-in-Ok-None-clause-heard c kept =
    let is = rw c.in-Ok-None.field-0-is at c.in-Ok-None.ensures in
    let me = c.args.self.now in
    let before = c.loop-message.invariant.heard kept in
    let done = heard_all (string_bytes me.url) c.args.link c.loop-message.reader (state_in c.loop-message.self.tables) (owed_on c.loop-message.self.outbox)
    (turns (string_bytes me.url) c.args.link (cut c.args.reader.now) (state_in me.tables)) (owed_on me.outbox) (left c.args.reader.now) (bad c.args.reader.now)
    (cut-short c.loop-message.reader is.0) before.hears in
    record {
      answered = record { same = before.same; state = done.0; given = done.1; kept = before.kept };
      rest = is.1 ∙ sym (left-short c.loop-message.reader is.0) ∙ before.hears.ends;
      refused = λ e. absurd (false≢true (sym e));
    }

pub returns-in-Err-Decoding-clause-heard : goal.returns-in-Err-Decoding-clause-heard
returns-in-Err-Decoding-clause-heard c kept =
    let is = rw c.in-Err-Decoding.field-0-is at c.in-Err-Decoding.ensures in
    let r = c.in-Err-Decoding.field-0-0 in
    let me = c.args.self.now in
    let before = c.loop-message.invariant.heard kept in
    let done = heard_all (string_bytes me.url) c.args.link c.loop-message.reader (state_in c.loop-message.self.tables) (owed_on c.loop-message.self.outbox)
    (turns (string_bytes me.url) c.args.link (cut c.args.reader.now) (state_in me.tables)) (owed_on me.outbox) (left c.args.reader.now) (bad c.args.reader.now)
    (cut-refused c.loop-message.reader r is.0) before.hears in
    record {
      answered = record { same = before.same; state = done.0; given = done.1; kept = before.kept };
      rest = is.1 ∙ sym (left-refused c.loop-message.reader r is.0) ∙ before.hears.ends;
      refused = λ e. ap is_some (sym before.hears.refuses ∙ bad-refused c.loop-message.reader r is.0);
    }
