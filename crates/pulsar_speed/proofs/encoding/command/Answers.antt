use Rattle.std.proofs.Common.{◌≡◌, ◌∙◌, ◌++◌, List, ℕ, None, sym, ap, length, arith}
use Rattle.pulsar_wire.specs.Command.{command_reading, command_spelling}
use Rattle.pulsar_wire.specs.Views.{command_values}
use Rattle.pulsar_frame.specs.Message.{MessageValues}
use Rattle.pulsar_speed.specs.Samples.{sample_message}
use Rattle.pulsar_speed.specs.Tallies.{number_in}
use Rattle.pulsar_speed.specs.declared.tally.Tally.{Tally}
use Rattle.pulsar_speed.proofs.Repeats.{next_time, commands_repeated, read_again, same_number}
use Rattle.pulsar_speed.proofs.encoding.command.Goals as goal

pub loop-init : goal.loop-init
loop-init c =
    let is = ap (λ (m : MessageValues). m.command) c.in_ok-message.ensures in
    let written = c.in_ok-encode.ensures.ok in
    record {
      spelled = written ∙ ap (λ (b : List ℕ). b ++ command_spelling (command_values c.in_ok-message.field-0.command)) c.new-bytes.ensures.items ∙ ap command_spelling is;
      count = ap (λ (t : Tally). t.count) c.new-tally.ensures;
      bytes = omega (arith, ap (λ (t : Tally). t.bytes) c.new-tally.ensures);
      sum = omega (arith, ap (λ (t : Tally). t.sum) c.new-tally.ensures);
    }

pub loop-preserved : goal.loop-preserved
loop-preserved c =
    let m = sample_message c.args.sample 2 in
    let is = ap (λ (m : MessageValues). m.command) c.in_ok-message.ensures in
    let read = ap command_reading (c.deref.ensures.value ∙ c.loop.invariant.spelled) in
    let same = read_again c.args.sample 2 _ _ is c.in_ok-encode.ensures.again (sym read ∙ c.in_ok-decode.ensures) in
    let spelled : c.encode-in-loop.new.out.items ≡ command_spelling m.command = c.in_ok-encode-2.ensures.ok ∙ ap (λ (b : List ℕ). b ++ command_spelling (command_values c.in_ok-decode.field-0)) c.clear.ensures.items ∙ ap command_spelling same in
    let size : c.len.result ≡ length (command_spelling m.command) = omega (arith, c.len.ensures, c.encode-in-loop.new.out.ok, ap length spelled) in
    let number = same_number (record { command = command_values c.in_ok-decode.field-0; payload = None }) m same in
    let counted = c.in_ok-count_message.ensures in
    let grown = c.in_ok-count_bytes.ensures in
    let count = ap (λ (t : Tally). t.count) grown in
    let bytes = ap (λ (t : Tally). t.bytes) grown in
    let sum = ap (λ (t : Tally). t.sum) grown in
    record {
      spelled = spelled;
      count = omega (arith, count, counted.0, c.loop.invariant.count);
      bytes = omega (arith, bytes, size, counted.2, c.loop.invariant.bytes, next_time c.loop.counter (length (command_spelling m.command)));
      sum = omega (arith, sum, number, counted.1, c.loop.invariant.sum, next_time c.loop.counter (number_in m));
    }

pub returns : goal.returns
returns c =
    let all : c.loop.counter ≡ c.args.count = omega arith in
    rw (← all) (commands_repeated c.loop.counter (sample_message c.args.sample 2) _ c.loop.invariant.count c.loop.invariant.bytes c.loop.invariant.sum)
