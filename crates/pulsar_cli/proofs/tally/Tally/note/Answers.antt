use Rattle.std.proofs.Common.{◌∙◌}
use Rattle.pulsar_cli.proofs.tally.Tally.note.Goals as goal

pub returns : goal.returns
returns c = λ seed count h k.
    let rest = c.in_ok-note_item_of.ensures.rest in
    record {
      drawn = rest.seed ∙ k.drawn;
      consumer = rest.consumer ∙ k.consumer;
      calls = cc (c.in_ok-self-3.ensures, c.calls_in.ensures, rest.calls, k.calls);
      items = cc (c.in_ok-note_item_of.ensures.items, k.items);
      sent = cc (rest.sent, c.in_ok-self.ensures, c.sent_in.ensures count k.consumer, k.sent);
      received = cc (c.in_ok-note_item_of.ensures.received, k.drawn, k.items, k.received);
      bytes = cc (c.in_ok-note_item_of.ensures.bytes, k.drawn, k.items, k.bytes);
      acked = cc (rest.acked, c.in_ok-self-2.ensures, c.acked_by.ensures, k.calls, k.acked);
    }
