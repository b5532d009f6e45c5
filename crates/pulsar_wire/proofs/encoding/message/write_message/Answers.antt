use Rattle.std.proofs.lemmas.Result.{on_ok_weaker}
use Rattle.pulsar_wire.specs.Row.{spelling}
use Rattle.pulsar_wire.proofs.Writing.{with_count}
use Rattle.pulsar_wire.proofs.encoding.message.write_message.Goals as goal

pub returns-clause-ok : goal.returns-clause-ok
returns-clause-ok g c =
    on_ok_weaker c.write.result (λ d front h.
    let bytes = spelling g.M.Message.shape (g.M.Message.values c.args.message.now) in
    let before = c.in_ok-push_length.ensures.ok front h in
    with_count g.S.Sink.Holds g.met.S.Sink.full c.write.new.out c.args.number c.encoded_len-len.result front bytes c.encoded_len-len.ensures (d _ before))
    c.write.ensures.ok
