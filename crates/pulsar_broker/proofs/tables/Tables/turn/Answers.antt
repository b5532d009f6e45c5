use Rattle.std.proofs.Common.{◌≡◌, ◌∙◌, ap, refl, subst, ◌++◌}
use Rattle.pulsar_broker.specs.History.{bytes_for}
use Rattle.pulsar_broker.specs.Kept.{IsAnswered, owed_on, state_in}
use Rattle.pulsar_broker.specs.State.{answer}
use Rattle.pulsar_broker.specs.Kept.{message_in}
use Rattle.pulsar_broker.specs.State.{serve_all, turn}
use Rattle.std.specs.List.{flat_map}
use Rattle.pulsar_broker.specs.Asked.{asked}
use Rattle.pulsar_broker.proofs.Answering.{turned}
use Rattle.pulsar_broker.proofs.tables.Tables.turn.Goals as goal

pub returns : goal.returns
unfolding turn
returns c h =
    let s = state_in c.args.self.now in
    let m = message_in c.args.command.now c.args.payload.now in
    let due = c.in_ok-due.due.items in
    let same : c.deref.result.now ≡ due = c.deref.ensures.value in
    turned (turn c.args.url.now c.args.link m s) (answer c.args.url.now c.args.link m.payload (asked m.command.body) s) c.args.self.now c.answer.new.self c.serve_each.new.self c.args.out.now c.answer.new.out c.serve_each.new.out due
    (subst (λ a. IsAnswered (answer c.args.url.now c.args.link m.payload a s) c.args.self.now c.answer.new.self c.args.out.now c.answer.new.out due) c.read.ensures c.in_ok-due.ensures)
    (c.in_ok-serve_each.ensures.after ∙ ap (λ ks. (serve_all ks (state_in c.answer.new.self)).state) same)
    (λ l. c.in_ok-serve_each.ensures.given l ∙ ap (λ ks. owed_on c.answer.new.out l ++ flat_map (bytes_for l) (serve_all ks (state_in c.answer.new.self)).given) same)
    c.in_ok-serve_each.ensures.listed refl h
