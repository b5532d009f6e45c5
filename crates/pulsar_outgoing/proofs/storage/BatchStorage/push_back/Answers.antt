use Rattle.std.proofs.Common.{◌∙◌, ◌+◌, ap, sym, map}
use Rattle.pulsar_wire.specs.Sink.{capped}
use Rattle.pulsar_outgoing.specs.Storage.{bytes_of, item_of}
use Rattle.pulsar_outgoing.proofs.Entries.{weighs_more}
use Rattle.pulsar_outgoing.proofs.storage.BatchStorage.push_back.Goals as goal

pub invariant_of-self-2 : goal.invariant_of-self-2
invariant_of-self-2 c =
    let xs = c.self.inside.items.items in
    c.saturating_add-self-inside.ensures
    ∙ ap (λ b. capped (b + c.size_of-size.result)) c.self.invariant
    ∙ ap (λ n. capped (capped (bytes_of (map item_of xs)) + n)) c.size_of-size.ensures
    ∙ weighs_more xs c.args.item
    ∙ ap (λ ys. capped (bytes_of (map item_of ys))) (sym c.in_ok-push.ensures.items)
