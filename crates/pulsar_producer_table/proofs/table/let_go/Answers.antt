use Rattle.std.proofs.Common.{rules, ◌==◌, not}
use Rattle.std.proofs.lemmas.Fn.{filter_same}
use Rattle.pulsar_producer_table.proofs.table.let_go.Goals as goal

pub returns : goal.returns
returns c =
    filter_same _ (λ h. not (h.owner == c.args.owner)) _ (λ x b f' h. search rules) c.args.held.now.items c.retain.new.self.items c.retain.ensures.filtered
