use Rattle.std.proofs.Common.{rules, ◌<◌, refl, inl, inr, length}
use Rattle.pulsar_work.proofs.Learning.{ends, ends-at, ends-itself, marked, marks, no-error}
use Rattle.pulsar_work.proofs.progress.Progress.mark.Goals as goal

pub returns-clause-knows : goal.returns-clause-knows
returns-clause-knows c = λ es acked said well k.
    let within : c.args.place < length c.args.self.now.ended.items = search rules in
    ends c.args.self.now _ es acked _ c.args.place (ends-itself c.args.place said well) (λ t h. marks c.args.self.now.ended.items c.args.place t h)
    (λ t h. marked c.args.self.now.ended.items c.args.place t within (elim h [ inl now ↦ inl (ends-at t c.args.place said now) | inr old ↦ inr old ])) refl refl refl refl refl
    (no-error c.args.place said well) refl refl k
