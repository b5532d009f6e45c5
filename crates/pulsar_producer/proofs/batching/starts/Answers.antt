use Rattle.std.proofs.Common.{◌≡◌, ◌∙◌, ℕ, ap, sym, subst, map, length, List, [], ◌∷◌, IfOk}
use Rattle.std.specs.Prelude.{Ok}
use Rattle.pulsar_frame.specs.Batch.{EntryValues}
use Rattle.pulsar_messages.specs.Content.{ProducerMessageValues}
use Rattle.pulsar_outgoing.specs.Batch.{batch_of, entries_in, member_of}
use Rattle.pulsar_producer.specs.Batching.{sends, sends_batch, starts_with}
use Rattle.pulsar_producer.specs.Plans.{send_begins}
use Rattle.pulsar_outgoing.specs.declared.batch.Member.{Member}
use Rattle.pulsar_outgoing.specs.declared.orders.Errand.{Errand}
use Rattle.pulsar_producer.proofs.batching.starts.Goals as goal

some_sent : (e : Errand) (ms : List Member) (es : List EntryValues) (n : ℕ) (m : ProducerMessageValues) → n ≡ length es → (n ≡ 0 → ⊥) →
    Ok m ≡ batch_of es → sends ms n (send_begins e m) ≡ starts_with e ms es
some_sent e ms [] n m count some is = absurd (some count)
some_sent e ms (x ∷ xs) n m count some is = ap (λ k. sends ms k (send_begins e m)) count ∙ ap (sends_batch e ms (length (x ∷ xs))) is

pub returns-in-Ok : goal.returns-in-Ok
returns-in-Ok c =
    let e = c.args.errand in
    let items = c.args.batch in
    let n = c.count-count.result in
    subst (λ x. IfOk c.sends.result (λ g. g ≡ x))
    (ap (λ ms. sends ms n c.begins.result) c.in_ok-members.ensures
    ∙ ap (sends (map member_of items) n) c.begins.ensures
    ∙ some_sent e (map member_of items) (entries_in items) n c.in-Ok.message c.count-count.ensures c.if-count-eq0.false (sym c.in-Ok.is ∙ c.in_ok-message.ensures))
    c.sends.ensures
