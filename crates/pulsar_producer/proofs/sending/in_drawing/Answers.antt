use Rattle.std.proofs.Common.{◌≡◌, ◌∙◌, ap, refl, subst, IfOk}
use Rattle.pulsar_messages.specs.Content.{ProducerMessageValues}
use Rattle.pulsar_producer.specs.Plans.{fault_told, in_drawing, not_drawn}
use Rattle.pulsar_outgoing.specs.declared.news.Drawn.{Drawn}
use Rattle.pulsar_producer.specs.News.{News}
use Rattle.pulsar_outgoing.specs.declared.news.News.TheVariants.{Drew}
use Rattle.pulsar_outgoing.specs.declared.orders.Errand.{Errand}
use Rattle.pulsar_producer.proofs.sending.in_drawing.Goals as goal

undrawn : (e : Errand) (m : ProducerMessageValues) (n : News) → ((d : Drawn) → n ≡ Drew d → ⊥) → not_drawn e m (fault_told n) ≡ in_drawing e m n
undrawn e m (Drew d) h = absurd (h d refl)
undrawn e m _ h = refl

pub returns-in_default : goal.returns-in_default
returns-in_default c =
    subst (λ x. IfOk c.not_drawn.result (λ s. s ≡ x))
    (ap (not_drawn c.args.errand c.args.message) c.error_told.ensures ∙ undrawn c.args.errand c.args.message c.args.news c.in_default.not-Drew)
    c.not_drawn.ensures
