use Rattle.std.proofs.Common.{◌≡◌, ◌∙◌, sym, ap, refl, [], ◌∷◌, List, None}
use Rattle.pulsar_requests.specs.Waits.{Pending, Waits, answered_by, found, others, places}
use Rattle.pulsar_requests.proofs.requests.Requests.settle.Goals as goal

none_found : (ps : List Pending) → [] ≡ places (found None ps)
none_found [] = refl
none_found (p ∷ ps) = none_found ps

all_others : (ps : List Pending) → ps ≡ others None ps
all_others [] = refl
all_others (p ∷ ps) = ap (λ t. p ∷ t) (all_others ps)

pub returns-in-None-clause-places : goal.returns-in-None-clause-places
returns-in-None-clause-places c = c.new.ensures.items ∙ none_found c.args.self.waiting ∙ ap (λ a. places (found a c.args.self.waiting)) (sym c.in-None.is)

none_settled : (w : Waits) → w ≡ answered_by None w
none_settled w = ap (λ ps. record w { waiting = ps }) (all_others w.waiting)

pub returns-in-None-clause-left : goal.returns-in-None-clause-left
returns-in-None-clause-left c = none_settled c.args.self ∙ ap (λ a. answered_by a c.args.self) (sym c.in-None.is)
