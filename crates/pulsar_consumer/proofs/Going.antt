-- The steps in which an engine goes on.
use Rattle.std.proofs.Common.{◌≡◌, ◌∙◌, ap, refl, ◌==◌, true, false, cond, List, [], ◌∷◌, length, arith}
use Rattle.std.proofs.lemmas.Bool.Decides.{nat_tests}
use Rattle.pulsar_consumer.specs.Items.{Item}
use Rattle.pulsar_consumer.specs.Frames.{Frame}
use Rattle.pulsar_consumer.specs.DeadLetters.{Letter}
use Rattle.pulsar_consumer.specs.Topic.{Engine, begin, finish, goes_on, is_finished, no_items, no_letters}

pub counts_none : (xs : List Item) → (length xs == 0) ≡ no_items xs
counts_none [] = refl
counts_none (x ∷ xs) = grind (arith, nat_tests)

pub counts_no_letters : (ls : List Letter) → (length ls == 0) ≡ no_letters ls
counts_no_letters [] = refl
counts_no_letters (l ∷ ls) = grind (arith, nat_tests)

-- where the frame that is begun is not finished, nothing goes on
pub stuck : (fs : List Frame) (e : Engine) → is_finished e ≡ false → goes_on fs e ≡ e
stuck [] e more = ap (λ b. cond b (finish e) e) more
stuck (f ∷ fs) e more = ap (λ b. cond b (goes_on fs (begin f (record (finish e) { waiting = fs }))) e) more

-- the frame that was begun is finished, and the next is begun
pub step_some : (e : Engine) (f : Frame) (fs : List Frame) → e.waiting ≡ f ∷ fs → is_finished e ≡ true →
    goes_on e.waiting e ≡ goes_on fs (begin f (record (finish e) { waiting = fs }))
step_some e f fs w none =
    ap (λ fs. goes_on fs e) w ∙ ap (λ b. cond b (goes_on fs (begin f (record (finish e) { waiting = fs }))) e) none

pub step_none : (e : Engine) → e.waiting ≡ [] → is_finished e ≡ true → goes_on e.waiting e ≡ finish e
step_none e w none = ap (λ fs. goes_on fs e) w ∙ ap (λ b. cond b (finish e) e) none
