-- A message answers what its key says.
use Rattle.std.proofs.Common.{◌≡◌, ℕ, sym, ap, List, [], ◌∷◌, refl, arith, filter, Bool, true, false, not, cond, ◌==◌, ◌&&◌, Option, Some, None, inl, inr}
use Rattle.std.proofs.lemmas.Bool.{cases_Bool}
use Rattle.std.proofs.lemmas.Bool.Decides.{nat_tests}
use Rattle.std.proofs.lemmas.Grind.{common_steps}
use Rattle.pulsar_wire.specs.Command.{BodyValues}
use Rattle.pulsar_wire.specs.declared.key.RequestKey.{RequestKey}
use Rattle.pulsar_wire.specs.declared.key.RequestKey.TheVariants.{RequestId, ProducerSend, Consumer, CloseConsumer, AuthChallenge}
use Rattle.pulsar_frame.specs.Message.{MessageValues}
use Rattle.pulsar_frame.specs.Key.{body_key, key}
use Rattle.pulsar_wire.specs.declared.awaited.Awaited.{Awaited}
use Rattle.pulsar_wire.specs.declared.awaited.Awaited.TheVariants.{Pong, Reply, Receipt}
use Rattle.pulsar_wire.specs.Awaited.{is_one, is_same}
use Rattle.pulsar_requests.specs.Waits.{Pending, Waits, answered_by, found, others, without}
use Rattle.pulsar_requests.proofs.Awaiting.{is_at-eqb}
use Rattle.pulsar_session.specs.Answers.{answers, answers_by, awaited_by, awaited_by_key, is}
use Rattle.pulsar_session.specs.Link.{answered_to}

pair : (q r s n : ℕ) → ((q == r) && (s == n)) ≡ is_same (Receipt q s) (Receipt r n)
pair q r s n = elim (cases_Bool (q == r)) [
  | inl y ↦ grind (arith, nat_tests, common_steps)
  | inr y ↦ grind (arith, nat_tests, common_steps)
]

-- WHAT A MESSAGE ANSWERS

unkeyed : (b : BodyValues) → (b.number == 19) ≡ true → body_key b ≡ None
unkeyed b h =
    let n : b.number ≡ 19 = grind (arith, nat_tests) in
    rw n refl

by_key_is : (k : Option RequestKey) (a : Awaited) → is_one (awaited_by_key k) a ≡ answers_by false k a
by_key_is None Pong = refl
by_key_is None (Reply n) = refl
by_key_is None (Receipt p s) = refl
by_key_is (Some (RequestId m)) Pong = refl
by_key_is (Some (RequestId m)) (Reply n) = is_at-eqb m n
by_key_is (Some (RequestId m)) (Receipt p s) = refl
by_key_is (Some (ProducerSend q t)) Pong = refl
by_key_is (Some (ProducerSend q t)) (Reply n) = refl
by_key_is (Some (ProducerSend q t)) (Receipt p s) = sym (pair q p t s)
by_key_is (Some (Consumer c)) Pong = refl
by_key_is (Some (Consumer c)) (Reply n) = refl
by_key_is (Some (Consumer c)) (Receipt p s) = refl
by_key_is (Some (CloseConsumer c m)) Pong = refl
by_key_is (Some (CloseConsumer c m)) (Reply n) = is_at-eqb m n
by_key_is (Some (CloseConsumer c m)) (Receipt p s) = refl
by_key_is (Some AuthChallenge) Pong = refl
by_key_is (Some AuthChallenge) (Reply n) = refl
by_key_is (Some AuthChallenge) (Receipt p s) = refl

by_pong : (k : Option RequestKey) (a : Awaited) → k ≡ None → is_one (Some Pong) a ≡ answers_by true k a
by_pong k Pong h = refl
by_pong k (Reply n) h = rw h refl
by_pong k (Receipt p s) h = rw h refl

answered_with : (pong : Bool) (k : Option RequestKey) (a : Awaited) → (pong ≡ true → k ≡ None) → is_one (awaited_by pong k) a ≡ answers_by pong k a
answered_with true k a h = by_pong k a (h refl)
answered_with false k a h = by_key_is k a

pub pong_key : (m : MessageValues) (body : Option BodyValues) → m.command.body ≡ body → is 19 m ≡ true → key m ≡ None
unfolding key
pong_key m None e h = absurd (let no = rw e at h in cc)
pong_key m (Some b) e h = rw e (unkeyed b (rw e at h))

pub answered_is : (m : MessageValues) (a : Awaited) → is_one (awaited_by (is 19 m) (key m)) a ≡ answers m a
answered_is m a = answered_with (is 19 m) (key m) a (pong_key m m.command.body refl)

pub found_is : (m : MessageValues) (ps : List Pending) → found (awaited_by (is 19 m) (key m)) ps ≡ filter (λ p. answers m p.awaits) ps
found_is m [] = refl
found_is m (p ∷ ps) = found_next (answers m p.awaits) (is_one (awaited_by (is 19 m) (key m)) p.awaits) (answered_is m p.awaits) (found_is m ps)
  where
    found_next : {xs ys : List Pending} (b c : Bool) → c ≡ b → xs ≡ ys → cond c (p ∷ xs) xs ≡ cond b (p ∷ ys) ys
    found_next b c e h = rw (e, h) refl

pub others_is : (m : MessageValues) (ps : List Pending) → others (awaited_by (is 19 m) (key m)) ps ≡ filter (λ p. not (answers m p.awaits)) ps
others_is m [] = refl
others_is m (p ∷ ps) = others_next (answers m p.awaits) (is_one (awaited_by (is 19 m) (key m)) p.awaits) (answered_is m p.awaits) (others_is m ps)
  where
    others_next : {xs ys : List Pending} (b c : Bool) → c ≡ b → xs ≡ ys → cond (not c) (p ∷ xs) xs ≡ cond (not b) (p ∷ ys) ys
    others_next b c e h = rw (e, h) refl

pub left_is : (w : Waits) (m : MessageValues) → answered_by (awaited_by (is 19 m) (key m)) w ≡ answered_to m w
left_is w m = ap (λ ps. record w { waiting = ps; excused = without (awaited_by (is 19 m) (key m)) w.excused }) (others_is m w.waiting)
