-- A message bears a key exactly where it is the message's own, or where the message closes a consumer under its number.
use Rattle.std.proofs.Common.{◌≡◌, ◌⊎◌, inl, inr, ℕ, true, eqb, Option, Some, None, refl, sym, ap}
use Rattle.std.proofs.lemmas.Bool.{eqb-true, eq-eqb, and_parts, and_from}
use Rattle.pulsar_wire.specs.declared.key.RequestKey.{RequestKey}
use Rattle.pulsar_wire.specs.declared.key.RequestKey.TheVariants.{RequestId, ProducerSend, Consumer, CloseConsumer, AuthChallenge}
use Rattle.pulsar_frame.specs.Message.{MessageValues}
use Rattle.pulsar_frame.specs.Key.{key, same_key, close_bears, bears_key, bears}
use Rattle.pulsar_frame.specs.Laws.{Closes}

same_key-is : (a b : RequestKey) → same_key a b ≡ true → a ≡ b
same_key-is (RequestId a) (RequestId b) e = ap RequestId (eqb-true a b e)
same_key-is (ProducerSend a b) (ProducerSend c d) e =
    let parts = and_parts (eqb a c) (eqb b d) e in
    rw (eqb-true a c parts.0, eqb-true b d parts.1) refl
same_key-is (Consumer a) (Consumer b) e = ap Consumer (eqb-true a b e)
same_key-is (CloseConsumer a b) (CloseConsumer c d) e =
    let parts = and_parts (eqb a c) (eqb b d) e in
    rw (eqb-true a c parts.0, eqb-true b d parts.1) refl
same_key-is AuthChallenge AuthChallenge e = refl
same_key-is _ _ e = absurd cc

same_key-own : (k : RequestKey) → same_key k k ≡ true
same_key-own (RequestId a) = eq-eqb a a refl
same_key-own (ProducerSend a b) = and_from (eqb a a) (eqb b b) (eq-eqb a a refl) (eq-eqb b b refl)
same_key-own (Consumer a) = eq-eqb a a refl
same_key-own (CloseConsumer a b) = and_from (eqb a a) (eqb b b) (eq-eqb a a refl) (eq-eqb b b refl)
same_key-own AuthChallenge = refl

closes : (c r : ℕ) (k : RequestKey) → close_bears c r k ≡ true → (Some (CloseConsumer c r) ≡ Some k) ⊎ Closes (Some (CloseConsumer c r)) k
closes c r (RequestId id) e = inr (c, r, refl, ap RequestId (sym (eqb-true r id e)))
closes c r (CloseConsumer a b) e = inl (ap (λ (x : RequestKey). Some x) (same_key-is (CloseConsumer c r) (CloseConsumer a b) e))
closes c r _ e = absurd cc

of_same : (own k : RequestKey) → same_key own k ≡ true → (Some own ≡ Some k) ⊎ Closes (Some own) k
of_same own k e = inl (ap (λ (x : RequestKey). Some x) (same_key-is own k e))

borne : (own : Option RequestKey) (k : RequestKey) → bears_key own k ≡ true → (own ≡ Some k) ⊎ Closes own k
borne None k e = absurd cc
borne (Some (CloseConsumer c r)) k e = closes c r k e
borne (Some (RequestId a)) k e = of_same (RequestId a) k e
borne (Some (ProducerSend a b)) k e = of_same (ProducerSend a b) k e
borne (Some (Consumer a)) k e = of_same (Consumer a) k e
borne (Some AuthChallenge) k e = of_same AuthChallenge k e

pub bears-key : (m : MessageValues) (k : RequestKey) → bears m k ≡ true → (key m ≡ Some k) ⊎ Closes (key m) k
bears-key m k e = borne (key m) k e

bears_own : (k : RequestKey) → bears_key (Some k) k ≡ true
bears_own (RequestId a) = same_key-own (RequestId a)
bears_own (ProducerSend a b) = same_key-own (ProducerSend a b)
bears_own (Consumer a) = same_key-own (Consumer a)
bears_own (CloseConsumer a b) = same_key-own (CloseConsumer a b)
bears_own AuthChallenge = refl

bearing : (own : Option RequestKey) (k : RequestKey) → (own ≡ Some k) ⊎ Closes own k → bears_key own k ≡ true
bearing own k (inl e) = rw e (bears_own k)
bearing own k (inr (c, r, e, f)) = rw (e, f) (eq-eqb r r refl)

pub key-bears : (m : MessageValues) (k : RequestKey) → (key m ≡ Some k) ⊎ Closes (key m) k → bears m k ≡ true
key-bears m k e = bearing (key m) k e
