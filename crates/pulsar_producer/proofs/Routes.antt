-- The partition of a message.
use Rattle.std.proofs.Common.{◌≡◌, refl, subst, ℕ, ◌+◌, ◌<◌, ◌==◌, nat_lt, Bool, true, false, cond, List, Option, Some, None, arith}
use Rattle.std.proofs.lemmas.Bool.Decides.{nat_tests}
use Rattle.std.proofs.lemmas.Nat.{mod_below}
use Rattle.std.specs.Prelude.{slice_get}
use Rattle.pulsar_messages.specs.Content.{ProducerMessageValues}
use Rattle.pulsar_messages.specs.Murmur.{murmur3}
use Rattle.pulsar_messages.specs.declared.routing_policy.RoutingPolicy.{RoutingPolicy}
use Rattle.pulsar_messages.specs.declared.routing_policy.RoutingPolicy.TheVariants.{RoundRobin, Single, Custom}
use Rattle.pulsar_producer.specs.Routing.{IsRouted, Policy, Routed, advice_by, asked, chosen_by, count, of_key, stepped}
use Rattle.pulsar_producer.specs.Laws.{PartitionIsThere}

pub step_there : (last n : ℕ) → last < n → cond (last + 1 == n) 0 (last + 1) < n
step_there last n lt = by (last + 1 == n) refl
  where
    by : (b : Bool) → (last + 1 == n) ≡ b → cond b 0 (last + 1) < n
    by true e = omega (arith, lt)
    by false e = grind (arith, nat_tests)

pub key_there : (key : Option (List ℕ)) (r : Routed) → IsRouted r → of_key key r < count r
key_there None r ok = step_there r.last (count r) ok.there
key_there (Some key) r ok = mod_below (murmur3 key) (count r) ok.some

range_there : (i n k : ℕ) (b : Bool) → nat_lt i n ≡ b → cond b (Some i) None ≡ Some k → k < n
range_there i n k true e is = let same : i ≡ k = cc in let lt : i < n = grind (arith, nat_tests) in subst (λ j. j < n) same lt
range_there i n k false e is = absurd cc

asked_there : (p : Option Policy) (m : ProducerMessageValues) (n i : ℕ) → asked p m n ≡ Some i → i < n
asked_there None m n i is = absurd cc
asked_there (Some p) m n i is = range_there (p m n) n i (nat_lt (p m n) n) refl is

by_policy : (policy : Option RoutingPolicy) (ps : List Policy) (m : ProducerMessageValues) (r : Routed) (i : ℕ) →
    IsRouted r → chosen_by policy (advice_by policy ps m (count r)) m r ≡ Some i → i < count r
by_policy None ps m r i ok is = let same : stepped r ≡ i = cc in subst (λ j. j < count r) same (step_there r.last (count r) ok.there)
by_policy (Some RoundRobin) ps m r i ok is =
    let same : of_key m.partition_key r ≡ i = cc in subst (λ j. j < count r) same (key_there m.partition_key r ok)
by_policy (Some Single) ps m r i ok is = let same : r.last ≡ i = cc in subst (λ j. j < count r) same ok.there
by_policy (Some (Custom n)) ps m r i ok is = asked_there (slice_get ps n) m (count r) i is

pub partition_is_there : PartitionIsThere
partition_is_there ps m r i ok is = by_policy r.policy ps m r i ok is
