-- What a producer stores as it is closed.
use Rattle.std.proofs.Common.{◌≡◌, inl, inr, ◌∙◌, ap, subst, ℕ, ◌==◌, arith, List, [], ◌∷◌, refl, map, true, cond, Option, Some, None, Bool, false}
use Rattle.std.proofs.lemmas.Bool.Decides.{nat_tests}
use Rattle.pulsar_laws.proofs.ActWords.{Does, Shut, Told}
use Rattle.pulsar_laws.proofs.PlanWords.{closed_notice}
use Rattle.pulsar_laws.proofs.RunWords.{In, joins, Then, view, View}
use Rattle.pulsar_producer.specs.Topic.{Act, Closes}
use Rattle.pulsar_producer_table.specs.declared.table.Topic.{Topic}
use Rattle.pulsar_laws.proofs.Lists.{into_flat}
use Rattle.pulsar_laws.specs.BatchLaws.{ClosedWithTheProducer}
use Rattle.pulsar_producer_table.specs.Producers.{is_bare, numbers_at, stored_at, stored_by, topic_after}
use Rattle.pulsar_laws.proofs.calls.Done.{all_is_done_lem}
use Rattle.pulsar_run.specs.Things.{row_by}
use Rattle.pulsar_laws.specs.ProducerLaws.{shut_by}

-- WHAT IS STORED is emptied, and stays so

equal_self : (n : ℕ) → (n == n) ≡ true
equal_self n = grind (arith, nat_tests)

some_closes : (n : ℕ) (ns : List ℕ) → In n ns → (es : List Act) × (shut_by n ns ≡ Closes ∷ es)
some_closes n [] h = absurd h
some_closes n (m ∷ ns) (inl e) = (shut_by n ns, ap (λ b. cond b (Closes ∷ shut_by n ns) (shut_by n ns)) (subst (λ k. (n == k) ≡ true) e (equal_self n)))
some_closes n (m ∷ ns) (inr h) = by (n == m) (some_closes n ns h)
  where
    by : (b : Bool) → (es : List Act) × (shut_by n ns ≡ Closes ∷ es) → (es : List Act) × (cond b (Closes ∷ shut_by n ns) (shut_by n ns) ≡ Closes ∷ es)
    by true k = (shut_by n ns, refl)
    by false k = k

closed_bare : (es : List Act) (row : Option Topic) → is_bare (row_by topic_after (Closes ∷ es) row) ≡ true
closed_bare es None = refl
closed_bare es (Some t) = refl

-- IT IS TOLD

map_in : {A B : Type 0} (f : A → B) (x : A) (xs : List A) → In x xs → In (f x) (map f xs)
map_in f x [] h = absurd h
map_in f x (y ∷ xs) (inl e) = inl (ap f e)
map_in f x (y ∷ xs) (inr h) = inr (map_in f x xs h)

pub closed_with_the_producer_lem : ClosedWithTheProducer
closed_with_the_producer_lem o newer older who t n ticket run rests acts listed =
    let v : View = view o older in
    let ns : List ℕ = numbers_at (v.producers.built t) in (
      λ stored. (let i : In ticket (stored_by v.producers ns) = into_flat (λ m. stored_at (v.producers.topics m)) n ticket ns listed stored in
          let j : In (closed_notice ticket) (joins v (Does who (Shut t))) = map_in closed_notice ticket (stored_by v.producers ns) i in
          all_is_done_lem o newer older (Then (Does who (Shut t))) (Told (closed_notice ticket)) run rests acts
          (inr (inl (map_in Told (closed_notice ticket) (joins v (Does who (Shut t))) j)))),
      (let c = some_closes n ns listed in
          ap (λ es. is_bare (row_by topic_after es (v.producers.topics n))) c.1 ∙ closed_bare c.0 (v.producers.topics n)),
    )
