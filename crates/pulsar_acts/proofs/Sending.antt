-- Sends: refused or made, and several of them one after the other.
use Rattle.std.proofs.Common.{◌≡◌, ◌∙◌, ap, sym, ℕ, ◌+◌, arith, Bool, true, false, cond, List, [], ◌∷◌, ◌++◌, refl, drop, length, map, zero, suc, Option, Some, None}
use Rattle.std.proofs.Math.Seq.{drop-nil}
use Rattle.std.proofs.lemmas.Bool.{eq-eqb}
use Rattle.std.proofs.lemmas.List.{length-map, map-append}
use Rattle.std.specs.Option.{is_some, option_map}
use Rattle.pulsar_messages.specs.Content.{ProducerMessageValues}
use Rattle.pulsar_searches.specs.declared.turn.Ways.{Ways}
use Rattle.pulsar_producer.specs.Producer as producer
use Rattle.pulsar_producer.specs.Routing as routing
use Rattle.pulsar_outgoing.specs.Storage.{is_batching}
use Rattle.pulsar_outgoing.specs.declared.orders.Errand.{Errand}
use Rattle.pulsar_calls.specs.declared.act.Act.{Act}
use Rattle.pulsar_calls.specs.declared.act.Act.TheVariants.{Starts}
use Rattle.pulsar_calls.specs.declared.act.Procedure.{Procedure}
use Rattle.pulsar_calls.specs.declared.act.Procedure.TheVariants as procedure
use Rattle.pulsar_calls.specs.declared.act.CallRefusal.{CallRefusal}
use Rattle.pulsar_calls.specs.declared.act.CallRefusal.TheVariants as refusal
use Rattle.pulsar_calls.specs.declared.act.Share.{Share}
use Rattle.pulsar_calls.specs.declared.act.Who.TheVariants.{Call}
use Rattle.pulsar_calls.specs.Content.{SendAll}
use Rattle.pulsar_producer_table.specs.Producers.{Producers, all_routed, batches_in, routed, sent_on, why_not}
use Rattle.pulsar_calls.specs.Content.{next_advice}
use Rattle.pulsar_acts.specs.Reading.{unless}
use Rattle.pulsar_acts.specs.Rules.{parts_of, sends_as, sends_by, sends_with, share, shares_of, shares_unless}
use Rattle.pulsar_acts.specs.View.{View, may_call}
use Rattle.pulsar_machine.specs.Options.{Chosen}

-- REFUSED OR MADE

pub refused_so : (x : Option CallRefusal) (r : CallRefusal) (p : Procedure) → x ≡ Some r → procedure.Refuse r ≡ unless x p
refused_so x r p h = sym (ap (λ x. unless x p) h)

pub made_so : (x : Option CallRefusal) (p : Procedure) → x ≡ None → p ≡ unless x p
made_so x p h = sym (ap (λ x. unless x p) h)

pub sent_none : (ps : Producers) (t : ℕ) (ms : List ProducerMessageValues) (r : CallRefusal) → why_not ps t ≡ Some r → ps ≡ sent_on t ms ps
sent_none ps t ms r h = sym (ap (λ x. cond (is_some x) ps (all_routed t ms ps)) h)

pub sent_all : (ps : Producers) (t : ℕ) (ms : List ProducerMessageValues) → why_not ps t ≡ None → all_routed t ms ps ≡ sent_on t ms ps
sent_all ps t ms h = sym (ap (λ x. cond (is_some x) ps (all_routed t ms ps)) h)

pub parts_none : (v : View) (advice : List (Option ℕ)) (t : ℕ) (ms : List ProducerMessageValues) (r : CallRefusal) → may_call v.calls ≡ true →
    why_not v.producers t ≡ Some r → [] ≡ parts_of v advice (SendAll t ms)
parts_none v advice t ms r allowed h =
    sym (ap (λ b. shares_unless (cond b (why_not v.producers t) (Some refusal.Shutdown)) v advice t ms) allowed ∙ ap (λ x. shares_unless x v advice t ms) h)

pub parts_all : (v : View) (advice : List (Option ℕ)) (t : ℕ) (ms : List ProducerMessageValues) → may_call v.calls ≡ true → why_not v.producers t ≡ None →
    shares_of v.chosen v.producers v.calls.drawn (v.calls.drawn + 1) advice t ms ≡ parts_of v advice (SendAll t ms)
parts_all v advice t ms allowed h =
    sym (ap (λ b. shares_unless (cond b (why_not v.producers t) (Some refusal.Shutdown)) v advice t ms) allowed ∙ ap (λ x. shares_unless x v advice t ms) h)

-- BATCHED OR ALONE

-- a producer that has routed a message sends batches as before
pub same_batches : (t : ℕ) (m : ProducerMessageValues) (ps : Producers) → batches_in ((routed t m ps).built t) ≡ batches_in (ps.built t)
same_batches t m ps =
    ap (λ b. batches_in (cond b (option_map (producer.after m) (ps.built t)) (ps.built t))) (eq-eqb t t refl) ∙ of_row (ps.built t)
  where
    of_row : (row : Option producer.Seen) → batches_in (option_map (producer.after m) row) ≡ batches_in row
    of_row None = refl
    of_row (Some p) =
        elim (producer.is_single p) as (λ b. is_batching (cond b p (record p { routes = routing.routed m p.routes })).options ≡ is_batching p.options)
        [ true ↦ refl | false ↦ refl ]

-- by whether they are sent in batches, where there are an address and a topic producer
pub sent_so : (batches : Bool) (share : Option Share) (m : ProducerMessageValues) (w : Option Ways) (e : Option Errand) (is_batched : Bool) (ways : Ways) (errand : Errand) →
    batches ≡ is_batched → w ≡ Some ways → e ≡ Some errand → sends_with is_batched ways errand share m ≡ sends_by batches share m w e
sent_so batches share m w e is_batched ways errand b is so = sym (λ i. sends_by (b i) share m (is i) (so i))

-- ONE AFTER THE OTHER

pub all_routed_more : (t : ℕ) (ms : List ProducerMessageValues) (m : ProducerMessageValues) (ps : Producers) →
    all_routed t (ms ++ m ∷ []) ps ≡ routed t m (all_routed t ms ps)
all_routed_more t [] m ps = refl
all_routed_more t (x ∷ ms) m ps = all_routed_more t ms m (routed t x ps)

module _ (o : Chosen) (of t : ℕ) where
  abbrev begins : Producers → (ticket : ℕ) → List (Option ℕ) → ProducerMessageValues → Act
  begins ps n advice m = Starts (Call n) (sends_as o ps (share of n) (next_advice advice) t m)

  drop_none : (k : ℕ) → drop {A = Option ℕ} k [] ≡ drop (k + 1) []
  drop_none k = drop-nil k ∙ sym (drop-nil (k + 1))

  drop_one : (advice : List (Option ℕ)) (k : ℕ) → drop k (drop 1 advice) ≡ drop (k + 1) advice
  drop_one [] k = drop_none k
  drop_one (a ∷ advice) k = let e : k + 1 ≡ suc k = omega arith in sym (ap (λ n. drop n (a ∷ advice)) e)

  pub shares_more : (ps : Producers) (n : ℕ) (advice : List (Option ℕ)) (ms : List ProducerMessageValues) (m : ProducerMessageValues) →
      shares_of o ps of n advice t (ms ++ m ∷ [])
      ≡ shares_of o ps of n advice t ms ++ begins (all_routed t ms ps) (n + length ms) (drop (length ms) advice) m ∷ []
  shares_more ps n advice [] m = let e : n ≡ n + 0 = omega arith in ap (λ k. begins ps k advice m ∷ []) e
  shares_more ps n advice (x ∷ ms) m =
      let more : n + 1 + length ms ≡ n + length (x ∷ ms) = omega arith in
      let one_more : length ms + 1 ≡ length (x ∷ ms) = omega arith in
      let later : drop (length ms) (drop 1 advice) ≡ drop (length (x ∷ ms)) advice = drop_one advice (length ms) ∙ ap (λ k. drop k advice) one_more in
      ap (λ acts. begins ps n advice x ∷ acts)
      (shares_more (routed t x ps) (n + 1) (drop 1 advice) ms m
      ∙ (λ i. shares_of o (routed t x ps) of (n + 1) (drop 1 advice) t ms ++ begins (all_routed t ms (routed t x ps)) (more i) (later i) m ∷ []))

-- with the messages as the code has them
module _ {M : Type 0} (f : M → ProducerMessageValues) (o : Chosen) (of t : ℕ) where
  pub shares_end : (ps : Producers) (advice : List (Option ℕ)) (xs : List M) (x : M) (n : ℕ) → n ≡ of + length xs + 1 →
      shares_of o ps of (of + 1) advice t (map f (xs ++ x ∷ []))
      ≡ shares_of o ps of (of + 1) advice t (map f xs) ++ begins o of t (all_routed t (map f xs) ps) n (drop (length xs) advice) (f x) ∷ []
  shares_end ps advice xs x n e =
      let counts : length (map f xs) ≡ length xs = length-map xs f in
      let same : of + 1 + length (map f xs) ≡ n = omega (arith, counts, e) in
      ap (shares_of o ps of (of + 1) advice t) (map-append f xs (x ∷ []))
      ∙ shares_more o of t ps (of + 1) advice (map f xs) (f x)
      ∙ (λ i. shares_of o ps of (of + 1) advice t (map f xs) ++ begins o of t (all_routed t (map f xs) ps) (same i) (drop (counts i) advice) (f x) ∷ [])

  pub routed_end : (ps : Producers) (xs : List M) (x : M) → all_routed t (map f (xs ++ x ∷ [])) ps ≡ routed t (f x) (all_routed t (map f xs) ps)
  routed_end ps xs x = ap (λ ms. all_routed t ms ps) (map-append f xs (x ∷ [])) ∙ all_routed_more t (map f xs) (f x) ps

-- what is said of the message behind so many
pub drop_next : {A : Type 0} (k : ℕ) (xs : List A) → drop 1 (drop k xs) ≡ drop (k + 1) xs
drop_next zero xs = refl
drop_next (suc k) [] = drop-nil 1 ∙ sym (drop-nil (suc k + 1))
drop_next (suc k) (x ∷ xs) = let e : suc (k + 1) ≡ suc k + 1 = omega arith in drop_next k xs ∙ ap (λ n. drop n (x ∷ xs)) e
