-- The link of a topic producer, and what its broker says of it, are those with which it was made last.
use Rattle.std.proofs.Common.{◌≡◌, ◌∙◌, sym, ap, ℕ, ◌==◌, List, [], ◌∷◌, refl, Bool, true, false, cond, Option, Some, None}
use Rattle.pulsar_laws.proofs.ActWords.{Act, Answers, Does, Makes, Nothing, OfTopic, Remake, Who}
use Rattle.pulsar_laws.proofs.PlanWords.{Built}
use Rattle.pulsar_laws.proofs.RunWords.{Begins, begun_same, Each, Entry, Options, Then, view, View}
use Rattle.pulsar_outgoing.specs.declared.replies.Given.{Given}
use Rattle.pulsar_outgoing.specs.declared.storage.Limits.{Limits}
use Rattle.pulsar_outgoing.specs.Storage.{Flush, is_nothing, is_ready, Item, pushed}
use Rattle.pulsar_messages.specs.Claims.{is_spent}
use Rattle.pulsar_outgoing.specs.declared.multi_topic.Taker.{Taker}
use Rattle.pulsar_producer.specs.Topic as topic
use Rattle.pulsar_producer.specs.Topic.{Act as Deed, Cuts, Draws, Flushes, Remakes, Seen, Stores, Takes, TakesBatch, is_settled, left_of, stores, takes_in}
use Rattle.pulsar_calls.specs.declared.act.Makes.TheVariants as makes
use Rattle.pulsar_producer_table.specs.Producers.{fresh_topic, last_of, topic_after, topic_in}
use Rattle.pulsar_producer_table.specs.declared.table.Topic.{Topic}
use Rattle.pulsar_acts.specs.View.{building_of, topic_born, topic_of}
use Rattle.pulsar_run.specs.Things.{along}
use Rattle.pulsar_run.proofs.Things.{IsNewIn, WasIn, came}
use Rattle.pulsar_laws.proofs.Cases.{cond_so, none_some}
use Rattle.pulsar_laws.proofs.producers.Topics.{CameFrom, acts_each}
use Rattle.pulsar_laws.specs.ProducerLaws.{AsMadeLast, built_by, built_in, made_last, topic_acts}

abbrev place : Seen → ℕ × Given
place v = (v.link, v.given)

abbrev place_of : Topic → ℕ × Given
place_of t = place t.seen

-- ONE THAT IS BUILT

abbrev place_or : Option Topic → Option (ℕ × Given) → Option (ℕ × Given)
place_or None before = before
place_or (Some t) before = Some (place_of t)

built_last : (owner first : ℕ) (limits : Limits) (n : ℕ) (bs : List Built) (before : Option (ℕ × Given)) →
    built_in n bs before ≡ place_or (topic_in owner first limits bs n) before
built_last owner first limits n [] before = refl
built_last owner first limits n (b ∷ bs) before =
    built_last owner first limits n bs (cond (n == b.number) (Some (b.link, b.given)) before) ∙ by (topic_in owner first limits bs n) (n == b.number)
  where
    by : (r : Option Topic) (c : Bool) →
        place_or r (cond c (Some (b.link, b.given)) before) ≡ place_or (last_of r (cond c (Some (fresh_topic owner first limits b)) None)) before
    by (Some t) c = refl
    by None true = refl
    by None false = refl

born_last : (v : View) (who : Who) (n : ℕ) (m : Makes) (before : Option (ℕ × Given)) →
    built_by n m before ≡ place_or (topic_of (building_of m) who v.chosen n) before
born_last v who n (makes.Producer b) before = built_last _ _ _ n b.parts before
born_last v who n Nothing before = refl
born_last v who n makes.Client before = refl
born_last v who n (makes.Consumer j) before = refl
born_last v who n (makes.RawConsumer l made) before = refl

-- ACTS that make none again leave both

abbrev is_remaking : Deed → Bool
is_remaking (Remakes l g) = true
is_remaking _ = false

takes_same : (r : Option Taker) (t : Taker) (v : Seen) → place (takes_in r t v) ≡ place v
takes_same None t v = refl
takes_same (Some other) t v = refl

left_same : (bs : List (List Item)) (v : Seen) → place (left_of bs v) ≡ place v
left_same [] v = refl
left_same (b ∷ bs) v = refl

stores_same : (x : Item) (v : Seen) → place (stores x v) ≡ place v
stores_same x v = cond_so (λ w. place w ≡ place v) (is_ready (pushed x v.storage)) _ _ refl refl

after_same : (d : Deed) (v : Seen) → is_remaking d ≡ false → place (topic.after d v) ≡ place v
after_same (Takes t) v h = takes_same v.holder t v
after_same Draws v h = cond_so (λ w. place w ≡ place v) (is_spent v.next) _ _ refl refl
after_same (Remakes l g) v h = absurd cc
after_same (Stores t e) v h = stores_same _ v
after_same (Flushes t) v h = cond_so (λ w. place w ≡ place v) (is_settled v) v _ refl (stores_same (Flush t) v)
after_same Cuts v h = cond_so (λ w. place w ≡ place v) (is_nothing v.storage.items) _ _ refl refl
after_same TakesBatch v h = left_same v.cut v
after_same _ v h = refl

abbrev Plain : Deed → Type 0
Plain d = is_remaking d ≡ false

along_same : (ds : List Deed) (t : Topic) → Each Plain ds → place_of (along topic_after ds t) ≡ place_of t
along_same [] t k = refl
along_same (d ∷ ds) t k = after_same d (along topic_after ds t).seen k.0 ∙ along_same ds t k.1

abbrev remakes : Act → Bool
remakes (Does who (OfTopic m (Remake r))) = true
remakes _ = false

plain_from : (n : ℕ) (a : Act) → remakes a ≡ false → (d : Deed) → CameFrom n a d → is_remaking d ≡ false
plain_from n a h (Remakes l g) k = let f : true ≡ false = sym (ap remakes k.2) ∙ h in absurd cc
plain_from n a h _ k = refl

plain_acts : (v : View) (n : ℕ) (a : Act) → remakes a ≡ false → Each Plain (topic_acts v n a)
plain_acts v n a h = acts_each Plain v n a (plain_from n a h)

-- ALONG A LOG

module _ (o : Options) (n : ℕ) where
  -- one that was there
  last_then : (a : Act) (log : List Entry) (t before : Topic) → topic_born (view o log) n a ≡ None → made_last n log ≡ Some (place_of before) →
      t ≡ along topic_after (topic_acts (view o log) n a) before → made_last n (Then a ∷ log) ≡ Some (place_of t)
  last_then (Answers who verdict) log t before none k is =
      born_last (view o log) who n verdict.makes (made_last n log) ∙ ap (λ r. place_or r (made_last n log)) none ∙ k
      ∙ ap (λ x. Some (place_of x)) (sym is)
  last_then (Does who (OfTopic m (Remake r))) log t before none k is = by (n == m) ∙ ap (λ x. Some (place_of x)) (sym is)
    where
      by : (c : Bool) →
          cond c (Some (r.link, r.given)) (made_last n log) ≡ Some (place_of (along topic_after (cond c (Remakes r.link r.given ∷ []) []) before))
      by true = refl
      by false = k
  last_then a log t before none k is =
      k ∙ ap (λ x. Some x) (sym (along_same (topic_acts (view o log) n a) before (plain_acts (view o log) n a refl))) ∙ ap (λ x. Some (place_of x)) (sym is)

  last_born : (a : Act) (log : List Entry) (t : Topic) → topic_born (view o log) n a ≡ Some t → made_last n (Then a ∷ log) ≡ Some (place_of t)
  last_born (Answers who verdict) log t h =
      born_last (view o log) who n verdict.makes (made_last n log) ∙ ap (λ r. place_or r (made_last n log)) h
  last_born a log t h = absurd cc

  last_run : (log : List Entry) (t : Topic) → (view o log).producers.topics n ≡ Some t → made_last n log ≡ Some (place_of t)
  last_run [] t h = absurd (none_some h)
  last_run (Begins e ∷ log) t h = last_run log t (sym (begun_same (λ v. v.producers.topics n) e (view o log) refl) ∙ h)
  last_run (Then a ∷ log) t h =
      elim (came topic_after (topic_born (view o log) n a) false (topic_acts (view o log) n a) ((view o log).producers.topics n) t h) [
        | WasIn w ↦ last_then a log t w.before w.none (last_run log w.before w.was) w.is_it
        | IsNewIn b ↦ last_born a log t b
      ]

pub as_made_last_lem : AsMadeLast
as_made_last_lem o log n t h = last_run o n log t h
