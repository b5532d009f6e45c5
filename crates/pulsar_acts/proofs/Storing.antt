-- What topic producers store: whom that tells, and how long it waits.
use Rattle.std.proofs.Common.{◌≡◌, ◌∙◌, ap, sym, ℕ, Bool, true, false, cond, refl, List, [], ◌∷◌, ◌++◌, Option, Some, None}
use Rattle.std.specs.Option.{option_map}
use Rattle.pulsar_run.specs.Order.{put, put_all}
use Rattle.pulsar_producer.specs.Topic.{Act}
use Rattle.pulsar_producer_table.specs.declared.table.Topic.{Topic}
use Rattle.pulsar_calls.specs.declared.act.Alarm.TheVariants.{Batch}
use Rattle.pulsar_links.specs.Alarms.{clear, set}
use Rattle.pulsar_producer_table.specs.Producers.{Producers, done_to, is_bare, timeout_at, topic_after}
use Rattle.pulsar_producer_table.proofs.Asking.{done_at}
use Rattle.pulsar_acts.specs.View.{View, alarms_on_topic, alarms_waiting, waits_from}
use Rattle.pulsar_links.specs.Seats.{later}

-- one more is put
pub put_all_end : {A : Type 0} (below : A → A → Bool) (xs : List A) (x : A) (ys : List A) →
    put_all below (xs ++ x ∷ []) ys ≡ put below x (put_all below xs ys)
put_all_end below [] x ys = refl
put_all_end below (y ∷ xs) x ys = put_all_end below xs x (put below y ys)

-- a topic producer that changes is still its producer's
same_owner : (act : Act) (ps : Producers) (row : Option Topic) → timeout_at ps (option_map (topic_after act) row) ≡ timeout_at ps row
same_owner act ps None = refl
same_owner act ps (Some t) = refl

same_built : (n : ℕ) (act : Act) (ps : Producers) (row : Option Topic) → timeout_at (done_to n (act ∷ []) ps) row ≡ timeout_at ps row
same_built n act ps None = refl
same_built n act ps (Some t) = refl

-- what it stores waits from then on
pub waits_on : (v : View) (n : ℕ) (act : Act) (ps : Producers) (was : Bool) → ps ≡ done_to n (act ∷ []) v.producers → was ≡ is_bare (v.producers.topics n) →
    record v {
      producers = ps;
      alarms = alarms_waiting v.now (timeout_at ps (ps.topics n)) n was (is_bare (ps.topics n)) v.alarms;
    } ≡ record v { producers = done_to n (act ∷ []) v.producers; alarms = alarms_on_topic v n act }
waits_on v n act ps was is before =
    let after = done_to n (act ∷ []) v.producers in
    let delay = same_built n act v.producers (after.topics n)
    ∙ ap (timeout_at v.producers) (done_at n (act ∷ []) v.producers) ∙ same_owner act v.producers (v.producers.topics n) in
    (λ i. record v {
      producers = is i;
      alarms = alarms_waiting v.now (timeout_at (is i) ((is i).topics n)) n (before i) (is_bare ((is i).topics n)) v.alarms;
    })
    ∙ (λ i. record v {
      producers = after;
      alarms = alarms_waiting v.now (delay i) n (is_bare (v.producers.topics n)) (is_bare (done_at n (act ∷ []) v.producers i)) v.alarms;
    })

-- HOW LONG IT WAITS

module _ (v : View) (n : ℕ) (was : Bool) where
  abbrev row : Option Topic
  row = v.producers.topics n

  -- by whether nothing is stored, whether nothing was, and how long its producer says
  abbrev waits : (bare was : Bool) → Option ℕ → View
  waits bare was timeout =
      record v { alarms = cond bare (clear (Batch n) v.alarms) (cond was (waits_from v.now timeout n v.alarms) v.alarms) }

  abbrev waiting : View
  waiting = record v { alarms = alarms_waiting v.now (timeout_at v.producers row) n was (is_bare row) v.alarms }

  pub waits_no_more : is_bare row ≡ true → record v { alarms = clear (Batch n) v.alarms } ≡ waiting
  waits_no_more bare = sym (ap (λ b. waits b was (timeout_at v.producers row)) bare)

  pub waits_still : is_bare row ≡ false → was ≡ false → v ≡ waiting
  waits_still bare before = sym (λ i. waits (bare i) (before i) (timeout_at v.producers row))

  pub waits_never : is_bare row ≡ false → was ≡ true → timeout_at v.producers row ≡ None → v ≡ waiting
  waits_never bare before none = sym (λ i. waits (bare i) (before i) (none i))

  pub waits_so_long : (delay : ℕ) → is_bare row ≡ false → was ≡ true → timeout_at v.producers row ≡ Some delay →
      record v { alarms = set (Batch n) (later v.now delay) v.alarms } ≡ waiting
  waits_so_long delay bare before so = sym (λ i. waits (bare i) (before i) (so i))
