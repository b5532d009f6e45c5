-- Who is to be found by a number, as consumers change: none is so again that was not.
use Rattle.std.proofs.Common.{◌≡◌, ◌∙◌, ℕ, ◌==◌, ◌&&◌, ◌||◌, not, sym, ap, refl, Bool, true, false, cond, Option, Some, None, inl, inr}
use Rattle.std.proofs.lemmas.Bool.{cases_Bool, eq-eqb, eqb-true, false≢true, and_from, and_parts}
use Rattle.std.specs.Option.{is_some, option_map, option_or}
use Rattle.pulsar_exchange.specs.Messages.{Reply, is_body}
use Rattle.pulsar_consumer.specs.Frames.{frame_in}
use Rattle.pulsar_consumer.specs.Topic as topic
use Rattle.pulsar_consumer.specs.Topic.{Act, Hears, Loses, Ends, Live, Seen, is_ended, link_of, lives_on}
use Rattle.pulsar_consumer.proofs.Checking.{same_after}
use Rattle.pulsar_consumer.proofs.Histories.{shut_after, stays_after}
use Rattle.pulsar_incoming.specs.declared.polled.Ending.{Ending}
use Rattle.pulsar_incoming.specs.declared.polled.Ending.TheVariants.{Stopped, TopicEnded}
use Rattle.pulsar_consumer_table.specs.Consumers.{Member, ends_on, hears_frame, lives_with, member_after, number_at, stopped}
use Rattle.pulsar_consumer_table.specs.KeptConsumers.{is_known, known_at}
use Rattle.pulsar_consumer_table.proofs.Placed.{Holds}
use Rattle.pulsar_calls.proofs.Places.{swapped}

-- ONE THAT IS OVER has ended, and lives on no link. So it stays.

record IsOver (v : Seen) : Type 0 where
  ended : is_ended v ≡ true
  live : v.engine.live ≡ None

reason : (o : Option Ending) → is_some o ≡ true → (why : Ending) × (o ≡ Some why)
reason None h = absurd (false≢true h)
reason (Some why) h = (why, refl)

stays_over : (act : Act) (v : Seen) → IsOver v → IsOver (topic.after act v)
stays_over act v k =
    let why = reason v.ended k.ended in
    let ended = (stays_after act v why.0 why.1 k.live).0 in
    record { ended = ap is_some ended; live = shut_after act v (λ x is. k.live) why.0 ended }

-- ITS NUMBER stays too

pub same_number : (act : Act) (v : Seen) → (topic.after act v).number ≡ v.number
same_number act v = ap (λ x. x.number) (same_after act v)

-- WHO IS KNOWN

and_all : (b : Bool) → (b && true) ≡ b
and_all true = refl
and_all false = refl

and_none : (b : Bool) → (b && false) ≡ false
and_none true = refl
and_none false = refl

-- one that is not over is there
abbrev pub there : Seen → Bool
there v = not (is_ended v) || is_some (link_of v)

not_there : (ended : Option Ending) (live : Option Live) → (not (is_some ended) || is_some (option_map (λ (x : Live). x.link) live)) ≡ false →
    (is_some ended ≡ true) × (live ≡ None)
not_there None live h = absurd (false≢true (sym h))
not_there (Some why) None h = (refl, refl)
not_there (Some why) (Some l) h = absurd (false≢true (sym h))

over_not : (v : Seen) → IsOver v → there v ≡ false
over_not v k = ap (λ b. not b || is_some (link_of v)) k.ended ∙ ap (λ o. is_some (option_map (λ (x : Live). x.link) o)) k.live

known_before : (v w : Seen) → w.number ≡ v.number → (IsOver v → IsOver w) → (n : ℕ) → ((w.number == n) && there w) ≡ true → ((v.number == n) && there v) ≡ true
known_before v w same over n h = elim (cases_Bool (there v)) [
  | inl y ↦ and_from (v.number == n) (there v) (ap (λ k. k == n) (sym same) ∙ (and_parts (w.number == n) (there w) h).0) y
  | inr away ↦
      (let gone = not_there v.ended v.engine.live away in
      let after : there w ≡ false = over_not w (over (record { ended = gone.0; live = gone.1 })) in
      absurd (false≢true (sym after ∙ (and_parts (w.number == n) (there w) h).1)))
]

pub act_holds : (act : Act) → Holds is_known (member_after act)
act_holds act n m h = known_before m.seen (topic.after act m.seen) (same_number act m.seen) (stays_over act m.seen) n h

pub frame_holds : (l : ℕ) (r : Reply) → Holds is_known (hears_frame l r)
frame_holds l r n m = by (is_body 9 r.content.body) (is_body 27 r.content.body) (is_body 16 r.content.body)
  where
    on : (b : Bool) → is_known n (Some (cond b (member_after (Ends TopicEnded) m) m)) ≡ true → is_known n (Some m) ≡ true
    on true h = act_holds (Ends TopicEnded) n m h
    on false h = h

    by : (b c d : Bool) →
        is_known n (Some (cond b (member_after (Hears l (frame_in r)) m) (cond c (ends_on l TopicEnded m) (cond d (member_after (Loses l) m) m)))) ≡ true →
        is_known n (Some m) ≡ true
    by true c d h = act_holds (Hears l (frame_in r)) n m h
    by false true d h = on (lives_on l m.seen) h
    by false false true h = act_holds (Loses l) n m h
    by false false false h = h

-- one that is known by a number has it
pub own_number : (n : ℕ) (row : Option Member) → is_known n row ≡ true → (n == number_at row) ≡ true
own_number n None h = absurd (false≢true h)
own_number n (Some m) h = swapped n m.seen.number ∙ (and_parts (m.seen.number == n) (there m.seen) h).0

pub known_place : (n k l : ℕ) (row : Option Member) → lives_with k l row ≡ true → is_known n row ≡ true → (n == k) ≡ true
known_place n k l None p h = absurd (false≢true h)
known_place n k l (Some m) p h =
    ap (λ i. n == i) (sym (eqb-true m.seen.number k (and_parts (m.seen.number == k) (lives_on l m.seen) p).0)) ∙ own_number n (Some m) h

-- one is known by its number alone
pub known_by : (n : ℕ) (row : Option Member) → is_known n row ≡ topic.is_on n (known_at row)
known_by n None = refl
known_by n (Some m) =
    by (there m.seen) ∙ sym (ap (λ b. topic.is_on n (cond (b && there m.seen) (Some m.seen.number) None)) (eq-eqb m.seen.number m.seen.number refl))
  where
    by : (b : Bool) → ((m.seen.number == n) && b) ≡ topic.is_on n (cond b (Some m.seen.number) None)
    by true = and_all (m.seen.number == n)
    by false = and_none (m.seen.number == n)

-- a change by which none gets another number
pub number_kept : (f : Member → Member) → ((m : Member) → (f m).seen.number ≡ m.seen.number) → (b : Bool) (row : Option Member) →
    number_at (cond b (option_map f row) row) ≡ number_at row
number_kept f same true None = refl
number_kept f same true (Some m) = same m
number_kept f same false row = refl

-- once the client is stopped none is known
pub stopped_none : (n : ℕ) (row : Option Member) → is_known n (option_map stopped row) ≡ false
stopped_none n None = refl
stopped_none n (Some m) = ap (λ b. (m.seen.number == n) && b) (by m.seen.ended) ∙ and_none (m.seen.number == n)
  where
    by : (o : Option Ending) → (not (is_some (option_or o (Some Stopped))) || false) ≡ false
    by None = refl
    by (Some why) = refl

-- one that hears a frame keeps its number
pub frame_number : (l : ℕ) (r : Reply) (m : Member) → (hears_frame l r m).seen.number ≡ m.seen.number
frame_number l r m = by (is_body 9 r.content.body) (is_body 27 r.content.body) (is_body 16 r.content.body)
  where
    on : (b : Bool) → (cond b (member_after (Ends TopicEnded) m) m).seen.number ≡ m.seen.number
    on true = refl
    on false = refl

    by : (b c d : Bool) →
        (cond b (member_after (Hears l (frame_in r)) m) (cond c (ends_on l TopicEnded m) (cond d (member_after (Loses l) m) m))).seen.number ≡ m.seen.number
    by true c d = same_number (Hears l (frame_in r)) m.seen
    by false true d = on (lives_on l m.seen)
    by false false true = same_number (Loses l) m.seen
    by false false false = refl
