-- Acts by which a consumer stays to be found just where it was.
use Rattle.std.proofs.Common.{◌≡◌, ◌∙◌, ℕ, ◌==◌, ◌&&◌, ◌||◌, not, sym, ap, refl, Bool, true, false, cond, Option, Some, None}
use Rattle.std.specs.Option.{is_some}
use Rattle.url.specs.Parts.{Parts}
use Rattle.pulsar_calls.specs.declared.act.Who.{Who}
use Rattle.pulsar_consumer.specs.Topic as topic
use Rattle.pulsar_consumer.specs.Topic.{Polls, Asks, Seen, first_of, is_ended, link_of, lives_on}
use Rattle.pulsar_consumer.proofs.Histories.{counted_same}
use Rattle.pulsar_consumer_table.specs.declared.row.LinkAnswer.{LinkAnswer}
use Rattle.pulsar_consumer_table.specs.declared.row.LinkAnswer.TheVariants.{Found, Gone, Later}
use Rattle.pulsar_consumer_table.specs.Consumers.{lives_at, member_after, revived, seeks, sought, waits_so}
use Rattle.pulsar_consumer_table.specs.KeptConsumers.{is_known}
use Rattle.pulsar_consumer_table.proofs.Living.{giving_link, link_in, same_link}
use Rattle.pulsar_consumer_table.proofs.Numbered.{same_number, there}
use Rattle.pulsar_consumer_table.proofs.Placed.{Stays}

-- where its number, its end and its link stay
same_known : (v w : Seen) → w.number ≡ v.number → is_ended w ≡ is_ended v → link_of w ≡ link_of v → (n : ℕ) → ((w.number == n) && there w) ≡ ((v.number == n) && there v)
same_known v w number ended link n =
    ap (λ k. (k == n) && there w) number
    ∙ ap (λ b. (v.number == n) && (not b || is_some (link_of w))) ended
    ∙ ap (λ o. (v.number == n) && (not (is_ended v) || is_some o)) link

-- A POLL

abbrev polls_at : (clock : ℕ) → Seen → Seen
polls_at clock v = record v { engine = topic.gives (topic.clocked clock v.engine) }

polls_link : (clock : ℕ) (v : Seen) → link_of (topic.after (Polls clock) v) ≡ link_of v
polls_link clock v =
    ap (λ e. link_in e) (counted_same (first_of v.engine.unread) clock (polls_at clock v)).0 ∙ giving_link v.engine.unread (topic.clocked clock v.engine)

pub polls_known : (clock : ℕ) → Stays is_known (member_after (Polls clock))
polls_known clock n m =
    same_known m.seen (topic.after (Polls clock) m.seen) (same_number (Polls clock) m.seen)
    (ap is_some (counted_same (first_of m.seen.engine.unread) clock (polls_at clock m.seen)).1) (polls_link clock m.seen) n

pub polls_living : (clock : ℕ) → Stays lives_at (member_after (Polls clock))
polls_living clock l m = ap (topic.is_on l) (polls_link clock m.seen)

-- A FLOW THAT IS ASKED FOR

asks_link : (v : Seen) → link_of (topic.after Asks v) ≡ link_of v
asks_link v = same_link topic.asked (λ l. refl) v.engine.live

pub asks_known : Stays is_known (member_after Asks)
asks_known n m = same_known m.seen (topic.after Asks m.seen) refl refl (asks_link m.seen) n

pub asks_living : Stays lives_at (member_after Asks)
asks_living l m = ap (topic.is_on l) (asks_link m.seen)

-- ONE WHO WANTS ITS LINK

pub seeks_known : (w : Who) → Stays is_known (seeks w)
seeks_known w n m = by (sought (Some m))
  where
    by : (s : LinkAnswer) → is_known n (Some (waits_so s w m)) ≡ is_known n (Some m)
    by (Found k) = refl
    by Gone = refl
    by Later = refl

pub seeks_living : (w : Who) → Stays lives_at (seeks w)
seeks_living w l m = by (sought (Some m))
  where
    by : (s : LinkAnswer) → lives_on l (waits_so s w m).seen ≡ lives_on l m.seen
    by (Found k) = refl
    by Gone = refl
    by Later = refl

-- A NEW SUBSCRIPTION, which only one has that has not ended: so it stays to be found by its number

abbrev resubscribed : (link : ℕ) → Parts → Seen → Seen
resubscribed link url v = record v { engine = topic.lives link url v.engine }

pub revived_known : (link : ℕ) (url : Option Parts) → Stays is_known (revived link url)
revived_known link None n m = refl
revived_known link (Some url) n m = by (is_ended m.seen) refl
  where
    by : (b : Bool) → is_ended m.seen ≡ b →
        (((cond b m.seen (resubscribed link url m.seen)).number == n) && there (cond b m.seen (resubscribed link url m.seen))) ≡ ((m.seen.number == n) && there m.seen)
    by true e = refl
    by false e = ap (λ c. (m.seen.number == n) && (not c || true)) e ∙ sym (ap (λ c. (m.seen.number == n) && (not c || is_some (link_of m.seen))) e)
