-- Who lives on a link, as consumers change: none lives where it did not, but for one that was subscribed there.
use Rattle.std.proofs.Common.{◌≡◌, ◌∙◌, ◌++◌, ℕ, ◌==◌, sym, ap, refl, Bool, true, false, cond, List, [], ◌∷◌, filter, Option, Some, None, inl, inr}
use Rattle.std.proofs.lemmas.Bool.{cases_Bool, eqb-true, false≢true, and_parts}
use Rattle.std.specs.BTreeMap.{BTreeMap, get, is_at, keys}
use Rattle.std.specs.BTreeSet.{BTreeSet}
use Rattle.std.specs.List.{list_any}
use Rattle.std.specs.Option.{option_map}
use Rattle.std.specs.Ordering.{nat_cmp}
use Rattle.pulsar_requests.proofs.Awaiting.{is_at-eqb}
use Rattle.pulsar_exchange.specs.Messages.{Reply, is_body}
use Rattle.pulsar_consumer.specs.Frames.{Frame, frame_in}
use Rattle.pulsar_consumer.specs.Items.{Item}
use Rattle.pulsar_consumer.specs.Topic as topic
use Rattle.pulsar_consumer.specs.Topic.{Engine, Hears, Loses, Ends, Live, Seen, link_of, lives_on}
use Rattle.pulsar_incoming.specs.declared.polled.Ending.{Ending}
use Rattle.pulsar_incoming.specs.declared.polled.Ending.TheVariants.{LinkLost, TopicEnded}
use Rattle.pulsar_consumer_table.specs.declared.row.ConsumerRow.{ConsumerRow}
use Rattle.pulsar_consumer_table.specs.Consumers.{Member, ends_on, hears_frame, link_at, lives_at, lives_with, member_after, stopped}
use Rattle.pulsar_consumer_table.specs.KeptConsumers.{AreHeard, listed_at, rows_in, tickets_of}
use Rattle.pulsar_calls.specs.Places.{is_listed}
use Rattle.pulsar_consumer_table.proofs.Finding.{both, found_any, keyed, there_is}
use Rattle.pulsar_consumer_table.proofs.Heard.{filtered}
use Rattle.pulsar_consumer_table.proofs.Placed.{Holds}
use Rattle.pulsar_calls.proofs.Places.{swapped}

-- AN ENGINE KEEPS ITS LINK as it goes on: what becomes of a subscription stays on its link

abbrev pub link_in : Engine → Option ℕ
link_in e = option_map (λ (l : Live). l.link) e.live

pub same_link : (f : Live → Live) → ((l : Live) → (f l).link ≡ l.link) → (o : Option Live) → option_map (λ (l : Live). l.link) (option_map f o) ≡ option_map (λ (l : Live). l.link) o
same_link f same None = refl
same_link f same (Some l) = ap Some (same l)

link_if : (b : Bool) (x y : Live) (k : ℕ) → x.link ≡ k → y.link ≡ k → (cond b x y).link ≡ k
link_if true x y k p q = p
link_if false x y k p q = q

finished_link : (batch : Option ℕ) (l : Live) → (topic.finishes batch l).link ≡ l.link
finished_link None l = refl
finished_link (Some batch) l = link_if _ _ _ l.link refl refl

going_link : (fs : List Frame) (e : Engine) → link_in (topic.goes_on fs e) ≡ link_in e
going_link [] e = elim (cases_Bool (topic.is_finished e)) [
  | inl y ↦ rw y (same_link (topic.finishes e.batch) (finished_link e.batch) e.live)
  | inr n ↦ rw n refl
]
going_link (f ∷ fs) e = elim (cases_Bool (topic.is_finished e)) [
  | inl y ↦ rw y (going_link fs (topic.begin f (record (topic.finish e) { waiting = fs }))
      ∙ same_link (topic.begins f.weight) (λ l. refl) (option_map (topic.finishes e.batch) e.live)
      ∙ same_link (topic.finishes e.batch) (finished_link e.batch) e.live)
  | inr n ↦ rw n refl
]

pub giving_link : (items : List Item) (e : Engine) → link_in (topic.gives_from items e) ≡ link_in e
giving_link [] e = refl
giving_link (item ∷ items) e = going_link e.waiting (topic.places (record e { unread = items }))

-- WHO LIVES NOWHERE NEW

from_link : (l : ℕ) (v w : Seen) → link_of w ≡ link_of v → lives_on l w ≡ true → lives_on l v ≡ true
from_link l v w same h = ap (topic.is_on l) (sym same) ∙ h

away : (l : ℕ) (w : Seen) → w.engine.live ≡ None → lives_on l w ≡ false
away l w none = ap (λ o. topic.is_on l (option_map (λ (x : Live). x.link) o)) none

none_there : (l : ℕ) (v w : Seen) → w.engine.live ≡ None → lives_on l w ≡ true → lives_on l v ≡ true
none_there l v w none h = absurd (false≢true (sym (away l w none) ∙ h))

hears_lifeless : (k : ℕ) (f : Frame) → Holds lives_at (member_after (Hears k f))
hears_lifeless k f l m = by (lives_on k m.seen)
  where
    more : List Frame
    more = m.seen.engine.waiting ++ topic.frame_for m.seen f ∷ []

    by : (b : Bool) → lives_on l (cond b (topic.heard f m.seen) m.seen) ≡ true → lives_on l m.seen ≡ true
    by true h = from_link l m.seen (topic.heard f m.seen) (going_link more (topic.places (record m.seen.engine { waiting = more }))) h
    by false h = h

lost_live : (v : Seen) → (topic.loses v).engine.live ≡ None
lost_live v = by v.is_raw
  where
    by : (b : Bool) → (cond b (topic.ends LinkLost v) (record v { engine = record v.engine { live = None } })).engine.live ≡ None
    by true = refl
    by false = refl

pub loses_lifeless : (k : ℕ) → Holds lives_at (member_after (Loses k))
loses_lifeless k l m = by (lives_on k m.seen)
  where
    by : (b : Bool) → lives_on l (cond b (topic.loses m.seen) m.seen) ≡ true → lives_on l m.seen ≡ true
    by true h = none_there l m.seen (topic.loses m.seen) (lost_live m.seen) h
    by false h = h

pub ends_lifeless : (why : Ending) → Holds lives_at (member_after (Ends why))
ends_lifeless why l m h = none_there l m.seen (topic.ends why m.seen) refl h

pub frame_lifeless : (k : ℕ) (r : Reply) → Holds lives_at (hears_frame k r)
frame_lifeless k r l m = by (is_body 9 r.content.body) (is_body 27 r.content.body) (is_body 16 r.content.body)
  where
    on : (b : Bool) → lives_on l (cond b (member_after (Ends TopicEnded) m) m).seen ≡ true → lives_on l m.seen ≡ true
    on true h = ends_lifeless TopicEnded l m h
    on false h = h

    by : (b c d : Bool) →
        lives_on l (cond b (member_after (Hears k (frame_in r)) m) (cond c (ends_on k TopicEnded m) (cond d (member_after (Loses k) m) m))).seen ≡ true →
        lives_on l m.seen ≡ true
    by true c d h = hears_lifeless k (frame_in r) l m h
    by false true d h = on (lives_on k m.seen) h
    by false false true h = loses_lifeless k l m h
    by false false false h = h

-- WHERE A LINK IS LOST, nobody lives there any more, and whoever lives on another goes on so

module _ (heard : BTreeMap ℕ (BTreeSet ℕ)) (rows : ℕ → Option Member) (are : AreHeard heard rows) where
  -- once nobody is listed there
  pub ended_heard : (heard' : BTreeMap ℕ (BTreeSet ℕ)) (link : ℕ) (after : ℕ → Option Member) →
      ((u : ℕ) → after u ≡ option_map (member_after (Loses link)) (rows u)) →
      ((l : ℕ) → get nat_cmp heard' l ≡ cond (is_at (nat_cmp link) l) None (get nat_cmp heard l)) → AreHeard heard' after
  ended_heard heard' link after is gone u l = elim (cases_Bool (l == link)) [
    | inl e ↦
        (let same : l ≡ link = eqb-true l link e in
        let none : listed_at heard' l ≡ [] = ap tickets_of (gone l ∙ ap (λ b. cond b None (get nat_cmp heard l)) (is_at-eqb link l ∙ swapped link l ∙ e)) in
        ap (is_listed u) none ∙ sym (ap (λ k. lives_at k (after u)) same ∙ ap (lives_at link) (is u) ∙ lost_nowhere link (rows u)))
    | inr e ↦
        (let stays : listed_at heard' l ≡ listed_at heard l = ap tickets_of (gone l ∙ ap (λ b. cond b None (get nat_cmp heard l)) (is_at-eqb link l ∙ swapped link l ∙ e)) in
        ap (is_listed u) stays ∙ are u l ∙ sym (ap (lives_at l) (is u) ∙ lost_apart link l e (rows u)))
  ]
    where
      lost_nowhere : (k : ℕ) (row : Option Member) → lives_at k (option_map (member_after (Loses k)) row) ≡ false
      lost_nowhere k None = refl
      lost_nowhere k (Some m) = by (lives_on k m.seen) refl
        where
          by : (b : Bool) → lives_on k m.seen ≡ b → lives_on k (cond b (topic.loses m.seen) m.seen) ≡ false
          by true e = away k (topic.loses m.seen) (lost_live m.seen)
          by false e = e

      apart : (k l : ℕ) (o : Option ℕ) → (l == k) ≡ false → topic.is_on k o ≡ true → topic.is_on l o ≡ false
      apart k l None e f = refl
      apart k l (Some j) e f = ap (λ i. i == l) (eqb-true j k f) ∙ swapped k l ∙ e

      lost_apart : (k l : ℕ) → (l == k) ≡ false → (row : Option Member) → lives_at l (option_map (member_after (Loses k)) row) ≡ lives_at l row
      lost_apart k l e None = refl
      lost_apart k l e (Some m) = by (lives_on k m.seen) refl
        where
          by : (b : Bool) → lives_on k m.seen ≡ b → lives_on l (cond b (topic.loses m.seen) m.seen) ≡ lives_on l m.seen
          by true f = away l (topic.loses m.seen) (lost_live m.seen) ∙ sym (apart k l (link_of m.seen) e f)
          by false f = refl

-- once the client is stopped none lives
pub stopped_nowhere : (l : ℕ) (row : Option Member) → lives_at l (option_map stopped row) ≡ false
stopped_nowhere l None = refl
stopped_nowhere l (Some m) = refl

-- one lives where its link is
pub where_it_lives : (l : ℕ) (row : Option Member) → lives_at l row ≡ topic.is_on l (link_at row)
where_it_lives l None = refl
where_it_lives l (Some m) = refl

-- and on no other than that on which it is found
pub living_place : (k n l : ℕ) (row : Option Member) → lives_with n l row ≡ true → lives_at k row ≡ true → (k == l) ≡ true
living_place k n l None p h = absurd (false≢true h)
living_place k n l (Some m) p h = one (link_of m.seen) (and_parts (m.seen.number == n) (lives_on l m.seen) p).1 h
  where
    one : (o : Option ℕ) → topic.is_on l o ≡ true → topic.is_on k o ≡ true → (k == l) ≡ true
    one None f g = absurd (false≢true f)
    one (Some j) f g = ap (λ i. i == l) (sym (eqb-true j k g)) ∙ f

-- WHO IS FOUND

pub found_living : (l : ℕ) (heard : BTreeMap ℕ (BTreeSet ℕ)) (rows : ℕ → Option Member) → AreHeard heard rows →
    (ts : List ℕ) → ts ≡ filter (λ t. lives_at l (rows t)) (listed_at heard l) →
    (t : ℕ) → is_listed t ts ≡ lives_at l (rows t)
found_living l heard rows are ts is t =
    ap (is_listed t) is
    ∙ filtered (λ u. lives_at l (rows u)) (listed_at heard l) t
    ∙ both (is_listed t (listed_at heard l)) (lives_at l (rows t)) (λ y. are t l ∙ y)

-- whether one lives there
pub some_living : (l : ℕ) (heard : BTreeMap ℕ (BTreeSet ℕ)) (rows : BTreeMap ℕ ConsumerRow) → AreHeard heard (rows_in rows) →
    list_any (λ t. lives_at l (rows_in rows t)) (listed_at heard l) ≡ list_any (λ t. lives_at l (rows_in rows t)) (keys rows)
some_living l heard rows are = found_any (λ t. lives_at l (rows_in rows t)) (listed_at heard l) (keys rows)
    (λ t h. are t l ∙ h)
    (λ t h. keyed rows t (there_is l (rows_in rows t) h))
