-- Consumers that are found by their numbers, or by a link: what is done to them is done to all, and what they give all give.
use Rattle.std.proofs.Common.{◌≡◌, ◌⊎◌, ◌∙◌, ℕ, suc, ◌+◌, ◌<◌, ◌==◌, ◌&&◌, not, sym, ap, refl, arith, List, [], ◌∷◌, ◌++◌, filter, Bool, true, false, cond, Option, Some, None, inl, inr}
use Rattle.std.proofs.lemmas.Bool.{cases_Bool, eqb-true, false≢true, and_parts}
use Rattle.std.proofs.lemmas.List.{append-nil}
use Rattle.std.specs.BTreeMap.{is_at}
use Rattle.std.specs.List.{flat_map, list_any}
use Rattle.std.specs.List.Sorted.{IsStrictlySortedBy}
use Rattle.std.specs.Option.{option_map, option_to_list}
use Rattle.std.specs.Ordering.{nat_cmp}
use Rattle.pulsar_requests.proofs.Awaiting.{is_at-eqb}
use Rattle.pulsar_exchange.specs.Messages.{Reply, is_body}
use Rattle.pulsar_wire.specs.Failures.{Fault}
use Rattle.pulsar_calls.specs.declared.act.Arrival.{Arrival}
use Rattle.pulsar_calls.specs.declared.act.Arrival.TheVariants.{Bad, Gives, Nothing, Passes, Readied, Settles}
use Rattle.pulsar_calls.specs.declared.act.Notice.{Notice}
use Rattle.pulsar_calls.specs.declared.act.Outcome.TheVariants as outcome
use Rattle.pulsar_calls.specs.declared.act.Who.TheVariants.{Consumer}
use Rattle.pulsar_calls.specs.declared.act.Word.{Word}
use Rattle.pulsar_calls.specs.declared.act.Word.TheVariants as word
use Rattle.pulsar_consumer.specs.Frames.{frame_in}
use Rattle.pulsar_consumer.specs.Topic as topic
use Rattle.pulsar_consumer.specs.Topic.{Hears, Ends, Loses, is_due as is_flow_due, lives_on, resubscribes}
use Rattle.pulsar_incoming.specs.declared.polled.Ending.TheVariants.{Closed, TopicEnded}
use Rattle.pulsar_consumer_table.specs.Consumers.{Consumers, Member, all_changed, at_row, closes, ends_on, hears, hears_frame, lives_at, lives_with, member_after, word_if, word_of_close, word_of_frame}
use Rattle.pulsar_calls.specs.Places.{is_listed}
use Rattle.pulsar_calls.specs.Notices.{notice}
use Rattle.pulsar_consumer_table.specs.Notices.{heard_at, word_to}
use Rattle.pulsar_consumer_table.proofs.Numbered.{frame_number}
use Rattle.pulsar_calls.proofs.Places.{by_keys}

-- TWO LISTS OF TICKETS

abbrev most : List ℕ → ℕ
most [] = 0
most (n ∷ ns) = suc (n + most ns)

most_over : (ns : List ℕ) (t : ℕ) → list_any (is_at (nat_cmp t)) ns ≡ true → t < most ns
most_over [] t h = absurd (false≢true h)
most_over (n ∷ ns) t h = elim (cases_Bool (is_at (nat_cmp t) n)) [
  | inl e ↦ (let same : t ≡ n = eqb-true t n (sym (is_at-eqb t n) ∙ e) in omega (arith, same))
  | inr e ↦ (let below : t < most ns = most_over ns t (rw e at h) in omega (arith, below))
]

-- where all others give nothing, two lists give the same
pub same_gives : {A : Type 0} (g : ℕ → List A) (ks ls : List ℕ) → IsStrictlySortedBy nat_cmp ks → IsStrictlySortedBy nat_cmp ls →
    ((t : ℕ) → list_any (is_at (nat_cmp t)) ks ≡ false → g t ≡ []) → ((t : ℕ) → list_any (is_at (nat_cmp t)) ls ≡ false → g t ≡ []) →
    flat_map g ks ≡ flat_map g ls
same_gives g ks ls k l none_k none_l =
    by_keys g (most ks + most ls) ks k (λ t h. let below : t < most ks = most_over ks t h in omega (arith, below)) none_k
    ∙ sym (by_keys g (most ks + most ls) ls l (λ t h. let below : t < most ls = most_over ls t h in omega (arith, below)) none_l)

-- WHO IS LISTED, AMONG THOSE THAT PASS A TEST

pub filtered : (test : ℕ → Bool) (ts : List ℕ) (t : ℕ) → is_listed t (filter test ts) ≡ (is_listed t ts && test t)
filtered test [] t = refl
filtered test (u ∷ ts) t = elim (cases_Bool (u == t)) [
  | inl e ↦
      (let same : u ≡ t = eqb-true u t e in
      let test_same : test u ≡ test t = ap test same in
      elim (cases_Bool (test t)) [
        | inl y ↦ rw (test_same ∙ y) (rw e (rw y refl))
        | inr n ↦ rw (test_same ∙ n) (filtered test ts t ∙ rw e (rw n (none_and (is_listed t ts))))
      ])
  | inr e ↦ elim (cases_Bool (test u)) [
    | inl y ↦ rw y (rw e (filtered test ts t))
    | inr n ↦ rw n (rw e (filtered test ts t))
  ]
]
  where
    none_and : (b : Bool) → (b && false) ≡ false
    none_and true = refl
    none_and false = refl

-- where those that fail it give nothing, those that pass it give what all give
pub filtered_gives : {A : Type 0} (g : ℕ → List A) (test : ℕ → Bool) (ts : List ℕ) → ((t : ℕ) → test t ≡ false → g t ≡ []) →
    flat_map g (filter test ts) ≡ flat_map g ts
filtered_gives g test [] none = refl
filtered_gives g test (t ∷ ts) none = elim (cases_Bool (test t)) [
  | inl y ↦ rw y (ap (λ xs. g t ++ xs) (filtered_gives g test ts none))
  | inr n ↦ rw n (filtered_gives g test ts none ∙ sym (ap (λ xs. xs ++ flat_map g ts) (none t n)))
]

pub filtered_same : {A : Type 0} (g g' : ℕ → List A) (test : ℕ → Bool) (ts : List ℕ) → ((t : ℕ) → test t ≡ true → g t ≡ g' t) →
    flat_map g (filter test ts) ≡ flat_map g' (filter test ts)
filtered_same g g' test [] same = refl
filtered_same g g' test (t ∷ ts) same = elim (cases_Bool (test t)) [
  | inl y ↦ rw y (ap (λ xs. xs ++ flat_map g (filter test ts)) (same t y) ∙ ap (λ xs. g' t ++ xs) (filtered_same g g' test ts same))
  | inr n ↦ rw n (filtered_same g g' test ts same)
]

-- A FRAME: one that does not live on the link hears nothing, and is told nothing

module _ (l : ℕ) (r : Reply) (m : Member) (h : lives_on l m.seen ≡ false) where
  unheard : hears_frame l r m ≡ m
  unheard = by (is_body 9 r.content.body) (is_body 27 r.content.body) (is_body 16 r.content.body)
    where
      by : (b c d : Bool) → cond b (member_after (Hears l (frame_in r)) m) (cond c (ends_on l TopicEnded m) (cond d (member_after (Loses l) m) m)) ≡ m
      by true c d = ap (λ e. record m { seen = cond e (topic.heard (frame_in r) m.seen) m.seen }) h
      by false true d = ap (λ e. cond e (member_after (Ends TopicEnded) m) m) h
      by false false true = ap (λ e. record m { seen = cond e (topic.loses m.seen) m.seen }) h
      by false false false = refl

  untold : word_of_frame l r m ≡ None
  untold = by (is_body 9 r.content.body) (is_body 27 r.content.body) (is_body 16 r.content.body)
    where
      by : (b c d : Bool) →
          cond b (word_if (lives_on l m.seen && is_flow_due (hears_frame l r m).seen) word.Due)
          (cond c (word_if (resubscribes l m.seen) (word.TopicEnded l)) (cond d (word_if (resubscribes l m.seen) word.Lost) None)) ≡ None
      by true c d = ap (λ e. word_if (e && is_flow_due (hears_frame l r m).seen) word.Due) h
      by false true d = ap (λ e. word_if (e && not m.seen.is_raw) (word.TopicEnded l)) h
      by false false true = ap (λ e. word_if (e && not m.seen.is_raw) word.Lost) h
      by false false false = refl

-- those of the number that live on the link hear it, and others hear nothing
module _ (n l : ℕ) (r : Reply) where
  pub heard_by : (row : Option Member) → cond (lives_with n l row) (option_map (hears_frame l r) row) row ≡ option_map (hears l (Gives n r)) row
  heard_by None = refl
  heard_by (Some m) = by (m.seen.number == n) (lives_on l m.seen) refl
    where
      by : (a b : Bool) → lives_on l m.seen ≡ b → cond (a && b) (Some (hears_frame l r m)) (Some m) ≡ Some (cond a (hears_frame l r m) m)
      by true true h = refl
      by true false h = ap Some (sym (unheard l r m h))
      by false b h = refl

  pub none_told : (t : ℕ) (m : Member) → lives_with n l (Some m) ≡ false → heard_at l (Gives n r) t m ≡ []
  none_told t m h = elim (cases_Bool (m.seen.number == n)) [
    | inl e ↦
        (let away : lives_on l m.seen ≡ false = sym (ap (λ b. b && lives_on l m.seen) e) ∙ h in
        ap (word_to t m) (ap (λ b. cond b (word_of_frame l r m) None) e ∙ untold l r m away))
    | inr e ↦ ap (λ b. word_to t m (cond b (word_of_frame l r m) None)) e
  ]

  pub same_told : (t : ℕ) (m : Member) → lives_with n l (Some m) ≡ true → word_to t m (word_of_frame l r m) ≡ heard_at l (Gives n r) t m
  same_told t m h = sym (ap (λ b. word_to t m (cond b (word_of_frame l r m) None)) (and_parts (m.seen.number == n) (lives_on l m.seen) h).0)

-- A LOSS, AND A CLOSE

module _ (l : ℕ) where
  pub none_lost : (t : ℕ) (m : Member) → lives_at l (Some m) ≡ false → word_to t m (word_if (resubscribes l m.seen) word.Lost) ≡ []
  none_lost t m h = ap (λ b. word_to t m (word_if (b && not m.seen.is_raw) word.Lost)) h

  unlost : (m : Member) → lives_on l m.seen ≡ false → member_after (Loses l) m ≡ m
  unlost m h = ap (λ e. record m { seen = cond e (topic.loses m.seen) m.seen }) h

  pub lost_by : (row : Option Member) → cond (lives_at l row) (option_map (member_after (Loses l)) row) row ≡ option_map (member_after (Loses l)) row
  lost_by None = refl
  lost_by (Some m) = by (lives_on l m.seen) refl
    where
      by : (b : Bool) → lives_on l m.seen ≡ b → cond b (Some (member_after (Loses l) m)) (Some m) ≡ Some (member_after (Loses l) m)
      by true h = refl
      by false h = ap Some (sym (unlost m h))

module _ (n l : ℕ) where
  pub none_closed : (t : ℕ) (m : Member) → lives_with n l (Some m) ≡ false → word_to t m (word_of_close (Some n) l true m) ≡ []
  none_closed t m h = ap (λ b. word_to t m (word_if (b && not m.seen.is_raw) word.Over)) h

  pub same_closed : (t : ℕ) (m : Member) → lives_with n l (Some m) ≡ true →
      word_to t m (word_if (not m.seen.is_raw) word.Over) ≡ word_to t m (word_of_close (Some n) l true m)
  same_closed t m h = sym (ap (λ b. word_to t m (word_if (b && not m.seen.is_raw) word.Over)) h)

  pub closed_by : (row : Option Member) → cond (lives_with n l row) (option_map (member_after (Ends Closed)) row) row ≡ option_map (closes (Some n) l true) row
  closed_by None = refl
  closed_by (Some m) = by (lives_with n l (Some m))
    where
      by : (b : Bool) → cond b (Some (member_after (Ends Closed) m)) (Some m) ≡ Some (cond b (member_after (Ends Closed) m) m)
      by true = refl
      by false = refl

-- what is no frame for a consumer tells none anything
abbrev pub Quiet : Arrival → Type 0
Quiet a = (a ≡ Nothing) ⊎ ((a ≡ Readied) ⊎ ((a ≡ Settles) ⊎ ((a ≡ Passes) ⊎ ((cause : Fault) × (a ≡ Bad cause)))))

module _ (l : ℕ) (a : Arrival) where
  pub quiet_told : Quiet a → (t : ℕ) (m : Member) → heard_at l a t m ≡ []
  quiet_told (inl e) t m = ap (λ x. heard_at l x t m) e
  quiet_told (inr (inl e)) t m = ap (λ x. heard_at l x t m) e
  quiet_told (inr (inr (inl e))) t m = ap (λ x. heard_at l x t m) e
  quiet_told (inr (inr (inr (inl e)))) t m = ap (λ x. heard_at l x t m) e
  quiet_told (inr (inr (inr (inr e)))) t m = ap (λ x. heard_at l x t m) e.1

  pub quiet_same : Quiet a → (m : Member) → hears l a m ≡ m
  quiet_same (inl e) m = ap (λ x. hears l x m) e
  quiet_same (inr (inl e)) m = ap (λ x. hears l x m) e
  quiet_same (inr (inr (inl e))) m = ap (λ x. hears l x m) e
  quiet_same (inr (inr (inr (inl e)))) m = ap (λ x. hears l x m) e
  quiet_same (inr (inr (inr (inr e)))) m = ap (λ x. hears l x m) e.1

-- where no consumer is named, none is closed
module _ (l : ℕ) where
  pub none_named : (is_asked : Bool) (t : ℕ) (m : Member) → word_to t m (word_of_close None l is_asked m) ≡ []
  none_named true t m = refl
  none_named false t m = refl

  pub same_unnamed : (is_asked : Bool) (m : Member) → closes None l is_asked m ≡ m
  same_unnamed true m = refl
  same_unnamed false m = refl

-- WHAT TELLS NOBODY ANYTHING, AND CHANGES NOTHING

pub over_none : {A : Type 0} (f : ℕ → Member → List A) → ((t : ℕ) (m : Member) → f t m ≡ []) → (rows : ℕ → Option Member) (ts : List ℕ) →
    flat_map (at_row f rows) ts ≡ []
over_none f none rows [] = refl
over_none f none rows (t ∷ ts) = ap (λ xs. xs ++ flat_map (at_row f rows) ts) (one (rows t)) ∙ over_none f none rows ts
  where
    one : (row : Option Member) → flat_map (f t) (option_to_list row) ≡ []
    one None = refl
    one (Some m) = ap (λ xs. xs ++ []) (none t m)

pub map_same : (f : Member → Member) → ((m : Member) → f m ≡ m) → (row : Option Member) → option_map f row ≡ row
map_same f same None = refl
map_same f same (Some m) = ap Some (same m)

pub all_same : (f : Member → Member) → ((m : Member) → f m ≡ m) → (cs : Consumers) → cs ≡ all_changed f cs
all_same f same cs i = record {
  rows = λ t. sym (map_same f same (cs.rows t)) i;
  tickets = cs.tickets;
  held = cs.held;
  named = cs.named;
  next = cs.next;
  next_key = cs.next_key;
}

-- what is seen of consumers, part by part
pub consumers_are : (a b : Consumers) → ((t : ℕ) → a.rows t ≡ b.rows t) → a.tickets ≡ b.tickets → a.held ≡ b.held → a.named ≡ b.named → a.next ≡ b.next →
    a.next_key ≡ b.next_key → a ≡ b
consumers_are a b rows tickets held named next key i =
    record { rows = λ t. rows t i; tickets = tickets i; held = held i; named = named i; next = next i; next_key = key i }

-- ONE HEARS A FRAME, and is told what follows by the number that it keeps

abbrev word_as : (ticket number : ℕ) → Option Word → List Notice
word_as t n w = option_to_list (option_map (λ x. notice (Consumer n t) (outcome.Word x)) w)

pub told_as_before : (l t : ℕ) (r : Reply) (rows : ℕ → Option Member) (old new : Member) (w : Option Word) → Some old ≡ rows t →
    w ≡ word_of_frame l r old → new ≡ hears_frame l r old → word_to t new w ≡ at_row (λ t m. word_to t m (word_of_frame l r m)) rows t
told_as_before l t r rows old new w found is becomes =
    ap (λ n. word_as t n w) (ap (λ m. m.seen.number) becomes ∙ frame_number l r old)
    ∙ ap (word_to t old) is
    ∙ sym (append-nil (word_to t old (word_of_frame l r old)))
    ∙ ap (λ row. flat_map (λ m. word_to t m (word_of_frame l r m)) (option_to_list row)) found
