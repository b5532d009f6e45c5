-- A consumer is what was done to it since it was made.
use Rattle.std.proofs.Common.{◌≡◌, ◌≤◌, ℕ, ◌+◌, ◌∙◌, sym, ap, subst, List, [], ◌∷◌, ◌++◌, refl, arith, Bool, true, false, ◌&&◌, cond, Option, Some, None, inl, inr, ◌==◌}
use Rattle.std.proofs.lemmas.Bool.{and_parts, cases_Bool}
use Rattle.pulsar_laws.proofs.ActWords.{Act, Answers, Arrival, Call, Consumer, Does, Heard, is_same, Makes, OfConsumer, Producer, Revive, Verdict, Who}
use Rattle.pulsar_laws.proofs.RunWords.{Begins, begun, begun_live, consumers_after, counted, Each, EndsOnce, Entry, is_live, IsRun, member_on, Options, setup_of, Then, view, View}
use Rattle.pulsar_laws.proofs.LinkWords.{Fault, is_body, Reply, url_at}
use Rattle.url.specs.Parts.{Parts}
use Rattle.pulsar_messages.specs.Claims.{is_spent}
use Rattle.pulsar_consumer.specs.Frames.{frame_in}
use Rattle.pulsar_consumer.specs.Topic.{Act as Done, Hears, Loses, Ends as Over, Seen, Setup, after, fresh, lives_on, of_raw, seen}
use Rattle.pulsar_incoming.specs.declared.polled.Ending.TheVariants.{Closed, TopicEnded}
use Rattle.pulsar_calls.specs.declared.act.Arrival.TheVariants as arrivals
use Rattle.pulsar_calls.specs.declared.act.Makes.TheVariants as makes
use Rattle.pulsar_consumer_table.specs.Consumers as consumer
use Rattle.pulsar_consumer_table.specs.Consumers.{Arrives, ClientStops, CloseAsked, Deed, FlowTaken, IsPolled, IsSought, LinkEnds, Member, NotRevived, Revived, hears, hears_frame, loses_by, member_after, member_by, subscribed_on, waits_so}
use Rattle.pulsar_consumer_table.specs.declared.row.LinkAnswer.{LinkAnswer}
use Rattle.pulsar_consumer_table.specs.declared.row.LinkAnswer.TheVariants.{Found, Gone, Later}
use Rattle.pulsar_acts.specs.View.{member_acts, member_born, member_made, member_of}
use Rattle.pulsar_run.specs.Things.{along, row_after as row_of, row_by}
use Rattle.pulsar_run.proofs.Things.{row_stays}
use Rattle.pulsar_laws.proofs.Cases.{none_some, some_is}
use Rattle.pulsar_laws.proofs.calls.Ticketed.{consumer_ticket}
use Rattle.pulsar_laws.specs.ConsumerLaws.{ConsumersAlone, arrival_does, does_to, done_since, done_to, frame_does, loss_does, made_as, made_with, making_does, subscription_does}
use Rattle.pulsar_laws.specs.Laws.{end_of}
use Rattle.pulsar_laws.proofs.consumers.Deeds.{deed_does, deeds_do, same_does}
use Rattle.pulsar_laws.proofs.consumers.Members.{CameFrom, came_from, row_made}

-- WHAT ACTS MAKE OF WHAT IS SEEN

abbrev pub applied : List Done → Seen → Seen
applied [] s = s
applied (act ∷ acts) s = after act (applied acts s)

pub seen_more : (s : Setup) (xs h : List Done) → seen s (xs ++ h) ≡ applied xs (seen s h)
seen_more s [] h = refl
seen_more s (x ∷ xs) h = ap (after x) (seen_more s xs h)

-- either of two
abbrev IsDone : Member → List Done → Seen → Type 0
IsDone m xs s = m.seen ≡ applied xs s

either_done : (b : Bool) (m n : Member) (xs ys : List Done) (s : Seen) → IsDone m xs s → IsDone n ys s → IsDone (cond b m n) (cond b xs ys) s
either_done true m n xs ys s p q = p
either_done false m n xs ys s p q = q

frame_done : (l : ℕ) (r : Reply) (m : Member) → IsDone (hears_frame l r m) (frame_does l r m.seen) m.seen
frame_done l r m =
    let s : Seen = m.seen in
    either_done (is_body 9 r.content.body) (member_after (Hears l (frame_in r)) m) _ (Hears l (frame_in r) ∷ []) _ s refl
    (either_done (is_body 27 r.content.body) _ _ _ _ s
    (either_done (lives_on l s) (member_after (Over TopicEnded) m) m (Over TopicEnded ∷ []) [] s refl refl)
    (either_done (is_body 16 r.content.body) (member_after (Loses l) m) m (Loses l ∷ []) [] s refl refl))

pub arrival_done : (l : ℕ) (a : Arrival) (m : Member) → IsDone (hears l a m) (arrival_does l a m.seen) m.seen
arrival_done l (arrivals.Gives n r) m = either_done (m.seen.number == n) (hears_frame l r m) m (frame_does l r m.seen) [] m.seen (frame_done l r m) refl
arrival_done l arrivals.Nothing m = refl
arrival_done l arrivals.Readied m = refl
arrival_done l arrivals.Settles m = refl
arrival_done l arrivals.Passes m = refl
arrival_done l (arrivals.Bad cause) m = refl

loss_done : (l : ℕ) (cause : Option Fault) (m : Member) → IsDone (loses_by l cause m) (loss_does l cause) m.seen
loss_done l None m = refl
loss_done l (Some cause) m = refl

pub subscription_done : (l : ℕ) (url : Option Parts) (m : Member) → IsDone (subscribed_on l url m) (subscription_does l url) m.seen
subscription_done l None m = refl
subscription_done l (Some url) m = refl

waits_done : (x : LinkAnswer) (w : Who) (m : Member) → (waits_so x w m).seen ≡ m.seen
waits_done (Found l) w m = refl
waits_done Gone w m = refl
waits_done Later w m = refl

pub applied_append : (xs ys : List Done) (s : Seen) → applied (xs ++ ys) s ≡ applied xs (applied ys s)
applied_append [] ys s = refl
applied_append (x ∷ xs) ys s = ap (after x) (applied_append xs ys s)

deed_did : (d : Deed) (m : Member) → IsDone (member_by d m) (deed_does d m) m.seen
deed_did (Arrives l a) m = arrival_done l a m
deed_did (LinkEnds l cause) m = loss_done l cause m
deed_did (CloseAsked closed l b) m =
    either_done (b && consumer.is_closed_by closed l m) (member_after (Over Closed) m) m (Over Closed ∷ []) [] m.seen refl refl
deed_did (IsPolled clock) m = refl
deed_did (IsSought who) m = waits_done (consumer.sought (Some m)) who m
deed_did FlowTaken m = refl
deed_did (Revived l url) m = subscription_done l url m
deed_did (NotRevived f) m = refl
deed_did ClientStops m = refl

pub deeds_did : (ds : List Deed) (m : Member) → IsDone (along member_by ds m) (deeds_do ds m) m.seen
deeds_did [] m = refl
deeds_did (d ∷ ds) m =
    let n : Member = along member_by ds m in
    deed_did d n ∙ ap (applied (deed_does d n)) (deeds_did ds m) ∙ sym (applied_append (deed_does d n) (deeds_do ds m) m.seen)

-- so what is so of what each deed of an act does is so of all that the act does
pub did_so : (Q : List Done → Seen → Type 0) → ((s : Seen) → Q [] s) →
    ((xs ys : List Done) (s : Seen) → Q ys s → Q xs (applied ys s) → Q (xs ++ ys) s) → (v : View) (t : ℕ) (a : Act) →
    ((d : Deed) → CameFrom v t a d → (m : Member) → Q (deed_does d m) m.seen) → (m : Member) → Q (does_to v t m a) m.seen
did_so Q none more v t a one m = subst (λ xs. Q xs m.seen) (sym (same_does v t m a)) (all (member_acts v t a) (came_from v t a))
  where
    all : (ds : List Deed) → Each (CameFrom v t a) ds → Q (deeds_do ds m) m.seen
    all [] c = none m.seen
    all (d ∷ ds) c =
        let n : Member = along member_by ds m in
        more (deed_does d n) (deeds_do ds m) m.seen (all ds c.1) (subst (Q (deed_does d n)) (deeds_did ds m) (one d c.0 n))

-- an act by which one is subscribed again
abbrev pub is_revival : Act → Bool
is_revival (Does who (OfConsumer (Revive l))) = true
is_revival _ = false

-- WHAT BECOMES OF A ROW

abbrev IsOther : (ticket : ℕ) → Act → Type 0
IsOther t a = (who : Who) (verdict : Verdict) → a ≡ Answers who verdict → is_same (Call t) who ≡ false

apart_call : (t u : ℕ) → is_same (Call t) (Call u) ≡ false → (t == u) ≡ false
apart_call t u h = elim (cases_Bool (t == u)) [ inl e ↦ (let f : true ≡ false = sym (ap (λ b. b && b) e) ∙ h in absurd cc) | inr e ↦ e ]

-- an act by which no call of this ticket ends makes none
born_none : (v : View) (t : ℕ) (a : Act) → IsOther t a → member_born v t a ≡ None
born_none v t (Answers who verdict) other = by (member_made v.links.live v.consumers.next_key verdict.makes) who (other who verdict refl)
  where
    by : (m : Option Member) (who : Who) → is_same (Call t) who ≡ false → member_of m who t ≡ None
    by None who h = refl
    by (Some m) (Call u) h = ap (λ b. cond b (Some m) None) (apart_call t u h)
    by (Some m) (Consumer n u) h = refl
    by (Some m) (Producer n) h = refl
born_none v t a other = refl

by_acts : (v : View) (t : ℕ) (a : Act) (row : Option Member) → IsOther t a → v.consumers.rows t ≡ row →
    (consumers_after v a).rows t ≡ row_by member_by (member_acts v t a) row
by_acts v t a row other h =
    ap (λ b. row_of member_by b false (member_acts v t a) (v.consumers.rows t)) (born_none v t a other) ∙ ap (row_by member_by (member_acts v t a)) h

pub record RowAfter (v : View) (a : Act) (t : ℕ) (m : Member) : Type 0 where
  pub row : Member
  pub is_it : (consumers_after v a).rows t ≡ Some row
  pub seen : row.seen ≡ applied (does_to v t m a) m.seen

pub row_after : (v : View) (t : ℕ) (m : Member) → v.consumers.rows t ≡ Some m → (a : Act) → IsOther t a → RowAfter v a t m
row_after v t m h a other =
    record {
      row = along member_by (member_acts v t a) m;
      is_it = by_acts v t a (Some m) other h ∙ row_stays member_by (member_acts v t a) m;
      seen = deeds_did (member_acts v t a) m ∙ ap (λ xs. applied xs m.seen) (sym (same_does v t m a));
    }

-- NO CONSUMER OF A CALL THAT HAS NOT ENDED

pub begun_rows : (e : Heard) (v : View) (t : ℕ) → (begun e v).consumers.rows t ≡ v.consumers.rows t
begun_rows e v t = elim (is_live v e) as (λ b. (cond b (begun_live e v) v).consumers.rows t ≡ v.consumers.rows t) [ true ↦ refl | false ↦ refl ]

none_stays : (es : List Deed) → row_by member_by es None ≡ None
none_stays [] = refl
none_stays (e ∷ es) = refl

pub none_after : (v : View) (t : ℕ) (a : Act) → IsOther t a → v.consumers.rows t ≡ None → (consumers_after v a).rows t ≡ None
none_after v t a other h = by_acts v t a None other h ∙ none_stays (member_acts v t a)

none_left : (n m : ℕ) → n + m ≡ 0 → n ≡ 0
none_left n m h = omega (arith, h)

no_end : (t : ℕ) (who : Who) (n : ℕ) → n + cond (is_same (Call t) who) 1 0 ≡ 0 → is_same (Call t) who ≡ false
no_end t who n h = elim (cases_Bool (is_same (Call t) who)) [
  | inl e ↦ (let k : n + 1 ≡ 0 = subst (λ b. n + cond b 1 0 ≡ 0) e h in absurd (omega (arith, k)))
  | inr e ↦ e
]

unmade : (o : Options) (t : ℕ) (log : List Entry) → counted (end_of t) log ≡ 0 → (view o log).consumers.rows t ≡ None
unmade o t [] h = refl
unmade o t (Begins e ∷ log) h = begun_rows e (view o log) t ∙ unmade o t log h
unmade o t (Then (Answers who verdict) ∷ log) h =
    none_after (view o log) t (Answers who verdict) is_other (unmade o t log (none_left (counted (end_of t) log) (cond (is_same (Call t) who) 1 0) h))
  where
    is_other : (w : Who) (x : Verdict) → Answers who verdict ≡ Answers w x → is_same (Call t) w ≡ false
    is_other w x e = let s : who ≡ w = cc in subst (λ y. is_same (Call t) y ≡ false) s (no_end t who (counted (end_of t) log) h)
unmade o t (Then a ∷ log) h =
    none_after (view o log) t a (λ w x e. absurd cc) (unmade o t log (none_left (counted (end_of t) log) 0 h))

-- so where a call ends it has none: it ends once
pub none_before : EndsOnce → (o : Options) (t : ℕ) (log : List Entry) (who : Who) (verdict : Verdict) → is_spent t ≡ false →
    IsRun o (Then (Answers who verdict) ∷ log) → is_same (Call t) who ≡ true → (view o log).consumers.rows t ≡ None
none_before once o t log who verdict unspent run e =
    let k : counted (end_of t) log + cond (is_same (Call t) who) 1 0 ≤ 1 = (once o (Then (Answers who verdict) ∷ log) t run).1 unspent in
    let j : counted (end_of t) log + 1 ≤ 1 = subst (λ b. counted (end_of t) log + cond b 1 0 ≤ 1) e k in
    unmade o t log (omega (arith, j))

-- ALONG A LOG

-- how the row of a ticket comes of the one before: it was made, or is what an act made of it, or there is none
pub data RowFrom (o : Options) (log : List Entry) (a : Act) (t : ℕ) : Type 0 where
  IsNone : (view o log).consumers.rows t ≡ None → (view o (Then a ∷ log)).consumers.rows t ≡ None → RowFrom o log a t
  IsMade : (s : Setup) (l : ℕ) → (view o log).consumers.rows t ≡ None →
      (view o (Then a ∷ log)).consumers.rows t ≡ Some (member_on (view o log).links.live l s) → made_with o t (Then a ∷ log) ≡ Some s →
      done_to o t (Then a ∷ log) ≡ subscription_does l (url_at ((view o log).links.live l)) → RowFrom o log a t
  IsKept : (m : Member) → (view o log).consumers.rows t ≡ Some m → RowAfter (view o log) a t m → made_with o t (Then a ∷ log) ≡ made_with o t log →
      done_to o t (Then a ∷ log) ≡ does_to (view o log) t m a ++ done_to o t log → RowFrom o log a t

pub joins_here : (who : Who) (m : Member) (row : Option Member) (t : ℕ) → is_same (Call t) who ≡ true → row_made (Some m) who t row ≡ Some m
joins_here (Call u) m row t h = let e : (t == u) ≡ true = (and_parts (t == u) (t == u) h).0 in rw e refl
joins_here (Consumer n u) m row t h = absurd cc
joins_here (Producer n) m row t h = absurd cc

module _ (o : Options) (log : List Entry) (t : ℕ) where
  abbrev v : View
  v = view o log

  -- what a verdict makes
  made_row : (who : Who) (verdict : Verdict) (m : Makes) → verdict.makes ≡ m → v.consumers.rows t ≡ None → is_same (Call t) who ≡ true →
      RowFrom o log (Answers who verdict) t
  made_row who verdict m f none e = made_by m f
    where
      rows_are : (m : Makes) → verdict.makes ≡ m →
          (view o (Then (Answers who verdict) ∷ log)).consumers.rows t ≡ row_made (member_made v.links.live v.consumers.next_key m) who t (v.consumers.rows t)
      rows_are m f = ap (λ x. row_made (member_made v.links.live v.consumers.next_key x) who t (v.consumers.rows t)) f

      did : (m : Makes) → verdict.makes ≡ m → done_to o t (Then (Answers who verdict) ∷ log) ≡ making_does v.links.live m
      did m f =
          ap (λ r. done_since v t (Answers who verdict) r (done_to o t log)) none
          ∙ ap (λ b. cond b (making_does v.links.live verdict.makes) (done_to o t log)) e
          ∙ ap (making_does v.links.live) f

      how : (m : Makes) → verdict.makes ≡ m → made_with o t (Then (Answers who verdict) ∷ log) ≡ made_as v.consumers.next_key m
      how m f = ap (λ b. cond b (made_as v.consumers.next_key verdict.makes) (made_with o t log)) e ∙ ap (made_as v.consumers.next_key) f

      made_by : (m : Makes) → verdict.makes ≡ m → RowFrom o log (Answers who verdict) t
      made_by (makes.Consumer j) f =
          IsMade (setup_of v.consumers.next_key j) j.link none
          (rows_are (makes.Consumer j) f ∙ joins_here who (member_on v.links.live j.link (setup_of v.consumers.next_key j)) (v.consumers.rows t) t e)
          (how (makes.Consumer j) f) (did (makes.Consumer j) f)
      made_by (makes.RawConsumer l made) f =
          IsMade (of_raw made) l none
          (rows_are (makes.RawConsumer l made) f ∙ joins_here who (member_on v.links.live l (of_raw made)) (v.consumers.rows t) t e)
          (how (makes.RawConsumer l made) f) (did (makes.RawConsumer l made) f)
      made_by makes.Nothing f = IsNone none (rows_are makes.Nothing f ∙ none)
      made_by makes.Client f = IsNone none (rows_are makes.Client f ∙ none)
      made_by (makes.Producer b) f = IsNone none (rows_are (makes.Producer b) f ∙ none)

  with_other : (a : Act) → IsOther t a → made_with o t (Then a ∷ log) ≡ made_with o t log
  with_other (Answers who verdict) other = ap (λ b. cond b (made_as v.consumers.next_key verdict.makes) (made_with o t log)) (other who verdict refl)
  with_other a other = refl

  other_row : (a : Act) → IsOther t a → (row : Option Member) → v.consumers.rows t ≡ row → RowFrom o log a t
  other_row a other None e = IsNone e (none_after v t a other e)
  other_row a other (Some m) e =
      IsKept m e (row_after v t m e a other) (with_other a other) (ap (λ r. done_since v t a r (done_to o t log)) e ∙ some_since a)
    where
      some_since : (a : Act) → done_since v t a (Some m) (done_to o t log) ≡ does_to v t m a ++ done_to o t log
      some_since (Answers who verdict) = refl
      some_since a = refl

  pub row_from : EndsOnce → (a : Act) → is_spent t ≡ false → IsRun o (Then a ∷ log) → RowFrom o log a t
  row_from once (Answers who verdict) un run = elim (cases_Bool (is_same (Call t) who)) [
    | inl e ↦ made_row who verdict verdict.makes refl (none_before once o t log who verdict un run e) e
    | inr e ↦
        other_row (Answers who verdict) (λ w x f. let s : who ≡ w = cc in subst (λ y. is_same (Call t) y ≡ false) s e) (v.consumers.rows t) refl
  ]
  row_from once a un run = other_row a (λ w x f. absurd cc) (v.consumers.rows t) refl

-- no dead letters are asked for, and no message is asked for again
pub made_plain : (o : Options) (t : ℕ) (log : List Entry) (s : Setup) → made_with o t log ≡ Some s → s.config.dead_letter_policy ≡ None
made_plain o t [] s how = absurd (none_some how)
made_plain o t (Begins e ∷ log) s how = made_plain o t log s how
made_plain o t (Then (Answers who verdict) ∷ log) s how = by (is_same (Call t) who) (made_plain o t log s) how
  where
    made : (key : ℕ) (m : Makes) → made_as key m ≡ Some s → s.config.dead_letter_policy ≡ None
    made key makes.Nothing e = absurd (none_some e)
    made key makes.Client e = absurd (none_some e)
    made key (makes.Consumer j) e = sym (ap (λ (x : Setup). x.config.dead_letter_policy) (some_is e))
    made key (makes.RawConsumer l m) e = sym (ap (λ (x : Setup). x.config.dead_letter_policy) (some_is e))
    made key (makes.Producer b) e = absurd (none_some e)

    by : (b : Bool) → (made_with o t log ≡ Some s → s.config.dead_letter_policy ≡ None) →
        cond b (made_as (view o log).consumers.next_key verdict.makes) (made_with o t log) ≡ Some s → s.config.dead_letter_policy ≡ None
    by true before e = made (view o log).consumers.next_key verdict.makes e
    by false before e = before e
made_plain o t (Then a ∷ log) s how = made_plain o t log s how

-- A CONSUMER IS WHAT WAS DONE TO IT

abbrev pub StandsSo : Options → List Entry → (ticket : ℕ) → Member → Type 0
StandsSo o log t m = (s : Setup) × (made_with o t log ≡ Some s) × (m.seen ≡ seen s (done_to o t log))

kept_so : (o : Options) (log : List Entry) (a : Act) (t : ℕ) (n : Member) → RowFrom o log a t → (view o (Then a ∷ log)).consumers.rows t ≡ Some n →
    ((u : Member) → (view o log).consumers.rows t ≡ Some u → StandsSo o log t u) → StandsSo o (Then a ∷ log) t n
kept_so o log a t n (IsNone e f) h more = absurd (none_some (sym f ∙ h))
kept_so o log a t n (IsMade s l e f how did) h more =
    let url : Option Parts = url_at ((view o log).links.live l) in
    let same : member_on (view o log).links.live l s ≡ n = (let g : Some (member_on (view o log).links.live l s) ≡ Some n = sym f ∙ h in cc) in (
      s,
      how,
      sym (ap (λ x. x.seen) same)
          ∙ subscription_done l url (record { seen = fresh s; seekers = [] })
          ∙ sym (seen_first s (subscription_does l url))
          ∙ ap (seen s) (sym did),
    )
  where
    seen_first : (s : Setup) (xs : List Done) → seen s xs ≡ applied xs (fresh s)
    seen_first s [] = refl
    seen_first s (x ∷ xs) = ap (after x) (seen_first s xs)
kept_so o log a t n (IsKept u e r how did) h more =
    let k = more u e in
    let same : r.row ≡ n = (let g : Some r.row ≡ Some n = sym r.is_it ∙ h in cc) in (
      k.0,
      how ∙ k.1,
      sym (ap (λ x. x.seen) same)
          ∙ r.seen
          ∙ ap (applied (does_to (view o log) t u a)) k.2
          ∙ sym (seen_more k.0 (does_to (view o log) t u a) (done_to o t log))
          ∙ ap (seen k.0) (sym did),
    )

stands : EndsOnce → (o : Options) (log : List Entry) (t : ℕ) (m : Member) → is_spent t ≡ false → IsRun o log → (view o log).consumers.rows t ≡ Some m →
    StandsSo o log t m
stands once o [] t m un run h = absurd (none_some h)
stands once o (Begins e ∷ log) t m un run h = stands once o log t m un run.0 (sym (begun_rows e (view o log) t) ∙ h)
stands once o (Then a ∷ log) t m un run h =
    kept_so o log a t m (row_from o log t once a un run) h (λ u e. stands once o log t u un run.0 e)

pub consumers_alone_lem : EndsOnce → ConsumersAlone
consumers_alone_lem once o log t m run h = stands once o log t m (consumer_ticket o log t m run h) run h
