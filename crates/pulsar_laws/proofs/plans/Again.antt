-- A search, and a command, are made again so long as the options allow another retry: what a machine counts is how often it rested.
use Rattle.std.proofs.Common.{◌≡◌, inl, inr, ◌∙◌, sym, ap, subst, ℕ, ◌+◌, ◌-◌, ◌^◌, ◌<◌, ◌≤◌, min, arith, List, [], ◌∷◌, refl, ◌&&◌, ◌||◌, Bool, true, false, cond, Option, Some, None, Result, Ok, Err}
use Rattle.std.specs.Prelude.{pos}
use Rattle.std.proofs.lemmas.Bool.{and_parts, cases_Bool}
use Rattle.std.proofs.lemmas.Bool.Decides.{nat_tests}
use Rattle.pulsar_laws.proofs.ActWords.{Outcome, Procedure, Rest}
use Rattle.pulsar_laws.proofs.PlanWords.{begins, Command, Denies, Heard as News, Later, Looking, Making, news_in, Says, SearchTransition, Served, Ways, Wish}
use Rattle.pulsar_laws.proofs.RunWords.{started}
use Rattle.pulsar_laws.proofs.LinkWords.{Failure, Fault, OfConnection, Place}
use Rattle.pulsar_frame.specs.Reply.{Reply as Content, is_body}
use Rattle.pulsar_addresses.specs.Backoff.{allow_retry, one_more}
use Rattle.pulsar_searches.specs.Plans as search
use Rattle.pulsar_searches.specs.Plans.{count_begins, count_told, is_retryable, look_begins, look_told, made_gets, made_told}
use Rattle.pulsar_searches.specs.Replies.{count_in, counted_of, fails_by, is_choice, is_set, place_at, place_heard, pointed_at, query}
use Rattle.pulsar_searches.specs.declared.count.Counting.{Counting}
use Rattle.pulsar_searches.specs.declared.count.Counting.TheVariants as count
use Rattle.pulsar_searches.specs.declared.look.Looking.TheVariants as look
use Rattle.pulsar_searches.specs.declared.look.Search.{Search as Question}
use Rattle.pulsar_searches.specs.declared.making.Making.TheVariants as make
use Rattle.pulsar_searches.specs.declared.plan.Answer.{Answer}
use Rattle.pulsar_searches.specs.declared.plan.Answer.TheVariants as answer
use Rattle.pulsar_searches.specs.declared.plan.SearchPlan.{SearchPlan as Search}
use Rattle.pulsar_searches.specs.declared.plan.SearchPlan.TheVariants as searching
use Rattle.pulsar_searches.specs.declared.plan.Sought.TheVariants as sought
use Rattle.pulsar_searches.specs.declared.replies.Heard.{Heard}
use Rattle.pulsar_searches.specs.declared.replies.Pointed.{Pointed}
use Rattle.pulsar_searches.specs.declared.replies.Pointed.TheVariants.{Redirects, Serves}
use Rattle.pulsar_searches.specs.declared.retry.Retrying.{Retrying}
use Rattle.pulsar_searches.specs.declared.retry.Retrying.TheVariants as retry
use Rattle.pulsar_searches.specs.declared.turn.Action.TheVariants.{Ask, Get, Wait}
use Rattle.pulsar_searches.specs.declared.turn.SearchOutcome.TheVariants as news
use Rattle.pulsar_calls.specs.declared.act.Outcome.TheVariants as outcome
use Rattle.pulsar_calls.specs.declared.act.Procedure.TheVariants as procedure
use Rattle.pulsar_plans.specs.Plan.{goes}
use Rattle.pulsar_plans.specs.declared.plan.Plan.TheVariants.{Searching}
use Rattle.pulsar_laws.proofs.Cases.{cond_so, cond_when}
use Rattle.pulsar_laws.proofs.plans.Follow.{plans_follow_lem}
use Rattle.pulsar_laws.proofs.plans.Waiting.{ways_are_chosen_lem}
use Rattle.pulsar_laws.specs.Laws.{Deed, course, deeds, outcomes, ways_in}
use Rattle.pulsar_laws.specs.RetryLaws.{AgainOrNot, CountsAgain, HasRetried, IsAllowed, IsNotReady, LooksAgain, MakesAgain, MayRetry, QuestionsAreBounded, is_wait, one_if, rests_along, rests_making, to_32, turn_along, waits_in}
use Rattle.pulsar_searches.specs.declared.transition.Transition.TheVariants.{Stays, Gives}

-- ALONG WHAT A MACHINE IS TOLD

-- what its states keep, by how often it rested
abbrev Keeps : {S A : Type 0} → (S → Wish → Bool) → (S → ℕ → Type 0) → ℕ → SearchTransition S A → Type 0
Keeps test I k (Stays s a) = I s (cond (test s a) (k + 1) k)
Keeps test I k (Gives a) = Unit {0}

rests_on : (b : Bool) (k left : ℕ) → k + (one_if b + left) ≡ cond b (k + 1) k + left
rests_on true k left = omega arith
rests_on false k left = omega arith

kept : {S A : Type 0} (test : S → Wish → Bool) (told : S → News → SearchTransition S A) (I : S → ℕ → Type 0) →
    ((s : S) (o : News) (k : ℕ) → I s k → Keeps test I k (told s o)) → (t : SearchTransition S A) (os : List News) (k m : ℕ) → Keeps test I k t →
    m ≡ k + rests_along test told t os → (s : S) (a : Wish) → turn_along told t os ≡ Stays s a → I s m
kept test told I step (Gives x) os k m i e s a h = absurd cc
kept test told I step (Stays r b) [] k m i e s a h =
    let n : ℕ = one_if (test r b) in
    let f : m ≡ k + n = e in
    let g : k + (n + 0) ≡ cond (test r b) (k + 1) k + 0 = rests_on (test r b) k 0 in
    subst (λ x. I x m) (let same : r ≡ s = cc in same) (subst (I r) (let d : cond (test r b) (k + 1) k ≡ m = omega (arith, f, g) in d) i)
kept test told I step (Stays r b) (o ∷ os) k m i e s a h =
    let n : ℕ = cond (test r b) (k + 1) k in
    let left : ℕ = rests_along test told (told r o) os in
    kept test told I step (told r o) os n m (step r o n i) (e ∙ rests_on (test r b) k left) s a h

-- so many retries, counted to the end of 32 bits
abbrev pub IsNow : (n k : ℕ) → Type 0
IsNow n k = n ≡ to_32 k

-- it rests, so often so far, and had counted one less
abbrev pub IsBefore : (n k : ℕ) → Type 0
IsBefore n k = (j : ℕ) × (k ≡ j + 1) × (n ≡ to_32 j)

rested : (n k : ℕ) → IsNow n k → IsBefore n (k + 1)
rested n k h = (k, refl, h)

-- one more than that
more_to : (most n j k : ℕ) → k ≡ j + 1 → n ≡ min j most → min (n + 1) most ≡ min k most
more_to most n j k e h = omega (arith, e, h)

pub now_on : (n k : ℕ) → IsBefore n k → IsNow (one_more n) k
now_on n k (j, e, h) = more_to (2 ^ 32 - 1) n j k e h

-- WHAT THE OPTIONS ALLOW

pub may_retry : (most : Option ℕ) (n k : ℕ) → IsNow n k → allow_retry most n ≡ true → MayRetry most k
may_retry None n k e h = tt
may_retry (Some most) n k e h = let lt : n < most = grind (arith, nat_tests) in subst (λ x. x < most) e lt

has_retried : (most : Option ℕ) (n k : ℕ) → IsNow n k → allow_retry most n ≡ false → HasRetried most k
has_retried None n k e h = absurd cc
has_retried (Some most) n k e h = let le : most ≤ n = grind (arith, nat_tests) in at_most most n k (2 ^ 32 - 1) e le
  where
    at_most : (most n k end : ℕ) → n ≡ min k end → most ≤ n → most ≤ k
    at_most most n k end e le = omega (arith, e, le)

either_so : {S A : Type 0} (w : Ways) (n k : ℕ) (rests : S) (f : Failure) (turn : SearchTransition S (Result A Failure)) → IsNow n k →
    turn ≡ cond (allow_retry w.max_retries n) (Stays rests (Wait w.retry_delay)) (Gives (Err f)) → AgainOrNot w k rests f turn
either_so w n k rests f turn e h = elim (cases_Bool (allow_retry w.max_retries n)) [
  | inl y ↦ inl (may_retry w.max_retries n k e y, h ∙ ap (λ b. cond b (Stays rests (Wait w.retry_delay)) (Gives (Err f))) y)
  | inr y ↦ inr (has_retried w.max_retries n k e y, h ∙ ap (λ b. cond b (Stays rests (Wait w.retry_delay)) (Gives (Err f))) y)
]

none_more : (m : ℕ) → m ≡ 0 + m
none_more m = omega arith

-- a machine waits only where this is allowed, and its states keep how often it did
abbrev WaitsSo : {S A : Type 0} → Ways → (S → ℕ → Type 0) → ℕ → SearchTransition S A → Type 0
WaitsSo w I k (Stays s (Get p)) = I s k
WaitsSo w I k (Stays s (Ask l request)) = I s k
WaitsSo w I k (Stays s (Wait delay)) = MayRetry w.max_retries k × I s (k + 1)
WaitsSo w I k (Gives a) = Unit {0}

keeps_so : {S A : Type 0} (w : Ways) (I : S → ℕ → Type 0) (k : ℕ) (x : SearchTransition S A) → WaitsSo w I k x → Keeps is_wait I k x
keeps_so w I k (Stays s (Get p)) i = i
keeps_so w I k (Stays s (Ask l request)) i = i
keeps_so w I k (Stays s (Wait delay)) i = i.1
keeps_so w I k (Gives a) i = tt

-- THE NUMBER OF PARTITIONS

module _ (w : Ways) (t : List ℕ) where
  abbrev CountSo : Counting → ℕ → Type 0
  CountSo (count.Getting again n) k = IsNow n k
  CountSo (count.Asked again n l) k = IsNow n k
  CountSo (count.Resting n l) k = IsBefore n k

  abbrev CountWaits : ℕ → Heard ℕ → (n l : ℕ) → Type 0
  CountWaits k h n l = WaitsSo w CountSo k (search.count_heard w n l h)

  count_allowed : (n l k : ℕ) → IsNow n k → (r : Content) → CountWaits k (count_in w n r) n l
  unfolding count_in
  count_allowed n l k i r =
      cond_so (λ h. CountWaits k h n l) (is_body 22 r.body) _ _
      (cond_so (λ h. CountWaits k h n l) (fails_by (pos 1) r.response) _ _
      (cond_when (λ h. CountWaits k h n l) (is_choice (pos 6) r.error && allow_retry w.max_retries n) Later (Denies (query r.error r.text))
      (λ h. (may_retry w.max_retries n k i (and_parts (is_choice (pos 6) r.error) (allow_retry w.max_retries n) h).1, rested n k i)) (λ h. tt))
      (counted r.partitions))
      tt
    where
      counted : (x : Option ℕ) → CountWaits k (counted_of r x) n l
      counted None = tt
      counted (Some c) = tt

  count_waits : (c : Counting) (o : News) (k : ℕ) → CountSo c k → WaitsSo w CountSo k (count_told w t c o)
  count_waits (count.Getting again n) (news.GotLink l) k i = i
  count_waits (count.Getting again n) _ k i = tt
  count_waits (count.Asked again n l) (news.Replied r) k i = count_allowed n l k i r
  count_waits (count.Asked again n l) o k i = cond_so (WaitsSo w CountSo k) _ (search.count_gets w false n) (search.fails _) i tt
  count_waits (count.Resting n l) news.Woken k i = now_on n k i
  count_waits (count.Resting n l) _ k i = tt

  count_starts : WaitsSo w CountSo 0 (count_begins w t)
  count_starts = cond_so (WaitsSo w CountSo 0) (search.is_partition t) (Gives (Ok 0)) (search.count_gets w true 0) tt refl

  count_so : (os : List News) (again : Bool) (n l : ℕ) (a : Wish) → turn_along (count_told w t) (count_begins w t) os ≡ Stays (count.Asked again n l) a →
      IsNow n (rests_along is_wait (count_told w t) (count_begins w t) os)
  count_so os again n l a h =
      kept is_wait (count_told w t) CountSo (λ c o k i. keeps_so w CountSo k (count_told w t c o) (count_waits c o k i)) (count_begins w t) os 0 _
      (keeps_so w CountSo 0 (count_begins w t) count_starts) (none_more _) (count.Asked again n l) a h

count_denied : (w : Ways) (n : ℕ) (r : Content) → is_body 22 r.body ≡ true → fails_by (pos 1) r.response ≡ true → is_choice (pos 6) r.error ≡ true →
    count_in w n r ≡ cond (allow_retry w.max_retries n) Later (Denies (query r.error r.text))
unfolding count_in
count_denied w n r b f c = rw (b, f, c) refl

pub counts_either : (w : Ways) (t : List ℕ) (again : Bool) (n l k : ℕ) (r : Content) → IsNow n k → IsNotReady 22 1 r →
    AgainOrNot w k (count.Resting n l) (query r.error r.text) (count_told w t (count.Asked again n l) (news.Replied r))
counts_either w t again n l k r i (b, f, c) =
    either_so w n k (count.Resting n l) (query r.error r.text) (count_told w t (count.Asked again n l) (news.Replied r)) i
    (ap (search.count_heard w n l) (count_denied w n r b f c) ∙ heard (allow_retry w.max_retries n) (query r.error r.text))
  where
    heard : (x : Bool) (g : Failure) →
        search.count_heard w n l (cond x Later (Denies g)) ≡ cond x (Stays (count.Resting n l) (Wait w.retry_delay)) (Gives (Err g))
    heard true g = refl
    heard false g = refl

pub counts_again_lem : CountsAgain
counts_again_lem w t os again n l a r h d = counts_either w t again n l _ r (count_so w t os again n l a h) d

-- THE BROKER OF A TOPIC

module _ (w : Ways) (t : List ℕ) where
  abbrev LookSo : Looking → ℕ → Type 0
  LookSo (look.Getting s) k = IsNow s.retries k
  LookSo (look.Asked s l) k = IsNow s.retries k
  LookSo (look.Resting s l) k = IsBefore s.retries k
  LookSo (look.Reaching place) k = Unit {0}

  abbrev LookWaits : ℕ → Heard Pointed → Question → (link : ℕ) → Type 0
  LookWaits k h s l = WaitsSo w LookSo k (search.look_heard w s l h)

  look_allowed : (s : Question) (l k : ℕ) → IsNow s.retries k → (r : Content) → LookWaits k (place_heard w s.last.proxy s.retries r) s l
  unfolding place_heard
  look_allowed s l k i r =
      cond_so (λ h. LookWaits k h s l) (is_body 24 r.body) _ _
      (cond_so (λ h. LookWaits k h s l) (fails_by (pos 2) r.response) _ _
      (cond_when (λ h. LookWaits k h s l) (is_choice (pos 6) r.error && allow_retry w.max_retries s.retries) Later (Denies (query r.error r.text))
      (λ h. (may_retry w.max_retries s.retries k i (and_parts (is_choice (pos 6) r.error) (allow_retry w.max_retries s.retries) h).1, rested s.retries k i))
      (λ h. tt))
      (pointed (place_at w.base (s.last.proxy || is_set r.proxy) r.url)))
      tt
    where
      pointed : (x : Option Place) → LookWaits k (pointed_at r.response r.authority x) s l
      pointed None = tt
      pointed (Some place) =
          cond_so (λ h. LookWaits k h s l) (is_choice (pos 0) r.response) (Says (Redirects place (is_set r.authority))) (Says (Serves place)) i tt

  look_waits : (x : Looking) (o : News) (k : ℕ) → LookSo x k → WaitsSo w LookSo k (look_told w t x o)
  look_waits (look.Getting s) (news.GotLink l) k i = i
  look_waits (look.Getting s) _ k i = tt
  look_waits (look.Asked s l) (news.Replied r) k i = look_allowed s l k i r
  look_waits (look.Asked s l) o k i = cond_so (WaitsSo w LookSo k) _ (search.look_gets (record s { again = false })) (search.fails _) i tt
  look_waits (look.Resting s l) news.Woken k i = now_on s.retries k i
  look_waits (look.Resting s l) _ k i = tt
  look_waits (look.Reaching place) (news.GotLink l) k i = tt
  look_waits (look.Reaching place) _ k i = tt

  look_so : (os : List News) (s : Question) (l : ℕ) (a : Wish) → turn_along (look_told w t) (look_begins w) os ≡ Stays (look.Asked s l) a →
      IsNow s.retries (rests_along is_wait (look_told w t) (look_begins w) os)
  look_so os s l a h =
      kept is_wait (look_told w t) LookSo (λ x o k i. keeps_so w LookSo k (look_told w t x o) (look_waits x o k i)) (look_begins w) os 0 _ refl (none_more _)
      (look.Asked s l) a h

look_denied : (w : Ways) (proxy : Bool) (n : ℕ) (r : Content) → is_body 24 r.body ≡ true → fails_by (pos 2) r.response ≡ true →
    is_choice (pos 6) r.error ≡ true →
    place_heard w proxy n r ≡ cond (allow_retry w.max_retries n) Later (Denies (query r.error r.text))
unfolding place_heard
look_denied w proxy n r b f c = rw (b, f, c) refl

pub looks_either : (w : Ways) (t : List ℕ) (s : Question) (l k : ℕ) (r : Content) → IsNow s.retries k → IsNotReady 24 2 r →
    AgainOrNot w k (look.Resting s l) (query r.error r.text) (look_told w t (look.Asked s l) (news.Replied r))
looks_either w t s l k r i (b, f, c) =
    either_so w s.retries k (look.Resting s l) (query r.error r.text) (look_told w t (look.Asked s l) (news.Replied r)) i
    (ap (search.look_heard w s l) (look_denied w s.last.proxy s.retries r b f c) ∙ heard (allow_retry w.max_retries s.retries) (query r.error r.text))
  where
    heard : (x : Bool) (g : Failure) →
        search.look_heard w s l (cond x Later (Denies g)) ≡ cond x (Stays (look.Resting s l) (Wait w.retry_delay)) (Gives (Err g))
    heard true g = refl
    heard false g = refl

pub looks_again_lem : LooksAgain
looks_again_lem w t os s l a r h d = looks_either w t s l _ r (look_so w t os s l a h) d

-- A COMMAND

-- a plan within it goes on, or it begins anew
abbrev pub retried : Ways → ℕ → SearchTransition Retrying (Result Place Failure) → SearchTransition Making (Result Served Failure)
retried w n x = search.and_then x (λ r. make.Retrying r n) (made_gets (one_more n))

module _ (w : Ways) (c : Command) where
  abbrev MakeSo : Making → ℕ → Type 0
  MakeSo (make.Getting n) k = IsNow n k
  MakeSo (make.Asked n l) k = IsNow n k
  MakeSo (make.Retrying r n) k = IsBefore n k

  abbrev MakeKeeps : ℕ → SearchTransition Making (Result Served Failure) → Type 0
  MakeKeeps k x = Keeps rests_making MakeSo k x

  begun_again : (n k : ℕ) (f : Failure) (b : Bool) → IsNow n k →
      MakeKeeps k (retried w n (cond b (Stays retry.Resting (Wait w.retry_delay)) (search.fails f)))
  begun_again n k f true i = rested n k i
  begun_again n k f false i = tt

  answers : (n l k : ℕ) (x : Result Content Fault) → IsNow n k → MakeKeeps k (search.made_answered w n l x)
  answers n l k (Ok r) i = tt
  answers n l k (Err f) i = begun_again n k (OfConnection f) (is_retryable f && allow_retry w.max_retries n) i

  looked : (n k : ℕ) (x : SearchTransition Looking (Result Place Failure)) → IsBefore n k → MakeKeeps k (retried w n (search.nested x retry.Looking Gives))
  looked n k (Stays s a) i = i
  looked n k (Gives (Ok place)) i = now_on n k i
  looked n k (Gives (Err f)) i = tt

  make_step : (m : Making) (o : News) (k : ℕ) → MakeSo m k → MakeKeeps k (made_told w c m o)
  make_step (make.Getting n) (news.GotLink l) k i = i
  make_step (make.Getting n) _ k i = tt
  make_step (make.Asked n l) o k i = answers n l k (search.verdict c.answer o) i
  make_step (make.Retrying retry.Resting n) news.Woken k i = i
  make_step (make.Retrying retry.Resting n) _ k i = tt
  make_step (make.Retrying (retry.Looking l) n) o k i = looked n k (look_told w c.topic l o) i

  make_so : (place : Place) (os : List News) (n l : ℕ) (a : Wish) → turn_along (made_told w c) (made_gets 0 place) os ≡ Stays (make.Asked n l) a →
      IsNow n (rests_along rests_making (made_told w c) (made_gets 0 place) os)
  make_so place os n l a h =
      kept rests_making (made_told w c) MakeSo make_step (made_gets 0 place) os 0 _ refl (none_more _) (make.Asked n l) a h

abbrev again_so : Ways → ℕ → Fault → Bool → SearchTransition Making (Result Served Failure)
again_so w n f b = retried w n (cond b (Stays retry.Resting (Wait w.retry_delay)) (search.fails (OfConnection f)))

module _ (w : Ways) (c : Command) (n l : ℕ) (o : News) (f : Fault) (v : search.verdict c.answer o ≡ Err f) where
  failed : made_told w c (make.Asked n l) o ≡ again_so w n f (is_retryable f && allow_retry w.max_retries n)
  failed = ap (search.made_answered w n l) v

  pub makes_either : (k : ℕ) → IsNow n k → is_retryable f ≡ true →
      AgainOrNot w k (make.Retrying retry.Resting n) (OfConnection f) (made_told w c (make.Asked n l) o)
  makes_either k i r =
      either_so w n k (make.Retrying retry.Resting n) (OfConnection f) (made_told w c (make.Asked n l) o) i
      (failed ∙ ap (λ b. again_so w n f (b && allow_retry w.max_retries n)) r ∙ begun (allow_retry w.max_retries n))
    where
      begun : (x : Bool) → again_so w n f x ≡ cond x (Stays (make.Retrying retry.Resting n) (Wait w.retry_delay)) (Gives (Err (OfConnection f)))
      begun true = refl
      begun false = refl

  pub makes_no_more : is_retryable f ≡ false → made_told w c (make.Asked n l) o ≡ Gives (Err (OfConnection f))
  makes_no_more r = failed ∙ ap (λ b. again_so w n f (b && allow_retry w.max_retries n)) r

pub makes_again_lem : MakesAgain
makes_again_lem w c place os n l a o f h v = (λ r. makes_either w c n l o f v _ (make_so w c place os n l a h) r, λ r. makes_no_more w c n l o f v r)

-- IN A RUN each wait of a question is one that the options allow

none_waited : (most : Option ℕ) → IsAllowed most 0
none_waited most j e = absurd (let no : ⊥ = omega (arith, e) in no)

one_waited : (most : Option ℕ) (k : ℕ) → MayRetry most k → IsAllowed most (k + 1)
one_waited most k h j e = subst (MayRetry most) (let same : k ≡ j = omega (arith, e) in same) h

same_allowed : (most : Option ℕ) (k n : ℕ) → k ≡ n → IsAllowed most k → IsAllowed most n
same_allowed most k n e a j f = a j (omega (arith, e, f))

module _ (w : Ways) where
  abbrev Bounded : ℕ → List Deed → Type 0
  Bounded k ds = IsAllowed w.max_retries (k + waits_in ds)

  over_bounded : (k : ℕ) → IsAllowed w.max_retries k → IsAllowed w.max_retries (k + 0)
  over_bounded k a = same_allowed w.max_retries k (k + 0) (omega arith) a

  module _ {S A : Type 0} (I : S → ℕ → Type 0) (within : S → Search) (gives : A → SearchTransition Search (Result Answer Failure)) where
    abbrev Goes : List Outcome → Type 0
    Goes os = (s : S) (k : ℕ) → I s k → IsAllowed w.max_retries k → Bounded k (course (Stays (Searching w (within s)) Rest) os)

    goes_bounded : ((a : A) → (x : Result Answer Failure) × (gives a ≡ Gives x)) → (x : SearchTransition S (Result A Failure)) (k : ℕ) (os : List Outcome) →
        WaitsSo w I k x → IsAllowed w.max_retries k → Goes os → Bounded k (course (goes w (search.and_then x within gives)) os)
    goes_bounded ends (Gives (Ok x)) k os i a on = let e = ends x in subst (λ y. Bounded k (course (goes w y) os)) (sym e.1) (over_bounded k a)
    goes_bounded ends (Gives (Err f)) k os i a on = over_bounded k a
    goes_bounded ends (Stays s (Get p)) k [] i a on = over_bounded k a
    goes_bounded ends (Stays s (Get p)) k (o ∷ os) i a on = on s k i a
    goes_bounded ends (Stays s (Ask l request)) k [] i a on = over_bounded k a
    goes_bounded ends (Stays s (Ask l request)) k (o ∷ os) i a on = on s k i a
    goes_bounded ends (Stays s (Wait delay)) k [] i a on = one_waited w.max_retries k i.0
    goes_bounded ends (Stays s (Wait delay)) k (o ∷ os) i a on =
        let n : ℕ = waits_in (course (Stays (Searching w (within s)) Rest) (o ∷ os)) in
        same_allowed w.max_retries (k + 1 + n) (k + (n + 1)) (omega arith) (on s (k + 1) i.1 (one_waited w.max_retries k i.0))

    on_bounded : (told : S → News → SearchTransition S (Result A Failure)) →
        ((s : S) (o : News) → search.told w (within s) o ≡ search.and_then (told s o) within gives) →
        ((a : A) → (x : Result Answer Failure) × (gives a ≡ Gives x)) → ((s : S) (o : News) (k : ℕ) → I s k → WaitsSo w I k (told s o)) →
        (os : List Outcome) → Goes os
    on_bounded told is ends step [] s k i a = over_bounded k a
    on_bounded told is ends step (outcome.Queued ∷ os) s k i a = on_bounded told is ends step os s k i a
    on_bounded told is ends step (outcome.InLine ∷ os) s k i a = on_bounded told is ends step os s k i a
    on_bounded told is ends step (outcome.Cut ∷ os) s k i a = over_bounded k a
    on_bounded told is ends step (outcome.Stopped ∷ os) s k i a = over_bounded k a
    on_bounded told is ends step (o ∷ os) s k i a =
        subst (λ x. Bounded k (course (goes w x) os)) (sym (is s (news_in o)))
        (goes_bounded ends (told s (news_in o)) k os (step s (news_in o) k i) a (on_bounded told is ends step os))

  module _ (t : List ℕ) where
    -- so from their beginning
    counts_bounded : (os : List Outcome) → Bounded 0 (course (begins (procedure.Search w (sought.CountPartitions t))) os)
    counts_bounded os =
        let ends : (n : ℕ) → (x : Result Answer Failure) × (Gives (Ok (answer.Count n)) ≡ Gives x) = (λ n. (Ok (answer.Count n), refl)) in
        goes_bounded (CountSo w t) (searching.Counting t) (λ n. Gives (Ok (answer.Count n))) ends (count_begins w t) 0 os
        (count_starts w t) (none_waited w.max_retries)
        (on_bounded (CountSo w t) (searching.Counting t) (λ n. Gives (Ok (answer.Count n))) (count_told w t) (λ s o. refl) ends (count_waits w t) os)

    looks_bounded : (os : List Outcome) → Bounded 0 (course (begins (procedure.Search w (sought.Look t))) os)
    looks_bounded os =
        let ends : (p : Place) → (x : Result Answer Failure) × (Gives (Ok (answer.Address p)) ≡ Gives x) = (λ p. (Ok (answer.Address p), refl)) in
        goes_bounded (LookSo w t) (searching.Looking t) (λ p. Gives (Ok (answer.Address p))) ends (look_begins w) 0 os refl (none_waited w.max_retries)
        (on_bounded (LookSo w t) (searching.Looking t) (λ p. Gives (Ok (answer.Address p))) (look_told w t) (λ s o. refl) ends (look_waits w t) os)

pub questions_are_bounded_lem : QuestionsAreBounded
questions_are_bounded_lem o log who w t run rests h = elim h [
  | inl is ↦ by (procedure.Search w (sought.CountPartitions t)) refl is (counts_bounded w t (outcomes who log))
  | inr is ↦ by (procedure.Search w (sought.Look t)) refl is (looks_bounded w t (outcomes who log))
]
  where
    by : (p : Procedure) → ways_in p ≡ Some w → started who log ≡ Some p → Bounded w 0 (course (begins p) (outcomes who log)) →
        IsAllowed o.chosen.operation.max_retries (waits_in (deeds who log))
    by p e is k =
        subst (λ m. IsAllowed m (waits_in (deeds who log))) (ways_are_chosen_lem o log who p w run is e).1
        (subst (λ ds. IsAllowed w.max_retries (waits_in ds)) (sym (plans_follow_lem o log who p run rests is))
        (same_allowed w.max_retries (0 + waits_in (course (begins p) (outcomes who log))) _ (omega arith) k))
