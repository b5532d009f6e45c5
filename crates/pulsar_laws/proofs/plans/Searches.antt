-- Where a search fails, and a command that is asked until it succeeds: with the fault of the news that it was told, or by what a reply says.
use Rattle.std.proofs.Common.{◌≡◌, ◌⊎◌, inl, inr, ap, ℕ, List, [], refl, Bool, true, false, ◌&&◌, ◌||◌, cond, Option, Some, None, Result, Ok, Err, ◌==◌, ◌-◌}
use Rattle.std.specs.Prelude.{pos}
use Rattle.pulsar_laws.proofs.PlanWords.{Command, Denies, Heard as News, Later, Looking, Making, Naming, Says as Tells, SearchTransition, Sought, Ways}
use Rattle.pulsar_laws.proofs.LinkWords.{Failure, Fault, Named, OfConnection, Place}
use Rattle.pulsar_wire.specs.Field.{◌>>=◌}
use Rattle.pulsar_wire.specs.Enumerations.{error_of}
use Rattle.pulsar_wire.specs.Failures.{DiscoveryConnection, DiscoveryFault, DiscoveryNotFound, OfDiscovery, Query}
use Rattle.pulsar_frame.specs.Reply.{Reply as Content, is_body}
use Rattle.url.specs.declared.host.Host.{Host}
use Rattle.url.specs.Parser.{Parsed, parse_url}
use Rattle.url.specs.Parts.{Parts, nonempty_host}
use Rattle.pulsar_addresses.specs.Address.{at_host, place_of_parsed, name_found, in_discovery}
use Rattle.pulsar_addresses.specs.Backoff.{allow_retry, one_more}
use Rattle.pulsar_searches.specs.Plans as search
use Rattle.pulsar_searches.specs.Plans.{and_then, count_failed, count_gets, count_heard, count_told, is_lost, is_partition, is_retryable, look_begins, look_failed, look_gets, look_heard, look_pointed, look_told, made_answered, made_gets, made_told, names_left, names_of, names_told, nested, partition_name, retry_begins, retry_told, verdict}
use Rattle.pulsar_searches.specs.Replies.{count_in, counted_of, failing, fails_by, is_choice, is_set, place_at, place_heard, pointed_at, query, unexpected}
use Rattle.pulsar_searches.specs.declared.count.Counting.{Counting}
use Rattle.pulsar_searches.specs.declared.count.Counting.TheVariants as count
use Rattle.pulsar_searches.specs.declared.look.Looking.TheVariants as look
use Rattle.pulsar_searches.specs.declared.look.Search.{Search as Question}
use Rattle.pulsar_searches.specs.declared.making.Making.TheVariants as make
use Rattle.pulsar_searches.specs.declared.names.Naming.TheVariants as name
use Rattle.pulsar_searches.specs.declared.plan.Answer.{Answer}
use Rattle.pulsar_searches.specs.declared.plan.Answer.TheVariants as answer
use Rattle.pulsar_searches.specs.declared.plan.SearchPlan.{SearchPlan as Search}
use Rattle.pulsar_searches.specs.declared.plan.SearchPlan.TheVariants as plan
use Rattle.pulsar_searches.specs.declared.plan.Sought.TheVariants as sought
use Rattle.pulsar_searches.specs.declared.replies.Heard.{Heard}
use Rattle.pulsar_searches.specs.declared.replies.Pointed.{Pointed}
use Rattle.pulsar_searches.specs.declared.replies.Pointed.TheVariants.{Redirects, Serves}
use Rattle.pulsar_searches.specs.declared.retry.Retrying.{Retrying}
use Rattle.pulsar_searches.specs.declared.retry.Retrying.TheVariants as retry
use Rattle.pulsar_searches.specs.declared.turn.Action.TheVariants.{Wait}
use Rattle.pulsar_searches.specs.declared.turn.SearchOutcome.TheVariants as news
use Rattle.pulsar_laws.specs.Laws.{DeniesSo}
use Rattle.pulsar_searches.specs.declared.transition.Transition.TheVariants as transition

-- WHAT A REPLY SAYS TO A SEARCH

-- where it denies, it says why
abbrev HeardSo : {A : Type 0} → Ways → Content → Heard A → Type 0
HeardSo w r (Tells a) = Unit {0}
HeardSo w r Later = Unit {0}
HeardSo w r (Denies f) = (d : DiscoveryFault) × (f ≡ OfDiscovery d) × DeniesSo w d r

heard_when : {A : Type 0} (w : Ways) (r : Content) (b : Bool) (x y : Heard A) → (b ≡ true → HeardSo w r x) → (b ≡ false → HeardSo w r y) →
    HeardSo w r (cond b x y)
heard_when w r true x y p q = p refl
heard_when w r false x y p q = q refl

-- the reply fails
abbrev FailsHow : Content → Type 0
FailsHow r = ((is_body 22 r.body ≡ true) × (fails_by (pos 1) r.response ≡ true)) ⊎ ((is_body 24 r.body ≡ true) × (fails_by (pos 2) r.response ≡ true))

failing_so : (A : Type 0) (w : Ways) (n : ℕ) (r : Content) → FailsHow r → HeardSo {A = A} w r (failing w n r.error r.text)
failing_so A w n r how =
    heard_when {A = A} w r (is_choice (pos 6) r.error && allow_retry w.max_retries n) Later (Denies (query r.error r.text)) (λ e. tt)
    (λ e. (Query (r.error >>= error_of) r.text, refl, (refl, inl (how, n, e))))

counted_so : (w : Ways) (r : Content) (count : Option ℕ) → is_body 22 r.body ≡ true → r.partitions ≡ count → HeardSo w r (counted_of r count)
counted_so w r None e is = (Query (r.error >>= error_of) r.text, refl, (refl, inr (e, is)))
counted_so w r (Some count) e is = tt

another_body : (A : Type 0) (w : Ways) (r : Content) → HeardSo {A = A} w r (Denies (in_discovery (unexpected r r.body)))
another_body A w r = (DiscoveryConnection (unexpected r r.body), refl, refl)

count_so : (w : Ways) (n : ℕ) (r : Content) → HeardSo w r (count_in w n r)
unfolding count_in
count_so w n r =
    let refuses : Heard ℕ = failing w n r.error r.text in
    let counts : Heard ℕ = counted_of r r.partitions in
    heard_when w r (is_body 22 r.body) (cond (fails_by (pos 1) r.response) refuses counts) (Denies (in_discovery (unexpected r r.body)))
    (λ b. heard_when w r (fails_by (pos 1) r.response) refuses counts (λ f. failing_so ℕ w n r (inl (b, f))) (λ f. counted_so w r r.partitions b refl))
    (λ b. another_body ℕ w r)

-- whether a text is an address does not depend on what it is reached by
none_hosted : (b b' : Place) (p p' : Bool) (url : Parts) (host : Option (Host (List ℕ))) → at_host b p url host ≡ None → at_host b' p' url host ≡ None
none_hosted b b' p p' url None h = refl
none_hosted b b' p p' url (Some host) h = absurd cc

none_parsed : (b b' : Place) (p p' : Bool) (x : Parsed Parts) → place_of_parsed b p x ≡ None → place_of_parsed b' p' x ≡ None
none_parsed b b' p p' (Ok url) h = none_hosted b b' p p' url (nonempty_host url) h
none_parsed b b' p p' (Err e) h = refl

none_at : (b b' : Place) (p p' : Bool) (text : Option (List ℕ)) → place_at b p text ≡ None → place_at b' p' text ≡ None
none_at b b' p p' None h = refl
none_at b b' p p' (Some text) h = none_parsed b b' p p' (parse_url None text) h

pointed_so : (w : Ways) (proxy : Bool) (r : Content) (place : Option Place) → is_body 24 r.body ≡ true → place_at w.base proxy r.url ≡ place →
    HeardSo w r (pointed_at r.response r.authority place)
pointed_so w proxy r None e is = (DiscoveryNotFound, refl, (e, λ base p. none_at w.base base proxy p r.url is))
pointed_so w proxy r (Some place) e is =
    heard_when w r (is_choice (pos 0) r.response) (Tells (Redirects place (is_set r.authority))) (Tells (Serves place)) (λ c. tt) (λ c. tt)

place_so : (w : Ways) (proxy : Bool) (n : ℕ) (r : Content) → HeardSo w r (place_heard w proxy n r)
unfolding place_heard
place_so w proxy n r =
    let refuses : Heard Pointed = failing w n r.error r.text in
    let place : Option Place = place_at w.base (proxy || is_set r.proxy) r.url in
    let points : Heard Pointed = pointed_at r.response r.authority place in
    heard_when w r (is_body 24 r.body) (cond (fails_by (pos 2) r.response) refuses points) (Denies (in_discovery (unexpected r r.body)))
    (λ b. heard_when w r (fails_by (pos 2) r.response) refuses points (λ f. failing_so Pointed w n r (inr (b, f)))
    (λ f. pointed_so w (proxy || is_set r.proxy) r place b refl)) (λ b. another_body Pointed w r)

-- WHERE A SEARCH FAILS

-- by news: with the fault that they tell, or with what a reply says
abbrev pub Turns : Ways → News → Failure → Type 0
Turns w n f = (f ≡ in_discovery (search.fault_of n)) ⊎ ((r : Content) × (d : DiscoveryFault) × (n ≡ news.Replied r) × (f ≡ OfDiscovery d) × DeniesSo w d r)

-- where a machine fails, its failure is such
abbrev pub FailsBy : {S A : Type 0} → (Failure → Type 0) → SearchTransition S (Result A Failure) → Type 0
FailsBy P (transition.Stays s action) = Unit {0}
FailsBy P (transition.Gives (Ok a)) = Unit {0}
FailsBy P (transition.Gives (Err f)) = P f

either_fails : {S A : Type 0} (P : Failure → Type 0) (b : Bool) (x y : SearchTransition S (Result A Failure)) → FailsBy P x → FailsBy P y →
    FailsBy P (cond b x y)
either_fails P true x y p q = p
either_fails P false x y p q = q

then_fails : {S T A B : Type 0} (P : Failure → Type 0) (turn : SearchTransition S (Result A Failure)) (within : S → T) (on : A →
    SearchTransition T (Result B Failure)) →
    FailsBy P turn → ((a : A) → FailsBy P (on a)) → FailsBy P (and_then turn within on)
then_fails P (transition.Stays s action) within on p q = tt
then_fails P (transition.Gives (Ok a)) within on p q = q a
then_fails P (transition.Gives (Err f)) within on p q = p

count_hears : (w : Ways) (n l : ℕ) (r : Content) (h : Heard ℕ) → HeardSo w r h → FailsBy (Turns w (news.Replied r)) (count_heard w n l h)
count_hears w n l r (Tells count) k = tt
count_hears w n l r Later k = tt
count_hears w n l r (Denies f) k = inr (r, k.0, refl, k.1, k.2)

count_loses : (w : Ways) (again : Bool) (n : ℕ) (o : News) → FailsBy (Turns w o) (count_failed w again n (search.fault_of o))
count_loses w again n o =
    either_fails (Turns w o) (again && is_lost (search.fault_of o)) (count_gets w false n) (search.fails (in_discovery (search.fault_of o))) tt (inl refl)

count_fails : (w : Ways) (t : List ℕ) (c : Counting) (o : News) → FailsBy (Turns w o) (count_told w t c o)
count_fails w t (count.Getting again n) (news.GotLink l) = tt
count_fails w t (count.Getting again n) o = inl refl
count_fails w t (count.Asked again n l) (news.Replied r) = count_hears w n l r (count_in w n r) (count_so w n r)
count_fails w t (count.Asked again n l) o = count_loses w again n o
count_fails w t (count.Resting n l) news.Woken = tt
count_fails w t (count.Resting n l) o = inl refl

look_points : (P : Failure → Type 0) (n : ℕ) (pointed : Pointed) → FailsBy P (look_pointed n pointed)
look_points P n (Redirects place authority) = tt
look_points P n (Serves place) = tt

look_hears : (w : Ways) (s : Question) (l : ℕ) (r : Content) (h : Heard Pointed) → HeardSo w r h → FailsBy (Turns w (news.Replied r)) (look_heard w s l h)
look_hears w s l r (Tells pointed) k = look_points (Turns w (news.Replied r)) s.retries pointed
look_hears w s l r Later k = tt
look_hears w s l r (Denies f) k = inr (r, k.0, refl, k.1, k.2)

look_loses : (w : Ways) (s : Question) (o : News) → FailsBy (Turns w o) (look_failed s (search.fault_of o))
look_loses w s o =
    either_fails (Turns w o) (s.again && is_lost (search.fault_of o)) (look_gets (record s { again = false }))
    (search.fails (in_discovery (search.fault_of o))) tt (inl refl)

pub look_fails : (w : Ways) (t : List ℕ) (l : Looking) (o : News) → FailsBy (Turns w o) (look_told w t l o)
look_fails w t (look.Getting s) (news.GotLink l) = tt
look_fails w t (look.Getting s) o = inl refl
look_fails w t (look.Asked s l) (news.Replied r) = look_hears w s l r (place_heard w s.last.proxy s.retries r) (place_so w s.last.proxy s.retries r)
look_fails w t (look.Asked s l) o = look_loses w s o
look_fails w t (look.Resting s l) news.Woken = tt
look_fails w t (look.Resting s l) o = inl refl
look_fails w t (look.Reaching place) (news.GotLink l) = tt
look_fails w t (look.Reaching place) o = inl refl

left_fails : (P : Failure → Type 0) (w : Ways) (t : List ℕ) (n left : ℕ) (named : List Named) → FailsBy P (names_left w t n left named)
left_fails P w t n left named =
    either_fails P (left == 0) (transition.Gives (Ok named))
    (and_then (look_begins w) (λ l. name.Part l (record { name = partition_name t (n - left); count = n; left = left - 1; found = named }))
    (λ place. transition.Gives (Ok named)))
    tt tt

pub names_fail : (P : Failure → Type 0) (w : Ways) (t : List ℕ) (n : ℕ) → FailsBy P (names_of w t n)
names_fail P w t n =
    either_fails P (n == 0) (and_then (look_begins w) name.Whole (λ place. transition.Gives (Ok (name_found [] t place)))) (names_left w t n n []) tt
    (left_fails P w t n n [])

pub naming_fails : (w : Ways) (t : List ℕ) (n : Naming) (o : News) → FailsBy (Turns w o) (names_told w t n o)
naming_fails w t (name.Counting c) o = then_fails (Turns w o) (count_told w t c o) name.Counting (names_of w t) (count_fails w t c o)
    (names_fail (Turns w o) w t)
naming_fails w t (name.Whole l) o =
    then_fails (Turns w o) (look_told w t l o) name.Whole (λ place. transition.Gives (Ok (name_found [] t place))) (look_fails w t l o) (λ place. tt)
naming_fails w t (name.Part l p) o =
    then_fails (Turns w o) (look_told w p.name l o) (λ l. name.Part l p) (λ place. names_left w t p.count p.left (name_found p.found p.name place))
    (look_fails w p.name l o) (λ place. left_fails (Turns w o) w t p.count p.left (name_found p.found p.name place))

pub counting_begins : (P : Failure → Type 0) (w : Ways) (t : List ℕ) → FailsBy P (search.count_begins w t)
counting_begins P w t = either_fails P (is_partition t) (transition.Gives (Ok 0)) (count_gets w true 0) tt tt

-- the searches that calls ask for, and where they stand
abbrev pub is_sought : Sought → Bool
is_sought (sought.CountPartitions t) = true
is_sought (sought.Look t) = true
is_sought (sought.Name t) = true
is_sought _ = false

abbrev pub is_search : Search → Bool
is_search (plan.Counting t c) = true
is_search (plan.Looking t l) = true
is_search (plan.Naming t n) = true
is_search _ = false

-- such a search goes on as one, or fails so
abbrev pub Keeps : (Failure → Type 0) → SearchTransition Search (Result Answer Failure) → Type 0
Keeps P (transition.Stays s action) = is_search s ≡ true
Keeps P (transition.Gives (Ok a)) = Unit {0}
Keeps P (transition.Gives (Err f)) = P f

then_keeps : {S A : Type 0} (P : Failure → Type 0) (turn : SearchTransition S (Result A Failure)) (within : S → Search) (on : A →
    SearchTransition Search (Result Answer Failure)) →
    ((s : S) → is_search (within s) ≡ true) → FailsBy P turn → ((a : A) → Keeps P (on a)) → Keeps P (and_then turn within on)
then_keeps P (transition.Stays s action) within on is p q = is s
then_keeps P (transition.Gives (Ok a)) within on is p q = q a
then_keeps P (transition.Gives (Err f)) within on is p q = p

pub keeps_begins : (P : Failure → Type 0) (w : Ways) (what : Sought) → is_sought what ≡ true → Keeps P (search.begins w what)
keeps_begins P w (sought.CountPartitions t) is =
    then_keeps P (search.count_begins w t) (plan.Counting t) (λ n. transition.Gives (Ok (answer.Count n))) (λ s. refl) (counting_begins P w t) (λ n. tt)
keeps_begins P w (sought.Look t) is = refl
keeps_begins P w (sought.Name t) is =
    then_keeps P (search.names_begins w t) (plan.Naming t) (λ names. transition.Gives (Ok (answer.Addresses names))) (λ s. refl)
    (then_fails P (search.count_begins w t) name.Counting (names_of w t) (counting_begins P w t) (names_fail P w t)) (λ names. tt)
keeps_begins P w (sought.Retry t n f) is = absurd cc
keeps_begins P w (sought.Make c place) is = absurd cc

pub keeps_told : (w : Ways) (s : Search) (o : News) → is_search s ≡ true → Keeps (Turns w o) (search.told w s o)
keeps_told w (plan.Counting t c) o is =
    then_keeps (Turns w o) (count_told w t c o) (plan.Counting t) (λ n. transition.Gives (Ok (answer.Count n))) (λ s. refl) (count_fails w t c o) (λ n. tt)
keeps_told w (plan.Looking t l) o is =
    then_keeps (Turns w o) (look_told w t l o) (plan.Looking t) (λ place. transition.Gives (Ok (answer.Address place))) (λ s. refl) (look_fails w t l o)
    (λ place. tt)
keeps_told w (plan.Naming t n) o is =
    then_keeps (Turns w o) (names_told w t n o) (plan.Naming t) (λ names. transition.Gives (Ok (answer.Addresses names))) (λ s. refl) (naming_fails w t n o)
    (λ names. tt)
keeps_told w (plan.Retrying t r) o is = absurd cc
keeps_told w (plan.Making c m) o is = absurd cc

-- A COMMAND THAT IS ASKED UNTIL IT SUCCEEDS

-- it fails with the fault that news tell, as the search for its broker does, or by a reply of another body
pub data Breaks (w : Ways) (n : News) (f : Failure) : Type 0 where
  ByFault : f ≡ OfConnection (search.fault_of n) → Breaks w n f
  BySearch : Turns w n f → Breaks w n f
  ByReply : (r : Content) → n ≡ news.Replied r → f ≡ OfConnection (unexpected r r.body) → Breaks w n f

more_fails : {S A : Type 0} (P Q : Failure → Type 0) (turn : SearchTransition S (Result A Failure)) → ((f : Failure) → P f → Q f) → FailsBy P turn →
    FailsBy Q turn
more_fails P Q (transition.Stays s action) on p = tt
more_fails P Q (transition.Gives (Ok a)) on p = tt
more_fails P Q (transition.Gives (Err f)) on p = on f p

nested_fails : {S T A : Type 0} (P : Failure → Type 0) (turn : SearchTransition S (Result A Failure)) (within : S → T) → FailsBy P turn →
    FailsBy P (nested turn within transition.Gives)
nested_fails P (transition.Stays s action) within p = tt
nested_fails P (transition.Gives (Ok a)) within p = tt
nested_fails P (transition.Gives (Err f)) within p = p

retry_fails : (w : Ways) (t : List ℕ) (r : Retrying) (o : News) → FailsBy (Breaks w o) (retry_told w t r o)
retry_fails w t retry.Resting news.Woken = tt
retry_fails w t retry.Resting o = ByFault refl
retry_fails w t (retry.Looking l) o =
    nested_fails (Breaks w o) (look_told w t l o) retry.Looking
    (more_fails (Turns w o) (Breaks w o) (look_told w t l o) (λ f k. BySearch k) (look_fails w t l o))

answered_fails : (P : Failure → Type 0) (w : Ways) (n l : ℕ) (x : Result Content Fault) → ((f : Fault) → x ≡ Err f → P (OfConnection f)) →
    FailsBy P (made_answered w n l x)
answered_fails P w n l (Ok r) h = tt
answered_fails P w n l (Err f) h =
    then_fails P (retry_begins w n f) (λ r. make.Retrying r n) (made_gets (one_more n))
    (either_fails P (is_retryable f && allow_retry w.max_retries n) (transition.Stays retry.Resting (Wait w.retry_delay)) (search.fails (OfConnection f)) tt
    (h f refl))
    (λ place. tt)

said_fails : (w : Ways) (r : Content) (f : Fault) (b : Bool) → cond b (Ok r) (Err (unexpected r r.body)) ≡ Err f → Breaks w (news.Replied r) (OfConnection f)
said_fails w r f true h = absurd cc
said_fails w r f false h = ByReply r refl (ap OfConnection (let e : f ≡ unexpected r r.body = cc in e))

verdict_fails : (w : Ways) (answer : ℕ) (o : News) (f : Fault) → verdict answer o ≡ Err f → Breaks w o (OfConnection f)
verdict_fails w answer (news.Replied r) f h = said_fails w r f (is_body answer r.body) h
verdict_fails w answer o f h = ByFault (ap OfConnection (let e : f ≡ search.fault_of o = cc in e))

pub made_fails : (w : Ways) (c : Command) (k : Making) (o : News) → FailsBy (Breaks w o) (made_told w c k o)
made_fails w c (make.Getting n) (news.GotLink l) = tt
made_fails w c (make.Getting n) o = ByFault refl
made_fails w c (make.Asked n l) o = answered_fails (Breaks w o) w n l (verdict c.answer o) (verdict_fails w c.answer o)
made_fails w c (make.Retrying r n) o =
    then_fails (Breaks w o) (retry_told w c.topic r o) (λ r. make.Retrying r n) (made_gets (one_more n)) (retry_fails w c.topic r o) (λ place. tt)

-- what the others give, which are plans within plans here
pub names_begin : (P : Failure → Type 0) (w : Ways) (t : List ℕ) → FailsBy P (search.names_begins w t)
names_begin P w t = then_fails P (search.count_begins w t) name.Counting (names_of w t) (counting_begins P w t) (names_fail P w t)
