-- Whose turn it is: nobody has the turn of a topic producer beside the one that it was given to, who waits for it waits for no other, and
-- one is told of a turn once.
use Rattle.std.proofs.Common.{◌≡◌, ◌∙◌, ap, subst, ℕ, ◌+◌, arith, List, [], ◌∷◌, ◌++◌, refl, Bool, true, false, ◌&&◌, cond, Option, Some, sym}
use Rattle.pulsar_laws.proofs.ActWords.{Act, Action, Comes, Does, Notice, OfTopic, Outcome, Part, PassTurn, TakeTurn, Told, Who, below, is_same}
use Rattle.pulsar_laws.proofs.RunWords.{agenda, at_once, Each, Entry, first_of, IsRun, joins, Options, performs, put_all, rest, rest_of, rules, Then, view, View}
use Rattle.pulsar_run.specs.Order.{put}
use Rattle.pulsar_producer.specs.Topic as topic
use Rattle.pulsar_producer.specs.Topic.{Act as Deed, Takes, Passes, Seen}
use Rattle.pulsar_producer.proofs.Turns.{SameTurn, leaves_turn, turn_stays}
use Rattle.pulsar_outgoing.specs.declared.news.News.TheVariants as news
use Rattle.pulsar_calls.specs.declared.act.Outcome.TheVariants as outcome
use Rattle.pulsar_laws.proofs.plans.AtOnce.{is_notice, raised_told}
use Rattle.pulsar_laws.proofs.Lists.{each_along}
use Rattle.pulsar_laws.specs.ProducerLaws.{topic_acts}
use Rattle.pulsar_laws.proofs.producers.Drawing.{here}
use Rattle.pulsar_laws.proofs.plans.Granted.{GivenBy, GivesSo, IsFree, JoinSo, SaysSo, clean_run, gives_so, is_given, join_free, joins_so}
pub use Rattle.pulsar_laws.proofs.plans.Granted.{passes_it}
use Rattle.pulsar_laws.proofs.plans.Holding.{is_turn_told}
use Rattle.pulsar_client.proofs.Raising.{IsRaised, raises}
use Rattle.pulsar_laws.proofs.producers.Topics.{all_after, CameFrom, acts_each}

-- WHO IS TO BE TOLD OF A TURN

abbrev pub turn_note : Who → Notice → ℕ
turn_note t n = cond (is_same t n.who && is_turn_told n.outcome) 1 0

abbrev pub turn_act : Who → Act → ℕ
turn_act t (Told n) = turn_note t n
turn_act t _ = 0

abbrev pub sum : {A : Type 0} → (A → ℕ) → List A → ℕ
sum f [] = 0
sum f (x ∷ xs) = f x + sum f xs

pub sum_append : {A : Type 0} (f : A → ℕ) (xs ys : List A) → sum f (xs ++ ys) ≡ sum f xs + sum f ys
sum_append f [] ys = omega arith
sum_append f (x ∷ xs) ys = let e : sum f (xs ++ ys) ≡ sum f xs + sum f ys = sum_append f xs ys in omega (arith, e)

sum_put : {A : Type 0} (f : A → ℕ) (lt : A → A → Bool) (x : A) (ys : List A) → sum f (put lt x ys) ≡ f x + sum f ys
sum_put f lt x [] = refl
sum_put f lt x (y ∷ ys) = elim (lt x y) as (λ b. sum f (cond b (x ∷ y ∷ ys) (y ∷ put lt x ys)) ≡ f x + (f y + sum f ys)) [
  | true ↦ refl
  | false ↦ (let e : sum f (put lt x ys) ≡ f x + sum f ys = sum_put f lt x ys in omega (arith, e))
]

pub sum_put_all : {A : Type 0} (f : A → ℕ) (lt : A → A → Bool) (xs ys : List A) → sum f (put_all lt xs ys) ≡ sum f xs + sum f ys
sum_put_all f lt [] ys = omega arith
sum_put_all f lt (x ∷ xs) ys =
    let a : sum f (put_all lt xs (put lt x ys)) ≡ sum f xs + sum f (put lt x ys) = sum_put_all f lt xs (put lt x ys) in
    let b : sum f (put lt x ys) ≡ f x + sum f ys = sum_put f lt x ys in
    omega (arith, a, b)

pub sum_none : {A : Type 0} (P : A → Type 0) (f : A → ℕ) (xs : List A) → ((x : A) → P x → f x ≡ 0) → Each P xs → sum f xs ≡ 0
sum_none P f [] none k = refl
sum_none P f (x ∷ xs) none k = let a : f x ≡ 0 = none x k.0 in let b : sum f xs ≡ 0 = sum_none P f xs none k.1 in omega (arith, a, b)

pub not_turn : (u : Outcome) → is_given u ≡ false → is_turn_told u ≡ false
not_turn (outcome.Granted news.Ready) h = refl
not_turn (outcome.Granted news.Done) h = refl
not_turn (outcome.Granted _) h = absurd cc
not_turn _ h = refl

no_note : (t : Who) (n : Notice) → is_turn_told n.outcome ≡ false → turn_note t n ≡ 0
no_note t n h = ap (λ b. cond (is_same t n.who && b) 1 0) h
    ∙ (elim (is_same t n.who) as (λ b. ◌≡◌ {A = ℕ} (cond (b && false) 1 0) 0) [ true ↦ refl | false ↦ refl ])

free_note : (t : Who) (n : Notice) → IsFree n → turn_note t n ≡ 0
free_note t n h = no_note t n (not_turn n.outcome h)

abbrev pub pend : Who → List Act → List Notice → ℕ
pend t now here = sum (turn_act t) now + sum (turn_note t) here

pend_rest : (t : Who) (now : List Act) (here : List Notice) (behind : List (List Notice)) (parts : List Part) (a : Act) → Each (Each IsFree) behind →
    first_of rules now here behind parts ≡ Some a →
    pend t now here ≡ turn_act t a + pend t (rest_of now here behind parts).now (rest_of now here behind parts).here
pend_rest t (b ∷ now) here behind parts a free h =
    let e : b ≡ a = cc in
    let f : turn_act t b ≡ turn_act t a = ap (turn_act t) e in
    let s : ℕ = sum (turn_act t) now in
    let r : ℕ = sum (turn_note t) here in
    let g : turn_act t b + s + r ≡ turn_act t a + (s + r) = omega (arith, f) in
    g
pend_rest t [] (n ∷ here) behind parts a free h =
    let e : Told n ≡ a = cc in
    let f : turn_note t n ≡ turn_act t a = ap (turn_act t) e in
    let r : ℕ = sum (turn_note t) here in
    let g : 0 + (turn_note t n + r) ≡ turn_act t a + (0 + r) = omega (arith, f) in
    g
pend_rest t [] [] (c ∷ behind) parts a free h =
    let k = pend_rest t [] c behind parts a free.1 h in
    let z : sum (turn_note t) c ≡ 0 = sum_none IsFree (turn_note t) c (free_note t) free.0 in
    omega (arith, k, z)
pend_rest t [] [] [] (p ∷ parts) a free h = let e : Comes p ≡ a = cc in subst (λ (x : Act). 0 + 0 ≡ turn_act t x + (0 + 0)) e refl
pend_rest t [] [] [] [] a free h = absurd cc

-- WHO TELLS OF TURNS

abbrev pub is_take : Action → Bool
is_take (OfTopic n TakeTurn) = true
is_take _ = false

no_turn_given : (v : View) (action : Action) (version : Option (List ℕ)) → is_take action ≡ false → GivenBy v action (news.HasTurn version) → ⊥
no_turn_given v (OfTopic n TakeTurn) version t h = absurd cc
no_turn_given v (OfTopic n PassTurn) version t h = h
no_turn_given v _ version t h = h

says_none : (v : View) (action : Action) (u : Outcome) → is_take action ≡ false → SaysSo v action u → is_turn_told u ≡ false
says_none v action (outcome.Granted (news.HasTurn version)) t h = absurd (no_turn_given v action version t h)
says_none v action (outcome.Granted _) t h = refl
says_none v action _ t h = refl

gives_none : (v : View) (action : Action) (t : Who) (a : Act) → is_take action ≡ false → GivesSo v action a → turn_act t a ≡ 0
gives_none v action t (Told n) k h = no_note t n (says_none v action n.outcome k h)
gives_none v action t _ k h = refl

none_by : (t : Who) (b : Act) → is_notice b ≡ false → turn_act t b ≡ 0
none_by t (Told n) h = absurd cc
none_by t _ h = refl

abbrev pub takes_it : Act → Bool
takes_it (Does who (OfTopic n TakeTurn)) = true
takes_it _ = false

pub once_none : (v : View) (t : Who) (a : Act) → takes_it a ≡ false → sum (turn_act t) (at_once v a) ≡ 0
once_none v t (Does who (OfTopic n TakeTurn)) h = absurd cc
once_none v t (Does who action) h = sum_none (GivesSo v action) (turn_act t) (performs v who action) (λ b k. gives_none v action t b refl k)
    (gives_so v who action)
once_none v t a h = sum_none (IsRaised a) (turn_act t) (at_once v a) (λ b k. none_by t b (raised_told a b refl k)) (raises v a)

pub joins_none : (o : Options) (log : List Entry) (t : Who) (a : Act) → passes_it a ≡ false → IsRun o (Then a ∷ log) →
    sum (turn_note t) (joins (view o log) a) ≡ 0
joins_none o log t a h run =
    sum_none (JoinSo a) (turn_note t) (joins (view o log) a) (λ m k. free_note t m (join_free a m h k)) (joins_so o log a run)

abbrev pub pending : Options → List Entry → Who → ℕ
pending o log t = pend t (agenda o log).now (agenda o log).here

-- what is pending behind an act
pub pend_then : (o : Options) (log : List Entry) (t : Who) (a : Act) → IsRun o (Then a ∷ log) →
    pending o log t + sum (turn_act t) (at_once (view o log) a) + sum (turn_note t) (joins (view o log) a) ≡ turn_act t a + pending o (Then a ∷ log) t
pend_then o log t a run =
    let g = agenda o log in
    let v : View = view o log in
    let k = pend_rest t g.now g.here g.behind g.parts a (clean_run o log run.0).waits run.1 in
    let x : sum (turn_act t) (at_once v a ++ (rest g).now) ≡ sum (turn_act t) (at_once v a) + sum (turn_act t) (rest g).now = sum_append (turn_act t)
    (at_once v a) (rest g).now in
    let y : sum (turn_note t) (put_all below (joins v a) (rest g).here) ≡ sum (turn_note t) (joins v a) + sum (turn_note t) (rest g).here =
    sum_put_all (turn_note t) below (joins v a) (rest g).here in
    omega (arith, k, x, y)

pub pend_kept : (o : Options) (log : List Entry) (t : Who) (a : Act) → takes_it a ≡ false → passes_it a ≡ false → IsRun o (Then a ∷ log) →
    pending o log t ≡ turn_act t a + pending o (Then a ∷ log) t
pend_kept o log t a h p run =
    let k = pend_then o log t a run in
    let x : sum (turn_act t) (at_once (view o log) a) ≡ 0 = once_none (view o log) t a h in
    let y : sum (turn_note t) (joins (view o log) a) ≡ 0 = joins_none o log t a p run in
    omega (arith, k, x, y)

-- ROWS

abbrev pub LeavesTurn : Deed → Type 0
LeavesTurn d = leaves_turn d ≡ true

pub all_left : (ds : List Deed) (v : Seen) → Each LeavesTurn ds → SameTurn v (all_after ds v)
all_left ds v k =
    each_along topic.after LeavesTurn (SameTurn v) (λ d w l same. let j = turn_stays d w l in (j.0 ∙ same.0, j.1 ∙ same.1)) ds v k (refl, refl)

pub acts_left : (v : View) (n : ℕ) (a : Act) → takes_it a ≡ false → passes_it a ≡ false → Each LeavesTurn (topic_acts v n a)
acts_left v n a t p = acts_each LeavesTurn v n a left
  where
    left : (d : Deed) → CameFrom n a d → LeavesTurn d
    left (Takes u) k = let e : true ≡ false = sym (ap takes_it k.1) ∙ t in absurd cc
    left Passes k = let e : true ≡ false = sym (ap passes_it k.1) ∙ p in absurd cc
    left d k = refl
