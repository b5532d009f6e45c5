-- A create request that was named is due at no moment.
use Rattle.std.proofs.Common.{◌≡◌, ◌∙◌, sym, ap, refl, ℕ, ◌<◌, ◌==◌, ◌||◌, ◌&&◌, nat_le, ◌⊎◌, Bool, true, false, not, cond, List, [], ◌∷◌, ◌++◌, filter, drop, Option, Some, None, inl, inr, arith}
use Rattle.std.proofs.lemmas.Bool.{cases_Bool, eq-eqb}
use Rattle.std.proofs.lemmas.Bool.Decides.{nat_tests}
use Rattle.std.specs.List.{list_any}
use Rattle.std.specs.Option.{is_some}
use Rattle.std.specs.Ordering.{is_eq, match_ordering, nat_cmp}
use Rattle.std.specs.declared.cmp.Ordering.{Ordering}
use Rattle.std.specs.declared.cmp.Ordering.TheVariants.{Less, Equal, Greater}
use Rattle.std.specs.BTreeMap.{is_at}
use Rattle.std.specs.BTreeSet.{insert_key}
use Rattle.std.specs.Set.{remove_key}
use Rattle.pulsar_wire.specs.Command.{BodyValues}
use Rattle.pulsar_frame.specs.Message.{MessageValues}
use Rattle.pulsar_frame.specs.Key.{is_unready, key}
use Rattle.pulsar_frame.specs.Frame.{Front, Short, Refused, Whole, front}
use Rattle.pulsar_messages.specs.Words.{is_numbered}
use Rattle.pulsar_wire.specs.declared.awaited.Awaited.{Awaited}
use Rattle.pulsar_wire.specs.declared.awaited.Awaited.TheVariants.{Pong, Reply, Receipt}
use Rattle.pulsar_wire.specs.Awaited.{is_one, is_same}
use Rattle.pulsar_requests.specs.Waits.{Pending, ended, is_listed, is_overdue, is_some_due, places, request_at, without}
use Rattle.pulsar_requests.proofs.Awaiting.{is_at-eqb, same_refl}
use Rattle.pulsar_session.specs.declared.states.Stage.{Stage}
use Rattle.pulsar_session.specs.declared.states.Stage.TheVariants.{Dialing, Handshaking, Ready, Over}
use Rattle.pulsar_session.specs.Answers.{answers, answers_by, awaited_by, is as says, is_number}
use Rattle.pulsar_session.specs.Link.{Act, Opens, Feeds, Takes, Asks, Drains, Closes, Seen, Setup, after, answered_to, greeted, is_open, is_over, moved_up, named_by, number_for, reacts, reacts_unless, received, seen, settled_by, taken_in, ticked, unready_in}
use Rattle.pulsar_session.specs.Laws.{Ended, NamedIsNotDue, RequestOutcome, Replied, answered_in, names, settles}
use Rattle.pulsar_session.proofs.Awaiting.{answered_is}
use Rattle.pulsar_session.proofs.Others.{takes_ready}
use Rattle.pulsar_session.proofs.Settled.{at_after, grows, passes, rising}
use Rattle.pulsar_session.proofs.Steps.{Rises, absent_filter, found_filter, place_below}
use Rattle.pulsar_session.proofs.Still.{asked_of, moving, opening, unless}

-- WHO IS EXCUSED

or_true : (b c : Bool) → c ≡ true → (b || c) ≡ true
or_true true c h = refl
or_true false c h = h

pub listed_new : (n : ℕ) (ks : List ℕ) → list_any (is_at (nat_cmp n)) (insert_key nat_cmp ks n) ≡ true
listed_new n [] = let here : is_at (nat_cmp n) n ≡ true = is_at-eqb n n ∙ eq-eqb n n refl in ap (λ b. b || false) here
listed_new n (x ∷ xs) = by (nat_cmp n x) refl (listed_new n xs)
  where
    test : ℕ → Bool
    test = is_at (nat_cmp n)

    by : (o : Ordering) → nat_cmp n x ≡ o → list_any (is_at (nat_cmp n)) (insert_key nat_cmp xs n) ≡ true → list_any (is_at (nat_cmp n)) (match_ordering o (n ∷ x ∷ xs) (x ∷ xs) (x ∷ insert_key nat_cmp xs n)) ≡ true
    by Less e more = let here : is_at (nat_cmp n) n ≡ true = is_at-eqb n n ∙ eq-eqb n n refl in ap (λ b. b || (is_at (nat_cmp n) x || list_any (is_at (nat_cmp n)) xs)) here
    by Equal e more = ap (λ o. is_eq o || list_any (is_at (nat_cmp n)) xs) e
    by Greater e more = or_true (is_at (nat_cmp n) x) (list_any (is_at (nat_cmp n)) (insert_key nat_cmp xs n)) more

removed_other : (n k : ℕ) (ns : List ℕ) → is_at (nat_cmp k) n ≡ false → list_any (is_at (nat_cmp n)) ns ≡ true → list_any (is_at (nat_cmp n)) (remove_key (is_at (nat_cmp k)) ns) ≡ true
removed_other n k [] apart h = absurd cc
removed_other n k (x ∷ xs) apart h = by (is_at (nat_cmp k) x) (is_at (nat_cmp n) x) refl refl h (removed_other n k xs apart)
  where
    not_both : is_at (nat_cmp k) x ≡ true → is_at (nat_cmp n) x ≡ true → ⊥
    not_both e f =
        let a : (k == x) ≡ true = sym (is_at-eqb k x) ∙ e in
        let b : (n == x) ≡ true = sym (is_at-eqb n x) ∙ f in
        let same : k ≡ n = (let p : k ≡ x = grind (arith, nat_tests, a) in let q : n ≡ x = grind (arith, nat_tests, b) in p ∙ sym q) in
        let no : is_at (nat_cmp k) n ≡ true = is_at-eqb k n ∙ eq-eqb k n same in
        (let bad : false ≡ true = sym apart ∙ no in cc)

    by : (c d : Bool) → is_at (nat_cmp k) x ≡ c → is_at (nat_cmp n) x ≡ d → (is_at (nat_cmp n) x || list_any (is_at (nat_cmp n)) xs) ≡ true →
        (list_any (is_at (nat_cmp n)) xs ≡ true → list_any (is_at (nat_cmp n)) (remove_key (is_at (nat_cmp k)) xs) ≡ true) →
        list_any (is_at (nat_cmp n)) (cond (is_at (nat_cmp k) x) xs (x ∷ remove_key (is_at (nat_cmp k)) xs)) ≡ true
    by true true e f g more = absurd (not_both e f)
    by true false e f g more = ap (λ b. list_any (is_at (nat_cmp n)) (cond b xs (x ∷ remove_key (is_at (nat_cmp k)) xs))) e ∙ sym (ap (λ b. b || list_any (is_at (nat_cmp n)) xs) f) ∙ g
    by false true e f g more = ap (λ b. list_any (is_at (nat_cmp n)) (cond b xs (x ∷ remove_key (is_at (nat_cmp k)) xs))) e ∙ ap (λ b. b || list_any (is_at (nat_cmp n)) (remove_key (is_at (nat_cmp k)) xs)) f
    by false false e f g more = ap (λ b. list_any (is_at (nat_cmp n)) (cond b xs (x ∷ remove_key (is_at (nat_cmp k)) xs))) e
        ∙ or_true (is_at (nat_cmp n) x) (list_any (is_at (nat_cmp n)) (remove_key (is_at (nat_cmp k)) xs)) (more (sym (ap (λ b. b || list_any (is_at (nat_cmp n)) xs) f) ∙ g))

without_other : (n : ℕ) (a : Option Awaited) (ns : List ℕ) → is_one a (Reply n) ≡ false → is_listed ns (Reply n) ≡ true → is_listed (without a ns) (Reply n) ≡ true
without_other n None ns apart h = h
without_other n (Some Pong) ns apart h = h
without_other n (Some (Reply k)) ns apart h = removed_other n k ns apart h
without_other n (Some (Receipt p s)) ns apart h = h

-- as long as it isn't answered, its number stays excused
not_answered : (m : MessageValues) (a : Awaited) (o : RequestOutcome) → cond (answers m a) (Some o) None ≡ None → answers m a ≡ false
not_answered m a o h = elim (cases_Bool (answers m a)) [ inl y ↦ absurd (let no = rw y at h in cc) | inr y ↦ y ]

greeted_listed : (n : ℕ) (b : Bool) (rest : List ℕ) (v : Seen) → is_listed v.waits.excused (Reply n) ≡ true → is_listed (greeted b rest v).waits.excused (Reply n) ≡ true
greeted_listed n true rest v h = h
greeted_listed n false rest v h = h

taken_listed : (n : ℕ) (r : Pending) (stage : Stage) (f : Front) (v : Seen) → r.awaits ≡ Reply n → answered_in stage f r ≡ None → is_listed v.waits.excused (Reply n) ≡ true →
    is_listed (taken_in stage f v).waits.excused (Reply n) ≡ true
taken_listed n r Dialing f v is h listed = listed
taken_listed n r Over f v is h listed = listed
taken_listed n r Handshaking Short v is h listed = listed
taken_listed n r Handshaking (Refused x) v is h listed = listed
taken_listed n r Handshaking (Whole m rest) v is h listed = greeted_listed n (says 3 m) rest v listed
taken_listed n r Ready Short v is h listed = listed
taken_listed n r Ready (Refused x) v is h listed = listed
taken_listed n r Ready (Whole m rest) v is h listed =
    let u = record v { unread = rest } in
    let a = record u { waits = answered_to m u.waits } in
    let other : is_one (awaited_by (says 19 m) (key m)) (Reply n) ≡ false = answered_is m (Reply n) ∙ sym (ap (answers m) is) ∙ not_answered m r.awaits (Replied m) h in
    (unless (places (settled_by m u)) m a).listed n (without_other n (awaited_by (says 19 m) (key m)) v.waits.excused other listed)

act_listed : (n : ℕ) (r : Pending) (act : Act) (v : Seen) → r.awaits ≡ Reply n → settles act v r ≡ None → is_listed v.waits.excused (Reply n) ≡ true →
    is_listed (after act v).waits.excused (Reply n) ≡ true
act_listed n r (Opens now) v is h listed = (opening v.stage (ticked now v) refl).listed n listed
act_listed n r (Feeds piece) v is h listed = by (is_open v.stage)
  where
    by : (b : Bool) → is_listed (cond b (record v { unread = v.unread ++ piece }) v).waits.excused (Reply n) ≡ true
    by true = listed
    by false = listed
act_listed n r (Takes now) v is h listed = taken_listed n r v.stage (front v.unread) (ticked now v) is h listed
act_listed n r (Asks now words) v is h listed = (asked_of (number_for (is_numbered words) v) now words (ticked now v)).listed n listed
act_listed n r (Drains most now) v is h listed = by (is_open v.stage)
  where
    b : Seen
    b = record (ticked now v) { unwritten = drop most v.unwritten }

    by : (o : Bool) → is_listed (cond o (moved_up v.line b) (ticked now v)).waits.excused (Reply n) ≡ true
    by true = (moving v.line b).listed n listed
    by false = listed
act_listed n r (Closes cause) v is h listed = by (is_over v.stage) h
  where
    by : (b : Bool) → cond b None (Some (Ended cause)) ≡ None →
        is_listed (cond b v (record v { stage = Over; error = Some cause; unwritten = []; line = []; waits = ended v.waits; unread = [] })).waits.excused (Reply n) ≡ true
    by true g = listed
    by false g = absurd cc

-- IT WAITS EXCUSED, OR WAITS NO LONGER

record Named (n : ℕ) (r : Pending) (v : Seen) : Type 0 where
  below : r.place < v.waits.queued
  waits : (request_at r.place v.waits.waiting ≡ None) ⊎ ((request_at r.place v.waits.waiting ≡ Some r) × (is_listed v.waits.excused (Reply n) ≡ true))

unsettled : (o : Option RequestOutcome) (kept : Bool) → is_some o ≡ not kept → kept ≡ true → o ≡ None
unsettled None kept h k = refl
unsettled (Some x) kept h k = absurd (let no = h ∙ ap not k in cc)

act_named : (n : ℕ) (r : Pending) (act : Act) (v : Seen) → r.awaits ≡ Reply n → Rises 0 v.waits.waiting v.waits.queued → Named n r v → Named n r (after act v)
act_named n r act v is rise x = record {
  below = (let more = grows act v in omega (arith, more, x.below));
  waits = elim x.waits [
    | inl none ↦ inl (at_after act v r.place x.below ∙ absent_filter (passes act v).kept r.place v.waits.waiting none)
    | inr there ↦ (
        let p = passes act v in
        let now : request_at r.place (after act v).waits.waiting ≡ cond (p.kept r) (Some r) None = at_after act v r.place x.below ∙ found_filter p.kept r.place 0 v.waits.waiting v.waits.queued r rise there.0 in
        elim (cases_Bool (p.kept r)) [
          | inl y ↦ inr (now ∙ ap (λ b. cond b (Some r) None) y, act_listed n r act v is (unsettled (settles act v r) (p.kept r) (p.tells r.place r there.0 rise).1 y) there.1)
          | inr y ↦ inl (now ∙ ap (λ b. cond b (Some r) None) y)
        ])
  ];
}

all_named : (n : ℕ) (r : Pending) (s : Setup) (later h : List Act) → r.awaits ≡ Reply n → Named n r (seen s h) → Named n r (seen s (later ++ h))
all_named n r s [] h is x = x
all_named n r s (act ∷ later) h is x = act_named n r act (seen s (later ++ h)) is (rising s (later ++ h)) (all_named n r s later h is x)

due_and : (b c : Bool) → c ≡ false → (b && c) ≡ false
due_and true c h = h
due_and false c h = refl

never_due : (n : ℕ) (r : Pending) (v : Seen) (moment : ℕ) → r.awaits ≡ Reply n → r.creates ≡ true → Named n r v → is_overdue r.place moment v.waits ≡ false
never_due n r v moment is creates x = elim x.waits [
  | inl none ↦ ap (is_some_due moment v.waits.excused) none
  | inr there ↦ ap (is_some_due moment v.waits.excused) there.0
      ∙ due_and (nat_le r.deadline moment) (not (r.creates && is_listed v.waits.excused r.awaits))
      (ap (λ b. not (b && is_listed v.waits.excused r.awaits)) creates ∙ ap (λ a. not (is_listed v.waits.excused a)) is ∙ ap not there.1)
]

-- WHERE IT IS NAMED

record IsUnready (n : ℕ) (m : MessageValues) : Type 0 where
  pong : says 19 m ≡ false
  ping : says 18 m ≡ false
  challenge : says 36 m ≡ false
  key_is : key m ≡ None

left_and : (b c : Bool) → (b && c) ≡ true → b ≡ true
left_and true c h = refl
left_and false c h = absurd cc

is_unready_body : (n : ℕ) (m : MessageValues) (body : Option BodyValues) → m.command.body ≡ body → unready_in body ≡ Some n → IsUnready n m
unfolding key
is_unready_body n m None e h = absurd cc
is_unready_body n m (Some b) e h = elim (cases_Bool (is_unready b)) [
  | inl y ↦ (
      let number : (b.number == 17) ≡ true = left_and (b.number == 17) (Rattle.pulsar_frame.specs.Key.is_false (Rattle.pulsar_wire.specs.At.flag_at 6 b.row b.values)) y in
      let same : b.number ≡ 17 = grind (arith, nat_tests, number) in
      record {
        pong = ap (is_number 19) e ∙ ap (λ k. k == 19) same;
        ping = ap (is_number 18) e ∙ ap (λ k. k == 18) same;
        challenge = ap (is_number 36) e ∙ ap (λ k. k == 36) same;
        key_is = rw (e, y) refl;
      })
  | inr y ↦ absurd (let no = rw y at h in cc)
]

answers_none : (n : ℕ) (m : MessageValues) → IsUnready n m → (a : Awaited) → answers m a ≡ false
answers_none n m u Pong = u.pong
answers_none n m u (Reply i) = ap (λ k. answers_by (says 19 m) k (Reply i)) u.key_is
answers_none n m u (Receipt p s) = ap (λ k. answers_by (says 19 m) k (Receipt p s)) u.key_is

none_settled : (n : ℕ) (m : MessageValues) → IsUnready n m → (ps : List Pending) → filter (λ p. answers m p.awaits) ps ≡ []
none_settled n m u [] = refl
none_settled n m u (p ∷ ps) = rw (answers_none n m u p.awaits) (none_settled n m u ps)

there_waits : (n place : ℕ) (r : Pending) (ps : List Pending) → request_at place ps ≡ Some r → r.awaits ≡ Reply n → list_any (λ p. is_same (Reply n) p.awaits) ps ≡ true
there_waits n place r [] at is = absurd cc
there_waits n place r (p ∷ ps) at is = elim (cases_Bool (p.place == place)) [
  | inl y ↦ (let this : p ≡ r = (let x : Some p ≡ Some r = rw y at at in cc) in
      let same : is_same (Reply n) p.awaits ≡ true = ap (is_same (Reply n)) (ap (λ q. q.awaits) this ∙ is) ∙ same_refl (Reply n) in
      ap (λ b. b || list_any (λ q. is_same (Reply n) q.awaits) ps) same)
  | inr y ↦ or_true (is_same (Reply n) p.awaits) (list_any (λ q. is_same (Reply n) q.awaits) ps) (there_waits n place r ps (rw y at at) is)
]

reacts_named : (n : ℕ) (m : MessageValues) (v : Seen) → IsUnready n m → unready_in m.command.body ≡ Some n → reacts m v ≡ named_by (Some n) v
reacts_named n m v u h = rw (u.ping, u.challenge, h) refl

received_named : (n : ℕ) (m : MessageValues) (v : Seen) → IsUnready n m → unready_in m.command.body ≡ Some n → received m v ≡ named_by (Some n) (record v { waits = answered_to m v.waits })
received_named n m v u h =
    ap (λ ps. reacts_unless (places ps) m (record v { waits = answered_to m v.waits })) (none_settled n m u v.waits.waiting) ∙ reacts_named n m (record v { waits = answered_to m v.waits }) u h

named_waiting : (i : ℕ) (v : Seen) (b : Bool) → list_any (λ p. is_same (Reply i) p.awaits) v.waits.waiting ≡ b → (named_by (Some i) v).waits.waiting ≡ v.waits.waiting
named_waiting i v true e = rw e refl
named_waiting i v false e = rw e refl

named_listed : (n : ℕ) (v : Seen) → list_any (λ p. is_same (Reply n) p.awaits) v.waits.waiting ≡ true → is_listed (named_by (Some n) v).waits.excused (Reply n) ≡ true
named_listed n v e = rw e (listed_new n v.waits.excused)

first_named : (s : Setup) (h : List Act) (now n : ℕ) (r : Pending) (m : MessageValues) (rest : List ℕ) → (seen s h).stage ≡ Ready → front (seen s h).unread ≡ Whole m rest →
    unready_in m.command.body ≡ Some n → request_at r.place (seen s h).waits.waiting ≡ Some r → r.awaits ≡ Reply n → Named n r (seen s (Takes now ∷ h))
first_named s h now n r m rest ready e unready at is =
    let v = seen s h in
    let u = record (ticked now v) { unread = rest } in
    let a = record u { waits = answered_to m u.waits } in
    let x = is_unready_body n m m.command.body refl unready in
    let rise = rising s h in
    let after_is : seen s (Takes now ∷ h) ≡ named_by (Some n) a = takes_ready now v m rest ready e ∙ received_named n m u x unready in
    let left : request_at r.place a.waits.waiting ≡ Some r =
    found_filter (λ p. not (answers m p.awaits)) r.place 0 v.waits.waiting v.waits.queued r rise at ∙ ap (λ b. cond (not b) (Some r) None) (answers_none n m x r.awaits) in
    let waits = there_waits n r.place r a.waits.waiting left is in
    let lt = place_below r.place 0 v.waits.waiting v.waits.queued r rise at in
    let more = grows (Takes now) v in
    record {
      below = omega (arith, lt, more);
      waits = inr (
        ap (λ w. request_at r.place w.waits.waiting) after_is ∙ ap (request_at r.place) (named_waiting n a true waits) ∙ left,
        ap (λ w. is_listed w.waits.excused (Reply n)) after_is ∙ named_listed n a waits,
      );
    }

front_named : (s : Setup) (h : List Act) (now n : ℕ) (r : Pending) (f : Front) → (seen s h).stage ≡ Ready → front (seen s h).unread ≡ f →
    names f ≡ Some n → request_at r.place (seen s h).waits.waiting ≡ Some r → r.awaits ≡ Reply n → Named n r (seen s (Takes now ∷ h))
front_named s h now n r Short ready e named at is = absurd cc
front_named s h now n r (Refused x) ready e named at is = absurd cc
front_named s h now n r (Whole m rest) ready e named at is = first_named s h now n r m rest ready e named at is

pub named_is_not_due : NamedIsNotDue
named_is_not_due s later h now n r ready named at is creates moment =
    never_due n r (seen s (later ++ Takes now ∷ h)) moment is creates
    (all_named n r s later (Takes now ∷ h) is (front_named s h now n r (front (seen s h).unread) ready refl named at is))
