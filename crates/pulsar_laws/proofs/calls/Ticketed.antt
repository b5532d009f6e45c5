-- A call that begins has a ticket that was drawn, and never the greatest; and a consumer has that of a call that began.
use Rattle.std.proofs.Common.{◌≡◌, ◌∙◌, sym, ap, subst, ℕ, ◌+◌, ◌<◌, arith, List, [], ◌∷◌, ◌++◌, refl, true, false, cond, ◌==◌, ◌&&◌, Option, Some, None, inl, inr}
use Rattle.std.proofs.lemmas.Bool.{and_parts, cases_Bool, eqb-true}
use Rattle.std.proofs.lemmas.Bool.Decides.{nat_tests}
use Rattle.pulsar_laws.proofs.ActWords.{Act, Action, Answers, Asked, Call, Calls, Comes, Consumer, Does, Heard, is_same, lacks_tickets, Makes, Outcome, Part, Producer, Rest, shares, Starts, Told, Verdict, Who}
use Rattle.pulsar_laws.proofs.PlanWords.{begins, Gives, Plan, PlanTransition, Stays, told}
use Rattle.pulsar_laws.proofs.RunWords.{agenda, at_once, Begins, begun_same, called, consumers_after, does, Each, each_append, each_first, each_map, each_rest, Entry, first, follows, follows_some, is_served, IsRun, Options, performs, rest, StartsIn, stays_some, Then, told_some, view, View}
use Rattle.pulsar_messages.specs.Claims.{is_spent}
use Rattle.pulsar_calls.specs.declared.act.Makes.TheVariants as makes
use Rattle.pulsar_consumer_table.specs.Consumers.{Member, member_by}
use Rattle.pulsar_acts.specs.View.{drawn_after, member_acts, member_born, member_made, stand_after}
use Rattle.pulsar_client.proofs.Acts.{called_each}
use Rattle.pulsar_laws.proofs.Cases.{none_some}
use Rattle.pulsar_run.proofs.Things.{IsNewIn, WasIn, came}
use Rattle.pulsar_laws.proofs.consumers.Members.{born_joins}
use Rattle.pulsar_laws.proofs.calls.Quiet.{IsQuiet, comes_quiet, performs_quiet}
use Rattle.pulsar_client.proofs.Raising.{IsRaised, raises}

-- a call whose ticket is not the greatest, or another than a call
abbrev pub Began : Who → Type 0
Began (Call t) = is_spent t ≡ false
Began (Consumer n t) = Unit {0}
Began (Producer n) = Unit {0}

pub same_began : (w who : Who) → is_same w who ≡ true → Began who → Began w
same_began (Call t) (Call u) h k = subst (λ n. is_spent n ≡ false) (sym (eqb-true t u (and_parts (t == u) (t == u) h).0)) k
same_began (Call t) (Consumer n u) h k = absurd cc
same_began (Call t) (Producer n) h k = absurd cc
same_began (Consumer m t) who h k = tt
same_began (Producer m) who h k = tt

-- the greatest ticket is that of another
pub apart : (w : Who) (n : ℕ) → Began w → is_spent n ≡ true → is_same w (Call n) ≡ false
apart (Call t) n k h = elim (cases_Bool (t == n)) [
  | inl e ↦ (let f : true ≡ false = sym h ∙ sym (ap is_spent (eqb-true t n e)) ∙ k in absurd cc)
  | inr e ↦ ap (λ b. b && b) e
]
apart (Consumer m t) n k h = refl
apart (Producer m) n k h = refl

-- one with such a ticket, which was drawn: so many were
abbrev IsDrawn : ℕ → Who → Type 0
IsDrawn n (Call t) = t < n
IsDrawn n (Consumer m t) = Unit {0}
IsDrawn n (Producer m) = Unit {0}

abbrev pub Has : ℕ → Who → Type 0
Has n who = Began who × IsDrawn n who

same_has : (n : ℕ) (w who : Who) → is_same w who ≡ true → Has n who → Has n w
same_has n (Call t) (Call u) h k = subst (λ m. Has n (Call m)) (sym (eqb-true t u (and_parts (t == u) (t == u) h).0)) k
same_has n (Call t) (Consumer m u) h k = absurd cc
same_has n (Call t) (Producer m) h k = absurd cc
same_has n (Consumer m t) who h k = (tt, tt)
same_has n (Producer m) who h k = (tt, tt)

-- what was drawn stays so
has_more : (a : Act) (n : ℕ) (who : Who) → Has n who → Has (drawn_after a n) who
has_more (Comes (Calls asked advice)) n (Call t) k =
    (k.0, (let d : t < n = k.1 in elim (lacks_tickets n (shares asked)) as (λ b. t < cond b n (n + 1 + shares asked)) [ true ↦ d | false ↦ omega (arith, d) ]))
has_more (Comes (Calls asked advice)) n (Consumer m t) k = (tt, tt)
has_more (Comes (Calls asked advice)) n (Producer m) k = (tt, tt)
has_more _ n who k = k

-- such a one starts, and makes a consumer
abbrev MakesSo : ℕ → Who → Makes → Type 0
MakesSo n who (makes.Consumer made) = Has n who
MakesSo n who (makes.RawConsumer l made) = Has n who
MakesSo n who _ = Unit {0}

abbrev pub IsDue : ℕ → Act → Type 0
IsDue n (Starts who p) = Has n who
IsDue n (Answers who verdict) = MakesSo n who verdict.makes
IsDue n _ = Unit {0}

pub served_due : (n : ℕ) (a : Act) → is_served a ≡ true → IsDue n a
served_due n (Starts who p) h = absurd cc
served_due n (Answers who verdict) h = absurd cc
served_due n _ h = tt

quiet_due : (n : ℕ) (a : Act) → IsQuiet a → IsDue n a
quiet_due n (Starts who p) h = absurd cc
quiet_due n (Answers who verdict) h = absurd cc
quiet_due n _ h = tt

makes_more : (a : Act) (n : ℕ) (who : Who) (m : Makes) → MakesSo n who m → MakesSo (drawn_after a n) who m
makes_more a n who (makes.Consumer made) k = has_more a n who k
makes_more a n who (makes.RawConsumer l made) k = has_more a n who k
makes_more a n who _ k = tt

due_more : (a : Act) (n : ℕ) (x : Act) → IsDue n x → IsDue (drawn_after a n) x
due_more a n (Starts who p) k = has_more a n who k
due_more a n (Answers who verdict) k = makes_more a n who verdict.makes k
due_more a n _ k = tt

-- WHAT ARISES

does_due : (n : ℕ) (who : Who) (action : Action) → Each (IsDue n) (does who action)
does_due n who Rest = tt
does_due n who _ = (tt, tt)

makes_so : (n : ℕ) (who : Who) (m : Makes) → Has n who → MakesSo n who m
makes_so n who (makes.Consumer made) k = k
makes_so n who (makes.RawConsumer l made) k = k
makes_so n who _ k = tt

follows_due : (n : ℕ) (who : Who) (turn : PlanTransition) → Has n who → Each (IsDue n) (follows who turn)
follows_due n who (Stays plan action) k = does_due n who action
follows_due n who (Gives verdict) k = (makes_so n who verdict.makes k, tt)

some_due : (n : ℕ) (who : Who) (row : Option Plan) (o : Outcome) → ((plan : Plan) → row ≡ Some plan → Has n who) →
    Each (IsDue n) (follows_some who (told_some row o))
some_due n who None o k = tt
some_due n who (Some plan) o k = follows_due n who (told plan o) (k plan refl)

-- none of the tickets that a call draws is the greatest
pub not_spent : (t drawn n : ℕ) → lacks_tickets drawn n ≡ false → t < drawn + 1 + n → is_spent t ≡ false
not_spent t drawn n left low = grind (arith, nat_tests)

start_due : (n k : ℕ) → lacks_tickets n k ≡ false → (a : Act) → StartsIn n (n + 1 + k) a → IsDue (n + 1 + k) a
start_due n k left (Starts (Call t) p) in_them = (not_spent t n k left in_them.1, in_them.1)
start_due n k left _ in_them = absurd in_them

called_due : (v : View) (advice : List (Option ℕ)) (asked : Asked) →
    Each (IsDue (drawn_after (Comes (Calls asked advice)) v.calls.drawn)) (called v advice asked)
called_due v advice asked =
    called_each (IsDue (drawn_after (Comes (Calls asked advice)) v.calls.drawn)) v advice asked (λ e. tt)
    (λ e. subst (λ b. (a : Act) → StartsIn v.calls.drawn (v.calls.drawn + 1 + shares asked) a →
    IsDue (cond b v.calls.drawn (v.calls.drawn + 1 + shares asked)) a) (sym e)
    (start_due v.calls.drawn (shares asked) e))

-- a verdict leaves only topic producers and consumers behind that begin
left_due : (n : ℕ) (who : Who) (verdict : Verdict) (a : Act) → IsRaised (Answers who verdict) a → IsDue n a
left_due n who verdict (Starts (Call t) p) h = absurd cc
left_due n who verdict (Starts (Consumer m t) p) h = (tt, tt)
left_due n who verdict (Starts (Producer m) p) h = (tt, tt)
left_due n who verdict (Answers w u) h = absurd cc
left_due n who verdict _ h = tt

comes_due : (v : View) (p : Part) → Each (IsDue (drawn_after (Comes p) v.calls.drawn)) (at_once v (Comes p))
comes_due v (Calls asked advice) = called_due v advice asked
comes_due v p = each_map IsQuiet (IsDue (drawn_after (Comes p) v.calls.drawn)) (at_once v (Comes p)) (quiet_due (drawn_after (Comes p) v.calls.drawn))
    (comes_quiet v p refl)

-- ALONG A LOG

-- who has a plan, and who is due
pub record IsTicketed (o : Options) (log : List Entry) : Type 0 where
  stands : (w : Who) (plan : Plan) → (view o log).stand w ≡ Some plan → Has (view o log).calls.drawn w
  pub due : Each (IsDue (view o log).calls.drawn) (agenda o log).now
  consumers : (t : ℕ) (m : Member) → (view o log).consumers.rows t ≡ Some m → Has (view o log).calls.drawn (Call t)

-- what a row was made of was there
told_was : (row : Option Plan) (o : Outcome) (plan : Plan) → stays_some (told_some row o) ≡ Some plan → (old : Plan) × (row ≡ Some old)
told_was None o plan h = absurd (none_some h)
told_was (Some old) o plan h = (old, refl)

module _ (o : Options) (log : List Entry) (k : IsTicketed o log) where
  abbrev drawn : ℕ
  drawn = (view o log).calls.drawn

  next_stands : (a : Act) → IsDue drawn a → (w : Who) (plan : Plan) → stand_after a w ((view o log).stand w) ≡ Some plan → Has (drawn_after a drawn) w
  next_stands (Starts who p) is_due w plan h = elim (cases_Bool (is_same w who)) [
    | inl e ↦ same_has drawn w who e is_due
    | inr e ↦ k.stands w plan (rw e at h)
  ]
  next_stands (Told n) is_due w plan h = elim (cases_Bool (is_same w n.who)) [
    | inl e ↦ (let was = told_was ((view o log).stand w) n.outcome plan (rw e at h) in k.stands w was.0 was.1)
    | inr e ↦ k.stands w plan (rw e at h)
  ]
  next_stands (Comes p) is_due w plan h = has_more (Comes p) drawn w (k.stands w plan h)
  next_stands _ is_due w plan h = k.stands w plan h

  arises : (a : Act) → IsDue drawn a → Each (IsDue (drawn_after a drawn)) (at_once (view o log) a)
  arises (Comes p) is_due = comes_due (view o log) p
  arises (Starts who p) is_due = follows_due drawn who (begins p) is_due
  arises (Told n) is_due = some_due drawn n.who ((view o log).stand n.who) n.outcome (λ plan h. k.stands n.who plan h)
  arises (Does who action) is_due = each_map IsQuiet (IsDue drawn) (performs (view o log) who action) (quiet_due drawn) (performs_quiet (view o log) who action)
  arises (Answers who verdict) is_due =
      each_map (IsRaised (Answers who verdict)) (IsDue drawn) (at_once (view o log) (Answers who verdict)) (left_due drawn who verdict)
      (raises (view o log) (Answers who verdict))
  arises _ is_due = tt

  from_makes : (t : ℕ) (x : Makes) (m : Member) → MakesSo drawn (Call t) x →
      member_made (view o log).links.live (view o log).consumers.next_key x ≡ Some m → Has drawn (Call t)
  from_makes t (makes.Consumer made) m is_due e = is_due
  from_makes t (makes.RawConsumer l made) m is_due e = is_due
  from_makes t makes.Nothing m is_due e = absurd cc
  from_makes t makes.Client m is_due e = absurd cc
  from_makes t (makes.Producer made) m is_due e = absurd cc

  next_consumers : (a : Act) → IsDue drawn a → (t : ℕ) (m : Member) → (consumers_after (view o log) a).rows t ≡ Some m → Has (drawn_after a drawn) (Call t)
  next_consumers a is_due t m h =
      elim (came member_by (member_born (view o log) t a) false (member_acts (view o log) t a) ((view o log).consumers.rows t) m h) [
        | WasIn w ↦ has_more a drawn (Call t) (k.consumers t w.before w.was)
        | IsNewIn b ↦
            (let j = born_joins (view o log) a t m b in
            has_more a drawn (Call t) (from_makes t j.verdict.makes m (subst (IsDue drawn) j.is_act is_due) j.makes))
      ]

  next_ticketed : (a : Act) → first (agenda o log) ≡ Some a → IsTicketed o (Then a ∷ log)
  next_ticketed a fits =
      let now = (agenda o log).now in
      let here = (agenda o log).here in
      let behind = (agenda o log).behind in
      let parts = (agenda o log).parts in
      let is_due : IsDue drawn a = each_first (IsDue drawn) now here behind parts a (served_due drawn) k.due fits in
      let left = each_rest (IsDue drawn) now here behind parts k.due in
      record {
        stands = next_stands a is_due;
        due = each_append (IsDue (drawn_after a drawn)) (at_once (view o log) a) (rest (agenda o log)).now (arises a is_due)
            (each_map (IsDue drawn) (IsDue (drawn_after a drawn)) (rest (agenda o log)).now (due_more a drawn) left);
        consumers = next_consumers a is_due;
      }

begins_ticketed : (o : Options) (log : List Entry) (e : Heard) → IsTicketed o log → IsTicketed o (Begins e ∷ log)
begins_ticketed o log e k =
    let s = begun_same (λ v. v.stand) e (view o log) refl in
    let m = begun_same (λ v. v.consumers) e (view o log) refl in
    let d = begun_same (λ v. v.calls.drawn) e (view o log) refl in
    record {
      stands = λ w plan h. subst (λ n. Has n w) (sym d) (k.stands w plan (sym (ap (λ f. f w) s) ∙ h));
      due = tt;
      consumers = λ t sub h. subst (λ n. Has n (Call t)) (sym d) (k.consumers t sub (sym (ap (λ cs. cs.rows t) m) ∙ h));
    }

pub is_ticketed : (o : Options) (log : List Entry) → IsRun o log → IsTicketed o log
is_ticketed o [] run = record { stands = λ w plan h. absurd (none_some h); due = tt; consumers = λ t s h. absurd (none_some h) }
is_ticketed o (Begins e ∷ log) run = begins_ticketed o log e (is_ticketed o log run.0)
is_ticketed o (Then a ∷ log) run = next_ticketed o log (is_ticketed o log run.0) a run.1

pub consumer_ticket : (o : Options) (log : List Entry) (t : ℕ) (m : Member) → IsRun o log → (view o log).consumers.rows t ≡ Some m → is_spent t ≡ false
consumer_ticket o log t s run h = ((is_ticketed o log run).consumers t s h).0

pub older_run : (o : Options) (later older : List Entry) → IsRun o (later ++ older) → IsRun o older
older_run o [] older run = run
older_run o (Begins e ∷ later) older run = older_run o later older run.0
older_run o (Then a ∷ later) older run = older_run o later older run.0

pub older_ticket : (o : Options) (later older : List Entry) (t : ℕ) (m : Member) → IsRun o (later ++ older) → (view o older).consumers.rows t ≡ Some m →
    is_spent t ≡ false
older_ticket o later older t m run h = consumer_ticket o older t m (older_run o later older run) h
