-- A part of a call or of a poll is alone in its event.
use Rattle.std.proofs.Common.{◌≡◌, ◌⊎◌, inl, inr, ◌∙◌, sym, ap, subst, ℕ, ◌+◌, List, [], ◌∷◌, refl, drop, Bool, true, false, cond, Option, Some, map}
use Rattle.std.proofs.lemmas.Bool.{cases_Bool}
use Rattle.pulsar_run.specs.Run.{first_of, rest, rest_of}
use Rattle.pulsar_session.specs.Link.{due}
use Rattle.pulsar_producer.specs.Routing.{Policy}
use Rattle.pulsar_calls.specs.declared.act.Act.{Act}
use Rattle.pulsar_calls.specs.declared.act.Act.TheVariants.{Comes}
use Rattle.pulsar_calls.specs.declared.act.Alarm.{Alarm}
use Rattle.pulsar_calls.specs.declared.act.Arrival.{Arrival}
use Rattle.pulsar_calls.specs.declared.act.Arrival.TheVariants.{Nothing, Bad}
use Rattle.pulsar_calls.specs.declared.act.LinkAct.TheVariants.{Reads}
use Rattle.pulsar_calls.specs.declared.act.Notice.{Notice}
use Rattle.pulsar_calls.specs.declared.act.Part.{Part}
use Rattle.pulsar_calls.specs.declared.act.Part.TheVariants.{Calls, ToLink, Rings, Polls}
use Rattle.pulsar_links.specs.Alarms.{ringing}
use Rattle.pulsar_calls.specs.Content.{Asked, Heard, Called, Ticked, Poll}
use Rattle.pulsar_producer_table.specs.Producers.{advice}
use Rattle.pulsar_acts.specs.Rules.{at_once, brings, call_part, further, parts, reads_on}
use Rattle.pulsar_links.specs.LinkRules.{due_part, over_links}
use Rattle.pulsar_acts.specs.Run.{Entry, Begins, Then, IsRun, agenda, rules, view}
use Rattle.pulsar_acts.specs.View.{View, is_live}
use Rattle.pulsar_machine.specs.Options.{Options}
use Rattle.pulsar_links.specs.Seats.{Seat, arrival_at}
use Rattle.pulsar_client.proofs.Acts.{Each, begun_same, each_append, each_map, each_rest, over_each}
use Rattle.pulsar_client.proofs.Raising.{IsRaised, may, raises}

-- WHAT IS ALONE IN ITS EVENT

-- a call, and a poll; all others may come beside others, and arise at once
abbrev pub is_single : Part → Bool
is_single (Calls asked advice) = true
is_single (Polls t) = true
is_single _ = false

abbrev pub IsMany : Part → Type 0
IsMany p = is_single p ≡ false

abbrev pub comes_single : Act → Bool
comes_single (Comes p) = is_single p
comes_single _ = false

abbrev pub NoSingle : Act → Type 0
NoSingle a = comes_single a ≡ false

raised_many : (a b : Act) → IsRaised a b → NoSingle b
raised_many a (Comes (Calls asked advice)) h = absurd cc
raised_many a (Comes (Polls t)) h = absurd cc
raised_many a _ h = refl

pub at_once_many : (v : View) (a : Act) → Each NoSingle (at_once v a)
at_once_many v a = each_map (IsRaised a) NoSingle (at_once v a) (raised_many a) (raises v a)

pub now_many : (o : Options) (log : List Entry) → Each NoSingle (agenda o log).now
now_many o [] = tt
now_many o (Begins e ∷ log) = tt
now_many o (Then a ∷ log) =
    each_append NoSingle (at_once (view o log) a) (rest (agenda o log)).now (at_once_many (view o log) a)
    (each_rest NoSingle (agenda o log).now (agenda o log).here (agenda o log).behind (agenda o log).parts (now_many o log))

-- WHERE SUCH A PART IS FIRST

-- nothing else is left before it
pub record IsFirstPart (p : Part) (now : List Act) (here : List Notice) (behind : List (List Notice)) (ps : List Part) : Type 0 where
  pub front : ps ≡ p ∷ (rest_of now here behind ps).parts
  pub no_more : (rest_of now here behind ps).now ≡ []

pub part_first : (now : List Act) (here : List Notice) (behind : List (List Notice)) (ps : List Part) (p : Part) → is_single p ≡ true → Each NoSingle now →
    first_of rules now here behind ps ≡ Some (Comes p) → IsFirstPart p now here behind ps
part_first (a ∷ now) here behind ps p s k h =
    (let e : a ≡ Comes p = cc in let f : comes_single a ≡ true = ap comes_single e ∙ s in let g : true ≡ false = sym f ∙ k.0 in absurd cc)
part_first [] (n ∷ here) behind ps p s k h = absurd cc
part_first [] [] (cause ∷ behind) ps p s k h = let r = part_first [] cause behind ps p s tt h in record { front = r.front; no_more = r.no_more }
part_first [] [] [] (q ∷ ps) p s k h = let e : q ≡ p = cc in record { front = ap (λ x. x ∷ ps) e; no_more = refl }
part_first [] [] [] [] p s k h = absurd cc

-- PARTS

-- the event of which it is the part, behind which this is seen
abbrev pub IsPartOf : Options → View → Part → Heard → Type 0
IsPartOf o v (Calls asked advised) e = (e ≡ Called asked) × (advised ≡ advice o.policies v.producers asked)
IsPartOf o v (Polls t) e = e ≡ Poll t
IsPartOf o v _ e = ⊥

record OneOf (o : Options) (v : View) (ps : List Part) (e : Heard) : Type 0 where
  part : Part
  is_it : ps ≡ part ∷ []
  of_it : IsPartOf o v part e

due_many : (now l : ℕ) (seat : Seat) → Each IsMany (due_part now l seat)
due_many now l seat = elim (cases_Bool (due now seat.seen)) [ inl e ↦ rw e (refl, tt) | inr e ↦ rw e tt ]

rings_many : (alarms : List Alarm) → Each IsMany (map Rings alarms)
rings_many [] = tt
rings_many (a ∷ alarms) = (refl, rings_many alarms)

pub ticks_many : (policies : List Policy) (v : View) (now : ℕ) → Each IsMany (brings policies v (Ticked now))
ticks_many policies v now =
    each_append IsMany (over_links (due_part now) v.links) (map Rings (ringing now v.alarms)) (over_each IsMany (due_part now) v.links (due_many now))
    (rings_many (ringing now v.alarms))

reads_many : (l : ℕ) (a : Arrival) → Each IsMany (reads_on l a)
reads_many l Nothing = tt
reads_many l (Bad cause) = tt
reads_many l _ = (refl, tt)

pub further_many : (v : View) (a : Act) → Each IsMany (further v a)
further_many v (Comes (ToLink l Reads)) = reads_many l (arrival_at (v.links.live l))
further_many v _ = tt

brings_one : (o : Options) (v : View) (e : Heard) → Each IsMany (brings o.policies v e) ⊎ OneOf o v (brings o.policies v e) e
brings_one o v (Called asked) = inr (record { part = call_part o.policies v asked; is_it = refl; of_it = (refl, refl) })
brings_one o v (Poll t) = inr (record { part = Polls t; is_it = refl; of_it = refl })
brings_one o v (Ticked now) = inl (ticks_many o.policies v now)
brings_one o v _ = inl (refl, tt)

parts_one : (o : Options) (v : View) (e : Heard) → Each IsMany (parts o v e) ⊎ OneOf o v (parts o v e) e
parts_one o v e =
    elim (is_live v e) as (λ b. Each IsMany (cond b (brings o.policies v e) []) ⊎ OneOf o v (cond b (brings o.policies v e) []) e)
    [ true ↦ brings_one o v e | false ↦ inl tt ]

record Alone (o : Options) (log : List Entry) : Type 0 where
  event : Heard
  older : List Entry
  is_there : log ≡ Begins event ∷ older
  one : OneOf o (view o older) (agenda o log).parts event

many_rest : (now : List Act) (here : List Notice) (behind : List (List Notice)) (ps : List Part) → Each IsMany ps →
    Each IsMany (rest_of now here behind ps).parts
many_rest (a ∷ now) here behind ps k = k
many_rest [] (n ∷ here) behind ps k = k
many_rest [] [] (cause ∷ behind) ps k = many_rest [] cause behind ps k
many_rest [] [] [] [] k = tt
many_rest [] [] [] (p ∷ ps) k = k.1

-- behind a part that is alone nothing is left
one_rest : (o : Options) (v : View) (ps : List Part) (e : Heard) → OneOf o v ps e → Each IsMany (rest_of {A = Act} {N = Notice} [] [] [] ps).parts
one_rest o v ps e k = subst (λ qs. Each IsMany (drop 1 qs)) (sym k.is_it) tt

alone_rest : (o : Options) (log : List Entry) → Alone o log → Each IsMany (rest (agenda o log)).parts
alone_rest o log k = subst (λ l. Each IsMany (rest (agenda o l)).parts) (sym k.is_there)
    (one_rest o (view o k.older) (parts o (view o k.older) k.event) k.event
    (subst (λ l. OneOf o (view o k.older) (agenda o l).parts k.event) k.is_there k.one))

alone : (o : Options) (log : List Entry) → Each IsMany (agenda o log).parts ⊎ Alone o log
alone o [] = inl tt
alone o (Begins e ∷ log) = elim (parts_one o (view o log) e) [
  | inl many ↦ inl many
  | inr one ↦ inr (record { event = e; older = log; is_there = refl; one = one })
]
alone o (Then a ∷ log) =
    let left : Each IsMany (rest (agenda o log)).parts = elim (alone o log) [
      | inl many ↦ many_rest (agenda o log).now (agenda o log).here (agenda o log).behind (agenda o log).parts many
      | inr k ↦ alone_rest o log k
    ] in
    inl (each_append IsMany (further (view o log) a) (rest (agenda o log)).parts (further_many (view o log) a) left)

-- where it comes its event has just begun
pub record ComesAlone (o : Options) (p : Part) (log : List Entry) : Type 0 where
  pub event : Heard
  pub older : List Entry
  pub is_there : log ≡ Begins event ∷ older
  pub of_it : IsPartOf o (view o older) p event

pub comes_alone : (o : Options) (log : List Entry) (p : Part) → is_single p ≡ true → IsRun o (Then (Comes p) ∷ log) → ComesAlone o p log
comes_alone o log p single run =
    let k = part_first (agenda o log).now (agenda o log).here (agenda o log).behind (agenda o log).parts p single (now_many o log) run.1 in
    elim (alone o log) [
      | inl many ↦
          (let no : Each IsMany (p ∷ (rest (agenda o log)).parts) = subst (Each IsMany) k.front many in
          let f : true ≡ false = sym single ∙ no.0 in
          absurd cc)
      | inr a ↦ record {
        event = a.event;
        older = a.older;
        is_there = a.is_there;
        of_it = subst (λ q. IsPartOf o (view o a.older) q a.event) (head (sym a.one.is_it ∙ k.front)) a.one.of_it;
      }
    ]
  where
    head : {q : Part} {ps : List Part} → q ∷ [] ≡ p ∷ ps → q ≡ p
    head {q} {ps} h = cc

pub poll_comes : (o : Options) (log : List Entry) (t : ℕ) → IsRun o (Then (Comes (Polls t)) ∷ log) → (older : List Entry) × (log ≡ Begins (Poll t) ∷ older)
poll_comes o log t run =
    let k = comes_alone o log (Polls t) refl run in
    (k.older, k.is_there ∙ ap (λ e. Begins e ∷ k.older) k.of_it)

-- a call comes behind its event, with what the policies say there
pub call_comes : (o : Options) (log : List Entry) (asked : Asked) (advised : List (Option ℕ)) → IsRun o (Then (Comes (Calls asked advised)) ∷ log) →
    advised ≡ advice o.policies (view o log).producers asked
call_comes o log asked advised run =
    let k = comes_alone o log (Calls asked advised) refl run in
    let same : (view o log).producers ≡ (view o k.older).producers =
    ap (λ l. (view o l).producers) k.is_there ∙ begun_same (λ v. v.producers) k.event (view o k.older) refl in
    k.of_it.1 ∙ ap (λ ps. advice o.policies ps asked) (sym same)
