-- The tickets that are drawn are those of the calls of the history and of their parts.
use Rattle.std.proofs.Common.{◌≡◌, ◌∙◌, ℕ, sym, ap, List, [], ◌∷◌, ◌++◌, refl, map, Some, None, true, false, cond}
use Rattle.pulsar_run.specs.Run.{in_order, steps_done, with_effects}
use Rattle.pulsar_calls.specs.declared.act.Act.{Act}
use Rattle.pulsar_calls.specs.declared.act.Act.TheVariants.{Comes, Told}
use Rattle.pulsar_calls.specs.declared.act.Notice.{Notice}
use Rattle.pulsar_calls.specs.declared.act.Part.{Part}
use Rattle.pulsar_calls.specs.declared.act.Part.TheVariants.{Calls}
use Rattle.pulsar_acts.specs.declared.tables.Tables.{Tables}
use Rattle.pulsar_calls.specs.Content.{Heard, Shown, Called, Ticked}
use Rattle.pulsar_acts.specs.Effects.{effects}
use Rattle.pulsar_calls.specs.Order.{effect_below}
use Rattle.pulsar_acts.specs.Rules.{at_once, brings, further, parts}
use Rattle.pulsar_acts.specs.Run.{Entry, Begins, Then, IsRun, Rests, agenda, heard_to, rules, steps, tickets_in, view}
use Rattle.pulsar_calls.specs.Steps.{Step}
use Rattle.pulsar_agenda.specs.Agenda.{first_of, rest, rest_of}
use Rattle.pulsar_client.specs.History.{Stands}
use Rattle.pulsar_acts.specs.View.{View, drawn_after, is_live}
use Rattle.pulsar_machine.specs.Options.{Options}
use Rattle.pulsar_client.proofs.Acts.{Each, begun_same}
use Rattle.pulsar_client.proofs.Single.{IsMany, NoSingle, at_once_many, further_many, ticks_many}

-- WHAT IS LEFT TO DRAW

abbrev acts_drawn : List Act → ℕ → ℕ
acts_drawn [] n = n
acts_drawn (a ∷ xs) n = acts_drawn xs (drawn_after a n)

abbrev parts_drawn : List Part → ℕ → ℕ
parts_drawn [] n = n
parts_drawn (p ∷ ps) n = parts_drawn ps (drawn_after (Comes p) n)

-- what may come beside others, and what arises at once, draws none

part_draws : (p : Part) (n : ℕ) → IsMany p → drawn_after (Comes p) n ≡ n
part_draws (Calls asked advice) n h = absurd cc
part_draws _ n h = refl

act_draws : (a : Act) (n : ℕ) → NoSingle a → drawn_after a n ≡ n
act_draws (Comes p) n h = part_draws p n h
act_draws _ n h = refl

acts_none : (ys xs : List Act) (n : ℕ) → Each NoSingle ys → acts_drawn (ys ++ xs) n ≡ acts_drawn xs n
acts_none [] xs n k = refl
acts_none (a ∷ ys) xs n k = ap (acts_drawn (ys ++ xs)) (act_draws a n k.0) ∙ acts_none ys xs n k.1

parts_none : (ps qs : List Part) (n : ℕ) → Each IsMany ps → parts_drawn (ps ++ qs) n ≡ parts_drawn qs n
parts_none [] qs n k = refl
parts_none (p ∷ ps) qs n k = ap (parts_drawn (ps ++ qs)) (part_draws p n k.0) ∙ parts_none ps qs n k.1

only_none : (ps : List Part) (n : ℕ) → Each IsMany ps → parts_drawn ps n ≡ n
only_none [] n k = refl
only_none (p ∷ ps) n k = ap (parts_drawn ps) (part_draws p n k.0) ∙ only_none ps n k.1

-- what is first has drawn
moved : (now : List Act) (here : List Notice) (behind : List (List Notice)) (ps : List Part) (a : Act) (n : ℕ) → first_of now here behind ps ≡ Some a →
    parts_drawn (rest_of now here behind ps).parts (acts_drawn (rest_of now here behind ps).now (drawn_after a n)) ≡ parts_drawn ps (acts_drawn now n)
moved (b ∷ now) here behind ps a n h = let e : b ≡ a = (let f : Some b ≡ Some a = h in cc) in
    ap (λ x. parts_drawn ps (acts_drawn now (drawn_after x n))) (sym e)
moved [] (m ∷ here) behind ps a n h = let e : Told m ≡ a = (let f : Some (Told m) ≡ Some a = h in cc) in ap (λ x. parts_drawn ps (drawn_after x n)) (sym e)
moved [] [] (cause ∷ behind) ps a n h = moved [] cause behind ps a n h
moved [] [] [] (p ∷ ps) a n h = let e : Comes p ≡ a = (let f : Some (Comes p) ≡ Some a = h in cc) in ap (λ x. parts_drawn ps (drawn_after x n)) (sym e)
moved [] [] [] [] a n h = absurd cc

rested : (now : List Act) (here : List Notice) (behind : List (List Notice)) (ps : List Part) (n : ℕ) → first_of now here behind ps ≡ None →
    parts_drawn ps (acts_drawn now n) ≡ n
rested (b ∷ now) here behind ps n h = absurd cc
rested [] (m ∷ here) behind ps n h = absurd cc
rested [] [] (cause ∷ behind) ps n h = rested [] cause behind ps n h
rested [] [] [] (p ∷ ps) n h = absurd cc
rested [] [] [] [] n h = refl

-- EVENTS

event_drawn : (o : Options) (v : View) (e : Heard) (n : ℕ) → parts_drawn (parts o v e) n ≡ heard_to e n
event_drawn o v (Called asked) n = refl
event_drawn o v (Ticked now) n =
    elim (is_live v (Ticked now)) as (λ b. parts_drawn (cond b (brings o.policies v (Ticked now)) []) n ≡ n)
    [ true ↦ only_none (brings o.policies v (Ticked now)) n (ticks_many o.policies v now) | false ↦ refl ]
event_drawn o v e n = elim (is_live v e) as (λ b. parts_drawn (cond b (brings o.policies v e) []) n ≡ n) [ true ↦ refl | false ↦ refl ]

-- ALL

tickets_same : (xs : List Shown) (ss : List Step) → tickets_in (map (in_order effect_below) (with_effects xs ss)) ≡ tickets_in (map (in_order effect_below) ss)
tickets_same xs [] = refl
tickets_same xs (s ∷ ss) = refl

counted : (o : Options) (log : List Entry) → IsRun o log →
    parts_drawn (agenda o log).parts (acts_drawn (agenda o log).now (view o log).calls.drawn) ≡ tickets_in (steps o log)
counted o [] run = refl
counted o (Begins e ∷ log) (run, rests) =
    let g = agenda o log in
    let v = view o log in
    let so_far : v.calls.drawn ≡ tickets_in (steps o log) = sym (rested g.now g.here g.behind g.parts v.calls.drawn rests) ∙ counted o log run in
    let same : (view o (Begins e ∷ log)).calls.drawn ≡ v.calls.drawn = begun_same (λ u. u.calls.drawn) e v refl in
    event_drawn o v e (view o (Begins e ∷ log)).calls.drawn ∙ ap (heard_to e) (same ∙ so_far)
counted o (Then a ∷ log) (run, first_is) =
    let g = agenda o log in
    let v = view o log in
    parts_none (further v a) (rest g).parts (acts_drawn (at_once v a ++ (rest g).now) (drawn_after a v.calls.drawn)) (further_many v a)
    ∙ ap (parts_drawn (rest g).parts) (acts_none (at_once v a) (rest g).now (drawn_after a v.calls.drawn) (at_once_many v a))
    ∙ moved g.now g.here g.behind g.parts a v.calls.drawn first_is
    ∙ counted o log run
    ∙ sym (tickets_same (effects v a) (steps_done rules o log))

pub tickets_are : (o : Options) (log : List Entry) → IsRun o log → Rests o log → (view o log).calls.drawn ≡ tickets_in (steps o log)
tickets_are o log run rests =
    let g = agenda o log in
    sym (rested g.now g.here g.behind g.parts (view o log).calls.drawn rests) ∙ counted o log run

-- the tickets of tables are those of a history that they stand for
pub ticket_is : (c : Tables) {o : Options} {h : List Step} → Stands o c h → c.tickets ≡ tickets_in h
ticket_is c {o} {h} s = ap (λ v. v.calls.drawn) s.sees ∙ tickets_are o s.log s.run s.rests ∙ ap tickets_in (sym s.same)
