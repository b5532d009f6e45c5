-- Some acts come only with a tick, with the alarm of a keep-alive ping, or with the idle check.
use Rattle.std.proofs.Common.{◌≡◌, ◌⊎◌, inl, inr, sym, subst, ℕ, List, [], ◌∷◌, refl, map, Bool, true, false, cond, Option, Some, None}
use Rattle.std.specs.List.{flat_map}
use Rattle.std.specs.Option.{option_to_list}
use Rattle.pulsar_laws.proofs.ActWords.{Act, Alarm, Arrival, CheckIdle, Comes, Ends, Heard, Idles, KeepAlive, Notice, numbers_from, Overdue, Pings, Reads, Rings, Told, ToLink}
use Rattle.pulsar_laws.proofs.RunWords.{Arises, at_once, Begins, Each, each_append, each_either, each_map, Entry, further, In, InOne, InThisStep, is_live, IsRun, joins, Options, over_each, parts, rules, Then, view, View}
use Rattle.pulsar_laws.proofs.LinkWords.{arrival_at, over_links, Seat}
use Rattle.pulsar_session.specs.Link.{due}
use Rattle.pulsar_producer.specs.Routing.{Policy}
use Rattle.pulsar_calls.specs.declared.act.Arrival.TheVariants.{Bad, Nothing}
use Rattle.pulsar_links.specs.Alarms.{ringing}
use Rattle.pulsar_calls.specs.Content.{Ticked}
use Rattle.pulsar_acts.specs.Rules.{brings, reads_on}
use Rattle.pulsar_links.specs.LinkRules.{due_part, on_link}
use Rattle.pulsar_links.specs.Seats.{Links}
use Rattle.pulsar_client.proofs.Raising.{IsRaised, raises}
use Rattle.pulsar_laws.proofs.Lists.{in_append, in_each, in_map}

-- WHAT IS IN A LIST

in_flat_map : {A B : Type 0} (f : A → List B) (y : B) (xs : List A) → In y (flat_map f xs) → (x : A) × In y (f x)
in_flat_map f y [] i = absurd i
in_flat_map f y (x ∷ xs) i = elim (in_append y (f x) (flat_map f xs) i) [ inl j ↦ (x, j) | inr j ↦ in_flat_map f y xs j ]

in_some : {A B : Type 0} (f : A → List B) (y : B) (row : Option A) → In y (flat_map f (option_to_list row)) → (x : A) × (row ≡ Some x) × In y (f x)
in_some f y None i = absurd i
in_some f y (Some x) i = elim (in_append y (f x) [] i) [ inl j ↦ (x, refl, j) | inr j ↦ absurd j ]

-- what all live links give, one of them gives
pub in_links : {A : Type 0} (f : ℕ → Seat → List A) (y : A) (ls : Links) → In y (over_links f ls) →
    (l : ℕ) × (seat : Seat) × (ls.live l ≡ Some seat) × In y (f l seat)
in_links f y ls i =
    let k = in_flat_map (on_link f ls.live) y (numbers_from 0 ls.started) i in
    let s = in_some (f k.0) y (ls.live k.0) k.1 in
    (k.0, s.0, s.1, s.2)

-- what is in a list of one, where a test holds
pub in_one : {A : Type 0} (b : Bool) (x y : A) → In y (cond b (x ∷ []) []) → (b ≡ true) × (y ≡ x)
in_one true x y (inl e) = (refl, e)
in_one true x y (inr i) = absurd i
in_one false x y i = absurd i

-- WHERE AN ACT COMES FROM

pub data Source : Type 0 where
  Tick : Source
  Keeping : Source
  Check : Source
  Any : Source

abbrev pub source : Act → Source
source (Comes (ToLink l (Ends (Overdue queued)))) = Tick
source (Comes (ToLink l (Ends Idles))) = Check
source (Comes (ToLink l Pings)) = Keeping
source (Comes (Rings a)) = Tick
source _ = Any

-- what an entry alone gives
abbrev pub gives : Entry → Source
gives (Begins (Ticked now)) = Tick
gives (Then (Comes (Rings (KeepAlive l)))) = Keeping
gives (Then (Comes (Rings CheckIdle))) = Check
gives _ = Any

abbrev pub Fits : Source → Act → Type 0
Fits s a = (source a ≡ Any) ⊎ (source a ≡ s)

raised_fits : (a b : Act) → IsRaised a b → Fits (gives (Then a)) b
raised_fits (Comes (Rings CheckIdle)) (Comes (ToLink l (Ends Idles))) h = inr refl
raised_fits a (Comes (ToLink l (Ends Idles))) h = absurd cc
raised_fits (Comes (Rings (KeepAlive k))) (Comes (ToLink l Pings)) h = inr refl
raised_fits a (Comes (ToLink l Pings)) h = absurd cc
raised_fits a (Comes (ToLink l (Ends (Overdue queued)))) h = absurd cc
raised_fits a (Comes (Rings x)) h = absurd cc
raised_fits a _ h = inl refl

at_once_fits : (v : View) (a : Act) → Each (Fits (gives (Then a))) (at_once v a)
at_once_fits v a = each_map (IsRaised a) (Fits (gives (Then a))) (at_once v a) (raised_fits a) (raises v a)

abbrev IsAny : Act → Type 0
IsAny a = source a ≡ Any

reads_any : (l : ℕ) (a : Arrival) → Each IsAny (map Comes (reads_on l a))
reads_any l Nothing = tt
reads_any l (Bad cause) = tt
reads_any l _ = (refl, tt)

further_any : (v : View) (a : Act) → Each IsAny (map Comes (further v a))
further_any v (Comes (ToLink l Reads)) = reads_any l (arrival_at (v.links.live l))
further_any v _ = tt

told_any : (ns : List Notice) → Each IsAny (map Told ns)
told_any [] = tt
told_any (n ∷ ns) = (refl, told_any ns)

one_told : (a : Act) (nss : List (List Notice)) → InOne a (map (map Told) nss) → IsAny a
one_told a [] i = absurd i
one_told a (ns ∷ nss) (inl i) = in_each IsAny a (map Told ns) i (told_any ns)
one_told a (ns ∷ nss) (inr i) = one_told a nss i

due_fits : (now l : ℕ) (seat : Seat) → Each (λ p. Fits Tick (Comes p)) (due_part now l seat)
due_fits now l seat = each_either (λ p. Fits Tick (Comes p)) (due now seat.seen) (ToLink l (Ends (Overdue seat.seen.waits.queued)) ∷ []) [] (inr refl, tt) tt

rings_fit : (alarms : List Alarm) → Each (λ p. Fits Tick (Comes p)) (map Rings alarms)
rings_fit [] = tt
rings_fit (a ∷ alarms) = (inr refl, rings_fit alarms)

brings_fits : (policies : List Policy) (v : View) (e : Heard) → Each (λ p. Fits (gives (Begins e)) (Comes p)) (brings policies v e)
brings_fits policies v (Ticked now) =
    each_append (λ p. Fits Tick (Comes p)) (over_links (due_part now) v.links) (map Rings (ringing now v.alarms))
    (over_each (λ p. Fits Tick (Comes p)) (due_part now) v.links (due_fits now)) (rings_fit (ringing now v.alarms))
brings_fits policies v _ = (inl refl, tt)

parts_fits : (o : Options) (v : View) (e : Heard) → Each (λ p. Fits (gives (Begins e)) (Comes p)) (parts o v e)
parts_fits o v e = each_either (λ p. Fits (gives (Begins e)) (Comes p)) (is_live v e) (brings o.policies v e) [] (brings_fits o.policies v e) tt

-- whatever arises at an entry comes from anywhere, or from this entry
pub arises_fits : (o : Options) (a : Act) (e : Entry) (older : List Entry) → Arises rules o a e older → Fits (gives e) a
arises_fits o a (Begins e) older i =
    let p = in_map Comes a (parts o (view o older) e) i in
    subst (Fits (gives (Begins e))) (sym p.2)
    (in_each (λ q. Fits (gives (Begins e)) (Comes q)) p.0 (parts o (view o older) e) p.1 (parts_fits o (view o older) e))
arises_fits o a (Then b) older (inl i) = in_each (Fits (gives (Then b))) a (at_once (view o older) b) i (at_once_fits (view o older) b)
arises_fits o a (Then b) older (inr (inl i)) = inl (in_each IsAny a (map Told (joins (view o older) b)) i (told_any (joins (view o older) b)))
arises_fits o a (Then b) older (inr (inr (inl i))) = inl (one_told a (rules.causes (view o older) b) i)
arises_fits o a (Then b) older (inr (inr (inr i))) = inl (in_each IsAny a (map Comes (further (view o older) b)) i (further_any (view o older) b))

-- each entry of a step that is so is such
pub step_more : (P Q : Entry → List Entry → Type 0) → ((e : Entry) (older : List Entry) → P e older → Q e older) → (log : List Entry) → InThisStep P log →
    InThisStep Q log
step_more P Q f [] i = absurd i
step_more P Q f (Begins e ∷ log) i = f (Begins e) log i
step_more P Q f (Then a ∷ log) (inl i) = inl (f (Then a) log i)
step_more P Q f (Then a ∷ log) (inr i) = inr (step_more P Q f log i)

-- an entry of a step that is so, with the run up to it
pub step_runs : (o : Options) (P : Entry → List Entry → Type 0) (log : List Entry) → IsRun o log → InThisStep P log →
    InThisStep (λ e older. IsRun o (e ∷ older) × P e older) log
step_runs o P [] run i = absurd i
step_runs o P (Begins e ∷ log) run i = (run, i)
step_runs o P (Then a ∷ log) run (inl i) = inl (run, i)
step_runs o P (Then a ∷ log) run (inr i) = inr (step_runs o P log run.0 i)

pub record SomeEntry (P : Entry → List Entry → Type 0) : Type 0 where
  pub entry : Entry
  pub older : List Entry
  pub holds : P entry older

pub step_some : (P : Entry → List Entry → Type 0) (log : List Entry) → InThisStep P log → SomeEntry P
step_some P [] i = absurd i
step_some P (Begins e ∷ log) i = record { entry = Begins e; older = log; holds = i }
step_some P (Then a ∷ log) (inl i) = record { entry = Then a; older = log; holds = i }
step_some P (Then a ∷ log) (inr i) = step_some P log i
