-- A call is made where the user asks for it.
use Rattle.std.proofs.Common.{◌≡◌, inl, inr, ap, subst, ℕ, ◌+◌, List, [], ◌∷◌, refl, Bool, true, false, cond, Option, map}
use Rattle.pulsar_laws.proofs.ActWords.{Act, Asked, Call, Calls, Comes, lacks_tickets, Notice, Part, Procedure, shares, Starts, Told}
use Rattle.pulsar_laws.proofs.RunWords.{Arises, at_once, Begins, called, causes, Entry, further, In, InOne, InThisStep, IsRun, joins, Options, parts, rules, starts, StartsIn, Then, view}
use Rattle.pulsar_run.proofs.Arising.{acts_arise_lem}
use Rattle.pulsar_messages.specs.Claims.{is_spent}
use Rattle.pulsar_laws.proofs.Lists.{in_each, in_map}
use Rattle.pulsar_laws.specs.Laws.{CallsAreMade}
use Rattle.pulsar_producer_table.specs.Producers.{advice}
use Rattle.pulsar_acts.specs.Rules.{call_part}
use Rattle.pulsar_client.proofs.Acts.{late, starts_in}
use Rattle.pulsar_client.proofs.Raising.{IsRaised, OfStart, may, raises}
use Rattle.pulsar_laws.proofs.calls.Sources.{step_more, step_runs, step_some}
use Rattle.pulsar_laws.proofs.calls.Ticketed.{not_spent}
use Rattle.pulsar_client.proofs.Single.{call_comes}

-- A CALL IS MADE

abbrev pub IsMadeAt : Options → ℕ → Procedure → Entry → List Entry → Type 0
IsMadeAt o t p e older =
    (asked : Asked) × (e ≡ Then (Comes (call_part o.policies (view o older) asked))) × (lacks_tickets (view o older).calls.drawn (shares asked) ≡ false)
    × In (Starts (Call t) p) (starts (view o older) (advice o.policies (view o older).producers asked) asked)

-- a call for which tickets are left starts
in_called : (b : Bool) (t : ℕ) (p : Procedure) (xs : List Act) → In (Starts (Call t) p) (cond b (late ∷ []) xs) → (b ≡ false) × In (Starts (Call t) p) xs
in_called true t p xs (inl e) = absurd cc
in_called true t p xs (inr i) = absurd i
in_called false t p xs i = (refl, i)

module _ (o : Options) (t : ℕ) (p : Procedure) where
  abbrev the_start : Act
  the_start = Starts (Call t) p

  no_part : {X : Type 0} (ps : List Part) → In the_start (map Comes ps) → X
  no_part ps i = let k = in_map Comes the_start ps i in let no = k.2 in absurd cc

  none_told : {X : Type 0} (ns : List Notice) → In the_start (map Told ns) → X
  none_told ns i = let k = in_map Told the_start ns i in let no = k.2 in absurd cc

  no_cause : {X : Type 0} (nss : List (List Notice)) → InOne the_start (map (map Told) nss) → X
  no_cause [] i = absurd i
  no_cause (ns ∷ nss) (inl i) = none_told ns i
  no_cause (ns ∷ nss) (inr i) = no_cause nss i

  call_made : (older : List Entry) (asked : Asked) (advised : List (Option ℕ)) → IsRun o (Then (Comes (Calls asked advised)) ∷ older) →
      In the_start (called (view o older) advised asked) → IsMadeAt o t p (Then (Comes (Calls asked advised))) older
  call_made older asked advised run i =
      let same = call_comes o older asked advised run in
      let k = in_called (lacks_tickets (view o older).calls.drawn (shares asked)) t p (starts (view o older) advised asked) i in
      (asked, ap (λ a. Then (Comes (Calls asked a))) same, k.0, subst (λ a. In the_start (starts (view o older) a asked)) same k.1)

  once_made : (b : Act) (older : List Entry) → IsRun o (Then b ∷ older) → In the_start (at_once (view o older) b) → IsMadeAt o t p (Then b) older
  once_made (Comes (Calls asked advised)) older run i = call_made older asked advised run i
  once_made b older run i = (let h : may OfStart b ≡ true = in_each (IsRaised b) the_start (at_once (view o older) b) i (raises (view o older) b) in absurd cc)

  made_at : (e : Entry) (older : List Entry) → IsRun o (e ∷ older) × Arises rules o the_start e older → IsMadeAt o t p e older
  made_at (Begins e) older (run, i) = no_part (parts o (view o older) e) i
  made_at (Then b) older (run, inl i) = once_made b older run i
  made_at (Then b) older (run, inr (inl i)) = none_told (joins (view o older) b) i
  made_at (Then b) older (run, inr (inr (inl i))) = no_cause (causes (view o older) b) i
  made_at (Then b) older (run, inr (inr (inr i))) = no_part (further (view o older) b) i

  -- its ticket is never the greatest
  made_left : (e : Entry) (older : List Entry) → IsMadeAt o t p e older → is_spent t ≡ false
  made_left e older (asked, is, left, i) =
      let v = view o older in
      let k = in_each (StartsIn v.calls.drawn (v.calls.drawn + 1 + shares asked)) the_start (starts v (advice o.policies v.producers asked) asked) i
      (starts_in v (advice o.policies v.producers asked) asked) in
      not_spent t v.calls.drawn (shares asked) left k.1

pub calls_are_made_lem : CallsAreMade
calls_are_made_lem o log t p run =
    let made : InThisStep (IsMadeAt o t p) log =
    step_more (λ e older. IsRun o (e ∷ older) × Arises rules o (Starts (Call t) p) e older) (IsMadeAt o t p) (made_at o t p) log
    (step_runs o (Arises rules o (Starts (Call t) p)) log run.0 (acts_arise_lem _ _ _ _ _ _ _ rules o (Starts (Call t) p) log run)) in
    let some = step_some (IsMadeAt o t p) log made in
    (made_left o t p some.entry some.older some.holds, made)
