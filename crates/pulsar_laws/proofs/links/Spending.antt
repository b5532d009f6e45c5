-- The retries of an attempt are those that its series has made, and one that might go well another time is given up behind as many as are allowed.
use Rattle.std.proofs.Common.{◌≡◌, inl, inr, ◌∙◌, sym, ap, subst, ℕ, ◌+◌, ◌≤◌, arith, nat_lt, List, [], ◌∷◌, refl, Bool, true, false, ◌&&◌, ◌==◌, cond, Option, Some, None}
use Rattle.std.proofs.lemmas.Bool.{cases_Bool}
use Rattle.std.proofs.lemmas.Bool.Decides.{nat_tests}
use Rattle.std.specs.Option.{option_map}
use Rattle.std.specs.Str.{bytes_eq}
use Rattle.pulsar_wire.specs.declared.error.IoKind.{IoKind}
use Rattle.pulsar_wire.specs.declared.error.IoKind.TheVariants.{ConnectionRefused, Other, TimedOut}
use Rattle.pulsar_laws.proofs.ActWords.{Comes, Dials, Does, End, Ends, Get, LinkAct, Overdue, Idles, Retry, Rings, Stops, StopAll, Told, ToLink, Who}
use Rattle.pulsar_laws.proofs.RunWords.{Begins, Chosen, Entry, InThisStep, IsRun, notice, Options, Then, Turned, turned_by, view, View}
use Rattle.pulsar_laws.proofs.LinkWords.{address_key, Base, Becomes, Change, IsOver, Nobody, Pause, Pauses, Place, Remains, Runs, Seat, Series, Serves}
use Rattle.pulsar_calls.specs.declared.act.End.TheVariants.{Broken, Lost, Unopened}
use Rattle.pulsar_calls.specs.declared.act.LinkAct.TheVariants.{Drains, Opens, Pings, Reads}
use Rattle.pulsar_calls.specs.declared.act.Outcome.TheVariants as outcome
use Rattle.pulsar_links.specs.LinkRules.{fails_so}
use Rattle.pulsar_links.specs.Seats.{base_turned, is_passing, is_retryable, nobody, pause_put, pause_with}
use Rattle.pulsar_acts.specs.View.{pause_for, pause_on, waits_on}
use Rattle.pulsar_laws.specs.AddressLaws.{Attempted, AttemptsFollow}
use Rattle.pulsar_laws.specs.Laws.{AttemptEnds}
use Rattle.pulsar_laws.specs.RetryLaws.{AttemptsAreSpent, IsSpent, RetriesAreCounted, attempts_in, is_free}
use Rattle.pulsar_laws.proofs.Cases.{none_some, some_is}
use Rattle.pulsar_laws.proofs.calls.Caused.{outcomes_are_caused_lem}
use Rattle.pulsar_laws.proofs.calls.Sources.{step_more, step_runs}
use Rattle.pulsar_laws.proofs.plans.Standing.{run_older}
use Rattle.pulsar_laws.proofs.links.OneEach.{Both, Same, attempted_free, begins_same, both, gets_same, none_turned, own_key, rings_same, same_key, series_at, series_is, turn}

-- WHAT THE LOG COUNTS

record Counted (o : Options) (log : List Entry) : Type 0 where
  runs : (key : List ℕ) (starter : Who) (n link : ℕ) → series_at (view o log) key ≡ Runs starter n link →
      (attempts_in o key log ≡ n + 1) × (n ≤ o.chosen.connection.max_retries)
  pauses : (l : ℕ) (p : Pause) → (view o log).addresses.pause l ≡ Some p → attempts_in o (address_key p.address) log ≡ p.retries + 1

still : (o : Options) (e : Entry) (log : List Entry) → Same (view o log) (view o (e ∷ log)) →
    ((key : List ℕ) → attempts_in o key (e ∷ log) ≡ attempts_in o key log) → Counted o log → Counted o (e ∷ log)
still o e log s f c = record {
  runs = λ key starter n link h. (let k = c.runs key starter n link (sym (s.series key) ∙ h) in (f key ∙ k.0, k.1));
  pauses = λ l p h. f (address_key p.address) ∙ c.pauses l p (s.pause l p h);
}

-- an act of a link ends a series, or leaves it; and the attempt that is to follow is of one that ran
runs_before : (k : ℕ) (c : Change) (pause : Option Pause) (b : Base) (starter : Who) (n link : ℕ) →
    (base_turned k c pause b).series ≡ Runs starter n link → b.series ≡ Runs starter n link
runs_before k Remains pause b starter n link h = h
runs_before k Becomes pause b starter n link h = absurd cc
runs_before k IsOver None b starter n link h = absurd cc
runs_before k IsOver (Some p) b starter n link h = absurd cc

abbrev RanBefore : Place → Series → Pause → Type 0
RanBefore p s q = (starter : Who) × (link : ℕ) × (s ≡ Runs starter q.retries link) × (q.address ≡ p)

retried : (p : Place) (starter : Who) (n link : ℕ) (b : Bool) (q : Pause) →
    option_map (pause_with p) (cond b (Some (starter, n)) None) ≡ Some q → RanBefore p (Runs starter n link) q
retried p starter n link true q h =
    let same : pause_with p (starter, n) ≡ q = some_is h in
    (starter, link, ap (λ (x : Pause). Runs starter x.retries link) same, sym (ap (λ (x : Pause). x.address) same))
retried p starter n link false q h = absurd (none_some h)

pause_runs : (o : Chosen) (x : LinkAct) (c : Change) (p : Place) (s : Series) (q : Pause) → pause_for o x c p s ≡ Some q → RanBefore p s q
pause_runs o (Ends end) IsOver p (Runs starter n link) q h = retried p starter n link (is_retryable end && nat_lt n o.connection.max_retries) q h
pause_runs o (Ends end) IsOver p Nobody q h = absurd (none_some h)
pause_runs o (Ends end) IsOver p (Pauses l) q h = absurd (none_some h)
pause_runs o (Ends end) IsOver p (Serves l) q h = absurd (none_some h)
pause_runs o (Ends end) Remains p s q h = absurd (none_some h)
pause_runs o (Ends end) Becomes p s q h = absurd (none_some h)
pause_runs o Opens c p s q h = absurd (none_some h)
pause_runs o Reads c p s q h = absurd (none_some h)
pause_runs o (Drains most) c p s q h = absurd (none_some h)
pause_runs o Pings c p s q h = absurd (none_some h)

module _ (o : Options) (log : List Entry) (k : ℕ) (x : LinkAct) (c : Counted o log) where
  abbrev v : View
  v = view o log

  module _ (seat : Seat) (e : v.links.live k ≡ Some seat) where
    abbrev t : Turned
    t = turned_by v.chosen v.addresses v.now k x seat

    runs_on : (key : List ℕ) (starter : Who) (n link : ℕ) → series_at (view o (Then (Comes (ToLink k x)) ∷ log)) key ≡ Runs starter n link →
        series_at v key ≡ Runs starter n link
    runs_on key starter n link h = by (bytes_eq t.key key) (sym (series_is v k x seat e key) ∙ h)
      where
        by : (b : Bool) → (cond b (base_turned k t.change t.pause (v.addresses.base key)) (v.addresses.base key)).series ≡ Runs starter n link →
            series_at v key ≡ Runs starter n link
        by true g = runs_before k t.change t.pause (v.addresses.base key) starter n link g
        by false g = g

    pauses_on : (l : ℕ) (p : Pause) (put : Option Pause) → t.pause ≡ put → pause_put put k l (v.addresses.pause l) ≡ Some p →
        attempts_in o (address_key p.address) log ≡ p.retries + 1
    pauses_on l p None f h = c.pauses l p h
    pauses_on l p (Some q) f h = elim (cases_Bool (l == k)) [
      | inl d ↦
          (let same : q ≡ p = some_is (rw d at h) in
          let r = pause_runs v.chosen x t.change seat.address (series_at v t.key) q f in
          subst (λ (y : Pause). attempts_in o (address_key y.address) log ≡ y.retries + 1) same
          (ap (λ a. attempts_in o (address_key a) log) r.3 ∙ (c.runs t.key r.0 q.retries r.1 r.2).0))
      | inr d ↦ c.pauses l p (rw d at h)
    ]

    some_counted : Counted o (Then (Comes (ToLink k x)) ∷ log)
    some_counted = record {
      runs = λ key starter n link h. c.runs key starter n link (runs_on key starter n link h);
      pauses = λ l p h. pauses_on l p t.pause refl (sym (ap (λ u. pause_on u l (v.addresses.pause l)) (turn v k x seat e)) ∙ h);
    }

  link_counted : (row : Option Seat) → v.links.live k ≡ row → Counted o (Then (Comes (ToLink k x)) ∷ log)
  link_counted None e = still o (Then (Comes (ToLink k x))) log (none_turned v k x e) (λ key. refl) c
  link_counted (Some seat) e = some_counted seat e

-- A LINK IS DIALED

abbrev WasSo : Options → List Entry → Type 0
WasSo o log = (e : Entry) (older : List Entry) → log ≡ e ∷ older → Counted o older

dialed_series : (b : Bool) (x : Base) (new : Series) → (cond b (record { series = new; waiting = x.waiting }) x).series ≡ cond b new x.series
dialed_series true x new = refl
dialed_series false x new = refl

module _ (o : Options) (p : Place) (starter : Who) (n : ℕ) where
  abbrev dial : Entry
  dial = Then (Dials p starter n)

  -- for an address for which nothing runs, or where one more is to follow
  counts : (log : List Entry) (s : Series) (so_far : ℕ) → series_at (view o log) (address_key p) ≡ s → attempts_in o (address_key p) log ≡ so_far →
      attempts_in o (address_key p) (dial ∷ log) ≡ cond (is_free s) 1 (so_far + 1)
  counts log s so_far e f =
      ap (λ b. cond b (cond (is_free (series_at (view o log) (address_key p))) 1 (attempts_in o (address_key p) log + 1)) (attempts_in o (address_key p) log))
      (own_key (address_key p))
      ∙ (λ i. cond (is_free (e i)) 1 (f i + 1))

  attempted : (e : Entry) (older : List Entry) → Attempted o p starter n (e ∷ older) → Both o (e ∷ older) → Counted o older →
      (attempts_in o (address_key p) (dial ∷ e ∷ older) ≡ n + 1) × (n ≤ o.chosen.connection.max_retries)
  attempted e older (e', older', same, inl ((is, reachable, free), first)) b c =
      let entry : e ≡ Then (Does starter (Get p)) = (let d : e ≡ e' = cc in d ∙ is) in
      let rest : older ≡ older' = cc in
      let nobody : series_at (view o (e ∷ older)) (address_key p) ≡ Nobody =
      ap (λ y. series_at (view o (y ∷ older)) (address_key p)) entry
      ∙ (gets_same (view o older) starter p).series (address_key p)
      ∙ ap (λ xs. series_at (view o xs) (address_key p)) rest ∙ free in
      let k : attempts_in o (address_key p) (dial ∷ e ∷ older) ≡ 1 = counts (e ∷ older) Nobody _ nobody refl in
      (omega (arith, k, first), omega (arith, first))
  attempted e older (e', older', same, inr (l, before, is, rung, set, more, few)) b c =
      let d : e ≡ e' = cc in
      let entry : e ≡ Then (Comes (Rings (Retry l))) = d ∙ is in
      let rest : older ≡ older' = cc in
      let there : (view o older).addresses.pause l ≡ Some (record { address = p; starter = starter; retries = before }) =
      ap (λ xs. (view o xs).addresses.pause l) rest ∙ set in
      let pauses : series_at (view o (e ∷ older)) (address_key p) ≡ Pauses l =
      ap (λ y. series_at (view o (y ∷ older)) (address_key p)) entry
      ∙ (rings_same (view o older) (Retry l)).series (address_key p)
      ∙ (b.was e older refl).pauses l (record { address = p; starter = starter; retries = before }) there in
      let so_far : attempts_in o (address_key p) (e ∷ older) ≡ before + 1 =
      ap (λ y. attempts_in o (address_key p) (y ∷ older)) entry
      ∙ c.pauses l (record { address = p; starter = starter; retries = before }) there in
      let k : attempts_in o (address_key p) (dial ∷ e ∷ older) ≡ before + 1 + 1 = counts (e ∷ older) (Pauses l) (before + 1) pauses so_far in
      (omega (arith, k, more), few)

  made : AttemptsFollow → (log : List Entry) → IsRun o (dial ∷ log) → Both o log → WasSo o log →
      (attempts_in o (address_key p) (dial ∷ log) ≡ n + 1) × (n ≤ o.chosen.connection.max_retries)
  made follow [] run b was = let a = follow o [] p starter n run in let no = a.2 in absurd cc
  made follow (e ∷ older) run b was = attempted e older (follow o (e ∷ older) p starter n run) b (was e older refl)

  dial_counted : AttemptsFollow → (log : List Entry) → IsRun o (dial ∷ log) → Both o log → WasSo o log → Counted o log → Counted o (dial ∷ log)
  dial_counted follow log run b was c = record {
    runs = λ key s m link h. elim (cases_Bool (bytes_eq (address_key p) key)) [
      | inl e ↦
          (let f = dialed_series (bytes_eq (address_key p) key) ((view o log).addresses.base key) (Runs starter n (view o log).links.started) in
          let g : cond (bytes_eq (address_key p) key) (Runs starter n (view o log).links.started) (series_at (view o log) key) ≡ Runs s m link = sym f ∙ h in
          let d : Runs starter n (view o log).links.started ≡ Runs s m link = rw e at g in
          let same : n ≡ m = cc in
          subst (λ x. (attempts_in o key (dial ∷ log) ≡ x + 1) × (x ≤ o.chosen.connection.max_retries)) same
          (subst (λ x. (attempts_in o x (dial ∷ log) ≡ n + 1) × (n ≤ o.chosen.connection.max_retries)) (same_key (address_key p) key e)
          (made follow log run b was)))
      | inr e ↦
          (let f = dialed_series (bytes_eq (address_key p) key) ((view o log).addresses.base key) (Runs starter n (view o log).links.started) in
          let g : cond (bytes_eq (address_key p) key) (Runs starter n (view o log).links.started) (series_at (view o log) key) ≡ Runs s m link = sym f ∙ h in
          let d : series_at (view o log) key ≡ Runs s m link = rw e at g in
          rw e (c.runs key s m link d))
    ];
    pauses = λ l q h. elim (cases_Bool (bytes_eq (address_key p) (address_key q.address))) [
      | inl e ↦ absurd (taken log run b l q h (same_key (address_key p) (address_key q.address) e))
      | inr e ↦ rw e (c.pauses l q h)
    ];
  }
    where
      -- no attempt for this address is to follow now
      taken : (log : List Entry) → IsRun o (dial ∷ log) → Both o log → (l : ℕ) (q : Pause) → (view o log).addresses.pause l ≡ Some q →
          address_key p ≡ address_key q.address → ⊥
      taken [] run b l q h same = let a = follow o [] p starter n run in let no = a.2 in absurd cc
      taken (e ∷ older) run b l q h same =
          (attempted_free o p starter n e older (follow o (e ∷ older) p starter n run) (b.was e older refl) b.is).unset l q h same

-- ALONG A LOG

record Tallied (o : Options) (log : List Entry) : Type 0 where
  is : Counted o log
  was : WasSo o log

tally : (o : Options) (e : Entry) (log : List Entry) → Counted o log → Counted o (e ∷ log) → Tallied o (e ∷ log)
tally o e log was is = record { is = is; was = λ x older same. (let rest : log ≡ older = cc in subst (Counted o) rest was) }

stopped : (c : Bool) (b : Base) (starter : Who) (n link : ℕ) → (cond c nobody b).series ≡ Runs starter n link → b.series ≡ Runs starter n link
stopped true b starter n link h = absurd cc
stopped false b starter n link h = h

tallied : AttemptsFollow → (o : Options) (log : List Entry) → IsRun o log → Tallied o log
tallied follow o [] run = record {
  is = record { runs = λ key starter n link h. (let no : Nobody ≡ Runs starter n link = h in absurd cc); pauses = λ l p h. absurd (none_some h) };
  was = λ e older same. absurd cc;
}
tallied follow o (Begins e ∷ log) run =
    let k = tallied follow o log run.0 in tally o (Begins e) log k.is (still o (Begins e) log (begins_same e (view o log)) (λ key. refl) k.is)
tallied follow o (Then (Comes (ToLink l x)) ∷ log) run =
    let k = tallied follow o log run.0 in
    tally o (Then (Comes (ToLink l x))) log k.is (link_counted o log l x k.is ((view o log).links.live l) refl)
tallied follow o (Then (Comes (Rings a)) ∷ log) run =
    let k = tallied follow o log run.0 in
    tally o (Then (Comes (Rings a))) log k.is (still o (Then (Comes (Rings a))) log (rings_same (view o log) a) (λ key. refl) k.is)
tallied follow o (Then (Does who (Get p)) ∷ log) run =
    let k = tallied follow o log run.0 in
    tally o (Then (Does who (Get p))) log k.is (still o (Then (Does who (Get p))) log (gets_same (view o log) who p) (λ key. refl) k.is)
tallied follow o (Then (Does who StopAll) ∷ log) run =
    let k = tallied follow o log run.0 in
    tally o (Then (Does who StopAll)) log k.is (record {
      runs = λ key starter n link h.
          k.is.runs key starter n link (stopped (waits_on (view o log).addresses (view o log).alarms key) ((view o log).addresses.base key) starter n link h);
      pauses = λ l p h. absurd (none_some h);
    })
tallied follow o (Then (Dials p starter n) ∷ log) run =
    let k = tallied follow o log run.0 in
    tally o (Then (Dials p starter n)) log k.is (dial_counted o p starter n follow log run (both follow o log run.0) k.was k.is)
tallied follow o (Then a ∷ log) run =
    let k = tallied follow o log run.0 in tally o (Then a) log k.is (record { runs = k.is.runs; pauses = k.is.pauses })

pub retries_are_counted_lem : AttemptsFollow → RetriesAreCounted
retries_are_counted_lem follow o log p starter n run =
    (made o p starter n follow log run (both follow o log run.0) (tallied follow o log run.0).was).0

-- WHERE IT IS GIVEN UP

ends_passing : (kind : IoKind) (end : End) (b : Bool) → is_passing kind ≡ true → outcome.Failed kind ≡ fails_so end b → is_retryable end ≡ true
ends_passing kind (Unopened k) true h e = let same : k ≡ kind = cc in ap is_passing same ∙ h
ends_passing kind (Unopened k) false h e = absurd cc
ends_passing kind (Overdue below) b h e = refl
ends_passing kind Stops b h e = absurd cc
ends_passing kind Lost true h e = let same : kind ≡ Other = cc in let f : false ≡ true = sym (ap is_passing same) ∙ h in absurd cc
ends_passing kind (Broken cause) true h e = let same : kind ≡ Other = cc in let f : false ≡ true = sym (ap is_passing same) ∙ h in absurd cc
ends_passing kind Idles true h e = let same : kind ≡ Other = cc in let f : false ≡ true = sym (ap is_passing same) ∙ h in absurd cc
ends_passing kind Lost false h e = absurd cc
ends_passing kind (Broken cause) false h e = absurd cc
ends_passing kind Idles false h e = absurd cc

none_follows : (most n : ℕ) (p : Place) (starter : Who) (b c : Bool) → b ≡ true → nat_lt n most ≡ c →
    option_map (pause_with p) (cond (b && c) (Some (starter, n)) None) ≡ None → most ≤ n
none_follows most n p starter true true e f h = absurd cc
none_follows most n p starter true false e f h = grind (arith, nat_tests)
none_follows most n p starter false c e f h = absurd cc

spent : AttemptsFollow → (kind : IoKind) → is_passing kind ≡ true → (o : Options) (log : List Entry) (who : Who) →
    IsRun o (Then (Told (notice who (outcome.Failed kind))) ∷ log) → InThisStep (IsSpent o) log
spent follow kind passes o log who run =
    step_more (λ e older. IsRun o (e ∷ older) × AttemptEnds o who (outcome.Failed kind) e older) (IsSpent o) from log
    (step_runs o (AttemptEnds o who (outcome.Failed kind)) log run.0 (outcomes_are_caused_lem o log who (outcome.Failed kind) run))
  where
    from : (e : Entry) (older : List Entry) → IsRun o (e ∷ older) × AttemptEnds o who (outcome.Failed kind) e older → IsSpent o e older
    from e older (r, (l, end, cause, seat, is, live, closed, (starter, n, link, series, none, waits, told))) =
        let k = (tallied follow o older (run_older o e older r)).is.runs (address_key seat.address) starter n link series in
        let most : ℕ = o.chosen.connection.max_retries in
        let many : most ≤ n = none_follows most n seat.address starter (is_retryable end) (nat_lt n most) (ends_passing kind end _ passes told) refl none in
        let made : attempts_in o (address_key seat.address) older ≡ n + 1 = k.0 in
        let few : n ≤ most = k.1 in
        (l, end, seat, is, live, omega (arith, many, made, few))

pub attempts_are_spent_lem : AttemptsFollow → AttemptsAreSpent
attempts_are_spent_lem follow = (spent follow ConnectionRefused refl, spent follow TimedOut refl)
