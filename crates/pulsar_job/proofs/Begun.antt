-- How a job begins and ends.
use Rattle.std.proofs.Common.{◌≡◌, ◌∙◌, ◌≤◌, ◌<◌, inl, ℕ, Bool, true, false, sym, ap, subst, refl, List, [], ◌∷◌, length, arith, Option, Some, None}
use Rattle.std.specs.Prelude.{IfSome, MatchOption}
use Rattle.std.specs.Option.{option_map}
use Rattle.std.specs.Global.{Vec}
use Rattle.std.specs.List.{remove, slice_index_or}
use Rattle.pulsar_wire.specs.declared.error.IoKind.{IoKind}
use Rattle.pulsar_producer.specs.Routing.{Policy}
use Rattle.pulsar_machine.specs.Options.{Options}
use Rattle.pulsar_calls.specs.Steps.{Step}
use Rattle.pulsar_machine.specs.Machine.{options_for}
use Rattle.pulsar_pumps.specs.Outside.{first_of}
use Rattle.pulsar_work.specs.Calls.{Work, Sends, Takes}
use Rattle.pulsar_work.specs.Form.{Asking, Produce, Consume, lines_of}
use Rattle.pulsar_work.specs.Progress.{Knows, links_of}
use Rattle.pulsar_work.specs.declared.progress.Dial.{Dial}
use Rattle.pulsar_work.specs.declared.progress.Progress.{Progress}
use Rattle.pulsar_job.specs.Links.{AreLinks, DialsInTime, Fits, LinkSeen}
use Rattle.pulsar_job.specs.Driven.{AreFirst, ComesOut, Dialing, EdgeNow, Ends, IsBefore, Knits, LinkNow, Runs, seen_of}
use Rattle.pulsar_job.specs.Outside.{Gave, IsAtEnd, Seen, Stopped, StopsBy, limit}
use Rattle.pulsar_job.specs.Parts.{Begins, Drives, Finishes, IsHalted, IsIdle, IsWhy, Performs}
use Rattle.pulsar_job.specs.Went.{Drove, EdgeSeen, Ended, IsMadeAt, Ran}
use Rattle.pulsar_job.specs.declared.status.Stop.{Stop}
use Rattle.pulsar_job.specs.declared.status.Stop.TheVariants as stop
use Rattle.pulsar_job.proofs.Dials.{dialing-none, in-time-none, ticks-none}
use Rattle.pulsar_job.proofs.Gives.{gave-none, given, given-whole}
use Rattle.pulsar_job.proofs.Stages.{begun}
use Rattle.pulsar_job.proofs.Turning.{knows-dials}

-- the first of what is to be dialed
first-dial : (xs ys : List Dial) (d : Dial) → 0 < length xs → d ≡ slice_index_or xs 0 d → ys ≡ remove xs 0 → links_of xs ≡ d.link ∷ links_of ys
first-dial [] ys d some is rest = absurd (omega (arith, some))
first-dial (x ∷ xs) ys d some is rest = ap (λ z. z.link ∷ links_of xs) (sym is) ∙ ap (λ z. d.link ∷ links_of z) (sym rest)

pub is-before : (p : Progress) (ds : Vec Dial) (d : Dial) → 0 < length p.dials.items → d ≡ slice_index_or p.dials.items 0 d → ds.items ≡ remove p.dials.items 0 → IsBefore d.link p (record p { dials = ds })
is-before p ds d some is rest =
    record {
      dials = first-dial p.dials.items ds.items d some is rest;
      knows = λ es acked k. knows-dials p es acked (record p { dials = ds }) refl refl refl refl refl refl k;
      calls = refl;
      stopped = refl;
      before = refl;
    }

-- A JOB BEGINS

first-none : (w : Work) → AreFirst w [] 0 []
first-none (Sends topic lines) = record { front = refl; size = refl; acks = refl }
first-none (Takes topic subscription count) = record { front = refl; size = refl; acks = refl }

runs-new : (w : Work) (p : Progress) → Knows p [] [] → (p.ended.items ≡ []) × (p.dials.items ≡ []) × (p.stopped ≡ false) → Runs true w [] p []
runs-new w p knows none =
    record {
      works = record {
        acked = [];
        knows = knows;
        calling = begun w [] [] (length p.ended.items) p.stopped p.failed_before none.2 (subst (λ k. AreFirst w [] k []) (sym (ap length none.0)) (first-none w));
      };
      links = record { all = tt; once = tt; others = λ l e. absurd cc };
      writing = tt;
      dialing = subst (λ ds. Dialing true [] (links_of ds)) (sym none.1) (dialing-none true);
      in_time = in-time-none;
    }

pub runs-begun : (w : Work) (h : List Step) (p : Progress) (ls : List LinkNow) → h ≡ [] → ls ≡ [] → Knows p [] [] → (p.ended.items ≡ []) × (p.dials.items ≡ []) × (p.stopped ≡ false) → Runs true w h p ls
runs-begun w h p ls h-none ls-none knows none =
    subst (λ t. Runs true w t p ls) (sym h-none) (subst (λ z. Runs true w [] p z) (sym ls-none) (runs-new w p knows none))

-- THE SOURCE

pub begins-at : (a : Asking) (url url' : List ℕ) (w : Work) (source : Seen) → url' ≡ url → Begins a url w source → Begins a url' w source
begins-at a url url' w source is b = subst (λ u. Begins a u w source) (sym is) b

pub begins-produce : (url topic bytes : List ℕ) (ls : List (List ℕ)) (source : Seen) → ls ≡ lines_of bytes → Gave source.before source.after bytes → IsAtEnd source.before source.after → length bytes ≤ limit
    → Begins (Produce url topic) url (Sends topic ls) source
begins-produce url topic bytes ls source lines gave end within =
    record { address = refl; given = given-whole source bytes gave end; work = ap (Sends topic) lines; limits = within; whole = refl }

given-none : (source : Seen) → source.after ≡ source.before → Gave source.before source.after []
given-none source same = subst (λ z. Gave source.before z []) (sym same) (gave-none source.before)

pub begins-consume : (url topic subscription : List ℕ) (count : ℕ) (source : Seen) → source.after ≡ source.before → Begins (Consume url topic subscription count) url (Takes topic subscription count) source
begins-consume url topic subscription count source same =
    record { address = refl; given = given source [] (given-none source same); work = refl; limits = omega arith; whole = tt }

why-of : (s : Stop) (source : Seen) (n : ℕ) → StopsBy s source.faults_before source.faults_after n → IsWhy s source n
why-of stop.NoMemory source n h = h
why-of stop.Source source n h = h
why-of stop.TooLong source n h = h

pub halted-reading : (s : Stop) (source : Seen) → Stopped s source → IsHalted s source
halted-reading s source h = record { given = given source h.bytes h.gave; why = why-of s source (length h.bytes) h.why }

pub halted-none : (s : Stop) (source : Seen) → s ≡ stop.NoMemory → source.after ≡ source.before → IsHalted s source
halted-none s source is same = subst (λ x. IsHalted x source) (sym is) (record { given = given source [] (given-none source same); why = omega arith })

pub halted-whole : (s : Stop) (source : Seen) (bytes : List ℕ) → s ≡ stop.NoMemory → Gave source.before source.after bytes → IsAtEnd source.before source.after → length bytes ≤ limit → IsHalted s source
halted-whole s source bytes is gave end within = subst (λ x. IsHalted x source) (sym is) (record { given = given-whole source bytes gave end; why = within })

-- A JOB ENDS

drove-how : (IsGood : Options → List Step → Type 0) (o o' : Options) (h : List Step) (w : Work) (before after : IoKind → ℕ) (greatest : Option ℕ) (status : ℕ) (sink : Seen) (seen links : List LinkSeen) (trace : Option (Options × List Step)) → o' ≡ o → AreLinks h seen → DialsInTime h → Fits before after greatest h
    → MatchOption trace (IsIdle status sink) (λ t. (t.0 ≡ o') × (t.1 ≡ h) × (links ≡ seen) × ∥ IsGood t.0 t.1 ∥₁ × Ended status w sink t.1)
    → MatchOption trace (IsIdle status sink) (λ t. (t.0 ≡ o) × ∥ IsGood t.0 t.1 ∥₁ × Ran before after greatest links t.1 × Ended status w sink t.1)
drove-how IsGood o o' h w before after greatest status sink seen links None same are in_time fits f = f
drove-how IsGood o o' h w before after greatest status sink seen links (Some t) same are in_time fits f = (
  f.0 ∙ same,
  f.3,
  record {
    dials = subst DialsInTime (sym f.1) in_time;
    carried = subst (λ z. AreLinks z links) (sym f.1) (subst (AreLinks h) (sym f.2) are);
    fits = subst (Fits before after greatest) (sym f.1) fits;
  },
  f.4,
)

pub drives-finished : {IsGood : Options → List Step → Type 0} (o o' : Options) (h : List Step) (w : Work) (before after : IoKind → ℕ) (greatest : Option ℕ) (status : ℕ) (sink : Seen) (seen links : List LinkSeen) (trace : Option (Options × List Step)) → o' ≡ o → AreLinks h seen → DialsInTime h
    → Fits before after greatest h → Finishes IsGood o' h w status sink seen links trace → Drives IsGood o w before after greatest status sink links trace
drives-finished {IsGood = IsGood} o o' h w before after greatest status sink seen links trace same are in_time fits f =
    record { sink_failed = f.sink_failed; how = drove-how IsGood o o' h w before after greatest status sink seen links trace same are in_time fits f.how }

-- an edge tells its first moment when the client is made
pub made-at : (before told after : Option ℕ) (now : ℕ) → told ≡ Some (first_of before now) → ((n : ℕ) → told ≡ Some n → after ≡ Some n) → before ≡ None → after ≡ Some now
made-at before told after now first keeps none = keeps now (first ∙ ap (λ o. Some (first_of o now)) none)

pub fits-none : (before after : IoKind → ℕ) (greatest : Option ℕ) → ((k : IoKind) → before k ≤ after k) → Fits before after greatest []
fits-none before after greatest grows = record { failures = λ k. inl (omega (arith, grows k)); ticks = ticks-none greatest }

performed-how : {X : Type 0} (IsGood : Options → List Step → Type 0) (trace : X → Options × List Step) (raw : Option X) (url : List ℕ) (policies : List Policy) (w : Work) (edge : EdgeSeen) (now : ℕ) (o : Options) (status : ℕ) (sink : Seen) (links : List LinkSeen)
    → IfSome raw (λ x. IsMadeAt edge now) → o ≡ options_for url now policies
    → MatchOption (option_map trace raw) (IsIdle status sink) (λ t. (t.0 ≡ o) × ∥ IsGood t.0 t.1 ∥₁ × Ran edge.failed_before edge.failed_after edge.greatest links t.1 × Ended status w sink t.1)
    → MatchOption (option_map trace raw) (IsIdle status sink) (λ t. Drove IsGood url policies edge links t.0 t.1 × Ended status w sink t.1)
performed-how IsGood trace None url policies w edge now o status sink links made is f = f
performed-how IsGood trace (Some x) url policies w edge now o status sink links made is f = (record { now = now; made = made; options = f.0 ∙ is; good = f.1; ran = f.2 }, f.3)

pub performs-driven : {IsGood : Options → List Step → Type 0} {X : Type 0} (trace : X → Options × List Step) (raw : Option X) (url : List ℕ) (policies : List Policy) (w : Work) (edge : EdgeSeen) (now : ℕ) (o : Options) (status : ℕ) (sink : Seen) (links : List LinkSeen)
    → IfSome raw (λ x. IsMadeAt edge now) → o ≡ options_for url now policies
    → Drives IsGood o w edge.failed_before edge.failed_after edge.greatest status sink links (option_map trace raw) → Performs IsGood url policies w status sink edge links (option_map trace raw)
performs-driven {IsGood = IsGood} trace raw url policies w edge now o status sink links made is d =
    record { sink_failed = d.sink_failed; how = performed-how IsGood trace raw url policies w edge now o status sink links made is d.how }

-- what is said where there is a trace
pub if-some : {X : Type 0} (raw : Option X) (P Q : Type 0) → IfSome raw (λ x. P) → (P → Q) → IfSome raw (λ x. Q)
if-some None P Q h f = h
if-some (Some x) P Q h f = f h

-- the turns have ended, and the report was printed
pub drives-ended : {IsGood : Options → List Step → Type 0} (o o' : Options) (h h' h'' : List Step) (w : Work) (p : Progress) (ls ls' : List LinkNow) (e e' : EdgeNow) (before : IoKind → ℕ) (all_well : Bool) (status : ℕ) (sink : Seen) (links : List LinkSeen) (trace : Option (Options × List Step))
    → o' ≡ o → Runs true w h p ls → p.stopped ≡ false → h'' ≡ h' → h ≡ [] → Ends w h h' p ls ls' all_well → (p.stopped ≡ false → Knits h h' e e') → Fits before e.failed e.greatest []
    → ((x : Work) → ComesOut x h'' all_well → Finishes IsGood o' h'' x status sink (seen_of ls') links trace) → Drives IsGood o w before e'.failed e'.greatest status sink links trace
drives-ended o o' h h' h'' w p ls ls' e e' before all_well status sink links trace same runs going is none ends knits fits finishes =
    let at = ends.links runs going in
    drives-finished o o' h'' w before e'.failed e'.greatest status sink (seen_of ls') links trace same (subst (λ t. AreLinks t (seen_of ls')) (sym is) at.0) (subst DialsInTime (sym is) at.1)
    (subst (Fits before e'.failed e'.greatest) (sym is) ((knits going).fits before (subst (Fits before e.failed e.greatest) (sym none) fits)))
    (finishes w (subst (λ t. ComesOut w t all_well) (sym is) (ends.out runs going)))
