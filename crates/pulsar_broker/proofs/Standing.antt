-- A broker stands for one act more.
use Rattle.std.proofs.Common.{◌≡◌, ◌∙◌, ◌==◌, ◌++◌, ◌∷◌, sym, ap, refl, subst, ℕ, List, [], Bool, true, false, cond, None, Some, arith, string_bytes}
use Rattle.std.proofs.lemmas.Bool.{eqb-true}
use Rattle.std.proofs.lemmas.Bool.Decides.{nat_tests}
use Rattle.std.proofs.lemmas.List.{append-nil, append_assoc}
use Rattle.std.proofs.lemmas.List.Concat.{flat_map-append}
use Rattle.std.specs.BTreeMap.{BTreeMap, get, is_at}
use Rattle.std.specs.List.{flat_map}
use Rattle.std.specs.Ordering.{nat_cmp}
use Rattle.pulsar_frame.specs.Frame.{bad, left}
use Rattle.pulsar_broker.specs.History.{Act, Ended, Fed, Taken, bytes_for, ended_by, frames, given, settled, state, stream, turns}
use Rattle.pulsar_broker.specs.Kept.{IsKept, IsNamed, owed_on, state_in}
use Rattle.pulsar_broker.specs.State.{State, without}
use Rattle.pulsar_broker.specs.Stands.{HasAnswered, HasGoneOn, IsReading, ReadsOn, StandsFor}
use Rattle.pulsar_broker.specs.declared.broker.Broker.{Broker}
use Rattle.pulsar_broker.specs.declared.broker.Reading.{Reading}
use Rattle.pulsar_broker.specs.declared.outbox.Outbox.{Outbox}
use Rattle.pulsar_frame.proofs.Streams.{left-nil}
use Rattle.pulsar_broker.proofs.Leaving.{history_named}
use Rattle.pulsar_broker.proofs.SetKeys.{at_seat}

-- A PIECE WAS FED

reads_fed : (readings new : BTreeMap ℕ Reading) (link : ℕ) (piece : List ℕ) (after : Reading) (h : List Act) →
    ((k : ℕ) → (k == link) ≡ false → ReadsOn (get nat_cmp readings k) (stream k h)) →
    ((k : ℕ) → get nat_cmp new k ≡ cond (is_at (nat_cmp link) k) (Some after) (get nat_cmp readings k)) →
    IsReading after (left (stream link h ++ piece)) (bad (stream link h ++ piece)) →
    (k : ℕ) → ReadsOn (get nat_cmp new k) (stream k (Fed link piece ∷ h))
reads_fed readings new link piece after h others is reads k = by (k == link) refl
  where
    swapped : (b : Bool) → (k == link) ≡ b → (link == k) ≡ b
    swapped true e = grind (arith, nat_tests)
    swapped false e = grind (arith, nat_tests)

    by : (b : Bool) → (k == link) ≡ b → ReadsOn (get nat_cmp new k) (stream k (Fed link piece ∷ h))
    by true e =
        let same : k ≡ link = eqb-true k link e in
        let now : get nat_cmp new k ≡ Some after = is k ∙ ap (λ b. cond b (Some after) (get nat_cmp readings k)) (at_seat link k ∙ e) in
        let longer : stream k (Fed link piece ∷ h) ≡ stream link h ++ piece = ap (λ b. cond b (stream k h ++ piece) (stream k h)) (swapped true e) ∙ ap (λ n. stream n h ++ piece) same in
        subst (λ s. ReadsOn (get nat_cmp new k) s) (sym longer) (subst (λ o. ReadsOn o (stream link h ++ piece)) (sym now) reads)
    by false e =
        let now : get nat_cmp new k ≡ get nat_cmp readings k = is k ∙ ap (λ b. cond b (Some after) (get nat_cmp readings k)) (at_seat link k ∙ e) in
        let same : stream k (Fed link piece ∷ h) ≡ stream k h = ap (λ b. cond b (stream k h ++ piece) (stream k h)) (swapped false e) in
        subst (λ s. ReadsOn (get nat_cmp new k) s) (sym same) (subst (λ o. ReadsOn o (stream k h)) (sym now) (others k e))

owes_fed : (url : List ℕ) (link : ℕ) (piece : List ℕ) (h : List Act) (before after : Outbox) →
    ((k : ℕ) → given url h k ≡ settled url h k ++ owed_on before k) →
    ((k : ℕ) → owed_on after k ≡ owed_on before k ++ flat_map (bytes_for k) (turns url link (ended_by piece (stream link h)) (state url h)).given) →
    (k : ℕ) → given url (Fed link piece ∷ h) k ≡ settled url (Fed link piece ∷ h) k ++ owed_on after k
unfolding given frames
owes_fed url link piece h before after owes is k =
    let more = (turns url link (ended_by piece (stream link h)) (state url h)).given in
    flat_map-append (bytes_for k) (frames url h) more
    ∙ ap (λ xs. xs ++ flat_map (bytes_for k) more) (owes k)
    ∙ append_assoc (settled url h k) (owed_on before k) (flat_map (bytes_for k) more)
    ∙ ap (λ xs. settled url h k ++ xs) (sym (is k))

keeps_fed : (url : List ℕ) (link : ℕ) (piece : List ℕ) (h : List Act) (old new : State) → old ≡ state url h → new ≡ (turns url link (ended_by piece (stream link h)) old).state →
    new ≡ state url (Fed link piece ∷ h)
unfolding state
keeps_fed url link piece h old new keeps is = is ∙ ap (λ s. (turns url link (ended_by piece (stream link h)) s).state) keeps

pub stands_fed : (url : List ℕ) (h : List Act) (old between middle new : Broker) (link : ℕ) (piece : List ℕ) (after : Reading) →
    StandsFor url h old → between.tables ≡ old.tables → between.outbox ≡ old.outbox → between.url ≡ old.url →
    ((k : ℕ) → (k == link) ≡ false → get nat_cmp between.readings k ≡ get nat_cmp old.readings k) →
    HasGoneOn (string_bytes between.url) link piece (stream link h) after between middle →
    new.tables ≡ middle.tables → new.outbox ≡ middle.outbox → new.url ≡ middle.url → new.failed ≡ false →
    ((k : ℕ) → get nat_cmp new.readings k ≡ cond (is_at (nat_cmp link) k) (Some after) (get nat_cmp middle.readings k)) →
    StandsFor url (Fed link piece ∷ h) new
stands_fed url h old between middle new link piece after stands tables outbox named others gone tables' outbox' named' whole is =
    let same : string_bytes between.url ≡ url = ap (λ u. string_bytes u) named ∙ stands.named in
    let done : HasAnswered (turns url link (ended_by piece (stream link h)) (state_in between.tables)) between middle =
    subst (λ u. HasAnswered (turns u link (ended_by piece (stream link h)) (state_in between.tables)) between middle) same gone.answered in
    let keeps : state_in between.tables ≡ state url h = ap (λ t. state_in t) tables ∙ stands.keeps in
    record {
      named = ap (λ u. string_bytes u) (named' ∙ done.same.url) ∙ same;
      reads = reads_fed middle.readings new.readings link piece after h
          (λ k e. subst (λ o. ReadsOn o (stream k h)) (sym (ap (λ m. get nat_cmp m k) done.same.readings ∙ others k e)) (stands.reads k)) is gone.reads;
      keeps = ap (λ t. state_in t) tables' ∙ keeps_fed url link piece h (state_in between.tables) (state_in middle.tables) keeps done.state;
      kept = subst IsKept (sym tables') done.kept;
      owes = owes_fed url link piece h old.outbox new.outbox stands.owes
          (λ k. ap (λ o. owed_on o k) outbox' ∙ done.given k ∙ ap (λ o. owed_on o k ++ flat_map (bytes_for k) (turns url link (ended_by piece (stream link h)) (state_in between.tables)).given) outbox
          ∙ ap (λ s. owed_on old.outbox k ++ flat_map (bytes_for k) (turns url link (ended_by piece (stream link h)) s).given) keeps);
      whole = whole;
    }

-- WHAT A LINK IS OWED WAS TAKEN

owes_taken : (url : List ℕ) (link : ℕ) (h : List Act) (before after : Outbox) → ((k : ℕ) → given url h k ≡ settled url h k ++ owed_on before k) →
    ((k : ℕ) → owed_on after k ≡ cond (k == link) [] (owed_on before k)) → (k : ℕ) → given url (Taken link ∷ h) k ≡ settled url (Taken link ∷ h) k ++ owed_on after k
unfolding given frames
owes_taken url link h before after owes is k = by (k == link) refl
  where
    swapped : (b : Bool) → (k == link) ≡ b → (link == k) ≡ b
    swapped true e = grind (arith, nat_tests)
    swapped false e = grind (arith, nat_tests)

    by : (b : Bool) → (k == link) ≡ b → flat_map (bytes_for k) (frames url h) ≡ cond (link == k) (flat_map (bytes_for k) (frames url h)) (settled url h k) ++ owed_on after k
    by true e =
        sym (append-nil (flat_map (bytes_for k) (frames url h)))
        ∙ sym (ap (λ b. cond b (flat_map (bytes_for k) (frames url h)) (settled url h k) ++ []) (swapped true e))
        ∙ ap (λ xs. cond (link == k) (flat_map (bytes_for k) (frames url h)) (settled url h k) ++ xs) (sym (is k ∙ ap (λ b. cond b [] (owed_on before k)) e))
    by false e =
        owes k
        ∙ sym (ap (λ b. cond b (flat_map (bytes_for k) (frames url h)) (settled url h k) ++ owed_on before k) (swapped false e))
        ∙ ap (λ xs. cond (link == k) (flat_map (bytes_for k) (frames url h)) (settled url h k) ++ xs) (sym (is k ∙ ap (λ b. cond b [] (owed_on before k)) e))

pub stands_taken : (url : List ℕ) (h : List Act) (old : Broker) (outbox : Outbox) (link : ℕ) → StandsFor url h old →
    ((k : ℕ) → owed_on outbox k ≡ cond (k == link) [] (owed_on old.outbox k)) → StandsFor url (Taken link ∷ h) (record old { outbox = outbox })
unfolding state
stands_taken url h old outbox link stands is =
    record {
      named = stands.named;
      reads = stands.reads;
      keeps = stands.keeps;
      kept = stands.kept;
      owes = owes_taken url link h old.outbox outbox stands.owes is;
      whole = stands.whole;
    }

-- A LINK HAS ENDED

reads_ended : (readings new : BTreeMap ℕ Reading) (link : ℕ) (h : List Act) → ((k : ℕ) → ReadsOn (get nat_cmp readings k) (stream k h)) →
    ((k : ℕ) → get nat_cmp new k ≡ cond (is_at (nat_cmp link) k) None (get nat_cmp readings k)) → (k : ℕ) → ReadsOn (get nat_cmp new k) (stream k (Ended link ∷ h))
reads_ended readings new link h reads is k = subst (λ o. ReadsOn o (stream k (Ended link ∷ h))) (sym (is k)) (by (link == k) (is_at (nat_cmp link) k) (swapped (at_seat link k)))
  where
    swapped : is_at (nat_cmp link) k ≡ (k == link) → is_at (nat_cmp link) k ≡ (link == k)
    swapped e = grind (arith, nat_tests, e)

    by : (b a : Bool) → a ≡ b → ReadsOn (cond a None (get nat_cmp readings k)) (cond b [] (stream k h))
    by true true e = left-nil
    by false false e = reads k
    by true false e = absurd cc
    by false true e = absurd cc

owes_ended : (url : List ℕ) (link : ℕ) (h : List Act) (before after : Outbox) → ((k : ℕ) → given url h k ≡ settled url h k ++ owed_on before k) →
    ((k : ℕ) → owed_on after k ≡ cond (k == link) [] (owed_on before k)) → (k : ℕ) → given url (Ended link ∷ h) k ≡ settled url (Ended link ∷ h) k ++ owed_on after k
unfolding given frames
owes_ended url link h before after owes is k = owes_taken url link h before after owes is k

keeps_ended : (url : List ℕ) (link : ℕ) (h : List Act) (old new : State) → old ≡ state url h → (IsNamed old → new ≡ without link old) → new ≡ state url (Ended link ∷ h)
unfolding state
keeps_ended url link h old new keeps is = is (subst IsNamed (sym keeps) (history_named url h)) ∙ ap (without link) keeps

pub stands_ended : (url : List ℕ) (h : List Act) (old new : Broker) (link : ℕ) → StandsFor url h old →
    new.url ≡ old.url → new.failed ≡ old.failed →
    ((k : ℕ) → get nat_cmp new.readings k ≡ cond (is_at (nat_cmp link) k) None (get nat_cmp old.readings k)) →
    ((k : ℕ) → owed_on new.outbox k ≡ cond (k == link) [] (owed_on old.outbox k)) →
    (IsNamed (state_in old.tables) → state_in new.tables ≡ without link (state_in old.tables)) → (IsKept old.tables → IsKept new.tables) →
    StandsFor url (Ended link ∷ h) new
stands_ended url h old new link stands named failed reads owes keeps kept =
    record {
      named = ap (λ u. string_bytes u) named ∙ stands.named;
      reads = reads_ended old.readings new.readings link h stands.reads reads;
      keeps = keeps_ended url link h (state_in old.tables) (state_in new.tables) stands.keeps keeps;
      kept = kept stands.kept;
      owes = owes_ended url link h old.outbox new.outbox stands.owes owes;
      whole = failed ∙ stands.whole;
    }
