-- Each who asked on a link, or waits for one, is told what came of that.
use Rattle.std.proofs.Common.{◌≡◌, ◌∙◌, sym, ap, subst, ℕ, List, [], ◌∷◌, ◌++◌, refl, map, Option, Some, None, inl, inr}
use Rattle.std.specs.List.{cons_option, filter_map}
use Rattle.std.specs.Option.{option_map}
use Rattle.pulsar_laws.proofs.ActWords.{Comes, Drains, End, Ends, LinkAct, Notice, opens, Outcome, Reads, Told, ToLink, Who}
use Rattle.pulsar_laws.proofs.RunWords.{chosen_same, Entry, In, InOne, lost_on, notice, Options, rules, Then, turned, turned_by, View, view}
use Rattle.pulsar_laws.proofs.LinkWords.{closed_by, Runs, Seat, tells_asker}
use Rattle.pulsar_frame.specs.Message.{MessageValues}
use Rattle.pulsar_session.specs.Link as session
use Rattle.pulsar_session.specs.Link.{came, ends}
use Rattle.pulsar_exchange.specs.Messages.{read}
use Rattle.pulsar_calls.specs.Order.{alone}
use Rattle.pulsar_calls.specs.Who.{is_same}
use Rattle.pulsar_calls.specs.declared.act.Arrival.TheVariants.{Readied}
use Rattle.pulsar_calls.specs.declared.act.LinkAct.TheVariants.{Opens, Pings}
use Rattle.pulsar_calls.specs.declared.act.Outcome.TheVariants as outcome
use Rattle.pulsar_links.specs.LinkRules.{answered_by, answered_on, dropped, ended_by, ended_on, ended_places, failed, failed_at, failed_over, fails_so, lost, moved_on, served_by}
use Rattle.pulsar_links.specs.Links as links
use Rattle.pulsar_links.specs.Links.{arrival, change_at, change_in, line_places, new_places}
use Rattle.pulsar_acts.specs.Reading.{heard_on}
use Rattle.pulsar_acts.specs.Rules.{failed_by, failed_on, served_on, waiters_of}
use Rattle.pulsar_acts.specs.View.{pause_for, pause_of}
use Rattle.pulsar_laws.specs.Laws.{base_of, ended_as, is_late}
use Rattle.pulsar_laws.specs.ToldLaws.{AskersAreTold, EndTells, IsTold, ReadTells, Tells}
use Rattle.pulsar_laws.proofs.Lists.{in_left, in_right}
use Rattle.pulsar_laws.proofs.calls.Done.{all_is_done_lem}
use Rattle.pulsar_laws.proofs.links.Late.{lost_same}

-- LISTS

into_map : {A B : Type 0} (f : A → B) (x : A) (xs : List A) → In x xs → In (f x) (map f xs)
into_map f x [] i = absurd i
into_map f x (y ∷ xs) (inl e) = inl (ap f e)
into_map f x (y ∷ xs) (inr i) = inr (into_map f x xs i)

in_opens : (n : Notice) (ns : List Notice) → In n ns → InOne (Told n) (map (map Told) (opens ns))
in_opens n [] i = absurd i
in_opens n (m ∷ ns) i = inl (into_map Told n (m ∷ ns) i)

in_alone : (n : Notice) (ns : List Notice) → In n ns → InOne (Told n) (map (map Told) (map alone ns))
in_alone n [] i = absurd i
in_alone n (m ∷ ns) (inl e) = inl (inl (ap Told e))
in_alone n (m ∷ ns) (inr i) = inr (in_alone n ns i)

behind_one : (n : Notice) (r : Option Notice) (ns : List Notice) → In n ns → In n (cons_option r ns)
behind_one n None ns i = i
behind_one n (Some m) ns i = inr i

-- each who asked for one of these places
in_askers : (says : ℕ → Outcome) (askers : ℕ → Option Who) (ps : List ℕ) (place : ℕ) (who : Who) → In place ps → askers place ≡ Some who →
    In (notice who (says place)) (filter_map (tells_asker says askers) ps)
in_askers says askers [] place who i a = absurd i
in_askers says askers (p ∷ ps) place who (inr i) a =
    behind_one (notice who (says place)) (tells_asker says askers p) (filter_map (tells_asker says askers) ps) (in_askers says askers ps place who i a)
in_askers says askers (p ∷ ps) place who (inl e) a =
    let it : Notice = notice who (says place) in
    let more : List Notice = filter_map (tells_asker says askers) ps in
    subst (λ q. In it (cons_option (tells_asker says askers q) more)) e
    (subst (λ r. In it (cons_option (option_map (λ w. notice w (says place)) r) more)) (sym a) (inl refl))

-- BY WHAT COMES TO A LINK

module _ (o : Options) (newer older : List Entry) (l : ℕ) (seat : Seat) (h : (view o older).links.live l ≡ Some seat) where
  abbrev v : View
  v = view o older

  abbrev Done : LinkAct → Type 0
  Done x = (n : Notice) → InOne (Told n) (map (map Told) (rules.causes v (Comes (ToLink l x)))) → In (Then (Told n)) newer

  read_tells : Done Reads → ReadTells o l seat newer older
  read_tells done = (replied, ready)
    where
      waiting : List Notice
      waiting = waiters_of served_on v.addresses (turned v (Comes (ToLink l Reads)))

      replied : (places : List ℕ) (m : MessageValues) (place : ℕ) (who : Who) → came seat.seen ≡ session.Settles places m → In place places →
          seat.askers place ≡ Some who → IsTold newer who (outcome.Replied (read m))
      replied places m place who is i a =
          let n : Notice = notice who (outcome.Replied (read m)) in
          let own : In n (answered_on (v.links.live l)) =
          subst (λ row. In n (answered_on row)) (sym h)
          (subst (λ c. In n (answered_by c seat.askers)) (sym is) (in_askers (λ p. outcome.Replied (read m)) seat.askers places place who i a)) in
          done n (in_opens n _ (in_left n (answered_on (v.links.live l) ++ waiting) (heard_on v l) (in_left n (answered_on (v.links.live l)) waiting own)))

      ready : (who : Who) → arrival seat.seen ≡ Readied → In who (base_of v seat.address).waiting → IsTold newer who (outcome.GotLink l)
      ready who is i =
          let n : Notice = notice who (outcome.GotLink l) in
          let ws : List Who = (base_of v seat.address).waiting in
          let own : In n waiting =
          subst (λ row. In n (waiters_of served_on v.addresses (option_map (turned_by v.chosen v.addresses v.now l Reads) row))) (sym h)
          (subst (λ a. In n (served_by l (change_in a) ws)) (sym is) (into_map (λ w. notice w (outcome.GotLink l)) who ws i)) in
          done n (in_opens n _ (in_left n (answered_on (v.links.live l) ++ waiting) (heard_on v l) (in_right n (answered_on (v.links.live l)) waiting own)))

  drain_tells : (most : ℕ) → Done (Drains most) → Tells o l (Drains most) seat newer older
  drain_tells most done place who i a =
      let n : Notice = notice who outcome.Queued in
      done n (in_alone n (moved_on most v.now (v.links.live l))
      (subst (λ row. In n (moved_on most v.now row)) (sym h)
      (in_askers (λ p. outcome.Queued) seat.askers (new_places seat.seen (links.after (Drains most) v.now seat.seen)) place who i a)))

  end_tells : (end : End) → Done (Ends end) → EndTells o end seat newer older
  end_tells end done cause closes = (asked, stood, waited)
    where
      waiting : List Notice
      waiting = waiters_of (failed_on end) v.addresses (turned v (Comes (ToLink l (Ends end))))

      from : (n : Notice) → In n (ended_places end v.now seat.seen seat.askers) → In (Then (Told n)) newer
      from n i =
          let own : In n (ended_on end v.now (v.links.live l)) =
          subst (λ row. In n (ended_on end v.now row)) (sym h) (subst (λ c. In n (ended_by end v.now c seat)) (sym closes) i) in
          done n (in_opens n _ (in_left n (ended_on end v.now (v.links.live l) ++ waiting) (lost_on v l end)
          (in_left n (ended_on end v.now (v.links.live l)) waiting own)))

      requests : List Notice
      requests = filter_map (tells_asker (lost end v.now seat.seen) seat.askers) (ends seat.seen)

      line : List Notice
      line = filter_map (tells_asker (λ place. dropped end) seat.askers) (line_places seat.seen)

      asked : (place : ℕ) (who : Who) → In place (ends seat.seen) → seat.askers place ≡ Some who →
          IsTold newer who (ended_as end (is_late end v.now seat.seen place))
      asked place who i a =
          subst (IsTold newer who) (lost_same end v.now seat.seen place)
          (from (notice who (lost end v.now seat.seen place))
          (in_left _ requests line (in_askers (lost end v.now seat.seen) seat.askers (ends seat.seen) place who i a)))

      stood : (place : ℕ) (who : Who) → In place (line_places seat.seen) → seat.askers place ≡ Some who → IsTold newer who (dropped end)
      stood place who i a =
          from (notice who (dropped end)) (in_right _ requests line (in_askers (λ p. dropped end) seat.askers (line_places seat.seen) place who i a))

      waited : (who starter : Who) (retries link : ℕ) → (base_of v seat.address).series ≡ Runs starter retries link →
          pause_of o.chosen end seat.address (Runs starter retries link) ≡ None → In who (base_of v seat.address).waiting →
          IsTold newer who (fails_so end (is_same who starter))
      waited who starter retries link runs none i =
          let n : Notice = failed end starter who in
          let b = base_of v seat.address in
          let p : pause_of v.chosen end seat.address b.series ≡ None =
          ap (λ c. pause_of c end seat.address b.series) (chosen_same o older) ∙ ap (pause_of o.chosen end seat.address) runs ∙ none in
          let all : In n (failed_at end b.series b.waiting) =
          subst (λ s. In n (failed_at end s b.waiting)) (sym runs) (into_map (failed end starter) who b.waiting i) in
          let own : In n waiting =
          subst (λ row. In n (waiters_of (failed_on end) v.addresses (option_map (turned_by v.chosen v.addresses v.now l (Ends end)) row))) (sym h)
          (subst (λ c. In n (failed_by end (change_at c) (pause_for v.chosen (Ends end) (change_at c) seat.address b.series) b)) (sym closes)
          (subst (λ q. In n (failed_over end q b)) (sym p) all)) in
          done n (in_opens n _ (in_left n (ended_on end v.now (v.links.live l) ++ waiting) (lost_on v l end)
          (in_right n (ended_on end v.now (v.links.live l)) waiting own)))

pub askers_are_told_lem : AskersAreTold
askers_are_told_lem o newer older l x seat run rests acts h =
    by x (λ n i. all_is_done_lem o newer older (Then (Comes (ToLink l x))) (Told n) run rests acts (inr (inr (inl i))))
  where
    by : (x : LinkAct) → Done o newer older l seat h x → Tells o l x seat newer older
    by Opens done = tt
    by Reads done = read_tells o newer older l seat h done
    by (Drains most) done = drain_tells o newer older l seat h most done
    by Pings done = tt
    by (Ends end) done = end_tells o newer older l seat h end done
