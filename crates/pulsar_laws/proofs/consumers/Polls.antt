-- A consumer is polled where the user asks for it, and its polls give what has come to it, in order.
use Rattle.std.proofs.Common.{◌≡◌, ℕ, ◌∙◌, sym, ap, subst, List, [], ◌∷◌, ◌++◌, refl, arith, map, Bool, true, false, ◌&&◌, not, cond, Option, Some, None, inl, inr, ◌==◌, append-nil, eq-eqb}
use Rattle.std.proofs.lemmas.Bool.{cases_Bool, eqb-true}
use Rattle.std.proofs.lemmas.Bool.Decides.{nat_tests}
use Rattle.std.proofs.lemmas.Grind.{common_steps}
use Rattle.std.proofs.lemmas.List.{map-append}
use Rattle.std.specs.List.{filter, flat_map}
use Rattle.std.specs.Option.{is_some, option_map, option_to_list}
use Rattle.pulsar_laws.proofs.ActWords.{Act, Arrival, Ask, Comes, Does, LinkAct, Polls, Shown, ToLink}
use Rattle.pulsar_laws.proofs.RunWords.{arranged, Begins, Each, each_append, each_either, each_map, EndsOnce, Entry, IsRun, Options, rules, Then, turned, view, View}
use Rattle.pulsar_laws.proofs.LinkWords.{Fault, is_body, Reply, Seat, url_at, Words}
use Rattle.pulsar_run.specs.Order.{InOrder, NoneBelow}
use Rattle.pulsar_run.specs.Run.{in_order, steps_done, with_effects}
use Rattle.pulsar_run.proofs.Orders.{kinds_in_order_lem}
use Rattle.pulsar_messages.specs.Claims.{is_spent}
use Rattle.pulsar_frame.specs.Items.{Item, Given, Faulty}
use Rattle.pulsar_calls.specs.declared.act.Arrival.TheVariants as arrivals
use Rattle.pulsar_calls.specs.Content.{Poll, Hands, Faults}
use Rattle.pulsar_acts.specs.Effects.{effects, retries_on}
use Rattle.pulsar_links.specs.LinkEffects.{asked_at, given_at}
use Rattle.pulsar_calls.specs.Order.{effect_below, effect_rank, is_before3}
use Rattle.pulsar_acts.specs.Run.{is_empty, steps}
use Rattle.pulsar_calls.specs.Steps.{Step}
use Rattle.pulsar_agenda.specs.Agenda.{first_of}
use Rattle.pulsar_agenda.proofs.Orders.{effect_order}
use Rattle.pulsar_client.proofs.Single.{poll_comes}
use Rattle.pulsar_laws.proofs.links.OfLink.{IsOf, asked_of, given_of}
use Rattle.pulsar_laws.proofs.calls.Plain.{ArePlain, effects_plain, is_plain, turned_plain}
use Rattle.pulsar_laws.proofs.calls.Ticketed.{consumer_ticket}
use Rattle.url.specs.Parts.{Parts}
use Rattle.pulsar_consumer.specs.Frames.{frame_in}
use Rattle.pulsar_consumer.specs.Topic.{Act as Done, Lives, Hears, Loses, Fails, Ends as Over, Polls as Polled, Asks, IsAt, TakesCopy, IsCopied, FailsCopy, Stops, Forgets, Checks, Seen, Setup, first_of as first_item, is_pending, lives_on, over, polled_from, seen}
use Rattle.pulsar_consumer.specs.Items as arrived
use Rattle.pulsar_consumer.specs.Items.{Item as Arrived, handed}
use Rattle.pulsar_consumer.specs.Laws.{given, given_by as given_in, left}
use Rattle.pulsar_incoming.specs.declared.polled.Ending.{Ending}
use Rattle.pulsar_incoming.specs.declared.polled.Ending.TheVariants.{Closed, TopicEnded}
use Rattle.pulsar_incoming.specs.declared.polled.Polled.{Polled as Answer}
use Rattle.pulsar_consumer.proofs.Histories.{polls_give_arrivals, polls_give_the_next}
use Rattle.pulsar_consumer.proofs.Plain.{plain_gives_all}
use Rattle.pulsar_consumer_table.specs.Consumers.{Arrives, ClientStops, CloseAsked, Deed, FlowTaken, IsPolled, IsSought, LinkEnds, Member, NotRevived, Revived, is_closed_by, polled, polled_so}
use Rattle.pulsar_laws.specs.ConsumerLaws.{PollsAreAnswered, PollsFollow, arrival_does, does_to, done_to, frame_does, given_by, items_given, loss_does, made_with, shows_next, subscription_does}
use Rattle.pulsar_laws.proofs.consumers.Deeds.{deed_does}
use Rattle.pulsar_laws.proofs.consumers.Lone.{IsKept, IsMade, IsNone, RowFrom, StandsSo, begun_rows, consumers_alone_lem, did_so, made_plain, row_from}
use Rattle.pulsar_laws.proofs.consumers.Members.{CameFrom}
use Rattle.pulsar_consumer.specs.Topic as reader
use Rattle.pulsar_incoming.specs.declared.polled.Polled.TheVariants as poll

-- A POLL IS ANSWERED

-- where it comes there is such a consumer
consumer_there : (t : ℕ) (row : Option Member) → first_of [] [] [] (cond (is_some row) (Polls t ∷ []) []) ≡ Some (Comes (Polls t)) →
    (m : Member) × (row ≡ Some m)
consumer_there t None h = absurd cc
consumer_there t (Some m) h = (m, refl)

pub polls_are_answered_lem : PollsAreAnswered
polls_are_answered_lem o log t run =
    let k = poll_comes o log t run in
    let here : IsRun o (Then (Comes (Polls t)) ∷ Begins (Poll t) ∷ k.0) = subst (λ l. IsRun o (Then (Comes (Polls t)) ∷ l)) k.1 run in
    let w = consumer_there t ((view o k.0).consumers.rows t) here.1 in
    let is_there : (view o (Begins (Poll t) ∷ k.0)).consumers.rows t ≡ Some w.0 = begun_rows (Poll t) (view o k.0) t ∙ w.1 in (
      k.0,
      w.0,
      k.1,
      w.1,
      ap (λ l. steps o (Then (Comes (Polls t)) ∷ l)) k.1
          ∙ ap (λ row. record { event = Poll t; effects = arranged effect_below (option_to_list (option_map (polled t) row)) } ∷ steps o k.0) is_there,
    )

-- WHAT A STEP GIVES

-- the effects that give an item to a poll of a ticket have one rank, so they stay in order
gives_it : ℕ → Shown → Bool
gives_it t x = not (is_empty (given_by t x))

abbrev Ranks : ℕ → Shown → Type 0
Ranks t x = effect_rank x ≡ (0, t, 0)

ranks : (t : ℕ) (x : Shown) → gives_it t x ≡ true → Ranks t x
unfolding gives_it
ranks t (Hands ticket topic id size metadata payload) h = elim (cases_Bool (t == ticket)) [
  | inl e ↦ ap (λ n. (0, n, 0)) (sym (eqb-true t ticket e))
  | inr e ↦ (let f : false ≡ true = rw e at h in absurd cc)
]
ranks t (Faults ticket fault) h = elim (cases_Bool (t == ticket)) [
  | inl e ↦ ap (λ n. (0, n, 0)) (sym (eqb-true t ticket e))
  | inr e ↦ (let f : false ≡ true = rw e at h in absurd cc)
]
ranks t _ h = absurd cc

irreflexive : (a b c : ℕ) → is_before3 (a, b, c) (a, b, c) ≡ false
irreflexive a b c = grind (arith, nat_tests, common_steps)

not_below : (t : ℕ) (x y : Shown) → Ranks t x → Ranks t y → effect_below x y ≡ false
not_below t x y p q = ap (λ r. is_before3 r (effect_rank y)) p ∙ ap (λ r. is_before3 (0, t, 0) r) q ∙ irreflexive 0 t 0

none_below : (t : ℕ) (x : Shown) (ys : List Shown) → Ranks t x → NoneBelow effect_below x (filter (gives_it t) ys)
none_below t x [] p = tt
none_below t x (y ∷ ys) p = by (gives_it t y) refl (none_below t x ys p)
  where
    by : (b : Bool) → gives_it t y ≡ b → NoneBelow effect_below x (filter (gives_it t) ys) →
        NoneBelow effect_below x (cond b (y ∷ filter (gives_it t) ys) (filter (gives_it t) ys))
    by true e k = (not_below t y x (ranks t y e) p, k)
    by false e k = k

filtered_order : (t : ℕ) (xs : List Shown) → InOrder effect_below (filter (gives_it t) xs)
filtered_order t [] = tt
filtered_order t (x ∷ xs) = by (gives_it t x) refl (filtered_order t xs)
  where
    by : (b : Bool) → gives_it t x ≡ b → InOrder effect_below (filter (gives_it t) xs) →
        InOrder effect_below (cond b (x ∷ filter (gives_it t) xs) (filter (gives_it t) xs))
    by true e k = (none_below t x xs (ranks t x e), k)
    by false e k = k

gives_not : (t : ℕ) (x : Shown) → gives_it t x ≡ false → given_by t x ≡ []
unfolding gives_it
gives_not t x h = nothing (given_by t x) h
  where
    nothing : (items : List Item) → not (is_empty items) ≡ false → items ≡ []
    nothing [] h = refl
    nothing (i ∷ items) h = absurd cc

filtered_gives : (t : ℕ) (xs : List Shown) → flat_map (given_by t) (filter (gives_it t) xs) ≡ flat_map (given_by t) xs
filtered_gives t [] = refl
filtered_gives t (x ∷ xs) = by (gives_it t x) refl (filtered_gives t xs)
  where
    by : (b : Bool) → gives_it t x ≡ b → flat_map (given_by t) (filter (gives_it t) xs) ≡ flat_map (given_by t) xs →
        flat_map (given_by t) (cond b (x ∷ filter (gives_it t) xs) (filter (gives_it t) xs)) ≡ flat_map (given_by t) (x ∷ xs)
    by true e k = ap (λ items. given_by t x ++ items) k
    by false e k = k ∙ ap (λ items. items ++ flat_map (given_by t) xs) (sym (gives_not t x e))

arranged_gives : (t : ℕ) (xs : List Shown) → flat_map (given_by t) (arranged effect_below xs) ≡ flat_map (given_by t) xs
arranged_gives t xs =
    sym (filtered_gives t (arranged effect_below xs))
    ∙ ap (flat_map (given_by t)) (kinds_in_order_lem Shown effect_below (gives_it t) xs effect_order (filtered_order t xs))
    ∙ filtered_gives t xs

-- so what a history gives is what its steps give as they are done
given_done : (t : ℕ) (ss : List Step) → items_given t (map (in_order effect_below) ss) ≡ items_given t ss
given_done t [] = refl
given_done t (s ∷ ss) =
    ap (λ items. items ++ flat_map (given_by t) (arranged effect_below s.effects)) (given_done t ss)
    ∙ ap (λ items. items_given t ss ++ items) (arranged_gives t s.effects)

-- WHAT GIVES NO ITEM

abbrev NoItem : ℕ → Shown → Type 0
NoItem t x = given_by t x ≡ []

abbrev NoItems : ℕ → List Shown → Type 0
NoItems t xs = Each (NoItem t) xs

gives_none : (t : ℕ) (xs ys : List Shown) → NoItems t ys → flat_map (given_by t) (xs ++ ys) ≡ flat_map (given_by t) xs
gives_none t [] [] p = refl
gives_none t [] (y ∷ ys) p = ap (λ items. items ++ flat_map (given_by t) ys) p.0 ∙ gives_none t [] ys p.1
gives_none t (x ∷ xs) ys p = ap (λ items. given_by t x ++ items) (gives_none t xs ys p)

with_none : (t : ℕ) (xs : List Shown) (ss : List Step) → NoItems t xs → items_given t (with_effects xs ss) ≡ items_given t ss
with_none t xs [] p = refl
with_none t xs (s ∷ ss) p = ap (λ items. items_given t ss ++ items) (gives_none t s.effects xs p)

given_same : (o : Options) (t : ℕ) (a : Act) (log : List Entry) → NoItems t (effects (view o log) a) →
    items_given t (steps o (Then a ∷ log)) ≡ items_given t (steps o log)
given_same o t a log p =
    given_done t (steps_done rules o (Then a ∷ log))
    ∙ with_none t (effects (view o log) a) (steps_done rules o log) p
    ∙ sym (given_done t (steps_done rules o log))

-- what is of a link is no item
of_gives : (t k : ℕ) (x : Shown) → IsOf k x → NoItem t x
of_gives t k (Hands ticket topic id size metadata payload) h = absurd cc
of_gives t k (Faults ticket fault) h = absurd cc
of_gives t k _ h = refl

asks_none : (t l now : ℕ) (request : Words) (row : Option Seat) → NoItems t (asked_at l now request row)
asks_none t l now request row = each_map (IsOf l) (NoItem t) (asked_at l now request row) (of_gives t l) (asked_of l now request row)

plain_gives : (t : ℕ) (x : Shown) → is_plain x ≡ true → given_by t x ≡ []
plain_gives t (Hands ticket topic id size metadata payload) h = absurd cc
plain_gives t (Faults ticket fault) h = absurd cc
plain_gives t _ h = refl

plain_none : (t : ℕ) (xs : List Shown) → ArePlain xs → NoItems t xs
plain_none t [] k = tt
plain_none t (x ∷ xs) k = (plain_gives t x k.0, plain_none t xs k.1)

link_none : (t l : ℕ) (x : LinkAct) (v : View) → NoItems t (effects v (Comes (ToLink l x)))
link_none t l x v =
    let row : Option Seat = v.links.live l in
    let more : List Shown = retries_on v.chosen (turned v (Comes (ToLink l x))) in
    each_append (NoItem t) (given_at l x v.now row) more (each_map (IsOf l) (NoItem t) (given_at l x v.now row) (of_gives t l) (given_of l x v.now row))
    (plain_none t more (turned_plain v.chosen (turned v (Comes (ToLink l x)))))

-- WHAT IS GIVEN IS WHAT WAS DONE GIVES

-- what acts give that are no polls
abbrev IsMute : Done → Type 0
IsMute (Polled clock) = ⊥
IsMute _ = Unit {0}

mute_gives : (act : Done) (s : Seen) → IsMute act → given_in act s ≡ []
mute_gives (Polled clock) s h = absurd h
mute_gives (Lives l url) s h = refl
mute_gives (Hears l f) s h = refl
mute_gives (Loses l) s h = refl
mute_gives (Fails f) s h = refl
mute_gives (Over why) s h = refl
mute_gives Asks s h = refl
mute_gives (IsAt clock) s h = refl
mute_gives TakesCopy s h = refl
mute_gives (IsCopied key clock) s h = refl
mute_gives (FailsCopy key clock) s h = refl
mute_gives Stops s h = refl
mute_gives (Forgets id) s h = refl
mute_gives (Checks clock) s h = refl

mutes_give : (s : Setup) (xs h : List Done) → Each IsMute xs → given s (xs ++ h) ≡ given s h
mutes_give s [] h k = refl
mutes_give s (x ∷ xs) h k =
    ap (λ items. given s (xs ++ h) ++ items) (mute_gives x (seen s (xs ++ h)) k.0) ∙ append-nil (given s (xs ++ h)) ∙ mutes_give s xs h k.1

frame_mute : (l : ℕ) (r : Reply) (s : Seen) → Each IsMute (frame_does l r s)
frame_mute l r s =
    each_either IsMute (is_body 9 r.content.body) (Hears l (frame_in r) ∷ []) _ (tt, tt)
    (each_either IsMute (is_body 27 r.content.body) (cond (lives_on l s) (Over TopicEnded ∷ []) []) _
    (each_either IsMute (lives_on l s) (Over TopicEnded ∷ []) [] (tt, tt) tt)
    (each_either IsMute (is_body 16 r.content.body) (Loses l ∷ []) [] (tt, tt) tt))

arrival_mute : (l : ℕ) (a : Arrival) (s : Seen) → Each IsMute (arrival_does l a s)
arrival_mute l (arrivals.Gives n r) s = each_either IsMute (s.number == n) (frame_does l r s) [] (frame_mute l r s) tt
arrival_mute l arrivals.Nothing s = tt
arrival_mute l arrivals.Readied s = tt
arrival_mute l arrivals.Settles s = tt
arrival_mute l arrivals.Passes s = tt
arrival_mute l (arrivals.Bad cause) s = tt

loss_mute : (l : ℕ) (cause : Option Fault) → Each IsMute (loss_does l cause)
loss_mute l None = tt
loss_mute l (Some cause) = (tt, tt)

subscription_mute : (l : ℕ) (url : Option Parts) → Each IsMute (subscription_does l url)
subscription_mute l None = tt
subscription_mute l (Some url) = (tt, tt)

abbrev pub is_poll : Act → Bool
is_poll (Comes (Polls t)) = true
is_poll _ = false

does_mute : (v : View) (t : ℕ) (m : Member) (a : Act) → is_poll a ≡ false → Each IsMute (does_to v t m a)
does_mute v t m a h = did_so (λ xs s. Each IsMute xs) (λ s. tt) (λ xs ys s q p. each_append IsMute xs ys p q) v t a one m
  where
    one : (d : Deed) → CameFrom v t a d → (n : Member) → Each IsMute (deed_does d n)
    one (Arrives l x) c n = arrival_mute l x n.seen
    one (LinkEnds l cause) c n = loss_mute l cause
    one (CloseAsked closed l b) c n = each_either IsMute (b && is_closed_by closed l n) (Over Closed ∷ []) [] (tt, tt) tt
    one (IsPolled clock) c n = let f : true ≡ false = sym (ap is_poll c.0) ∙ h in absurd cc
    one (IsSought who) c n = tt
    one FlowTaken c n = (tt, tt)
    one (Revived l url) c n = subscription_mute l url
    one (NotRevived f) c n = (tt, tt)
    one ClientStops c n = (tt, tt)

-- an effect of a poll gives what the poll gives
poll_item : (t : ℕ) (topic : List ℕ) (item : Option Arrived) (why : Option Ending) →
    given_by t (polled_so t topic (polled_from item why)) ≡ map handed (option_to_list item)
poll_item t topic (Some (arrived.Given id payload)) why = let e : (t == t) ≡ true = eq-eqb t t refl in rw e refl
poll_item t topic (Some (arrived.Faulty f)) why = let e : (t == t) ≡ true = eq-eqb t t refl in rw e refl
poll_item t topic None None = refl
poll_item t topic None (Some why) = refl

other_item : (t u : ℕ) (topic : List ℕ) (x : Answer) → (t == u) ≡ false → given_by t (polled_so u topic x) ≡ []
other_item t u topic (poll.Item (Given id size metadata payload)) e = rw e refl
other_item t u topic (poll.Item (Faulty f)) e = rw e refl
other_item t u topic poll.Empty e = refl
other_item t u topic poll.End e = refl

-- ALONG A LOG

-- what was given is what its polls gave; where there is no consumer nothing was
abbrev Given' : Options → List Entry → (ticket : ℕ) → Option Member → Type 0
Given' o log t None = items_given t (steps o log) ≡ []
Given' o log t (Some m) = (s : Setup) → made_with o t log ≡ Some s → items_given t (steps o log) ≡ map handed (given s (done_to o t log))

-- the newest step gives what the poll gives
poll_given : (o : Options) (t u : ℕ) (m : Member) (log older : List Entry) → log ≡ Begins (Poll u) ∷ older →
    steps o (Then (Comes (Polls u)) ∷ log) ≡ record { event = Poll u; effects = polled u m ∷ [] } ∷ steps o older →
    items_given t (steps o (Then (Comes (Polls u)) ∷ log)) ≡ items_given t (steps o log) ++ given_by t (polled u m)
poll_given o t u m log older is step =
    ap (items_given t) step
    ∙ ap (λ x. items_given t (steps o older) ++ x) (append-nil (given_by t (polled u m)))
    ∙ ap (λ x. x ++ given_by t (polled u m)) (sym (ap (λ x. items_given t (steps o x)) is ∙ append-nil (items_given t (steps o older))))

module _ (once : EndsOnce) (o : Options) (t : ℕ) (un : is_spent t ≡ false) where
  given_at_poll : (u : ℕ) (log : List Entry) → IsRun o (Then (Comes (Polls u)) ∷ log) →
      (m : Member) × ((view o log).consumers.rows u ≡ Some m)
      × (items_given t (steps o (Then (Comes (Polls u)) ∷ log)) ≡ items_given t (steps o log) ++ given_by t (polled u m))
  given_at_poll u log run =
      let w = polls_are_answered_lem o log u run in
      (w.1, ap (λ l. (view o l).consumers.rows u) w.2 ∙ begun_rows (Poll u) (view o w.0) u ∙ w.3, poll_given o t u w.1 log w.0 w.2 w.4)

  -- the effects of an act that is no poll
  given_same_at : (a : Act) (log : List Entry) → is_poll a ≡ false → items_given t (steps o (Then a ∷ log)) ≡ items_given t (steps o log)
  given_same_at (Comes (Polls u)) log h = absurd cc
  given_same_at (Comes (ToLink l x)) log h = given_same o t (Comes (ToLink l x)) log (link_none t l x (view o log))
  given_same_at (Does who (Ask l request)) log h =
      given_same o t (Does who (Ask l request)) log (asks_none t l (view o log).now request ((view o log).links.live l))
  given_same_at a log h = given_same o t a log (plain_none t (effects (view o log) a) (effects_plain (view o log) a refl))

  -- what an act gives to its polls
  kept_given : (a : Act) (log : List Entry) (m : Member) → (view o log).consumers.rows t ≡ Some m → IsRun o (Then a ∷ log) → (s : Setup) →
      m.seen ≡ seen s (done_to o t log) → items_given t (steps o log) ≡ map handed (given s (done_to o t log)) → (b : Bool) → is_poll a ≡ b →
      items_given t (steps o (Then a ∷ log)) ≡ map handed (given s (does_to (view o log) t m a ++ done_to o t log))
  kept_given a log m e run s is before false h =
      given_same_at a log h ∙ before
      ∙ ap (map handed) (sym (mutes_give s (does_to (view o log) t m a) (done_to o t log) (does_mute (view o log) t m a h)))
  kept_given (Comes (Polls u)) log m e run s is before true h =
      let w = given_at_poll u log run in
      elim (cases_Bool (t == u)) [
        | inl same ↦
            (let tu : t ≡ u = eqb-true t u same in
            let own : Some w.0 ≡ Some m = sym w.1 ∙ ap (λ x. (view o log).consumers.rows x) (sym tu) ∙ e in
            let it : w.0 ≡ m = cc in
            let first : Seen → List Arrived = λ (v : Seen). option_to_list (first_item v.engine.unread) in
            let gave : given_by t (polled u w.0) ≡ map handed (first (seen s (done_to o t log))) =
            ap (λ x. given_by t (polled x w.0)) (sym tu)
            ∙ poll_item t w.0.seen.topic (first_item w.0.seen.engine.unread) (over (is_pending w.0.seen.engine) w.0.seen.ended)
            ∙ ap (λ (x : Member). map handed (first x.seen)) it
            ∙ ap (λ x. map handed (first x)) is in
            w.2
            ∙ ap (λ x. items_given t (steps o log) ++ x) gave
            ∙ ap (λ x. x ++ map handed (first (seen s (done_to o t log)))) before
            ∙ sym (map-append handed (given s (done_to o t log)) (first (seen s (done_to o t log))))
            ∙ ap (λ b. map handed (given s ((cond b (Polled (view o log).now ∷ []) []) ++ done_to o t log))) (sym same))
        | inr other ↦
            (w.2
            ∙ ap (λ x. items_given t (steps o log) ++ x) (other_item t u w.0.seen.topic (reader.polled w.0.seen) other)
            ∙ append-nil (items_given t (steps o log))
            ∙ before
            ∙ ap (λ b. map handed (given s ((cond b (Polled (view o log).now ∷ []) []) ++ done_to o t log))) (sym other))
      ]
  kept_given a log m e run s is before true h = absurd cc

  -- where there is none, nothing is given
  none_given : (a : Act) (log : List Entry) → (view o log).consumers.rows t ≡ None → IsRun o (Then a ∷ log) → items_given t (steps o log) ≡ [] →
      (b : Bool) → is_poll a ≡ b → items_given t (steps o (Then a ∷ log)) ≡ []
  none_given a log e run before false h = given_same_at a log h ∙ before
  none_given (Comes (Polls u)) log e run before true h =
      let w = given_at_poll u log run in
      elim (cases_Bool (t == u)) [
        | inl same ↦
            (let none : None ≡ Some w.0 = sym e ∙ ap (λ x. (view o log).consumers.rows x) (eqb-true t u same) ∙ w.1 in absurd cc)
        | inr other ↦
            (w.2 ∙ ap (λ x. items_given t (steps o log) ++ x) (other_item t u w.0.seen.topic (reader.polled w.0.seen) other)
            ∙ append-nil (items_given t (steps o log)) ∙ before)
      ]
  none_given a log e run before true h = absurd cc

  -- a new one has given nothing
  made_given : (s : Setup) (l : ℕ) (url : Option Parts) → given s (subscription_does l url) ≡ []
  made_given s l None = refl
  made_given s l (Some url) = refl

  some_is : {A : Type 0} {x y : A} → Some x ≡ Some y → x ≡ y
  some_is {A} {x} {y} e = cc

  gives_on : (a : Act) (log : List Entry) → RowFrom o log a t → IsRun o (Then a ∷ log) → Given' o log t ((view o log).consumers.rows t) →
      ((m : Member) → (view o log).consumers.rows t ≡ Some m → StandsSo o log t m) →
      Given' o (Then a ∷ log) t ((view o (Then a ∷ log)).consumers.rows t)
  gives_on a log (IsNone e f) run g stands =
      subst (Given' o (Then a ∷ log) t) (sym f) (none_given a log e run (subst (Given' o log t) e g) (is_poll a) refl)
  gives_on a log (IsMade s l e f how did) run g stands =
      subst (Given' o (Then a ∷ log) t) (sym f)
      (λ r how'. none_given a log e run (subst (Given' o log t) e g) (is_poll a) refl
      ∙ sym (ap (λ h. map handed (given r h)) did ∙ ap (map handed) (made_given r l (url_at ((view o log).links.live l)))))
  gives_on a log (IsKept m e r how did) run g stands =
      let k = stands m e in
      let was : (s : Setup) → made_with o t log ≡ Some s → items_given t (steps o log) ≡ map handed (given s (done_to o t log)) =
      subst (Given' o log t) e g in
      subst (Given' o (Then a ∷ log) t) (sym r.is_it)
      (λ s how'. let own : k.0 ≡ s = some_is (sym k.1 ∙ sym how ∙ how') in
      kept_given a log m e run s (k.2 ∙ ap (λ x. seen x (done_to o t log)) own) (was s (sym how ∙ how')) (is_poll a) refl
      ∙ ap (λ h. map handed (given s h)) (sym did))

  gives : (log : List Entry) → IsRun o log → Given' o log t ((view o log).consumers.rows t)
  gives [] run = refl
  gives (Begins e ∷ log) run =
      subst (Given' o (Begins e ∷ log) t) (sym (begun_rows e (view o log) t)) (begun_given ((view o log).consumers.rows t) (gives log run.0))
    where
      begun_given : (row : Option Member) → Given' o log t row → Given' o (Begins e ∷ log) t row
      begun_given None g = append-nil (items_given t (steps o log)) ∙ g
      begun_given (Some m) g = λ s how. append-nil (items_given t (steps o log)) ∙ g s how
  gives (Then a ∷ log) run =
      gives_on a log (row_from o log t once a un run) run (gives log run.0)
      (λ m e. consumers_alone_lem once o log t m run.0 e)

-- and its effect is that of what is left, or of its end
shows_left : (t : ℕ) (topic : List ℕ) (items : List Arrived) (why : Option Ending) →
    polled_so t topic (polled_from (first_item items) why) ≡ shows_next t topic (map handed items) why
shows_left t topic (arrived.Given id payload ∷ items) why = refl
shows_left t topic (arrived.Faulty fault ∷ items) why = refl
shows_left t topic [] (Some why) = refl
shows_left t topic [] None = refl

pub polls_follow_lem : EndsOnce → PollsFollow
polls_follow_lem once o log t m run e =
    let k = consumers_alone_lem once o log t m run e in
    let h : List Done = done_to o t log in
    let g : (s : Setup) → made_with o t log ≡ Some s → items_given t (steps o log) ≡ map handed (given s h) =
    subst (Given' o log t) e (gives once o t (consumer_ticket o log t m run e) log run) in
    let plain = plain_gives_all k.0 h (made_plain o t log k.0 k.1) in
    let next : reader.polled m.seen ≡ polled_from (first_item (left k.0 h)) m.seen.ended =
    ap reader.polled k.2
    ∙ polls_give_the_next k.0 h
    ∙ (λ i. polled_from (first_item (left k.0 h)) (over (plain.1 i) (seen k.0 h).ended))
    ∙ ap (λ x. polled_from (first_item (left k.0 h)) x.ended) (sym k.2) in (
      k.0,
      left k.0 h,
      k.1,
      ap (λ x. x ++ map handed (left k.0 h)) (g k.0 k.1)
          ∙ sym (map-append handed (given k.0 h) (left k.0 h))
          ∙ ap (map handed) (polls_give_arrivals k.0 h ∙ plain.0),
      next,
      ap (polled_so t m.seen.topic) next ∙ shows_left t m.seen.topic (left k.0 h) m.seen.ended,
    )
