-- What an action gives at once: nothing, or that one is told what came of it, or a dial; and the Stop ends all links. `performs` is walked once, here.
use Rattle.std.proofs.Common.{◌≡◌, ap, ℕ, List, [], ◌∷◌, ◌++◌, refl, Bool, true, false, cond, Option, Some, None, Result, Ok, Err}
use Rattle.std.specs.Option.{option_map}
use Rattle.pulsar_laws.proofs.ActWords.{Act, Action, Answers, Ask, Comes, Dials, Does, Draw, Ends, FailConsumer, Find, FindConsumer, Flush, Get, Hold, Number, OfTopic, Outcome, PassTurn, Recall, RecallConsumer, Remake, Rest, Revive, Shut, Starts, StopAll, Stops, Store, TakeBatch, TakeFlow, TakeNumber, TakeTurn, Tell, TellAll, ToLink, Told, TopicAsk, Wait, Who, ticket_of, OfConsumer}
use Rattle.pulsar_laws.proofs.PlanWords.{Command, Drawn, News}
use Rattle.pulsar_laws.proofs.RunWords.{Each, each_append, notice, over_each, performs, room_of, tells, View}
use Rattle.pulsar_laws.proofs.LinkWords.{address_key, answer_at, ConnectionError, is_reachable, Nobody, over_links, Pauses, Place, Runs, Series, Serves, stop_act, told_at, Words}
use Rattle.pulsar_session.specs.declared.states.Asked.{Asked}
use Rattle.pulsar_session.specs.declared.states.Asked.TheVariants as asked
use Rattle.pulsar_outgoing.specs.declared.news.News.TheVariants as news
use Rattle.pulsar_calls.specs.declared.act.Outcome.TheVariants as outcome
use Rattle.pulsar_producer_table.specs.declared.table.Topic.{Topic}
use Rattle.pulsar_producer_table.specs.Producers.{drawn, is_settled_at, link_at, next_batch_at, number_drawn, recalled, turn_taken}
use Rattle.pulsar_producer_table.specs.Asks.{draw_outcome, draw_said, grants_it, link_said, recall_said, turn_said}
use Rattle.pulsar_acts.specs.Rules.{gets_from, number_said, says_to}
use Rattle.pulsar_consumer_table.specs.Asks.{recalled_said, sought_said}
use Rattle.pulsar_acts.specs.Reading.{numbering_said}
use Rattle.pulsar_consumer_table.specs.Consumers as consumer
use Rattle.pulsar_consumer_table.specs.declared.row.LinkAnswer.{LinkAnswer}
use Rattle.pulsar_consumer_table.specs.declared.row.LinkAnswer.TheVariants.{Found, Gone, Later}
use Rattle.pulsar_consumer_table.specs.declared.numbers.Numbering.{Numbering}
use Rattle.pulsar_consumer_table.specs.declared.numbers.Numbering.TheVariants.{Has, InUse, Spent}
use Rattle.pulsar_client.proofs.Raising.{IsRaised}
use Rattle.pulsar_laws.specs.Laws.{GrantsSo}
use Rattle.pulsar_laws.proofs.Cases.{cond_so}
use Rattle.pulsar_acts.specs.View.{asked_of}

-- an action grants just this
abbrev pub GivenBy : View → Action → News → Type 0
GivenBy v action n = GrantsSo n action v

abbrev pub SaysSo : View → Action → Outcome → Type 0
SaysSo v action (outcome.Granted n) = GivenBy v action n
SaysSo v action _ = Unit {0}

abbrev pub GivesSo : View → Action → Act → Type 0
GivesSo v action (Told n) = SaysSo v action n.outcome
GivesSo v action _ = Unit {0}

-- and tells of no part of a call
abbrev pub is_part : Outcome → Bool
is_part (outcome.Parted k f) = true
is_part _ = false

pub data AtOnce (v : View) (who : Who) : Action → List Act → Type 0 where
  nothing : {action : Action} → AtOnce v who action []
  says : {action : Action} {u : Outcome} → SaysSo v action u → is_part u ≡ false → AtOnce v who action (Told (notice who u) ∷ [])
  dials : {p : Place} → AtOnce v who (Get p) (Dials p who 0 ∷ [])
  stops_all : AtOnce v who StopAll (over_links stop_act v.links ++ tells who outcome.Stopped)

module _ (v : View) (who : Who) where
  gets_once : (p : Place) (x : Series) → AtOnce v who (Get p) (gets_from who p x)
  gets_once p Nobody = dials
  gets_once p (Runs starter retries l) = nothing
  gets_once p (Pauses l) = nothing
  gets_once p (Serves l) = says tt refl

  asks_once : (l : ℕ) (request : Words) (r : Result Asked ConnectionError) → AtOnce v who (Ask l request) (tells who (told_at r))
  asks_once l request (Ok (asked.Queued place)) = says tt refl
  asks_once l request (Ok (asked.Waiting place)) = says tt refl
  asks_once l request (Err e) = says tt refl

  turns_once : (n : ℕ) (row : Option Topic) → v.producers.topics n ≡ row → AtOnce v who (OfTopic n TakeTurn) (says_to who (turn_said row))
  turns_once n None e = says tt refl
  turns_once n (Some t) e = taken_once (turn_taken (Some t)) (ap turn_taken e)
    where
      taken_once : (r : Option (Option (List ℕ))) → turn_taken (v.producers.topics n) ≡ r →
          AtOnce v who (OfTopic n TakeTurn) (says_to who (option_map (λ version. outcome.Granted (news.HasTurn version)) r))
      taken_once None f = nothing
      taken_once (Some version) f = says f refl

  draws_once : (n : ℕ) (r : Option Bool) → room_of v n ≡ r → AtOnce v who (OfTopic n Draw) (tells who (draw_outcome r (v.producers.topics n)))
  draws_once n None e = says tt refl
  draws_once n (Some room) e = drawn_once (drawn room (v.producers.topics n)) refl
    where
      drawn_once : (d : Option Drawn) → drawn room (v.producers.topics n) ≡ d → AtOnce v who (OfTopic n Draw) (tells who (draw_said d))
      drawn_once None f = says tt refl
      drawn_once (Some d) f = says (room, e, f) refl

  recalls_once : (n : ℕ) (r : Option Command) → recalled v.producers n ≡ r → AtOnce v who (OfTopic n Recall) (says_to who (recall_said r))
  recalls_once n None e = says tt refl
  recalls_once n (Some c) e = says e refl

  numbers_once : (r : Option ℕ) → number_drawn v.producers ≡ r → AtOnce v who Number (tells who (number_said r))
  numbers_once None e = says tt refl
  numbers_once (Some n) e = says e refl

  finds_once : (n : ℕ) (r : Option ℕ) → AtOnce v who (OfTopic n Find) (says_to who (link_said r))
  finds_once n None = says tt refl
  finds_once n (Some l) = says tt refl

  flushes_once : (n : ℕ) (b : Bool) → is_settled_at (v.producers.topics n) ≡ b → AtOnce v who (OfTopic n Flush) (says_to who (cond b (grants_it news.Done) None))
  flushes_once n true e = says e refl
  flushes_once n false e = nothing

  numbering_once : (wanted : Option ℕ) (x : Numbering) → AtOnce v who (TakeNumber wanted) (tells who (numbering_said x))
  numbering_once wanted (Has n) = says tt refl
  numbering_once wanted InUse = says tt refl
  numbering_once wanted Spent = says tt refl

  sought_once : (t : ℕ) (x : LinkAnswer) → AtOnce v who (OfConsumer (FindConsumer t)) (says_to who (sought_said x))
  sought_once t (Found l) = says tt refl
  sought_once t Gone = says tt refl
  sought_once t Later = nothing

  command_once : (r : Option Command) → AtOnce v who (OfConsumer RecallConsumer) (tells who (recalled_said r))
  command_once None = says tt refl
  command_once (Some c) = says tt refl

  ask_once : (n : ℕ) (ask : TopicAsk) → AtOnce v who (OfTopic n ask) (says_to who (asked_of v who n ask).says)
  ask_once n TakeTurn = turns_once n (v.producers.topics n) refl
  ask_once n Draw = draws_once n (room_of v n) refl
  ask_once n Recall = recalls_once n (recalled v.producers n) refl
  ask_once n Find = finds_once n (link_at (v.producers.topics n))
  ask_once n Flush = flushes_once n (is_settled_at (v.producers.topics n)) refl
  ask_once n TakeBatch = says refl refl
  ask_once n _ = says tt refl

  pub performs_once : (action : Action) → AtOnce v who action (performs v who action)
  performs_once (Get p) =
      cond_so (AtOnce v who (Get p)) (is_reachable p) _ _ (gets_once p (v.addresses.base (address_key p)).series) (says tt refl)
  performs_once (Ask l request) = asks_once l request (answer_at v.now request (v.links.live l))
  performs_once StopAll = stops_all
  performs_once (Wait delay) = nothing
  performs_once (OfTopic n ask) = ask_once n ask
  performs_once Number = numbers_once (number_drawn v.producers) refl
  performs_once (TakeNumber wanted) = numbering_once wanted (consumer.numbering v.consumers wanted)
  performs_once (OfConsumer (FindConsumer t)) = sought_once t (consumer.sought (v.consumers.rows t))
  performs_once (OfConsumer RecallConsumer) = command_once (consumer.recalled (v.consumers.rows (ticket_of who)))
  performs_once (OfConsumer _) = says tt refl
  performs_once Rest = nothing
  performs_once _ = says tt refl

-- so of each act that it gives
pub once_each : {v : View} {who : Who} {action : Action} {xs : List Act} (P : Act → Type 0) →
    ((u : Outcome) → SaysSo v action u → is_part u ≡ false → P (Told (notice who u))) → ((p : Place) → P (Dials p who 0)) →
    ((l : ℕ) → P (Comes (ToLink l (Ends Stops)))) → AtOnce v who action xs → Each P xs
once_each P t d s nothing = tt
once_each P t d s (says {u} k b) = (t u k b, tt)
once_each P t d s (dials {p}) = (d p, tt)
once_each {v} {who} P t d s stops_all =
    each_append P (over_links stop_act v.links) (tells who outcome.Stopped) (over_each P stop_act v.links (λ l seat. (s l, tt)))
    (t outcome.Stopped tt refl, tt)

-- nobody is told anything at once but by what one does
abbrev pub does_it : Act → Bool
does_it (Does who action) = true
does_it _ = false

abbrev pub is_notice : Act → Bool
is_notice (Told n) = true
is_notice _ = false

pub raised_told : (a b : Act) → does_it a ≡ false → IsRaised a b → is_notice b ≡ false
raised_told (Does who action) (Told n) d r = absurd cc
raised_told (Comes p) (Told n) d r = absurd cc
raised_told (Starts who p) (Told n) d r = absurd cc
raised_told (Told m) (Told n) d r = absurd cc
raised_told (Answers who verdict) (Told n) d r = absurd cc
raised_told (Dials p who retries) (Told n) d r = absurd cc
raised_told a _ d r = refl
