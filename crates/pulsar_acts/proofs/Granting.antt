-- What plans ask of topic producers and consumers: what is left to do, and what is seen of them afterwards.
use Rattle.std.proofs.Common.{◌≡◌, ◌∙◌, ap, sym, ℕ, Bool, false, cond, List, [], ◌++◌, refl, Option, Some}
use Rattle.std.proofs.lemmas.List.{append-nil}
use Rattle.pulsar_run.specs.Things.{row_after}
use Rattle.pulsar_producer.specs.Topic as topic
use Rattle.pulsar_calls.specs.declared.act.Act.{Act}
use Rattle.pulsar_calls.specs.declared.act.Act.TheVariants.{Does}
use Rattle.pulsar_calls.specs.declared.act.Action.TheVariants.{OfTopic}
use Rattle.pulsar_calls.specs.declared.act.Makes.{Makes}
use Rattle.pulsar_calls.specs.declared.act.Makes.TheVariants as makes
use Rattle.pulsar_consumer.specs.Topic.{of_raw}
use Rattle.pulsar_calls.specs.declared.act.TopicAsk.{TopicAsk}
use Rattle.pulsar_calls.specs.declared.act.TopicAsk.TheVariants.{Store, Flush}
use Rattle.pulsar_calls.specs.declared.act.Who.{Who}
use Rattle.pulsar_calls.specs.declared.act.Who.TheVariants as who
use Rattle.pulsar_calls.specs.Who.{rank, turn_of}
use Rattle.pulsar_consumer_table.specs.Consumers as consumer
use Rattle.pulsar_consumer_table.specs.Consumers.{Consumers, Member, member_by}
use Rattle.pulsar_consumer_table.proofs.Asking as asking
use Rattle.pulsar_links.specs.Seats.{Seat}
use Rattle.pulsar_producer_table.specs.Producers.{Producers, done_to, freed, is_bare, topic_after}
use Rattle.pulsar_producer_table.proofs.Asking.{joined_is}
use Rattle.pulsar_agenda.specs.Agenda.{Agenda}
use Rattle.pulsar_machine.specs.Options.{Chosen}
use Rattle.pulsar_acts.specs.Tables.{consumers_made, fills, joins_as, producers_made, waiting_from}
use Rattle.pulsar_acts.specs.View.{View, after, asked_of, building_of, consumers_left, consumers_listed, listed_as, member_made, member_of, member_on, producers_left, producers_listed, setup_of, topic_of}
use Rattle.pulsar_acts.proofs.Storing.{waits_on}

-- what comes at once stands in front
pub in_front : (g : Agenda) (xs ys : List Act) → xs ≡ ys → record g { now = xs ++ g.now } ≡ record g { now = ys ++ g.now; behind = g.behind ++ [] }
in_front g xs ys e i = record { now = e i ++ g.now; here = g.here; behind = sym (append-nil g.behind) i; parts = g.parts }

-- WHAT IS SEEN OF ONE THAT IS ASKED, and how long what it stores waits

waits_not : (v : View) (x : View) (b : Bool) (ps qs : Producers) → b ≡ false → ps ≡ qs → cond b x (record v { producers = ps }) ≡ record v { producers = qs }
waits_not v x b ps qs f is = ap (λ y. cond y x (record v { producers = ps })) f ∙ ap (λ y. record v { producers = y }) is

pub asked_sees : (v : View) (who : Who) (n : ℕ) (ask : TopicAsk) (ps : Producers) (was b : Bool) →
    ps ≡ done_to n (asked_of v who n ask).acts v.producers → was ≡ is_bare (v.producers.topics n) → b ≡ fills ask →
    cond b (waiting_from n was (record v { producers = ps })) (record v { producers = ps }) ≡ after (Does who (OfTopic n ask)) v
asked_sees v who n (Store e) ps was b is before f =
    ap (λ y. cond y (waiting_from n was (record v { producers = ps })) (record v { producers = ps })) f
    ∙ waits_on v n (topic.Stores (turn_of who) e) ps was is before
asked_sees v who n Flush ps was b is before f =
    ap (λ y. cond y (waiting_from n was (record v { producers = ps })) (record v { producers = ps })) f
    ∙ waits_on v n (topic.Flushes (turn_of who)) ps was is before
asked_sees v who n ask ps was b is before f =
    waits_not v (waiting_from n was (record v { producers = ps })) b ps (done_to n (asked_of v who n ask).acts v.producers) f is

-- THOSE THAT A VERDICT MAKES

made_is : (o : Chosen) (who : Who) (m : Makes) (ps : Producers) →
    producers_made o who m ps
    ≡ record (producers_listed o who m ps) { topics = λ n. row_after topic_after (topic_of (building_of m) who o n) false [] (ps.topics n) }
made_is o who (makes.Producer b) ps = joined_is (rank who).1 b o.seed o.first_number ps
made_is o who _ ps = refl

-- and the call makes none any more
pub left_is : (o : Chosen) (who : Who) (m : Makes) (ps : Producers) →
    producers_left who (producers_made o who m ps)
    ≡ record (producers_left who (producers_listed o who m ps)) {
      topics = λ n. row_after topic_after (topic_of (building_of m) who o n) false [] (ps.topics n);
    }
left_is o (who.Call t) m ps = ap (freed t) (made_is o (who.Call t) m ps)
left_is o (who.Consumer n t) m ps = made_is o (who.Consumer n t) m ps
left_is o (who.Producer n) m ps = made_is o (who.Producer n) m ps

-- and consumers
joins_is : (who : Who) (m : Member) (cs : Consumers) →
    joins_as who m cs ≡ record (listed_as who cs) { rows = λ t. row_after member_by (member_of (Some m) who t) false [] (cs.rows t) }
joins_is (who.Call t) m cs = asking.joined_is t m cs
joins_is (who.Consumer n t) m cs = refl
joins_is (who.Producer n) m cs = refl

rows_are : (live : ℕ → Option Seat) (who : Who) (m : Makes) (cs : Consumers) →
    consumers_made live who m cs
    ≡ record (consumers_listed who m cs) { rows = λ t. row_after member_by (member_of (member_made live cs.next_key m) who t) false [] (cs.rows t) }
rows_are live who (makes.Consumer j) cs = joins_is who (member_on live j.link (setup_of cs.next_key j)) (consumer.keyed cs)
rows_are live who (makes.RawConsumer l made) cs = joins_is who (member_on live l (of_raw made)) cs
rows_are live who _ cs = refl

pub held_is : (live : ℕ → Option Seat) (who : Who) (m : Makes) (cs : Consumers) →
    consumers_left who (consumers_made live who m cs)
    ≡ record (consumers_left who (consumers_listed who m cs)) {
      rows = λ t. row_after member_by (member_of (member_made live cs.next_key m) who t) false [] (cs.rows t);
    }
held_is live (who.Call t) m cs = ap (consumer.freed t) (rows_are live (who.Call t) m cs)
held_is live (who.Consumer n t) m cs = rows_are live (who.Consumer n t) m cs
held_is live (who.Producer n) m cs = rows_are live (who.Producer n) m cs
