-- No plan asks to acknowledge: only a procedure that begins so does.
use Rattle.std.proofs.Common.{◌≡◌, subst, ℕ, List, refl, Bool, true, false, Option, Some, None, Result, Ok, Err}
use Rattle.pulsar_laws.proofs.ActWords.{Action, Ask, Checks, Flushes, Link, Outcome, Procedure}
use Rattle.pulsar_laws.proofs.PlanWords.{action_of, Batches, Batching, begins, BuildingProducer as Build, Command, Deed, Errand, Heard as Heard', Looking, Making, Naming, News, news_in, news_of, Plan, ProducerOrder, Producing, SearchTransition, Sending as Send, Served, Serving, Subscribing, told, Ways}
use Rattle.pulsar_laws.proofs.LinkWords.{Failure, Named, Place, Words}
use Rattle.pulsar_searches.specs.Plans as search
use Rattle.pulsar_searches.specs.declared.turn.Action.TheVariants as wish
use Rattle.pulsar_producer.specs.declared.batching.Batching.TheVariants as batching
use Rattle.pulsar_producer.specs.declared.building.BuildingProducer.TheVariants as build
use Rattle.pulsar_outgoing.specs.declared.news.News.TheVariants as news
use Rattle.pulsar_producer.specs.declared.sending.Sending.TheVariants as send
use Rattle.pulsar_consumer.specs.Plans as consume
use Rattle.pulsar_consumer.specs.declared.building.BuildingConsumer.{BuildingConsumer as ConsumerBuild}
use Rattle.pulsar_consumer.specs.declared.building.BuildingConsumer.TheVariants as consumer_build
use Rattle.pulsar_consumer.specs.declared.building.Deed.{Deed as ConsumerDeed}
use Rattle.pulsar_consumer.specs.declared.building.Deed.TheVariants as consumer_deed
use Rattle.pulsar_consumer.specs.declared.building.News.{News as ConsumerNews}
use Rattle.pulsar_consumer.specs.declared.building.News.TheVariants as consumer_news
use Rattle.pulsar_incoming.specs.declared.orders.ConsumerOrder.{ConsumerOrder}
use Rattle.pulsar_consumer.specs.declared.resuming.Resuming.{Resuming}
use Rattle.pulsar_consumer.specs.declared.resuming.Resuming.TheVariants as resume
use Rattle.pulsar_calls.specs.declared.act.Outcome.TheVariants as outcome
use Rattle.pulsar_calls.specs.declared.act.Procedure.TheVariants as procedure
use Rattle.pulsar_calls.specs.declared.act.Round.{Round}
use Rattle.pulsar_calls.specs.declared.act.Round.TheVariants.{Closes}
use Rattle.pulsar_calls.specs.declared.act.Word.TheVariants as word
use Rattle.pulsar_plans.specs.declared.plan.Plan.TheVariants.{Getting, Searching, Sending}
use Rattle.pulsar_plans.specs.declared.service.Service.{Service}
use Rattle.pulsar_plans.specs.declared.service.Service.TheVariants as service
use Rattle.pulsar_plans.specs.Plan.{asks_of}
use Rattle.pulsar_laws.specs.ConsumerLaws.{is_ack}
use Rattle.pulsar_producer.proofs.Arcs.{BuildArc, SendArc, asks, building_rests, builds_on_asks, builds_on_gets, builds_on_waits, built_closes, closes_on, looked_makes, looking_rests, looks_on_asks, looks_on_gets, looks_on_waits, makes_on_asks, makes_on_gets, makes_on_waits, making_rests, names_on_asks, numbered_closes, numbered_makes, recalled_looks_asks, recalled_looks_gets, recalled_looks_waits, recalled_makes}
use Rattle.pulsar_plans.proofs.Arcs.{Arc, BatchArc, Begun, StaysSo, batch_sends, batches_go, begins_acknowledge, begins_asking, begins_by, begins_getting, begins_produce_asks, begins_search_asks, begins_search_gets, begins_search_waits, begins_subscribe_asks, builds_on, departs_asks, ended_closes, flow_asks, found_asks, got_asks, over_closes, part_sends, recalled_resumes_asks, recalled_resumes_gets, recalled_resumes_waits, resumes_on_asks, resumes_on_gets, resumes_on_waits, search_rests, searches_asks, searches_gets, searches_waits, sends, serving_rests, stays_by, subscribed_numbers, subscribed_rests, subscribes_on_asks, subscribes_on_gets, subscribes_on_waits, subscribing_rests}
use Rattle.pulsar_laws.proofs.plans.MildSearches.{Any, IsMildCommand, IsMildWish, MildSearch, MildSought, MildTurn, and_mild, look_mild, made_mild, names_begun, names_mild, own_ack, search_begun, search_mild}
use Rattle.pulsar_searches.specs.declared.transition.Transition.TheVariants as transition

-- A SEND

abbrev pub MildSend : Send → Type 0
MildSend (send.Looking m c l) = IsMildCommand c
MildSend (send.Making m c k) = IsMildCommand c
MildSend (send.Waiting m) = Unit {0}
MildSend (send.Drawing m) = Unit {0}
MildSend (send.Asked k) = Unit {0}
MildSend send.Sent = Unit {0}
MildSend (send.Recalling m) = Unit {0}
MildSend (send.Remaking m) = Unit {0}
MildSend (send.Ending f) = Unit {0}

-- of commands it is told such
abbrev pub MildNews : News → Type 0
MildNews (news.Recalled c) = IsMildCommand c
MildNews _ = Unit {0}

-- what it asks for
abbrev pub asks_ack : Action → Bool
asks_ack (Ask l request) = is_ack request
asks_ack _ = false

abbrev pub IsMild : Action → Type 0
IsMild a = asks_ack a ≡ false

-- by what a search asks for
asks_so : {S A : Type 0} {q : S} {l : ℕ} {request : Words} (P : S → Type 0) (t : SearchTransition S A) → MildTurn P t →
    t ≡ transition.Stays q (wish.Ask l request) → is_ack request ≡ false
asks_so {request} P t k e = own_ack request (subst (MildTurn P) e k).1

send_mild : {w : Ways} {e : Errand} {s q : Send} {y : News} {d : Deed} → SendArc w e s y q d → MildSend s → MildNews y → MildSend q × IsMild (action_of d)
send_mild (recalled_looks_gets i) k h = (h, refl)
send_mild {w} (recalled_looks_asks i) k h = (h, asks_so Any (search.look_begins w) (tt, tt) i)
send_mild (recalled_looks_waits i) k h = (h, refl)
send_mild recalled_makes k h = (h, refl)
send_mild (looks_on_gets i) k h = (k, refl)
send_mild {w} (looks_on_asks {c} {s} {o} i) k h = (k, asks_so Any (search.look_told w c.topic s o) (look_mild w c.topic s o) i)
send_mild (looks_on_waits i) k h = (k, refl)
send_mild looked_makes k h = (k, refl)
send_mild looking_rests k h = (k, refl)
send_mild (makes_on_gets i) k h = (k, refl)
send_mild {w} (makes_on_asks {c} {s} {o} i) k h = (k, asks_so Any (search.made_told w c s o) (made_mild w c s o k) i)
send_mild (makes_on_waits i) k h = (k, refl)
send_mild making_rests k h = (k, refl)
send_mild _ k h = (tt, refl)

-- A BUILDING

abbrev pub MildBuild : Build → Type 0
MildBuild (build.Making c k number left made) = IsMildCommand c
MildBuild (build.Naming n) = Unit {0}
MildBuild (build.Numbering p) = Unit {0}
MildBuild (build.Closing left f) = Unit {0}

build_mild : {w : Ways} {o : ProducerOrder} {b q : Build} {y : News} {d : Deed} → BuildArc w o b y q d → MildBuild b → MildBuild q × IsMild (action_of d)
build_mild {w} {o} (names_on_asks {n} {x} i) h = (tt, asks_so Any (search.names_told w o.topic n x) (names_mild w o.topic n x) i)
build_mild numbered_makes h = (refl, refl)
build_mild (builds_on_gets i) h = (h, refl)
build_mild {w} (builds_on_asks {c} {s} {x} i) h = (h, asks_so Any (search.made_told w c s x) (made_mild w c s x h) i)
build_mild (builds_on_waits i) h = (h, refl)
build_mild building_rests h = (h, refl)
build_mild _ h = (tt, refl)

-- A CONSUMER IS BUILT, AND SUBSCRIBED AGAIN

abbrev pub MildConsumer : ConsumerBuild → Type 0
MildConsumer (consumer_build.Making c k number) = IsMildCommand c
MildConsumer (consumer_build.Naming n) = Unit {0}
MildConsumer (consumer_build.Numbering topic place) = Unit {0}

abbrev IsMildConsumerDeed : ConsumerDeed → Type 0
IsMildConsumerDeed (consumer_deed.Does x) = IsMildWish x
IsMildConsumerDeed (consumer_deed.Numbers n) = Unit {0}
IsMildConsumerDeed consumer_deed.Rests = Unit {0}

abbrev MildConsumers : consume.Builds → Type 0
MildConsumers (transition.Stays b d) = MildConsumer b × IsMildConsumerDeed d
MildConsumers (transition.Gives a) = Unit {0}

numbers_mild : (o : ConsumerOrder) (n : Option Named) → MildConsumers (consume.build_numbers o n)
numbers_mild o None = tt
numbers_mild o (Some n) = (tt, tt)

consumer_named : (o : ConsumerOrder) (x : SearchTransition Naming (Result (List Named) Failure)) → MildTurn Any x → MildConsumers (consume.build_names o x)
consumer_named o (transition.Stays s a) p = (tt, p.1)
consumer_named o (transition.Gives (Ok names)) p = numbers_mild o (consume.only names)
consumer_named o (transition.Gives (Err f)) p = tt

consumer_makes : (c : Command) (number : ℕ) (x : SearchTransition Making (Result Served Failure)) → IsMildCommand c → MildTurn Any x →
    MildConsumers (consume.build_makes c number x)
consumer_makes c number (transition.Stays s a) h p = (h, p.1)
consumer_makes c number (transition.Gives (Ok s)) h p = tt
consumer_makes c number (transition.Gives (Err f)) h p = tt

consumer_mild : (w : Ways) (o : ConsumerOrder) (b : ConsumerBuild) (y : ConsumerNews) → MildConsumer b → MildConsumers (consume.build_told w o b y)
consumer_mild w o (consumer_build.Naming n) (consumer_news.Told x) h = consumer_named o (search.names_told w o.topic n x) (names_mild w o.topic n x)
consumer_mild w o (consumer_build.Naming n) _ h = (tt, tt)
consumer_mild w o (consumer_build.Numbering topic place) (consumer_news.Numbered number) h = (refl, tt)
consumer_mild w o (consumer_build.Numbering topic place) _ h = tt
consumer_mild w o (consumer_build.Making c k number) (consumer_news.Told x) h = consumer_makes c number (search.made_told w c k x) h (made_mild w c k x h)
consumer_mild w o (consumer_build.Making c k number) _ h = (h, tt)

resume_makes_mild : (x : SearchTransition Making (Result Served Failure)) → MildTurn Any x → MildTurn Any (consume.resume_makes x)
resume_makes_mild x p = and_mild Any Any x resume.Making _ (λ s p. tt) p (λ a. tt)

resume_looks_mild : (x : SearchTransition Looking (Result Place Failure)) → MildTurn Any x → MildTurn Any (consume.resume_looks x)
resume_looks_mild x p = and_mild Any Any x resume.Looking _ (λ s p. tt) p (λ a. (tt, tt))

pub resume_mild : (w : Ways) (c : Command) (r : Resuming) (u : Heard') → IsMildCommand c → MildTurn Any (consume.resume_told w c r u)
resume_mild w c (resume.Looking l) u h = resume_looks_mild (search.look_told w c.topic l u) (look_mild w c.topic l u)
resume_mild w c (resume.Making m) u h = resume_makes_mild (search.made_told w c m u) (made_mild w c m u h)

-- PLANS

abbrev pub MildService : Service → Type 0
MildService (service.Resuming s) = IsMildCommand s.command
MildService service.Resting = Unit {0}
MildService service.Taking = Unit {0}
MildService service.Asking = Unit {0}
MildService service.Recalling = Unit {0}
MildService (service.Reviving link) = Unit {0}
MildService service.Failing = Unit {0}
MildService service.Closing = Unit {0}

abbrev pub MildBatch : Batches → Type 0
MildBatch (batching.Sending ms n s) = MildSend s
MildBatch batching.Resting = Unit {0}
MildBatch batching.Taking = Unit {0}
MildBatch batching.Settling = Unit {0}

abbrev pub MildPlan : Plan → Type 0
MildPlan (Getting request s) = is_ack request ≡ false
MildPlan (Searching w s) = MildSearch s
MildPlan (Producing w o b) = MildBuild b
MildPlan (Sending w e share s) = MildSend s
MildPlan (Batching w e b) = MildBatch b
MildPlan (Subscribing w o b) = MildConsumer b
MildPlan (Serving w n s) = MildService s
MildPlan _ = Unit {0}

abbrev pub IsMildTurn : Plan → Action → Type 0
IsMildTurn plan action = MildPlan plan × IsMild action

abbrev pub MildOutcome : Outcome → Type 0
MildOutcome (outcome.Word (word.Recalled c)) = IsMildCommand c
MildOutcome (outcome.Granted (news.Recalled c)) = IsMildCommand c
MildOutcome _ = Unit {0}

news_mild : (u : Outcome) → MildOutcome u → MildNews (news_of u)
news_mild (outcome.Granted (news.Recalled c)) h = h
news_mild (outcome.Granted _) h = tt
news_mild _ h = tt

batch_mild : {w : Ways} {e : Errand} {b q : Batches} {y : News} {d : Deed} → BatchArc w e b y q d → MildBatch b → MildNews y →
    MildBatch q × IsMild (action_of d)
batch_mild (batch_sends e) k h = send_mild e k h
batch_mild _ k h = (tt, refl)

asks_mild : (r : Round) (n : ℕ) → is_ack (asks_of r n) ≡ false
asks_mild Checks n = refl
asks_mild Flushes n = refl
asks_mild Closes n = refl

-- what a consumer that is built asks for, and one that is subscribed again
built_so : (w : Ways) (o : ConsumerOrder) (b : ConsumerBuild) (y : ConsumerNews) {q : ConsumerBuild} {d : ConsumerDeed} → MildConsumer b →
    consume.build_told w o b y ≡ transition.Stays q d → MildConsumer q × IsMildConsumerDeed d
built_so w o b y h e = subst MildConsumers e (consumer_mild w o b y h)

arc_mild : {p q : Plan} {u : Outcome} {a : Action} → Arc p u q a → MildPlan p → MildNews (news_of u) → MildOutcome u → IsMildTurn q a
arc_mild got_asks k y h = (tt, k)
arc_mild search_rests k y h = (k, refl)
arc_mild (searches_gets {w} {s} {u} i) k y h = ((subst (MildTurn MildSearch) i (search_mild w s (news_in u) k)).0, refl)
arc_mild (searches_asks {w} {s} {u} {request} i) k y h = let f = subst (MildTurn MildSearch) i (search_mild w s (news_in u) k) in (f.0, own_ack request f.1)
arc_mild (searches_waits {w} {s} {u} i) k y h = ((subst (MildTurn MildSearch) i (search_mild w s (news_in u) k)).0, refl)
arc_mild (builds_on d e) k y h = build_mild e k
arc_mild (sends d e) k y h = send_mild e k y
arc_mild (part_sends d e b) k y h = send_mild e k y
arc_mild (batches_go d e) k y h = batch_mild e k y
arc_mild (found_asks {r} {n}) k y h = (tt, asks_mild r n)
arc_mild (subscribing_rests i) k y h = (k, refl)
arc_mild (subscribes_on_gets {w} {o} {b} {y = n} i e) k y h = ((built_so w o b n k e).0, refl)
arc_mild (subscribes_on_asks {w} {o} {b} {y = n} {request} i e) k y h = let f = built_so w o b n k e in (f.0, own_ack request f.1)
arc_mild (subscribes_on_waits {w} {o} {b} {y = n} i e) k y h = ((built_so w o b n k e).0, refl)
arc_mild (subscribed_numbers {w} {o} {b} {y = n} i e) k y h = ((built_so w o b n k e).0, refl)
arc_mild (subscribed_rests {w} {o} {b} {y = n} i e) k y h = ((built_so w o b n k e).0, refl)
arc_mild (serving_rests i) k y h = (k, refl)
arc_mild (recalled_resumes_gets i) k y h = (h, refl)
arc_mild (recalled_resumes_asks {w} i) k y h = (h, asks_so Any (consume.resume_begins w) (tt, tt) i)
arc_mild (recalled_resumes_waits i) k y h = (h, refl)
arc_mild (resumes_on_gets i) k y h = (k, refl)
arc_mild (resumes_on_asks {w} {s} {u} i) k y h =
    (k, asks_so Any (consume.resume_told w s.command s.resuming (news_in u)) (resume_mild w s.command s.resuming (news_in u) k) i)
arc_mild (resumes_on_waits i) k y h = (k, refl)
arc_mild _ k y h = (tt, refl)

pub told_mild : (plan : Plan) (u : Outcome) → MildPlan plan → MildOutcome u → StaysSo IsMildTurn (told plan u)
told_mild plan u k h = stays_by IsMildTurn plan u (λ q a e. arc_mild e k (news_mild u h) h)

-- what begins so
abbrev pub MildBegun : Procedure → Type 0
MildBegun (procedure.Ask place request s) = is_ack request ≡ false
MildBegun (procedure.Search w what) = MildSought what
MildBegun (procedure.Acknowledge link request) = is_ack request ≡ false
MildBegun _ = Unit {0}

begun_mild : {p : Procedure} {q : Plan} {a : Action} → Begun p q a → MildBegun p → IsMildTurn q a
begun_mild begins_getting h = (h, refl)
begun_mild begins_asking h = (tt, h)
begun_mild begins_acknowledge h = (tt, h)
begun_mild (begins_search_gets {w} {what} i) h = ((subst (MildTurn MildSearch) i (search_begun w what h)).0, refl)
begun_mild (begins_search_asks {w} {what} {request} i) h = let f = subst (MildTurn MildSearch) i (search_begun w what h) in (f.0, own_ack request f.1)
begun_mild (begins_search_waits {w} {what} i) h = ((subst (MildTurn MildSearch) i (search_begun w what h)).0, refl)
begun_mild (begins_produce_asks {w} {o} i) h = (tt, asks_so Any (search.names_begins w o.topic) (names_begun w o.topic) i)
begun_mild (begins_subscribe_asks {w} {o} i) h = (tt, asks_so Any (search.names_begins w o.topic) (names_begun w o.topic) i)
begun_mild _ h = (tt, refl)

pub begins_mild : (p : Procedure) → MildBegun p → StaysSo IsMildTurn (begins p)
begins_mild p h = begins_by IsMildTurn p (λ q a e. begun_mild e h)

-- or asks at once for whatever it is to ask for, and for no more
abbrev pub is_direct : Procedure → Bool
is_direct (procedure.Ask (Link l) request s) = true
is_direct (procedure.Acknowledge link request) = true
is_direct _ = false

abbrev pub IsMildPlan : Plan → Action → Type 0
IsMildPlan plan action = MildPlan plan

pub direct_mild : (p : Procedure) → is_direct p ≡ true → StaysSo IsMildPlan (begins p)
direct_mild (procedure.Ask (Link l) request s) h = tt
direct_mild (procedure.Acknowledge None request) h = tt
direct_mild (procedure.Acknowledge (Some l) request) h = tt
direct_mild p h = absurd cc
