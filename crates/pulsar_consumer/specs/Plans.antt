-- The plans by which a consumer is made, and subscribed again: machines over what they are told. A line is a rule of the protocol.
-- (Pulsar binary protocol, Topic lookup; Partitioned topics discovery; Consumer)
use Rattle.std.specs.Prelude.{ℕ, List, [], ◌∷◌, codes, Option, Some, None, Result, Ok, Err}
use Rattle.pulsar_wire.specs.Failures.{Failure, OfConnection, OfConsumer, ConsumerBuild, Custom}
use Rattle.pulsar_addresses.specs.Address.{Place, Named}
use Rattle.pulsar_searches.specs.Plans.{and_then, fault_of, look_begins, look_told, made_gets, made_told, names_begins, names_told}
use Rattle.pulsar_searches.specs.declared.look.Looking.{Looking}
use Rattle.pulsar_searches.specs.declared.making.Command.{Command}
use Rattle.pulsar_searches.specs.declared.making.Making.{Making}
use Rattle.pulsar_searches.specs.declared.making.Served.{Served}
use Rattle.pulsar_searches.specs.declared.names.Naming.{Naming}
use Rattle.pulsar_searches.specs.declared.turn.SearchOutcome.{SearchOutcome}
use Rattle.pulsar_searches.specs.declared.turn.Ways.{Ways}
use Rattle.pulsar_consumer.specs.Commands.{command}
use Rattle.pulsar_consumer.specs.declared.building.BuildingConsumer.{BuildingConsumer}
use Rattle.pulsar_consumer.specs.declared.building.BuildingConsumer.TheVariants as build
use Rattle.pulsar_consumer.specs.declared.building.Built.{Built}
use Rattle.pulsar_consumer.specs.declared.building.Deed.{Deed}
use Rattle.pulsar_consumer.specs.declared.building.Deed.TheVariants.{Does, Numbers, Rests}
use Rattle.pulsar_consumer.specs.declared.building.Found.{Found}
use Rattle.pulsar_consumer.specs.declared.building.News.{News}
use Rattle.pulsar_consumer.specs.declared.building.News.TheVariants.{Told, Numbered, InUse}
use Rattle.pulsar_incoming.specs.declared.orders.ConsumerOrder.{ConsumerOrder}
use Rattle.pulsar_consumer.specs.declared.resuming.Resuming.{Resuming}
use Rattle.pulsar_consumer.specs.declared.resuming.Resuming.TheVariants as resume
use Rattle.pulsar_searches.specs.declared.transition.Transition.{Transition}
use Rattle.pulsar_searches.specs.declared.transition.Transition.TheVariants.{Stays, Gives}
use Rattle.pulsar_searches.specs.Transitions.{SearchTransition}

-- A RESUBSCRIPTION: the broker of the topic is looked for, and the consumer subscribes there again. It gives the link.

abbrev pub Resumes : Type 0
Resumes = SearchTransition Resuming (Result ℕ Failure)

abbrev pub resume_makes : SearchTransition Making (Result Served Failure) → Resumes
resume_makes t = and_then t resume.Making (λ s. Gives (Ok s.link))

abbrev pub resume_looks : SearchTransition Looking (Result Place Failure) → Resumes
resume_looks t = and_then t resume.Looking (λ place. resume_makes (made_gets 0 place))

abbrev pub resume_begins : Ways → Resumes
resume_begins w = resume_looks (look_begins w)

abbrev pub resume_told : Ways → Command → Resuming → SearchOutcome → Resumes
resume_told w c (resume.Looking l) o = resume_looks (look_told w c.topic l o)
resume_told w c (resume.Making m) o = resume_makes (made_told w c m o)

-- A BUILDING: the name of the topic is found, a number is drawn for it, and a subscription is made. A consumer of several names is not
-- made.

abbrev pub Builds : Type 0
Builds = Transition BuildingConsumer Deed (Result Built Failure)

abbrev pub build_fails : Failure → Builds
build_fails f = Gives (Err f)

-- a plan within it; where that fails, so does the building
abbrev pub build_then : {S A : Type 0} → SearchTransition S (Result A Failure) → (S → BuildingConsumer) → (A → Builds) → Builds
build_then (Stays s action) within on = Stays (within s) (Does action)
build_then (Gives (Ok a)) within on = on a
build_then (Gives (Err f)) within on = build_fails f

abbrev pub not_found : Failure
not_found = Custom (codes "Unable to create consumer - topic not found")

abbrev pub in_use : Failure
in_use = OfConsumer ConsumerBuild

-- the one name
abbrev pub found : Found → Named
found f = record { name = f.name; place = f.place }

abbrev pub only : List Named → Option Named
only [] = None
only (n ∷ []) = Some n
only (n ∷ m ∷ names) = None

-- its number is the one that was asked for, where there is one
abbrev pub build_numbers : ConsumerOrder → Option Named → Builds
build_numbers o None = build_fails not_found
build_numbers o (Some n) = Stays (build.Numbering n.name n.place) (Numbers o.config.consumer_id)

abbrev pub build_names : ConsumerOrder → SearchTransition Naming (Result (List Named) Failure) → Builds
build_names o t = build_then t build.Naming (λ names. build_numbers o (only names))

abbrev pub build_begins : Ways → ConsumerOrder → Builds
build_begins w o = build_names o (names_begins w o.topic)

abbrev pub built : Command → (number : ℕ) → Served → Built
built c number s = record { topic = c.topic; number = number; link = s.link }

abbrev pub build_makes : Command → (number : ℕ) → SearchTransition Making (Result Served Failure) → Builds
build_makes c number t = build_then t (λ k. build.Making c k number) (λ s. Gives (Ok (built c number s)))

abbrev pub in_naming : Ways → ConsumerOrder → Naming → News → Builds
in_naming w o n (Told x) = build_names o (names_told w o.topic n x)
in_naming w o n (Numbered number) = Stays (build.Naming n) Rests
in_naming w o n InUse = Stays (build.Naming n) Rests

-- a number that a live consumer has can't be had
abbrev pub in_numbering : ConsumerOrder → (topic : List ℕ) → Place → News → Builds
in_numbering o topic place (Told x) = build_fails (OfConnection (fault_of x))
in_numbering o topic place (Numbered number) = build_makes (command topic number o.config) number (made_gets 0 place)
in_numbering o topic place InUse = build_fails in_use

abbrev pub in_making : Ways → Command → Making → (number : ℕ) → News → Builds
in_making w c k number (Told x) = build_makes c number (made_told w c k x)
in_making w c k number (Numbered m) = Stays (build.Making c k number) Rests
in_making w c k number InUse = Stays (build.Making c k number) Rests

abbrev pub build_told : Ways → ConsumerOrder → BuildingConsumer → News → Builds
build_told w o (build.Naming n) y = in_naming w o n y
build_told w o (build.Numbering topic place) y = in_numbering o topic place y
build_told w o (build.Making c k number) y = in_making w c k number y
