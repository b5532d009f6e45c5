-- A call fails with what it was told.
use Rattle.std.proofs.Common.{◌≡◌, ◌⊎◌, inl, inr, ◌∙◌, sym, ap, subst, ℕ, List, [], ◌∷◌, ◌++◌, refl, Bool, true, false, ◌&&◌, ◌||◌, not, cond, Option, Some, None, Result, Ok, Err, append-nil, ◌==◌, ◌-◌}
use Rattle.std.specs.List.{list_any}
use Rattle.std.specs.Option.{is_some}
use Rattle.pulsar_laws.proofs.ActWords.{Action, Checks, Flushes, Link, Makes, Nothing, numbers_from, Outcome, Procedure, Rest, Said, Share, Verdict}
use Rattle.pulsar_laws.proofs.PlanWords.{Asking, Awaiting, Batches, Batching, begins, BuildingProducer as Build, Built, Command, Deed as Wish, Errand, fails, Gives, Heard as News, is_answer, Leaving, Making, Naming, news_in, news_of, overrides, Plan, PlanTransition, ProducerOrder, Producing, Reporting, Says as CountIs, SearchTransition, Sending as Send, Served, Serving, Stays, Stored, Storing, Subscribing, told, verdict, Visiting, Ways}
use Rattle.pulsar_laws.proofs.RunWords.{Answered, In, stays}
use Rattle.pulsar_laws.proofs.plans.Follow.{along}
use Rattle.pulsar_laws.proofs.LinkWords.{Failure, Named, OfConnection, Reply}
use Rattle.pulsar_wire.specs.Failures.{DiscoveryFault, OfDiscovery, OfPartialSend, ConsumerClosed, OfConsumer}
use Rattle.pulsar_frame.specs.Reply.{Reply as Content}
use Rattle.pulsar_wire.specs.Row.{Values}
use Rattle.pulsar_wire.specs.Rows.{send_receipt}
use Rattle.pulsar_exchange.specs.Messages.{Written}
use Rattle.pulsar_exchange.specs.Refusals.{refused}
use Rattle.pulsar_exchange.specs.Request.{is_answered, request_number}
use Rattle.pulsar_searches.specs.Plans as search
use Rattle.pulsar_searches.specs.Replies.{unexpected, count_in}
use Rattle.pulsar_addresses.specs.Address.{in_discovery}
use Rattle.pulsar_searches.specs.declared.plan.Answer.{Answer}
use Rattle.pulsar_searches.specs.declared.plan.Answer.TheVariants as answer
use Rattle.pulsar_searches.specs.declared.plan.SearchPlan.{SearchPlan as Search}
use Rattle.pulsar_searches.specs.declared.turn.SearchOutcome.TheVariants as news
use Rattle.pulsar_outgoing.specs.Errors.{in_producer}
use Rattle.pulsar_producer.specs.Plans as produce
use Rattle.pulsar_producer.specs.Plans.{fault_told}
use Rattle.pulsar_outgoing.specs.declared.news.News.TheVariants as granting
use Rattle.pulsar_calls.specs.declared.act.Outcome.TheVariants as outcome
use Rattle.pulsar_calls.specs.declared.act.Outcome.TheVariants.{GotLink, Queued, InLine, Replied, Granted, Parted, Settled, Cut, Stopped}
use Rattle.pulsar_calls.specs.declared.act.Place.TheVariants.{At}
use Rattle.pulsar_calls.specs.declared.act.Procedure.TheVariants as procedure
use Rattle.pulsar_calls.specs.declared.act.Round.{Round}
use Rattle.pulsar_calls.specs.declared.act.Round.TheVariants.{Closes}
use Rattle.pulsar_plans.specs.declared.plan.At.{At as Point}
use Rattle.pulsar_plans.specs.declared.plan.At.TheVariants as point
use Rattle.pulsar_plans.specs.declared.plan.Plan.TheVariants.{Building, Getting, Searching, Sending, Gathering, Shutting, Stopping, Acknowledging, Departing}
use Rattle.pulsar_calls.specs.Content.{Done, Receipt, Replies, Failed}
use Rattle.pulsar_plans.proofs.Arcs.{Arc, End, ends, by_arcs, flowed_takes, is_server, over}
use Rattle.pulsar_laws.proofs.Cases.{cond_so}
use Rattle.pulsar_laws.specs.Laws.{Deed, Acted, FailsSo, IsRefused, IsRefusedShare, IsTold, IsTurned, IsDenied, IsUnexpected, IsInProducer, IsUnexpectedInProducer, IsSettled, IsPartial, IsAnswered, DeniesSo, acted, course, fails_in_producer, has_failed, number_in, ways_in, IsInUse, IsOfSeveral, IsClosed}
use Rattle.pulsar_calls.specs.Parts.{failed_with, outcomes_of, sent_from}
use Rattle.pulsar_plans.specs.Plan.{asks_of, builds, fails_in, fails_with, failure_in, failure_of, fault_of, found, gathers, goes, goes_on_sending, goes_round, halted, in_stored, in_storing, is_settled, leaves, parted, receipt_said, sends_stay, settled, stored, told_at, told_batch, tells, visited, visits, consumer_news_of, in_departing, in_subscribing, subscribes}
use Rattle.pulsar_producer.specs.Batching.{is_sent_send}
use Rattle.pulsar_laws.proofs.plans.Productions.{AllowsBreaks, AllowsReply, BuildKeeps, Ends, SendKeeps, building_begins, building_ends, sending_ends}
use Rattle.pulsar_laws.proofs.plans.Searches.{Breaks, ByFault, BySearch, ByReply, Keeps, Turns, is_search, is_sought, keeps_begins, keeps_told, FailsBy, made_fails, names_begin, naming_fails}
use Rattle.pulsar_consumer.specs.declared.building.BuildingConsumer.{BuildingConsumer as ConsumerBuild}
use Rattle.pulsar_consumer.specs.declared.building.News.{News as ConsumerNews}
use Rattle.pulsar_incoming.specs.declared.orders.ConsumerOrder.{ConsumerOrder}
use Rattle.pulsar_calls.specs.declared.act.Word.TheVariants as word
use Rattle.pulsar_consumer.specs.Plans as consume
use Rattle.pulsar_consumer.specs.declared.building.BuildingConsumer.TheVariants as consumer_build
use Rattle.pulsar_consumer.specs.declared.building.News.TheVariants as consumer_news
use Rattle.pulsar_laws.proofs.plans.Counted.{Heeds, IsCounted, NamedIn, NamesKept, Several, names_begin_kept, names_kept}
use Rattle.pulsar_searches.specs.declared.transition.Transition.TheVariants as transition
use Rattle.pulsar_producer.specs.Transitions.{ProducerTransition}

-- FAULTS

-- the fault that news tell is that of their outcome
fault_same : (u : Outcome) → search.fault_of (news_in u) ≡ fault_of u
fault_same (GotLink l) = refl
fault_same (Replied r) = refl
fault_same outcome.Woken = refl
fault_same _ = refl

pub told_same : (u : Outcome) → fault_told (news_of u) ≡ fault_of u
told_same Queued = refl
told_same InLine = refl
told_same (Granted n) = refl
told_same u = fault_same u

-- two ways to say it
refused_same : (r : Reply) (body : Option Written) → refused r body ≡ unexpected r.content body
unfolding unexpected
refused_same r None = refl
refused_same r (Some b) = refl

-- what is granted is nothing that another outcome tells
abbrev pub is_proper : Outcome → Bool
is_proper (Granted (granting.Told x)) = false
is_proper _ = true

-- so what a plan within a plan is told is what its outcome is
news_same : (u : Outcome) (x : News) → is_proper u ≡ true → news_of u ≡ granting.Told x → x ≡ news_in u
news_same Queued x p h = absurd cc
news_same InLine x p h = absurd cc
news_same (Granted (granting.Told y)) x p h = absurd cc
news_same (Granted n) x p h = absurd cc
news_same u x p h = cc

any_in : (test : Outcome → Bool) (u : Outcome) (os : List Outcome) → In u os → test u ≡ true → list_any test os ≡ true
any_in test u [] i h = absurd i
any_in test u (o ∷ os) (inl e) h = ap (λ b. b || list_any test os) (sym (ap test e) ∙ h)
any_in test u (o ∷ os) (inr i) h = elim (test o) as (λ b. (b || list_any test os) ≡ true) [ true ↦ refl | false ↦ any_in test u os i h ]

-- WHERE A PLAN FAILS

abbrev said_in : Deed → Said
said_in (Acted action) = Done
said_in (Answered verdict) = verdict.said

abbrev pub Fails : Makes → Failure → Deed
Fails m f = Answered (record { makes = m; said = Failed f })

-- THE BUILDING OF A CONSUMER, where it fails

abbrev BuildFails : (Failure → Type 0) → consume.Builds → Type 0
BuildFails P (transition.Stays b d) = Unit {0}
BuildFails P (transition.Gives (Ok b)) = Unit {0}
BuildFails P (transition.Gives (Err f)) = P f

then_fails : {S A : Type 0} (P Q : Failure → Type 0) (turn : SearchTransition S (Result A Failure)) (within : S → ConsumerBuild) (on : A → consume.Builds) →
    FailsBy Q turn → ((f : Failure) → Q f → P f) → ((a : A) → BuildFails P (on a)) → BuildFails P (consume.build_then turn within on)
then_fails P Q (transition.Stays s action) within on q h k = tt
then_fails P Q (transition.Gives (Ok a)) within on q h k = k a
then_fails P Q (transition.Gives (Err f)) within on q h k = h f q

numbers_fail : (P : Failure → Type 0) (o : ConsumerOrder) (n : Option Named) → (n ≡ None → P consume.not_found) → BuildFails P (consume.build_numbers o n)
numbers_fail P o None k = k refl
numbers_fail P o (Some n) k = tt

named_fails : (P Q : Failure → Type 0) (w : Ways) (all : List Outcome) (o : ConsumerOrder) (turn : SearchTransition Naming (Result (List Named) Failure)) →
    FailsBy Q turn → ((f : Failure) → Q f → P f) → NamesKept w all turn → (Several w all → P consume.not_found) → BuildFails P (consume.build_names o turn)
named_fails P Q w all o (transition.Stays s action) q h k m = tt
named_fails P Q w all o (transition.Gives (Ok names)) q h k m = numbers_fail P o (consume.only names) (λ e. m (k e))
named_fails P Q w all o (transition.Gives (Err f)) q h k m = h f q

-- what such a building keeps
module _ (w : Ways) (all : List Outcome) where
  abbrev pub BuildNamed : ConsumerBuild → Type 0
  BuildNamed (consumer_build.Naming n) = NamedIn w all n
  BuildNamed (consumer_build.Numbering topic place) = Unit {0}
  BuildNamed (consumer_build.Making c m n) = Unit {0}

  abbrev BuildKept : consume.Builds → Type 0
  BuildKept (transition.Stays b d) = BuildNamed b
  BuildKept (transition.Gives a) = Unit {0}

  numbers_kept : (o : ConsumerOrder) (n : Option Named) → BuildKept (consume.build_numbers o n)
  numbers_kept o None = tt
  numbers_kept o (Some n) = tt

  named_kept : (o : ConsumerOrder) (turn : SearchTransition Naming (Result (List Named) Failure)) → NamesKept w all turn →
      BuildKept (consume.build_names o turn)
  named_kept o (transition.Stays s action) k = k
  named_kept o (transition.Gives (Ok names)) k = numbers_kept o (consume.only names)
  named_kept o (transition.Gives (Err f)) k = tt

  makes_kept : (c : Command) (n : ℕ) (turn : SearchTransition Making (Result Served Failure)) → BuildKept (consume.build_makes c n turn)
  makes_kept c n (transition.Stays s action) = tt
  makes_kept c n (transition.Gives (Ok s)) = tt
  makes_kept c n (transition.Gives (Err f)) = tt

  build_kept : (o : ConsumerOrder) (b : ConsumerBuild) (y : ConsumerNews) → ((x : News) → y ≡ consumer_news.Told x → Heeds w all x) → BuildNamed b →
      BuildKept (consume.build_told w o b y)
  build_kept o (consumer_build.Naming n) (consumer_news.Told x) h k =
      named_kept o (search.names_told w o.topic n x) (names_kept w all o.topic n x (h x refl) k)
  build_kept o (consumer_build.Naming n) (consumer_news.Numbered m) h k = k
  build_kept o (consumer_build.Naming n) consumer_news.InUse h k = k
  build_kept o (consumer_build.Numbering t place) (consumer_news.Told x) h k = tt
  build_kept o (consumer_build.Numbering t place) (consumer_news.Numbered m) h k = tt
  build_kept o (consumer_build.Numbering t place) consumer_news.InUse h k = tt
  build_kept o (consumer_build.Making c m n) (consumer_news.Told x) h k = makes_kept c n (search.made_told w c m x)
  build_kept o (consumer_build.Making c m n) (consumer_news.Numbered j) h k = tt
  build_kept o (consumer_build.Making c m n) consumer_news.InUse h k = tt

-- it may fail so at these news
pub record AllowsFailures (P : Failure → Type 0) (w : Ways) (all : List Outcome) (y : ConsumerNews) : Type 0 where
  breaks : (x : News) → y ≡ consumer_news.Told x → (f : Failure) → Breaks w x f → P f
  fault : (x : News) → y ≡ consumer_news.Told x → P (OfConnection (search.fault_of x))
  in_use : y ≡ consumer_news.InUse → P consume.in_use
  heeds : (x : News) → y ≡ consumer_news.Told x → Heeds w all x
  several : Several w all → P consume.not_found

building_fails : (P : Failure → Type 0) (w : Ways) (all : List Outcome) (o : ConsumerOrder) (b : ConsumerBuild) (y : ConsumerNews) →
    AllowsFailures P w all y → BuildNamed w all b → BuildFails P (consume.build_told w o b y)
building_fails P w all o (consumer_build.Naming n) (consumer_news.Told x) k named =
    named_fails P (Turns w x) w all o (search.names_told w o.topic n x) (naming_fails w o.topic n x) (λ f t. k.breaks x refl f (BySearch t))
    (names_kept w all o.topic n x (k.heeds x refl) named) k.several
building_fails P w all o (consumer_build.Naming n) (consumer_news.Numbered m) k named = tt
building_fails P w all o (consumer_build.Naming n) consumer_news.InUse k named = tt
building_fails P w all o (consumer_build.Numbering t place) (consumer_news.Told x) k named = k.fault x refl
building_fails P w all o (consumer_build.Numbering t place) (consumer_news.Numbered m) k named = tt
building_fails P w all o (consumer_build.Numbering t place) consumer_news.InUse k named = k.in_use refl
building_fails P w all o (consumer_build.Making c m n) (consumer_news.Told x) k named =
    then_fails P (Breaks w x) (search.made_told w c m x) (λ m. consumer_build.Making c m n) _ (made_fails w c m x) (λ f t. k.breaks x refl f t) (λ s. tt)
building_fails P w all o (consumer_build.Making c m n) (consumer_news.Numbered j) k named = tt
building_fails P w all o (consumer_build.Making c m n) consumer_news.InUse k named = tt

building_begins_so : (P : Failure → Type 0) (w : Ways) (all : List Outcome) (o : ConsumerOrder) → (Several w all → P consume.not_found) →
    BuildFails P (consume.build_begins w o)
building_begins_so P w all o k =
    named_fails P P w all o (search.names_begins w o.topic) (names_begin P w o.topic) (λ f x. x) (names_begin_kept w all o.topic) k

-- a procedure, and all outcomes that its plan was told
module _ (p : Procedure) (all : List Outcome) where
  abbrev Fails' : Failure → Type 0
  Fails' f = FailsSo p all f

  -- what a plan answers, if it fails, fails so
  abbrev Says : Said → Type 0
  Says said = (f : Failure) → Failed f ≡ said → FailsSo p all f

  says_failed : (f : Failure) → FailsSo p all f → Says (Failed f)
  says_failed f k g h = subst (FailsSo p all) (let e : f ≡ g = cc in e) k

  says_done : Says Done
  says_done f h = absurd cc

  -- what a plan keeps, by where it stands
  abbrev RoundKeeps : Round → Type 0
  RoundKeeps Checks = Unit {0}
  RoundKeeps Flushes = Unit {0}
  RoundKeeps Closes = fails_in_producer p ≡ true

  abbrev Holds : Plan → Type 0
  Holds Building = Unit {0}
  Holds (Getting request s) = number_in p ≡ Some (request_number request)
  Holds (Asking w) = number_in p ≡ Some w.number
  Holds (Awaiting w) = number_in p ≡ Some w.number
  Holds (Searching w s) = (ways_in p ≡ Some w) × (is_search s ≡ true)
  Holds (Producing w order b) = (ways_in p ≡ Some w) × BuildKeeps Fails' b
  Holds (Sending w e share s) = (ways_in p ≡ Some w) × (fails_in_producer p ≡ true) × SendKeeps Fails' s
  Holds (Reporting w e) = (ways_in p ≡ Some w) × (fails_in_producer p ≡ true)
  Holds (Storing share) = Unit {0}
  Holds Stored = Unit {0}
  Holds (Batching w e b) = Unit {0}
  Holds (Leaving f) = FailsSo p all f
  Holds (Gathering first count left failures) = (p ≡ procedure.Gather first count) × ((failures ≡ []) ⊎ (list_any has_failed all ≡ true))
  Holds (Shutting numbers) = fails_in_producer p ≡ true
  Holds (Visiting r n left x) = RoundKeeps r
  Holds (Subscribing w o b) = (p ≡ procedure.Subscribe w o) × BuildNamed w all b
  Holds (Serving w n s) = Unit {0}
  Holds Acknowledging = Unit {0}
  Holds (Departing t n) = p ≡ procedure.Leave t n
  Holds Stopping = Unit {0}

  abbrev pub TurnHolds : PlanTransition → Type 0
  TurnHolds (Stays plan action) = Holds plan
  TurnHolds (Gives verdict) = Says verdict.said

  -- the verdict is that of an outcome that it was told
  told_so : (u : Outcome) → In u all → TurnHolds (Gives (fails (fault_of u)))
  told_so u i = says_failed (OfConnection (fault_of u)) (IsTold u i refl)

  with_failure : (f : Failure) → FailsSo p all f → TurnHolds (fails_with f)
  with_failure f k = says_failed f k

  -- a plan goes on in what it keeps, or it fails with what it was told
  abbrev IsPlain : Plan → Outcome → PlanTransition → Type 1
  IsPlain x u (Stays q a) = (P : Type 0 → Type 0) → P (Holds x) → P (Holds q)
  IsPlain x u (Gives v) = (P : Verdict → Type 0) → P (fails (fault_of u)) → P v

  plain_holds : (x : Plan) (u : Outcome) (t : PlanTransition) → IsPlain x u t → Holds x → In u all → TurnHolds t
  plain_holds x u (Stays q a) same k i = same (λ T. T) k
  plain_holds x u (Gives v) same k i = same (λ y. Says y.said) (told_so u i)

  -- A SEARCH

  turns_so : (w : Ways) (u : Outcome) (f : Failure) → ways_in p ≡ Some w → In u all → Turns w (news_in u) f → FailsSo p all f
  turns_so w u f is i (inl e) = IsTurned u (ap is_some is) i (e ∙ ap in_discovery (fault_same u))
  turns_so w u f is i (inr (r, d, e, g, k)) = denied_so u i r d e g k
    where
      denied_so : (u : Outcome) → In u all → (r : Content) (d : DiscoveryFault) → news_in u ≡ news.Replied r → f ≡ OfDiscovery d → DeniesSo w d r →
          FailsSo p all f
      denied_so (Replied r') i r d e g k = IsDenied w r' d is i g (subst (DeniesSo w d) (let same : r ≡ r'.content = cc in same) k)
      denied_so (GotLink l) i r d e g k = absurd cc
      denied_so outcome.Woken i r d e g k = absurd cc
      denied_so u i r d e g k = absurd cc

  breaks_so : (w : Ways) (u : Outcome) (f : Failure) → ways_in p ≡ Some w → In u all → Breaks w (news_in u) f → FailsSo p all f
  breaks_so w u f is i (ByFault e) = IsTold u i (e ∙ ap OfConnection (fault_same u))
  breaks_so w u f is i (BySearch t) = turns_so w u f is i t
  breaks_so w u f is i (ByReply r e g) = replied_so u i r e g
    where
      replied_so : (u : Outcome) → In u all → (r : Content) → news_in u ≡ news.Replied r → f ≡ OfConnection (unexpected r r.body) → FailsSo p all f
      replied_so (Replied r') i r e g = IsUnexpected r' i (g ∙ ap (λ c. OfConnection (unexpected c c.body)) (let same : r ≡ r'.content = cc in same))
      replied_so (GotLink l) i r e g = absurd cc
      replied_so outcome.Woken i r e g = absurd cc
      replied_so u i r e g = absurd cc

  says_found : (a : Answer) → Says (found a)
  says_found (answer.Address place) f h = absurd cc
  says_found (answer.Count n) f h = absurd cc
  says_found (answer.Addresses names) f h = absurd cc
  says_found (answer.Reply served) f h = absurd cc

  goes_holds : (w : Ways) (P : Failure → Type 0) (turn : SearchTransition Search (Result Answer Failure)) → ways_in p ≡ Some w → Keeps P turn →
      ((f : Failure) → P f → FailsSo p all f) → TurnHolds (goes w turn)
  goes_holds w P (transition.Stays s action) is k fail = (is, k)
  goes_holds w P (transition.Gives (Ok a)) is k fail = says_found a
  goes_holds w P (transition.Gives (Err f)) is k fail = says_failed f (fail f k)

  -- PRODUCERS

  pub allows_breaks : (w : Ways) (u : Outcome) → ways_in p ≡ Some w → In u all → is_proper u ≡ true → AllowsBreaks Fails' w (news_of u)
  allows_breaks w u is i proper x e f k = breaks_so w u f is i (subst (λ n. Breaks w n f) (news_same u x proper e) k)

  pub allows_reply : (u : Outcome) → fails_in_producer p ≡ true → In u all → is_proper u ≡ true → AllowsReply Fails' (news_of u)
  allows_reply u is i proper r e = replied_so u i (sym (news_same u (news.Replied r) proper e))
    where
      replied_so : (u : Outcome) → In u all → news_in u ≡ news.Replied r → FailsSo p all (in_producer (unexpected r r.body))
      replied_so (Replied r') i e = IsUnexpectedInProducer r' is i (ap (λ c. in_producer (unexpected c c.body)) (let same : r ≡ r'.content = cc in same))
      replied_so (GotLink l) i e = absurd cc
      replied_so outcome.Woken i e = absurd cc
      replied_so u i e = absurd cc

  builds_hold : (w : Ways) (o : ProducerOrder) (x : ProducerTransition Build (Result (List Built) Failure)) → ways_in p ≡ Some w →
      Ends (BuildKeeps Fails') Fails' x →
      TurnHolds (builds w o x)
  builds_hold w o (transition.Stays b d) is k = (is, k)
  builds_hold w o (transition.Gives (Ok parts)) is k = says_done
  builds_hold w o (transition.Gives (Err f)) is k = says_failed f k

  leaves_hold : (share : Option Share) (f : Failure) → FailsSo p all f → TurnHolds (leaves share f)
  leaves_hold None f k = with_failure f k
  leaves_hold (Some s) f k = k

  halted_hold : (share : Option Share) (u : Outcome) → In u all → TurnHolds (halted share u)
  halted_hold None u i = told_so u i
  halted_hold (Some s) u i = IsTold u i refl

  says_receipt : (body : Option Written) → Says (receipt_said body)
  says_receipt None f h = absurd cc
  says_receipt (Some b) f h = one_receipt b (b.number == 7) h
    where
      one_receipt : (b : Written) (t : Bool) → Failed f ≡ cond t (Receipt b.bytes) (Replies []) → FailsSo p all f
      one_receipt b true h = absurd cc
      one_receipt b false h = absurd cc

  stays_hold : (w : Ways) (e : Errand) (share : Option Share) (s : Send) (d : Wish) → ways_in p ≡ Some w → fails_in_producer p ≡ true → SendKeeps Fails' s →
      TurnHolds (sends_stay w e share s d)
  stays_hold w e None s d is fs k = (is, fs, k)
  stays_hold w e (Some share) s d is fs k =
      cond_so TurnHolds (is_sent_send s) (Stays (Reporting w e) (tells share (parted share None))) (Stays (Sending w e (Some share) s) _) (is, fs) (is, fs, k)

  sends_hold : (w : Ways) (e : Errand) (share : Option Share) (x : produce.Sent) → ways_in p ≡ Some w → fails_in_producer p ≡ true →
      Ends (SendKeeps Fails') Fails' x →
      TurnHolds (goes_on_sending w e share x)
  sends_hold w e share (transition.Stays s d) is fs k = stays_hold w e share s d is fs k
  sends_hold w e share (transition.Gives (Ok r)) is fs k = says_receipt r.body
  sends_hold w e share (transition.Gives (Err f)) is fs k = leaves_hold share f k

  -- A MESSAGE THAT IS STORED, AND BATCHES

  stored_holds : (share : Option Share) → TurnHolds (stored share)
  stored_holds None = tt
  stored_holds (Some s) = tt

  storing_holds : (share : Option Share) (u : Outcome) → In u all → TurnHolds (in_storing share u)
  storing_holds share (Granted granting.Done) i = stored_holds share
  storing_holds share u i = with_failure (OfConnection (fault_of u)) (IsTold u i refl)

  settled_holds : (f : Result (Values send_receipt) Failure) → In (Settled f) all → TurnHolds (settled f)
  settled_holds (Ok receipt) i = λ f h. absurd cc
  settled_holds (Err f) i = with_failure f (IsSettled i)

  in_stored_holds : (u : Outcome) → In u all → TurnHolds (in_stored u)
  in_stored_holds (Settled f) i = settled_holds f i
  in_stored_holds (Granted granting.Done) i = tt
  in_stored_holds u i = with_failure (OfConnection (fault_of u)) (IsTold u i refl)

  batch_holds : (w : Ways) (e : Errand) (b : Batches) (u : Outcome) → TurnHolds (told_batch w e b u)
  batch_holds w e b u = cond_so TurnHolds (overrides u) _ _ tt tt

  -- A CALL WITH PARTS

  says_sent : (first count : ℕ) (failures : List (ℕ × Failure)) → p ≡ procedure.Gather first count → (failures ≡ []) ⊎ (list_any has_failed all ≡ true) →
      Says (sent_from first count failures)
  says_sent first count [] is k f h = absurd cc
  says_sent first count (x ∷ failures) is (inl e) f h = absurd cc
  says_sent first count (x ∷ failures) is (inr some) f h =
      IsPartial first count (x ∷ failures) is some (let e : f ≡ OfPartialSend (outcomes_of (x ∷ failures) (numbers_from first count)) = cc in e)

  gathers_hold : (first count left : ℕ) (failures : List (ℕ × Failure)) → p ≡ procedure.Gather first count →
      (failures ≡ []) ⊎ (list_any has_failed all ≡ true) →
      TurnHolds (gathers first count left failures)
  gathers_hold first count left failures is k =
      cond_so TurnHolds (left == 0) (Gives (verdict Nothing (sent_from first count failures))) (Stays (Gathering first count left failures) Rest)
      (says_sent first count failures is k) (is, k)

  failed_more : (ticket : ℕ) (f : Option Failure) (failures : List (ℕ × Failure)) → In (Parted ticket f) all →
      (failures ≡ []) ⊎ (list_any has_failed all ≡ true) →
      (failed_with ticket f failures ≡ []) ⊎ (list_any has_failed all ≡ true)
  failed_more ticket None failures i k = k
  failed_more ticket (Some f) failures i k = inr (any_in has_failed (Parted ticket (Some f)) all i refl)

  -- A ROUND

  fails_round : (r : Round) (u : Outcome) → RoundKeeps r → In u all → FailsSo p all (failure_in r (fault_of u))
  fails_round Checks u k i = IsTold u i refl
  fails_round Flushes u k i = IsTold u i refl
  fails_round Closes u k i = IsInProducer u k i refl

  round_fails : (r : Round) (u : Outcome) → RoundKeeps r → In u all → TurnHolds (fails_in r (fault_of u))
  round_fails r u k i = with_failure (failure_in r (fault_of u)) (fails_round r u k i)

  round_refused : (r : Round) (reply : Reply) → RoundKeeps r → In (Replied reply) all → FailsSo p all (failure_in r (refused reply reply.content.body))
  round_refused Checks reply k i = IsUnexpected reply i (ap OfConnection (refused_same reply reply.content.body))
  round_refused Flushes reply k i = IsUnexpected reply i (ap OfConnection (refused_same reply reply.content.body))
  round_refused Closes reply k i = IsUnexpectedInProducer reply k i (ap in_producer (refused_same reply reply.content.body))

  next_holds : (r : Round) (n : ℕ) (left : List ℕ) → RoundKeeps r → TurnHolds (visits r n left)
  next_holds Checks n left k = k
  next_holds Flushes n left k = k
  next_holds Closes n left k = k

  round_holds : (r : Round) (numbers : List ℕ) → RoundKeeps r → TurnHolds (goes_round r numbers)
  round_holds r [] k = says_done
  round_holds r (n ∷ left) k = next_holds r n left k

  settles_hold : (r : Round) (n : ℕ) (left : List ℕ) → RoundKeeps r → TurnHolds (is_settled r n left)
  settles_hold Checks n left k = k
  settles_hold Flushes n left k = round_holds Flushes left k
  settles_hold Closes n left k = k

  visited_holds : (r : Round) (left : List ℕ) (n : ℕ) (reply : Reply) → RoundKeeps r → In (Replied reply) all → TurnHolds (visited r left n reply)
  visited_holds r left n reply k i =
      cond_so TurnHolds (is_answer (request_number (asks_of r n)) reply.content.body) (goes_round r left) (fails_in r (refused reply reply.content.body))
      (round_holds r left k)
      (with_failure (failure_in r (refused reply reply.content.body)) (round_refused r reply k i))

  visits_hold : (r : Round) (n : ℕ) (left : List ℕ) (x : Point) (u : Outcome) → RoundKeeps r → In u all → TurnHolds (told_at r n left x u)
  visits_hold r n left point.Settling (Granted granting.Done) k i = settles_hold r n left k
  visits_hold r n left point.Settling u k i = round_fails r u k i
  visits_hold r n left point.Turning (Granted (granting.HasTurn version)) k i = k
  visits_hold r n left point.Turning u k i = round_fails r u k i
  visits_hold r n left point.Finding (GotLink link) k i = k
  visits_hold r n left point.Finding u k i = fails_round r u k i
  visits_hold r n left point.Asking Queued k i = k
  visits_hold r n left point.Asking InLine k i = k
  visits_hold r n left point.Asking u k i = fails_round r u k i
  visits_hold r n left point.Passing (Granted granting.Done) k i = k
  visits_hold r n left point.Passing u k i = round_fails r u k i
  visits_hold r n left point.Awaiting (Replied reply) k i = visited_holds r left n reply k i
  visits_hold r n left point.Awaiting Queued k i = k
  visits_hold r n left point.Awaiting u k i = round_fails r u k i

  -- ALL PLANS

  -- CONSUMERS

  building_holds : (w : Ways) (o : ConsumerOrder) (x : consume.Builds) → p ≡ procedure.Subscribe w o → BuildFails Fails' x → BuildKept w all x →
      TurnHolds (subscribes w o x)
  building_holds w o (transition.Stays b d) is k m = (is, m)
  building_holds w o (transition.Gives (Ok b)) is k m = says_done
  building_holds w o (transition.Gives (Err f)) is k m = says_failed f k

  several_so : (w : Ways) (o : ConsumerOrder) → p ≡ procedure.Subscribe w o → Several w all → FailsSo p all consume.not_found
  several_so w o is (k, (r, n, i, c), two) = IsOfSeveral w o r n k is i c two refl

  counted_so : (w : Ways) (u : Outcome) → In u all → (r : Content) (n k : ℕ) → news_in u ≡ news.Replied r → count_in w n r ≡ CountIs k → IsCounted w all k
  counted_so w (Replied r') i r n k e c = (r', n, i, subst (λ y. count_in w n y ≡ CountIs k) (let same : r ≡ r'.content = cc in same) c)
  counted_so w (GotLink l) i r n k e c = absurd cc
  counted_so w outcome.Woken i r n k e c = absurd cc
  counted_so w u i r n k e c = absurd cc

  heeds_so : (w : Ways) (u : Outcome) → In u all → (x : News) → consumer_news.Told (news_in u) ≡ consumer_news.Told x → Heeds w all x
  heeds_so w u i x e = λ r n k f c. counted_so w u i r n k ((let same : news_in u ≡ x = cc in same) ∙ f) c

  told_allows : (w : Ways) (o : ConsumerOrder) (u : Outcome) → p ≡ procedure.Subscribe w o → In u all →
      AllowsFailures Fails' w all (consumer_news.Told (news_in u))
  told_allows w o u is i = record {
    breaks = λ x e f b. breaks_so w u f (ap ways_in is) i (let same : news_in u ≡ x = cc in subst (λ y. Breaks w y f) (sym same) b);
    fault = λ x e. (let same : news_in u ≡ x = cc in IsTold u i (ap (λ y. OfConnection (search.fault_of y)) (sym same) ∙ ap OfConnection (fault_same u)));
    in_use = λ e. absurd cc;
    heeds = λ x e. heeds_so w u i x e;
    several = several_so w o is;
  }

  subscribing_holds : (w : Ways) (o : ConsumerOrder) (b : ConsumerBuild) (u : Outcome) → p ≡ procedure.Subscribe w o → BuildNamed w all b → In u all →
      TurnHolds (in_subscribing w o b (consumer_news_of u))
  subscribing_holds w o b Queued is m i = (is, m)
  subscribing_holds w o b InLine is m i = (is, m)
  subscribing_holds w o b (outcome.Word (word.Numbered n)) is m i =
      building_holds w o (consume.build_told w o b (consumer_news.Numbered n)) is
      (building_fails Fails' w all o b (consumer_news.Numbered n)
      (record { breaks = λ x e f k. absurd cc; fault = λ x e. absurd cc; in_use = λ e. absurd cc; heeds = λ x e. absurd cc; several = several_so w o is }) m)
      (build_kept w all o b (consumer_news.Numbered n) (λ x e. absurd cc) m)
  subscribing_holds w o b (outcome.Word word.InUse) is m i =
      building_holds w o (consume.build_told w o b consumer_news.InUse) is
      (building_fails Fails' w all o b consumer_news.InUse
      (record {
        breaks = λ x e f k. absurd cc;
        fault = λ x e. absurd cc;
        in_use = λ e. IsInUse w o is i refl;
        heeds = λ x e. absurd cc;
        several = several_so w o is;
      }) m)
      (build_kept w all o b consumer_news.InUse (λ x e. absurd cc) m)
  subscribing_holds w o b (outcome.Word _) is m i = (is, m)
  subscribing_holds w o b u is m i =
      building_holds w o (consume.build_told w o b (consumer_news.Told (news_in u))) is
      (building_fails Fails' w all o b (consumer_news.Told (news_in u)) (told_allows w o u is i) m)
      (build_kept w all o b (consumer_news.Told (news_in u)) (λ x e. heeds_so w u i x e) m)

  -- one that serves a consumer goes on so, and ends well
  server_holds : {x : Plan} {u : Outcome} (q : Plan) {a : Action} → Arc x u q a → is_server x ≡ true → Holds q
  server_holds (Serving w n s) e h = tt
  server_holds q e h = absurd (other e h refl)
    where
      other : {x y : Plan} {u : Outcome} {a : Action} → Arc x u y a → is_server x ≡ true → is_server y ≡ false → ⊥
      other flowed_takes h k = cc
      other _ h k = cc

  server_says : {x : Plan} {u : Outcome} {v : Verdict} → End x u v → is_server x ≡ true → Says v.said
  server_says over h = says_done
  server_says (ends x n) h = (let f : true ≡ false = sym h ∙ n in absurd cc)
  server_says _ h = absurd cc

  told_holds : (plan : Plan) (u : Outcome) → Holds plan → In u all → is_proper u ≡ true → TurnHolds (told plan u)
  told_holds Building (GotLink link) k i proper = says_done
  told_holds (Getting request s) (GotLink link) k i proper = k
  told_holds (Asking w) Queued k i proper = cond_so TurnHolds (is_answered w.number) (Stays (Awaiting w) Rest) (Gives (verdict Nothing Done)) k says_done
  told_holds (Asking w) InLine k i proper = cond_so TurnHolds (is_answered w.number) (Stays (Asking w) Rest) (Gives (verdict Nothing Done)) k says_done
  told_holds (Awaiting w) (Replied r) k i proper = λ f h. IsAnswered r w.number w.says i k h
  told_holds (Searching w s) Queued k i proper = k
  told_holds (Searching w s) InLine k i proper = k
  told_holds (Searching w s) Cut k i proper = told_so Cut i
  told_holds (Searching w s) Stopped k i proper = told_so Stopped i
  told_holds (Searching w s) u k i proper =
      goes_holds w (Turns w (news_in u)) (search.told w s (news_in u)) k.0 (keeps_told w s (news_in u) k.1) (λ f t. turns_so w u f k.0 i t)
  told_holds (Producing w order b) u k i proper =
      cond_so TurnHolds (overrides u) (Gives (fails (fault_of u))) (builds w order (produce.build_told w order b (news_of u))) (told_so u i)
      (builds_hold w order (produce.build_told w order b (news_of u)) k.0
      (building_ends Fails' w order b (news_of u) (IsTold u i (ap OfConnection (told_same u))) (allows_breaks w u k.0 i proper) k.1))
  told_holds (Sending w e share s) u k i proper =
      cond_so TurnHolds (overrides u && not (is_sent_send s)) (halted share u) (goes_on_sending w e share (produce.send_told w e s (news_of u)))
      (halted_hold share u i)
      (sends_hold w e share (produce.send_told w e s (news_of u)) k.0 k.1
      (sending_ends Fails' w e s (news_of u) (IsInProducer u k.1 i (ap in_producer (told_same u))) (allows_breaks w u k.0 i proper)
      (allows_reply u k.1 i proper) k.2))
  told_holds (Reporting w e) u k i proper = (k.0, k.1, tt)
  told_holds (Storing share) u k i proper = storing_holds share u i
  told_holds Stored u k i proper = in_stored_holds u i
  told_holds (Batching w e b) u k i proper = batch_holds w e b u
  told_holds (Leaving f) u k i proper = with_failure f k
  told_holds (Gathering first count left failures) (Parted ticket f) k i proper =
      gathers_hold first count (left - 1) (failed_with ticket f failures) k.0 (failed_more ticket f failures i k.1)
  told_holds (Shutting numbers) (Granted granting.Done) k i proper = round_holds Closes numbers k
  told_holds (Visiting r n left x) u k i proper =
      cond_so TurnHolds (overrides u) (Gives (fails (fault_of u))) (told_at r n left x u) (told_so u i) (visits_hold r n left x u k i)
  told_holds (Subscribing w o b) u k i proper =
      cond_so TurnHolds (overrides u) (Gives (fails (fault_of u))) (in_subscribing w o b (consumer_news_of u)) (told_so u i)
      (subscribing_holds w o b u k.0 k.1 i)
  told_holds (Serving w n s) u k i proper = by_arcs TurnHolds (Serving w n s) u (λ q a e. server_holds q e refl) (λ v e. server_says e refl)
  told_holds Acknowledging u k i proper = says_done
  told_holds (Departing t n) (GotLink link) k i proper = ap number_in k
  told_holds (Departing t n) (outcome.Word word.Closed) k i proper = with_failure (OfConsumer ConsumerClosed) (IsClosed t n k i refl)
  told_holds Stopping Stopped k i proper = says_done
  told_holds x u k i proper = plain_holds x u (told x u) (λ P h. h) k i

  no_action : (m : Makes) (f : Failure) (action : Action) → Fails m f ≡ Acted action → ⊥
  no_action m f action h = cc

  -- an action is no failure
  not_acted : (m : Makes) (f : Failure) (action : Action) (ds : List Deed) → In (Fails m f) (acted action ++ ds) → In (Fails m f) ds
  not_acted m f Rest ds h = h
  not_acted m f action ds (inl e) = absurd (no_action m f action e)
  not_acted m f action ds (inr e) = e

  -- along its outcomes
  pub course_fails : (turn : PlanTransition) (os : List Outcome) (m : Makes) (f : Failure) → TurnHolds turn →
      ((u : Outcome) → In u os → In u all × (is_proper u ≡ true)) → In (Fails m f) (course turn os) → FailsSo p all f
  course_fails (Gives verdict) os m f k each (inl e) = k f (ap said_in e)
  course_fails (Gives verdict) os m f k each (inr e) = absurd e
  course_fails (Stays plan action) [] m f k each h = absurd (not_acted m f action [] (subst (In (Fails m f)) (sym (append-nil (acted action))) h))
  course_fails (Stays plan action) (u ∷ os) m f k each h =
      let is = each u (inl refl) in
      course_fails (told plan u) os m f (told_holds plan u k is.0 is.1) (λ x i. each x (inr i)) (not_acted m f action (course (told plan u) os) h)

  -- where it leaves with a failure, it would fail so
  pub leaves_so : (turn : PlanTransition) (os : List Outcome) (f : Failure) → TurnHolds turn →
      ((u : Outcome) → In u os → In u all × (is_proper u ≡ true)) → stays (along turn os) ≡ Some (Leaving f) → FailsSo p all f
  leaves_so (Gives verdict) os f k each h = absurd cc
  leaves_so (Stays plan action) [] f k each h = subst Holds (let e : plan ≡ Leaving f = cc in e) k
  leaves_so (Stays plan action) (u ∷ os) f k each h =
      let is = each u (inl refl) in
      leaves_so (told plan u) os f (told_holds plan u k is.0 is.1) (λ x i. each x (inr i)) h

-- PROCEDURES

-- a search is one that calls ask for, and only a close goes round to close
abbrev pub IsMade : Procedure → Type 0
IsMade (procedure.Search w what) = is_sought what ≡ true
IsMade (procedure.Go Closes numbers) = ⊥
IsMade _ = Unit {0}

pub begins_holds : (p : Procedure) (all : List Outcome) → IsMade p → TurnHolds p all (begins p)
begins_holds (procedure.Build base) all is = tt
begins_holds procedure.Stop all is = tt
begins_holds (procedure.Ask (At place) request s) all is = refl
begins_holds (procedure.Ask (Link l) request s) all is = refl
begins_holds (procedure.Search w what) all is =
    goes_holds (procedure.Search w what) all w (λ f. ⊥) (search.begins w what) refl (keeps_begins (λ f. ⊥) w what is) (λ f never. absurd never)
begins_holds (procedure.Produce w order) all is =
    builds_hold (procedure.Produce w order) all w order (produce.build_begins w order) refl (building_begins (FailsSo (procedure.Produce w order) all) w order)
begins_holds (procedure.Send w e share m) all is = sends_hold (procedure.Send w e share m) all w e share (produce.send_begins e m) refl refl tt
begins_holds (procedure.Store n share e) all is = tt
begins_holds (procedure.Batch w e) all is = tt
begins_holds (procedure.FailShare share r) all is = IsRefusedShare share r refl refl
begins_holds (procedure.Gather first count) all is = gathers_hold (procedure.Gather first count) all first count count [] refl (inl refl)
begins_holds (procedure.Go Checks numbers) all is = round_holds (procedure.Go Checks numbers) all Checks numbers tt
begins_holds (procedure.Go Flushes numbers) all is = round_holds (procedure.Go Flushes numbers) all Flushes numbers tt
begins_holds (procedure.Go Closes numbers) all is = absurd is
begins_holds (procedure.Subscribe w o) all is =
    building_holds (procedure.Subscribe w o) all w o (consume.build_begins w o) refl
    (building_begins_so (FailsSo (procedure.Subscribe w o) all) w all o (several_so (procedure.Subscribe w o) all w o refl))
    (named_kept w all o (search.names_begins w o.topic) (names_begin_kept w all o.topic))
begins_holds (procedure.Serve w n) all is = tt
begins_holds (procedure.Acknowledge None request) all is = says_done (procedure.Acknowledge None request) all
begins_holds (procedure.Acknowledge (Some l) request) all is = tt
begins_holds (procedure.Refuse r) all is = says_failed (procedure.Refuse r) all (failure_of r) (IsRefused r refl refl)
begins_holds _ all is = refl
