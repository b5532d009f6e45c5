-- Where the making of a producer fails, and a send: with the fault of the news that it was told, by what a reply says, or with what it
-- kept to tell later.
use Rattle.std.proofs.Common.{◌≡◌, List, [], ◌∷◌, refl, Bool, true, false, cond, Option, Some, None, Result, Ok, Err}
use Rattle.pulsar_laws.proofs.PlanWords.{BuildingProducer, Built, Command, Deed, Errand, Heard as News, Making, News as Granting, ProducerOrder, SearchTransition, Sending, Served, Ways}
use Rattle.pulsar_laws.proofs.LinkWords.{Failure, Fault, Named, OfConnection}
use Rattle.pulsar_messages.specs.Content.{ProducerMessageValues}
use Rattle.pulsar_frame.specs.Reply.{Reply as Content, is_body}
use Rattle.pulsar_searches.specs.Plans.{is_lost, look_told, made_gets, made_told, names_begins, names_told, verdict}
use Rattle.pulsar_searches.specs.Replies.{unexpected}
use Rattle.pulsar_searches.specs.declared.turn.SearchOutcome.TheVariants as news
use Rattle.pulsar_outgoing.specs.Errors.{in_producer}
use Rattle.pulsar_producer.specs.Plans.{Builds, Sent, build_begins, build_closes, build_made, build_next, build_told, fault_told, not_drawn, not_queued, or_else, receipt, send_ends, send_makes, send_recalls, send_remakes, send_told}
use Rattle.pulsar_producer.specs.declared.building.BuildingProducer.TheVariants as build
use Rattle.pulsar_outgoing.specs.declared.news.News.TheVariants as granting
use Rattle.pulsar_producer.specs.declared.deed.Deed.TheVariants.{Holds, Numbers}
use Rattle.pulsar_producer.specs.declared.sending.Sending.TheVariants as send
use Rattle.pulsar_laws.proofs.plans.Searches.{Breaks, BySearch, FailsBy, Turns, look_fails, made_fails, names_begin, naming_fails}
use Rattle.pulsar_searches.specs.declared.transition.Transition.TheVariants as transition
use Rattle.pulsar_producer.specs.Transitions.{ProducerTransition}

-- where a plan stays, what it keeps is such, and where it fails, its failure is
abbrev pub Ends : {S A : Type 0} → (S → Type 0) → (Failure → Type 0) → ProducerTransition S (Result A Failure) → Type 0
Ends H P (transition.Stays s deed) = H s
Ends H P (transition.Gives (Ok a)) = Unit {0}
Ends H P (transition.Gives (Err f)) = P f

either_ends : {S A : Type 0} (H : S → Type 0) (P : Failure → Type 0) (b : Bool) (x y : ProducerTransition S (Result A Failure)) → Ends H P x → Ends H P y →
    Ends H P (cond b x y)
either_ends H P true x y p q = p
either_ends H P false x y p q = q

else_ends : {S T A B : Type 0} (H : T → Type 0) (P Q : Failure → Type 0) (turn : SearchTransition S (Result A Failure)) (within : S → T) (on : A →
    ProducerTransition T (Result B Failure))
    (otherwise : Failure → ProducerTransition T (Result B Failure)) → FailsBy Q turn → ((s : S) → H (within s)) → ((a : A) → Ends H P (on a)) →
    ((f : Failure) → Q f → Ends H P (otherwise f)) → Ends H P (or_else turn within on otherwise)
else_ends H P Q (transition.Stays s action) within on otherwise q h k m = h s
else_ends H P Q (transition.Gives (Ok a)) within on otherwise q h k m = k a
else_ends H P Q (transition.Gives (Err f)) within on otherwise q h k m = m f q

-- a search, or a command, that fails at these news fails so
abbrev pub AllowsBreaks : (Failure → Type 0) → Ways → Granting → Type 0
AllowsBreaks P w y = (x : News) → y ≡ granting.Told x → (f : Failure) → Breaks w x f → P f

-- A BUILDING

-- it keeps why it fails
abbrev pub BuildKeeps : (Failure → Type 0) → BuildingProducer → Type 0
BuildKeeps P (build.Closing left f) = P f
BuildKeeps P _ = Unit {0}

abbrev BuildEnds : (Failure → Type 0) → Builds → Type 0
BuildEnds P s = Ends (BuildKeeps P) P s

next_ends : (P : Failure → Type 0) (d : Deed) (names : List Named) (made : List Built) → BuildEnds P (build_next d names made)
next_ends P d [] made = tt
next_ends P d (n ∷ left) made = tt

closes_end : (P : Failure → Type 0) (left : List Built) (f : Failure) → P f → BuildEnds P (build_closes left f)
closes_end P [] f k = k
closes_end P (b ∷ left) f k = k

pub building_begins : (P : Failure → Type 0) (w : Ways) (o : ProducerOrder) → BuildEnds P (build_begins w o)
building_begins P w o =
    else_ends (BuildKeeps P) P P (names_begins w o.topic) build.Naming (λ names. build_next Numbers names []) (λ f. transition.Gives (Err f))
    (names_begin P w o.topic) (λ n. tt)
    (λ names. next_ends P Numbers names []) (λ f k. k)

pub building_ends : (P : Failure → Type 0) (w : Ways) (o : ProducerOrder) (b : BuildingProducer) (y : Granting) → P (OfConnection (fault_told y)) →
    AllowsBreaks P w y →
    BuildKeeps P b →
    BuildEnds P (build_told w o b y)
building_ends P w o (build.Naming n) (granting.Told x) fault breaks k =
    else_ends (BuildKeeps P) P (Turns w x) (names_told w o.topic n x) build.Naming (λ names. build_next Numbers names []) (λ f. transition.Gives (Err f))
    (naming_fails w o.topic n x) (λ n. tt)
    (λ names. next_ends P Numbers names []) (λ f t. breaks x refl f (BySearch t))
building_ends P w o (build.Naming n) y fault breaks k = tt
building_ends P w o (build.Numbering p) (granting.Numbered number) fault breaks k = tt
building_ends P w o (build.Numbering p) granting.Done fault breaks k = tt
building_ends P w o (build.Numbering p) y fault breaks k = closes_end P p.made (OfConnection (fault_told y)) fault
building_ends P w o (build.Making c m number left made) (granting.Told x) fault breaks k =
    else_ends (BuildKeeps P) P (Breaks w x) (made_told w c m x) (λ m. build.Making c m number left made) (build_made c.topic number left made)
    (build_closes made) (made_fails w c m x)
    (λ m. tt) (λ s. next_ends P (Holds s.link number) left _) (λ f t. closes_end P made f (breaks x refl f t))
building_ends P w o (build.Making c m number left made) y fault breaks k = tt
building_ends P w o (build.Closing left f) (granting.Told x) fault breaks k = closes_end P left f k
building_ends P w o (build.Closing left f) y fault breaks k = k

-- A SEND

abbrev pub SendKeeps : (Failure → Type 0) → Sending → Type 0
SendKeeps P (send.Ending f) = P f
SendKeeps P _ = Unit {0}

abbrev SendEnds : (Failure → Type 0) → Sent → Type 0
SendEnds P s = Ends (SendKeeps P) P s

drawn_ends : (P : Failure → Type 0) (e : Errand) (m : ProducerMessageValues) (f : Fault) → P (in_producer f) → SendEnds P (not_drawn e m f)
drawn_ends P e m f k = either_ends (SendKeeps P) P (is_lost f) (send_recalls e m) (send_ends e (in_producer f)) tt k

queued_ends : (P : Failure → Type 0) (e : Errand) (kept : Option ProducerMessageValues) (f : Fault) → P (in_producer f) → SendEnds P (not_queued e kept f)
queued_ends P e None f k = k
queued_ends P e (Some m) f k = drawn_ends P e m f k

makes_end : (P Q : Failure → Type 0) (e : Errand) (m : ProducerMessageValues) (c : Command) (turn : SearchTransition Making (Result Served Failure)) →
    FailsBy Q turn →
    ((f : Failure) → Q f → P f) → SendEnds P (send_makes e m c turn)
makes_end P Q e m c turn q k = else_ends (SendKeeps P) P Q turn (send.Making m c) (send_remakes e m) (send_ends e) q (λ s. tt) (λ a. tt) k

said_ends : (P : Failure → Type 0) (r : Content) (b : Bool) → P (in_producer (unexpected r r.body)) →
    SendEnds P (receipt (cond b (Ok r) (Err (unexpected r r.body))))
said_ends P r true k = tt
said_ends P r false k = k

-- the reply of another body, where these news are one
abbrev pub AllowsReply : (Failure → Type 0) → Granting → Type 0
AllowsReply P y = (r : Content) → y ≡ granting.Told (news.Replied r) → P (in_producer (unexpected r r.body))

sent_ends : (P : Failure → Type 0) (x : News) → P (in_producer (fault_told (granting.Told x))) → AllowsReply P (granting.Told x) →
    SendEnds P (receipt (verdict 7 x))
sent_ends P (news.Replied r) fault reply = said_ends P r (is_body 7 r.body) (reply r refl)
sent_ends P x fault reply = fault

pub sending_ends : (P : Failure → Type 0) (w : Ways) (e : Errand) (s : Sending) (y : Granting) → P (in_producer (fault_told y)) → AllowsBreaks P w y →
    AllowsReply P y →
    SendKeeps P s → SendEnds P (send_told w e s y)
sending_ends P w e (send.Waiting m) (granting.HasTurn version) fault breaks reply k = tt
sending_ends P w e (send.Waiting m) y fault breaks reply k = fault
sending_ends P w e (send.Drawing m) (granting.Drew d) fault breaks reply k = tt
sending_ends P w e (send.Drawing m) y fault breaks reply k = drawn_ends P e m (fault_told y) fault
sending_ends P w e (send.Asked kept) granting.Queued fault breaks reply k = tt
sending_ends P w e (send.Asked kept) granting.InLine fault breaks reply k = tt
sending_ends P w e (send.Asked kept) y fault breaks reply k = queued_ends P e kept (fault_told y) fault
sending_ends P w e send.Sent (granting.Told x) fault breaks reply k = sent_ends P x fault reply
sending_ends P w e send.Sent y fault breaks reply k = tt
sending_ends P w e (send.Recalling m) (granting.Recalled c) fault breaks reply k = tt
sending_ends P w e (send.Recalling m) y fault breaks reply k = fault
sending_ends P w e (send.Looking m c l) (granting.Told x) fault breaks reply k =
    else_ends (SendKeeps P) P (Turns w x) (look_told w c.topic l x) (send.Looking m c) (λ place. send_makes e m c (made_gets 0 place)) (send_ends e)
    (look_fails w c.topic l x) (λ s. tt)
    (λ place. tt) (λ f t. breaks x refl f (BySearch t))
sending_ends P w e (send.Looking m c l) y fault breaks reply k = tt
sending_ends P w e (send.Making m c j) (granting.Told x) fault breaks reply k =
    makes_end P (Breaks w x) e m c (made_told w c j x) (made_fails w c j x) (λ f t. breaks x refl f t)
sending_ends P w e (send.Making m c j) y fault breaks reply k = tt
sending_ends P w e (send.Remaking m) granting.Done fault breaks reply k = tt
sending_ends P w e (send.Remaking m) y fault breaks reply k = fault
sending_ends P w e (send.Ending f) y fault breaks reply k = k
