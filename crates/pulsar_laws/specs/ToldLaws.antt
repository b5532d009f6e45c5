-- What every run has of those who asked on a link, and of those who wait for one: each is told what came of that, in its step. What one is told has its
-- cause (CauseLaws); here each cause is told.
use Rattle.std.specs.Prelude.{◌≡◌, ℕ, List, ◌∷◌, ◌++◌, Some, None}
use Rattle.pulsar_run.specs.Laws.{In}
use Rattle.pulsar_wire.specs.Failures.{Fault}
use Rattle.pulsar_frame.specs.Message.{MessageValues}
use Rattle.pulsar_session.specs.Link as session
use Rattle.pulsar_session.specs.Link.{came, ends}
use Rattle.pulsar_exchange.specs.Messages.{read}
use Rattle.pulsar_calls.specs.declared.act.Act.TheVariants.{Comes, Told}
use Rattle.pulsar_calls.specs.declared.act.Arrival.TheVariants.{Readied}
use Rattle.pulsar_calls.specs.declared.act.End.{End}
use Rattle.pulsar_calls.specs.declared.act.LinkAct.{LinkAct}
use Rattle.pulsar_calls.specs.declared.act.LinkAct.TheVariants.{Drains, Ends, Opens, Pings, Reads}
use Rattle.pulsar_calls.specs.declared.act.Outcome.{Outcome}
use Rattle.pulsar_calls.specs.declared.act.Outcome.TheVariants as outcome
use Rattle.pulsar_calls.specs.declared.act.Part.TheVariants.{ToLink}
use Rattle.pulsar_calls.specs.declared.act.Who.{Who}
use Rattle.pulsar_calls.specs.Who.{is_same}
use Rattle.pulsar_links.specs.LinkRules.{dropped, fails_so}
use Rattle.pulsar_links.specs.Links as links
use Rattle.pulsar_links.specs.Links.{arrival, closed_by, line_places, new_places}
use Rattle.pulsar_links.specs.Seats.{Seat}
use Rattle.pulsar_links.specs.declared.addresses.Series.TheVariants.{Runs}
use Rattle.pulsar_acts.specs.Rules.{notice}
use Rattle.pulsar_acts.specs.Run.{Entry, IsRun, Rests, Then, view}
use Rattle.pulsar_acts.specs.View.{pause_of}
use Rattle.pulsar_machine.specs.Options.{Options}
use Rattle.pulsar_laws.specs.Laws.{AreActs, base_of, ended_as, is_late}

abbrev pub IsTold : List Entry → Who → Outcome → Type 0
IsTold newer who u = In (Then (Told (notice who u))) newer

-- by a frame, each who asked for a request that it settles; and where the link becomes ready, each who waits for its address
abbrev pub ReadTells : Options → (link : ℕ) → Seat → (newer older : List Entry) → Type 0
ReadTells o l seat newer older =
    ((places : List ℕ) (m : MessageValues) (place : ℕ) (who : Who) → came seat.seen ≡ session.Settles places m → In place places →
    seat.askers place ≡ Some who → IsTold newer who (outcome.Replied (read m)))
    × ((who : Who) → arrival seat.seen ≡ Readied → In who (base_of (view o older) seat.address).waiting → IsTold newer who (outcome.GotLink l))

-- by an end, each who asked for a request that waits, or whose frame stands in the line; and each who waits for the attempt, where none follows
abbrev pub EndTells : Options → End → Seat → (newer older : List Entry) → Type 0
EndTells o end seat newer older =
    (cause : Fault) → closed_by end (view o older).now seat.seen ≡ Some cause →
    ((place : ℕ) (who : Who) → In place (ends seat.seen) → seat.askers place ≡ Some who →
    IsTold newer who (ended_as end (is_late end (view o older).now seat.seen place)))
    × ((place : ℕ) (who : Who) → In place (line_places seat.seen) → seat.askers place ≡ Some who → IsTold newer who (dropped end))
    × ((who starter : Who) (retries link : ℕ) → (base_of (view o older) seat.address).series ≡ Runs starter retries link →
    pause_of o.chosen end seat.address (Runs starter retries link) ≡ None → In who (base_of (view o older) seat.address).waiting →
    IsTold newer who (fails_so end (is_same who starter)))

-- and as frames are written, each whose frame moves up
abbrev pub Tells : Options → (link : ℕ) → LinkAct → Seat → (newer older : List Entry) → Type 0
Tells o l Opens seat newer older = Unit {0}
Tells o l Reads seat newer older = ReadTells o l seat newer older
Tells o l (Drains most) seat newer older =
    (place : ℕ) (who : Who) → In place (new_places seat.seen (links.after (Drains most) (view o older).now seat.seen)) →
    seat.askers place ≡ Some who → IsTold newer who outcome.Queued
Tells o l Pings seat newer older = Unit {0}
Tells o l (Ends end) seat newer older = EndTells o end seat newer older

abbrev pub AskersAreTold : Type 0
AskersAreTold = (o : Options) (newer older : List Entry) (l : ℕ) (x : LinkAct) (seat : Seat) →
    IsRun o (newer ++ Then (Comes (ToLink l x)) ∷ older) → Rests o (newer ++ Then (Comes (ToLink l x)) ∷ older) → AreActs newer →
    (view o older).links.live l ≡ Some seat → Tells o l x seat newer older
