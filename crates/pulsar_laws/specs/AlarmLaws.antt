-- What every run has of alarms: one whose moment has come comes in the tick at which it has, and does what it is for.
use Rattle.std.specs.Prelude.{◌≡◌, ℕ, ◌+◌, ◌≤◌, true, false, List, [], ◌∷◌, ◌++◌, Some, None}
use Rattle.pulsar_run.specs.Laws.{In}
use Rattle.pulsar_session.specs.Link.{is_ready}
use Rattle.pulsar_outgoing.specs.Storage.{is_nothing}
use Rattle.pulsar_calls.specs.Content.{Ticked}
use Rattle.pulsar_calls.specs.declared.act.Act.TheVariants.{Comes, Dials, Told}
use Rattle.pulsar_calls.specs.declared.act.Alarm.{Alarm}
use Rattle.pulsar_calls.specs.declared.act.Alarm.TheVariants.{Batch, CheckIdle, KeepAlive, Retry, Wake}
use Rattle.pulsar_calls.specs.declared.act.End.TheVariants.{Idles}
use Rattle.pulsar_calls.specs.declared.act.LinkAct.TheVariants.{Ends, Pings}
use Rattle.pulsar_calls.specs.declared.act.Outcome.TheVariants as outcome
use Rattle.pulsar_calls.specs.declared.act.Part.TheVariants.{Rings, ToLink}
use Rattle.pulsar_consumer_table.specs.Consumers.{is_heard}
use Rattle.pulsar_links.specs.Seats.{Seat}
use Rattle.pulsar_links.specs.declared.addresses.Pause.{Pause}
use Rattle.pulsar_producer_table.specs.Producers.{is_held}
use Rattle.pulsar_producer_table.specs.declared.table.Topic.{Topic}
use Rattle.pulsar_acts.specs.Rules.{is_idle, notice, ready_notice}
use Rattle.pulsar_acts.specs.Run.{Begins, Entry, IsRun, Rests, Then, view}
use Rattle.pulsar_acts.specs.View.{View}
use Rattle.pulsar_machine.specs.Options.{Options}
use Rattle.pulsar_laws.specs.Laws.{AreActs}
use Rattle.pulsar_laws.specs.RetryLaws.{newest_moment, to_64}

-- An alarm that was set comes in each tick at which its moment has come, that isn't before the clock: none is forgotten.
abbrev pub AlarmsComeInTime : Type 0
AlarmsComeInTime = (o : Options) (newer older : List Entry) (now m : ℕ) (a : Alarm) →
    IsRun o (newer ++ Begins (Ticked now) ∷ older) → Rests o (newer ++ Begins (Ticked now) ∷ older) → AreActs newer →
    (view o older).now ≤ now → newest_moment o a older ≡ Some m → m ≤ now → In (Then (Comes (Rings a))) newer

-- nothing uses a link: it is ready, was not got for so long as the options say, no request waits on it, no frame stands in its line, no subscription is
-- live there, and no producer is open
abbrev pub IsUnused : View → (link : ℕ) → Seat → Type 0
IsUnused v l seat =
    (is_ready seat.seen.stage ≡ true) × (to_64 (seat.got + v.chosen.connection.connection_max_idle) ≤ v.now) × (seat.seen.waits.waiting ≡ [])
    × (seat.seen.line ≡ []) × (is_heard v.consumers l ≡ false) × (is_held v.producers l ≡ false)

-- it is idle just there (IdleEnds)
abbrev pub IdleIsUnused : Type 0
IdleIsUnused = (v : View) (l : ℕ) (seat : Seat) → (is_idle v l seat ≡ true → IsUnused v l seat) × (IsUnused v l seat → is_idle v l seat ≡ true)

-- What is stored is cut into a batch behind those that wait; and where none is under way its topic producer is told that one is ready.
abbrev pub CutsStored : Options → (number : ℕ) → Topic → (newer older : List Entry) → Type 0
CutsStored o n row newer older =
    (left : Topic) × ((view o (Then (Comes (Rings (Batch n))) ∷ older)).producers.topics n ≡ Some left) × (left.seen.storage.items ≡ [])
    × (left.seen.cut ≡ row.seen.cut ++ row.seen.storage.items ∷ []) × (row.seen.is_under_way ≡ false → In (Then (Told (ready_notice n))) newer)

-- What an alarm is for: the attempt that was to follow is made, with one retry more; one who waited is told so; what is stored is cut; a link is pinged that
-- has no ping that waits; and each link that nothing uses ends.
abbrev pub ActsSo : Options → Alarm → (newer older : List Entry) → Type 0
ActsSo o (Retry l) newer older =
    (p : Pause) → (view o older).addresses.pause l ≡ Some p → In (Then (Dials p.address p.starter (p.retries + 1))) newer
ActsSo o (Wake who) newer older = In (Then (Told (notice who outcome.Woken))) newer
ActsSo o (Batch n) newer older =
    (row : Topic) → (view o older).producers.topics n ≡ Some row → is_nothing row.seen.storage.items ≡ false → CutsStored o n row newer older
ActsSo o (KeepAlive l) newer older =
    (seat : Seat) → (view o older).links.live l ≡ Some seat → seat.ping ≡ None → In (Then (Comes (ToLink l Pings))) newer
ActsSo o CheckIdle newer older =
    (l : ℕ) (seat : Seat) → (view o older).links.live l ≡ Some seat → IsUnused (view o older) l seat → In (Then (Comes (ToLink l (Ends Idles)))) newer

-- An alarm that comes while its moment stands does so in that step.
abbrev pub AlarmsAct : Type 0
AlarmsAct = (o : Options) (newer older : List Entry) (a : Alarm) (m : ℕ) →
    IsRun o (newer ++ Then (Comes (Rings a)) ∷ older) → Rests o (newer ++ Then (Comes (Rings a)) ∷ older) → AreActs newer →
    newest_moment o a older ≡ Some m → m ≤ (view o older).now → ActsSo o a newer older
