-- A send, and a close, by a producer of many topics passes its turn once, and ends behind that.
use Rattle.std.proofs.Common.{◌≡◌, inl, inr, ap, refl, ℕ, true, List, Result, Ok, Err}
use Rattle.pulsar_messages.specs.Content.{ProducerMessageValues}
use Rattle.pulsar_wire.specs.Failures.{Failure}
use Rattle.pulsar_searches.specs.declared.turn.Ways.{Ways}
use Rattle.pulsar_producer.specs.MultiLaws.{CloseEndsBehindItsTurn, ClosePassesAtItsEnd, FailedBuildFailsItsSend, SendEndsBehindItsTurn, SendKeepsItsTurnWhileItBuilds, SendPassesAtItsEnd, has_ended}
use Rattle.pulsar_producer.specs.MultiPlans.{close_passes, close_told, in_building, in_close_waiting, in_handing, in_joining, in_removing, in_waiting, multi_failure, multi_send_told, send_builds, send_passes}
use Rattle.pulsar_producer.specs.Plans.{Builds, build_begins, build_told}
use Rattle.pulsar_producer.specs.declared.building.BuildingProducer.{BuildingProducer}
use Rattle.pulsar_outgoing.specs.declared.orders.ProducerOrder.{ProducerOrder}
use Rattle.pulsar_searches.specs.declared.transition.Transition.TheVariants.{Stays, Gives}
use Rattle.pulsar_producer.specs.declared.multi_topic.closing.MultiClosing.{MultiClosing}
use Rattle.pulsar_producer.specs.declared.multi_topic.closing.MultiClosing.TheVariants as close
use Rattle.pulsar_outgoing.specs.declared.multi_topic.Dispatch.{Dispatch}
use Rattle.pulsar_outgoing.specs.declared.multi_topic.MultiSaid.TheVariants.{HasTurn, Handed, Absent, Removed, Done}
use Rattle.pulsar_outgoing.specs.declared.multi_topic.MultiAsk.TheVariants.{PassTurn}
use Rattle.pulsar_producer.specs.declared.multi_topic.deed.MultiDeed.TheVariants.{Asks}
use Rattle.pulsar_producer.specs.declared.multi_topic.deed.MultiNews.{MultiNews}
use Rattle.pulsar_producer.specs.declared.multi_topic.deed.MultiNews.TheVariants.{Said, Told}
use Rattle.pulsar_producer.specs.declared.multi_topic.sending.MultiSending.{MultiSending}
use Rattle.pulsar_producer.specs.declared.multi_topic.sending.MultiSending.TheVariants as send

-- A SEND THAT PASSES ITS TURN

abbrev AtItsEnd : Ways → MultiSending → Type 0
AtItsEnd w s = (given : Result Dispatch Failure) × (s ≡ send.Passing given) × ((x : MultiNews) → multi_send_told w s x ≡ Gives given)

passing : (w : Ways) (given : Result Dispatch Failure) (s : MultiSending) → send_passes given ≡ Stays s (Asks PassTurn) → AtItsEnd w s
passing w given s is =
    let same : s ≡ send.Passing given = cc in (given, same, λ x. ap (λ y. multi_send_told w y x) same)

builds_pass : (w : Ways) (o : ProducerOrder) (m : ProducerMessageValues) (b : Builds) (s : MultiSending) → send_builds o m b ≡ Stays s (Asks PassTurn) →
    AtItsEnd w s
builds_pass w o m (Stays b deed) s is = absurd cc
builds_pass w o m (Gives (Ok parts)) s is = absurd cc
builds_pass w o m (Gives (Err f)) s is = passing w (Err f) s is

waiting_passes : (w : Ways) (t : List ℕ) (m : ProducerMessageValues) (n : MultiNews) (s : MultiSending) → in_waiting t m n ≡ Stays s (Asks PassTurn) →
    AtItsEnd w s
waiting_passes w t m (Said HasTurn) s is = absurd cc
waiting_passes w t m (Said (Handed d)) s is = absurd cc
waiting_passes w t m (Said (Absent x)) s is = absurd cc
waiting_passes w t m (Said (Removed ns)) s is = absurd cc
waiting_passes w t m (Said Done) s is = absurd cc
waiting_passes w t m (Told n) s is = absurd cc

handing_passes : (w : Ways) (n : MultiNews) (s : MultiSending) → in_handing w n ≡ Stays s (Asks PassTurn) → AtItsEnd w s
handing_passes w (Said HasTurn) s is = passing w (Err (multi_failure (Said HasTurn))) s is
handing_passes w (Said (Handed d)) s is = passing w d s is
handing_passes w (Said (Absent x)) s is = builds_pass w x.order x.message (build_begins w x.order) s is
handing_passes w (Said (Removed ns)) s is = passing w (Err (multi_failure (Said (Removed ns)))) s is
handing_passes w (Said Done) s is = passing w (Err (multi_failure (Said Done))) s is
handing_passes w (Told n) s is = passing w (Err (multi_failure (Told n))) s is

building_passes : (w : Ways) (o : ProducerOrder) (m : ProducerMessageValues) (b : BuildingProducer) (n : MultiNews) (s : MultiSending) →
    in_building w o m b n ≡ Stays s (Asks PassTurn) → AtItsEnd w s
building_passes w o m b (Told n) s is = builds_pass w o m (build_told w o b n) s is
building_passes w o m b (Said x) s is = absurd cc

joining_passes : (w : Ways) (t : List ℕ) (m : ProducerMessageValues) (n : MultiNews) (s : MultiSending) → in_joining t m n ≡ Stays s (Asks PassTurn) →
    AtItsEnd w s
joining_passes w t m (Said HasTurn) s is = passing w (Err (multi_failure (Said HasTurn))) s is
joining_passes w t m (Said (Handed d)) s is = passing w (Err (multi_failure (Said (Handed d)))) s is
joining_passes w t m (Said (Absent x)) s is = passing w (Err (multi_failure (Said (Absent x)))) s is
joining_passes w t m (Said (Removed ns)) s is = passing w (Err (multi_failure (Said (Removed ns)))) s is
joining_passes w t m (Said Done) s is = absurd cc
joining_passes w t m (Told n) s is = passing w (Err (multi_failure (Told n))) s is

pub send_passes_at_its_end : SendPassesAtItsEnd
send_passes_at_its_end w (send.Waiting t m) s' n is = waiting_passes w t m n s' is
send_passes_at_its_end w send.Handing s' n is = handing_passes w n s' is
send_passes_at_its_end w (send.Building o m b) s' n is = building_passes w o m b n s' is
send_passes_at_its_end w (send.Joining t m) s' n is = joining_passes w t m n s' is
send_passes_at_its_end w (send.Passing given) s' n is = absurd cc

-- A SEND THAT ENDS

builds_stays : (o : ProducerOrder) (m : ProducerMessageValues) (b : Builds) (given : Result Dispatch Failure) → send_builds o m b ≡ Gives given → ⊥
builds_stays o m (Stays b deed) given is = cc
builds_stays o m (Gives (Ok parts)) given is = cc
builds_stays o m (Gives (Err f)) given is = cc

waiting_ends : (t : List ℕ) (m : ProducerMessageValues) (n : MultiNews) (given : Result Dispatch Failure) → in_waiting t m n ≡ Gives given →
    given ≡ Err (multi_failure n)
waiting_ends t m (Said HasTurn) given is = absurd cc
waiting_ends t m (Said (Handed d)) given is = cc
waiting_ends t m (Said (Absent x)) given is = cc
waiting_ends t m (Said (Removed ns)) given is = cc
waiting_ends t m (Said Done) given is = cc
waiting_ends t m (Told n) given is = cc

handing_stays : (w : Ways) (n : MultiNews) (given : Result Dispatch Failure) → in_handing w n ≡ Gives given → ⊥
handing_stays w (Said HasTurn) given is = cc
handing_stays w (Said (Handed d)) given is = cc
handing_stays w (Said (Absent x)) given is = builds_stays x.order x.message (build_begins w x.order) given is
handing_stays w (Said (Removed ns)) given is = cc
handing_stays w (Said Done) given is = cc
handing_stays w (Told n) given is = cc

building_stays : (w : Ways) (o : ProducerOrder) (m : ProducerMessageValues) (b : BuildingProducer) (n : MultiNews) (given : Result Dispatch Failure) →
    in_building w o m b n ≡ Gives given → ⊥
building_stays w o m b (Told n) given is = builds_stays o m (build_told w o b n) given is
building_stays w o m b (Said x) given is = cc

joining_stays : (t : List ℕ) (m : ProducerMessageValues) (n : MultiNews) (given : Result Dispatch Failure) → in_joining t m n ≡ Gives given → ⊥
joining_stays t m (Said HasTurn) given is = cc
joining_stays t m (Said (Handed d)) given is = cc
joining_stays t m (Said (Absent x)) given is = cc
joining_stays t m (Said (Removed ns)) given is = cc
joining_stays t m (Said Done) given is = cc
joining_stays t m (Told n) given is = cc

pub send_ends_behind_its_turn : SendEndsBehindItsTurn
send_ends_behind_its_turn w (send.Waiting t m) n given is = inr (t, m, refl, waiting_ends t m n given is)
send_ends_behind_its_turn w send.Handing n given is = absurd (handing_stays w n given is)
send_ends_behind_its_turn w (send.Building o m b) n given is = absurd (building_stays w o m b n given is)
send_ends_behind_its_turn w (send.Joining t m) n given is = absurd (joining_stays t m n given is)
send_ends_behind_its_turn w (send.Passing r) n given is = inl (let same : r ≡ given = cc in ap send.Passing same)

-- A SEND THAT BUILDS

pass_means_ended : (o : ProducerOrder) (m : ProducerMessageValues) (b : Builds) (s : MultiSending) → send_builds o m b ≡ Stays s (Asks PassTurn) →
    has_ended b ≡ true
pass_means_ended o m (Stays b deed) s is = absurd cc
pass_means_ended o m (Gives r) s is = refl

pub send_keeps_its_turn : SendKeepsItsTurnWhileItBuilds
send_keeps_its_turn w o m b n s is = pass_means_ended o m (build_told w o b n) s is

pub failed_build_fails : FailedBuildFailsItsSend
failed_build_fails w o m b n f is = ap (send_builds o m) is

-- A CLOSE

abbrev CloseAtItsEnd : MultiClosing → Type 0
CloseAtItsEnd s = (given : Result (List ℕ) Failure) × (s ≡ close.Passing given) × ((x : MultiNews) → close_told s x ≡ Gives given)

close_passing : (given : Result (List ℕ) Failure) (s : MultiClosing) → close_passes given ≡ Stays s (Asks PassTurn) → CloseAtItsEnd s
close_passing given s is = let same : s ≡ close.Passing given = cc in (given, same, λ x. ap (λ y. close_told y x) same)

close_waiting_passes : (t : List ℕ) (n : MultiNews) (s : MultiClosing) → in_close_waiting t n ≡ Stays s (Asks PassTurn) → CloseAtItsEnd s
close_waiting_passes t (Said HasTurn) s is = absurd cc
close_waiting_passes t (Said (Handed d)) s is = absurd cc
close_waiting_passes t (Said (Absent x)) s is = absurd cc
close_waiting_passes t (Said (Removed ns)) s is = absurd cc
close_waiting_passes t (Said Done) s is = absurd cc
close_waiting_passes t (Told n) s is = absurd cc

removing_passes : (n : MultiNews) (s : MultiClosing) → in_removing n ≡ Stays s (Asks PassTurn) → CloseAtItsEnd s
removing_passes (Said HasTurn) s is = close_passing (Err (multi_failure (Said HasTurn))) s is
removing_passes (Said (Handed d)) s is = close_passing (Err (multi_failure (Said (Handed d)))) s is
removing_passes (Said (Absent x)) s is = close_passing (Err (multi_failure (Said (Absent x)))) s is
removing_passes (Said (Removed ns)) s is = close_passing (Ok ns) s is
removing_passes (Said Done) s is = close_passing (Err (multi_failure (Said Done))) s is
removing_passes (Told n) s is = close_passing (Err (multi_failure (Told n))) s is

pub close_passes_at_its_end : ClosePassesAtItsEnd
close_passes_at_its_end (close.Waiting t) s' n is = close_waiting_passes t n s' is
close_passes_at_its_end close.Removing s' n is = removing_passes n s' is
close_passes_at_its_end (close.Passing given) s' n is = absurd cc

close_waiting_ends : (t : List ℕ) (n : MultiNews) (given : Result (List ℕ) Failure) → in_close_waiting t n ≡ Gives given → given ≡ Err (multi_failure n)
close_waiting_ends t (Said HasTurn) given is = absurd cc
close_waiting_ends t (Said (Handed d)) given is = cc
close_waiting_ends t (Said (Absent x)) given is = cc
close_waiting_ends t (Said (Removed ns)) given is = cc
close_waiting_ends t (Said Done) given is = cc
close_waiting_ends t (Told n) given is = cc

removing_stays : (n : MultiNews) (given : Result (List ℕ) Failure) → in_removing n ≡ Gives given → ⊥
removing_stays (Said HasTurn) given is = cc
removing_stays (Said (Handed d)) given is = cc
removing_stays (Said (Absent x)) given is = cc
removing_stays (Said (Removed ns)) given is = cc
removing_stays (Said Done) given is = cc
removing_stays (Told n) given is = cc

pub close_ends_behind_its_turn : CloseEndsBehindItsTurn
close_ends_behind_its_turn (close.Waiting t) n given is = inr (t, refl, close_waiting_ends t n given is)
close_ends_behind_its_turn close.Removing n given is = absurd (removing_stays n given is)
close_ends_behind_its_turn (close.Passing r) n given is = inl (let same : r ≡ given = cc in ap close.Passing same)
