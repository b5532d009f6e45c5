-- For the code's contracts alone: what is asked next.
use Rattle.std.specs.Prelude.{◌≡◌, ◌≤◌, ◌-◌, ◌⊎◌, ℕ, zero, suc, Bool, true, false, List, [], ◌∷◌, map, length, slice_get, string_bytes, Option, Some, None}
use Rattle.pulsar_messages.specs.Message.{bare}
use Rattle.pulsar_calls.specs.Content.{Asked, Build, Producer, Send, Consumer, asked}
use Rattle.pulsar_work.specs.Calls.{Work, Sends, Takes, consumer_of, producer_of}
use Rattle.pulsar_work.specs.Progress.{owed_ack}
use Rattle.pulsar_work.specs.declared.asking.Next.{Next}
use Rattle.pulsar_work.specs.declared.asking.Next.TheVariants as next
use Rattle.pulsar_work.specs.declared.asking.Task.{Task}
use Rattle.pulsar_work.specs.declared.asking.Task.TheVariants as task
use Rattle.pulsar_work.specs.declared.progress.Progress.{Progress}

-- what a task is
abbrev pub work_in : Task → Work
work_in (task.Produce topic lines) = Sends (string_bytes topic) (map (λ line. line.items) lines.items)
work_in (task.Consume topic subscription count) = Takes (string_bytes topic) (string_bytes subscription) count

-- the call that makes the producer or the consumer
abbrev pub making : Work → Asked
making (Sends topic lines) = Producer (producer_of topic)
making (Takes topic subscription count) = Consumer (consumer_of topic subscription)

-- the calls behind it, where these were acknowledged
abbrev pub sends : List (List ℕ) → List Asked
sends lines = map (λ line. Send 1 (bare line)) lines

-- the call of a place, but for acknowledgements
abbrev pub call_at : Work → (place : ℕ) → Option Asked
call_at w zero = Some Build
call_at w (suc zero) = Some (making w)
call_at (Sends topic lines) (suc (suc place)) = slice_get (sends lines) place
call_at (Takes topic subscription count) (suc (suc place)) = None

-- all has ended well that was asked for
abbrev pub HaveAllEnded : Progress → Type 0
HaveAllEnded p = length p.ended.items ≤ p.first_open

-- nothing is left to be asked for
abbrev pub IsAllAsked : Work → Progress → Type 0
IsAllAsked (Sends topic lines) p = length lines ≤ length p.ended.items - 2
IsAllAsked (Takes topic subscription count) p = (p.owed ≡ None) × ((p.given ≡ count) ⊎ (p.is_over ≡ true))

-- The last call comes where something has failed, or where all was asked for and has ended well. Before it the Build has ended well.
abbrev pub Stops : Work → Progress → Type 0
Stops w p =
    (slice_get p.ended.items 0 ≡ Some true)
    × ((p.failed ≡ true) ⊎ (HaveAllEnded p × IsAllAsked w p × (2 ≤ length p.ended.items) × (p.failed ≡ false)))

-- messages are taken
abbrev pub IsTaking : Work → Type 0
IsTaking (Sends topic lines) = ⊥
IsTaking (Takes topic subscription count) = Unit {0}

-- what is asked next
abbrev pub IsNext : Work → Progress → Next → Type 0
IsNext w p (next.Call c) = call_at w (length p.ended.items) ≡ Some (asked c)
IsNext w p (next.Ack c) = (asked c ∷ [] ≡ owed_ack p.owed) × (2 ≤ length p.ended.items) × IsTaking w
IsNext w p next.Poll = Unit {0}
IsNext w p next.Stop = Stops w p
IsNext w p next.Nothing = Unit {0}

-- the next line is sent, or the end has come; a line waits only while others that were sent have not ended
abbrev pub IsSend : List (List ℕ) → (calls waiting : ℕ) → (have_all_ended : Bool) → Next → Type 0
IsSend lines calls waiting have_all_ended (next.Call c) = slice_get (sends lines) (calls - 2) ≡ Some (asked c)
IsSend lines calls waiting have_all_ended next.Stop = (length lines ≤ calls - 2) × (have_all_ended ≡ true)
IsSend lines calls waiting have_all_ended next.Nothing = (length lines ≤ calls - 2) ⊎ (1 ≤ waiting)
IsSend lines calls waiting have_all_ended (next.Ack c) = ⊥
IsSend lines calls waiting have_all_ended next.Poll = ⊥

-- an item is acknowledged, or the next one is asked for, or the end has come
abbrev pub IsTake : (count : ℕ) → Progress → Next → Type 0
IsTake count p (next.Ack c) = asked c ∷ [] ≡ owed_ack p.owed
IsTake count p next.Stop = (p.owed ≡ None) × ((p.given ≡ count) ⊎ (p.is_over ≡ true)) × HaveAllEnded p
IsTake count p next.Poll = Unit {0}
IsTake count p next.Nothing = Unit {0}
IsTake count p (next.Call c) = ⊥
