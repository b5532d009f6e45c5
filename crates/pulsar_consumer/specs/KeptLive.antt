-- For the code's contracts alone: a live subscription as the code keeps it.
use Rattle.std.specs.Prelude.{ℕ, ◌^◌, ◌<◌, ◌≤◌, Option, Some, None}
use Rattle.pulsar_consumer.specs.Topic.{Live, half}
use Rattle.pulsar_consumer.specs.declared.live.Live.TheInside.{Inside}

abbrev pub live_of : Inside → Live
live_of i = record { link = i.link; url = i.url; level = i.level; weight = i.weight; due = i.due.items }

-- At least half of its permits were left when the frame that is begun was begun, and a frame costs no more than entries can be counted: so
-- the permits of each flow fit 32 bits.
abbrev pub HasPermits : Option Live → (batch : Option ℕ) → Type 0
HasPermits None batch = Unit {0}
HasPermits (Some l) None = Unit {0}
HasPermits (Some l) (Some batch) = (half batch ≤ l.level) × (l.weight < 2 ^ 31)
