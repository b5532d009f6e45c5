-- A step of a client: an event with its effects, as they are seen.
use Rattle.pulsar_run.specs.Run as run
use Rattle.pulsar_calls.specs.Content.{Heard, Shown}

abbrev pub Step : Type 0
Step = run.Step Heard Shown
