-- What follows from the definitions, in plain words.
use Rattle.std.specs.Prelude.{◌≡◌, ℕ, false}
use Rattle.pulsar_messages.specs.Messages.{command_of}
use Rattle.pulsar_messages.specs.Words.{Words, is_numbered}

-- a request that draws no number has the same command under each number
abbrev pub IsSameForEachNumber : Type 0
IsSameForEachNumber = (words : Words) (id other : ℕ) → is_numbered words ≡ false → command_of id words ≡ command_of other words
