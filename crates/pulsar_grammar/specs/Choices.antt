-- Words that name a choice.
use Rattle.std.specs.Prelude.{ℕ, Bool, true, false, if◌then◌else◌, List, Option, Some, None, codes}
use Rattle.std.specs.Str.{bytes_eq}
use Rattle.pulsar_wire.specs.declared.commands.enumerations.InitialPosition.{InitialPosition}
use Rattle.pulsar_wire.specs.declared.commands.enumerations.InitialPosition.TheVariants.{Latest, Earliest}
use Rattle.pulsar_wire.specs.declared.commands.enumerations.SubType.{SubType}
use Rattle.pulsar_wire.specs.declared.commands.enumerations.SubType.TheVariants.{Exclusive, Shared, Failover, KeyShared}
use Rattle.pulsar_wire.specs.declared.commands.topics.Mode.{Mode}
use Rattle.pulsar_wire.specs.declared.commands.topics.Mode.TheVariants.{Persistent, NonPersistent, All}
use Rattle.pulsar_wire.specs.declared.error.IoKind.{IoKind}
use Rattle.pulsar_wire.specs.declared.error.IoKind.TheVariants.{ConnectionRefused, TimedOut, Other}

-- true or false
abbrev pub flag : List ℕ → Option Bool
flag word =
    if bytes_eq word (codes "true") then Some true
    else if bytes_eq word (codes "false") then Some false
    else None

-- which topics of a namespace
abbrev pub mode : List ℕ → Option Mode
mode word =
    if bytes_eq word (codes "persistent") then Some Persistent
    else if bytes_eq word (codes "non-persistent") then Some NonPersistent
    else if bytes_eq word (codes "all") then Some All
    else None

-- how the consumers of a subscription share its messages
abbrev pub sub_type : List ℕ → Option SubType
sub_type word =
    if bytes_eq word (codes "exclusive") then Some Exclusive
    else if bytes_eq word (codes "shared") then Some Shared
    else if bytes_eq word (codes "failover") then Some Failover
    else if bytes_eq word (codes "key-shared") then Some KeyShared
    else None

-- where a new subscription begins: behind the last message, or at the first
abbrev pub position : List ℕ → Option InitialPosition
position word =
    if bytes_eq word (codes "latest") then Some Latest
    else if bytes_eq word (codes "earliest") then Some Earliest
    else None

-- all up to the message, or each by itself
abbrev pub cumulative : List ℕ → Option Bool
cumulative word =
    if bytes_eq word (codes "individual") then Some false
    else if bytes_eq word (codes "cumulative") then Some true
    else None

-- why a connection could not be opened
abbrev pub kind : List ℕ → Option IoKind
kind word =
    if bytes_eq word (codes "refused") then Some ConnectionRefused
    else if bytes_eq word (codes "timedout") then Some TimedOut
    else if bytes_eq word (codes "other") then Some Other
    else None
