-- What a pump, and each of its rounds, does: between two ends, each of which is what was made so far, what the submitter tells, what the half
-- tells of its bytes, and the half's count of faults.
use Rattle.std.specs.Prelude.{◌≡◌, ℕ, ◌≤◌, ◌++◌, ◌⊎◌, Bool, true, false, List, [], ◌∷◌, Option, Result, Ok, Err, Some, None}
use Rattle.pulsar_wire.specs.declared.error.NoMemory.{NoMemory}
use Rattle.pulsar_calls.specs.Content.{Bytes, Drain, Lost}
use Rattle.pulsar_calls.specs.Content.{Shown}
use Rattle.pulsar_pumps.specs.declared.rounds.PumpEnd.{PumpEnd}
use Rattle.pulsar_pumps.specs.declared.rounds.PumpEnd.TheVariants as pump_end
use Rattle.pulsar_pumps.specs.declared.rounds.Put.{Put}
use Rattle.pulsar_pumps.specs.declared.rounds.Put.TheVariants as put
use Rattle.pulsar_pumps.specs.Made.{Made, Names, lost_in, pieces, writes_in, written}
use Rattle.pulsar_pumps.specs.Outside.{Grows, Rose}

pub record End : Type 0 where
  pub made : List Made
  pub told : Option (List Made)
  pub bytes : Option (List ℕ)
  pub faults : ℕ

abbrev pub end : List Made → Option (List Made) → Option (List ℕ) → ℕ → End
end made told bytes faults = record { made = made; told = told; bytes = bytes; faults = faults }

-- What was made more names the link, and is what the submitter's list grew by. Its pieces are what the input gave, but for a rest. A Lost is among
-- it only where the count of faults rose.
pub record RanIn (link : ℕ) (s t : End) (more : List Made) (rest : List ℕ) : Type 0 where
  pub made : t.made ≡ s.made ++ more
  pub names : Names link more
  pub told : Grows s.told t.told more
  pub bytes : Grows s.bytes t.bytes (pieces more ++ rest)
  pub lost : lost_in more ≡ true → Rose s.faults t.faults
  pub faults : s.faults ≤ t.faults

-- What was made more names the link, and is what the submitter's list grew by. What was put is the bytes of its Writes, but for a rest, which is
-- there only where the count of faults rose. A Lost is among it only where that count rose.
pub record RanOut (link : ℕ) (s t : End) (more : List Made) (rest : List ℕ) : Type 0 where
  pub put : List ℕ
  pub made : t.made ≡ s.made ++ more
  pub names : Names link more
  pub told : Grows s.told t.told more
  pub writes : written more ≡ put ++ rest
  pub bytes : Grows s.bytes t.bytes put
  pub cut : (rest ≡ []) ⊎ Rose s.faults t.faults
  pub lost : lost_in more ≡ true → Rose s.faults t.faults
  pub faults : s.faults ≤ t.faults

-- ROUNDS

-- what a round in has made where it answers so
abbrev pub MadeIn : ℕ → Option PumpEnd → List Made → Type 0
MadeIn l (Some pump_end.LinkEnded) ms = ms ≡ []
MadeIn l (Some pump_end.Lost) ms = (m : Made) × (ms ≡ m ∷ []) × (m.event ≡ Lost l)
MadeIn l (Some pump_end.Idle) ms = ⊥
MadeIn l None ms = (m : Made) × (piece : List ℕ) × (ms ≡ m ∷ []) × (m.event ≡ Bytes l piece)

-- what a round out has made where it answers so, and what is left of the bytes of its Write
abbrev pub MadeOut : ℕ → Option PumpEnd → List Made → List ℕ → Type 0
MadeOut l (Some pump_end.LinkEnded) ms rest = (ms ≡ []) × (rest ≡ [])
MadeOut l (Some pump_end.Lost) ms rest = (d : Made) × (m : Made) × (ms ≡ d ∷ m ∷ []) × (d.event ≡ Drain l 1) × (m.event ≡ Lost l)
MadeOut l (Some pump_end.Idle) ms rest = (d : Made) × (ms ≡ d ∷ []) × (d.event ≡ Drain l 1) × (writes_in d.effects ≡ false) × (rest ≡ [])
MadeOut l None ms rest = (d : Made) × (ms ≡ d ∷ []) × (d.event ≡ Drain l 1) × (writes_in d.effects ≡ true) × (rest ≡ [])

abbrev pub RoundIn : ℕ → End → End → Result (Option PumpEnd) NoMemory → Type 0
RoundIn l s t (Ok r) = (more : List Made) × RanIn l s t more [] × MadeIn l r more
RoundIn l s t (Err e) = (more : List Made) × (rest : List ℕ) × RanIn l s t more rest

abbrev pub RoundOut : ℕ → End → End → Result (Option PumpEnd) NoMemory → Type 0
RoundOut l s t (Ok r) = (more : List Made) × (rest : List ℕ) × RanOut l s t more rest × MadeOut l r more rest
RoundOut l s t (Err e) = (more : List Made) × (rest : List ℕ) × RanOut l s t more rest

-- it answers that the link has ended
abbrev pub is_ended : PumpEnd → Bool
is_ended pump_end.LinkEnded = true
is_ended pump_end.Lost = false
is_ended pump_end.Idle = false

abbrev pub says_ended : Option PumpEnd → Bool
says_ended (Some e) = is_ended e
says_ended None = false

-- it answers that nothing more is written to the link
abbrev pub is_last : PumpEnd → Bool
is_last pump_end.LinkEnded = true
is_last pump_end.Lost = true
is_last pump_end.Idle = false

abbrev pub says_last : Option PumpEnd → Bool
says_last (Some e) = is_last e
says_last None = false

-- it answers that nothing is there to write
abbrev pub is_idle : PumpEnd → Bool
is_idle pump_end.LinkEnded = false
is_idle pump_end.Lost = false
is_idle pump_end.Idle = true

-- PUMPS

abbrev pub is_loss : PumpEnd → Bool
is_loss pump_end.LinkEnded = false
is_loss pump_end.Lost = true
is_loss pump_end.Idle = false

-- only behind a loss something may be left of what was to be written
abbrev pub LeftAt : PumpEnd → List ℕ → Type 0
LeftAt pump_end.LinkEnded rest = rest ≡ []
LeftAt pump_end.Lost rest = Unit {0}
LeftAt pump_end.Idle rest = rest ≡ []

-- the last event is a Lost, and none before it is
abbrev pub EndsLost : ℕ → List Made → Type 0
EndsLost l ms = (before : List Made) × (m : Made) × (ms ≡ before ++ m ∷ []) × (m.event ≡ Lost l) × (lost_in before ≡ false)

-- the last event is a Drain that wrote nothing
abbrev pub EndsDry : ℕ → List Made → Type 0
EndsDry l ms = (before : List Made) × (d : Made) × (ms ≡ before ++ d ∷ []) × (d.event ≡ Drain l 1) × (writes_in d.effects ≡ false)

-- how what a pump has made ends where it answers so
abbrev pub LastIn : ℕ → PumpEnd → List Made → Type 0
LastIn l pump_end.LinkEnded ms = Unit {0}
LastIn l pump_end.Lost ms = EndsLost l ms
LastIn l pump_end.Idle ms = ⊥

abbrev pub LastOut : ℕ → PumpEnd → List Made → Type 0
LastOut l pump_end.LinkEnded ms = Unit {0}
LastOut l pump_end.Lost ms = EndsLost l ms
LastOut l pump_end.Idle ms = EndsDry l ms

abbrev pub PumpIn : ℕ → End → End → Result PumpEnd NoMemory → Type 0
PumpIn l s t (Ok e) = (more : List Made) × RanIn l s t more [] × (lost_in more ≡ is_loss e) × LastIn l e more
PumpIn l s t (Err e) = (more : List Made) × (rest : List ℕ) × RanIn l s t more rest

abbrev pub PumpOut : ℕ → End → End → Result PumpEnd NoMemory → Type 0
PumpOut l s t (Ok e) = (more : List Made) × (rest : List ℕ) × RanOut l s t more rest × (lost_in more ≡ is_loss e) × LeftAt e rest × LastOut l e more
PumpOut l s t (Err e) = (more : List Made) × (rest : List ℕ) × RanOut l s t more rest

-- FOR THE CODE'S CONTRACTS ALONE

abbrev pub says_loss : Option PumpEnd → Bool
says_loss (Some e) = is_loss e
says_loss None = false

abbrev pub LeftAfter : Option PumpEnd → List ℕ → Type 0
LeftAfter (Some e) rest = LeftAt e rest
LeftAfter None rest = rest ≡ []

abbrev pub LastAfter : ℕ → Option PumpEnd → List Made → Type 0
LastAfter l (Some e) ms = LastOut l e ms
LastAfter l None ms = Unit {0}

abbrev pub says_idle : Option PumpEnd → Bool
says_idle (Some e) = is_idle e
says_idle None = false

-- a round, and the wait behind it
abbrev pub TurnOut : ℕ → End → End → Result (Option PumpEnd) NoMemory → Type 0
TurnOut l s t (Ok r) = (more : List Made) × (rest : List ℕ) × RanOut l s t more rest × (lost_in more ≡ says_loss r) × LeftAfter r rest × LastAfter l r more
TurnOut l s t (Err e) = (more : List Made) × (rest : List ℕ) × RanOut l s t more rest

-- of these bytes were put: all but a rest
pub record Puts (old new : Option (List ℕ)) (before after : ℕ) (bytes rest : List ℕ) : Type 0 where
  pub put : List ℕ
  pub all : bytes ≡ put ++ rest
  pub grows : Grows old new put
  pub faults : before ≤ after

-- what became of the bytes of these effects
abbrev pub PutEnds : Put → List Shown → ℕ → ℕ → List ℕ → Type 0
PutEnds put.Failed out before after rest = Rose before after
PutEnds put.All out before after rest = (rest ≡ []) × (writes_in out ≡ true)
PutEnds put.Nothing out before after rest = (rest ≡ []) × (writes_in out ≡ false)

-- a Drain was submitted, and the bytes of its Writes were put
abbrev pub Drained : ℕ → End → End → Result Put NoMemory → Type 0
Drained l s t (Ok p) = (d : Made) × (rest : List ℕ) × RanOut l s t (d ∷ []) rest × (d.event ≡ Drain l 1) × PutEnds p d.effects s.faults t.faults rest
Drained l s t (Err e) = RanOut l s t [] []
