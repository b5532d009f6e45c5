-- What is seen of a source and of a sink.
use Rattle.std.specs.Prelude.{◌≡◌, ◌≤◌, ◌<◌, ℕ, List, [], ◌++◌, length, drop, Option, Some}
use Rattle.pulsar_streams.specs.Outside.{Rose}
use Rattle.pulsar_job.specs.declared.status.Stop.{Stop}
use Rattle.pulsar_job.specs.declared.status.Stop.TheVariants as stop

-- the most bytes that a source may have
abbrev pub limit : ℕ
limit = 268435456

-- What is seen of a source, or of a sink: what it has left, or holds, before and after, where it tells that, and how many
-- faults it has counted.
pub record Seen : Type 0 where
  pub before : Option (List ℕ)
  pub after : Option (List ℕ)
  pub faults_before : ℕ
  pub faults_after : ℕ

-- since what was seen first
abbrev pub since : {A : Type 0} → Option (List ℕ) → ℕ → (A → Option (List ℕ)) → (A → ℕ) → A → Seen
since first count content faults now = record { before = first; after = content now; faults_before = count; faults_after = faults now }

abbrev pub seen : {A : Type 0} → (A → Option (List ℕ)) → (A → ℕ) → A → A → Seen
seen content faults old new = since (content old) (faults old) content faults new

abbrev pub HasFault : Seen → Type 0
HasFault s = Rose s.faults_before s.faults_after

-- What a source had to give, and how many bytes of it were taken. One that tells its content says both.
pub record Given (source : Seen) : Type 0 where
  pub bytes : List ℕ
  pub count : ℕ
  pub within : count ≤ length bytes
  pub had : (all : List ℕ) → source.before ≡ Some all → all ≡ bytes
  pub has : (all : List ℕ) → source.before ≡ Some all → source.after ≡ Some (drop count bytes)

-- what a sink holds has grown by these bytes
abbrev pub Adds : Option (List ℕ) → Option (List ℕ) → List ℕ → Type 0
Adds old new t = (held : List ℕ) → old ≡ Some held → new ≡ Some (held ++ t)

-- it has grown by a front of these bytes
pub record AddsFront (old new : Option (List ℕ)) (t : List ℕ) : Type 0 where
  pub front : List ℕ
  pub back : List ℕ
  pub whole : t ≡ front ++ back
  pub adds : Adds old new front

-- FOR THE CODE'S CONTRACTS ALONE

-- these bytes were taken of a source's content
abbrev pub Gave : Option (List ℕ) → Option (List ℕ) → List ℕ → Type 0
Gave old new bytes = (all : List ℕ) → old ≡ Some all → (rest : List ℕ) × (all ≡ bytes ++ rest) × (new ≡ Some rest)

-- a source has come to its end
abbrev pub IsAtEnd : Option (List ℕ) → Option (List ℕ) → Type 0
IsAtEnd old new = (all : List ℕ) → old ≡ Some all → new ≡ Some []

-- why the reading of a source stopped, with the bytes that were taken
abbrev pub StopsBy : Stop → (old new : ℕ) → (count : ℕ) → Type 0
StopsBy stop.NoMemory old new n = n ≤ limit
StopsBy stop.Source old new n = Rose old new × (n ≤ limit)
StopsBy stop.TooLong old new n = limit < n

pub record Stopped (s : Stop) (source : Seen) : Type 0 where
  pub bytes : List ℕ
  pub gave : Gave source.before source.after bytes
  pub why : StopsBy s source.faults_before source.faults_after (length bytes)
