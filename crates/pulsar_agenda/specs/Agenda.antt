-- What is left to do of a step, by the acts, notices and parts of a client, and how the code keeps it.
use Rattle.std.specs.Prelude.{List, Option}
use Rattle.pulsar_run.specs.Run as run
use Rattle.pulsar_calls.specs.declared.act.Act.{Act}
use Rattle.pulsar_calls.specs.declared.act.Act.TheVariants.{Comes, Told}
use Rattle.pulsar_calls.specs.declared.act.Notice.{Notice}
use Rattle.pulsar_calls.specs.declared.act.Part.{Part}
use Rattle.pulsar_agenda.specs.declared.agenda.Tasks.{Tasks}

abbrev pub Agenda : Type 0
Agenda = run.Agenda Act Notice Part

abbrev pub first_of : List Act → List Notice → List (List Notice) → List Part → Option Act
first_of now here behind parts = run.first_by Told Comes now here behind parts

abbrev pub rest_of : List Act → List Notice → List (List Notice) → List Part → Agenda
rest_of now here behind parts = run.rest_of now here behind parts

abbrev pub first : Agenda → Option Act
first g = first_of g.now g.here g.behind g.parts

abbrev pub rest : Agenda → Agenda
rest g = run.rest g

abbrev pub agenda_of : Tasks → Agenda
agenda_of t = record { now = t.now.items; here = t.here; behind = t.behind.items; parts = t.parts.items }
