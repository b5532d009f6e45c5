use Rattle.pulsar_acts.proofs.tables.Tables.welcomes.Goals as goal

pub returns-in-Readied-clause-sees : goal.returns-in-Readied-clause-sees
returns-in-Readied-clause-sees c = rw c.in-Readied.is c.readied.ensures.sees
