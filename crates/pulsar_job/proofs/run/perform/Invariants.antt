use Rattle.pulsar_job.proofs.run.perform.Given as goal

abbrev pub ghosts-drive : goal.ghosts-drive
ghosts-drive g a = record { given = g.C.Machine.given a.traced.client }
