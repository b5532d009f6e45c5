use Rattle.pulsar_client.proofs.machine.PulsarMachine.link_waits.Goals as goal

pub returns : goal.returns
returns g c = λ o h s good. c.link_waits.ensures o h s.0 s.1 good
