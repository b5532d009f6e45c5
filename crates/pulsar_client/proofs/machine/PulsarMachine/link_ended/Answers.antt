use Rattle.pulsar_client.proofs.machine.PulsarMachine.link_ended.Goals as goal

pub returns : goal.returns
returns g c = λ o h s good. c.link_ended.ensures o h s.0 s.1 good
