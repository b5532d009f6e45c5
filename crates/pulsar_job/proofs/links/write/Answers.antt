use Rattle.std.proofs.Common.{ap, map, refl, subst}
use Rattle.pulsar_pumps.specs.Made.{made_of}
use Rattle.pulsar_pumps.specs.Pumping.{says_last}
use Rattle.pulsar_job.specs.Driven.{Learns, effects_made}
use Rattle.pulsar_job.specs.Links.{link_seen}
use Rattle.pulsar_job.proofs.Goings.{goes-out, still-writes}
use Rattle.pulsar_job.proofs.Tells.{told-grown}
use Rattle.pulsar_job.proofs.links.write.Goals as goal

pub returns : goal.returns
returns g c = λ w before behind.
    goes-out w _ _ _ _
    (link_seen g.I.Input.given g.I.Input.faults g.O.Output.taken g.O.Output.faults (c.args.link.now.number, c.args.link.now.input, c.args.link.now.output))
    c.args.link.now.writes c.goes_on-link.result (g.O.Output.taken c.round_out.new.output) (g.O.Output.faults c.round_out.new.output) c.in_ok-end.end
    (map made_of c.round_out.new.made.items) _ _ c.requires.writes (ap (map made_of) c.requires.none) refl refl refl refl refl (λ ms grows. told-grown _ _ ms grows)
    (subst (λ z. Learns (effects_made (map made_of z)) c.args.progress.now c.learn_all.new.progress) c.deref.ensures.value c.in_ok-learn_all.ensures)
    (still-writes c.goes_on-link.result (says_last c.in_ok-end.end) c.goes_on-link.ensures) c.in_ok-end.ensures.ran before behind
