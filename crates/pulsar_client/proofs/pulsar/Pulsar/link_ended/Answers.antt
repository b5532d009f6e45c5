use Rattle.std.proofs.Common.{◌∙◌, ap}
use Rattle.pulsar_links.specs.Seats.{has_ended}
use Rattle.pulsar_client.proofs.Stepping.{seen_of}
use Rattle.pulsar_client.proofs.pulsar.Pulsar.link_ended.Goals as goal

pub returns : goal.returns
returns g c = λ o h taken s run. c.has_ended.ensures ∙ ap (λ v. has_ended c.args.link v.links) (seen_of c.args.self.now.tables s.stands run)
