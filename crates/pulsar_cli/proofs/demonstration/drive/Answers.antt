use Rattle.std.proofs.Common.{refl, []}
use Rattle.pulsar_cli.specs.Script.{defaults}
use Rattle.pulsar_cli.proofs.demonstration.drive.Goals as goal

pub returns : goal.returns
returns g c = λ keeps is_good stands holds.
    let all = c.in_ok-go.ensures keeps [] (record { client = stands; holds = holds }) in
    let counts = all.1.holds.counts in
    record {
      history = all.0;
      kept = all.1.holds.kept;
      demo = record {
        good = is_good all.0 (g.met.M.Machine.legal (defaults []) c.go.new.client all.0 all.1.client);
        ordered = all.2 refl;
        answered = all.1.holds.answered;
        sent = counts.sent;
        received = counts.received;
        bytes = counts.bytes;
        acked = counts.acked;
      };
    }
