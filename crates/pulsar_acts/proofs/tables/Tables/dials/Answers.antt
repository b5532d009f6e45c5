use Rattle.std.proofs.Common.{◌∙◌, ◌==◌, ap, cond, sym, Some}
use Rattle.pulsar_links.specs.Kept.{pause_at}
use Rattle.pulsar_acts.specs.Tables.{view_of}
use Rattle.pulsar_links.specs.Seats.{seat_of_fresh}
use Rattle.pulsar_acts.proofs.Linking.{dialed_is}
use Rattle.pulsar_acts.proofs.Turned.{both}
use Rattle.pulsar_acts.proofs.tables.Tables.dials.Goals as goal

pub returns-clause-sees : goal.returns-clause-sees
returns-clause-sees c =
    let v = view_of c.args.self.now in
    let link = v.links.started in
    let dials = c.in_ok-dial.ensures in
    both c.start.result
    (λ started live. λ i. record v {
      links = record {
        started = started i;
        live = λ k.
            (live k ∙ ap (λ seen. cond (k == link) (Some (seat_of_fresh c.args.address v.now seen)) (v.links.live k)) c.in_ok-connection.ensures
            ∙ sym (dialed_is v c.args.address c.args.starter c.args.retries k (v.links.live k))) i;
      };
      addresses = record { base = λ key. dials.bases key i; pause = pause_at (dials.pauses i) };
    })
    c.start.ensures.started c.start.ensures.live
