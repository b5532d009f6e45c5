use Rattle.std.proofs.Common.{◌∙◌, ap, sym, refl, Some}
use Rattle.pulsar_acts.specs.Tables.{view_of}
use Rattle.pulsar_client.proofs.Waiting.{busy_waits, dialing_waits, handshaking_waits, idle_waits, none_waits, over_waits, right_of}
use Rattle.pulsar_client.proofs.pulsar.Pulsar.link_waits.Goals as goal

pub returns-in-Some-Handshaking : goal.returns-in-Some-Handshaking
returns-in-Some-Handshaking g c = λ o h taken s run.
    let t = c.args.self.now.tables in
    right_of t c.args.link _ (handshaking_waits (view_of t) c.args.link _ (sym c.stage.ensures ∙ c.in-Some-Handshaking.is ∙ ap Some c.in-Some-Handshaking.field-0-is) refl) s.stands run

pub returns-then-is_busy : goal.returns-then-is_busy
returns-then-is_busy g c = λ o h taken s run.
    let t = c.args.self.now.tables in
    right_of t c.args.link _
    (busy_waits (view_of t) c.args.link _ (sym c.stage.ensures ∙ c.in-Some-Ready.is ∙ ap Some c.in-Some-Ready.field-0-is) (sym c.is_busy.ensures ∙ c.if-is_busy.true) c.if-is_busy.true)
    s.stands run

pub returns-else-is_busy : goal.returns-else-is_busy
returns-else-is_busy g c = λ o h taken s run.
    let t = c.args.self.now.tables in
    right_of t c.args.link _
    (idle_waits (view_of t) c.args.link _ (sym c.stage.ensures ∙ c.in-Some-Ready.is ∙ ap Some c.in-Some-Ready.field-0-is) (sym c.is_busy.ensures ∙ c.if-is_busy.false) c.hears_on.ensures.one)
    s.stands run

pub returns-in-Some-Dialing : goal.returns-in-Some-Dialing
returns-in-Some-Dialing g c = λ o h taken s run.
    let t = c.args.self.now.tables in
    right_of t c.args.link _ (dialing_waits (view_of t) c.args.link _ (sym c.stage.ensures ∙ c.in-Some-Dialing.is ∙ ap Some c.in-Some-Dialing.field-0-is) refl) s.stands run

pub returns-in-Some-Over : goal.returns-in-Some-Over
returns-in-Some-Over g c = λ o h taken s run.
    let t = c.args.self.now.tables in
    right_of t c.args.link _ (over_waits (view_of t) c.args.link _ (sym c.stage.ensures ∙ c.in-Some-Over.is ∙ ap Some c.in-Some-Over.field-0-is) refl) s.stands run

pub returns-in-None : goal.returns-in-None
returns-in-None g c = λ o h taken s run.
    let t = c.args.self.now.tables in
    right_of t c.args.link _ (none_waits (view_of t) c.args.link _ (sym c.stage.ensures ∙ c.in-None.is) refl) s.stands run
