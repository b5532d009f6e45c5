use Rattle.std.proofs.Common.{◌≡◌, ◌∙◌, ap, sym, true, inl, inr}
use Rattle.std.proofs.lemmas.Result.{on_ok_weaker}
use Rattle.pulsar_addresses.specs.Address.{is_reachable}
use Rattle.pulsar_links.specs.Kept.{pause_at}
use Rattle.pulsar_acts.specs.Tables.{view_of}
use Rattle.pulsar_acts.proofs.Getting.{get_served, get_waits, serves}
use Rattle.pulsar_acts.proofs.tables.Tables.gets.Goals as goal

pub returns-in_ok-wait-in-Nobody-clause-sees : goal.returns-in_ok-wait-in-Nobody-clause-sees
returns-in_ok-wait-in-Nobody-clause-sees c =
    let v = view_of c.args.self.now in
    let reaches : is_reachable c.args.address ≡ true = sym c.is_reachable.ensures ∙ c.if-not-is_reachable.false in
    let waits = c.in_ok-wait-in-Nobody.ensures in
    on_ok_weaker c.put.result (λ put.
    (λ i. record v { addresses = record { base = λ key. waits.bases key i; pause = λ l. pause_at (waits.pauses i) l } })
    ∙ get_waits v c.args.who c.args.address reaches (ap serves (sym c.in_ok-series.ensures ∙ c.in-Nobody.is))) c.put.ensures

pub returns-in_ok-wait-in-Runs-clause-sees : goal.returns-in_ok-wait-in-Runs-clause-sees
returns-in_ok-wait-in-Runs-clause-sees c =
    let v = view_of c.args.self.now in
    let reaches : is_reachable c.args.address ≡ true = sym c.is_reachable.ensures ∙ c.if-not-is_reachable.false in
    let waits = c.in_ok-wait-in-Runs.ensures in
    (λ i. record v { addresses = record { base = λ key. waits.bases key i; pause = λ l. pause_at (waits.pauses i) l } })
    ∙ get_waits v c.args.who c.args.address reaches (ap serves (sym c.in_ok-series.ensures) ∙ elim c.in-Runs.is [ inl e ↦ ap serves e.3 | inr e ↦ ap serves e.1 ])

pub returns-in_ok-got-in-Serves-clause-sees : goal.returns-in_ok-got-in-Serves-clause-sees
returns-in_ok-got-in-Serves-clause-sees c =
    let v = view_of c.args.self.now in
    let reaches : is_reachable c.args.address ≡ true = sym c.is_reachable.ensures ∙ c.if-not-is_reachable.false in
    let got = c.in_ok-got-in-Serves.ensures in
    on_ok_weaker c.tell-in-Serves.result (λ told.
    (λ i. record v { links = record { started = got.started i; live = λ l. got.live l i } })
    ∙ get_served v c.args.who c.args.address c.in-Serves.link reaches (sym c.in_ok-series.ensures ∙ c.in-Serves.is)) c.tell-in-Serves.ensures
