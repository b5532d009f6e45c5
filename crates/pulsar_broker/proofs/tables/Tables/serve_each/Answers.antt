use Rattle.std.proofs.Common.{◌≡◌, ◌∙◌, ◌<◌, ◌+◌, ◌∷◌, subst, ℕ, List, drop, length, get_or, add-one, drop-cons}
use Rattle.pulsar_broker.specs.Kept.{owed_on, state_in}
use Rattle.pulsar_broker.specs.State.{serve_all}
use Rattle.pulsar_broker.proofs.Turns.{AreServing, served_one}
use Rattle.pulsar_broker.proofs.tables.Tables.serve_each.Goals as goal

pub loop-seat-preserved : goal.loop-seat-preserved
loop-seat-preserved c =
    let seats = c.args.seats.now in
    let i = c.loop-seat.seat-index in
    let lt : i < length seats = c.loop-seat-test.true in
    let here : drop i seats ≡ get_or seats i 0 ∷ drop (i + 1) seats = rw add-one (drop-cons seats i 0 lt) in
    let whole = serve_all seats (state_in c.args.self.now) in
    let P : List ℕ → Type 0 = λ left. AreServing left (state_in c.loop-seat.self) (owed_on c.loop-seat.out) whole (owed_on c.args.out.now) in
    record {
      serving = served_one (get_or seats i 0) (drop (i + 1) seats) (state_in c.loop-seat.self) (state_in c.serve.new.self) (owed_on c.loop-seat.out) (owed_on c.serve.new.out) whole (owed_on c.args.out.now)
          c.in_ok-serve.ensures.after c.in_ok-serve.ensures.given (subst P here c.loop-seat.invariant.serving);
      listed = λ name k. c.in_ok-serve.ensures.listed name k ∙ c.loop-seat.invariant.listed name k;
    }
