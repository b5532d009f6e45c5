-- What is said of seats.
use Rattle.std.specs.Prelude.{◌≡◌, ℕ, List}
use Rattle.pulsar_serial.specs.declared.rule.NumberSeat.{NumberSeat}
use Rattle.pulsar_serial.specs.declared.rule.SerialId.{SerialId}

-- the numbers that were drawn by it, and by those that it joined
abbrev pub drawn_by : NumberSeat → List ℕ
drawn_by s = s.seat.me.0.0

-- it has seen that all numbers below this one are drawn
abbrev pub seen_by : NumberSeat → ℕ
seen_by s = s.seat.me.0.1

abbrev pub Belongs : NumberSeat → SerialId → Type 0
Belongs s ids = s.seat.table_id ≡ ids.table.shared.table_id

-- the first number that is drawn
abbrev pub opening_of : SerialId → ℕ
opening_of ids = ids.table.shared.key
