use Rattle.std.proofs.Common.{◌≡◌, ◌++◌, ◌∷◌, take, length}
use Rattle.std.specs.Prelude.{string_bytes, codes}
use Rattle.std.specs.Fmt.{decimal}
use Rattle.std.specs.List.{flat_map}
use Rattle.pulsar_printing.proofs.effect.push_tickets.Given as goal

abbrev pub invariant-loop-ticket : goal.invariant-loop-ticket
invariant-loop-ticket l = string_bytes l.out ≡ string_bytes l.fn.out ++ (codes "ok sends " ++ decimal (length l.tickets) ++ flat_map (λ t. 32 ∷ decimal t) (take l.ticket-index l.tickets))
