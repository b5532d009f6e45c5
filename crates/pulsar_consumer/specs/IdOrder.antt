-- For the code's contracts alone: the order of ids is total.
use Rattle.std.specs.Cmp.{IsTotalOrder, int_cmp_total, nat_cmp_total, on_total, then_total}
use Rattle.std.specs.Cmp.Lexicographic.{lists_total, options_total}
use Rattle.pulsar_wire.specs.Orders.{id_order}

pub id_total : IsTotalOrder id_order
id_total =
    then_total
    (then_total
    (then_total
    (then_total
    (then_total (on_total (λ a. a.0) nat_cmp_total) (on_total (λ a. a.1.0) nat_cmp_total))
    (on_total (λ a. a.1.1.0) (options_total int_cmp_total)))
    (on_total (λ a. a.1.1.1.0) (options_total int_cmp_total)))
    (on_total (λ a. a.1.1.1.1.0) (lists_total int_cmp_total)))
    (on_total (λ a. a.1.1.1.1.1.0) (options_total int_cmp_total))
