use Rattle.std.proofs.Common.{sym, ap, refl, subst, []}
use Rattle.std.specs.BTreeMap.{is_at}
use Rattle.std.specs.Map.{lookup}
use Rattle.std.specs.Ordering.{nat_cmp}
use Rattle.pulsar_frame.proofs.Streams.{left-nil}
use Rattle.pulsar_broker.specs.History.{frames, given, state}
use Rattle.pulsar_broker.specs.Stands.{ReadsOn}
use Rattle.pulsar_broker.proofs.broker.Broker.new.Goals as goal

pub returns : goal.returns
unfolding given frames state
returns c =
    record {
      named = c.in_ok-from_str.ensures.ok;
      reads = λ l. subst (λ o. ReadsOn o []) (sym (ap (λ es. lookup (is_at (nat_cmp l)) es) c.new.ensures.empty)) left-nil;
      keeps = c.new-3.ensures.state;
      kept = c.new-3.ensures.kept;
      owes = λ l. sym (c.new-2.ensures l);
      whole = refl;
    }
