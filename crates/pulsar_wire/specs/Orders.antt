-- The orders of ids and of request keys. Ids: by ledger, entry, partition, index in a batch, acknowledged entries and size
-- of the batch. An absent field comes first, and of two lists that agree the shorter one.
use Rattle.std.specs.Prelude.{ℕ}
use Rattle.std.specs.declared.cmp.Ordering.{Ordering}
use Rattle.std.specs.Ordering.{nat_cmp, int_cmp, ordering_then}
use Rattle.std.specs.Option.{option_cmp}
use Rattle.std.specs.Cmp.Lexicographic.{slice_cmp}
use Rattle.pulsar_wire.specs.declared.key.RequestKey.{RequestKey}
use Rattle.pulsar_wire.specs.declared.key.RequestKey.TheVariants.{RequestId, ProducerSend, Consumer, CloseConsumer, AuthChallenge}
use Rattle.pulsar_wire.specs.Row.{Values}
use Rattle.pulsar_wire.specs.Rows.{message_id}

infixl 5 ◌then◌
-- the first that tells two ids apart decides
abbrev pub ◌then◌ : Ordering → Ordering → Ordering
a then b = ordering_then a b

-- ids: the first field that differs decides
abbrev pub id_order : Values message_id → Values message_id → Ordering
id_order a b =
    nat_cmp a.0 b.0
    then nat_cmp a.1.0 b.1.0
    then option_cmp int_cmp a.1.1.0 b.1.1.0
    then option_cmp int_cmp a.1.1.1.0 b.1.1.1.0
    then slice_cmp int_cmp a.1.1.1.1.0 b.1.1.1.1.0
    then option_cmp int_cmp a.1.1.1.1.1.0 b.1.1.1.1.1.0

-- where the kind of a key stands among the kinds
abbrev pub kind_of : RequestKey → ℕ
kind_of (RequestId r) = 0
kind_of (ProducerSend p s) = 1
kind_of (Consumer c) = 2
kind_of (CloseConsumer c r) = 3
kind_of AuthChallenge = 4

-- keys: by their kind, and then by their numbers, in the order in which they stand
abbrev pub key_order : RequestKey → RequestKey → Ordering
key_order (RequestId a) (RequestId b) = nat_cmp a b
key_order (ProducerSend a b) (ProducerSend c d) = nat_cmp a c then nat_cmp b d
key_order (Consumer a) (Consumer b) = nat_cmp a b
key_order (CloseConsumer a b) (CloseConsumer c d) = nat_cmp a c then nat_cmp b d
key_order a b = nat_cmp (kind_of a) (kind_of b)
