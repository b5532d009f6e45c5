-- What an id gives to a hasher.  (The Rust reference library, std::hash::Hash, deriving: the fields in their order)
use Rattle.std.specs.Prelude.{ℕ, List, ◌++◌}
use Rattle.std.specs.Hash as fed
use Rattle.pulsar_wire.specs.Row.{Values}
use Rattle.pulsar_wire.specs.Rows.{message_id}

-- the writes of an id: its six fields, one behind the other
abbrev pub id_words : Values message_id → List (List ℕ)
id_words v =
    fed.u64 v.0 ++ (fed.u64 v.1.0 ++ (fed.option fed.i32 v.1.1.0 ++ (fed.option fed.i32 v.1.1.1.0 ++ (fed.slice fed.i64 v.1.1.1.1.0
    ++ fed.option fed.i32 v.1.1.1.1.1.0))))
