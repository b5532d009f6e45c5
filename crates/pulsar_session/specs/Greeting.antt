-- The bytes that came, as the code keeps them: once more until the first frame is taken.
use Rattle.std.specs.Prelude.{◌≡◌, Some}
use Rattle.std.specs.Global.{Vec}
use Rattle.std.specs.Prelude.{ℕ}
use Rattle.pulsar_session.specs.declared.incoming.Incoming.TheInside.{Inside}

pub record IsGreeted (i : Inside) : Type 0 where
  pub same : (bytes : Vec ℕ) → i.greeting ≡ Some bytes → bytes.items ≡ i.reader
