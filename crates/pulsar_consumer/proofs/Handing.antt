-- An item that is handed out is as the crates below keep it.
use Rattle.std.proofs.Common.{◌≡◌, refl}
use Rattle.pulsar_frame.specs.Held as written
use Rattle.pulsar_frame.specs.declared.items.Unread.{Unread}
use Rattle.pulsar_frame.specs.declared.items.Unread.TheVariants.{Message, Failure}
use Rattle.pulsar_consumer.specs.Items.{handed}
use Rattle.pulsar_consumer.specs.KeptItem.{item_of}

pub handed_is : (x : Unread) → handed (item_of x) ≡ written.item_of x
handed_is (Message id payload) = refl
handed_is (Failure e) = refl
