use Rattle.std.proofs.Common.{◌≡◌, map, take}
use Rattle.pulsar_messages.specs.Content.{message_content}
use Rattle.pulsar_calls.proofs.event.copy_all.Given as goal

abbrev pub invariant-loop-message : goal.invariant-loop-message
invariant-loop-message l = map message_content l.copies.items ≡ map message_content (take l.message-index l.messages.items)
