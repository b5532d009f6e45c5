use Rattle.std.proofs.Common.{◌≡◌, [], Some, map, take}
use Rattle.std.specs.Option.{option_map}
use Rattle.pulsar_messages.specs.Content.{message_content}
use Rattle.pulsar_grammar.specs.MessageWords.{all_messages}
use Rattle.pulsar_grammar.proofs.message.all_messages.Given as goal

abbrev pub invariant-loop-part : goal.invariant-loop-part
invariant-loop-part l = option_map (λ v. map message_content v.items) l.messages ≡ all_messages (Some []) (map (λ p. map (λ w. w.now) p.now) (take l.part-index l.parts))
