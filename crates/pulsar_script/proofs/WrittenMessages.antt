-- Messages with a `/` between two are read back.
use Rattle.std.proofs.Common.{◌≡◌, ℕ, ◌<◌, ◌∙◌, ap, List, [], ◌∷◌, ◌++◌, refl, arith, false, map, Some, length, codes, append_assoc}
use Rattle.std.specs.List.{All as Each, AllByRecursion, slice_split}
use Rattle.std.specs.Option.{option_to_list}
use Rattle.std.specs.Str.{bytes_eq}
use Rattle.std.proofs.lemmas.List.Elements.{All-cons, All-nil}
use Rattle.std.proofs.lemmas.List.Splits.{slice_split_at, slice_split_none}
use Rattle.std.specs.Fmt.{decimal}
use Rattle.pulsar_messages.specs.Content.{ProducerMessageValues}
use Rattle.pulsar_grammar.specs.MessageWords.{all_messages, messages, with_message}
use Rattle.pulsar_printing.specs.WordText.{word}
use Rattle.pulsar_script.specs.WrittenRaw.{CanBeSent, message_words, messages_words, property_word, signed_word}
use Rattle.pulsar_script.proofs.WrittenLines.{IsWithinWord}
use Rattle.pulsar_script.proofs.WrittenRaw.{all-both, message-reads, message-said, tested-within}

-- A word is no `/`.
abbrev IsNoSlash : List ℕ → Type 0
IsNoSlash w = bytes_eq w (codes "/") ≡ false

every : {A : Type 0} (f : A → List ℕ) → ((x : A) → IsNoSlash (f x)) → (xs : List A) → AllByRecursion IsNoSlash (map f xs)
every f each-one [] = tt
every f each-one (x ∷ xs) = (each-one x, every f each-one xs)

-- no word of a message is one
no-slash : (m : ProducerMessageValues) → AllByRecursion IsNoSlash (message_words m)
no-slash m = (
  refl,
  all-both IsNoSlash _ _ (all-both IsNoSlash _ _ (all-both IsNoSlash _ _ (all-both IsNoSlash _ _ (all-both IsNoSlash _ _ (all-both IsNoSlash _ _
      (every property_word (λ p. refl) m.properties)
      (every (λ t. codes "pk=" ++ word t) (λ t. refl) (option_to_list m.partition_key)))
      (every (λ t. codes "ok=" ++ word t) (λ t. refl) (option_to_list m.ordering_key)))
      (every (λ t. codes "rep=" ++ word t) (λ t. refl) m.replicate_to))
      (every (λ n. codes "et=" ++ decimal n) (λ n. refl) (option_to_list m.event_time)))
      (every (λ t. codes "sv=" ++ word t) (λ t. refl) (option_to_list m.schema_version)))
      (every (λ z. codes "at=" ++ signed_word z) (λ z. refl) (option_to_list m.deliver_at_time)),
)

each-of : (ws : List (List ℕ)) → AllByRecursion IsNoSlash ws → Each IsNoSlash ws
each-of [] h = All-nil IsNoSlash
each-of (w ∷ ws) h = All-cons IsNoSlash w ws h.0 (each-of ws h.1)

pub messages-within : (ms : List ProducerMessageValues) → AllByRecursion CanBeSent ms → AllByRecursion IsWithinWord (messages_words ms)
messages-within [] can = tt
messages-within (m ∷ []) can = (message-said m can.0).within
messages-within (m ∷ n ∷ ms) can =
    all-both IsWithinWord (message_words m) (codes "/" ∷ messages_words (n ∷ ms)) (message-said m can.0).within
    (tested-within (codes "/") refl, messages-within (n ∷ ms) can.1)

-- behind messages that were read
behind : (read : List ProducerMessageValues) (ms : List ProducerMessageValues) → AllByRecursion CanBeSent ms → 0 < length ms →
    all_messages (Some read) (slice_split (λ w. bytes_eq w (codes "/")) (messages_words ms)) ≡ Some (read ++ ms)
behind read [] can some = absurd (omega (arith, some))
behind read (m ∷ []) can some =
    ap (all_messages (Some read)) (slice_split_none (λ w. bytes_eq w (codes "/")) (message_words m) (each-of (message_words m) (no-slash m)))
    ∙ rw (message-reads m can.0) refl
behind read (m ∷ n ∷ ms) can some =
    ap (all_messages (Some read)) (slice_split_at (λ w. bytes_eq w (codes "/")) (message_words m) (codes "/") (messages_words (n ∷ ms)) (each-of (message_words m) (no-slash m)) refl)
    ∙ ap (λ o. all_messages (o) (slice_split (λ w. bytes_eq w (codes "/")) (messages_words (n ∷ ms)))) (read-one read m can.0)
    ∙ behind (read ++ m ∷ []) (n ∷ ms) can.1 (omega arith)
    ∙ ap (λ (ts : List ProducerMessageValues). Some ts) (append_assoc read (m ∷ []) (n ∷ ms))
  where
    read-one : (read : List ProducerMessageValues) (m : ProducerMessageValues) → CanBeSent m → with_message (Some read) (message_words m) ≡ Some (read ++ m ∷ [])
    read-one read m can = rw (message-reads m can) refl

pub messages-read : (ms : List ProducerMessageValues) → AllByRecursion CanBeSent ms → 0 < length ms → messages (messages_words ms) ≡ Some ms
messages-read ms can some = behind [] ms can some
