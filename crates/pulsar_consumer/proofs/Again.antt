-- The ids that are kept are those that are due at some moment, and a check names just those that are due.
use Rattle.std.proofs.Common.{◌≡◌, ◌∙◌, sym, ap, refl, ℕ, ◌+◌, ◌&&◌, Bool, true, false, cond, List, [], ◌∷◌, ◌++◌, length, drop, Option, Some, None}
use Rattle.std.proofs.lemmas.List.{append_assoc, drop_at}
use Rattle.std.specs.List.{list_any}
use Rattle.std.specs.List.Sorted.{IsStrictlySortedBy}
use Rattle.std.specs.Map.{lookup}
use Rattle.std.specs.Option.{is_some}
use Rattle.pulsar_wire.specs.Sink.{capped}
use Rattle.pulsar_wire.specs.Orders.{id_order}
use Rattle.pulsar_consumer.specs.Items.{Item}
use Rattle.pulsar_consumer.specs.Redelivery.{Id, Kept, due_at, due_before, is_due_before, is_early, is_same_id, keep_all}
use Rattle.pulsar_consumer.specs.Topic.{Act, Seen, Setup, is_ended, link_of, seen}
use Rattle.pulsar_consumer.specs.Laws.{ChecksNameTheDue, KeptAreDue, due_of, given, given_by, is_forgotten_by, is_one_of, moment, placed, placed_by}
use Rattle.pulsar_consumer.proofs.Checking.{moments_are_told}
use Rattle.pulsar_consumer.proofs.Due.{found_placed, kept_none}
use Rattle.pulsar_consumer.proofs.Keeping.{due_is, sorted_filter}
use Rattle.pulsar_consumer.proofs.Named.{Moves, delays, keeps_none, moves_after, none_ordered, ordered, placed_is}

module _ (s : Setup) where
  placed_more : (act : Act) (h : List Act) (m : Moves act (seen s h) (seen s (act ∷ h))) → placed_by s act h ≡ m.more
  placed_more act h m =
      ap (λ xs. drop (length (placed s h)) xs)
      (placed_is s (act ∷ h)
      ∙ append_assoc (given s h) (given_by act (seen s h)) (seen s (act ∷ h)).engine.unread
      ∙ ap (λ xs. given s h ++ xs) m.items
      ∙ sym (append_assoc (given s h) (seen s h).engine.unread m.more)
      ∙ ap (λ xs. xs ++ m.more) (sym (placed_is s h)))
      ∙ drop_at (placed s h) m.more (length (placed s h)) refl

  -- with a delay or without
  due_so : (delay : Option ℕ) (clock : ℕ) (more : List Item) (base : Kept) (id : Id) → (delay ≡ None → lookup (is_same_id id) base ≡ None) →
      lookup (is_same_id id) (keep_all (due_at delay clock) more base) ≡ cond (is_one_of id more) (due_at delay clock) (lookup (is_same_id id) base)
  due_so None clock more base id none =
      ap (lookup (is_same_id id)) (kept_none more base) ∙ none refl
      ∙ sym (ap (λ x. cond (is_one_of id more) None x) (none refl) ∙ either_none (is_one_of id more))
    where
      either_none : (b : Bool) → cond {A = Option ℕ} b None None ≡ None
      either_none true = refl
      either_none false = refl
  due_so (Some delay) clock more base id none = found_placed id (capped (clock + delay)) more base

  gone : (b : Bool) → cond {A = Option ℕ} b None None ≡ None
  gone true = refl
  gone false = refl

  due_step : (act : Act) (h : List Act) (id : Id) → lookup (is_same_id id) (seen s h).engine.kept ≡ due_of s h id →
      lookup (is_same_id id) (seen s (act ∷ h)).engine.kept ≡ due_of s (act ∷ h) id
  due_step act h id before = by (is_ended w) refl
    where
      v : Seen
      v = seen s h

      w : Seen
      w = seen s (act ∷ h)

      by : (b : Bool) → is_ended w ≡ b →
          lookup (is_same_id id) w.engine.kept
          ≡ cond b None
          (cond (is_one_of id (placed_by s act h)) (due_at s.config.unacked_message_redelivery_delay (moment s (act ∷ h)))
          (cond (is_forgotten_by act v id (due_of s h id)) None (due_of s h id)))
      by true aye =
          let none : w.engine.delay ≡ None = delays s (act ∷ h) ∙ ap (λ b. cond b None s.config.unacked_message_redelivery_delay) aye in
          ap (lookup (is_same_id id)) (keeps_none s (act ∷ h) none)
      by false nay =
          let m = moves_after act v (ordered s h) nay in
          let delay : w.engine.delay ≡ s.config.unacked_message_redelivery_delay =
          delays s (act ∷ h) ∙ ap (λ b. cond b None s.config.unacked_message_redelivery_delay) nay in
          ap (lookup (is_same_id id)) m.kept
          ∙ due_so w.engine.delay w.engine.clock m.more m.base id
          (λ none. m.others id ∙ ap (λ x. cond (is_forgotten_by act v id x) None x) (ap (lookup (is_same_id id)) (keeps_none s h (earlier none)))
          ∙ gone (is_forgotten_by act v id None))
          ∙ ap (λ xs. cond (is_one_of id xs) (due_at w.engine.delay w.engine.clock) (lookup (is_same_id id) m.base)) (sym (placed_more act h m))
          ∙ ap (λ d. cond (is_one_of id (placed_by s act h)) (due_at d w.engine.clock) (lookup (is_same_id id) m.base)) delay
          ∙ ap (λ c. cond (is_one_of id (placed_by s act h)) (due_at s.config.unacked_message_redelivery_delay c) (lookup (is_same_id id) m.base))
          (moments_are_told s (act ∷ h))
          ∙ ap (λ x. cond (is_one_of id (placed_by s act h)) (due_at s.config.unacked_message_redelivery_delay (moment s (act ∷ h))) x)
          (m.others id ∙ ap (λ x. cond (is_forgotten_by act v id x) None x) before)
        where
          -- it had no delay before, where it has none now
          had_none : (b : Bool) → is_ended v ≡ b → v.engine.delay ≡ cond b None s.config.unacked_message_redelivery_delay → w.engine.delay ≡ None →
              v.engine.delay ≡ None
          had_none true aye d none = d
          had_none false aye d none = d ∙ sym (delays s (act ∷ h) ∙ ap (λ b. cond b None s.config.unacked_message_redelivery_delay) nay) ∙ none

          earlier : w.engine.delay ≡ None → v.engine.delay ≡ None
          earlier none = had_none (is_ended v) refl (delays s h) none

  due_is_so : (h : List Act) (id : Id) → lookup (is_same_id id) (seen s h).engine.kept ≡ due_of s h id
  due_is_so [] id = refl
  due_is_so (act ∷ h) id = due_step act h id (due_is_so h id)

pub kept_are_due : KeptAreDue
kept_are_due s h = (ordered s h, due_is_so s h)

pub checks_name_the_due : ChecksNameTheDue
checks_name_the_due s h clock = by (is_some (link_of v))
  where
    v : Seen
    v = seen s h

    by : (b : Bool) → IsStrictlySortedBy id_order (cond b (due_before clock v.engine.kept) [])
        × ((id : Id) → list_any (is_same_id id) (cond b (due_before clock v.engine.kept) []) ≡ (b && is_early clock (due_of s h id)))
    by true = (
      sorted_filter (is_due_before clock) v.engine.kept (ordered s h),
      λ id. due_is clock v.engine.kept (ordered s h) id ∙ ap (is_early clock) (due_is_so s h id),
    )
    by false = (none_ordered, λ id. refl)
