-- Permits of every history: what remains of them stays in its bounds, and a raw consumer asks for none.
use Rattle.std.proofs.Common.{◌≡◌, ◌∙◌, sym, ap, refl, subst, ℕ, ◌≤◌, not, Bool, true, false, cond, List, [], ◌++◌, length, Option, Some, None, arith}
use Rattle.std.proofs.lemmas.List.{length-append}
use Rattle.std.specs.Option.{option_map}
use Rattle.url.specs.Parts.{Parts}
use Rattle.pulsar_consumer.specs.Items.{Item}
use Rattle.pulsar_consumer.specs.DeadLetters.{Letter}
use Rattle.pulsar_consumer.specs.Frames.{Frame}
use Rattle.pulsar_consumer.specs.Redelivery.{Id, Kept as KeptList}
use Rattle.pulsar_consumer.specs.Topic.{Act, Engine, Live, Setup, advances, asked, batch_size, half, is_finished, is_pending, no_items, no_letters, seen, subscribed}
use Rattle.pulsar_consumer.specs.Laws.{PermitsInBounds, RawAsksForNothing, left, queue}
use Rattle.pulsar_consumer.proofs.Held.{none_left, pending_no, some_in}
use Rattle.pulsar_consumer.proofs.Permits.{Bounded, InBounds, Quiet, Weightless, advances_bounded, advances_keeps, advances_quiet, asked_quiet, copied_so, failed_so, gives_so, hears_so, stops_so, subscribed_bounded, takes_so}
use Rattle.pulsar_consumer.proofs.Histories.{Kept, done_of, held_back, kept, left_is, pending_same, settled, sizes}

-- what an engine that grants permits keeps
abbrev pub Grants : ℕ → Engine → Type 0
Grants batch e = (e.batch ≡ Some batch) × InBounds batch e

abbrev Granting : ℕ → Engine → Type 0
Granting batch e = (e.batch ≡ Some batch) × Bounded batch e.live

lives_bounded : (o : Option ℕ) (batch link : ℕ) (url : Parts) → o ≡ Some batch →
    Bounded batch (Some (subscribed o link url)) × ((subscribed o link url).weight ≡ 0)
lives_bounded None batch link url is = absurd cc
lives_bounded (Some b) batch link url is =
    let same : b ≡ batch = cc in ((omega (arith, same), subst (λ n. half batch ≤ n) (sym same) (subscribed_bounded batch)), refl)

asked_bounded : (batch : ℕ) (l : Option Live) → Bounded batch l → Bounded batch (option_map asked l)
asked_bounded batch None all = tt
asked_bounded batch (Some l) all = all

asked_weightless : (l : Option Live) → Weightless l → Weightless (option_map asked l)
asked_weightless None all = tt
asked_weightless (Some l) all = all

grants_kept : (batch : ℕ) → Kept (Grants batch)
grants_kept batch =
    record {
      at_lives = λ d link url p. let two = lives_bounded d.batch batch link url p.0 in (p.0, (two.0, λ none. two.1));
      at_clock = λ clock d p. p;
      at_cut = λ d p. (p.0, (tt, λ none. tt));
      at_shut = λ d p. (p.0, (tt, λ none. tt));
      at_hears = hears_so P B weak on bare;
      at_gives = gives_so P B weak on bare;
      at_asks = λ d p. (p.0, (asked_bounded batch d.live p.1.0, λ none. asked_weightless d.live (p.1.1 none)));
      at_takes = λ d p. takes_so P B weak on bare d p (λ ls id. (p.0, (p.1.0, λ none. absurd (pending_no (no_items d.rest) (not (no_letters ls)) none))));
      at_copied = copied_so P B weak on bare;
      at_failed = failed_so P B weak on bare;
      at_stops = λ d p. stops_so P B weak on bare d p;
      at_forgets = λ d id p. p;
      at_names = λ d clock p. p;
      at_check = λ d due p. p;
    }
  where
    P : Engine → Type 0
    P d = Grants batch d

    B : Engine → Type 0
    B d = Granting batch d

    weak : (d : Engine) → P d → B d
    weak d p = (p.0, p.1.0)

    on : (d : Engine) → B d → P (advances d)
    on d p = ((advances_keeps d d (refl, refl)).1 ∙ p.0, advances_bounded d batch p.0 p.1)

    bare : (d : Engine) (u r : List Item) (ls : List Letter) (o : Option Id) (w : List Frame) (k : KeptList) → B d →
        B (record d { unread = u; rest = r; letters = ls; copying = o; waiting = w; kept = k })
    bare d u r ls o w k p = p

granted_first : (b : Bool) (batch : ℕ) → b ≡ false → cond b None (Some batch) ≡ Some batch
granted_first true batch is = absurd cc
granted_first false batch is = refl

pub grants : (s : Setup) (h : List Act) → s.is_raw ≡ false → Grants (batch_size s.config) (seen s h).engine
grants s h is =
    kept (Grants (batch_size s.config)) (grants_kept (batch_size s.config)) s h (granted_first s.is_raw (batch_size s.config) is, (tt, λ none. tt))

-- each item is placed where no more are left than the queue holds
all_placed : (s : Setup) (h : List Act) → length (left s h) ≤ queue s → (b : Bool) → no_items (seen s h).engine.rest ≡ b → (seen s h).engine.rest ≡ []
all_placed s h fits true same = none_left (seen s h).engine.rest same
all_placed s h fits false same =
    let e = (seen s h).engine in
    let full : length e.unread ≡ e.queue = (settled s h).0.1 same in
    let size_of : e.queue ≡ queue s = (sizes s h).0 in
    let len : length (left s h) ≡ length (e.unread ++ (e.rest ++ held_back s h)) = ap length (left_is s h) in
    let both = length-append e.unread (e.rest ++ held_back s h) in
    let more = length-append e.rest (held_back s h) in
    let some = some_in e.rest same in
    absurd (omega (arith, full, size_of, fits, len, both, more, some))

pub permits_in_bounds : PermitsInBounds
permits_in_bounds s h l raw is =
    let e = (seen s h).engine in
    let all = (grants s h raw).1 in
    let two : Bounded (batch_size s.config) (Some l) = subst (Bounded (batch_size s.config)) is all.0 in (
      two.0,
      λ done.
          let rest = all_placed s h done.0 (no_items e.rest) refl in
          let none : is_finished e ≡ true = done_of e.rest (is_pending e) rest (sym (pending_same s h rest) ∙ done.1) in
          let zero : l.weight ≡ 0 = subst Weightless is (all.1 none) in
          let least = two.1 in
          omega (arith, zero, least),
    )

-- A RAW ONE

abbrev Silent : Engine → Type 0
Silent e = (e.batch ≡ None) × Quiet e.live

lives_quiet : (o : Option ℕ) (link : ℕ) (url : Parts) → o ≡ None → (subscribed o link url).due ≡ []
lives_quiet None link url is = refl
lives_quiet (Some b) link url is = absurd cc

silent_weak : (e : Engine) → Silent e → Silent e
silent_weak e p = p

silent_on : (e : Engine) → Silent e → Silent (advances e)
silent_on e p = ((advances_keeps e e (refl, refl)).1 ∙ p.0, advances_quiet e p.0 p.1)

silent_bare : (e : Engine) (u r : List Item) (ls : List Letter) (o : Option Id) (w : List Frame) (k : KeptList) → Silent e →
    Silent (record e { unread = u; rest = r; letters = ls; copying = o; waiting = w; kept = k })
silent_bare e u r ls o w k p = p

silent_kept : Kept Silent
silent_kept =
    record {
      at_lives = λ d link url p. (p.0, lives_quiet d.batch link url p.0);
      at_clock = λ clock d p. p;
      at_cut = λ d p. (p.0, tt);
      at_shut = λ d p. (p.0, tt);
      at_hears = hears_so Silent Silent silent_weak silent_on silent_bare;
      at_gives = gives_so Silent Silent silent_weak silent_on silent_bare;
      at_asks = λ d p. (p.0, asked_quiet d.live p.1);
      at_takes = λ d p. takes_so Silent Silent silent_weak silent_on silent_bare d p (λ ls id. p);
      at_copied = copied_so Silent Silent silent_weak silent_on silent_bare;
      at_failed = failed_so Silent Silent silent_weak silent_on silent_bare;
      at_stops = λ d p. stops_so Silent Silent silent_weak silent_on silent_bare d p;
      at_forgets = λ d id p. p;
      at_names = λ d clock p. p;
      at_check = λ d due p. p;
    }

raw_first : (b : Bool) (batch : ℕ) → b ≡ true → cond b None (Some batch) ≡ None
raw_first true batch is = refl
raw_first false batch is = absurd cc

pub raw_asks_for_nothing : RawAsksForNothing
raw_asks_for_nothing s h l raw is =
    subst Quiet is (kept Silent silent_kept s h (raw_first s.is_raw (batch_size s.config) raw, tt)).1
