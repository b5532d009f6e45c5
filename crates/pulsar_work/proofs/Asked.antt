-- What is asked next.
use Rattle.std.proofs.Common.{◌≡◌, ◌∙◌, ◌<◌, ℕ, ap, sym, Some, List, length, map, get_or, Vec}
use Rattle.std.specs.Global.{Global}
use Rattle.std.specs.Prelude.{slice_get}
use Rattle.std.specs.Option.{option_map}
use Rattle.std.proofs.lemmas.Option.{slice_get-map, slice_get-get_or}
use Rattle.pulsar_messages.specs.Content.{ProducerMessageValues}
use Rattle.pulsar_messages.specs.Message.{bare}
use Rattle.pulsar_calls.specs.Content.{Asked, Build, Send}
use Rattle.pulsar_work.specs.Calls.{Work}
use Rattle.pulsar_work.specs.Asking.{call_at, making, sends}

pub first-call : (w : Work) (n : ℕ) → n ≡ 0 → call_at w n ≡ Some Build
first-call w n h = ap (call_at w) h

pub second-call : (w : Work) (n : ℕ) (c : Asked) → n ≡ 1 → c ≡ making w → call_at w n ≡ Some c
second-call w n c h is = ap (call_at w) h ∙ ap (λ x. Some x) (sym is)

-- the send of the next line
pub next-send : (lines : List (Vec ℕ Global)) (k n : ℕ) (v : Vec ℕ Global) (bytes : List ℕ) (m : ProducerMessageValues) → k ≡ n → k < length lines → v ≡ get_or lines k v
    → bytes ≡ v.items → m ≡ bare bytes → slice_get (sends (map (λ line. line.items) lines)) n ≡ Some (Send 1 m)
next-send lines k n v bytes m same lt at is content =
    ap (λ i. slice_get (sends (map (λ line. line.items) lines)) i) (sym same)
    ∙ slice_get-map (λ line. Send 1 (bare line)) (map (λ (line : Vec ℕ Global). line.items) lines) k
    ∙ ap (option_map (λ line. Send 1 (bare line))) (slice_get-map (λ (line : Vec ℕ Global). line.items) lines k ∙ ap (option_map (λ (line : Vec ℕ Global). line.items)) (slice_get-get_or lines k v lt))
    ∙ ap (λ (x : Vec ℕ Global). Some (Send 1 (bare x.items))) (sym at)
    ∙ ap (λ b. Some (Send 1 (bare b))) (sym is)
    ∙ ap (λ x. Some (Send 1 x)) (sym content)
