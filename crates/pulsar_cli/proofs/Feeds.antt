-- What a feed has taken, and what it takes more.
use Rattle.std.proofs.Common.{◌≡◌, ℕ, ◌+◌, ◌-◌, ◌≤◌, ◌<◌, ◌∙◌, sym, ap, List, [], ◌++◌, refl, arith, Option, Some, length, take, drop, append_assoc, append-nil, length-append}
use Rattle.std.proofs.lemmas.List.{drop-drop, length-drop, length-take-le}
use Rattle.std.proofs.Math.Seq.{take-add, take-append_seam}
use Rattle.pulsar_streams.specs.Outside.{Rose, Takes}
use Rattle.pulsar_cli.specs.Script.{Seen, limit}
use Rattle.pulsar_cli.specs.Shown.{Fed, IsFull, unread}
use Rattle.pulsar_cli.specs.declared.feed.Feed.{Feed}
use Rattle.pulsar_cli.specs.declared.stop.Stop.TheVariants as stop
use Rattle.pulsar_cli.proofs.Gives.{gave-more, gave-none, gave-same}
use Rattle.pulsar_cli.proofs.Sinks.{rose-from}

abbrev Given' : Option (List ℕ) → ℕ → Option (List ℕ) → ℕ → Seen
Given' first count now faults = record { before = first; after = now; faults_before = count; faults_after = faults }

-- nothing is taken yet
pub fed-new : (f : Feed) (content : Option (List ℕ)) (faults : ℕ) → length f.piece.items ≡ 65536 → f.from ≡ 0 → f.to ≡ 0 → f.left ≡ limit → Fed f (Given' content faults content faults) []
fed-new f content faults size from to left =
    let none : unread f ≡ [] = rw (from, to) refl in
    record {
      size = size;
      order = omega (arith, from, to);
      inside = omega (arith, to);
      left = omega (arith, left);
      gave = rw none (gave-none content);
      count = rw none (omega (arith, left));
      faults = omega arith;
    }

-- the bytes of a piece that was just taken
piece-of : (f : Feed) (n : ℕ) (buf : List ℕ) → f.piece.items ≡ buf → f.from ≡ 0 → f.to ≡ n → unread f ≡ take n buf
piece-of f n buf items from to = rw (items, from, to) (ap (λ k. take k buf) (omega arith))

pub fed-more : {content old new : Option (List ℕ)} {count x y : ℕ} {bytes : List ℕ} (f f' : Feed) (n : ℕ) (buf : List ℕ) → Fed f (Given' content count old x) bytes → ((left : List ℕ) → old ≡ Some left → Takes left n buf) → ((left : List ℕ) → old ≡ Some left → new ≡ Some (drop n left)) → length buf ≡ 65536 → n ≤ 65536 → x ≤ y → f'.piece.items ≡ buf → f'.from ≡ 0 → f'.to ≡ n → f'.left + n ≡ f.left → Fed f' (Given' content count new y) (bytes ++ unread f)
fed-more {bytes = bytes} f f' n buf fed takes rest size within grows items from to left =
    let piece : unread f' ≡ take n buf = piece-of f' n buf items from to in
    let taken : length (take n buf) ≡ n = length-take-le n buf (omega (arith, size, within)) in
    let both = length-append (bytes ++ unread f) (take n buf) in
    let count = fed.count in
    let most = fed.left in
    let faults = fed.faults in
    record {
      size = ap (λ (t : List ℕ). length t) items ∙ size;
      order = omega (arith, from);
      inside = omega (arith, to, within);
      left = omega (arith, left, most);
      gave = rw piece (gave-more (bytes ++ unread f) buf n fed.gave takes rest);
      count = rw piece (omega (arith, both, taken, count, left, most));
      faults = omega (arith, faults, grows);
    }

-- the source failed
pub fed-fails : {content old new : Option (List ℕ)} {count x y : ℕ} {bytes : List ℕ} (f : Feed) → Fed f (Given' content count old x) bytes → new ≡ old → Rose x y → IsFull stop.Source (Given' content count new y) (bytes ++ unread f)
fed-fails {bytes = bytes} f fed kept rose =
    let count = fed.count in
    let none = append-nil (bytes ++ unread f) in
    record {
      more = [];
      gave = rw none (gave-same (bytes ++ unread f) fed.gave kept);
      why = rw none (rose-from _ _ _ fed.faults rose, omega (arith, count));
    }

-- too many bytes come
pub fed-over : {content old new : Option (List ℕ)} {count x y : ℕ} {bytes : List ℕ} (f : Feed) (n : ℕ) (buf : List ℕ) → Fed f (Given' content count old x) bytes → ((left : List ℕ) → old ≡ Some left → Takes left n buf) → ((left : List ℕ) → old ≡ Some left → new ≡ Some (drop n left)) → n ≤ length buf → f.left < n → IsFull stop.TooLong (Given' content count new y) (bytes ++ unread f)
fed-over {bytes = bytes} f n buf fed takes rest within past =
    let taken : length (take n buf) ≡ n = length-take-le n buf within in
    let both = length-append (bytes ++ unread f) (take n buf) in
    let count = fed.count in
    let most = fed.left in
    record {
      more = take n buf;
      gave = gave-more (bytes ++ unread f) buf n fed.gave takes rest;
      why = omega (arith, both, taken, count, most, past);
    }

-- the front of what is unread was read
pub fed-front : {source : Seen} {bytes : List ℕ} (f f' : Feed) (n : ℕ) → Fed f source bytes → n ≤ f.to - f.from → f'.from ≡ f.to - n → f'.to ≡ f.to → f'.left ≡ f.left → f'.piece ≡ f.piece → Fed f' source (bytes ++ take (length (unread f) - n) (unread f))
fed-front {bytes = bytes} f f' n fed le from to left piece =
    let size = fed.size in
    let order = fed.order in
    let inside = fed.inside in
    let base : List ℕ = drop f.from f.piece.items in
    let m : ℕ = f.to - f.from - n in
    let a : List ℕ = take m base in
    let b : List ℕ = take n (drop m base) in
    let dropped : length base ≡ length f.piece.items - f.from = length-drop f.from f.piece.items in
    let all : length (unread f) ≡ f.to - f.from = length-take-le (f.to - f.from) base (omega (arith, dropped, size, inside, order)) in
    let part : length a ≡ m = length-take-le m base (omega (arith, dropped, size, inside, order)) in
    let parts : unread f ≡ a ++ b = ap (λ k. take k base) (omega (arith, le)) ∙ take-add m n base in
    let front : take (length (unread f) - n) (unread f) ≡ a =
    ap (λ k. take (k - n) (unread f)) all ∙ ap (λ (t : List ℕ). take m t) parts ∙ ap (λ k. take k (a ++ b)) (sym part) ∙ take-append_seam a b in
    let behind : drop (f.to - n) f.piece.items ≡ drop m base =
    ap (λ k. drop k f.piece.items) (omega (arith, le, order)) ∙ sym (drop-drop m f.from f.piece.items) in
    let back : unread f' ≡ b =
    rw (to, from, piece) (ap (λ k. take k (drop (f.to - n) f.piece.items)) (omega (arith, le, order)) ∙ ap (λ (t : List ℕ). take n t) behind) in
    let whole : (bytes ++ take (length (unread f) - n) (unread f)) ++ unread f' ≡ bytes ++ unread f =
    ap (λ (t : List ℕ). (bytes ++ t) ++ unread f') front ∙ ap (λ (t : List ℕ). (bytes ++ a) ++ t) back ∙ append_assoc bytes a b
    ∙ ap (λ (t : List ℕ). bytes ++ t) (sym parts) in
    record {
      size = ap (λ p. length p.items) piece ∙ size;
      order = omega (arith, from, to);
      inside = omega (arith, to, inside);
      left = rw left fed.left;
      gave = rw whole fed.gave;
      count = rw (whole, left) fed.count;
      faults = fed.faults;
    }

-- a piece that is unread has its bytes
pub unread-inside : {source : Seen} {bytes : List ℕ} (f : Feed) → Fed f source bytes → f.to ≤ length f.piece.items
unread-inside f fed = let size = fed.size in let inside = fed.inside in omega (arith, size, inside)
