-- What is printed of one effect, or of one entry, more.
use Rattle.std.proofs.Common.{◌≡◌, ◌∙◌, ◌+◌, ◌<◌, ◌++◌, ℕ, sym, ap, List, [], ◌∷◌, length, length-append, append-nil, append_assoc, map, take, drop, get_or, Option, Some}
use Rattle.std.proofs.lemmas.List.{take-append-drop}
use Rattle.pulsar_wire.specs.Row.{Values}
use Rattle.pulsar_wire.specs.Rows.{message_id, send_receipt}
use Rattle.pulsar_wire.specs.Failures.{Failure}
use Rattle.std.specs.List.{flat_map}
use Rattle.std.specs.Global.{Vec}
use Rattle.std.proofs.lemmas.Grind.{flat_map-append}
use Rattle.std.proofs.lemmas.List.{map-append}
use Rattle.pulsar_calls.specs.declared.effect.Effect.{Effect}
use Rattle.pulsar_calls.specs.declared.event.Event.{Event}
use Rattle.pulsar_calls.specs.Content.{Shown, shown}
use Rattle.pulsar_printing.specs.Text.{line}
use Rattle.pulsar_work.specs.Report.{error_of, errors_of, first, id_in, line_of, lines_told, shown_in, stored_at}
use Rattle.pulsar_calls.proofs.Fronts.{take_more}
use Rattle.pulsar_work.proofs.Learning.{behind}

-- the lines of what comes behind
lines-more : (es more : List Shown) → flat_map line (lines_told (es ++ more)) ≡ flat_map line (lines_told es) ++ flat_map line (lines_told more)
lines-more es more = ap (flat_map line) (flat_map-append line_of es more) ∙ flat_map-append line (lines_told es) (lines_told more)

pub text-more : (front out new : List ℕ) (es more : List Shown) → out ≡ front ++ flat_map line (lines_told es) → new ≡ out ++ flat_map line (lines_told more)
    → new ≡ front ++ flat_map line (lines_told (es ++ more))
text-more front out new es more so is =
    is ∙ ap (λ t. t ++ flat_map line (lines_told more)) so ∙ append_assoc front (flat_map line (lines_told es)) (flat_map line (lines_told more))
    ∙ ap (λ t. front ++ t) (sym (lines-more es more))

pub count-more : (count more : ℕ) (es xs : List Shown) → count ≡ length (lines_told es) → more ≡ length (lines_told xs) → count + more ≡ length (lines_told (es ++ xs))
count-more count more es xs so is =
    ap (λ n. n + more) so ∙ ap (λ n. length (lines_told es) + n) is ∙ sym (ap length (flat_map-append line_of es xs) ∙ length-append (lines_told es) (lines_told xs))

-- one effect, and one entry, more
pub shown-more : (es : List Effect) (e : Effect) → map shown (es ++ e ∷ []) ≡ map shown es ++ shown e ∷ []
shown-more es e = map-append shown es (e ∷ [])

pub entry-more : (es : List (Event × Vec Effect)) (e : Event × Vec Effect) → shown_in (es ++ e ∷ []) ≡ shown_in es ++ map shown e.1.items
entry-more es e = behind (λ (p : Event × Vec Effect). map shown p.1.items) es e

pub told-one : (x : Shown) → lines_told (x ∷ []) ≡ line_of x
told-one x = append-nil (line_of x)

first-of : (xs ys : List Failure) (f : Failure) → first xs ≡ Some f → first (xs ++ ys) ≡ Some f
first-of [] ys f h = absurd cc
first-of (x ∷ xs) ys f h = h

-- the first error of what is shown of a list, where what comes before its item has none
module _ {A : Type 0} (h : List A → List Shown) (apart : (xs ys : List A) → h (xs ++ ys) ≡ h xs ++ h ys) where
  pub first-found : (xs : List A) (k : ℕ) (x : A) (f : Failure) → k < length xs → x ≡ get_or xs k x → errors_of (h (take k xs)) ≡ [] → Some f ≡ first (errors_of (h (x ∷ [])))
      → Some f ≡ first (errors_of (h xs))
  first-found xs k x f lt is none found =
      let here : h (take k xs ++ x ∷ []) ≡ h (take (k + 1) xs) = ap (λ y. h (take k xs ++ y ∷ [])) is ∙ ap h (take_more xs k x lt) in
      let till : errors_of (h (take (k + 1) xs)) ≡ errors_of (h (x ∷ [])) =
      ap errors_of (sym here ∙ apart (take k xs) (x ∷ [])) ∙ flat_map-append error_of (h (take k xs)) (h (x ∷ [])) ∙ ap (λ ys. ys ++ errors_of (h (x ∷ []))) none in
      let whole : errors_of (h xs) ≡ errors_of (h (take (k + 1) xs)) ++ errors_of (h (drop (k + 1) xs)) =
      ap (λ ys. errors_of (h ys)) (sym (take-append-drop (k + 1) xs)) ∙ ap errors_of (apart (take (k + 1) xs) (drop (k + 1) xs))
      ∙ flat_map-append error_of (h (take (k + 1) xs)) (h (drop (k + 1) xs)) in
      sym (ap first whole ∙ first-of (errors_of (h (take (k + 1) xs))) (errors_of (h (drop (k + 1) xs))) f (ap first till ∙ sym found))

pub first-in : (xs : List Effect) (k : ℕ) (x : Effect) (f : Failure) → k < length xs → x ≡ get_or xs k x → errors_of (map shown (take k xs)) ≡ [] → Some f ≡ first (error_of (shown x))
    → Some f ≡ first (errors_of (map shown xs))
first-in xs k x f lt is none found =
    first-found (map shown) (λ ys zs. map-append shown ys zs) xs k x f lt is none (found ∙ ap first (sym (append-nil (error_of (shown x)))))

pub first-error : (xs : List (Event × Vec Effect)) (k : ℕ) (x : Event × Vec Effect) (f : Failure) → k < length xs → x ≡ get_or xs k x → errors_of (shown_in (take k xs)) ≡ []
    → Some f ≡ first (errors_of (map shown x.1.items)) → Some f ≡ first (errors_of (shown_in xs))
first-error xs k x f lt is none found =
    first-found shown_in (λ ys zs. flat_map-append (λ (p : Event × Vec Effect). map shown p.1.items) ys zs) xs k x f lt is none
    (found ∙ ap (λ ys. first (errors_of ys)) (sym (append-nil (map shown x.1.items))))

-- what a receipt tells
pub stored : (r : Option (Values send_receipt)) (v : Values send_receipt) (o : Option (Values message_id)) → r ≡ Some v → v.1.1.0 ≡ o → stored_at (id_in r) ≡ stored_at o
stored r v o is id = ap (λ x. stored_at (id_in x)) is ∙ ap stored_at id
