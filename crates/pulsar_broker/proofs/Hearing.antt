-- The frames of a piece are answered one after the other.
use Rattle.std.proofs.Common.{◌≡◌, ◌∙◌, sym, ap, refl, ℕ, true, List, [], ◌∷◌, ◌++◌, length, drop, Option, Some, None}
use Rattle.std.proofs.Math.Seq.{drop-length}
use Rattle.std.proofs.lemmas.List.{append-nil}
use Rattle.std.specs.Option.{is_some}
use Rattle.pulsar_wire.specs.declared.error.Reason.{Reason}
use Rattle.pulsar_frame.specs.Frame.{Whole, bad, cut, front, left}
use Rattle.pulsar_frame.specs.Message.{MessageValues}
use Rattle.pulsar_frame.proofs.Streams.{bad-bad, bad-whole, cut-append, cut-bad, cut-whole, left-whole}
use Rattle.pulsar_broker.specs.History.{ended_by, turns}
use Rattle.pulsar_broker.specs.State.{State, Turn, turn}
use Rattle.pulsar_broker.proofs.Turns.{owed_more, owed_then}

-- What is left to answer, behind what was answered, is all that was to be answered.
pub record IsHearing (url : List ℕ) (link : ℕ) (rest : List ℕ) (s : State) (now : ℕ → List ℕ) (whole : Turn) (before : ℕ → List ℕ) (end : List ℕ) (why : Option Reason) : Type 0 where
  pub state : (turns url link (cut rest) s).state ≡ whole.state
  pub given : (l : ℕ) → owed_then now (turns url link (cut rest) s).given l ≡ owed_then before whole.given l
  pub ends : left rest ≡ end
  pub refuses : bad rest ≡ why

-- one more is answered
pub heard_one : (url : List ℕ) (link : ℕ) (m : MessageValues) (old rest : List ℕ) (s next : State) (now new : ℕ → List ℕ) (whole : Turn) (before : ℕ → List ℕ) (end : List ℕ) (why : Option Reason) →
    front old ≡ Whole m rest → next ≡ (turn url link m s).state → ((l : ℕ) → new l ≡ owed_then now (turn url link m s).given l) →
    IsHearing url link old s now whole before end why → IsHearing url link rest next new whole before end why
heard_one url link m old rest s next now new whole before end why is state gives hears =
    record {
      state = ap (λ x. (turns url link (cut rest) x).state) state ∙ sym (ap (λ ms. (turns url link ms s).state) (cut-whole old m rest is)) ∙ hears.state;
      given = λ l.
          ap (λ x. owed_then new (turns url link (cut rest) x).given l) state
          ∙ owed_more now new (turn url link m s).given (turns url link (cut rest) (turn url link m s).state).given gives l
          ∙ sym (ap (λ ms. owed_then now (turns url link ms s).given l) (cut-whole old m rest is))
          ∙ hears.given l;
      ends = sym (left-whole old m rest is) ∙ hears.ends;
      refuses = sym (bad-whole old m rest is) ∙ hears.refuses;
    }

-- nothing is left to answer
pub heard_all : (url : List ℕ) (link : ℕ) (rest : List ℕ) (s : State) (now : ℕ → List ℕ) (whole : Turn) (before : ℕ → List ℕ) (end : List ℕ) (why : Option Reason) →
    cut rest ≡ [] → IsHearing url link rest s now whole before end why → (s ≡ whole.state) × ((l : ℕ) → now l ≡ owed_then before whole.given l)
heard_all url link rest s now whole before end why none hears = (
  sym (ap (λ ms. (turns url link ms s).state) none) ∙ hears.state,
  λ l. sym (append-nil (now l)) ∙ sym (ap (λ ms. owed_then now (turns url link ms s).given l) none) ∙ hears.given l,
)

-- WHAT A PIECE ENDS

drop_front : {A : Type 0} (xs ys : List A) → drop (length xs) (xs ++ ys) ≡ ys
drop_front [] ys = refl
drop_front (x ∷ xs) ys = drop_front xs ys

-- it is what is cut of the bytes that were left, and the piece
pub ended_is : (piece before : List ℕ) → ended_by piece before ≡ cut (left before ++ piece)
ended_is piece before = ap (drop (length (cut before))) (cut-append before piece) ∙ drop_front (cut before) (cut (left before ++ piece))

-- behind bytes that are refused it ends nothing
pub ended_refused : (piece before : List ℕ) (o : Option Reason) → bad before ≡ o → is_some o ≡ true → ended_by piece before ≡ []
ended_refused piece before None is some = absurd cc
ended_refused piece before (Some r) is some = ap (drop (length (cut before))) (cut-bad before piece r is) ∙ drop-length (cut before)

pub still_refused : (piece before : List ℕ) (o : Option Reason) → bad before ≡ o → is_some o ≡ true → is_some (bad (before ++ piece)) ≡ true
still_refused piece before None is some = absurd cc
still_refused piece before (Some r) is some = ap is_some (bad-bad before piece r is)
