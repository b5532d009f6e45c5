-- What a reader gives over its history.
use Rattle.std.proofs.Common.{◌≡◌, ℕ, List, [], ◌∷◌, ◌++◌, refl, ap, ◌∙◌, append_assoc}
use Rattle.std.proofs.lemmas.List.{append-nil}
use Rattle.pulsar_frame.specs.Message.{MessageValues}
use Rattle.pulsar_frame.specs.Frame.{front, cut, left, reason_of, bad}
use Rattle.pulsar_frame.specs.History.{Act, Fed, Given, fed, given, Leads}
use Rattle.pulsar_frame.proofs.Streams.{front-whole-append, cut-whole, left-whole}

record Gives (old : List ℕ) (acts : List Act) (new : List ℕ) : Type 0 where
  messages : cut (old ++ fed acts) ≡ given acts ++ cut new
  rest : left (old ++ fed acts) ≡ left new

gives : (acts : List Act) (old new : List ℕ) → Leads acts old new → Gives old acts new
gives [] old new e = record { messages = rw (append-nil old, e) refl; rest = rw (append-nil old, e) refl }
gives (Fed piece ∷ acts) old new run =
    let after = gives acts (old ++ piece) new run in
    let same : (old ++ piece) ++ fed acts ≡ old ++ (piece ++ fed acts) = rw append_assoc refl in
    record { messages = rw (← same) after.messages; rest = rw (← same) after.rest }
gives (Given m ∷ acts) old new run =
    let longer = front-whole-append old (fed acts) m run.0 run.1 in
    let after = gives acts run.0 new run.2 in
    record {
      messages = rw (cut-whole (old ++ fed acts) m (run.0 ++ fed acts) longer) (ap (λ (ms : List MessageValues). m ∷ ms) after.messages);
      rest = left-whole (old ++ fed acts) m (run.0 ++ fed acts) longer ∙ after.rest;
    }

pub cut-fed : (acts : List Act) (held : List ℕ) → Leads acts [] held → cut (fed acts) ≡ given acts ++ cut held
cut-fed acts held run = (gives acts [] held run).messages

pub left-fed : (acts : List Act) (held : List ℕ) → Leads acts [] held → left (fed acts) ≡ left held
left-fed acts held run = (gives acts [] held run).rest

pub bad-fed : (acts : List Act) (held : List ℕ) → Leads acts [] held → bad (fed acts) ≡ bad held
unfolding bad
bad-fed acts held run = ap (λ (l : List ℕ). reason_of (front l)) (left-fed acts held run)
