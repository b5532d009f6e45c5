-- For the code's contracts alone: a failure as a list of words that give it back, by which a proof tells failures apart.
use Rattle.std.proofs.Common.{◌∙◌, ap}
use Rattle.std.specs.Prelude.{◌≡◌, ℕ, List, [], ◌∷◌, refl}
use Rattle.std.specs.Coded.{Coded, coded_list, code_by}
use Rattle.pulsar_wire.specs.Authentication.{Denial}
use Rattle.pulsar_wire.specs.Failures.{Fault, ConsumerFault, ProducerFault, DiscoveryFault, Failure, OfConnection, OfConsumer, OfProducer, OfBatch, OfPartialSend, OfDiscovery, OfAuthentication, Custom, Executor, Sent, NoMore, Went, Failed}

-- each word makes a failure, or what became of messages, of the newest ones before it
pub data Token : Type 0 where
  IsConnection : Fault → Token
  IsConsumer : ConsumerFault → Token
  IsProducer : ProducerFault → Token
  IsDiscovery : DiscoveryFault → Token
  IsAuthentication : Denial → Token
  IsCustom : List ℕ → Token
  IsExecutor : Token
  MakesBatch : Token
  MakesPartialSend : Token
  EndsSent : Token
  AddsTicket : ℕ → Token
  AddsFailure : Token

abbrev mutual
  pub tokens : Failure → List Token → List Token
  tokens (OfConnection f) ts = IsConnection f ∷ ts
  tokens (OfConsumer f) ts = IsConsumer f ∷ ts
  tokens (OfProducer f) ts = IsProducer f ∷ ts
  tokens (OfBatch f) ts = tokens f (MakesBatch ∷ ts)
  tokens (OfPartialSend s) ts = sent_tokens s (MakesPartialSend ∷ ts)
  tokens (OfDiscovery f) ts = IsDiscovery f ∷ ts
  tokens (OfAuthentication d) ts = IsAuthentication d ∷ ts
  tokens (Custom text) ts = IsCustom text ∷ ts
  tokens Executor ts = IsExecutor ∷ ts

  pub sent_tokens : Sent → List Token → List Token
  sent_tokens NoMore ts = EndsSent ∷ ts
  sent_tokens (Went ticket s) ts = sent_tokens s (AddsTicket ticket ∷ ts)
  sent_tokens (Failed f s) ts = tokens f (sent_tokens s (AddsFailure ∷ ts))

-- the failures that words make, newest first
abbrev pub made : List Token → List Failure → List Sent → List Failure
made [] fs ss = fs
made (IsConnection f ∷ ts) fs ss = made ts (OfConnection f ∷ fs) ss
made (IsConsumer f ∷ ts) fs ss = made ts (OfConsumer f ∷ fs) ss
made (IsProducer f ∷ ts) fs ss = made ts (OfProducer f ∷ fs) ss
made (IsDiscovery f ∷ ts) fs ss = made ts (OfDiscovery f ∷ fs) ss
made (IsAuthentication d ∷ ts) fs ss = made ts (OfAuthentication d ∷ fs) ss
made (IsCustom text ∷ ts) fs ss = made ts (Custom text ∷ fs) ss
made (IsExecutor ∷ ts) fs ss = made ts (Executor ∷ fs) ss
made (MakesBatch ∷ ts) (f ∷ fs) ss = made ts (OfBatch f ∷ fs) ss
made (MakesPartialSend ∷ ts) fs (s ∷ ss) = made ts (OfPartialSend s ∷ fs) ss
made (EndsSent ∷ ts) fs ss = made ts fs (NoMore ∷ ss)
made (AddsTicket ticket ∷ ts) fs (s ∷ ss) = made ts fs (Went ticket s ∷ ss)
made (AddsFailure ∷ ts) (f ∷ fs) (s ∷ ss) = made ts fs (Failed f s ∷ ss)
made _ fs ss = []

abbrev pub newest : List Failure → Failure
newest [] = Executor
newest (f ∷ fs) = f

mutual
  made_back : (f : Failure) (ts : List Token) (fs : List Failure) (ss : List Sent) → made (tokens f ts) fs ss ≡ made ts (f ∷ fs) ss
  made_back (OfConnection f) ts fs ss = refl
  made_back (OfConsumer f) ts fs ss = refl
  made_back (OfProducer f) ts fs ss = refl
  made_back (OfBatch f) ts fs ss = made_back f (MakesBatch ∷ ts) fs ss
  made_back (OfPartialSend s) ts fs ss = sent_back s (MakesPartialSend ∷ ts) fs ss
  made_back (OfDiscovery f) ts fs ss = refl
  made_back (OfAuthentication d) ts fs ss = refl
  made_back (Custom text) ts fs ss = refl
  made_back Executor ts fs ss = refl

  sent_back : (s : Sent) (ts : List Token) (fs : List Failure) (ss : List Sent) → made (sent_tokens s ts) fs ss ≡ made ts fs (s ∷ ss)
  sent_back NoMore ts fs ss = refl
  sent_back (Went ticket s) ts fs ss = sent_back s (AddsTicket ticket ∷ ts) fs ss
  sent_back (Failed f s) ts fs ss = made_back f (sent_tokens s (AddsFailure ∷ ts)) fs ss ∙ sent_back s (AddsFailure ∷ ts) (f ∷ fs) ss

pub code_back : (f : Failure) → newest (made (tokens f []) [] []) ≡ f
code_back f = ap newest (made_back f [] [] [])

abbrev pub failure_code : Coded Token → Coded Failure
failure_code c = code_by (List Token) (coded_list c) (λ f. tokens f []) (λ ts. newest (made ts [] [])) code_back
