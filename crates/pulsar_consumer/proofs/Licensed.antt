-- Each receipt of a copy licenses one acknowledgement at most.
use Rattle.std.proofs.Common.{◌==◌, refl, cond, Bool, true, false, List, [], ◌∷◌, ◌++◌, Option, Some, None, inl, inr}
use Rattle.std.specs.Option.{is_some, option_to_list}
use Rattle.pulsar_consumer.specs.Redelivery.{Id}
use Rattle.pulsar_consumer.specs.Topic.{Act, Lives, Hears, Loses, Fails, Ends, Polls, Asks, IsAt, TakesCopy, IsCopied, FailsCopy, Stops, Forgets, Checks, Seen, acked_by, only_if, seen}
use Rattle.pulsar_consumer.specs.Laws.{AreAmong, ReceiptsLicenseAcks, acks, acks_by, receipts, receipts_by, under_way}

among_behind : (ys as' bs : List Id) → AreAmong as' bs → AreAmong as' (ys ++ bs)
among_behind [] as' bs all = all
among_behind (y ∷ ys) [] bs all = tt
among_behind (y ∷ ys) (a ∷ as') bs all = inr (among_behind ys (a ∷ as') bs all)

among_more : (xs ys as' bs : List Id) → AreAmong xs ys → AreAmong as' bs → AreAmong (xs ++ as') (ys ++ bs)
among_more [] ys as' bs one two = among_behind ys as' bs two
among_more (x ∷ xs) [] as' bs one two = absurd one
among_more (x ∷ xs) (y ∷ ys) as' bs (inl both) two = inl (both.0, among_more xs ys as' bs both.1 two)
among_more (x ∷ xs) (y ∷ ys) as' bs (inr later) two = inr (among_more (x ∷ xs) ys as' bs later two)

licensed : (b : Bool) (o : Option Id) → AreAmong (option_to_list (only_if b o)) (option_to_list o)
licensed true None = tt
licensed true (Some id) = inl (refl, tt)
licensed false None = tt
licensed false (Some id) = tt

licensed_by : (act : Act) (v : Seen) → AreAmong (acks_by act v) (receipts_by act v)
licensed_by (Lives link url) v = tt
licensed_by (Hears link f) v = tt
licensed_by (Loses link) v = tt
licensed_by (Fails f) v = tt
licensed_by (Ends why) v = tt
licensed_by (Polls clock) v = tt
licensed_by Asks v = tt
licensed_by (IsAt clock) v = tt
licensed_by TakesCopy v = tt
licensed_by (IsCopied key clock) v = by (v.key == key)
  where
    by : (b : Bool) → AreAmong (option_to_list (only_if b (acked_by v.engine))) (cond b (under_way v) [])
    by true = licensed (is_some v.engine.live) v.engine.copying
    by false = tt
licensed_by (FailsCopy key clock) v = tt
licensed_by Stops v = tt
licensed_by (Forgets id) v = tt
licensed_by (Checks clock) v = tt

pub receipts_license_acks : ReceiptsLicenseAcks
receipts_license_acks s [] = tt
receipts_license_acks s (act ∷ h) =
    among_more (acks s h) (receipts s h) (acks_by act (seen s h)) (receipts_by act (seen s h)) (receipts_license_acks s h) (licensed_by act (seen s h))
