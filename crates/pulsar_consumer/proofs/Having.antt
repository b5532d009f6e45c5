-- What an engine keeps of its permits, so that each flow says its own in 32 bits.
use Rattle.std.proofs.Common.{ℕ, ◌+◌, ◌-◌, ◌^◌, ◌<◌, ◌≤◌, nat_lt, Bool, true, false, cond, refl, ◌≡◌, Option, Some, None, [], ◌∷◌, ◌++◌, lit<, arith}
use Rattle.std.proofs.lemmas.Bool.Decides.{nat_tests}
use Rattle.std.specs.Option.{option_map}
use Rattle.url.specs.Parts.{Parts}
use Rattle.pulsar_consumer.specs.KeptLive.{HasPermits}
use Rattle.pulsar_consumer.specs.Topic.{Live, asked, begins, finishes_by, half, subscribed}

pub subscribed_has : (batch : Option ℕ) (link : ℕ) (url : Parts) → HasPermits (Some (subscribed batch link url)) batch
subscribed_has None link url = tt
subscribed_has (Some b) link url = (omega arith, lit< tt)

pub begun_has : (l : Option Live) (batch : Option ℕ) (weight : ℕ) → weight < 2 ^ 31 → HasPermits l batch → HasPermits (option_map (begins weight) l) batch
begun_has None batch weight small has = tt
begun_has (Some l) None weight small has = tt
begun_has (Some l) (Some b) weight small has = (has.0, small)

pub asked_has : (l : Option Live) (batch : Option ℕ) → HasPermits l batch → HasPermits (option_map asked l) batch
asked_has None batch has = tt
asked_has (Some l) None has = tt
asked_has (Some l) (Some b) has = has

-- where less than half is left a flow brings it to the batch size, and else half is left
pub finished_has : (batch : ℕ) (l : Live) → half batch ≤ l.level → HasPermits (Some (finishes_by batch l)) (Some batch)
finished_has batch l least = by (nat_lt l.level (half batch + l.weight)) refl
  where
    more : Live
    more = record l { level = batch; weight = 0; due = l.due ++ (batch + l.weight - l.level) ∷ [] }

    less : Live
    less = record l { level = l.level - l.weight; weight = 0 }

    by : (c : Bool) → nat_lt l.level (half batch + l.weight) ≡ c → HasPermits (Some (cond c more less)) (Some batch)
    by true low = (omega arith, lit< tt)
    by false enough =
        let above : half batch + l.weight ≤ l.level = grind (arith, nat_tests) in
        (omega (arith, above), lit< tt)

pub flow_fits : (batch level weight : ℕ) → batch < 2 ^ 32 → weight < 2 ^ 31 → half batch ≤ level → batch + weight - level < 2 ^ 32
flow_fits batch level weight b w l = omega (arith, b, w, l)
