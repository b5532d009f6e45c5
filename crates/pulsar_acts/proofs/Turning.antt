-- What an act turns: nothing where its link stays as it is, and else its address, the attempt that is to follow, and the alarms.
use Rattle.std.proofs.Common.{◌≡◌, ◌∙◌, ap, sym, ℕ, Bool, true, false, cond, List, [], ◌++◌, refl, Option, Some, None, bytes_eq}
use Rattle.std.proofs.lemmas.List.{append-nil}
use Rattle.std.specs.Option.{option_map}
use Rattle.pulsar_addresses.specs.Address.{Place, address_key}
use Rattle.pulsar_wire.specs.Failures.{Fault}
use Rattle.pulsar_calls.specs.declared.act.Alarm.{Alarm}
use Rattle.pulsar_calls.specs.declared.act.Arrival.{Arrival}
use Rattle.pulsar_calls.specs.declared.act.End.{End}
use Rattle.pulsar_calls.specs.declared.act.LinkAct.{LinkAct}
use Rattle.pulsar_calls.specs.declared.act.LinkAct.TheVariants.{Opens, Reads, Drains, Pings, Ends}
use Rattle.pulsar_links.specs.declared.addresses.Pause.{Pause}
use Rattle.pulsar_acts.specs.Effects.{retries, retries_on}
use Rattle.pulsar_links.specs.Links.{Remains, IsOver, change_at, change_in}
use Rattle.pulsar_acts.specs.Rules.{failed_on, waiters_of}
use Rattle.pulsar_links.specs.LinkRules.{ended_on}
use Rattle.pulsar_acts.specs.Tables.{welcomed}
use Rattle.pulsar_acts.specs.View.{Turned, alarms_on, base_on, pause_of, pause_on, pause_for, turned_by}
use Rattle.pulsar_machine.specs.Options.{Chosen}
use Rattle.pulsar_links.specs.Seats.{Addresses, Base, Seat, arrival_at, base_turned, closing, took_some}

-- NOTHING IS TURNED

abbrev pub IsStill : Option Turned → Type 0
IsStill None = Unit {0}
IsStill (Some t) = (t.change ≡ Remains) × (t.pause ≡ None)

same_cond : {A : Type 0} (b : Bool) (x : A) → cond b x x ≡ x
same_cond true x = refl
same_cond false x = refl

pub base_still : (t : Option Turned) → IsStill t → (key : List ℕ) (b : Base) → base_on t key b ≡ b
base_still None k key b = refl
base_still (Some t) k key b =
    ap (λ change. cond (bytes_eq t.key key) (base_turned t.link change t.pause b) b) k.0 ∙ same_cond (bytes_eq t.key key) b

pub pause_still : (t : Option Turned) → IsStill t → (l : ℕ) (row : Option Pause) → pause_on t l row ≡ row
pause_still None k l row = refl
pause_still (Some t) k l row = ap (λ p. pause_on (Some (record { link = t.link; key = t.key; change = t.change; pause = p })) l row) k.1

pub alarms_still : (o : Chosen) (now : ℕ) (t : Option Turned) → IsStill t → (alarms : List (Alarm × ℕ)) → alarms_on o now t alarms ≡ alarms
alarms_still o now None k alarms = refl
alarms_still o now (Some t) k alarms = ap (λ change. alarms_on o now (Some (record { link = t.link; key = t.key; change = change; pause = t.pause })) alarms) k.0

pub retries_still : (o : Chosen) (t : Option Turned) → IsStill t → retries_on o t ≡ []
retries_still o None k = refl
retries_still o (Some t) k = ap (retries o t.link) k.1

pub waiters_still : (end : End) (known : Addresses) (t : Option Turned) → IsStill t → waiters_of (failed_on end) known t ≡ []
waiters_still end known None k = refl
waiters_still end known (Some t) k =
    ap (λ change. waiters_of (failed_on end) known (Some (record { link = t.link; key = t.key; change = change; pause = t.pause }))) k.0

-- an act that ends no link, and makes none ready
abbrev is_still : LinkAct → Bool
is_still Reads = false
is_still (Ends end) = false
is_still _ = true

pub still : (o : Chosen) (known : Addresses) (now l : ℕ) (x : LinkAct) (row : Option Seat) → is_still x ≡ true → IsStill (option_map (turned_by o known now l x) row)
still o known now l x None h = tt
still o known now l Opens (Some seat) h = (refl, refl)
still o known now l (Drains most) (Some seat) h = (refl, refl)
still o known now l Pings (Some seat) h = (refl, refl)
still o known now l Reads (Some seat) h = absurd cc
still o known now l (Ends end) (Some seat) h = absurd cc

-- nor does one that is no end after all
pub open_still : (o : Chosen) (known : Addresses) (now l : ℕ) (end : End) (row : Option Seat) → closing end now row ≡ None →
    IsStill (option_map (turned_by o known now l (Ends end)) row)
open_still o known now l end None h = tt
open_still o known now l end (Some seat) h = (
  ap change_at h,
  ap (λ cause. pause_for o (Ends end) (change_at cause) seat.address (known.base (address_key seat.address)).series) h,
)

pub none_ended : (end : End) (now : ℕ) (row : Option Seat) → closing end now row ≡ None → ended_on end now row ≡ []
none_ended end now None h = refl
none_ended end now (Some seat) h = rw h refl

-- A LINK IS READY

pub welcomed_is : (o : Chosen) (known : Addresses) (now l : ℕ) (row : Option Seat) →
    welcomed l (arrival_at row) (took_some Reads now row) ≡ option_map (turned_by o known now l Reads) row
welcomed_is o known now l None = refl
welcomed_is o known now l (Some seat) = refl

pub read_retries : (o : Chosen) (known : Addresses) (now l : ℕ) (row : Option Seat) → retries_on o (option_map (turned_by o known now l Reads) row) ≡ []
read_retries o known now l None = refl
read_retries o known now l (Some seat) = refl

-- by the address of the link
pub welcomed_none : (l : ℕ) (a : Arrival) (row : Option Seat) → option_map (λ seat. seat.address) row ≡ None → welcomed l a row ≡ None
welcomed_none l a None h = refl
welcomed_none l a (Some seat) h = absurd cc

pub welcomed_some : (l : ℕ) (a : Arrival) (row : Option Seat) (p : Place) → option_map (λ seat. seat.address) row ≡ Some p →
    welcomed l a row ≡ Some (record { link = l; key = address_key p; change = change_in a; pause = None })
welcomed_some l a None p h = absurd cc
welcomed_some l a (Some seat) p h = let is : seat.address ≡ p = cc in ap (λ q. Some (record { link = l; key = address_key q; change = change_in a; pause = None })) is

-- A LINK ENDS

pub turned_end : (o : Chosen) (known : Addresses) (now l : ℕ) (end : End) (row : Option Seat) (p : Place) (cause : Fault) →
    closing end now row ≡ Some cause → option_map (λ seat. seat.address) row ≡ Some p →
    option_map (turned_by o known now l (Ends end)) row
    ≡ Some (record { link = l; key = address_key p; change = IsOver; pause = pause_of o end p (known.base (address_key p)).series })
turned_end o known now l end None p cause h e = absurd cc
turned_end o known now l end (Some seat) p cause h e =
    let is : seat.address ≡ p = cc in
    ap (λ c. Some (record {
      link = l;
      key = address_key seat.address;
      change = change_at c;
      pause = pause_for o (Ends end) (change_at c) seat.address (known.base (address_key seat.address)).series;
    })) h
    ∙ ap (λ q. Some (record { link = l; key = address_key q; change = IsOver; pause = pause_of o end q (known.base (address_key q)).series })) is

-- LISTS OF EFFECTS

pub nothing_more : {A : Type 0} (xs ys zs : List A) → zs ≡ [] → xs ++ ys ≡ xs ++ (ys ++ zs)
nothing_more xs ys zs h = ap (λ ws. xs ++ ws) (sym (append-nil ys) ∙ sym (ap (λ ws. ys ++ ws) h))
