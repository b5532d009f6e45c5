-- One who wants a link of an address: it waits, unless a link serves already.
use Rattle.std.proofs.Common.{◌≡◌, ◌∙◌, ap, sym, ℕ, Bool, true, false, cond, ◌&&◌, List, [], ◌∷◌, ◌++◌, refl, Option, Some, None, inl, inr, bytes_eq}
use Rattle.std.proofs.lemmas.Bool.{cases_Bool}
use Rattle.std.proofs.lemmas.Slice.Eq.{bytes_eq-Decides}
use Rattle.pulsar_addresses.specs.Address.{Place, address_key, is_reachable}
use Rattle.pulsar_calls.specs.declared.act.Act.TheVariants.{Does}
use Rattle.pulsar_calls.specs.declared.act.Action.TheVariants.{Get}
use Rattle.pulsar_calls.specs.declared.act.Who.{Who}
use Rattle.pulsar_links.specs.declared.addresses.Series.{Series}
use Rattle.pulsar_links.specs.declared.addresses.Series.TheVariants.{Serves}
use Rattle.pulsar_acts.specs.View.{View, after, serving, waits_for}
use Rattle.pulsar_links.specs.Asks.{got_by, seat_by}
use Rattle.pulsar_links.specs.Seats.{Base, base_waiting, got_at}
use Rattle.pulsar_run.specs.Things.{row_by}
use Rattle.pulsar_acts.proofs.Linking.{got_row}

-- waits where none serves yet
abbrev pub serves : Series → Bool
serves (Serves l) = true
serves _ = false

waits_so : (s : Series) (who : Who) (ws : List Who) → serves s ≡ false → waits_for s who ws ≡ ws ++ who ∷ []
waits_so (Serves l) who ws h = absurd cc
waits_so _ who ws h = refl

same_key : (a b : List ℕ) → bytes_eq a b ≡ true → a ≡ b
same_key a b h = (bytes_eq-Decides a b).0 h

got_waits : (base : List ℕ → Base) (who : Who) (at key : List ℕ) → serves (base at).series ≡ false →
    cond (bytes_eq at key) (base_waiting who (base key)) (base key)
    ≡ cond (bytes_eq at key) (record { series = (base key).series; waiting = waits_for (base key).series who (base key).waiting }) (base key)
got_waits base who at key h = elim (cases_Bool (bytes_eq at key)) [
  | inl e ↦
      ap (λ ws. cond (bytes_eq at key) (record { series = (base key).series; waiting = ws }) (base key))
      (sym (waits_so (base key).series who (base key).waiting (ap (λ k. serves (base k).series) (sym (same_key at key e)) ∙ h)))
  | inr e ↦ rw e refl
]

got_served : (base : List ℕ → Base) (who : Who) (at key : List ℕ) (l : ℕ) → (base at).series ≡ Serves l →
    base key ≡ cond (bytes_eq at key) (record { series = (base key).series; waiting = waits_for (base key).series who (base key).waiting }) (base key)
got_served base who at key l h = elim (cases_Bool (bytes_eq at key)) [
  | inl e ↦
      let is : (base key).series ≡ Serves l = ap (λ k. (base k).series) (sym (same_key at key e)) ∙ h in
      rw e (ap (λ s. record { series = (base key).series; waiting = waits_for s who (base key).waiting }) (sym is))
  | inr e ↦ rw e refl
]

serving_none : (s : Series) → serves s ≡ false → serving s ≡ None
serving_none (Serves l) h = absurd cc
serving_none _ h = refl

-- what is seen of the links and of the addresses
abbrev got_view : Bool → Option ℕ → View → Who → Place → View
got_view b k v who p =
    record v {
      links = record { started = v.links.started; live = λ l. row_by seat_by (got_by l k v.now) (v.links.live l) };
      addresses = record {
        base = λ key. cond (b && bytes_eq (address_key p) key)
            (record { series = (v.addresses.base key).series; waiting = waits_for (v.addresses.base key).series who (v.addresses.base key).waiting })
            (v.addresses.base key);
        pause = v.addresses.pause;
      };
    }

module _ (v : View) (who : Who) (p : Place) where
  abbrev series : Series
  series = (v.addresses.base (address_key p)).series

  reached : is_reachable p ≡ true → got_view true (serving series) v who p ≡ after (Does who (Get p)) v
  reached h = sym (ap (λ b. got_view b (cond b (serving series) None) v who p) h)

  pub get_waits : is_reachable p ≡ true → serves series ≡ false →
      record v {
        addresses = record {
          base = λ key. cond (bytes_eq (address_key p) key) (base_waiting who (v.addresses.base key)) (v.addresses.base key);
          pause = v.addresses.pause;
        };
      } ≡ after (Does who (Get p)) v
  get_waits h none =
      (λ i. record v { addresses = record { base = λ key. got_waits v.addresses.base who (address_key p) key none i; pause = v.addresses.pause } })
      ∙ ap (λ k. got_view true k v who p) (sym (serving_none series none)) ∙ reached h

  pub get_served : (l : ℕ) → is_reachable p ≡ true → series ≡ Serves l →
      record v { links = record { started = v.links.started; live = λ k. got_at (Some l) v.now k (v.links.live k) } } ≡ after (Does who (Get p)) v
  get_served l h is =
      (λ i. record v {
        links = record { started = v.links.started; live = λ k. sym (got_row (Some l) v.now k (v.links.live k)) i };
        addresses = record { base = λ key. got_served v.addresses.base who (address_key p) key l is i; pause = v.addresses.pause };
      })
      ∙ ap (λ s. got_view true (serving s) v who p) (sym is) ∙ reached h
