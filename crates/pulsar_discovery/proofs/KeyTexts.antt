-- The parts of an address are read back from its key.
use Rattle.std.proofs.Common.{◌≡◌, ◌≢◌, ◌∙◌, ap, refl, ℕ, ◌+◌, ◌<◌, ◌^◌, ◌%◌, Bool, true, false, List, [], ◌∷◌, ◌++◌, length, codes, decimal, arith}
use Rattle.std.proofs.lemmas.Fmt.{decimal_by_steps, decimal_injective}
use Rattle.url.specs.Parts.{serialize}
use Rattle.pulsar_addresses.specs.Address.{Place, address_key, key_of}

abbrev NoBlank : List ℕ → Type 0
NoBlank [] = Unit {0}
NoBlank (x ∷ xs) = (x ≢ 32) × NoBlank xs

no_blank_more : (xs : List ℕ) (y : ℕ) → NoBlank xs → y ≢ 32 → NoBlank (xs ++ y ∷ [])
no_blank_more [] y a b = (b, tt)
no_blank_more (x ∷ xs) y a b = (a.0, no_blank_more xs y a.1 b)

digit : (m : ℕ) → 48 + m ≢ 32
digit m e = absurd (omega arith)

digits : (n : ℕ) → n < 2 ^ 64 → NoBlank (decimal n)
digits n h =
    decimal_by_steps (λ m ds. NoBlank ds) (λ m small. (digit m, tt)) (λ m ds big before. no_blank_more ds (48 + m % 10) before (digit (m % 10))) n h

-- what stands before the first blank, and behind it
apart : (xs ys r s : List ℕ) → NoBlank xs → NoBlank ys → xs ++ 32 ∷ r ≡ ys ++ 32 ∷ s → (xs ≡ ys) × (r ≡ s)
apart [] [] r s a b e = (refl, cc)
apart [] (y ∷ ys) r s a b e = let h : y ≡ 32 = cc in absurd (b.0 h)
apart (x ∷ xs) [] r s a b e = let h : x ≡ 32 = cc in absurd (a.0 h)
apart (x ∷ xs) (y ∷ ys) r s a b e =
    let tails : xs ++ 32 ∷ r ≡ ys ++ 32 ∷ s = cc in
    let p = apart xs ys r s a.1 b.1 tails in
    let same : x ≡ y = cc in (ap (λ z. z ∷ xs) same ∙ ap (λ zs. y ∷ zs) p.0, p.1)

-- two texts joined to the same, whose first parts are as long
split : (xs ys r s : List ℕ) → length xs ≡ length ys → xs ++ r ≡ ys ++ s → (xs ≡ ys) × (r ≡ s)
split [] [] r s l e = (refl, e)
split [] (y ∷ ys) r s l e = absurd (omega arith)
split (x ∷ xs) [] r s l e = absurd (omega arith)
split (x ∷ xs) (y ∷ ys) r s l e =
    let tails : xs ++ r ≡ ys ++ s = cc in
    let shorter : length xs ≡ length ys = omega arith in
    let p = split xs ys r s shorter tails in
    let same : x ≡ y = cc in (ap (λ z. z ∷ xs) same ∙ ap (λ zs. y ∷ zs) p.0, p.1)

read_back : (u v a b : List ℕ) (p q : Bool) → length u < 2 ^ 64 → length v < 2 ^ 64 → key_of u a p ≡ key_of v b q → (u ≡ v) × (a ≡ b) × (p ≡ q)
read_back u v a b true true h g e =
    let p = apart (decimal (length u)) (decimal (length v)) (codes "proxy " ++ (u ++ a)) (codes "proxy " ++ (v ++ b)) (digits (length u) h) (digits (length v) g) e in
    let tails : u ++ a ≡ v ++ b = cc in
    let w = split u v a b (decimal_injective (length u) (length v) h g p.0) tails in (w.0, w.1, refl)
read_back u v a b false false h g e =
    let p = apart (decimal (length u)) (decimal (length v)) (codes "broker " ++ (u ++ a)) (codes "broker " ++ (v ++ b)) (digits (length u) h) (digits (length v) g) e in
    let tails : u ++ a ≡ v ++ b = cc in
    let w = split u v a b (decimal_injective (length u) (length v) h g p.0) tails in (w.0, w.1, refl)
read_back u v a b true false h g e =
    let p = apart (decimal (length u)) (decimal (length v)) (codes "proxy " ++ (u ++ a)) (codes "broker " ++ (v ++ b)) (digits (length u) h) (digits (length v) g) e in
    let other : ◌≡◌ {A = ℕ} 112 98 = cc in absurd (omega arith)
read_back u v a b false true h g e =
    let p = apart (decimal (length u)) (decimal (length v)) (codes "broker " ++ (u ++ a)) (codes "proxy " ++ (v ++ b)) (digits (length u) h) (digits (length v) g) e in
    let other : ◌≡◌ {A = ℕ} 98 112 = cc in absurd (omega arith)

pub keys_differ : (a b : Place) → length (serialize a.url) < 2 ^ 64 → length (serialize b.url) < 2 ^ 64 → address_key a ≡ address_key b
    → (serialize a.url ≡ serialize b.url) × (a.broker_url ≡ b.broker_url) × (a.proxy ≡ b.proxy)
keys_differ a b = read_back (serialize a.url) (serialize b.url) a.broker_url b.broker_url a.proxy b.proxy
