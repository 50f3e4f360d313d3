-- The computed blob at an index is the one that stands there.
use Rattle.std.proofs.Common.{◌≡◌, ℕ, zero, suc, ◌+◌, ◌-◌, ◌*◌, ◌^◌, ◌<◌, ◌≤◌, ◌⊎◌, inl, inr, Bool, true, false, cond, nat_lt, nat_le, ◌&&◌, List, [], ◌∷◌, ◌++◌, length, take, drop, Option, Some, None, refl, sym, ap, ◌∙◌, arith}
use Rattle.std.proofs.lemmas.Grind.{common_steps}
use Rattle.std.proofs.lemmas.List.{length-append, length-take-le, take-append-drop}
use Rattle.std.proofs.Math.Seq.{take-append_seam}
use Rattle.il_base.specs.Numbers.{Packed}
use Rattle.heaps.specs.Content.{HasBlob}
use Rattle.heaps.specs.LookUp.{front, front_of_two, front_of_four, counted, blob_in, BlobIsComputed}

chosen : {A : Type 0} (b : Bool) (x y z : A) → cond b x y ≡ z → ((b ≡ true) × (x ≡ z)) ⊎ ((b ≡ false) × (y ≡ z))
chosen true x y z e = inl (refl, e)
chosen false x y z e = inr (refl, e)

some_is : {A : Type 0} (x y : A) → ◌≡◌ {A = Option A} (Some x) (Some y) → x ≡ y
some_is x y e = cc

-- the bytes are a packed length and a blob, and more
abbrev Stands : List ℕ → List ℕ → Type 0
Stands bytes blob = (spelling : List ℕ) × (rest : List ℕ) × (bytes ≡ spelling ++ (blob ++ rest)) × Packed spelling (length blob)

-- a blob in front of more
front_has : (n : ℕ) (blob rest : List ℕ) → n ≡ length blob → front n (blob ++ rest) ≡ Some blob
front_has n blob rest e =
    let within : nat_le (length blob) (length (blob ++ rest)) ≡ true = rw length-append (grind (arith, common_steps)) in
    rw (e, within) (ap (λ (z : List ℕ). Some z) (take-append_seam blob rest))

front_is : (n : ℕ) (bytes blob : List ℕ) → front n bytes ≡ Some blob → (n ≡ length blob) × (bytes ≡ blob ++ drop n bytes)
front_is n bytes blob e = elim (chosen (nat_le n (length bytes)) (Some (take n bytes)) None (Some blob) e) [
  | inl h ↦
      let within : n ≤ length bytes = let d = h.0 in grind (arith, common_steps) in
      let is : take n bytes ≡ blob = some_is (take n bytes) blob h.1 in
      (sym (length-take-le n bytes within) ∙ ap (λ (z : List ℕ). length z) is, sym (take-append-drop n bytes) ∙ ap (λ (z : List ℕ). z ++ drop n bytes) is)
  | inr h ↦ absurd (let d = h.1 in cc)
]

below_all : (b c d k : ℕ) → (nat_lt b k && nat_lt c k && nat_lt d k) ≡ true → (b < k) × (c < k) × (d < k)
below_all b c d k e = (grind (arith, common_steps), grind (arith, common_steps), grind (arith, common_steps))

one_is : (a : ℕ) (more blob : List ℕ) → nat_lt a 128 ≡ true → front a more ≡ Some blob → Stands (a ∷ more) blob
one_is a more blob lt e =
    let f = front_is a more blob e in
    let small : a < 128 = grind (arith, common_steps) in
    let len = f.0 in
    (a ∷ [], drop a more, ap (λ (r : List ℕ). a ∷ r) f.1, (omega (arith, len, small), len))

two_is : (a : ℕ) (more blob : List ℕ) → nat_lt a 128 ≡ false → nat_lt a 192 ≡ true → front_of_two a more ≡ Some blob → Stands (a ∷ more) blob
two_is a [] blob lo hi e = absurd cc
two_is a (b ∷ more) blob lo hi e =
    elim (chosen (nat_lt b 256) (front ((a - 128) * 256 + b) more) None (Some blob) e) [
      | inl h ↦
          let f = front_is ((a - 128) * 256 + b) more blob h.1 in
          let low : 128 ≤ a = grind (arith, common_steps) in
          let high : a < 192 = grind (arith, common_steps) in
          let byte : b < 256 = let d = h.0 in grind (arith, common_steps) in
          let len = f.0 in
          (a ∷ b ∷ [], drop ((a - 128) * 256 + b) more, ap (λ (r : List ℕ). a ∷ b ∷ r) f.1, (omega (arith, len, high, byte), byte, omega (arith, len, low)))
      | inr h ↦ absurd (let d = h.1 in cc)
    ]

four_is : (a : ℕ) (more blob : List ℕ) → nat_lt a 192 ≡ false → nat_lt a 224 ≡ true → front_of_four a more ≡ Some blob → Stands (a ∷ more) blob
four_is a [] blob lo hi e = absurd cc
four_is a (b ∷ []) blob lo hi e = absurd cc
four_is a (b ∷ c ∷ []) blob lo hi e = absurd cc
four_is a (b ∷ c ∷ d ∷ more) blob lo hi e =
    let n = (a - 192) * 2 ^ 24 + b * 2 ^ 16 + c * 2 ^ 8 + d in
    elim (chosen (nat_lt b 256 && nat_lt c 256 && nat_lt d 256) (front n more) None (Some blob) e) [
      | inl h ↦
          let f = front_is n more blob h.1 in
          let low : 192 ≤ a = grind (arith, common_steps) in
          let high : a < 224 = grind (arith, common_steps) in
          let byte = below_all b c d 256 h.0 in
          let len : (a - 192) * 2 ^ 24 + b * 2 ^ 16 + c * 2 ^ 8 + d ≡ length blob = f.0 in (
            a ∷ b ∷ c ∷ d ∷ [],
            drop n more,
            ap (λ (r : List ℕ). a ∷ b ∷ c ∷ d ∷ r) f.1,
            (omega (arith, len, byte, high), byte.0, byte.1, byte.2, omega (arith, len, byte, low)),
          )
      | inr h ↦ absurd (let d = h.1 in cc)
    ]

counted_is : (bytes blob : List ℕ) → counted bytes ≡ Some blob → Stands bytes blob
counted_is [] blob e = absurd cc
counted_is (a ∷ more) blob e =
    let two = cond (nat_lt a 224) (front_of_four a more) None in
    elim (chosen (nat_lt a 128) (front a more) (cond (nat_lt a 192) (front_of_two a more) two) (Some blob) e) [
      | inl h ↦ one_is a more blob h.0 h.1
      | inr h ↦ elim (chosen (nat_lt a 192) (front_of_two a more) two (Some blob) h.1) [
        | inl k ↦ two_is a more blob h.0 k.0 k.1
        | inr k ↦ elim (chosen (nat_lt a 224) (front_of_four a more) None (Some blob) k.1) [
          | inl l ↦ four_is a more blob k.0 l.0 l.1
          | inr l ↦ absurd (let d = l.1 in cc)
        ]
      ]
    ]

counted_has : (spelling blob rest : List ℕ) → Packed spelling (length blob) → counted (spelling ++ (blob ++ rest)) ≡ Some blob
counted_has [] blob rest p = absurd p
counted_has (a ∷ []) blob rest p =
    let one : nat_lt a 128 ≡ true = grind (arith, common_steps) in
    rw one (front_has a blob rest p.1)
counted_has (a ∷ b ∷ []) blob rest p =
    let one : nat_lt a 128 ≡ false = grind (arith, common_steps) in
    let two : nat_lt a 192 ≡ true = grind (arith, common_steps) in
    let byte : nat_lt b 256 ≡ true = grind (arith, common_steps) in
    rw (one, two, byte) (front_has ((a - 128) * 256 + b) blob rest (omega (arith, p)))
counted_has (a ∷ b ∷ c ∷ []) blob rest p = absurd p
counted_has (a ∷ b ∷ c ∷ d ∷ []) blob rest p =
    let one : nat_lt a 128 ≡ false = grind (arith, common_steps) in
    let two : nat_lt a 192 ≡ false = grind (arith, common_steps) in
    let four : nat_lt a 224 ≡ true = grind (arith, common_steps) in
    let byte : (nat_lt b 256 && nat_lt c 256 && nat_lt d 256) ≡ true = grind (arith, common_steps) in
    rw (one, two, four, byte) (front_has ((a - 192) * 2 ^ 24 + b * 2 ^ 16 + c * 2 ^ 8 + d) blob rest (omega (arith, p)))
counted_has (a ∷ b ∷ c ∷ d ∷ x ∷ more) blob rest p = absurd p

pub blob_is_computed : BlobIsComputed
unfolding blob_in
blob_is_computed heap zero blob = (λ has. ap (λ (z : List ℕ). Some z) (sym has), λ e. sym (some_is [] blob e))
blob_is_computed heap (suc k) blob = (
  λ has. ap counted has.2 ∙ counted_has has.0 blob has.1 has.3,
  counted_is (drop (suc k) heap) blob,
)
