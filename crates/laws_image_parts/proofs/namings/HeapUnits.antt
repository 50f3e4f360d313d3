-- Whether units stand at an index of a heap, whatever its bytes are (ECMA-335 II.24.2.4).
use Rattle.std.proofs.Common.{◌≡◌, ap, refl, sym, ◌∙◌, subst, ℕ, zero, suc, ◌+◌, ◌-◌, ◌*◌, ◌^◌, ◌<◌, ◌≤◌, List, [], ◌∷◌, ◌++◌, length, take, drop, inl, inr, arith}
use Rattle.std.specs.Prelude.{◌⊎◌, ◌%◌}
use Rattle.std.proofs.lemmas.Bool.{cases_eq, cases_lt}
use Rattle.std.proofs.lemmas.List.{length-append, length-take, take-append-drop}
use Rattle.heaps.specs.Content.{HasBlob, HasUnits}
use Rattle.il_base.specs.Numbers.{Packed}
use Rattle.il_base.proofs.Places.{packed-begins}

-- something has a property, or nothing has
abbrev pub Decided : {X : Type 0} → (X → Type 0) → Type 0
Decided {X} P = ((x : X) × P x) ⊎ ((x : X) → P x → ⊥)

-- ---- a packed number at the front

-- a number at the front of bytes, and what stands behind it
pub record Front (bytes : List ℕ) (n : ℕ) : Type 0 where
  pub spelling : List ℕ
  pub rest : List ℕ
  pub whole : bytes ≡ spelling ++ rest
  pub packed : Packed spelling n

-- no spelling has more bytes than there are, and each begins as it does
no_front : (bytes : List ℕ) → (length bytes < 1) → (n : ℕ) → Front bytes n → ⊥
no_front bytes short n h = by_spelling h.spelling h.rest h.whole h.packed
  where
    by_spelling : (spelling rest : List ℕ) → bytes ≡ spelling ++ rest → Packed spelling n → ⊥
    by_spelling [] rest e p = p
    by_spelling (a ∷ more) rest e p = let long = ap length e in omega arith

one_front : (a : ℕ) (rest : List ℕ) → a < 2 ^ 7 → Decided (Front (a ∷ rest))
one_front a rest low = inl (a, record { spelling = a ∷ []; rest = rest; whole = refl; packed = (low, refl) })

two_front : (a : ℕ) (rest : List ℕ) → 2 ^ 7 ≤ a → a < 192 → Decided (Front (a ∷ rest))
two_front a [] high low = inr (λ n h. by_spelling n h.spelling h.rest h.whole h.packed)
  where
    by_spelling : (n : ℕ) (spelling rest : List ℕ) → a ∷ [] ≡ spelling ++ rest → Packed spelling n → ⊥
    by_spelling n [] rest e p = p
    by_spelling n (x ∷ []) rest e p = let same : a ≡ x = cc in let small = p.0 in let is = p.1 in omega arith
    by_spelling n (x ∷ (y ∷ more)) rest e p = let long = ap length e in omega arith
two_front a (b ∷ rest) high low = elim (cases_lt b 256) [
  | inl small ↦ inl ((a - 128) * 256 + b, record { spelling = a ∷ b ∷ []; rest = rest; whole = refl; packed = (omega arith, omega arith, omega arith) })
  | inr large ↦ inr (λ n h. by_spelling large n h.spelling h.rest h.whole h.packed)
]
  where
    by_spelling : 256 ≤ b → (n : ℕ) (spelling more : List ℕ) → a ∷ (b ∷ rest) ≡ spelling ++ more → Packed spelling n → ⊥
    by_spelling large n [] more e p = p
    by_spelling large n (x ∷ []) more e p = let same : a ≡ x = cc in let small = p.0 in let is = p.1 in omega arith
    by_spelling large n (x ∷ (y ∷ [])) more e p = let same : b ≡ y = cc in let small = p.1 in omega arith
    by_spelling large n (x ∷ (y ∷ (z ∷ []))) more e p = p
    by_spelling large n (x ∷ (y ∷ (z ∷ (u ∷ [])))) more e p = let same : b ≡ y = cc in let small = p.1 in omega arith
    by_spelling large n (x ∷ (y ∷ (z ∷ (u ∷ (v ∷ us))))) more e p = p

four_front : (a : ℕ) (rest : List ℕ) → 192 ≤ a → a < 224 → Decided (Front (a ∷ rest))
four_front a [] high low = inr (λ n h. by_spelling n h.spelling h.rest h.whole h.packed)
  where
    by_spelling : (n : ℕ) (spelling rest : List ℕ) → a ∷ [] ≡ spelling ++ rest → Packed spelling n → ⊥
    by_spelling n [] rest e p = p
    by_spelling n (x ∷ []) rest e p = let same : a ≡ x = cc in let small = p.0 in let is = p.1 in omega arith
    by_spelling n (x ∷ (y ∷ more)) rest e p = let long = ap length e in omega arith
four_front a (b ∷ []) high low = inr (λ n h. by_spelling n h.spelling h.rest h.whole h.packed)
  where
    by_spelling : (n : ℕ) (spelling rest : List ℕ) → a ∷ (b ∷ []) ≡ spelling ++ rest → Packed spelling n → ⊥
    by_spelling n [] rest e p = p
    by_spelling n (x ∷ []) rest e p = let same : a ≡ x = cc in let small = p.0 in let is = p.1 in omega arith
    by_spelling n (x ∷ (y ∷ [])) rest e p = let same : a ≡ x = cc in let small = p.0 in let byte = p.1 in let is = p.2 in omega arith
    by_spelling n (x ∷ (y ∷ (z ∷ more))) rest e p = let long = ap length e in omega arith
four_front a (b ∷ (c ∷ [])) high low = inr (λ n h. by_spelling n h.spelling h.rest h.whole h.packed)
  where
    by_spelling : (n : ℕ) (spelling rest : List ℕ) → a ∷ (b ∷ (c ∷ [])) ≡ spelling ++ rest → Packed spelling n → ⊥
    by_spelling n [] rest e p = p
    by_spelling n (x ∷ []) rest e p = let same : a ≡ x = cc in let small = p.0 in let is = p.1 in omega arith
    by_spelling n (x ∷ (y ∷ [])) rest e p = let same : a ≡ x = cc in let small = p.0 in let byte = p.1 in let is = p.2 in omega arith
    by_spelling n (x ∷ (y ∷ (z ∷ []))) rest e p = p
    by_spelling n (x ∷ (y ∷ (z ∷ (u ∷ more)))) rest e p = let long = ap length e in omega arith
four_front a (b ∷ (c ∷ (d ∷ rest))) high low = elim (cases_lt b 256) [
  | inl b_small ↦ elim (cases_lt c 256) [
    | inl c_small ↦ elim (cases_lt d 256) [
      | inl d_small ↦ inl (
        (a - 192) * 2 ^ 24 + b * 2 ^ 16 + c * 2 ^ 8 + d,
        record { spelling = a ∷ b ∷ c ∷ d ∷ []; rest = rest; whole = refl; packed = (omega arith, omega arith, omega arith, omega arith, omega arith) },
      )
      | inr large ↦ inr (λ n h. by_spelling n h.spelling h.rest h.whole h.packed (λ x y z. absurd (omega arith)))
    ]
    | inr large ↦ inr (λ n h. by_spelling n h.spelling h.rest h.whole h.packed (λ x y z. absurd (omega arith)))
  ]
  | inr large ↦ inr (λ n h. by_spelling n h.spelling h.rest h.whole h.packed (λ x y z. absurd (omega arith)))
]
  where
    by_spelling : (n : ℕ) (spelling more : List ℕ) → a ∷ (b ∷ (c ∷ (d ∷ rest))) ≡ spelling ++ more → Packed spelling n → (b < 256 → c < 256 → d < 256 → ⊥) → ⊥
    by_spelling n [] more e p large = p
    by_spelling n (x ∷ []) more e p large = let same : a ≡ x = cc in let small = p.0 in let is = p.1 in omega arith
    by_spelling n (x ∷ (y ∷ [])) more e p large = let same : a ≡ x = cc in let small = p.0 in let byte = p.1 in let is = p.2 in omega arith
    by_spelling n (x ∷ (y ∷ (z ∷ []))) more e p large = p
    by_spelling n (x ∷ (y ∷ (z ∷ (u ∷ [])))) more e p large =
        let second : y ≡ b = cc in
        let third : z ≡ c = cc in
        let fourth : u ≡ d = cc in
        large (subst (λ m. m < 256) second p.1) (subst (λ m. m < 256) third p.2) (subst (λ m. m < 256) fourth p.3)
    by_spelling n (x ∷ (y ∷ (z ∷ (u ∷ (v ∷ us))))) more e p large = p

high_front : (a : ℕ) (rest : List ℕ) → 224 ≤ a → Decided (Front (a ∷ rest))
high_front a rest high = inr (λ n h. by_spelling n h.spelling h.rest h.whole h.packed)
  where
    by_spelling : (n : ℕ) (spelling more : List ℕ) → a ∷ rest ≡ spelling ++ more → Packed spelling n → ⊥
    by_spelling n [] more e p = p
    by_spelling n (x ∷ []) more e p = let same : a ≡ x = cc in let small = p.0 in let is = p.1 in omega arith
    by_spelling n (x ∷ (y ∷ [])) more e p = let same : a ≡ x = cc in let small = p.0 in let byte = p.1 in let is = p.2 in omega arith
    by_spelling n (x ∷ (y ∷ (z ∷ []))) more e p = p
    by_spelling n (x ∷ (y ∷ (z ∷ (u ∷ [])))) more e p = let same : a ≡ x = cc in let small = p.0 in let is = p.4 in omega arith
    by_spelling n (x ∷ (y ∷ (z ∷ (u ∷ (v ∷ us))))) more e p = p

front_decided : (bytes : List ℕ) → Decided (Front bytes)
front_decided [] = inr (λ n h. no_front [] (omega arith) n h)
front_decided (a ∷ rest) = elim (cases_lt a 128) [
  | inl low ↦ one_front a rest low
  | inr high ↦ elim (cases_lt a 192) [
    | inl low ↦ two_front a rest high low
    | inr higher ↦ elim (cases_lt a 224) [ inl low ↦ four_front a rest higher low | inr highest ↦ high_front a rest highest ]
  ]
]

-- ---- blobs and units

-- a blob at the front of bytes, behind its length
abbrev BlobFirst : List ℕ → List ℕ → Type 0
BlobFirst bytes blob = (spelling : List ℕ) × (rest : List ℕ) × (bytes ≡ spelling ++ (blob ++ rest)) × Packed spelling (length blob)

first_decided : (bytes : List ℕ) → Decided (BlobFirst bytes)
first_decided bytes = elim (front_decided bytes) [
  | inl f ↦ elim (cases_lt (length f.1.rest) f.0) [
    | inl short ↦ inr (λ blob b.
        let same = packed-begins f.1.spelling b.0 f.1.rest (blob ++ b.1) f.0 (length blob) (sym f.1.whole ∙ b.2) f.1.packed b.3 in
        let count = same.1 in
        let long = ap length same.2 ∙ length-append blob b.1 in
        omega arith)
    | inr enough ↦
        let blob = take f.0 f.1.rest in
        let long : length blob ≡ f.0 = length-take f.0 f.1.rest ∙ omega arith in
        let behind : f.1.rest ≡ blob ++ drop f.0 f.1.rest = sym (take-append-drop f.0 f.1.rest) in
        inl (blob, (f.1.spelling, drop f.0 f.1.rest, f.1.whole ∙ ap (λ (xs : List ℕ). f.1.spelling ++ xs) behind, subst (Packed f.1.spelling) (sym long) f.1.packed))
  ]
  | inr none ↦ inr (λ blob b. none (length blob) (record { spelling = b.0; rest = blob ++ b.1; whole = b.2; packed = b.3 }))
]

blob_decided : (heap : List ℕ) (index : ℕ) → Decided (HasBlob heap index)
blob_decided heap zero = inl ([], refl)
blob_decided heap (suc k) = first_decided (drop (suc k) heap)

-- a list is empty, or has a last item
data Ends : List ℕ → Type 0 where
  empty : Ends []
  ends : {xs : List ℕ} (front : List ℕ) (last : ℕ) → xs ≡ front ++ last ∷ [] → Ends xs

ends_so : (xs : List ℕ) → Ends xs
ends_so [] = empty
ends_so (x ∷ xs) = by_rest (ends_so xs)
  where
    by_rest : {ys : List ℕ} → Ends ys → Ends (x ∷ ys)
    by_rest empty = ends [] x refl
    by_rest (ends front last e) = ends (x ∷ front) last (ap (λ (zs : List ℕ). x ∷ zs) e)

one_end : (xs ys : List ℕ) (a b : ℕ) → xs ++ a ∷ [] ≡ ys ++ b ∷ [] → xs ≡ ys
one_end [] [] a b e = refl
one_end [] (y ∷ ys) a b e = let long = ap length e ∙ ap suc (length-append ys (b ∷ [])) in absurd (omega arith)
one_end (x ∷ xs) [] a b e = let long = sym (ap suc (length-append xs (a ∷ []))) ∙ ap length e in absurd (omega arith)
one_end (x ∷ xs) (y ∷ ys) a b e =
    let first : x ≡ y = cc in
    let more : xs ++ a ∷ [] ≡ ys ++ b ∷ [] = cc in
    let rest = one_end xs ys a b more in
    λ i. first i ∷ rest i

abbrev pub OneBlobAt : List ℕ → ℕ → Type 0
OneBlobAt heap index = (a b : List ℕ) → HasBlob heap index a → HasBlob heap index b → a ≡ b

pub units_decided : (heap : List ℕ) (index : ℕ) → OneBlobAt heap index → Decided (HasUnits heap index)
units_decided heap index one = elim (blob_decided heap index) [
  | inl found ↦ by_end found.0 found.1 (ends_so found.0)
  | inr none ↦ inr (λ units h. none (units ++ h.0 ∷ []) h.1)
]
  where
    by_end : (blob : List ℕ) → HasBlob heap index blob → Ends blob → Decided (HasUnits heap index)
    by_end blob has empty = inr (λ units h.
        let same = one [] (units ++ h.0 ∷ []) has h.1 in
        let long = ap length same ∙ length-append units (h.0 ∷ []) in
        omega arith)
    by_end blob has (ends front last e) = elim (cases_eq (length front % 2) 0) [
      | inl even ↦ inl (front, (last, subst (HasBlob heap index) e has, even))
      | inr odd ↦ inr (λ units h.
          let same : front ≡ units = one_end front units last h.0 (sym e ∙ one blob (units ++ h.0 ∷ []) has h.1) in
          odd (ap (λ (xs : List ℕ). length xs % 2) same ∙ h.2))
    ]
