-- A text whose first byte isn't zero, cut where its next character begins: both parts are texts.
use Rattle.std.proofs.Common.{◌≡◌, ℕ, ◌+◌, ◌-◌, ◌<◌, ◌≤◌, List, ◌∷◌, ◌++◌, [], length, drop, take, get_or, sym, ◌∙◌, ap, refl, arith, rules, zero, suc, subst, inl, inr}
use Rattle.std.specs.Prelude.{All, IsUtf8, ◌≢◌, ◌↔◌}
use Rattle.std.specs.Str.{IsCharBoundary}
use Rattle.std.proofs.lemmas.Str.{IsUtf8-take, IsUtf8-drop, IsUtf8-append}
use Rattle.std.proofs.lemmas.List.{length-append, length-drop, length-take, drop-append-le, take-append-le, append_assoc, get_or-take, get_or_default, get_or-drop, take-append-drop, get_or_append_left, drop-drop}
use Rattle.std.proofs.lemmas.List.Elements.{All-append}
use Rattle.std.proofs.lemmas.Bool.{cases_lt}
use Rattle.std.proofs.Math.Seq.{get_or-append_seam}
use Rattle.heaps.specs.Content.{BeginsText, HasText}
use Rattle.text_places.specs.Standing.{GoesOn, BeginsAt}

-- a byte that doesn't go on with a character, and isn't ASCII, begins one
begins_high : (b : ℕ) → (GoesOn b → ⊥) → 128 ≤ b → 192 ≤ b
begins_high b stops high = elim (cases_lt b 192) [ inl low ↦ absurd (stops (high, low)) | inr h ↦ h ]

module _ (bytes : List ℕ) (n : ℕ) (some : 0 < n) (within : n ≤ length bytes)
    (between : (k : ℕ) → 0 < k → k < n → GoesOn (get_or bytes k 0))
    (begins : n < length bytes → GoesOn (get_or bytes n 0) → ⊥)
    (full : get_or bytes 0 0 ≡ 0 → ⊥) where
  module _ (text rest : List ℕ) (e : bytes ≡ text ++ 0 ∷ rest) (nz : All (λ b. b ≢ 0) text) (u : IsUtf8 text) where
    -- the zero that ends it
    zero_there : get_or bytes (length text) 0 ≡ 0
    zero_there = ap (λ bs. get_or bs (length text) 0) e ∙ get_or-append_seam text 0 rest 0

    longer : length text < length bytes
    longer = let l : length bytes ≡ length text + length (0 ∷ rest) = ap length e ∙ length-append text (0 ∷ rest) in omega arith

    not_empty : (l : ℕ) → l ≡ length text → 0 < l
    not_empty zero h = absurd (full (subst (λ k. get_or bytes k 0 ≡ 0) (sym h) zero_there))
    not_empty (suc l) h = omega arith

    low : get_or bytes (length text) 0 < 128
    low = rw zero_there (omega arith)

    long : n ≤ length text
    long = elim (cases_lt (length text) n)
        [ inl short ↦ let g = between (length text) (not_empty (length text) refl) short in let l = low in absurd (omega arith) | inr h ↦ h ]

    boundary : IsCharBoundary text n
    boundary = let l = longer in let m = long in (
      long,
      λ inside high.
          let same : get_or bytes n 0 ≡ get_or text n 0 = ap (λ bs. get_or bs n 0) e ∙ get_or_append_left text (0 ∷ rest) 0 n inside in
          begins_high (get_or text n 0) (λ g. begins (omega arith) (subst GoesOn (sym same) g)) high,
    )

    pub front_is_text : IsUtf8 (take n bytes)
    front_is_text = subst IsUtf8 (sym (ap (take n) e ∙ take-append-le n text (0 ∷ rest) long)) (IsUtf8-take text n u boundary)

    full_behind : All (λ b. b ≢ 0) (drop n text)
    full_behind k d less = rw (get_or-drop n text k d) (nz (n + k) d (let l = length-drop n text in omega arith))

    pub rest_begins : BeginsText (drop n bytes) (drop n text)
    rest_begins = (rest, ap (drop n) e ∙ drop-append-le n text (0 ∷ rest) long, full_behind, IsUtf8-drop text n u boundary)

    pub goes_behind : n < length bytes
    goes_behind = let l = longer in let m = long in omega arith

  full_front : All (λ b. b ≢ 0) (take n bytes)
  full_front zero d less = rw (get_or-take n bytes zero d some) (rw (get_or_default bytes zero d 0 (omega arith)) full)
  full_front (suc k) d less =
      let l = length-take n bytes in
      let below : suc k < n = omega arith in
      let g = between (suc k) (omega arith) below in
      let same : get_or (take n bytes) (suc k) d ≡ get_or bytes (suc k) 0 = get_or-take n bytes (suc k) d below ∙ get_or_default bytes (suc k) d 0 (omega arith) in
      λ z. let zero_here : get_or bytes (suc k) 0 ≡ 0 = sym same ∙ z in absurd (omega arith)

  full_both : (xs ys : List ℕ) → All (λ b. b ≢ 0) xs → All (λ b. b ≢ 0) ys → All (λ b. b ≢ 0) (xs ++ ys)
  full_both xs ys p q = All-append (λ b. b ≢ 0) xs ys p q

  pub begins_here : (text : List ℕ) → IsUtf8 (take n bytes) → BeginsText (drop n bytes) text → BeginsText bytes (take n bytes ++ text)
  begins_here text u (rest, e, nz, v) = (
    rest,
    sym (take-append-drop n bytes) ∙ ap (λ bs. take n bytes ++ bs) e ∙ sym (append_assoc (take n bytes) text (0 ∷ rest)),
    full_both (take n bytes) text full_front nz,
    IsUtf8-append (take n bytes) text u v,
  )

module _ (heap : List ℕ) (at next : ℕ) (order : at < next) (within : next ≤ length heap)
    (between : (k : ℕ) → at < k → k < next → GoesOn (get_or heap k 0))
    (begins : next < length heap → GoesOn (get_or heap next 0) → ⊥) (full : get_or heap at 0 ≡ 0 → ⊥) where
  abbrev n : ℕ
  n = next - at

  end : at + n ≡ next
  end = omega arith

  behind : drop n (drop at heap) ≡ drop next heap
  behind = drop-drop n at heap ∙ ap (λ k. drop k heap) end

  len : length (drop at heap) ≡ length heap - at
  len = length-drop at heap

  near : (k : ℕ) → 0 < k → k < n → GoesOn (get_or (drop at heap) k 0)
  near k some less = rw (get_or-drop at heap k 0) (between (at + k) (omega arith) (omega arith))

  there : n < length (drop at heap) → GoesOn (get_or (drop at heap) n 0) → ⊥
  there less g = begins (let l = len in omega arith) (subst GoesOn (get_or-drop at heap n 0 ∙ ap (λ k. get_or heap k 0) end) g)

  first : get_or (drop at heap) 0 0 ≡ 0 → ⊥
  first z = full (subst (λ k. get_or heap k 0 ≡ 0) (omega arith) (sym (get_or-drop at heap 0 0) ∙ z))

  inside : n ≤ length (drop at heap)
  inside = let l = len in omega arith

  pub parts : BeginsAt heap at → (next < length heap) × (BeginsAt heap next × IsUtf8 (take n (drop at heap)))
  parts (text, (rest, e, nz, u)) = (
    let l = len in let g = goes_behind (drop at heap) n (omega arith) inside near there first text rest e nz u in omega arith,
    (
      (drop n text, subst (λ bs. BeginsText bs (drop n text)) behind (rest_begins (drop at heap) n (omega arith) inside near there first text rest e nz u)),
      front_is_text (drop at heap) n (omega arith) inside near there first text rest e nz u,
    ),
  )

  pub whole : BeginsAt heap next → IsUtf8 (take n (drop at heap)) → BeginsAt heap at
  whole (text, b) u =
      (take n (drop at heap) ++ text, begins_here (drop at heap) n (omega arith) inside near there first text u (subst (λ bs. BeginsText bs text) (sym behind) b))

-- a text has a zero behind it, so none stands past the heap's end
zero_within : (n : ℕ) (heap text rest : List ℕ) → drop n heap ≡ text ++ 0 ∷ rest → n < length heap
zero_within n heap text rest e =
    let l : length heap - n ≡ length text + length (0 ∷ rest) = sym (length-drop n heap) ∙ ap length e ∙ length-append text (0 ∷ rest) in omega arith

pub text_within : (heap : List ℕ) (at : ℕ) → (at ≡ 0 → ⊥) → (text : List ℕ) → HasText heap at text → at < length heap
text_within heap zero some text h = absurd (some refl)
text_within heap (suc k) some text (rest, e, nz, u) = zero_within (suc k) heap text rest e

-- behind index 0 a text stands where one begins
pub text_begins : (heap : List ℕ) (at : ℕ) → (at ≡ 0 → ⊥) → ((text : List ℕ) × HasText heap at text) ↔ BeginsAt heap at
text_begins heap zero some = absurd (some refl)
text_begins heap (suc k) some = (λ h. h, λ h. h)
