-- Blobs and user strings at an index of a heap: one content, which stays where the heap grows at its end.
use Rattle.std.proofs.Common.{◌≡◌, ℕ, zero, suc, ◌+◌, ◌-◌, ◌*◌, ◌%◌, ◌<◌, ◌≤◌, ◌⊎◌, inl, inr, List, ◌∷◌, ◌++◌, [], length, drop, take, get_or, sym, ◌∙◌, ap, refl, arith}
use Rattle.std.proofs.lemmas.List.{length-append, length-drop, append_assoc, append-nil, drop-drop, length-take-le, take-append-drop, take_rest}
use Rattle.std.proofs.lemmas.Grind.{common_steps}
use Rattle.std.proofs.Math.Seq.{drop-append_seam, take-append_seam}
use Rattle.il_base.specs.Numbers.{Packed, IsShortest, StandsAt}
use Rattle.heaps.specs.Content.{HasText, HasBlob, HasUnits, HasGuid}
use Rattle.heaps.specs.Written.{HasShortBlob, HasWrittenUnits, IsLastByte, IsSpecial, HasSpecial}
use Rattle.heaps.proofs.ContentLemmas.{drop_more, HasText-within, HasGuid-within}

-- no packed number begins another
packed-begins : (front other after beyond : List ℕ) (n m : ℕ) → front ++ after ≡ other ++ beyond → Packed front n → Packed other m → (front ≡ other) × (n ≡ m) × (after ≡ beyond)
packed-begins front other after beyond n m same a b = grind (arith, common_steps)

-- and it isn't empty
pub packed-filled : (spelling : List ℕ) (n : ℕ) → Packed spelling n → 0 < length spelling
packed-filled [] n p = absurd p
packed-filled (s ∷ ss) n p = omega arith

same_fronts : (xs ys rs ss : List ℕ) → length xs ≡ length ys → xs ++ rs ≡ ys ++ ss → xs ≡ ys
same_fronts xs ys rs ss len e =
    sym (take-append_seam xs rs) ∙ ap (λ n. take n (xs ++ rs)) len ∙ ap (take (length ys)) e ∙ take-append_seam ys ss

blob_more : (n : ℕ) (xs spelling blob rest more : List ℕ) → 0 < length spelling → drop n xs ≡ spelling ++ (blob ++ rest)
    → drop n (xs ++ more) ≡ spelling ++ (blob ++ (rest ++ more))
blob_more n xs [] blob rest more some e = absurd (omega arith)
blob_more n xs (s ∷ ss) blob rest more some e =
    drop_more n xs (ss ++ (blob ++ rest)) more s e ∙ (append_assoc (s ∷ ss) (blob ++ rest) more ∙ ap (λ zs. (s ∷ ss) ++ zs) (append_assoc blob rest more))

pub HasBlob-append : (bytes more : List ℕ) (k : ℕ) (c : List ℕ) → HasBlob bytes k c → HasBlob (bytes ++ more) k c
HasBlob-append bytes more zero c here = here
HasBlob-append bytes more (suc k) c (s, rest, e, p) =
    (s, rest ++ more, blob_more (suc k) bytes s c rest more (packed-filled s (length c) p) e, p)

pub HasBlob-unique : (bytes : List ℕ) (k : ℕ) (c d : List ℕ) → HasBlob bytes k c → HasBlob bytes k d → c ≡ d
HasBlob-unique bytes zero c d here there = here ∙ sym there
HasBlob-unique bytes (suc k) c d (s, r, e, p) (t, q, f, o) =
    let same = packed-begins s t (c ++ r) (d ++ q) (length c) (length d) (sym e ∙ f) p o in same_fronts c d r q same.1 same.2

pub HasUnits-append : (bytes more : List ℕ) (k : ℕ) (c : List ℕ) → HasUnits bytes k c → HasUnits (bytes ++ more) k c
HasUnits-append bytes more k c (last, has, even) = (last, HasBlob-append bytes more k (c ++ last ∷ []) has, even)

pub HasUnits-unique : (bytes : List ℕ) (k : ℕ) (c d : List ℕ) → HasUnits bytes k c → HasUnits bytes k d → c ≡ d
HasUnits-unique bytes k c d (l, has, even) (m, also, odd) =
    let same : c ++ l ∷ [] ≡ d ++ m ∷ [] = HasBlob-unique bytes k (c ++ l ∷ []) (d ++ m ∷ []) has also in
    let len : length c + 1 ≡ length d + 1 = sym (length-append c (l ∷ [])) ∙ ap length same ∙ length-append d (m ∷ []) in
    same_fronts c d (l ∷ []) (m ∷ []) (omega arith) same

pub HasShortBlob-append : (bytes more : List ℕ) (k : ℕ) (c : List ℕ) → HasShortBlob bytes k c → HasShortBlob (bytes ++ more) k c
HasShortBlob-append bytes more zero c here = here
HasShortBlob-append bytes more (suc k) c (s, rest, e, p, short) =
    (s, rest ++ more, blob_more (suc k) bytes s c rest more (packed-filled s (length c) p) e, p, short)

pub HasShortBlob-has : (bytes : List ℕ) (k : ℕ) (c : List ℕ) → HasShortBlob bytes k c → HasBlob bytes k c
HasShortBlob-has bytes zero c here = here
HasShortBlob-has bytes (suc k) c (s, rest, e, p, short) = (s, rest, e, p)

pub HasShortBlob-unique : (bytes : List ℕ) (k : ℕ) (c d : List ℕ) → HasShortBlob bytes k c → HasShortBlob bytes k d → c ≡ d
HasShortBlob-unique bytes k c d here there = HasBlob-unique bytes k c d (HasShortBlob-has bytes k c here) (HasShortBlob-has bytes k d there)

pub HasWrittenUnits-append : (bytes more : List ℕ) (k : ℕ) (c : List ℕ) → HasWrittenUnits bytes k c → HasWrittenUnits (bytes ++ more) k c
HasWrittenUnits-append bytes more k c (last, has, even, is) = (last, HasShortBlob-append bytes more k (c ++ last ∷ []) has, even, is)

pub HasWrittenUnits-has : (bytes : List ℕ) (k : ℕ) (c : List ℕ) → HasWrittenUnits bytes k c → HasUnits bytes k c
HasWrittenUnits-has bytes k c (last, has, even, is) = (last, HasShortBlob-has bytes k (c ++ last ∷ []) has, even)

pub HasWrittenUnits-unique : (bytes : List ℕ) (k : ℕ) (c d : List ℕ) → HasWrittenUnits bytes k c → HasWrittenUnits bytes k d → c ≡ d
HasWrittenUnits-unique bytes k c d here there =
    HasUnits-unique bytes k c d (HasWrittenUnits-has bytes k c here) (HasWrittenUnits-has bytes k d there)

-- a blob that was added at the end
pub HasShortBlob-end : (bytes : List ℕ) (n m : ℕ) (lead blob rest : List ℕ) → n ≡ length bytes → 0 < n → m ≡ length blob
    → Packed lead m → IsShortest Packed lead m → HasShortBlob (bytes ++ (lead ++ (blob ++ rest))) n blob
HasShortBlob-end bytes zero m lead blob rest e some len p short = absurd (omega arith)
HasShortBlob-end bytes (suc k) m lead blob rest e some len p short =
    (lead, rest, rw e (drop-append_seam bytes (lead ++ (blob ++ rest))), rw (← len) p, rw (← len) short)

-- and units
pub HasWrittenUnits-end : (bytes : List ℕ) (n m : ℕ) (lead units : List ℕ) (last : ℕ) → n ≡ length bytes → 0 < n → m ≡ length units + 1
    → Packed lead m → IsShortest Packed lead m → length units % 2 ≡ 0 → IsLastByte units last
    → HasWrittenUnits (bytes ++ (lead ++ (units ++ last ∷ []))) n units
HasWrittenUnits-end bytes n m lead units last e some len p short even is =
    let blob = units ++ last ∷ [] in
    let has = HasShortBlob-end bytes n m lead blob [] e some (len ∙ sym (length-append units (last ∷ []))) p short in
    (last, rw append-nil at has, even, is)

-- an index lies in the heap
pub HasText-inside : (heap text : List ℕ) (k : ℕ) → 0 < length heap → HasText heap k text → k < length heap
HasText-inside heap text zero some has = some
HasText-inside heap text (suc k) some has =
    let past : (suc k ≡ 0 → ⊥) = λ e. absurd (omega arith) in
    let beyond : (length heap ≤ suc k → ⊥) = λ h. HasText-within heap text (suc k) past h has in
    omega arith

pub HasBlob-inside : (heap blob : List ℕ) (k : ℕ) → 0 < length heap → HasBlob heap k blob → k < length heap
HasBlob-inside heap blob zero some has = some
HasBlob-inside heap blob (suc k) some (s, rest, e, p) =
    let filled = packed-filled s (length blob) p in
    let len : length heap - suc k ≡ length s + length (blob ++ rest) = sym (length-drop (suc k) heap) ∙ ap length e ∙ length-append s (blob ++ rest) in
    omega arith

pub HasUnits-inside : (heap units : List ℕ) (k : ℕ) → 0 < length heap → HasUnits heap k units → k < length heap
HasUnits-inside heap units k some (last, has, even) = HasBlob-inside heap (units ++ last ∷ []) k some has

pub HasGuid-inside : (heap id : List ℕ) (k : ℕ) → HasGuid heap k id → 16 * k ≤ length heap
HasGuid-inside heap id zero has = absurd has
HasGuid-inside heap id (suc k) has =
    let beyond : (length heap < (suc k - 1) * 16 + 16 → ⊥) = λ h. HasGuid-within heap id (suc k) h has in
    omega arith

-- a blob behind its packed length
pub HasBlob-at : (heap : List ℕ) (at n count : ℕ) → (at ≡ 0 → ⊥) → StandsAt Packed heap at n count → at + count + n ≤ length heap
    → HasBlob heap at (take n (drop (at + count) heap))
HasBlob-at heap zero n count past stands within = absurd (past refl)
HasBlob-at heap (suc k) n count past stands within =
    let spelling = take count (drop (suc k) heap) in
    let behind = drop (suc k + count) heap in
    let whole : n ≤ length behind = rw length-drop (omega arith) in (
      spelling,
      drop n behind,
      sym (take-append-drop count (drop (suc k) heap)) ∙ ap (λ zs. spelling ++ zs) (drop-drop count (suc k) heap ∙ sym (take-append-drop n behind)),
      rw (length-take-le n behind whole) stands.spelling,
    )

pub HasBlob-stands : (heap blob : List ℕ) (at : ℕ) → (at ≡ 0 → ⊥) → HasBlob heap at blob
    → (count : ℕ) × StandsAt Packed heap at (length blob) count × (at + count + length blob ≤ length heap)
HasBlob-stands heap blob zero past has = absurd (past refl)
HasBlob-stands heap blob (suc k) past (s, rest, e, p) =
    let filled = packed-filled s (length blob) p in
    let len : length heap - suc k ≡ length s + (length blob + length rest)
    = sym (length-drop (suc k) heap) ∙ ap length e ∙ length-append s (blob ++ rest) ∙ ap (λ n. length s + n) (length-append blob rest) in (
      length s,
      record { inside = omega arith; spelling = rw (e, take-append_seam s (blob ++ rest)) p },
      omega arith,
    )

-- a unit that needs more than 8 bits, among units
pub HasSpecial-first : (a b : ℕ) (rest : List ℕ) → IsSpecial a b → HasSpecial (a ∷ b ∷ rest)
HasSpecial-first a b rest is = (0, omega arith, is)

pub HasSpecial-later : (a b : ℕ) (rest : List ℕ) → HasSpecial rest → HasSpecial (a ∷ b ∷ rest)
HasSpecial-later a b rest (k, less, is) =
    let low : 2 * suc k ≡ suc (suc (2 * k)) = omega arith in
    let high : 2 * suc k + 1 ≡ suc (suc (2 * k + 1)) = omega arith in
    (suc k, omega arith, rw (high, low) is)

pub HasSpecial-cases : (a b : ℕ) (rest : List ℕ) → HasSpecial (a ∷ b ∷ rest) → IsSpecial a b ⊎ HasSpecial rest
HasSpecial-cases a b rest (zero, less, is) = inl is
HasSpecial-cases a b rest (suc k, less, is) =
    let low : 2 * suc k ≡ suc (suc (2 * k)) = omega arith in
    let high : 2 * suc k + 1 ≡ suc (suc (2 * k + 1)) = omega arith in
    inr (k, omega arith, rw (high, low) at is)

pub HasSpecial-short : (units : List ℕ) → length units < 2 → HasSpecial units → ⊥
HasSpecial-short units short (k, less, is) = omega arith

-- the units behind the first
pub HasSpecial-more : (units : List ℕ) → 2 ≤ length units → HasSpecial (take (length units - 2) (drop 2 units)) → HasSpecial units
HasSpecial-more [] two more = absurd (omega arith)
HasSpecial-more (a ∷ []) two more = absurd (omega arith)
HasSpecial-more (a ∷ b ∷ rest) two more = HasSpecial-later a b rest (rw (take_rest (a ∷ b ∷ rest) 2) at more)

pub HasSpecial-behind : (units : List ℕ) → 2 ≤ length units → (IsSpecial (get_or units 0 0) (get_or units 1 0) → ⊥) → HasSpecial units
    → HasSpecial (take (length units - 2) (drop 2 units))
HasSpecial-behind [] two other has = absurd (omega arith)
HasSpecial-behind (a ∷ []) two other has = absurd (omega arith)
HasSpecial-behind (a ∷ b ∷ rest) two other has = rw (take_rest (a ∷ b ∷ rest) 2) (elim (HasSpecial-cases a b rest has) [
  | inl is ↦ absurd (other is)
  | inr more ↦ more
])
