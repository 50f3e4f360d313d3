-- What stands at an index of a heap is one content, and stays where the heap grows at its end.
use Rattle.std.proofs.Common.{◌≡◌, ℕ, zero, suc, ◌+◌, ◌*◌, ◌-◌, ◌/◌, ◌%◌, ◌<◌, ◌≤◌, List, ◌∷◌, ◌++◌, [], length, drop, take, get_or, sym, ◌∙◌, ap, refl, arith}
use Rattle.std.specs.Prelude.{All, IsUtf8, ◌≢◌, Option, Some, None, IfNone}
use Rattle.std.proofs.lemmas.List.{length-append, length-drop, length-take, drop-append-le, append_assoc, get_or-take, get_or_default, take-append-drop}
use Rattle.std.proofs.lemmas.List.Elements.{All-head, All-tail}
use Rattle.std.proofs.Math.Seq.{drop-append_seam, take-append_seam}
use Rattle.heaps.specs.Content.{BeginsText, HasText, HasGuid}

-- what stands in a list stands in it with more at its end
pub drop_more : (n : ℕ) (xs ys more : List ℕ) (y : ℕ) → drop n xs ≡ y ∷ ys → drop n (xs ++ more) ≡ (y ∷ ys) ++ more
drop_more n xs ys more y e =
    let len : length xs - n ≡ suc (length ys) = sym (length-drop n xs) ∙ ap length e in
    let within : n ≤ length xs = omega arith in
    drop-append-le n xs more within ∙ ap (λ zs. zs ++ more) e

-- a first zero byte ends both fronts
same_front : (xs ys rs ss : List ℕ) → All (λ b. b ≢ 0) xs → All (λ b. b ≢ 0) ys → xs ++ (0 ∷ rs) ≡ ys ++ (0 ∷ ss) → xs ≡ ys
same_front [] [] rs ss p q e = refl
same_front [] (y ∷ ys) rs ss p q e = let z : y ≡ 0 = cc in absurd (All-head (λ b. b ≢ 0) y ys q z)
same_front (x ∷ xs) [] rs ss p q e = let z : x ≡ 0 = cc in absurd (All-head (λ b. b ≢ 0) x xs p z)
same_front (x ∷ xs) (y ∷ ys) rs ss p q e =
    let heads : x ≡ y = cc in
    let tails : xs ++ (0 ∷ rs) ≡ ys ++ (0 ∷ ss) = cc in
    let same = same_front xs ys rs ss (All-tail (λ b. b ≢ 0) x xs p) (All-tail (λ b. b ≢ 0) y ys q) tails in
    cc

pub HasText-unique : (bytes : List ℕ) (k : ℕ) (c d : List ℕ) → HasText bytes k c → HasText bytes k d → c ≡ d
HasText-unique bytes zero c d here there = here ∙ sym there
HasText-unique bytes (suc k) c d (rs, e, nz, u) (ss, f, mz, v) = same_front c d rs ss nz mz (sym e ∙ f)

text_more : (n : ℕ) (xs text rest more : List ℕ) → drop n xs ≡ text ++ (0 ∷ rest) → drop n (xs ++ more) ≡ text ++ (0 ∷ (rest ++ more))
text_more n xs [] rest more e = drop_more n xs rest more 0 e
text_more n xs (t ∷ ts) rest more e = drop_more n xs (ts ++ (0 ∷ rest)) more t e ∙ append_assoc (t ∷ ts) (0 ∷ rest) more

pub HasText-append : (bytes more : List ℕ) (k : ℕ) (c : List ℕ) → HasText bytes k c → HasText (bytes ++ more) k c
HasText-append bytes more zero c here = here
HasText-append bytes more (suc k) c (rest, e, nz, u) = (rest ++ more, text_more (suc k) bytes c rest more e, nz, u)

-- a text that was added at the end
pub HasText-end : (bytes : List ℕ) (n : ℕ) (c : List ℕ) → n ≡ length bytes → 0 < n → All (λ b. b ≢ 0) c → IsUtf8 c → HasText (bytes ++ ([] ++ (c ++ 0 ∷ []))) n c
HasText-end bytes zero c e some nz u = absurd (omega arith)
HasText-end bytes (suc k) c e some nz u = ([], rw e (drop-append_seam bytes (c ++ 0 ∷ [])), nz, u)

pub HasGuid-unique : (bytes : List ℕ) (k : ℕ) (c d : List ℕ) → HasGuid bytes k c → HasGuid bytes k d → c ≡ d
HasGuid-unique bytes zero c d here there = absurd here
HasGuid-unique bytes (suc k) c d (rs, e, whole) (ss, f, also) =
    sym (take-append_seam c rs) ∙ ap (λ n. take n (c ++ rs)) (whole ∙ sym also) ∙ ap (take (length d)) (sym e ∙ f) ∙ take-append_seam d ss

guid_more : (n : ℕ) (xs id rest more : List ℕ) → length id ≡ 16 → drop n xs ≡ id ++ rest → drop n (xs ++ more) ≡ id ++ (rest ++ more)
guid_more n xs [] rest more whole e = absurd (omega arith)
guid_more n xs (t ∷ ts) rest more whole e = drop_more n xs (ts ++ rest) more t e ∙ append_assoc (t ∷ ts) rest more

pub HasGuid-append : (bytes more : List ℕ) (k : ℕ) (c : List ℕ) → HasGuid bytes k c → HasGuid (bytes ++ more) k c
HasGuid-append bytes more zero c here = absurd here
HasGuid-append bytes more (suc k) c (rest, e, whole) = (rest ++ more, guid_more (16 * k) bytes c rest more whole e, whole)

-- an identifier that was added at the end
pub HasGuid-end : (bytes : List ℕ) (n : ℕ) (c : List ℕ) → n ≡ length bytes / 16 + 1 → length bytes % 16 ≡ 0 → length c ≡ 16
    → HasGuid (bytes ++ ([] ++ (c ++ []))) n c
HasGuid-end bytes zero c e whole len = absurd (omega arith)
HasGuid-end bytes (suc k) c e whole len =
    let at : 16 * k ≡ length bytes = omega arith in
    ([], rw at (drop-append_seam bytes (c ++ [])), len)

-- a text in front of its zero byte
front_at : (xs : List ℕ) (n : ℕ) → n < length xs → get_or xs n 0 ≡ 0 → xs ≡ take n xs ++ (0 ∷ drop (suc n) xs)
front_at [] n less zero_there = absurd (omega arith)
front_at (x ∷ xs) zero less zero_there = ap (λ z. z ∷ xs) zero_there
front_at (x ∷ xs) (suc n) less zero_there = ap (λ zs. x ∷ zs) (front_at xs n (omega arith) zero_there)

front_full : (xs : List ℕ) (n : ℕ) → n ≤ length xs → ((k : ℕ) → k < n → get_or xs k 0 ≡ 0 → ⊥) → All (λ b. b ≢ 0) (take n xs)
front_full xs n within before k d less =
    let len = length-take n xs in
    let below : k < n = omega arith in
    let e : get_or (take n xs) k d ≡ get_or xs k 0 = get_or-take n xs k d below ∙ get_or_default xs k d 0 (omega arith) in
    λ z. before k below (sym e ∙ z)

module _ (bytes : List ℕ) (n : ℕ) (less : n < length bytes) (zero_there : get_or bytes n 0 ≡ 0) (before : (k : ℕ) → k < n → get_or bytes k 0 ≡ 0 → ⊥) where
  pub BeginsText-here : IsUtf8 (take n bytes) → BeginsText bytes (take n bytes)
  BeginsText-here utf8 = (drop (suc n) bytes, front_at bytes n less zero_there, front_full bytes n (omega arith) before, utf8)

  -- the text ends at the first zero byte
  pub BeginsText-ends : (text : List ℕ) → BeginsText bytes text → text ≡ take n bytes
  BeginsText-ends text (rest, e, nz, u) =
      same_front text (take n bytes) rest (drop (suc n) bytes) nz (front_full bytes n (omega arith) before) (sym e ∙ front_at bytes n less zero_there)

zero_behind : (text rest : List ℕ) → (length text < length (text ++ (0 ∷ rest))) × (get_or (text ++ (0 ∷ rest)) (length text) 0 ≡ 0)
zero_behind [] rest = (omega arith, refl)
zero_behind (t ∷ ts) rest = let r = zero_behind ts rest in (omega arith, r.1)

pub BeginsText-ended : (bytes text : List ℕ) → ((k : ℕ) → k < length bytes → get_or bytes k 0 ≡ 0 → ⊥) → BeginsText bytes text → ⊥
BeginsText-ended bytes text none (rest, e, nz, u) =
    let z = zero_behind text rest in
    none (length text) (rw e z.0) (rw e z.1)

-- past the first index the two say the same, and past the heap there is no text
pub HasText-begins : (heap text : List ℕ) (at : ℕ) → (at ≡ 0 → ⊥) → BeginsText (drop at heap) text → HasText heap at text
HasText-begins heap text zero past begins = absurd (past refl)
HasText-begins heap text (suc k) past begins = begins

pub BeginsText-has : (heap text : List ℕ) (at : ℕ) → (at ≡ 0 → ⊥) → HasText heap at text → BeginsText (drop at heap) text
BeginsText-has heap text zero past has = absurd (past refl)
BeginsText-has heap text (suc k) past has = has

pub HasText-within : (heap text : List ℕ) (at : ℕ) → (at ≡ 0 → ⊥) → length heap ≤ at → HasText heap at text → ⊥
HasText-within heap text at past beyond has =
    let b = BeginsText-has heap text at past has in
    let len : length heap - at ≡ length text + suc (length b.0) = sym (length-drop at heap) ∙ ap length b.1 ∙ length-append text (0 ∷ b.0) in
    omega arith

pub IfNone-map : {X : Type 0} (o : Option X) (P Q : Type 0) → (P → Q) → IfNone o P → IfNone o Q
IfNone-map None P Q f h = f h
IfNone-map (Some x) P Q f h = tt

pub HasGuid-at : (heap : List ℕ) (at : ℕ) → (at ≡ 0 → ⊥) → (at - 1) * 16 + 16 ≤ length heap
    → HasGuid heap at (take ((at - 1) * 16 + 16 - (at - 1) * 16) (drop ((at - 1) * 16) heap))
HasGuid-at heap zero past within = absurd (past refl)
HasGuid-at heap (suc k) past within =
    let start : (suc k - 1) * 16 ≡ 16 * k = omega arith in
    let count : 16 * k + 16 - 16 * k ≡ 16 = omega arith in
    rw (start, count) (
      drop 16 (drop (16 * k) heap),
      sym (take-append-drop 16 (drop (16 * k) heap)),
      rw (length-take, length-drop) (omega arith),
    )

pub HasGuid-within : (heap id : List ℕ) (at : ℕ) → length heap < (at - 1) * 16 + 16 → HasGuid heap at id → ⊥
HasGuid-within heap id zero beyond has = absurd has
HasGuid-within heap id (suc k) beyond (rest, e, whole) =
    let len : length heap - 16 * k ≡ length id + length rest = sym (length-drop (16 * k) heap) ∙ ap length e ∙ length-append id rest in
    omega arith
