-- The first number of some at which a test holds.
use Rattle.std.proofs.Common.{◌≡◌, ℕ, zero, suc, ◌+◌, ◌*◌, ◌<◌, ◌≤◌, ◌⊎◌, inl, inr, min, Bool, true, false, cond, List, Option, Some, None, refl, sym, ◌∙◌, ap, arith}
use Rattle.std.specs.List.{find}
use Rattle.std.proofs.lemmas.Bool.{cond_both}
use Rattle.pe_layout.specs.FileMap.{section_at, sections_from, holds}
use Rattle.section_map.specs.Firsts.{first_from, holds_at}

-- it is none, or one of them at which the test holds
abbrev pub IsFirst : (ℕ → Bool) → (from n first : ℕ) → Type 0
IsFirst test from n first = (first ≡ 65536) ⊎ ((from ≤ first) × (first < from + n) × (test first ≡ true))

one_more : (test : ℕ → Bool) (from n first : ℕ) → IsFirst test (from + 1) n first → IsFirst test from (suc n) first
one_more test from n first (inl none) = inl none
one_more test from n first (inr (low, high, it)) = inr (omega (arith, low), omega (arith, high), it)

pub first_is : (test : ℕ → Bool) (from n : ℕ) → IsFirst test from n (first_from test from n)
first_is test from zero = inl refl
first_is test from (suc n) =
    cond_both (test from) from (first_from test (from + 1) n) (IsFirst test from (suc n)) (λ it. inr (omega arith, omega arith, it))
    (λ no. one_more test from n (first_from test (from + 1) n) (first_is test (from + 1) n))

-- ---- the first of all is the lesser of the first of a part and the first of the rest

none_or_not : (test : ℕ → Bool) (from n first : ℕ) → from + n ≤ 65536 → IsFirst test from n first → first ≡ min 65536 first
none_or_not test from n first few (inl none) = omega (arith, none)
none_or_not test from n first few (inr (low, high, it)) = omega (arith, high, few)

here_or_later : (test : ℕ → Bool) (from later n first : ℕ) → from < later → later + n ≤ 65536 → IsFirst test later n first → from ≡ min from first
here_or_later test from later n first before few (inl none) = omega (arith, none, before, few)
here_or_later test from later n first before few (inr (low, high, it)) = omega (arith, low, before)

split_here : (b : Bool) (from all part rest : ℕ) → all ≡ min part rest → from ≡ min from rest → cond b from all ≡ min (cond b from part) rest
split_here true from all part rest e here = here
split_here false from all part rest e here = e

pub first_split : (test : ℕ → Bool) (from m n all later : ℕ) → all ≡ m + n → later ≡ from + m → from + all ≤ 65536
    → first_from test from all ≡ min (first_from test from m) (first_from test later n)
first_split test from zero n all later e f few =
    let same : all ≡ n = omega (arith, e) in
    let start : later ≡ from = omega (arith, f) in
    let enough : later + n ≤ 65536 = omega (arith, e, f, few) in
    ap (first_from test from) same ∙ ap (λ k. first_from test k n) (sym start) ∙ none_or_not test later n (first_from test later n) enough (first_is test later n)
first_split test from (suc m) n zero later e f few = absurd (omega (arith, e))
first_split test from (suc m) n (suc all) later e f few =
    split_here (test from) from (first_from test (from + 1) all) (first_from test (from + 1) m) (first_from test later n)
    (first_split test (from + 1) m n all later (omega (arith, e)) (omega (arith, f)) (omega (arith, few)))
    (here_or_later test from later n (first_from test later n) (omega (arith, f)) (omega (arith, e, f, few)) (first_is test later n))

-- ---- the first section that holds an address, found among the section headers

found_here : {X : Type 0} (at : ℕ → X) (b : Bool) (from first : ℕ) (rest : Option X) → (first < 65536 → rest ≡ Some (at first)) → cond b from first < 65536
    → cond b (Some (at from)) rest ≡ Some (at (cond b from first))
found_here at true from first rest e some = refl
found_here at false from first rest e some = e some

pub section_found : (image : List ℕ) (table address from n place : ℕ) → place ≡ table + 40 * from → first_from (holds_at image table address) from n < 65536
    → find (holds address) (sections_from image place n) ≡ Some (section_at image (table + 40 * first_from (holds_at image table address) from n))
section_found image table address from zero place e some = absurd (omega (arith, some))
section_found image table address from (suc n) place e some =
    let next : place + 40 ≡ table + 40 * (from + 1) = omega (arith, e) in
    let rest = section_found image table address (from + 1) n (place + 40) next in
    let here = found_here (λ k. section_at image (table + 40 * k)) (holds_at image table address from) from (first_from (holds_at image table address) (from + 1) n)
    (find (holds address) (sections_from image (place + 40) n)) rest some in
    ap (λ p. cond (holds address (section_at image p)) (Some (section_at image p)) (find (holds address) (sections_from image (place + 40) n))) e ∙ here

none_here : {X : Type 0} (b : Bool) (from first : ℕ) (x : X) (rest : Option X) → from < 65536 → (first ≡ 65536 → rest ≡ None) → cond b from first ≡ 65536
    → cond b (Some x) rest ≡ None
none_here true from first x rest few e none = absurd (omega (arith, few, none))
none_here false from first x rest few e none = e none

pub section_none : (image : List ℕ) (table address from n place : ℕ) → place ≡ table + 40 * from → from + n ≤ 65536
    → first_from (holds_at image table address) from n ≡ 65536 → find (holds address) (sections_from image place n) ≡ None
section_none image table address from zero place e few none = refl
section_none image table address from (suc n) place e few none =
    let next : place + 40 ≡ table + 40 * (from + 1) = omega (arith, e) in
    let rest = section_none image table address (from + 1) n (place + 40) next (omega (arith, few)) in
    let here = none_here (holds_at image table address from) from (first_from (holds_at image table address) (from + 1) n) (section_at image (table + 40 * from))
    (find (holds address) (sections_from image (place + 40) n)) (omega (arith, few)) rest none in
    ap (λ p. cond (holds address (section_at image p)) (Some (section_at image p)) (find (holds address) (sections_from image (place + 40) n))) e ∙ here
