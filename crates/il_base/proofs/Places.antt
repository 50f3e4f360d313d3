-- Packed spellings at the front of a list, and at a place in it.
use Rattle.std.proofs.Common.{◌≡◌, ℕ, ◌+◌, ◌≤◌, ℤ, List, ◌++◌, length, take, drop, sym, ap, ◌∙◌, arith, rules}
use Rattle.std.proofs.lemmas.List.{take-append-drop}
use Rattle.std.proofs.lemmas.Grind.{common_steps}
use Rattle.il_base.specs.Numbers.{Packed, PackedSigned, StandsAt}

-- no packed spelling begins another
pub packed-begins : (front other after beyond : List ℕ) (n m : ℕ) → front ++ after ≡ other ++ beyond → Packed front n → Packed other m → (front ≡ other) × (n ≡ m) × (after ≡ beyond)
packed-begins front other after beyond n m same a b = grind (arith, common_steps)

pub packed_signed-begins : (front other after beyond : List ℕ) (n m : ℤ) → front ++ after ≡ other ++ beyond → PackedSigned front n → PackedSigned other m → (front ≡ other) × (n ≡ m) × (after ≡ beyond)
packed_signed-begins = search rules

front_and_rest : (count other : ℕ) (d : List ℕ) → take count d ++ drop count d ≡ take other d ++ drop other d
front_and_rest count other d = take-append-drop count d ∙ sym (take-append-drop other d)

same_length : (bytes : List ℕ) (at count other : ℕ) → at + count ≤ length bytes → at + other ≤ length bytes → take count (drop at bytes) ≡ take other (drop at bytes) → count ≡ other
same_length bytes at count other a b same =
    let e = ap length same in grind (arith, common_steps)

-- at most one number stands at a place, with one length
pub packed-at : (bytes : List ℕ) (at n m count other : ℕ) → StandsAt Packed bytes at n count → StandsAt Packed bytes at m other → (n ≡ m) × (count ≡ other)
packed-at bytes at n m count other a b =
    let same = packed-begins _ _ _ _ n m (front_and_rest count other (drop at bytes)) a.spelling b.spelling in
    (same.1, same_length bytes at count other a.inside b.inside same.0)

pub packed_signed-at : (bytes : List ℕ) (at count other : ℕ) (n m : ℤ) → StandsAt PackedSigned bytes at n count → StandsAt PackedSigned bytes at m other → (n ≡ m) × (count ≡ other)
packed_signed-at bytes at count other n m a b =
    let same = packed_signed-begins _ _ _ _ n m (front_and_rest count other (drop at bytes)) a.spelling b.spelling in
    (same.1, same_length bytes at count other a.inside b.inside same.0)
