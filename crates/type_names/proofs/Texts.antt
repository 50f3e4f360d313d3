-- The text at an index of a heap of strings is what its bytes up to a zero spell.
use Rattle.std.proofs.Common.{◌≡◌, ℕ, zero, suc, List, [], ◌∷◌, ◌++◌, drop, refl, sym, ◌∙◌, ap, arith}
use Rattle.std.specs.Prelude.{All, ◌≢◌, ◌==◌}
use Rattle.std.proofs.lemmas.Bool.{ne_eqb, cond-false}
use Rattle.heaps.specs.Content.{HasText, BeginsText}
use Rattle.name_numbers.specs.Texts.{front, front_at, text_in}

front_of : (text rest : List ℕ) → All (λ byte. byte ≢ 0) text → front (text ++ 0 ∷ rest) ≡ text
front_of [] rest full = refl
front_of (b ∷ bs) rest full =
    let n : b ≡ 0 → ⊥ = full 0 0 (omega arith) in
    let r = front_of bs rest (λ k d less. full (suc k) d (omega arith)) in
    cond-false (b == 0) [] (b ∷ front (bs ++ 0 ∷ rest)) (ne_eqb b 0 n) ∙ ap (λ t. b ∷ t) r

begins_text : (heap : List ℕ) (at : ℕ) (text : List ℕ) → BeginsText (drop at heap) text → front_at heap at ≡ text
unfolding front_at
begins_text heap at text (rest, e, full, utf8) = ap front e ∙ front_of text rest full

pub text_is : (heap : List ℕ) (at : ℕ) (text : List ℕ) → HasText heap at text → text_in heap at ≡ text
unfolding text_in
text_is heap zero text h = sym h
text_is heap (suc k) text h = begins_text heap (suc k) text h
