-- Where a text that stands in a heap of strings is empty.
use Rattle.std.proofs.Common.{◌≡◌, ℕ, zero, suc, ◌+◌, ◌-◌, ◌<◌, List, [], ◌∷◌, ◌++◌, length, drop, get_or, arith, refl, sym, ◌∙◌, ap}
use Rattle.std.specs.Prelude.{◌↔◌, All, ◌≢◌}
use Rattle.std.proofs.lemmas.List.{get_or-drop, length-drop, length-append}
use Rattle.heaps.specs.Content.{HasText, BeginsText}

some : (t : ℕ) (ts : List ℕ) → 0 < length (t ∷ ts)
some t ts = omega arith

not_empty : (t : ℕ) (ts : List ℕ) → t ∷ ts ≡ [] → ⊥
not_empty t ts e = let l : length (t ∷ ts) ≡ 0 = ap length e in let s = some t ts in absurd (omega arith)

-- the byte at which a text begins is zero exactly where it is empty
first_is : (text rest : List ℕ) → All (λ byte. byte ≢ 0) text → (text ≡ []) ↔ (get_or (text ++ 0 ∷ rest) 0 0 ≡ 0)
first_is [] rest full = (λ e. refl, λ z. refl)
first_is (t ∷ ts) rest full = (λ e. absurd (not_empty t ts e), λ z. absurd (full 0 0 (some t ts) z))

at_start : (heap : List ℕ) (n : ℕ) (text : List ℕ) → BeginsText (drop n heap) text → (text ≡ []) ↔ (get_or heap n 0 ≡ 0)
at_start heap n text (rest, e, full, utf8) =
    let same : get_or heap n 0 ≡ get_or (text ++ 0 ∷ rest) 0 0 = ap (λ k. get_or heap k 0) (omega arith) ∙ sym (get_or-drop n heap 0 0) ∙ ap (λ bytes. get_or bytes 0 0) e in
    let f = first_is text rest full in
    (λ empty. same ∙ f.0 empty, λ z. f.1 (sym same ∙ z))

pub empty_at : (heap : List ℕ) (at : ℕ) → (at ≡ 0 → ⊥) → (text : List ℕ) → HasText heap at text → (text ≡ []) ↔ (get_or heap at 0 ≡ 0)
empty_at heap zero one text h = absurd (one refl)
empty_at heap (suc k) one text h = at_start heap (suc k) text h

within : (n : ℕ) (heap text rest : List ℕ) → drop n heap ≡ text ++ 0 ∷ rest → n < length heap
within n heap text rest e =
    let l : length heap - n ≡ length text + length (0 ∷ rest) = sym (length-drop n heap) ∙ ap length e ∙ length-append text (0 ∷ rest) in omega arith

pub text_within : (heap : List ℕ) (at : ℕ) → (at ≡ 0 → ⊥) → (text : List ℕ) → HasText heap at text → at < length heap
text_within heap zero one text h = absurd (one refl)
text_within heap (suc k) one text (rest, e, full, utf8) = within (suc k) heap text rest e
