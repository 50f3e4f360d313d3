-- The begins of lines.
use Rattle.std.proofs.Common.{◌≡◌, ℕ, zero, suc, ◌+◌, ◌*◌, Bool, cond, [], ◌∷◌, ◌++◌, refl, ap, sym, ◌∙◌, append_assoc, arith}
use Rattle.listing_model.specs.Text.{blanks}
use Rattle.print_leaves.specs.Page.{line_begin}

blanks_last : (n : ℕ) → 32 ∷ blanks n ≡ blanks n ++ 32 ∷ []
blanks_last zero = refl
blanks_last (suc n) = ap (λ b. 32 ∷ b) (blanks_last n)

two_more : (n : ℕ) → blanks (suc (suc n)) ≡ blanks n ++ 32 ∷ 32 ∷ []
two_more n =
    ap (λ b. 32 ∷ b) (blanks_last n)
    ∙ (ap (λ b. b ++ 32 ∷ []) (blanks_last n) ∙ append_assoc (blanks n) (32 ∷ []) (32 ∷ []))

pub line_more : (ends : Bool) (level : ℕ) → line_begin ends (level + 1) ≡ line_begin ends level ++ 32 ∷ 32 ∷ []
line_more ends level =
    let e : 2 * (level + 1) ≡ suc (suc (2 * level)) = omega arith in
    ap (λ n. cond ends (10 ∷ []) [] ++ blanks n) e
    ∙ (ap (λ b. cond ends (10 ∷ []) [] ++ b) (two_more (2 * level))
    ∙ sym (append_assoc (cond ends (10 ∷ []) []) (blanks (2 * level)) (32 ∷ 32 ∷ [])))
