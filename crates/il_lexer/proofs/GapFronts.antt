-- Gaps that are nothing or one blank.
use Rattle.std.proofs.Common.{◌≡◌, ℕ, ◌+◌, false, nat_eq, List, ◌∷◌, None, refl, ap, ◌∙◌}
use Rattle.std.proofs.lemmas.Bool.{cond-false, or_parts}
use Rattle.il_lexer.specs.Classes.{is_blank, is_gap_start}
use Rattle.il_lexer.specs.Gaps.{gap_piece, gap}
use Rattle.il_lexer.proofs.RunLemmas.{run-none, run-piece}

no_piece : (b : ℕ) (bs : List ℕ) → is_gap_start b ≡ false → gap_piece (b ∷ bs) ≡ None
no_piece b bs h =
    let parts = or_parts (is_blank b) (nat_eq b 47) h in
    cond-false _ _ _ parts.0 ∙ cond-false _ _ _ parts.1

pub gap_none : (b : ℕ) (bs : List ℕ) → is_gap_start b ≡ false → gap (b ∷ bs) ≡ 0
gap_none b bs h = ap (λ r. r.bytes) (run-none gap_piece (b ∷ bs) (no_piece b bs h))

pub gap_one : (b : ℕ) (bs : List ℕ) → is_gap_start b ≡ false → gap (32 ∷ b ∷ bs) ≡ 1
gap_one b bs h = ap (λ r. r.bytes) (run-piece gap_piece 32 0 (b ∷ bs) refl) ∙ ap (λ n. 1 + n) (gap_none b bs h)
