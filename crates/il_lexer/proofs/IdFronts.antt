-- How far an identifier goes on behind a front of it.
use Rattle.std.proofs.Common.{◌≡◌, ℕ, suc, ◌+◌, true, false, List, drop, ap, sym, ◌∙◌, arith}
use Rattle.il_lexer.specs.Classes.{first_passes, is_id_part}
use Rattle.il_lexer.specs.Runs.{front}
use Rattle.il_lexer.proofs.Fronts.{front-stops}
use Rattle.il_lexer.proofs.PlainNames.{front-more}

-- a byte that goes on is one more, and what goes on behind it is the rest
pub part_more : (bs : List ℕ) (n m : ℕ) → first_passes is_id_part (drop n bs) ≡ true → m ≡ n + 1 →
    m + front is_id_part (drop m bs) ≡ n + front is_id_part (drop n bs)
part_more bs n m h e =
    let next : m ≡ suc n = omega (arith, e) in
    ap (λ (k : ℕ). k + front is_id_part (drop k bs)) next ∙ sym (front-more is_id_part bs n h)

-- a byte that doesn't go on ends it
pub part_none : (bs : List ℕ) (n : ℕ) → first_passes is_id_part (drop n bs) ≡ false → front is_id_part (drop n bs) ≡ 0
part_none bs n h = front-stops is_id_part (drop n bs) h
