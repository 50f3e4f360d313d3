use Rattle.std.proofs.Common.{◌≡◌, ℕ, List, [], ◌∷◌, length, refl, sym, ap, ◌∙◌, arith}
use Rattle.std.proofs.lemmas.Bool.{eqb-true}
use Rattle.il_lexer.specs.WordList.{word_number}
use Rattle.il_lexer.proofs.WordNumbers.{none-empty}
use Rattle.il_lexer.proofs.words.word_number.Goals as goal

empty : (bs : List ℕ) → length bs ≡ 0 → bs ≡ []
empty [] e = refl
empty (b ∷ bs) e = absurd (omega arith)

pub returns-then-is_empty : goal.returns-then-is_empty
returns-then-is_empty c =
    let text = c.args.text.now in
    sym (ap word_number (empty text (eqb-true (length text) 0 (sym c.if-is_empty.ensures))) ∙ none-empty)
