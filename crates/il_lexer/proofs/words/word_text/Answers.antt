use Rattle.std.proofs.Common.{ℕ, List, refl, Bor}
use Rattle.std.proofs.Math.ListN.{get_or-map}
use Rattle.il_lexer.specs.WordList.{words}
use Rattle.il_lexer.proofs.words.word_text.Goals as goal

-- the text at a place of the table is the one at that place of its texts
pub returns : goal.returns
unfolding words
returns c = rw (← get_or-map (λ (x : Bor (List ℕ)). x.now)) refl
