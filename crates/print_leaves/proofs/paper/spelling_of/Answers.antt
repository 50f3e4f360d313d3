use Rattle.std.proofs.Common.{◌≡◌, ◌≤◌, [], length, refl, sym, arith}
use Rattle.std.proofs.lemmas.List.{get_or_past}
use Rattle.il_lexer.specs.WordList.{words}
use Rattle.print_leaves.proofs.paper.spelling_of.Goals as goal

words_count : length words ≡ 401
unfolding words
words_count = refl

pub returns-else-number-lt401 : goal.returns-else-number-lt401
returns-else-number-lt401 c =
    let few : length words ≤ c.args.number = omega (arith, words_count) in sym (get_or_past words c.args.number [] few)
