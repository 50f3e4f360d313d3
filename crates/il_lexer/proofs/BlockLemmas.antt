-- The search for the end of a comment goes on behind a byte that doesn't begin it.
use Rattle.std.proofs.Common.{◌≡◌, ℕ, suc, ◌+◌, ◌<◌, false, List, ◌∷◌, length, drop, get_or, Option, None, Some, refl, ap, sym, ◌∙◌, arith, add-one, drop-cons, cond}
use Rattle.std.specs.Option.{option_map}
use Rattle.il_lexer.specs.Gaps.{is_close, block_length}

plus_one : (at : ℕ) (o : Option ℕ) → option_map (λ n. at + n) (option_map (λ n. 1 + n) o) ≡ option_map (λ n. (at + 1) + n) o
plus_one at None = refl
plus_one at (Some n) = ap Some (omega arith)

behind_byte : (x : ℕ) (xs : List ℕ) → is_close (x ∷ xs) ≡ false → block_length (x ∷ xs) ≡ option_map (λ n. 1 + n) (block_length xs)
behind_byte x xs h = ap (λ b. cond b (Some 2) (option_map (λ n. 1 + n) (block_length xs))) h

pub block-more : (rest : List ℕ) (at : ℕ) → at < length rest → is_close (drop at rest) ≡ false →
    block_length rest ≡ option_map (λ n. at + n) (block_length (drop at rest)) →
    block_length rest ≡ option_map (λ n. (at + 1) + n) (block_length (drop (at + 1) rest))
block-more rest at lt none whole =
    let front : drop at rest ≡ get_or rest at 0 ∷ drop (suc at) rest = drop-cons rest at 0 lt in
    let not_close : is_close (get_or rest at 0 ∷ drop (suc at) rest) ≡ false = ap is_close (sym front) ∙ none in
    whole
    ∙ ap (λ bs. option_map (λ n. at + n) (block_length bs)) front
    ∙ ap (option_map (λ n. at + n)) (behind_byte (get_or rest at 0) (drop (suc at) rest) not_close)
    ∙ plus_one at (block_length (drop (suc at) rest))
    ∙ ap (λ k. option_map (λ n. (at + 1) + n) (block_length (drop k rest))) (sym (add-one at))
