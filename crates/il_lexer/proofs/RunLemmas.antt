-- A run goes on behind its first piece.
use Rattle.std.proofs.Common.{◌≡◌, ℕ, zero, suc, ◌+◌, ◌<◌, ◌≤◌, List, [], ◌∷◌, length, drop, Option, None, Some, refl, ap, sym, ◌∙◌, ◌-◌, arith, length-drop, add-zero, drop-drop}
use Rattle.il_lexer.specs.declared.runs.Run.{Run}
use Rattle.il_lexer.specs.Runs.{no_piece, joined, from_piece, run_within, run_of}

same_more : (o : Option ℕ) (f g : ℕ → Run) → ((n : ℕ) → f (suc n) ≡ g (suc n)) → from_piece o f ≡ from_piece o g
same_more None f g h = refl
same_more (Some zero) f g h = refl
same_more (Some (suc n)) f g h = ap (joined (suc n)) (h n)

-- any number of turns that is enough gives the same
enough : (piece : List ℕ → Option ℕ) (t u : ℕ) (bs : List ℕ) → length bs ≤ t → length bs ≤ u →
    run_within t piece bs ≡ run_within u piece bs
enough piece zero zero bs a b = refl
enough piece zero (suc u) [] a b = refl
enough piece zero (suc u) (x ∷ bs) a b = absurd (omega arith)
enough piece (suc t) zero [] a b = refl
enough piece (suc t) zero (x ∷ bs) a b = absurd (omega arith)
enough piece (suc t) (suc u) [] a b = refl
enough piece (suc t) (suc u) (x ∷ bs) a b =
    same_more (piece (x ∷ bs)) _ _
    (λ n.
    let left : length (drop n bs) ≤ t = omega (arith, length-drop n bs) in
    let right : length (drop n bs) ≤ u = omega (arith, length-drop n bs) in
    enough piece t u (drop n bs) left right)

first_piece : (piece : List ℕ → Option ℕ) (b : ℕ) (bs : List ℕ) →
    run_of piece (b ∷ bs) ≡ from_piece (piece (b ∷ bs)) (λ n. run_of piece (drop n (b ∷ bs)))
unfolding run_of
first_piece piece b bs =
    same_more (piece (b ∷ bs)) _ _
    (λ n.
    let left : length (drop n bs) ≤ length bs = omega (arith, length-drop n bs) in
    let right : length (drop n bs) ≤ length (drop n bs) = omega arith in
    enough piece (length bs) (length (drop n bs)) (drop n bs) left right)

-- with a piece at the front the run is that piece and the run behind it
pub run-some : (piece : List ℕ → Option ℕ) (bs : List ℕ) (n : ℕ) → piece bs ≡ Some n → 0 < n → n ≤ length bs →
    run_of piece bs ≡ joined n (run_of piece (drop n bs))
run-some piece [] n e low high = absurd (omega arith)
run-some piece (b ∷ bs) zero e low high = absurd (omega arith)
run-some piece (b ∷ bs) (suc n) e low high =
    first_piece piece b bs ∙ ap (λ o. from_piece o (λ m. run_of piece (drop m (b ∷ bs)))) e

-- without one there is none
pub run-none : (piece : List ℕ → Option ℕ) (bs : List ℕ) → piece bs ≡ None → run_of piece bs ≡ no_piece
unfolding run_of
run-none piece [] e = refl
run-none piece (b ∷ bs) e = ap (λ o. from_piece o (λ m. run_within (length bs) piece (drop m (b ∷ bs)))) e

-- one turn of the loop that takes pieces: the passed bytes and pieces with the run behind them stay the whole run
pub record Passed (piece : List ℕ → Option ℕ) (bs : List ℕ) (at count : ℕ) : Type 0 where
  pub within : at ≤ length bs
  pub few : count ≤ at
  pub bytes : (run_of piece bs).bytes ≡ at + (run_of piece (drop at bs)).bytes
  pub pieces : (run_of piece bs).pieces ≡ count + (run_of piece (drop at bs)).pieces

pub passed-more : (piece : List ℕ → Option ℕ) (bs : List ℕ) (at pieces n : ℕ) → Passed piece bs at pieces →
    piece (drop at bs) ≡ Some n → 0 < n → n ≤ length (drop at bs) → Passed piece bs (at + n) (pieces + 1)
passed-more piece bs at pieces n p e low high =
    let len : length (drop at bs) ≡ length bs - at = length-drop at bs in
    let on : run_of piece (drop at bs) ≡ joined n (run_of piece (drop (at + n) bs)) =
    run-some piece (drop at bs) n e low high ∙ ap (λ rest. joined n (run_of piece rest)) (drop-drop n at bs) in
    let b = ap (λ r. r.bytes) on in
    let k = ap (λ r. r.pieces) on in
    let within : at ≤ length bs = p.within in
    let few : pieces ≤ at = p.few in
    let bytes : (run_of piece bs).bytes ≡ at + (run_of piece (drop at bs)).bytes = p.bytes in
    let count : (run_of piece bs).pieces ≡ pieces + (run_of piece (drop at bs)).pieces = p.pieces in
    record {
      within = omega arith;
      few = omega arith;
      bytes = omega arith;
      pieces = omega arith;
    }

pub passed-all : (piece : List ℕ → Option ℕ) (bs : List ℕ) (at pieces : ℕ) → Passed piece bs at pieces →
    piece (drop at bs) ≡ None → record { bytes = at; pieces = pieces } ≡ run_of piece bs
passed-all piece bs at pieces p e =
    let none : run_of piece (drop at bs) ≡ no_piece = run-none piece (drop at bs) e in
    let b : (run_of piece bs).bytes ≡ at = p.bytes ∙ ap (λ r. at + r.bytes) none ∙ add-zero at in
    let k : (run_of piece bs).pieces ≡ pieces = p.pieces ∙ ap (λ r. pieces + r.pieces) none ∙ add-zero pieces in
    sym (ap (λ n. record { bytes = n; pieces = (run_of piece bs).pieces }) b ∙ ap (λ n. record { bytes = at; pieces = n }) k)

-- a piece at the front, and the run behind it
pub run-piece : (piece : List ℕ → Option ℕ) (b n : ℕ) (bs : List ℕ) → piece (b ∷ bs) ≡ Some (suc n) →
    run_of piece (b ∷ bs) ≡ joined (suc n) (run_of piece (drop n bs))
run-piece piece b n bs e = first_piece piece b bs ∙ ap (λ o. from_piece o (λ m. run_of piece (drop m (b ∷ bs)))) e
