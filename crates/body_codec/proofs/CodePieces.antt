-- The pieces of code that is written.
use Rattle.std.proofs.Common.{◌≡◌, ◌∙◌, ℕ, zero, suc, ◌<◌, ◌+◌, List, [], ◌∷◌, ◌++◌, length, take, get_or, ap, refl, arith}
use Rattle.std.proofs.lemmas.List.{take_more, take_all, append-nil}
use Rattle.std.proofs.lemmas.Grind.{flat_map-append}
use Rattle.assembly_tree.specs.declared.body.Ins.{Ins}
use Rattle.body_codec.specs.Instruction.{Piece, bytes_of_pieces, piece_bytes}
use Rattle.body_codec.specs.Names.{TokenMap}
use Rattle.body_codec.specs.Written.{piece_of, pieces_from}

-- each instruction is a piece
pub length-pieces : (numbers : TokenMap) (os : List ℕ) (k : ℕ) (code : List Ins) → length (pieces_from numbers os k code) ≡ length code
length-pieces numbers os k [] = refl
length-pieces numbers os k (ins ∷ rest) = ap suc (length-pieces numbers os (k + 1) rest)

-- and the piece of instruction `j` is the one at its place
pub get_or-pieces : (numbers : TokenMap) (os : List ℕ) (k : ℕ) (code : List Ins) (j : ℕ) (p : Piece) (d : Ins) → j < length code → get_or (pieces_from numbers os k code) j p ≡ piece_of numbers os (k + j) (get_or code j d)
get_or-pieces numbers os k [] j p d h = absurd (omega arith)
get_or-pieces numbers os k (ins ∷ rest) zero p d h =
    let e : k ≡ k + 0 = omega arith in ap (λ n. piece_of numbers os n ins) e
get_or-pieces numbers os k (ins ∷ rest) (suc j) p d h =
    let e : k + 1 + j ≡ k + suc j = omega arith in
    get_or-pieces numbers os (k + 1) rest j p d (omega arith) ∙ ap (λ n. piece_of numbers os n (get_or rest j d)) e

pub first_piece : (numbers : TokenMap) (os : List ℕ) (code : List Ins) (j : ℕ) (p : Piece) (d : Ins) → j < length code → get_or (pieces_from numbers os 0 code) j p ≡ piece_of numbers os j (get_or code j d)
first_piece numbers os code j p d h =
    let e : 0 + j ≡ j = omega arith in get_or-pieces numbers os 0 code j p d h ∙ ap (λ n. piece_of numbers os n (get_or code j d)) e

-- the bytes of one more
pub pieces_more : (numbers : TokenMap) (os : List ℕ) (code : List Ins) (k : ℕ) (d : Ins) → k < length code
    → bytes_of_pieces (take (k + 1) (pieces_from numbers os 0 code))
    ≡ bytes_of_pieces (take k (pieces_from numbers os 0 code)) ++ piece_bytes (piece_of numbers os k (get_or code k d))
pieces_more numbers os code k d h =
    let ps : List Piece = pieces_from numbers os 0 code in
    let p : Piece = piece_of numbers os k (get_or code k d) in
    let inside : k < length ps = omega (arith, length-pieces numbers os 0 code) in
    ap bytes_of_pieces (take_more ps k p inside)
    ∙ flat_map-append piece_bytes (take k ps) (get_or ps k p ∷ [])
    ∙ ap (λ (q : Piece). bytes_of_pieces (take k ps) ++ (piece_bytes q ++ [])) (first_piece numbers os code k p d h)
    ∙ ap (λ (bs : List ℕ). bytes_of_pieces (take k ps) ++ bs) (append-nil (piece_bytes p))

-- the bytes of all of them
pub pieces_all : (numbers : TokenMap) (os : List ℕ) (code : List Ins) → bytes_of_pieces (take (length code) (pieces_from numbers os 0 code)) ≡ bytes_of_pieces (pieces_from numbers os 0 code)
pieces_all numbers os code =
    ap bytes_of_pieces (take_all (length code) (pieces_from numbers os 0 code) (omega (arith, length-pieces numbers os 0 code)))
