-- Lists cut into pieces of one size.
use Rattle.std.proofs.Common.{◌≡◌, ℕ, ◌+◌, ◌*◌, ◌<◌, ◌≤◌, List, [], ◌∷◌, ◌++◌, length, get_or, take, drop, refl, sym, ap, ◌∙◌, arith, ⊎_elim}
use Rattle.std.specs.List.{All}
use Rattle.std.proofs.Math.Nat.{mul-le-mul_left}
use Rattle.std.proofs.lemmas.Bool.{cases_lt}
use Rattle.std.proofs.lemmas.List.{length-take-le, length-drop, drop-append-le, take-append-le, take_all, drop_at, same_lists}
use Rattle.std.proofs.lemmas.List.FromFn.{length-map-range_with_len, get_or-map-range_with_len, map-range_with_len_more}
use Rattle.metadata_tables.specs.Encoding.{pieces}

pub length-pieces : (size count : ℕ) (cells : List ℕ) → length (pieces size count cells) ≡ count
unfolding pieces
length-pieces size count cells = length-map-range_with_len _ 0 count

pub piece_at : (size count : ℕ) (cells : List ℕ) (k : ℕ) (d : List ℕ) → k < count → get_or (pieces size count cells) k d ≡ take size (drop (size * k) cells)
unfolding pieces
piece_at size count cells k d h =
    get_or-map-range_with_len (λ j. take size (drop (size * j) cells)) 0 count k k d h (omega arith)

-- a piece ends in the list
pub piece_ends : (size count k : ℕ) → k < count → size * k + size ≤ size * count
piece_ends size count k h = let e = mul-le-mul_left size h in omega (arith, e)

-- it has its size
pub length-piece : (size count : ℕ) (cells : List ℕ) (k : ℕ) → length cells ≡ size * count → k < count → length (take size (drop (size * k) cells)) ≡ size
length-piece size count cells k all h =
    let ends = piece_ends size count k h in
    let rest = length-drop (size * k) cells in
    length-take-le size (drop (size * k) cells) (omega (arith, ends, rest, all))

-- no pieces
pub pieces_none : (size : ℕ) (cells : List ℕ) → pieces size 0 cells ≡ []
unfolding pieces
pieces_none size cells = refl

-- what follows changes no piece before it
same_before : (size count : ℕ) (cells new : List ℕ) → length cells ≡ size * count → pieces size count (cells ++ new) ≡ pieces size count cells
same_before size count cells new all =
    let front = length-pieces size count (cells ++ new) in
    let back = length-pieces size count cells in
    same_lists (pieces size count (cells ++ new)) (pieces size count cells) (front ∙ sym back) (λ k d h.
    let inside : k < count = omega (arith, h, front) in
    let ends = piece_ends size count k inside in
    let dropped : drop (size * k) (cells ++ new) ≡ drop (size * k) cells ++ new = drop-append-le (size * k) cells new (omega (arith, ends, all)) in
    let rest = length-drop (size * k) cells in
    let taken : take size (drop (size * k) cells ++ new) ≡ take size (drop (size * k) cells) = take-append-le size (drop (size * k) cells) new (omega (arith, ends, all, rest)) in
    piece_at size count (cells ++ new) k d inside ∙ ap (take size) dropped ∙ taken ∙ sym (piece_at size count cells k d inside))

-- one piece more
pub pieces_more : (size count : ℕ) (cells new : List ℕ) → length cells ≡ size * count → length new ≡ size → pieces size (count + 1) (cells ++ new) ≡ pieces size count cells ++ new ∷ []
unfolding pieces
pieces_more size count cells new all one =
    let f : ℕ → List ℕ = λ k. take size (drop (size * k) (cells ++ new)) in
    let last : f count ≡ new = ap (take size) (drop_at cells new (size * count) all) ∙ take_all size new (omega (arith, one)) in
    map-range_with_len_more f 0 count count (omega arith)
    ∙ ap (λ (x : List ℕ). pieces size count (cells ++ new) ++ x ∷ []) last
    ∙ ap (λ (x : List (List ℕ)). x ++ new ∷ []) (same_before size count cells new all)

-- Where all pieces are as long as n, n is their size, unless there are none.
same_size : (size count n : ℕ) (cells : List ℕ) → length cells ≡ size * count → All (λ row. length row ≡ n) (pieces size count cells) → 0 < count → size ≡ n
same_size size count n cells all alike some =
    let there = length-pieces size count cells in
    sym (length-piece size count cells 0 all some) ∙ sym (ap length (piece_at size count cells 0 [] some)) ∙ alike 0 [] (omega (arith, some, there))

pub resized : (size count n : ℕ) (cells : List ℕ) → length cells ≡ size * count → All (λ row. length row ≡ n) (pieces size count cells) → (length cells ≡ n * count) × (pieces size count cells ≡ pieces n count cells)
resized size count n cells all alike = ⊎_elim
    (λ some. let e = same_size size count n cells all alike some in (rw (← e) all, ap (λ (s : ℕ). pieces s count cells) e))
    (λ (h : count ≤ 0). let none : count ≡ 0 = omega arith in
    (rw none (let z = rw none at all in omega (arith, z)), rw none (pieces_none size cells ∙ sym (pieces_none n cells))))
    (cases_lt 0 count)
