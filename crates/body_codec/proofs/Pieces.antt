-- A whole instruction is told by the bytes that begin with it, and so are the instructions that code is cut into.
use Rattle.std.proofs.Common.{◌≡◌, ◌∙◌, sym, ap, subst, refl, ℕ, zero, suc, ◌+◌, ◌<◌, ◌≤◌, List, [], ◌∷◌, ◌++◌, length, take, drop, get_or, Option, None, Some, arith}
use Rattle.std.specs.List.{All}
use Rattle.std.proofs.lemmas.List.{append_assoc, length-append, take_at, drop_at, take_all, get_or_append_left, take-append-le}
use Rattle.byteorder.specs.Endian.{little_number}
use Rattle.opcode_table.specs.declared.op.Op.{Op}
use Rattle.opcode_table.specs.declared.kind.OperandKind.{OperandKind}
use Rattle.opcode_table.specs.declared.kind.OperandKind.TheVariants as kinds
use Rattle.body_codec.specs.Instruction.{Piece, IsWhole, joined, opcode_bytes, operand_size, piece_bytes, bytes_of_pieces, place, kind}
use Rattle.body_codec.specs.Reading.{BeginsNone}
use Rattle.opcode_table.specs.Opcodes.{bytes_of}
use Rattle.body_codec.proofs.Opcodes.{opcode_tells}

-- ---- lists

-- fronts of one length are equal, and so is what follows
pub same_fronts : {X : Type 0} (p q a b : List X) → length p ≡ length q → p ++ a ≡ q ++ b → (p ≡ q) × (a ≡ b)
same_fronts p q a b l e =
    let front = sym (take_at p a (length p) refl) ∙ (ap (take (length p)) e ∙ take_at q b (length p) (sym l)) in
    let back = sym (drop_at p a (length p) refl) ∙ (ap (drop (length p)) e ∙ drop_at q b (length p) (sym l)) in
    (front, back)

byte_front : (xs ys : List ℕ) (i : ℕ) → i < length xs → get_or (xs ++ ys) i 0 ≡ get_or xs i 0
byte_front xs ys i h = get_or_append_left xs ys 0 i h

-- the number of the first four bytes
pub number_front : (xs ys : List ℕ) → 4 ≤ length xs → little_number 4 (xs ++ ys) ≡ little_number 4 xs
number_front xs ys h =
    let a = byte_front xs ys 0 (omega arith) in
    let b = byte_front xs ys 1 (omega arith) in
    let c = byte_front xs ys 2 (omega arith) in
    let d = byte_front xs ys 3 (omega arith) in
    cc

-- ---- instructions

pub opcode_some : (op : Op) → 0 < length (opcode_bytes op)
unfolding opcode_bytes
opcode_some op = joined_some (bytes_of op).0 (bytes_of op).1 where
  joined_some : (first : ℕ) (second : Option ℕ) → 0 < length (joined first second)
  joined_some first None = omega arith
  joined_some first (Some second) = omega arith

size_front : (k : OperandKind) (t u a b : List ℕ) → length t ≡ operand_size k t → length u ≡ operand_size k u → t ++ a ≡ u ++ b → length t ≡ length u
size_front kinds.Switch t u a b h g e =
    let same = sym (number_front t a (omega arith)) ∙ (ap (little_number 4) e ∙ number_front u b (omega arith)) in
    omega arith
size_front _ t u a b h g e = h ∙ sym g

-- an operand of one kind is told by its front
pub operand_tells : (k : OperandKind) (t u a b : List ℕ) → length t ≡ operand_size k t → length u ≡ operand_size k u → t ++ a ≡ u ++ b → (t ≡ u) × (a ≡ b)
operand_tells k t u a b h g e = same_fronts t u a b (size_front k t u a b h g e) e

-- the bytes of an instruction and what follows, and the same for several
pub piece_then : (p : Piece) (a : List ℕ) → piece_bytes p ++ a ≡ opcode_bytes p.op ++ (p.tail ++ a)
piece_then p a = append_assoc (opcode_bytes p.op) p.tail a

pub pieces_then : (p : Piece) (ps : List Piece) (r : List ℕ) → bytes_of_pieces (p ∷ ps) ++ r ≡ piece_bytes p ++ (bytes_of_pieces ps ++ r)
pieces_then p ps r = append_assoc (piece_bytes p) (bytes_of_pieces ps) r

-- no whole instruction begins another
pub piece_tells : (p q : Piece) (a b : List ℕ) → IsWhole p → IsWhole q → piece_bytes p ++ a ≡ piece_bytes q ++ b → (p ≡ q) × (a ≡ b)
piece_tells p q a b w v e =
    let t = opcode_tells p.op q.op (p.tail ++ a) (q.tail ++ b) (sym (piece_then p a) ∙ (e ∙ piece_then q b)) in
    let w' = subst (λ o. length p.tail ≡ operand_size (kind o) p.tail) t.0 w.size in
    let s = operand_tells (kind q.op) p.tail q.tail a b w' v.size t.1 in
    let same : p ≡ q = (ap (λ (o : Op). let r : Piece = record { op = o; tail = p.tail } in r) t.0 ∙ ap (λ (u : List ℕ). let r : Piece = record { op = q.op; tail = u } in r) s.0) in
    (same, s.1)

pub piece_some : (p : Piece) → 0 < length (piece_bytes p)
piece_some p = let l = length-append (opcode_bytes p.op) p.tail in let s = opcode_some p.op in omega arith

-- ---- code

-- what is left behind whole instructions, where none begins, tells them
pub cut_tells : (ps qs : List Piece) (r s : List ℕ) → All IsWhole ps → All IsWhole qs → BeginsNone r → BeginsNone s
    → bytes_of_pieces ps ++ r ≡ bytes_of_pieces qs ++ s → (ps ≡ qs) × (r ≡ s)
cut_tells [] [] r s w v n m e = (refl, e)
cut_tells [] (q ∷ qs) r s w v n m e = absurd (n q (bytes_of_pieces qs ++ s) (v 0 q (omega arith)) (e ∙ pieces_then q qs s))
cut_tells (p ∷ ps) [] r s w v n m e = absurd (m p (bytes_of_pieces ps ++ r) (w 0 p (omega arith)) (sym e ∙ pieces_then p ps r))
cut_tells (p ∷ ps) (q ∷ qs) r s w v n m e =
    let t = piece_tells p q (bytes_of_pieces ps ++ r) (bytes_of_pieces qs ++ s) (w 0 p (omega arith)) (v 0 q (omega arith))
    (sym (pieces_then p ps r) ∙ (e ∙ pieces_then q qs s)) in
    let more = cut_tells ps qs r s (λ k d h. w (suc k) d (omega arith)) (λ k d h. v (suc k) d (omega arith)) n m t.1 in
    (ap (λ x. x ∷ ps) t.0 ∙ ap (λ xs. q ∷ xs) more.0, more.1)

-- none begins where there is no byte
pub none_at_end : BeginsNone []
none_at_end p more w e =
    let l = ap length e ∙ length-append (piece_bytes p) more in
    let s = piece_some p in
    omega arith

-- none begins where no opcode does
pub none_without_opcode : (rest : List ℕ) → ((op : Op) (more : List ℕ) → rest ≡ opcode_bytes op ++ more → ⊥) → BeginsNone rest
none_without_opcode rest none p more w e = none p.op (p.tail ++ more) (e ∙ piece_then p more)

-- none begins where an opcode does, but not a whole operand
pub none_where_cut : (op : Op) (rest after : List ℕ) → rest ≡ opcode_bytes op ++ after
    → ((tail more : List ℕ) → after ≡ tail ++ more → length tail ≡ operand_size (kind op) tail → ⊥) → BeginsNone rest
none_where_cut op rest after e none p more w f =
    let t = opcode_tells op p.op after (p.tail ++ more) (sym e ∙ (f ∙ piece_then p more)) in
    none p.tail more t.1 (subst (λ o. length p.tail ≡ operand_size (kind o) p.tail) (sym t.0) w.size)

-- ---- places

pub place_none : (ps : List Piece) → place ps 0 ≡ 0
unfolding place
place_none ps = refl

pub place_push : (ps : List Piece) (p : Piece) (k : ℕ) → k ≤ length ps → place (ps ++ p ∷ []) k ≡ place ps k
unfolding place
place_push ps p k h = ap (λ xs. length (bytes_of_pieces xs)) (take-append-le k ps (p ∷ []) h)

pub place_all : (ps : List Piece) (n : ℕ) → length ps ≤ n → place ps n ≡ length (bytes_of_pieces ps)
unfolding place
place_all ps n h = ap (λ xs. length (bytes_of_pieces xs)) (take_all n ps h)

-- each instruction begins behind the one before it
pub place_more : (ps : List Piece) (k : ℕ) → k < length ps → place ps k < place ps (k + 1)
unfolding place
place_more [] k h = absurd (omega arith)
place_more (p ∷ ps) zero h =
    let l = length-append (piece_bytes p) [] in
    let s = piece_some p in
    omega arith
place_more (p ∷ ps) (suc k) h =
    let before = place_more ps k (omega arith) in
    let l = length-append (piece_bytes p) (bytes_of_pieces (take k ps)) in
    let m = length-append (piece_bytes p) (bytes_of_pieces (take (k + 1) ps)) in
    let e : suc k + 1 ≡ suc (k + 1) = omega arith in
    rw e (omega arith)
