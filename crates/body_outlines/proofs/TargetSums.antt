-- How many targets some instructions have: no more than bytes.
use Rattle.std.proofs.Common.{◌≡◌, ◌∙◌, sym, ap, refl, ℕ, zero, suc, ◌+◌, ◌<◌, ◌≤◌, ◌^◌, List, [], ◌∷◌, ◌++◌, length, take, get_or, slice_index_or, arith}
use Rattle.std.specs.List.{All, sum_by}
use Rattle.std.proofs.lemmas.List.{take_more, length-append}
use Rattle.std.proofs.lemmas.List.Sums.{sum_by-append, sum_by-cons}
use Rattle.byteorder.specs.Endian.{little_number}
use Rattle.opcode_table.specs.declared.kind.OperandKind.{OperandKind}
use Rattle.opcode_table.specs.declared.kind.OperandKind.TheVariants as kinds
use Rattle.body_codec.specs.declared.decoding.marks.Mark.{Mark}
use Rattle.body_codec.specs.Instruction.{Piece, IsWhole, kind, operand_size, opcode_bytes, piece_bytes, bytes_of_pieces}
use Rattle.body_codec.specs.Reading.{piece_of, pieces_of, AreMarks}
use Rattle.body_codec.proofs.Outcomes.{any_piece}
use Rattle.body_codec.proofs.Places.{count_is}
use Rattle.body_codec.proofs.Targets.{piece_at}
use Rattle.body_outlines.specs.Outlines.{switch_targets, targets_in}

few_in : (k : OperandKind) (tail : List ℕ) → length tail ≡ operand_size k tail → switch_targets k tail ≤ length tail
few_in kinds.Switch tail e = omega arith
few_in _ tail e = omega arith

few_at : (p : Piece) → IsWhole p → targets_in p ≤ length (piece_bytes p)
few_at p w =
    let few = few_in (kind p.op) p.tail w.size in
    let l = length-append (opcode_bytes p.op) p.tail in
    omega arith

few : (ps : List Piece) → All IsWhole ps → sum_by targets_in ps ≤ length (bytes_of_pieces ps)
few [] w = omega arith
few (p ∷ ps) w =
    let here = few_at p (w 0 p (omega arith)) in
    let more = few ps (λ k d h. w (suc k) d (omega arith)) in
    let s = sum_by-cons targets_in p ps in
    let l = length-append (piece_bytes p) (bytes_of_pieces ps) in
    omega arith

front_few : (ps : List Piece) (k : ℕ) → sum_by targets_in (take k ps) ≤ sum_by targets_in ps
front_few [] zero = omega arith
front_few [] (suc k) = omega arith
front_few (p ∷ ps) zero = omega arith
front_few (p ∷ ps) (suc k) =
    let more = front_few ps k in
    let a = sum_by-cons targets_in p (take k ps) in
    let b = sum_by-cons targets_in p ps in
    omega arith

-- those up to one instruction, and with it
pub sum_more : (code : List ℕ) (marks : List Mark) (k : ℕ) (m : Mark) (sum : ℕ) → k < length marks → sum ≡ sum_by targets_in (take k (pieces_of code marks))
    → sum + targets_in (piece_of code (slice_index_or marks k m)) ≡ sum_by targets_in (take (k + 1) (pieces_of code marks))
sum_more code marks k m sum l e =
    let ps = pieces_of code marks in
    let c = count_is code marks in
    let at : get_or ps k any_piece ≡ piece_of code (slice_index_or marks k m) = piece_at code marks k m any_piece l in
    let more = take_more ps k any_piece (omega arith) in
    let sums = sum_by-append targets_in (take k ps) (get_or ps k any_piece ∷ []) in
    let last = sum_by-cons targets_in (get_or ps k any_piece) [] in
    let same = ap targets_in at in
    let whole = ap (sum_by targets_in) more in
    omega arith

pub sum_small : (code : List ℕ) (marks : List Mark) (k : ℕ) → AreMarks code marks → sum_by targets_in (take k (pieces_of code marks)) < 2 ^ 32
sum_small code marks k a =
    let front = front_few (pieces_of code marks) k in
    let all = few (pieces_of code marks) a.cut.each in
    let whole = ap length a.cut.whole in
    let small = a.small in
    omega arith
