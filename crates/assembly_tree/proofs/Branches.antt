-- What lies between two instructions decides whether one byte leads from one to the other.
use Rattle.std.proofs.Common.{◌≡◌, ◌∙◌, sym, ap, ℕ, ◌+◌, ◌<◌, ◌≤◌, min, nat_le, List, length, take, drop, slice_range, arith}
use Rattle.std.specs.List.{sum_by}
use Rattle.std.proofs.lemmas.Bool.Decides.{nat_tests}
use Rattle.std.proofs.lemmas.List.{take-take, take_min}
use Rattle.std.proofs.lemmas.List.Sums.{sum_by-take-drop}
use Rattle.std.proofs.lemmas.Slice.{between_is}
use Rattle.assembly_tree.specs.declared.body.Ins.{Ins}
use Rattle.assembly_tree.specs.WellFormedBodies.{size_of, offset_of, is_near}

back : (o s : ℕ) → nat_le s 0x80 ≡ is_near (o + s) o
back o s = grind (arith, nat_tests)

ahead : (o s : ℕ) → nat_le s 0x7F ≡ is_near o (o + s)
ahead o s = grind (arith, nat_tests)

-- the offset of a later instruction is that of the earlier one and what lies between
later : (code : List Ins) (i j : ℕ) → i ≤ j → offset_of code j ≡ offset_of code i + sum_by size_of (slice_range code i j)
later code i j h =
    sym (sum_by-take-drop size_of (take j code) i) ∙ ap (λ xs. sum_by size_of xs + sum_by size_of (drop i (take j code))) (take-take i j code h)
    ∙ ap (λ xs. offset_of code i + sum_by size_of xs) (sym (between_is code i j))

-- past the end there are no more bytes
same_offset : (code : List Ins) (to n : ℕ) → n ≡ min to (length code) → offset_of code to ≡ offset_of code n
same_offset code to n e = ap (sum_by size_of) (sym (take_min to code) ∙ ap (λ k. take k code) (sym e))

pub near_back : (code : List Ins) (from to n : ℕ) → n ≡ min to (length code) → n < from →
    nat_le (sum_by size_of (slice_range code n from)) 0x80 ≡ is_near (offset_of code from) (offset_of code to)
near_back code from to n e h =
    let le : n ≤ from = omega arith in
    back (offset_of code n) (sum_by size_of (slice_range code n from))
    ∙ ap (λ k. is_near k (offset_of code n)) (sym (later code n from le))
    ∙ ap (λ k. is_near (offset_of code from) k) (sym (same_offset code to n e))

pub near_ahead : (code : List Ins) (from to n : ℕ) → n ≡ min to (length code) → from ≤ n →
    nat_le (sum_by size_of (slice_range code from n)) 0x7F ≡ is_near (offset_of code from) (offset_of code to)
near_ahead code from to n e h =
    ahead (offset_of code from) (sum_by size_of (slice_range code from n))
    ∙ ap (λ k. is_near (offset_of code from) k) (sym (later code from n h))
    ∙ ap (λ k. is_near (offset_of code from) k) (sym (same_offset code to n e))
