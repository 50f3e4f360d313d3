-- What lies between two instructions decides whether one byte leads from one to the other.
use Rattle.std.proofs.Common.{◌≡◌, ◌∙◌, sym, ap, ℕ, ◌+◌, ◌<◌, ◌≤◌, min, nat_le, List, length, take, drop, slice_range, arith}
use Rattle.std.specs.List.{sum_by}
use Rattle.std.proofs.lemmas.Bool.Decides.{nat_tests}
use Rattle.std.proofs.lemmas.List.{take-take, take_min}
use Rattle.std.proofs.lemmas.List.Sums.{sum_by-take-drop}
use Rattle.std.proofs.lemmas.Slice.{between_is}
use Rattle.branch_forms.specs.declared.form.Form.{Form}
use Rattle.branch_forms.specs.Forms.{width, offset, is_near}

back : (o s : ℕ) → nat_le s 0x80 ≡ is_near (o + s) o
back o s = grind (arith, nat_tests)

ahead : (o s : ℕ) → nat_le s 0x7F ≡ is_near o (o + s)
ahead o s = grind (arith, nat_tests)

-- the offset of a later instruction is that of the earlier one and what lies between
later : (forms : List Form) (i j : ℕ) → i ≤ j → offset forms j ≡ offset forms i + sum_by width (slice_range forms i j)
later forms i j h =
    sym (sum_by-take-drop width (take j forms) i) ∙ ap (λ xs. sum_by width xs + sum_by width (drop i (take j forms))) (take-take i j forms h)
    ∙ ap (λ xs. offset forms i + sum_by width xs) (sym (between_is forms i j))

-- past the end there are no more bytes
same_offset : (forms : List Form) (to n : ℕ) → n ≡ min to (length forms) → offset forms to ≡ offset forms n
same_offset forms to n e = ap (sum_by width) (sym (take_min to forms) ∙ ap (λ k. take k forms) (sym e))

pub near_back : (forms : List Form) (from to n : ℕ) → n ≡ min to (length forms) → n < from →
    nat_le (sum_by width (slice_range forms n from)) 0x80 ≡ is_near (offset forms from) (offset forms to)
near_back forms from to n e h =
    let le : n ≤ from = omega arith in
    back (offset forms n) (sum_by width (slice_range forms n from))
    ∙ ap (λ k. is_near k (offset forms n)) (sym (later forms n from le))
    ∙ ap (λ k. is_near (offset forms from) k) (sym (same_offset forms to n e))

pub near_ahead : (forms : List Form) (from to n : ℕ) → n ≡ min to (length forms) → from ≤ n →
    nat_le (sum_by width (slice_range forms from n)) 0x7F ≡ is_near (offset forms from) (offset forms to)
near_ahead forms from to n e h =
    ahead (offset forms from) (sum_by width (slice_range forms from n))
    ∙ ap (λ k. is_near (offset forms from) k) (sym (later forms from n h))
    ∙ ap (λ k. is_near (offset forms from) k) (sym (same_offset forms to n e))
