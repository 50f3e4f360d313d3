-- Offsets one after the other are those of the instructions, and of the end.
use Rattle.std.proofs.Common.{◌≡◌, ℕ, zero, suc, ◌+◌, ◌<◌, min, List, [], ◌∷◌, ◌++◌, length, take, drop, get_or, Some, refl, ap, sym, ◌∙◌, append_assoc, arith}
use Rattle.std.specs.Prelude.{slice_get}
use Rattle.std.proofs.lemmas.List.Sums.{sum_by-cons}
use Rattle.opcode_table.specs.Opcodes as opcodes
use Rattle.opcode_table.specs.declared.kind.OperandKind.{OperandKind}
use Rattle.assembly_tree.specs.WellFormedBodies.{opcode_size, operand_size, operand_kind, size_of, offset_of}
use Rattle.assembly_tree.specs.declared.body.Ins.{Ins}
use Rattle.print_members.proofs.Steps.{drop_at}
use Rattle.print_bodies.specs.Offsets.{offsets_from}

pub offsets_count : (o : ℕ) (code : List Ins) → length (offsets_from o code) ≡ suc (length code)
offsets_count o [] = refl
offsets_count o (i ∷ is) = ap suc (offsets_count (o + size_of i) is)

pub offsets_at : (o k n : ℕ) (code : List Ins) → n ≡ min k (length code) → slice_get (offsets_from o code) n ≡ Some (o + offset_of code k)
offsets_at o zero zero [] e = ap Some (omega arith)
offsets_at o (suc k) zero [] e = ap Some (omega arith)
offsets_at o k (suc n) [] e = absurd (omega arith)
offsets_at o zero zero (i ∷ is) e = ap Some (omega arith)
offsets_at o zero (suc n) (i ∷ is) e = absurd (omega arith)
offsets_at o (suc k) zero (i ∷ is) e = absurd (omega arith)
offsets_at o (suc k) (suc n) (i ∷ is) e =
    offsets_at (o + size_of i) k n is (omega arith)
    ∙ ap Some {x = (o + size_of i) + offset_of is k} {y = o + offset_of (i ∷ is) (suc k)} (omega (arith, sum_by-cons size_of i (take k is)))

-- one more
pub offsets_step : (all now : List ℕ) (o next k : ℕ) (i : Ins) (code : List Ins) → k < length code → i ≡ get_or code k i →
    next ≡ o + size_of i → now ++ offsets_from o (drop k code) ≡ all → (now ++ o ∷ []) ++ offsets_from next (drop (k + 1) code) ≡ all
offsets_step all now o next k i code h e hn so =
    append_assoc now (o ∷ []) (offsets_from next (drop (k + 1) code))
    ∙ (ap (λ n. now ++ o ∷ offsets_from n (drop (k + 1) code)) hn
    ∙ (sym (ap (λ xs. now ++ offsets_from o xs) (drop_at code k i h e)) ∙ so))

-- the bytes of an instruction
pub size_done : (i : Ins) (s n : ℕ) (k : OperandKind) → s ≡ opcode_size i.op → k ≡ opcodes.kind_of i.op → n ≡ operand_size k i.operand → s + n ≡ size_of i
unfolding size_of operand_kind
size_done i s n k hs hk hn = ap (λ m. m + n) hs ∙ ap (λ m. opcode_size i.op + m) (hn ∙ ap (λ j. operand_size j i.operand) hk)
