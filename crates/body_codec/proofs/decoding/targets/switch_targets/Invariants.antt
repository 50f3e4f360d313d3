use Rattle.std.proofs.Common.{ℕ, ◌≡◌, ◌+◌, ◌<◌, length, slice_index_or}
use Rattle.opcode_table.specs.declared.kind.OperandKind.TheVariants as kinds
use Rattle.body_codec.specs.Instruction.{place, displacement}
use Rattle.body_codec.specs.Spelling.{LeadsTo}
use Rattle.body_codec.specs.Reading.{pieces_of, piece_of}
use Rattle.body_codec.proofs.decoding.targets.switch_targets.Given as goal

abbrev pub invariant-loop-i : goal.invariant-loop-i
invariant-loop-i l =
    (length l.targets ≡ l.i)
    × ((k : ℕ) → place (pieces_of l.layout.code.now l.layout.marks.now) (k + 1) ≡ l.mark.end → (j : ℕ) (d : ℕ) → j < l.i
    → LeadsTo (pieces_of l.layout.code.now l.layout.marks.now) k (slice_index_or l.targets j d) (displacement kinds.Switch (piece_of l.layout.code.now l.mark).tail j))
