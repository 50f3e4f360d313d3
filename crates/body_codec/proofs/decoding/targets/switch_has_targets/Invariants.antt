use Rattle.std.proofs.Common.{ℕ, ◌<◌, ◌≡◌, ◌+◌}
use Rattle.opcode_table.specs.declared.kind.OperandKind.TheVariants as kinds
use Rattle.body_codec.specs.Instruction.{place, displacement}
use Rattle.body_codec.specs.Spelling.{LeadsTo}
use Rattle.body_codec.specs.Reading.{pieces_of, piece_of}
use Rattle.body_codec.proofs.decoding.targets.switch_has_targets.Given as goal

abbrev pub invariant-loop-i : goal.invariant-loop-i
invariant-loop-i l =
    (k i : ℕ) → i < l.i → place (pieces_of l.layout.code.now l.layout.marks.now) (k + 1) ≡ l.mark.end
    → (t : ℕ) × LeadsTo (pieces_of l.layout.code.now l.layout.marks.now) k t (displacement kinds.Switch (piece_of l.layout.code.now l.mark).tail i)
