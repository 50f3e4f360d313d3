use Rattle.std.proofs.Common.{◌≡◌, ℕ, ◌<◌, Some}
use Rattle.std.specs.Prelude.{slice_get}
use Rattle.assembly_tree.specs.declared.members.Field.{Field}
use Rattle.body_verifier.specs.MemberTests.{IsOther}
use Rattle.body_verifier.proofs.naming_rules.misfits_field.Given as goal

abbrev pub invariant-loop-field : goal.invariant-loop-field
invariant-loop-field l = (j : ℕ) (x : Field) → j < l.field-index → slice_get l.fields j ≡ Some x → IsOther l.r l.wanted x → ⊥
