use Rattle.std.proofs.Common.{◌≡◌, ◌++◌, take}
use Rattle.pe_layout.specs.Layout.{spelled}
use Rattle.pe_layout.proofs.field.push_fields.Given as goal

abbrev pub invariant-loop-field : goal.invariant-loop-field
invariant-loop-field l = l.out ≡ l.initial.out ++ spelled (take l.field-index l.fields)
