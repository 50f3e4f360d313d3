use Rattle.std.proofs.Common.{◌≡◌, map, take}
use Rattle.il_shrink.specs.Forms.{first_form}
use Rattle.il_shrink.proofs.forms.first_forms.Given as goal

abbrev pub invariant-loop-ins : goal.invariant-loop-ins
invariant-loop-ins l = l.forms.items ≡ map first_form (take l.ins-index l.code)
