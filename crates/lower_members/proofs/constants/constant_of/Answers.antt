use Rattle.std.proofs.Common.{None, Some, ap, sym, ◌∙◌}
use Rattle.std.specs.Prelude.{Bool, if◌then◌else◌}
use Rattle.ilasm_grammar.specs.declared.productions.TheConstants.{EQ_CONST}
use Rattle.source_flags.specs.InRange.{IsInRange}
use Rattle.source_model.specs.Constants.{constant_in}
use Rattle.source_model.specs.Forest.{the}
use Rattle.source_syntax.proofs.ReferenceLemmas.{sound_part}
use Rattle.lower_members.proofs.constants.constant_of.Goals as goal

pub returns-in_ok-constant : goal.returns-in_ok-constant
returns-in_ok-constant c s f r e h =
    let some = sym (c.has.ensures f e) ∙ c.if-has.true in
    let own = sound_part (IsInRange s) EQ_CONST f h some in
    ap Some (c.in_ok-constant.ensures s (the EQ_CONST f) r (sym (c.the.ensures f e)) own.1)
    ∙ sym (ap (λ (b : Bool). if b then Some (constant_in s (the EQ_CONST f)) else None) some)
