use Rattle.std.proofs.Common.{◌∷◌, [], ◌∙◌, sym}
use Rattle.ilasm_grammar.specs.declared.productions.TheConstants.{CALL_CONV, CALL_KIND_VARARG, EXPLICIT_OPT_SOME}
use Rattle.source_model.specs.Forest.{child, each}
use Rattle.check_names.proofs.BarredLemmas.{either}
use Rattle.check_names.proofs.barred.convention.Goals as goal

pub returns : goal.returns
returns c f e =
    let g = child (CALL_CONV ∷ []) f in
    let is = sym (c.child-conv.ensures f e) in
    c.sooner.ensures
    ∙ either c.first_of_parts-explicit.result c.first_of_parts-vararg.result (each EXPLICIT_OPT_SOME g) (each CALL_KIND_VARARG g)
    (c.first_of_parts-explicit.ensures g is) (c.first_of_parts-vararg.ensures g is)
