use Rattle.std.proofs.Common.{◌∙◌, ap, sym}
use Rattle.std.specs.Prelude.{Some}
use Rattle.ilasm_grammar.specs.declared.productions.TheConstants.{GEN_ARGS_TYPE, METHOD_GENERICS}
use Rattle.source_model.specs.Forest.{leaf_at, the}
use Rattle.check_names.proofs.BarredLemmas.{if_none, if_some}
use Rattle.check_names.proofs.barred.generic_arguments.Goals as goal

pub returns-then-has : goal.returns-then-has
returns-then-has c f e =
    let g = the METHOD_GENERICS f in
    let is = sym (c.the-generics.ensures f e) in
    ap Some (c.leaf_at.ensures g is) ∙ if_some GEN_ARGS_TYPE (leaf_at 0 g) g (sym (c.has.ensures g is) ∙ c.if-has.true)

pub returns-else-has : goal.returns-else-has
returns-else-has c f e =
    let g = the METHOD_GENERICS f in
    if_none GEN_ARGS_TYPE (leaf_at 0 g) g (sym (c.has.ensures g (sym (c.the-generics.ensures f e))) ∙ c.if-has.false)
