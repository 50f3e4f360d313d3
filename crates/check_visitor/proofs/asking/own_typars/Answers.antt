use Rattle.std.proofs.Common.{◌∷◌, [], sym, ◌∙◌}
use Rattle.ilasm_grammar.specs.declared.productions.TheConstants.{TYPARS_OPT_SOME}
use Rattle.source_model.specs.Forest.{child}
use Rattle.check_visitor.proofs.AskingLemmas.{from_empty, no_typars}
use Rattle.check_visitor.proofs.asking.own_typars.Goals as goal

pub returns-then-is_empty : goal.returns-then-is_empty
returns-then-is_empty c s f r e bodies =
    let list = child (TYPARS_OPT_SOME ∷ []) f in
    no_typars s f (c.forests_open.ensures.none list (sym (c.child.ensures f e) ∙ from_empty c.child.result.now c.is_empty.result c.if-is_empty.true c.is_empty.ensures))
