use Rattle.std.proofs.Common.{◌∷◌, [], sym}
use Rattle.ilasm_grammar.specs.declared.productions.TheConstants.{BRACKETED_INT_OPT_SOME}
use Rattle.source_model.specs.Forest.{child}
use Rattle.check_names.proofs.number_rules.field_place.Goals as goal

pub returns : goal.returns
returns c s f r e = c.beyond_in_each.ensures s (child (BRACKETED_INT_OPT_SOME ∷ []) f) r (sym (c.child-place.ensures f e))
