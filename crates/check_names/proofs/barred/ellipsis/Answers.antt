use Rattle.std.proofs.Common.{◌∷◌, [], sym}
use Rattle.ilasm_grammar.specs.declared.productions.TheConstants.{SIGNATURE}
use Rattle.source_model.specs.Forest.{child}
use Rattle.check_names.proofs.barred.ellipsis.Goals as goal

pub returns : goal.returns
returns c f e = c.first_of_parts.ensures (child (SIGNATURE ∷ []) f) (sym (c.child-signature.ensures f e))
