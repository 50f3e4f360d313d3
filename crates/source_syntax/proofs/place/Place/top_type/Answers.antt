use Rattle.std.proofs.Common.{[], ◌∷◌, sym}
use Rattle.ilasm_grammar.specs.declared.productions.TheConstants.{TYPE}
use Rattle.source_model.specs.Forest.{child}
use Rattle.source_syntax.proofs.place.Place.top_type.Goals as goal

pub returns : goal.returns
returns c s a x f e sound = c.type_of.ensures s a x (child (TYPE ∷ []) f) (sym (c.child.ensures f e)) sound.fits sound.each
