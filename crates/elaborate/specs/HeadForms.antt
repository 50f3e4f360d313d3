-- What stands in the head of a class besides its name (ECMA-335 II.10.1).
use Rattle.std.specs.Prelude.{ℕ, List, [], ◌∷◌}
use Rattle.ilasm_grammar.specs.declared.productions.TheConstants.{CLASS_ATTR_STAR_MORE, EXTENDS_OPT_SOME, IMPLEMENTS_OPT_SOME, TYPARS_OPT_SOME}

abbrev pub head_forms : List ℕ
head_forms = CLASS_ATTR_STAR_MORE ∷ TYPARS_OPT_SOME ∷ EXTENDS_OPT_SOME ∷ IMPLEMENTS_OPT_SOME ∷ []
