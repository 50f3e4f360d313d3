-- What follows for accessors and the entry point of a source that breaks no rule (ECMA-335 II.15.4.1.2, II.17, II.18).
use Rattle.std.specs.Prelude.{◌≡◌, [], IsTrue}
use Rattle.assembly_tree.specs.WellFormed.{is_one_entry}
use Rattle.assembly_tree.specs.WellFormedTypes.{has_its_accessors}
use Rattle.ilasm_grammar.specs.declared.productions.TheConstants.{CLASS}
use Rattle.source_model.specs.Classes.{assembly}
use Rattle.source_model.specs.Nodes.{Node, nodes}
use Rattle.source_model.specs.Source.{Source}
use Rattle.laws_formed_sources.specs.sources.Laws.{IsRight}
use Rattle.laws_formed_sources.specs.sources.Remaining.{Among, class_record}

-- the accessors of each class are among its methods
abbrev pub AccessorsAreMethods : Type 0
AccessorsAreMethods =
    (s : Source) → IsRight s → (n : Node) → Among n (nodes s) → n.production ≡ CLASS → IsTrue (has_its_accessors (class_record s n.around n.below []))

-- the program starts at one method at most
abbrev pub OneEntry : Type 0
OneEntry = (s : Source) → IsRight s → IsTrue (is_one_entry (assembly s))
