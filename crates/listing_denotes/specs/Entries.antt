-- How many entry points a listing has (ECMA-335 II.15.4.1.2).
use Rattle.std.specs.Prelude.{◌≡◌, List, [], ◌∷◌, length, ℕ}
use Rattle.ilasm_grammar.specs.declared.productions.TheConstants as p
use Rattle.assembly_tree.specs.WellFormedTypes.{entries}
use Rattle.assembly_tree.specs.declared.assembly.Assembly.{Assembly}
use Rattle.source_model.specs.DeclaredTwice.{entries_twice}
use Rattle.source_model.specs.Forest as f
use Rattle.source_model.specs.Source.{Source}
use Rattle.listing_declarations.specs.Laws.{IsListingOf}

abbrev pub entry_parts : List ℕ
entry_parts = p.ITEM_ENTRYPOINT ∷ []

-- as many as methods of the tree at which the program starts, and so one at most
pub record ListingsEnterOnce : Type 0 where
  pub counted : (s : Source) (a : Assembly) → IsListingOf s a → length (f.parts entry_parts s.tree) ≡ entries a
  pub once : (s : Source) (a : Assembly) → IsListingOf s a → entries_twice s ≡ []
