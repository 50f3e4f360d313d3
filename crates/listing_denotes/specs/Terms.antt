-- Which types and owners of a listing break no rule (ECMA-335 II.7.1, II.14.2, II.23.2.12).
use Rattle.std.specs.Prelude.{ℕ, ◌≡◌, true, List}
use Rattle.type_terms.specs.declared.name.TypeId.{TypeId}
use Rattle.type_terms.specs.declared.name.TypeName.{TypeName}
use Rattle.type_terms.specs.declared.term.Owner.{Owner}
use Rattle.type_terms.specs.declared.term.SigType.{SigType}
use Rattle.assembly_tree.specs.WellFormedNames.{is_declared, is_type_name}
use Rattle.assembly_tree.specs.WellFormedTerms.{is_type, is_owner}
use Rattle.assembly_tree.specs.declared.assembly.Assembly.{Assembly}
use Rattle.source_model.specs.Forest as f
use Rattle.source_model.specs.Names.{is_declared_path}
use Rattle.source_model.specs.Nodes.{Around, nodes_in}
use Rattle.source_model.specs.Source.{Source}
use Rattle.faultless_nodes.specs.Laws.{EachBreaksNothing}
use Rattle.listing_declarations.specs.Laws.{IsListingOf}
use Rattle.listing_growth.specs.Held.{is_type_held, is_owner_held}
use Rattle.listing_growth.specs.Standing.{has_name}
use Rattle.listing_model.specs.Types.{type_name, type_of, type_below, owner}
use Rattle.listing_reading.specs.Numbered.{numbered, Agrees}

-- a path that the assembly declares is one that its listing declares
abbrev pub PathsAreDeclared : Type 0
PathsAreDeclared = (s : Source) (a : Assembly) → IsListingOf s a → (path : List TypeId) → is_declared a path ≡ true → is_declared_path s path ≡ true

-- Names of types, types and owners, with anything behind them that breaks none.
pub record TermsBreakNothing : Type 0 where
  pub names : (s : Source) (a : Assembly) → IsListingOf s a → (x : Around) (t : TypeName) → is_type_name a t ≡ true → has_name t ≡ true → (at : ℕ) →
      Agrees s at (type_name a.externs t).below → (after : f.Forest) → EachBreaksNothing s (nodes_in s x after) →
      EachBreaksNothing s (nodes_in s x (f.branch (type_name a.externs t).production (numbered at (type_name a.externs t).below) after))
  pub types : (s : Source) (a : Assembly) → IsListingOf s a → (x : Around) (t : SigType) → is_type a t ≡ true → is_type_held t ≡ true → (at : ℕ) →
      Agrees s at (type_below a.externs t) → (after : f.Forest) → EachBreaksNothing s (nodes_in s x after) →
      EachBreaksNothing s (nodes_in s x (f.branch (type_of a.externs t).production (numbered at (type_of a.externs t).below) after))
  pub owners : (s : Source) (a : Assembly) → IsListingOf s a → (x : Around) (o : Owner) → is_owner a o ≡ true → is_owner_held o ≡ true → (at : ℕ) →
      Agrees s at (owner a.externs o).below → (after : f.Forest) → EachBreaksNothing s (nodes_in s x after) →
      EachBreaksNothing s (nodes_in s x (f.branch (owner a.externs o).production (numbered at (owner a.externs o).below) after))
