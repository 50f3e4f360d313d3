-- What the names and types of a listing are read as (ECMA-335 II.5.3, II.7.1, II.14.2, II.23.2.12).
use Rattle.std.specs.Prelude.{ℕ, ◌≡◌, true, List, ◌∷◌, map}
use Rattle.type_terms.specs.declared.name.TypeId.{TypeId}
use Rattle.type_terms.specs.declared.name.TypeName.{TypeName}
use Rattle.type_terms.specs.declared.term.Owner.{Owner}
use Rattle.type_terms.specs.declared.term.SigType.{SigType}
use Rattle.assembly_tree.specs.declared.assembly.ExternAssembly.{ExternAssembly}
use Rattle.source_model.specs.Forest as f
use Rattle.source_model.specs.Names as read
use Rattle.source_model.specs.Nodes.{Around, type_id}
use Rattle.source_model.specs.Source.{Source}
use Rattle.source_model.specs.Types as term
use Rattle.listing_model.specs.Types as written
use Rattle.listing_reading.specs.Numbered.{numbered, Agrees}
use Rattle.listing_terms.specs.Readable.{KnowsAssemblies, is_path_named, is_name_readable, is_type_readable, is_owner_readable}

-- the names of a path are its names
abbrev pub PathsAreRead : Type 0
PathsAreRead =
    (s : Source) (ids : List TypeId) → is_path_named ids ≡ true → (at : ℕ) → Agrees s at (written.path_below ids) →
    map (type_id s) (read.path_tokens (numbered at (written.path_below ids))) ≡ ids

-- A type's name, with anything behind it; a type; and an owner, in any source that has them and knows the assemblies.
pub record TermsAreRead : Type 0 where
  pub names : (s : Source) (externs : List ExternAssembly) → KnowsAssemblies s externs → (t : TypeName) → is_name_readable externs t ≡ true →
      (at : ℕ) → Agrees s at (written.type_name externs t).below → (after : f.Forest) →
      read.type_name s (f.branch (written.type_name externs t).production (numbered at (written.type_name externs t).below) after) ≡ t
  pub types : (s : Source) (around : Around) (externs : List ExternAssembly) → KnowsAssemblies s externs → (t : SigType) →
      is_type_readable externs t ≡ true → (at : ℕ) → Agrees s at (written.type_below externs t) →
      term.type_of s around (numbered at (written.type_below externs t)) ≡ t
  pub owners : (s : Source) (around : Around) (externs : List ExternAssembly) → KnowsAssemblies s externs → (o : Owner) →
      is_owner_readable externs o ≡ true → (at : ℕ) → Agrees s at (written.owner externs o).below → (after : f.Forest) →
      term.owners_in s around (f.branch (written.owner externs o).production (numbered at (written.owner externs o).below) after)
      ≡ o ∷ term.owners_in s around after
