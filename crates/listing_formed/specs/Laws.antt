-- What the well-formed terms of a listing are read as (ECMA-335 II.7.1, II.14.2, II.15.3, II.15.4).
use Rattle.std.specs.Prelude.{ℕ, ◌≡◌, ◌<◌, ◌^◌, true, ◌∷◌, length}
use Rattle.std.specs.List.{list_all}
use Rattle.type_terms.specs.declared.reference.FieldRef.{FieldRef}
use Rattle.type_terms.specs.declared.reference.MethodRef.{MethodRef}
use Rattle.type_terms.specs.declared.term.Owner.{Owner}
use Rattle.type_terms.specs.declared.term.SigType.{SigType}
use Rattle.assembly_tree.specs.WellFormed.{is_extern}
use Rattle.assembly_tree.specs.WellFormedTerms.{is_type, is_owner, is_method_ref, is_field_ref}
use Rattle.assembly_tree.specs.declared.assembly.Assembly.{Assembly}
use Rattle.source_model.specs.Forest as f
use Rattle.source_model.specs.Nodes.{Around}
use Rattle.source_model.specs.References as read
use Rattle.source_model.specs.Source.{Source}
use Rattle.source_model.specs.Types as term
use Rattle.listing_growth.specs.Held.{is_type_held, is_owner_held, is_method_ref_held, is_field_ref_held}
use Rattle.listing_growth.specs.Standing.{can_stand, owner_can_stand, method_stands, field_stands}
use Rattle.listing_model.specs.References.{method_ref, field_ref}
use Rattle.listing_model.specs.Types.{type_below, owner}
use Rattle.listing_reading.specs.Numbered.{numbered, Agrees}
use Rattle.listing_references.specs.Laws.{IsMethodReadable, is_field_readable}
use Rattle.listing_terms.specs.Readable.{KnowsAssemblies, is_type_readable, is_owner_readable}

-- the other assemblies that a tree names are named well, and not too many
pub record NamesAssemblies (a : Assembly) : Type 0 where
  pub named : list_all is_extern a.externs ≡ true
  pub few : length a.externs < 2 ^ 128

-- and the source knows them by their keys
pub record Knows (s : Source) (a : Assembly) : Type 0 where
  pub names : NamesAssemblies a
  pub keys : KnowsAssemblies s a.externs

-- Terms that are well formed in a tree, and such as a tree in memory holds, can be read back and can stand for their nonterminals.
pub record FormedAreReadable : Type 0 where
  pub types : (a : Assembly) → NamesAssemblies a → (t : SigType) → is_type a t ≡ true → is_type_held t ≡ true →
      (is_type_readable a.externs t ≡ true) × (can_stand t ≡ true)
  pub owners : (a : Assembly) → NamesAssemblies a → (o : Owner) → is_owner a o ≡ true → is_owner_held o ≡ true →
      (is_owner_readable a.externs o ≡ true) × (owner_can_stand o ≡ true)
  pub methods : (a : Assembly) → NamesAssemblies a → (r : MethodRef) → is_method_ref a r ≡ true → is_method_ref_held r ≡ true →
      IsMethodReadable a.externs r × (method_stands r ≡ true)
  pub fields : (a : Assembly) → NamesAssemblies a → (r : FieldRef) → is_field_ref a r ≡ true → is_field_ref_held r ≡ true →
      (is_field_readable a.externs r ≡ true) × (field_stands r ≡ true)

-- They are read as these, in any source that has them and knows the assemblies; an owner with anything behind it.
pub record FormedAreRead : Type 0 where
  pub types : (s : Source) (around : Around) (a : Assembly) → Knows s a → (t : SigType) → is_type a t ≡ true → is_type_held t ≡ true → (at : ℕ) →
      Agrees s at (type_below a.externs t) → term.type_of s around (numbered at (type_below a.externs t)) ≡ t
  pub owners : (s : Source) (around : Around) (a : Assembly) → Knows s a → (o : Owner) → is_owner a o ≡ true → is_owner_held o ≡ true → (at : ℕ) →
      Agrees s at (owner a.externs o).below → (after : f.Forest) →
      term.owners_in s around (f.branch (owner a.externs o).production (numbered at (owner a.externs o).below) after)
      ≡ o ∷ term.owners_in s around after
  pub methods : (s : Source) (around : Around) (a : Assembly) → Knows s a → (r : MethodRef) → is_method_ref a r ≡ true → is_method_ref_held r ≡ true →
      (at : ℕ) → Agrees s at (method_ref a.externs r).below → read.method_ref s around (numbered at (method_ref a.externs r).below) ≡ r
  pub fields : (s : Source) (around : Around) (a : Assembly) → Knows s a → (r : FieldRef) → is_field_ref a r ≡ true → is_field_ref_held r ≡ true →
      (at : ℕ) → Agrees s at (field_ref a.externs r).below → read.field_ref s around (numbered at (field_ref a.externs r).below) ≡ r
