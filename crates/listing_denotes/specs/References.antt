-- Which references and attributes of a listing break no rule (ECMA-335 II.15.4, II.21, II.23.2.1).
use Rattle.std.specs.Prelude.{ℕ, ◌≡◌, true, false, List, [], None}
use Rattle.std.specs.List.{list_all}
use Rattle.type_terms.specs.declared.reference.FieldRef.{FieldRef}
use Rattle.type_terms.specs.declared.reference.MethodRef.{MethodRef}
use Rattle.type_terms.specs.declared.reference.MethodSig.{MethodSig}
use Rattle.assembly_tree.specs.WellFormedMembers.{is_attribute}
use Rattle.assembly_tree.specs.WellFormedTerms.{is_signature, is_method_ref, is_field_ref}
use Rattle.assembly_tree.specs.declared.assembly.Assembly.{Assembly}
use Rattle.assembly_tree.specs.declared.members.Attribute.{Attribute}
use Rattle.source_model.specs.Forest as f
use Rattle.source_model.specs.Nodes.{Around, nodes_in}
use Rattle.source_model.specs.Signatures.{generic_arguments_token}
use Rattle.source_model.specs.Source.{Source}
use Rattle.faultless_nodes.specs.Laws.{EachBreaksNothing, asked}
use Rattle.listing_declarations.specs.Laws.{IsListingOf}
use Rattle.listing_growth.specs.Held.{is_signature_held, is_method_ref_held, is_field_ref_held, are_attributes_held}
use Rattle.listing_model.specs.References.{convention, arguments, method_ref, field_ref}
use Rattle.listing_model.specs.Shown.{Shown}
use Rattle.listing_model.specs.Values.{customs}
use Rattle.listing_reading.specs.Numbered.{numbered, Agrees}
use Rattle.listing_rows.specs.Segments.{ItemsAgree}
use Rattle.listing_denotes.specs.Quiet.{ItemsBreakNothing}

-- a piece breaks none wherever it stands
abbrev pub IsQuiet : Source → Around → Shown → Type 0
IsQuiet s x g = (at : ℕ) → Agrees s at g → EachBreaksNothing s (nodes_in s x (numbered at g))

-- Calling conventions, arguments in parentheses, and references to methods and fields, with anything behind them that breaks none.
pub record ReferencesBreakNothing : Type 0 where
  pub conventions : (s : Source) (x : Around) (m : MethodSig) (after : Shown) → IsQuiet s x after → IsQuiet s x (convention m after)
  pub arguments : (s : Source) (a : Assembly) → IsListingOf s a → (x : Around) (m : MethodSig) → is_signature a m ≡ true → is_signature_held m ≡ true →
      (after : Shown) → IsQuiet s x after → IsQuiet s x (arguments a.externs m after)
  pub methods : (s : Source) (a : Assembly) → IsListingOf s a → (x : Around) (r : MethodRef) → is_method_ref a r ≡ true → is_method_ref_held r ≡ true → (at : ℕ) →
      Agrees s at (method_ref a.externs r).below → (after : f.Forest) → EachBreaksNothing s (nodes_in s x after) →
      EachBreaksNothing s (nodes_in s x (f.branch (method_ref a.externs r).production (numbered at (method_ref a.externs r).below) after))
  pub fields : (s : Source) (a : Assembly) → IsListingOf s a → (x : Around) (r : FieldRef) → is_field_ref a r ≡ true → is_field_ref_held r ≡ true → (at : ℕ) →
      Agrees s at (field_ref a.externs r).below → (after : f.Forest) → EachBreaksNothing s (nodes_in s x after) →
      EachBreaksNothing s (nodes_in s x (f.branch (field_ref a.externs r).production (numbered at (field_ref a.externs r).below) after))

-- a reference without arguments has no token of generic arguments
abbrev pub PlainReferencesHaveNone : Type 0
PlainReferencesHaveNone =
    (s : Source) (a : Assembly) → IsListingOf s a → (r : MethodRef) → is_method_ref a r ≡ true → is_method_ref_held r ≡ true → r.args ≡ None → (at : ℕ) →
    generic_arguments_token (numbered at (method_ref a.externs r).below) ≡ []

-- attributes in a row, each below a production of their owner's of which no rule speaks
abbrev pub AttributesBreakNothing : Type 0
AttributesBreakNothing =
    (s : Source) (a : Assembly) → IsListingOf s a → (x : Around) (xs : List Attribute) → list_all (is_attribute a) xs ≡ true → are_attributes_held xs ≡ true →
    (production : ℕ) → f.is_among asked production ≡ false → (at : ℕ) → ItemsAgree s at (customs a.externs production xs) →
    ItemsBreakNothing s x at (customs a.externs production xs)
