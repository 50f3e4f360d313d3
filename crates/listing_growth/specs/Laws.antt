-- Pieces of a canonical source stand for their nonterminals.
use Rattle.std.specs.Prelude.{ℕ, ◌≡◌, true, List, [], ◌∷◌, Some, IsTrue}
use Rattle.ilasm_grammar.specs.declared.productions.TheConstants as p
use Rattle.ilasm_grammar.specs.declared.symbol.Symbol.TheVariants.{Nonterminal}
use Rattle.ilasm_grammar.specs.declared.nonterminals.TheConstants as n
use Rattle.type_terms.specs.declared.reference.FieldRef.{FieldRef}
use Rattle.type_terms.specs.declared.reference.MethodRef.{MethodRef}
use Rattle.type_terms.specs.declared.term.Owner.{Owner}
use Rattle.type_terms.specs.declared.term.SigType.{SigType}
use Rattle.assembly_tree.specs.WellFormed.{is_well_formed}
use Rattle.assembly_tree.specs.declared.assembly.Assembly.{Assembly}
use Rattle.assembly_tree.specs.declared.assembly.ExternAssembly.{ExternAssembly}
use Rattle.assembly_tree.specs.declared.members.Attribute.{Attribute}
use Rattle.assembly_tree.specs.declared.members.Constant as constant
use Rattle.assembly_tree.specs.declared.members.Field.{Field}
use Rattle.assembly_tree.specs.declared.members.Generic.{Generic}
use Rattle.listing_model.specs.Canon.{canon}
use Rattle.listing_model.specs.Grown.{head_of, body_of, Grows}
use Rattle.listing_model.specs.Flags.{flag_items, type_flag_items, field_words, method_words, implementation_words, parameter_words, property_words, typar_words, assembly_words}
use Rattle.listing_model.specs.Shown.{Item, none, star}
use Rattle.listing_model.specs.References.{method_ref, field_ref}
use Rattle.listing_model.specs.Types.{type_of, owner}
use Rattle.listing_model.specs.Members.{typar, field}
use Rattle.listing_model.specs.Values.{constant_item, custom, data_line}
use Rattle.listing_growth.specs.Held.{is_held}
use Rattle.listing_growth.specs.Standing.{can_stand, owner_can_stand, method_stands, field_stands, generic_stands}

-- a production of the nonterminal, over its body
abbrev pub Stands : ℕ → Item → Type 0
Stands nonterminal i = (head_of i.production ≡ Some nonterminal) × Grows (body_of i.production) i.below

-- types and owners do, whatever assemblies are named
pub record TermsStand : Type 0 where
  pub types : (externs : List ExternAssembly) (t : SigType) → can_stand t ≡ true → Stands n.TYPE (type_of externs t)
  pub owners : (externs : List ExternAssembly) (o : Owner) → owner_can_stand o ≡ true → Stands n.SPEC (owner externs o)

-- and references to methods and fields
pub record ReferencesStand : Type 0 where
  pub methods : (externs : List ExternAssembly) (r : MethodRef) → method_stands r ≡ true → Stands n.METHOD_REF (method_ref externs r)
  pub fields : (externs : List ExternAssembly) (r : FieldRef) → field_stands r ≡ true → Stands n.FIELD_REF (field_ref externs r)

-- constants, attributes, and the lines of data
pub record ValuesStand : Type 0 where
  pub constants : (c : constant.Constant) → Stands n.CONST (constant_item c)
  pub attributes : (externs : List ExternAssembly) (a : Attribute) → method_stands a.constructor ≡ true → Stands n.CUSTOM (custom externs a)
  pub contents : (k : ℕ) (bytes : List ℕ) → Stands n.DECL (data_line k bytes)

-- the rows of flags of each kind, whatever the number
pub record FlagsStand : Type 0 where
  pub fields : (k : ℕ) → Grows (Nonterminal n.FIELD_ATTR_STAR ∷ []) (star p.FIELD_ATTR_STAR_MORE p.FIELD_ATTR_STAR_END (flag_items n.FIELD_ATTR p.FIELD_ATTR_FLAGS field_words k) none)
  pub methods : (k : ℕ) → Grows (Nonterminal n.METHOD_ATTR_STAR ∷ []) (star p.METHOD_ATTR_STAR_MORE p.METHOD_ATTR_STAR_END (flag_items n.METHOD_ATTR p.METHOD_ATTR_FLAGS method_words k) none)
  pub implementations : (k : ℕ) → Grows (Nonterminal n.IMPL_ATTR_STAR ∷ []) (star p.IMPL_ATTR_STAR_MORE p.IMPL_ATTR_STAR_END (flag_items n.IMPL_ATTR p.IMPL_ATTR_FLAGS implementation_words k) none)
  pub parameters : (k : ℕ) → Grows (Nonterminal n.PARAM_ATTR_STAR ∷ []) (star p.PARAM_ATTR_STAR_MORE p.PARAM_ATTR_STAR_END (flag_items n.PARAM_ATTR p.PARAM_ATTR_FLAGS parameter_words k) none)
  pub properties : (k : ℕ) → Grows (Nonterminal n.PROPERTY_ATTR_STAR ∷ []) (star p.PROPERTY_ATTR_STAR_MORE p.PROPERTY_ATTR_STAR_END (flag_items n.PROPERTY_ATTR p.PROPERTY_ATTR_FLAGS property_words k) none)
  pub typars : (k : ℕ) → Grows (Nonterminal n.TYPAR_ATTR_STAR ∷ []) (star p.TYPAR_ATTR_STAR_MORE p.TYPAR_ATTR_STAR_END (flag_items n.TYPAR_ATTR p.TYPAR_ATTR_FLAGS typar_words k) none)
  pub assemblies : (k : ℕ) → Grows (Nonterminal n.ASSEMBLY_ATTR_STAR ∷ []) (star p.ASSEMBLY_ATTR_STAR_MORE p.ASSEMBLY_ATTR_STAR_END (flag_items n.ASSEMBLY_ATTR p.ASSEMBLY_ATTR_FLAGS assembly_words k) none)
  pub types : (k : ℕ) → Grows (Nonterminal n.CLASS_ATTR_STAR ∷ []) (star p.CLASS_ATTR_STAR_MORE p.CLASS_ATTR_STAR_END (type_flag_items k) none)

-- generic parameters and fields, with any number of data before them
pub record MembersStand : Type 0 where
  pub generics : (externs : List ExternAssembly) (g : Generic) → generic_stands g ≡ true → Stands n.TYPAR (typar externs g)
  pub fields : (externs : List ExternAssembly) (k : ℕ) (f : Field) → can_stand f.of ≡ true → Stands n.FIELD (field externs k f)

-- the canonical source of a well-formed assembly is one, whose values are such as a tree holds
abbrev pub CanonStands : Type 0
CanonStands = (a : Assembly) → IsTrue (is_well_formed a) → IsTrue (is_held a) → Grows (Nonterminal n.SOURCE ∷ []) (canon a)
