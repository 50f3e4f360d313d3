-- Which flags, constants and other assemblies of a listing break no rule (ECMA-335 II.6.3, II.16.2, II.23.1).
use Rattle.std.specs.Prelude.{ℕ, ◌≡◌, true, false, List, [], ◌∷◌, Option}
use Rattle.ilasm_grammar.specs.declared.nonterminals.TheConstants as n
use Rattle.ilasm_grammar.specs.declared.productions.TheConstants as p
use Rattle.assembly_tree.specs.WellFormedMembers.{is_constant, are_impl_flags}
use Rattle.assembly_tree.specs.WellFormedNames.{option_all}
use Rattle.assembly_tree.specs.declared.assembly.Assembly.{Assembly}
use Rattle.assembly_tree.specs.declared.members.Constant.{Constant}
use Rattle.source_model.specs.Forest as f
use Rattle.source_model.specs.Nodes.{Around, Node, nodes_in, nothing_around}
use Rattle.source_model.specs.OutOfRange.{number_out_of_range_at}
use Rattle.source_model.specs.Source.{Source}
use Rattle.faultless_nodes.specs.Laws.{BreaksNothing, EachBreaksNothing}
use Rattle.listing_declarations.specs.Laws.{IsListingOf, extern_items}
use Rattle.listing_growth.specs.Held.{is_u16, is_u32, is_constant_held}
use Rattle.listing_model.specs.Flags.{flag_items, type_flag_items, field_words, method_words, implementation_words, parameter_words, property_words, typar_words}
use Rattle.listing_model.specs.Manifests.{assembly_flags}
use Rattle.listing_model.specs.Shown.{Shown, none, Item, put}
use Rattle.listing_model.specs.Values.{constant_item, constant_opt}
use Rattle.listing_reading.specs.Numbered.{numbered, Agrees}
use Rattle.listing_rows.specs.Segments.{ItemsAgree}
use Rattle.listing_denotes.specs.Quiet.{ItemsBreakNothing}

-- those of which other rules speak than the rules on numbers out of range
abbrev pub beyond_numbers : List ℕ
beyond_numbers =
    p.TYPE_NAME_SCOPE ∷ p.TARGET_SCOPE ∷ p.FIELD_TARGET_SCOPE ∷ p.TYPE_NAME_PATH ∷ p.TARGET_NAME ∷ p.FIELD_TARGET_NAME
    ∷ p.TYPE_BASE_BANG ∷ p.TYPE_BASE_DOUBLE_BANG ∷ p.MEMBER_PARAM ∷ p.PARAM_OF_TYPE ∷ p.TYPE ∷ p.CLASS ∷ p.FIELD ∷ p.AT_NAME
    ∷ p.PROPERTY ∷ p.EVENT ∷ p.METHOD ∷ []

-- any other breaks nothing where no number is out of its range
abbrev pub NumbersAlone : Type 0
NumbersAlone = (s : Source) (n : Node) → f.is_among beyond_numbers n.production ≡ false → number_out_of_range_at s n ≡ [] → BreaksNothing s n

-- the flags of this number, as items from a token on, break no rule
abbrev pub IsQuietRow : Source → Around → ℕ → List Item → Type 0
IsQuietRow s a at row = ItemsAgree s at row → ItemsBreakNothing s a at row

-- The flags of each kind, where the number fits its field.
pub record FlagsBreakNothing : Type 0 where
  pub types : (s : Source) (a : Around) (k : ℕ) → is_u32 k ≡ true → (at : ℕ) → IsQuietRow s a at (type_flag_items k)
  pub fields : (s : Source) (a : Around) (k : ℕ) → is_u16 k ≡ true → (at : ℕ) → IsQuietRow s a at (flag_items n.FIELD_ATTR p.FIELD_ATTR_FLAGS field_words k)
  pub methods : (s : Source) (a : Around) (k : ℕ) → is_u16 k ≡ true → (at : ℕ) → IsQuietRow s a at (flag_items n.METHOD_ATTR p.METHOD_ATTR_FLAGS method_words k)
  pub implementations : (s : Source) (a : Around) (k : ℕ) → is_u16 k ≡ true → are_impl_flags k ≡ true → (at : ℕ) →
      IsQuietRow s a at (flag_items n.IMPL_ATTR p.IMPL_ATTR_FLAGS implementation_words k)
  pub parameters : (s : Source) (a : Around) (k : ℕ) → is_u16 k ≡ true → (at : ℕ) → IsQuietRow s a at (flag_items n.PARAM_ATTR p.PARAM_ATTR_FLAGS parameter_words k)
  pub properties : (s : Source) (a : Around) (k : ℕ) → is_u16 k ≡ true → (at : ℕ) → IsQuietRow s a at (flag_items n.PROPERTY_ATTR p.PROPERTY_ATTR_FLAGS property_words k)
  pub typars : (s : Source) (a : Around) (k : ℕ) → is_u16 k ≡ true → (at : ℕ) → IsQuietRow s a at (flag_items n.TYPAR_ATTR p.TYPAR_ATTR_FLAGS typar_words k)

-- A constant, and one that may stand, with anything behind it that breaks none.
pub record ConstantsBreakNothing : Type 0 where
  pub one : (s : Source) (a : Around) (c : Constant) → is_constant c ≡ true → is_constant_held c ≡ true → (at : ℕ) → Agrees s at (put (constant_item c) none) →
      EachBreaksNothing s (nodes_in s a (numbered at (put (constant_item c) none)))
  pub there : (s : Source) (a : Around) (c : Option Constant) → option_all is_constant c ≡ true → option_all is_constant_held c ≡ true → (after : Shown) (at : ℕ) →
      Agrees s at (constant_opt c after) → ((k : ℕ) → Agrees s k after → EachBreaksNothing s (nodes_in s a (numbered k after))) →
      EachBreaksNothing s (nodes_in s a (numbered at (constant_opt c after)))

-- the flags of an assembly, with anything behind them that breaks none, and its version
pub record AssembliesBreakNothing : Type 0 where
  pub flags : (s : Source) (a : Around) (k : ℕ) → is_u32 k ≡ true → (after : Shown) (at : ℕ) → Agrees s at (assembly_flags k after) →
      ((j : ℕ) → Agrees s j after → EachBreaksNothing s (nodes_in s a (numbered j after))) → EachBreaksNothing s (nodes_in s a (numbered at (assembly_flags k after)))

-- the other assemblies that a listing names
abbrev pub ExternsBreakNothing : Type 0
ExternsBreakNothing = (s : Source) (a : Assembly) → IsListingOf s a → ItemsBreakNothing s nothing_around 0 (extern_items a)
