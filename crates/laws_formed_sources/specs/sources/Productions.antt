-- What a faultless source says of each of its productions (ECMA-335 II.5 to II.22).
use Rattle.std.specs.Prelude.{◌≡◌, ℕ, ◌≤◌, true, List, [], ◌∷◌, length}
use Rattle.ilasm_grammar.specs.declared.productions.TheConstants.{ASSEMBLY_ITEM_CUSTOM, DECL_CUSTOM, EVENT_ITEM_CUSTOM, ITEM_CUSTOM, MEMBER_CUSTOM, PROPERTY_ITEM_CUSTOM}
use Rattle.source_model.specs.Forest.{Forest, Part, is_among}
use Rattle.source_model.specs.Nodes.{Around, typars}
use Rattle.source_model.specs.OutOfRange.{barred_arguments, barred_in_property, data_too_long}
use Rattle.source_model.specs.Source.{Source}
use Rattle.source_model.specs.TypeRules.{path_too_long, scope_undeclared, type_too_deep, type_undeclared, typars_out_of_range}
use Rattle.source_flags.specs.InRange.{IsInRange}
use Rattle.source_nodes.specs.Derived.{OfEach}
use Rattle.source_syntax.specs.Places.{node_of}

-- Below the production stands its body; its numbers and counts are in their ranges; the type that it names is declared, by a
-- path of at most 100 names; and the type that it is has a depth of at most 100.
pub record IsFaultlessAt (s : Source) (p : ℕ) (f : Forest) : Type 0 where
  pub range : IsInRange s p f
  pub types : type_undeclared s (node_of p f) ≡ []
  pub scopes : scope_undeclared s (node_of p f) ≡ []
  pub paths : path_too_long (node_of p f) ≡ []
  pub depth : type_too_deep s (node_of p f) ≡ []
  pub typars : typars_out_of_range (node_of p f) ≡ []
  pub lengths : data_too_long s (node_of p f) ≡ []
  pub arguments : barred_arguments (node_of p f) ≡ []
  pub properties : barred_in_property (node_of p f) ≡ []

-- and so it is at each production of a forest
abbrev pub AllFaultless : Source → Forest → Type 0
AllFaultless s f = OfEach (IsFaultlessAt s) f

-- the class and the method around a place have at most 65,535 generic parameters each (ECMA-335 II.10.1.7)
pub record HasFewTypars (a : Around) : Type 0 where
  pub class : length (typars a.class) ≤ 65535
  pub method : length (typars a.method) ≤ 65535

-- the productions that hold an attribute among declarations, members and items (ECMA-335 II.21)
abbrev pub custom_productions : List ℕ
custom_productions = DECL_CUSTOM ∷ MEMBER_CUSTOM ∷ ITEM_CUSTOM ∷ ASSEMBLY_ITEM_CUSTOM ∷ PROPERTY_ITEM_CUSTOM ∷ EVENT_ITEM_CUSTOM ∷ []

-- a faultless attribute
abbrev pub IsFaultlessCustom : Source → Part → Type 0
IsFaultlessCustom s p = (is_among custom_productions p.production ≡ true) × IsFaultlessAt s p.production p.below × AllFaultless s p.below
