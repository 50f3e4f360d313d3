-- What the types of a listing are read as, each with those that it nests (ECMA-335 II.10, II.22.32).
use Rattle.std.specs.Prelude.{ℕ, suc, ◌+◌, ◌==◌, ◌≡◌, ◌<◌, ◌≤◌, ◌^◌, Bool, true, false, List, [], ◌∷◌, ◌++◌, length, map, take, sum_by, slice_get, Some, ⊤}
use Rattle.std.specs.List.{list_all}
use Rattle.ilasm_grammar.specs.declared.nonterminals.TheConstants as n
use Rattle.ilasm_grammar.specs.declared.productions.TheConstants as p
use Rattle.ilasm_grammar.specs.declared.symbol.Symbol.TheVariants.{Nonterminal}
use Rattle.type_terms.specs.declared.name.TypeId.{TypeId}
use Rattle.type_terms.specs.declared.term.SigType.{SigType}
use Rattle.assembly_tree.specs.DataSize.{type_at, size_in_data}
use Rattle.assembly_tree.specs.Weight.{typedef_weight}
use Rattle.assembly_tree.specs.WellFormedNames.{is_type_id}
use Rattle.assembly_tree.specs.WellFormedTypes.{is_base, are_types}
use Rattle.assembly_tree.specs.declared.assembly.Assembly.{Assembly}
use Rattle.assembly_tree.specs.declared.assembly.ExternAssembly.{ExternAssembly}
use Rattle.assembly_tree.specs.declared.typedef.TypeDef.{TypeDef}
use Rattle.assembly_tree.specs.declared.typedef.TypeDef.TheOpen.{TypeDef-F}
use Rattle.assembly_tree.specs.declared.typedef.TypeDef.TheViews.{out-TypeDef}
use Rattle.source_model.specs.Classes.{classes_in}
use Rattle.source_model.specs.Data.{bytes_at, data_named, data_size}
use Rattle.source_model.specs.Forest as f
use Rattle.source_model.specs.Nodes.{Around}
use Rattle.source_model.specs.Source.{Source}
use Rattle.listing_class_heads.specs.Laws.{Head, IsFormed}
use Rattle.listing_classes.specs.Laws.{AreFormed}
use Rattle.listing_formed.specs.Laws.{Knows}
use Rattle.listing_growth.specs.Held.{is_typedef_held}
use Rattle.listing_leaves.specs.Numbers.{data_label}
use Rattle.listing_model.specs.Canon.{contents}
use Rattle.listing_model.specs.Classes.{ClassShown, class, all_contents, classes_from}
use Rattle.listing_model.specs.Grown.{body_of}
use Rattle.listing_model.specs.Shown.{Item, size, star_production, star_below}
use Rattle.listing_reading.specs.Below.{cant_stand}
use Rattle.listing_reading.specs.Numbered.{numbered}
use Rattle.listing_rows.specs.Laws.{class_parts}
use Rattle.listing_rows.specs.Segments.{end_of, ItemsAgree, pieces_at, EachGrown, EachLacks}

-- ---- rows that hold types

-- none of a row is a type itself
abbrev pub AreOther : List Item → Type 0
AreOther [] = ⊤
AreOther (i ∷ is) = ((i.production == p.CLASS) ≡ false) × AreOther is

-- the types in the items of a row, in order
abbrev pub types_at : Source → Around → ℕ → List Item → List TypeDef
types_at s around at [] = []
types_at s around at (i ∷ is) = classes_in s around (numbered at i.below) ++ types_at s around (at + size i.below) is

-- The types in a row are those in its items, segment by segment; items that can't hold a type have none.
pub record TypeRowsAreRead : Type 0 where
  pub other : (s : Source) (around : Around) (q : ℕ) (b after : f.Forest) → (q == p.CLASS) ≡ false →
      classes_in s around (f.branch q b after) ≡ classes_in s around b ++ classes_in s around after
  pub row : (s : Source) (around : Around) (more end : ℕ) → (more == p.CLASS) ≡ false → (end == p.CLASS) ≡ false → (items : List Item) → AreOther items →
      (at : ℕ) (after : f.Forest) → classes_in s around (f.branch (star_production more end items) (numbered at (star_below more end items)) after)
      ≡ types_at s around at items ++ classes_in s around after
  pub joined : (s : Source) (around : Around) (at : ℕ) (xs ys : List Item) →
      types_at s around at (xs ++ ys) ≡ types_at s around at xs ++ types_at s around (end_of at xs) ys
  pub none : (s : Source) (around : Around) (x at : ℕ) (xs : List Item) → EachGrown x xs → EachLacks class_parts xs → types_at s around at xs ≡ []

-- what is sought is no member of a type that is neither a method nor a type itself, and stands in none
pub record OthersLack (sought : List ℕ) : Type 0 where
  pub pack : (f.is_among sought p.MEMBER_PACK ≡ false) × (cant_stand sought (body_of p.MEMBER_PACK) ≡ true)
  pub size : (f.is_among sought p.MEMBER_SIZE ≡ false) × (cant_stand sought (body_of p.MEMBER_SIZE) ≡ true)
  pub custom : (f.is_among sought p.MEMBER_CUSTOM ≡ false) × (cant_stand sought (body_of p.MEMBER_CUSTOM) ≡ true)
  pub param : (f.is_among sought p.MEMBER_PARAM ≡ false) × (cant_stand sought (body_of p.MEMBER_PARAM) ≡ true)
  pub field : (f.is_among sought p.MEMBER_FIELD ≡ false) × (cant_stand sought (body_of p.MEMBER_FIELD) ≡ true)
  pub property : (f.is_among sought p.MEMBER_PROPERTY ≡ false) × (cant_stand sought (body_of p.MEMBER_PROPERTY) ≡ true)
  pub event : (f.is_among sought p.MEMBER_EVENT ≡ false) × (cant_stand sought (body_of p.MEMBER_EVENT) ≡ true)

-- nor in a method
pub record MembersLack (sought : List ℕ) : Type 0 where
  pub others : OthersLack sought
  pub method : (f.is_among sought p.MEMBER_METHOD ≡ false) × (cant_stand sought (body_of p.MEMBER_METHOD) ≡ true)

-- it is no type either, and stands in no head of one
pub record TypesLack (sought : List ℕ) : Type 0 where
  pub members : MembersLack sought
  pub own : f.is_among sought p.CLASS ≡ false
  pub nested : f.is_among sought p.MEMBER_CLASS ≡ false
  pub more : f.is_among sought p.MEMBER_STAR_MORE ≡ false
  pub end : f.is_among sought p.MEMBER_STAR_END ≡ false
  pub head : cant_stand sought (take 7 (body_of p.CLASS)) ≡ true

-- ---- types side by side

-- Types of a tree that stand side by side in a type of this path, or in none, in at most `depth` levels: they meet their conditions,
-- are such as a tree in memory holds and not too heavy, and paths through them lead to them.
pub record AreNested (a : Assembly) (top : Bool) (depth : ℕ) (outer : List TypeId) (ts : List TypeDef) : Type 0 where
  pub formed : are_types a top depth ts ≡ true
  pub held : list_all is_typedef_held ts ≡ true
  pub light : sum_by typedef_weight ts ≤ 2 ^ 26
  pub named : list_all is_type_id outer ≡ true
  pub short : length outer + depth ≤ 100
  pub outermost : top ≡ true → outer ≡ []
  pub leads : (id : TypeId) (more : List TypeId) → type_at a.types (outer ++ id ∷ more) ≡ type_at ts (id ∷ more)

-- what the head of a type says
abbrev pub head_of_type : TypeDef → Head
head_of_type t = record {
  id = (out-TypeDef t).id;
  flags = (out-TypeDef t).flags;
  generics = (out-TypeDef t).generics;
  extends = (out-TypeDef t).extends;
  implements = (out-TypeDef t).implements;
}

-- a type as a listing shows it, with those that it nests
abbrev pub opened : List ExternAssembly → TypeDef → TypeDef-F ClassShown
opened externs t = record {
  id = (out-TypeDef t).id;
  flags = (out-TypeDef t).flags;
  layout = (out-TypeDef t).layout;
  generics = (out-TypeDef t).generics;
  extends = (out-TypeDef t).extends;
  implements = (out-TypeDef t).implements;
  fields = (out-TypeDef t).fields;
  methods = (out-TypeDef t).methods;
  properties = (out-TypeDef t).properties;
  events = (out-TypeDef t).events;
  nested = map (class externs) (out-TypeDef t).nested;
  attributes = (out-TypeDef t).attributes;
}

-- One of them: its head and its members meet their conditions, its base is one for its place, and the types that it nests stand side
-- by side in it.
pub record IsNested (a : Assembly) (top : Bool) (depth : ℕ) (outer : List TypeId) (t : TypeDef) : Type 0 where
  pub head : IsFormed a (head_of_type t)
  pub base : is_base top (out-TypeDef t).id (out-TypeDef t).flags (out-TypeDef t).extends ≡ true
  pub members : AreFormed a (outer ++ (out-TypeDef t).id ∷ []) (opened a.externs t)
  pub nested : AreNested a false depth (outer ++ (out-TypeDef t).id ∷ []) (out-TypeDef t).nested

abbrev pub EachNested : Assembly → Bool → ℕ → List TypeId → List TypeDef → Type 0
EachNested a top depth outer [] = ⊤
EachNested a top depth outer (t ∷ ts) = IsNested a top depth outer t × EachNested a top depth outer ts

-- Types side by side, and none where no level is left.
pub record TypesAreFormed : Type 0 where
  pub none : (a : Assembly) (top : Bool) (outer : List TypeId) (ts : List TypeDef) → AreNested a top 0 outer ts → ts ≡ []
  pub each : (a : Assembly) (top : Bool) (depth : ℕ) (outer : List TypeId) (ts : List TypeDef) → AreNested a top (suc depth) outer ts → EachNested a top depth outer ts

-- What stands in no type of a listing isn't found in types side by side.
abbrev pub TypesAreWithout : Type 0
TypesAreWithout =
    (sought : List ℕ) → TypesLack sought → (a : Assembly) (top : Bool) (depth : ℕ) (outer : List TypeId) (ts : List TypeDef) → AreNested a top depth outer ts →
    (production x : ℕ) → body_of production ≡ Nonterminal n.CLASS ∷ [] → f.is_among sought production ≡ false → (k at : ℕ) →
    EachGrown x (classes_from production outer k (map (class a.externs) ts)) → pieces_at sought at (classes_from production outer k (map (class a.externs) ts)) ≡ []

-- ---- read

-- The source has the data of the fields in a listing, each under its label, and knows how many bytes a value of a type has.
pub record HasData (s : Source) (a : Assembly) : Type 0 where
  pub few : length (contents a) < 2 ^ 128
  pub sizes : (t : SigType) → data_size s t ≡ size_in_data a t
  pub given : (k : ℕ) (bytes : List ℕ) → slice_get (contents a) k ≡ Some bytes → bytes_at s (data_named s (data_label k)) ≡ bytes

-- these stand among those, from this place on
abbrev pub StandAt : ℕ → List (List ℕ) → List (List ℕ) → Type 0
StandAt k xs all = (j : ℕ) (x : List ℕ) → slice_get xs j ≡ Some x → slice_get all (k + j) ≡ Some x

-- Types side by side, below productions that hold a type each, are read as these types; `k` is the number of their first data.
abbrev pub NestedAreRead : Type 0
NestedAreRead =
    (s : Source) (a : Assembly) → Knows s a → HasData s a → (top : Bool) (depth : ℕ) (outer : List TypeId) (ts : List TypeDef) → AreNested a top depth outer ts →
    (around : Around) → around.path ≡ outer → (production x : ℕ) → body_of production ≡ Nonterminal n.CLASS ∷ [] → (k at : ℕ) →
    StandAt k (all_contents (map (class a.externs) ts)) (contents a) → EachGrown x (classes_from production outer k (map (class a.externs) ts)) →
    ItemsAgree s at (classes_from production outer k (map (class a.externs) ts)) →
    types_at s around at (classes_from production outer k (map (class a.externs) ts)) ≡ ts
