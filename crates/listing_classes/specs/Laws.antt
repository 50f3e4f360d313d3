-- What stands in the braces of a type of a listing is read as (ECMA-335 II.10.2, II.10.7).
use Rattle.std.specs.Prelude.{ℕ, ◌+◌, ◌==◌, ◌≡◌, ◌<◌, ◌^◌, nat_lt, Bool, true, List, [], ◌∷◌, ◌++◌, filter, length, Option}
use Rattle.std.specs.List.{list_all}
use Rattle.ilasm_grammar.specs.declared.nonterminals.TheConstants as n
use Rattle.ilasm_grammar.specs.declared.productions.TheConstants as p
use Rattle.type_terms.specs.declared.name.Scope.TheVariants.{Here}
use Rattle.type_terms.specs.declared.name.TypeId.{TypeId}
use Rattle.assembly_tree.specs.WellFormedMembers.{is_attribute, is_field, is_generic, is_method, is_property, is_event, is_accessor_of, is_same_method}
use Rattle.assembly_tree.specs.WellFormedNames.{all_differ, is_type_name, option_all}
use Rattle.assembly_tree.specs.declared.assembly.Assembly.{Assembly}
use Rattle.assembly_tree.specs.declared.assembly.ExternAssembly.{ExternAssembly}
use Rattle.assembly_tree.specs.declared.typedef.Layout.{Layout}
use Rattle.assembly_tree.specs.declared.typedef.TypeDef.TheOpen.{TypeDef-F}
use Rattle.source_model.specs.Data.{layout_from}
use Rattle.source_model.specs.Forest as f
use Rattle.source_model.specs.Items.{members, runs, own_customs}
use Rattle.source_model.specs.Manifests.{attributes}
use Rattle.source_model.specs.Members as read
use Rattle.source_model.specs.Nodes.{Around}
use Rattle.source_model.specs.Parameters.{generics}
use Rattle.source_model.specs.Source.{Source}
use Rattle.listing_class_heads.specs.Laws.{Head, class_shown}
use Rattle.listing_formed.specs.Laws.{Knows}
use Rattle.listing_groups.specs.Laws.{HaveContents, are_short}
use Rattle.listing_growth.specs.Held.{are_attributes_held, is_layout_held, is_generic_held, is_field_held, is_method_held, is_property_held, is_event_held}
use Rattle.listing_members.specs.Laws.{is_head}
use Rattle.listing_model.specs.Classes.{ClassShown, layout_lines, class_members}
use Rattle.listing_model.specs.Grown.{body_of, Grows}
use Rattle.listing_model.specs.Members.{typars}
use Rattle.listing_model.specs.Shown.{Item, opt_below}
use Rattle.listing_reading.specs.Numbered.{numbered, Agrees, place}
use Rattle.listing_reading.specs.Rows.{AreAmong, parts_at}
use Rattle.listing_rows.specs.Laws.{NonePass}
use Rattle.listing_rows.specs.Segments.{ItemsAgree, EachGrown}

-- ---- layouts

-- a member of this production
abbrev pub is_line : ℕ → f.Part → Bool
is_line production q = q.production == production

-- the layout that the lines of `.pack` and `.size` among these members give
abbrev pub layout_in : Source → List f.Part → Option Layout
layout_in s ps = layout_from s (filter (is_line p.MEMBER_PACK) ps) (filter (is_line p.MEMBER_SIZE) ps)

-- The lines of a layout, with any other members behind them.
abbrev pub LayoutsAreRead : Type 0
LayoutsAreRead =
    (s : Source) (l : Option Layout) → option_all is_layout_held l ≡ true → (at : ℕ) → ItemsAgree s at (layout_lines l) → (after : List f.Part) →
    NonePass (is_line p.MEMBER_PACK) after → NonePass (is_line p.MEMBER_SIZE) after → layout_in s (parts_at at (layout_lines l) ++ after) ≡ l

-- ---- the braces

abbrev pub member_parts : List ℕ
member_parts =
    p.MEMBER_CLASS ∷ p.MEMBER_FIELD ∷ p.MEMBER_METHOD ∷ p.MEMBER_PROPERTY ∷ p.MEMBER_EVENT ∷ p.MEMBER_CUSTOM ∷ p.MEMBER_DATA ∷ p.MEMBER_PARAM
    ∷ p.MEMBER_PACK ∷ p.MEMBER_SIZE ∷ []

-- where the members of a type begin
abbrev pub members_place : List ExternAssembly → Head → List Item → ℕ → ℕ
members_place externs h items at = place 7 at (class_shown externs h items)

-- What stands in the braces of a type is its members; what a listing has there are such.
pub record ClassBodiesAreRead : Type 0 where
  pub among : (externs : List ExternAssembly) (t : TypeDef-F ClassShown) (path : List TypeId) (k : ℕ) → AreAmong member_parts (class_members externs t path k)
  pub parts : (externs : List ExternAssembly) (h : Head) (items : List Item) → AreAmong member_parts items → Grows (body_of p.CLASS) (class_shown externs h items) →
      (at : ℕ) → members (numbered at (class_shown externs h items)) ≡ parts_at (members_place externs h items at) items
  pub agree : (s : Source) (externs : List ExternAssembly) (h : Head) (items : List Item) (at : ℕ) → Agrees s at (class_shown externs h items) →
      ItemsAgree s (members_place externs h items at) items
  pub grown : (externs : List ExternAssembly) (h : Head) (items : List Item) → Grows (body_of p.CLASS) (class_shown externs h items) → EachGrown n.MEMBER items

-- ---- the members

-- The parts of a type with this path meet their conditions, and are such as a tree in memory holds; nothing is said of what it nests.
pub record AreFormed (a : Assembly) (path : List TypeId) (t : TypeDef-F ClassShown) : Type 0 where
  pub layout : option_all is_layout_held t.layout ≡ true
  pub attributes : list_all (is_attribute a) t.attributes ≡ true
  pub attributes_held : are_attributes_held t.attributes ≡ true
  pub generics : list_all (is_generic a) t.generics ≡ true
  pub generics_held : list_all is_generic_held t.generics ≡ true
  pub few : 1 + length t.generics < 2 ^ 128
  pub fields : list_all (is_field a) t.fields ≡ true
  pub fields_held : list_all is_field_held t.fields ≡ true
  pub methods : list_all (is_method a) t.methods ≡ true
  pub methods_held : list_all is_method_held t.methods ≡ true
  pub short : are_short t.methods
  pub properties : list_all (is_property a) t.properties ≡ true
  pub properties_held : list_all is_property_held t.properties ≡ true
  pub property_accessors : list_all (λ x. list_all (is_accessor_of (length t.methods)) x.accessors) t.properties ≡ true
  pub events : list_all (is_event a) t.events ≡ true
  pub events_held : list_all is_event_held t.events ≡ true
  pub event_accessors : list_all (λ x. list_all (is_accessor_of (length t.methods)) x.accessors) t.events ≡ true
  pub named : is_type_name a (record { scope = Here; path = path }) ≡ true
  pub inside : nat_lt 0 (length path) ≡ true
  pub heads : list_all (is_head a) t.methods ≡ true
  pub differ : all_differ is_same_method t.methods ≡ true

-- What is read from the members of a type as a listing has them; `k` is the number of its first data.
pub record ClassMembersAreRead : Type 0 where
  pub layout : (s : Source) (a : Assembly) (path : List TypeId) (t : TypeDef-F ClassShown) → AreFormed a path t → (k at : ℕ) →
      ItemsAgree s at (class_members a.externs t path k) → layout_in s (parts_at at (class_members a.externs t path k)) ≡ t.layout
  pub attributes : (s : Source) (around : Around) (a : Assembly) → Knows s a → (path : List TypeId) (t : TypeDef-F ClassShown) → AreFormed a path t → (k at : ℕ) →
      ItemsAgree s at (class_members a.externs t path k) → attributes s around (own_customs (parts_at at (class_members a.externs t path k))) ≡ t.attributes
  pub generics : (s : Source) (around : Around) (a : Assembly) → Knows s a → (path : List TypeId) (t : TypeDef-F ClassShown) → AreFormed a path t → (k at : ℕ) →
      ItemsAgree s at (class_members a.externs t path k) → (j : ℕ) → Agrees s j (opt_below (typars a.externs t.generics)) → (g : f.Forest) →
      f.child (p.TYPARS_OPT_SOME ∷ []) g ≡ numbered j (opt_below (typars a.externs t.generics)) →
      generics s around g (runs (parts_at at (class_members a.externs t path k))) ≡ t.generics
  pub fields : (s : Source) (around : Around) (a : Assembly) → Knows s a → (path : List TypeId) (t : TypeDef-F ClassShown) → AreFormed a path t → (k at : ℕ) →
      ItemsAgree s at (class_members a.externs t path k) → HaveContents s k t.fields →
      read.fields s around (parts_at at (class_members a.externs t path k)) ≡ t.fields
  pub methods : (s : Source) (around : Around) (a : Assembly) → Knows s a → (path : List TypeId) (t : TypeDef-F ClassShown) → AreFormed a path t → (k at : ℕ) →
      ItemsAgree s at (class_members a.externs t path k) → EachGrown n.MEMBER (class_members a.externs t path k) →
      read.methods s around (parts_at at (class_members a.externs t path k)) ≡ t.methods
  pub properties : (s : Source) (around : Around) (a : Assembly) → Knows s a → (path : List TypeId) (t : TypeDef-F ClassShown) → AreFormed a path t → (k at : ℕ) →
      ItemsAgree s at (class_members a.externs t path k) → EachGrown n.MEMBER (class_members a.externs t path k) →
      read.properties s around (parts_at at (class_members a.externs t path k)) ≡ t.properties
  pub events : (s : Source) (around : Around) (a : Assembly) → Knows s a → (path : List TypeId) (t : TypeDef-F ClassShown) → AreFormed a path t → (k at : ℕ) →
      ItemsAgree s at (class_members a.externs t path k) → EachGrown n.MEMBER (class_members a.externs t path k) →
      read.events s around (parts_at at (class_members a.externs t path k)) ≡ t.events
