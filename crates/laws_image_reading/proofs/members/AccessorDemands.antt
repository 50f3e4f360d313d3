-- Accessors of properties and events are of the kinds that these may have, and an event has a type.
use Rattle.std.proofs.Common.{◌≡◌, ◌≢◌, ap, refl, sym, ◌∙◌, subst, ℕ, ◌+◌, ◌*◌, ◌/◌, ◌%◌, ◌^◌, ◌<◌, ◌==◌, ◌||◌, Bool, List, [], ◌∷◌, Contains, length, Option, Some, inl, inr, arith}
use Rattle.std.specs.Prelude.{IsTrue, slice_index}
use Rattle.std.specs.List.{AllByRecursion, flat_map}
use Rattle.std.proofs.lemmas.Bool.{or_cases, eqb-true}
use Rattle.std.proofs.lemmas.List.{length-append, length-map}
use Rattle.std.proofs.lemmas.List.Elements.{All-from_recursion}
use Rattle.metadata_tables.specs.CodedIndex.{tag_of}
use Rattle.metadata_tables.specs.declared.coded.Coded.TheVariants.{HasSemantics, TypeDefOrRef}
use Rattle.assembly_tree.specs.Weight.{event_weight, property_weight}
use Rattle.assembly_tree.specs.WellFormedMembers.{is_event, is_event_accessor, is_property, is_property_accessor}
use Rattle.assembly_tree.specs.declared.assembly.Assembly.{Assembly}
use Rattle.assembly_tree.specs.declared.members.Accessor.{Accessor}
use Rattle.assembly_tree.specs.declared.members.Event.{Event}
use Rattle.assembly_tree.specs.declared.members.Property.{Property}
use Rattle.assembly_tree.proofs.FormedFacts.{events_named, properties_named}
use Rattle.type_terms.specs.declared.term.Owner.{Owner}
use Rattle.image_tokens.specs.Indexes.{index_of, index_of_token}
use Rattle.image_members.specs.DeclaredMembers.{class_methods}
use Rattle.image_members.specs.Lists.{access_of, access_from, event_access, property_access, properties_in, events_in}
use Rattle.image_members.specs.Places.{class_events, class_properties}
use Rattle.image_rows.specs.SemanticsRows.{semantics_row}
use Rattle.image_members.specs.declared.classes.Class.{Class}
use Rattle.image_model.specs.Columns.{semantics_kind}
use Rattle.image_model.specs.Members.{HasKinds, event_kinds, property_kinds, semantics_of}
use Rattle.image_model.specs.Naming.{NamesOwner, RowOwner}
use Rattle.laws_image_parts.specs.OwnedRows.{AccessorsOf}
use Rattle.laws_image_parts.specs.RowCells.{semantics_cells}
use Rattle.laws_image_parts.specs.RowsRead.{IsMade}
use Rattle.laws_image_parts.proofs.IndexLemmas.{index_is}
use Rattle.laws_writable_trees.proofs.Each.{each_from, each_joined, each_mapped, each_true}
use Rattle.laws_writable_trees.proofs.Members.{IsFine}
use Rattle.laws_writable_trees.proofs.Parts.{IsFineClass, its_events, its_properties}
use Rattle.laws_image_reading.proofs.members.Lists.{zip_left}

-- ---- kinds

event_kind : (n : ℕ) → IsTrue ((n == 4) || (n == 8) || (n == 0x10) || (n == 0x20)) → Contains event_kinds n
event_kind n h = elim (or_cases ((n == 4) || (n == 8) || (n == 0x10)) (n == 0x20) h) [
  | inr e ↦ (3, omega arith, sym (eqb-true n 0x20 e))
  | inl h ↦ elim (or_cases ((n == 4) || (n == 8)) (n == 0x10) h) [
    | inr e ↦ (2, omega arith, sym (eqb-true n 0x10 e))
    | inl h ↦ elim (or_cases (n == 4) (n == 8) h) [
      | inr e ↦ (1, omega arith, sym (eqb-true n 8 e))
      | inl e ↦ (0, omega arith, sym (eqb-true n 4 e))
    ]
  ]
]

property_kind : (n : ℕ) → IsTrue ((n == 1) || (n == 2) || (n == 4)) → Contains property_kinds n
property_kind n h = elim (or_cases ((n == 1) || (n == 2)) (n == 4) h) [
  | inr e ↦ (2, omega arith, sym (eqb-true n 4 e))
  | inl h ↦ elim (or_cases (n == 1) (n == 2) h) [
    | inr e ↦ (1, omega arith, sym (eqb-true n 2 e))
    | inl e ↦ (0, omega arith, sym (eqb-true n 1 e))
  ]
]

-- an accessor with its method's row is of a kind
abbrev pub IsOf : List ℕ → ℕ × ℕ → Type 0
IsOf kinds x = Contains kinds x.0

access_kinds : (kinds : List ℕ) (test : Accessor → Bool) → ((x : Accessor) → IsTrue (test x) → Contains kinds x.kind) → (first : ℕ) (xs : List Accessor) → AllByRecursion (λ x. IsTrue (test x)) xs
    → AllByRecursion (IsOf kinds) (access_of first xs)
access_kinds kinds test f first xs h = each_mapped (IsOf kinds) (λ (x : Accessor). (x.kind, first + x.method)) xs (each_from (λ x. IsTrue (test x)) (λ x. Contains kinds x.kind) f xs h)

module _ (a : Assembly) where
  events_of_kinds : (first : ℕ) (c : Class) → IsFineClass a c → AllByRecursion (AllByRecursion (IsOf event_kinds)) (event_access first c)
  events_of_kinds first c h =
      each_mapped (AllByRecursion (IsOf event_kinds)) (λ (e : Event). access_of first e.accessors) (class_events c)
      (each_from (IsFine (is_event a) event_weight) (λ (e : Event). AllByRecursion (IsOf event_kinds) (access_of first e.accessors))
      (λ e fine. access_kinds event_kinds is_event_accessor (λ x t. event_kind x.kind t) first e.accessors (each_true is_event_accessor e.accessors ((events_named a e).0 fine.formed).accessors))
      (class_events c) (its_events a c h))

  properties_of_kinds : (first : ℕ) (c : Class) → IsFineClass a c → AllByRecursion (AllByRecursion (IsOf property_kinds)) (property_access first c)
  properties_of_kinds first c h =
      each_mapped (AllByRecursion (IsOf property_kinds)) (λ (p : Property). access_of first p.accessors) (class_properties c)
      (each_from (IsFine (is_property a) property_weight) (λ (p : Property). AllByRecursion (IsOf property_kinds) (access_of first p.accessors))
      (λ p fine. access_kinds property_kinds is_property_accessor (λ x t. property_kind x.kind t) first p.accessors (each_true is_property_accessor p.accessors ((properties_named a p).0 fine.formed).accessors))
      (class_properties c) (its_properties a c h))

  -- those of all classes
  all_of_kinds : (kinds : List ℕ) (access : ℕ → Class → List (List (ℕ × ℕ))) → ((first : ℕ) (c : Class) → IsFineClass a c → AllByRecursion (AllByRecursion (IsOf kinds)) (access first c))
      → (first : ℕ) (classes : List Class) → AllByRecursion (IsFineClass a) classes → AllByRecursion (AllByRecursion (IsOf kinds)) (access_from access first classes)
  all_of_kinds kinds access f first [] h = tt
  all_of_kinds kinds access f first (c ∷ cs) h =
      each_joined (AllByRecursion (IsOf kinds)) (access first c) (access_from access (first + length (class_methods c)) cs) (f first c h.0)
      (all_of_kinds kinds access f (first + length (class_methods c)) cs h.1)

  pub event_access_kinds : (first : ℕ) (classes : List Class) → AllByRecursion (IsFineClass a) classes → AllByRecursion (AllByRecursion (IsOf event_kinds)) (access_from event_access first classes)
  event_access_kinds = all_of_kinds event_kinds event_access events_of_kinds

  pub property_access_kinds : (first : ℕ) (classes : List Class) → AllByRecursion (IsFineClass a) classes
      → AllByRecursion (AllByRecursion (IsOf property_kinds)) (access_from property_access first classes)
  property_access_kinds = all_of_kinds property_kinds property_access properties_of_kinds

-- there is a list of accessors for each event and each property
pub event_access_long : (first : ℕ) (classes : List Class) → length (access_from event_access first classes) ≡ length (events_in classes)
event_access_long first [] = refl
event_access_long first (c ∷ cs) =
    let left = length-append (event_access first c) (access_from event_access (first + length (class_methods c)) cs) in
    let own = length-map (class_events c) (λ (e : Event). access_of first e.accessors) in
    let rest = event_access_long (first + length (class_methods c)) cs in
    let right = length-append (class_events c) (flat_map class_events cs) in
    omega arith

pub property_access_long : (first : ℕ) (classes : List Class) → length (access_from property_access first classes) ≡ length (properties_in classes)
property_access_long first [] = refl
property_access_long first (c ∷ cs) =
    let left = length-append (property_access first c) (access_from property_access (first + length (class_methods c)) cs) in
    let own = length-map (class_properties c) (λ (p : Property). access_of first p.accessors) in
    let rest = property_access_long (first + length (class_methods c)) cs in
    let right = length-append (class_properties c) (flat_map class_properties cs) in
    omega arith

-- the rows of accessors have their kinds
pub kinds_fit : (kinds : List ℕ) (image : List ℕ) (table row : ℕ) (xs : List (ℕ × ℕ)) → AccessorsOf image table row xs → AllByRecursion (IsOf kinds) xs → HasKinds image kinds table row
kinds_fit kinds image table row xs h k =
    All-from_recursion (λ j. Contains kinds (semantics_kind image j)) (semantics_of image table row)
    (zip_left (λ j (x : ℕ × ℕ). IsMade semantics_row (semantics_cells image j) (index_of HasSemantics table row, x)) (IsOf kinds) (λ j. Contains kinds (semantics_kind image j))
    (λ j x is has. subst (Contains kinds) (sym (ap (λ (cs : List ℕ). slice_index cs 0) is)) has) (semantics_of image table row) xs h k)

-- ---- the type of an event

-- the index of a row that is there isn't 0
row_some : (table row tag token : ℕ) → 0 < row → row < 2 ^ 24 → token ≡ table * 2 ^ 24 + row → tag_of TypeDefOrRef table ≡ Some tag → index_of_token TypeDefOrRef token ≢ 0
row_some table row tag token some fits is e zero =
    let high : token / 2 ^ 24 ≡ table = omega arith in
    let low : token % 2 ^ 24 ≡ row = omega arith in
    let index : index_of_token TypeDefOrRef token ≡ row * 4 + tag =
    ap (λ t. index_of TypeDefOrRef t (token % 2 ^ 24)) high ∙ ap (index_of TypeDefOrRef table) low ∙ index_is TypeDefOrRef table row tag e in
    omega arith

pub type_index_some : (image : List ℕ) (owners : ℕ → Option Owner) (token : ℕ) (o : Owner) → NamesOwner image owners token o → index_of_token TypeDefOrRef token ≢ 0
unfolding tag_of
type_index_some image owners token o (NamesOwner.by_row {row = row} i (RowOwner.defined e there h)) =
    let is = i.is in row_some 0x02 row 0 token there.0 i.fits (omega arith) refl
type_index_some image owners token o (NamesOwner.by_row {row = row} i (RowOwner.referred e there h)) =
    let is = i.is in row_some 0x01 row 1 token there.0 i.fits (omega arith) refl
type_index_some image owners token o (NamesOwner.by_row {row = row} i (RowOwner.specified e there b h)) =
    let is = i.is in row_some 0x1B row 2 token there.0 i.fits (omega arith) refl
