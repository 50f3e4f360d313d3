-- Tables have the rows of what they hold.
use Rattle.std.proofs.Common.{◌≡◌, ◌∙◌, ap, ℕ, ◌+◌, ◌≤◌, List, [], ◌∷◌, map, length, length-append, arith}
use Rattle.std.proofs.lemmas.List.{length-map}
use Rattle.std.specs.Prelude.{sum_by}
use Rattle.std.specs.List.{AllZip}
use Rattle.std.proofs.lemmas.List.Sorted.{length_permutation}
use Rattle.std.proofs.lemmas.List.Sums.{sum_by-cons}
use Rattle.std.proofs.lemmas.Slice.Zip.{AllZip-long}
use Rattle.assembly_tree.specs.declared.assembly.Assembly.{Assembly}
use Rattle.assembly_tree.specs.declared.members.Method.{Method}
use Rattle.type_terms.specs.declared.term.Owner.{Owner}
use Rattle.metadata_tables.specs.Encoding.{rows_of, rows_in}
use Rattle.image_tokens.specs.declared.references.References.{References}
use Rattle.image_members.specs.DeclaredMembers.{class_fields, class_methods}
use Rattle.image_rows.specs.Filled.{three_cells, two_cells, first_cell, HoldsReferences, HoldsManifest, HoldsInterfaces, HoldsTypeRows, HoldsTypes, HoldsFields, HoldsMethods, HoldsProperties, HoldsOwned}
use Rattle.image_rows.specs.InterfaceRows.{interfaces_from, count_interfaces, joined, AreInterfaceRows}
use Rattle.image_rows.specs.MethodRows.{placed_methods}
use Rattle.image_rows.specs.OverrideRows.{overrides_from}
use Rattle.image_members.specs.Places.{all_methods}
use Rattle.image_members.specs.Pushing.{Tables}
use Rattle.image_members.specs.TypeIndexes.{IsTypeIndex}
use Rattle.image_rows.specs.TypeRows.{numbered}
use Rattle.image_members.specs.declared.classes.Class.{Class}
use Rattle.laws_tree_weights.specs.ImageBytes.{overrides_count}
use Rattle.laws_tree_weights.specs.RowCounts.{HasCounted, HasReferencesCounted, FilledIsCounted}
use Rattle.laws_tree_weights.proofs.OverrideLemmas.{rows_counted}

-- as many as items
items_few : {X : Type 0} (IsRow : List ℕ → X → Type 0) (rows : List (List ℕ)) (items : List X) → AllZip IsRow rows items → length rows ≤ length items
items_few IsRow rows items h = let long = AllZip-long IsRow rows items h in omega arith

same_few : (rows others : List (List ℕ)) → rows ≡ others → length rows ≤ length others
same_few rows others e = let same = ap (length {A = List ℕ}) e in omega arith

mapped_few : {X : Type 0} (f : X → List ℕ) (rows : List (List ℕ)) (items : List X) → rows ≡ map f items → length rows ≤ length items
mapped_few f rows items e = let same = ap (length {A = List ℕ}) e ∙ length-map items f in omega arith

-- ---- types

numbered_long : (field method : ℕ) (classes : List Class) → length (numbered field method classes) ≡ length classes
numbered_long field method [] = omega arith
numbered_long field method (c ∷ cs) = let rest = numbered_long (field + length (class_fields c)) (method + length (class_methods c)) cs in omega arith

types_few : (a : Assembly) (classes : List Class) (r : References) (tables : Tables) → HoldsTypeRows a classes r tables → rows_in tables 0x02 ≤ 1 + length classes
types_few a classes r tables h =
    let same = ap (length {A = List ℕ}) h.are in
    let few = items_few _ h.rows (numbered (1 + length a.fields) (1 + length a.methods) classes) h.each in
    let long = numbered_long (1 + length a.fields) (1 + length a.methods) classes in
    omega arith

group_few : (r : References) (rows : List (List ℕ)) (t : ℕ × List Owner) → AreInterfaceRows r rows t → length rows ≤ count_interfaces t
group_few r rows t h =
    let mapped = ap (length {A = List ℕ}) h.are ∙ length-map h.indexes (λ (index : ℕ). t.0 ∷ index ∷ []) in
    let same = length_permutation h.found h.indexes h.same in
    let each = AllZip-long (λ index o. IsTypeIndex o r index) h.found t.1 h.each in
    omega arith

groups_few : (r : References) (groups : List (List (List ℕ))) (types : List (ℕ × List Owner)) → AllZip (AreInterfaceRows r) groups types → length (joined groups) ≤ sum_by count_interfaces types
groups_few r [] [] h = omega arith
groups_few r [] (t ∷ ts) h = omega arith
groups_few r (g ∷ gs) [] h = absurd h
groups_few r (g ∷ gs) (t ∷ ts) h =
    let rest = groups_few r gs ts h.1 in
    let one = group_few r g t h.0 in
    let left = length-append g (joined gs) in
    let right = sum_by-cons count_interfaces t ts in
    omega arith

interfaces_few : (classes : List Class) (r : References) (tables : Tables) → HoldsInterfaces classes r tables → rows_in tables 0x09 ≤ sum_by count_interfaces (interfaces_from 2 classes)
interfaces_few classes r tables h =
    let same = ap (length {A = List ℕ}) h.are in
    let few = groups_few r h.groups (interfaces_from 2 classes) h.each in
    omega arith

-- ---- methods

placed_few : (param : ℕ) (rvas : List ℕ) (methods : List Method) → length (placed_methods param rvas methods) ≤ length methods
placed_few param rvas [] = omega arith
placed_few param [] (m ∷ ms) = omega arith
placed_few param (rva ∷ rvas) (m ∷ ms) = let rest = placed_few (param + length m.params) rvas ms in omega arith

methods_few : (a : Assembly) (classes : List Class) (r : References) (tables : Tables) (code : List ℕ) → HoldsMethods a classes r tables code
    → rows_in tables 0x06 ≤ length (all_methods a classes)
methods_few a classes r tables code h =
    let few = items_few _ (rows_of tables 0x06) (placed_methods 1 h.rvas (all_methods a classes)) h.methods in
    let placed = placed_few 1 h.rvas (all_methods a classes) in
    omega arith

overrides_few : (a : Assembly) (classes : List Class) (r : References) (tables : Tables) (code : List ℕ) → HoldsMethods a classes r tables code
    → rows_in tables 0x19 ≤ overrides_count (all_methods a classes)
overrides_few a classes r tables code h =
    let few = items_few _ (rows_of tables 0x19) (overrides_from 1 r.declared.methods (all_methods a classes)) h.overrides in
    let counted = rows_counted 1 r.declared.methods (all_methods a classes) in
    omega arith

-- ---- the whole

pub holds_counted : (a : Assembly) (classes : List Class) (r : References) (tables : Tables) (code : List ℕ) → HoldsManifest a r tables → HoldsTypes a classes r tables
    → HoldsFields a classes r tables code → HoldsMethods a classes r tables code → HoldsProperties a classes r tables → HoldsOwned a classes r tables → HasCounted a classes tables
holds_counted a classes r tables code manifest types fields methods properties owned = record {
  module_rows = items_few _ (rows_of tables 0x00) (a.manifest ∷ []) manifest.module_row;
  assembly_rows = items_few _ (rows_of tables 0x20) (a.manifest ∷ []) manifest.assembly_row;
  externs = items_few _ (rows_of tables 0x23) a.externs manifest.externs;
  types = types_few a classes r tables types.types;
  interfaces = interfaces_few classes r tables types.interfaces;
  layouts = same_few _ _ types.layouts;
  nested = same_few _ _ types.nested;
  event_map = same_few _ _ types.event_map;
  property_map = same_few _ _ types.property_map;
  fields = items_few _ (rows_of tables 0x04) _ fields.fields;
  offsets = same_few _ _ fields.offsets;
  contents = items_few _ (rows_of tables 0x1D) _ fields.contents;
  methods = methods_few a classes r tables code methods;
  params = items_few _ (rows_of tables 0x08) _ methods.params;
  overrides = overrides_few a classes r tables code methods;
  properties = items_few _ (rows_of tables 0x17) _ properties.properties;
  events = items_few _ (rows_of tables 0x14) _ properties.events;
  accessors = mapped_few _ _ _ properties.accessors;
  generics = items_few _ (rows_of tables 0x2A) _ owned.generics;
  bounds = items_few _ (rows_of tables 0x2C) _ owned.bounds;
  constants = items_few _ (rows_of tables 0x0B) _ owned.constants;
  attributes = items_few _ (rows_of tables 0x0C) _ owned.attributes;
}

pub references_counted : (r : References) (tables : Tables) → HoldsReferences r tables → HasReferencesCounted r tables
references_counted r tables references = record {
  names = mapped_few three_cells _ r.referred.names references.names;
  members = mapped_few three_cells _ r.referred.members references.members;
  locals = mapped_few first_cell _ r.referred.locals references.locals;
  specs = mapped_few first_cell _ r.referred.specs references.specs;
  instances = mapped_few two_cells _ r.referred.instances references.instances;
}

pub counted : FilledIsCounted
counted a classes r tables code h =
    (holds_counted a classes r tables code h.manifest h.types h.fields h.methods h.properties h.owned, references_counted r tables h.references)
