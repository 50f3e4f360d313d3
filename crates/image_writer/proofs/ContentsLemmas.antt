-- From a well-formed assembly to what its image is made of.
use Rattle.std.proofs.Common.{◌≡◌, ap, refl, sym, ◌∙◌, subst, ℕ, zero, suc, ◌+◌, ◌*◌, ◌-◌, ◌<◌, ◌≤◌, ◌^◌, true, List, [], ◌∷◌, ◌++◌, length, length-append, length-drop, map, drop, arith}
use Rattle.std.specs.Prelude.{sum_by}
use Rattle.std.specs.List.{AllByRecursion, AllZip}
use Rattle.assembly_tree.specs.Room.{texts, room_of_texts}
use Rattle.assembly_tree.specs.Weight.{weight_of}
use Rattle.assembly_tree.specs.WellFormed.{is_well_formed}
use Rattle.assembly_tree.specs.declared.assembly.Assembly.{Assembly}
use Rattle.assembly_tree.specs.declared.members.Method.{Method}
use Rattle.heaps.specs.Content.{HasBlob, HasUnits}
use Rattle.heaps.specs.Heap.{Heap}
use Rattle.metadata_tables.specs.Encoding.{rows_of, rows_in}
use Rattle.image_layout.specs.Referred.{KeepsOthers}
use Rattle.image_tokens.specs.Loaded.{AreLoaded}
use Rattle.image_tokens.specs.References.{size, Widens, Grows}
use Rattle.image_tokens.specs.Units.{HoldsUnits, KeepsUnits, IsLoadable, bytes_of_units}
use Rattle.image_tokens.specs.declared.references.Declared.{Declared}
use Rattle.image_tokens.specs.declared.references.References.{References}
use Rattle.image_tokens.specs.declared.row_set.Cells.{Cells}
use Rattle.image_tokens.proofs.NameLemmas.{all_weaker}
use Rattle.image_rows.specs.CanFill.{CanFill}
use Rattle.image_members.specs.Classes.{AreClasses}
use Rattle.image_members.specs.Declaring.{places, AreDeclared, HoldsPlace}
use Rattle.image_rows.specs.Filled.{HoldsReferences, IsFilled, entry_from, entry_token}
use Rattle.image_members.specs.Places.{all_methods}
use Rattle.image_members.specs.Pushing.{Tables}
use Rattle.image_members.specs.declared.classes.Class.{Class}
use Rattle.image_members.proofs.DeclaringLemmas.{place_kept}
use Rattle.image_members.proofs.ZipLemmas.{zip_later}
use Rattle.image_writer.specs.Beginning.{begun_bytes, CanDeclare, DeclaresTypes, DeclaresAll}
use Rattle.image_writer.specs.Contents.{HasNoRows, IsContents}
use Rattle.image_tables.specs.Filling.{method_part, type_part, property_part, filled_bytes, IsReady, IsFull, Lengthens}
use Rattle.image_tables.specs.Parts.{LacksFrom}
use Rattle.image_writer.proofs.BeginLemmas.{begun_bytes_are}
use Rattle.image_tables.proofs.FillLemmas.{filled_bytes_are}
use Rattle.image_tables.proofs.MethodPart.{method_part_is}
use Rattle.image_tables.proofs.PropertyPart.{property_part_is}
use Rattle.image_tables.proofs.TypePart.{type_part_is}
use Rattle.image_writer.proofs.WholeLemmas.{whole_filled, manifest_holds, types_hold, fields_hold, methods_hold, properties_hold, owned_hold}
use Rattle.image_members.specs.CodeBytes.{body_of, stated_weight}
use Rattle.image_members.specs.Declaring.{class_size}
use Rattle.image_members.specs.DeclaredMembers.{fields_bytes, methods_bytes}
use Rattle.image_rows.specs.EventRows.{event_bytes}
use Rattle.image_rows.specs.InterfaceRows.{interfaces_from, interface_bytes}
use Rattle.image_members.specs.Lists.{params_in, properties_in, events_in}
use Rattle.image_rows.specs.ParamRows.{param_bytes}
use Rattle.image_rows.specs.PropertyRows.{property_bytes}
use Rattle.image_rows.specs.TypeRows.{base_of, base_weight}
use Rattle.laws_tree_weights.specs.ImageBytes.{declared_bytes, manifest_bytes, named_bytes, member_bytes, owned_bytes, overrides_weight, heap_bytes, code_bytes, row_bytes}
use Rattle.laws_tree_weights.specs.Laws.{HasFewRows, WeightIsEnough}
use Rattle.laws_tree_weights.specs.RowCounts.{HasCounted, HasReferencesCounted}
use Rattle.laws_tree_weights.proofs.RowCountLemmas.{holds_counted, references_counted}
use Rattle.laws_writable_trees.specs.Laws.{FormedCanFill}
use Rattle.laws_writable_trees.specs.Ranges.{IsMethodInRange}

-- ---- texts have indexes

-- an entry ends inside its heap
units_within : (heap : List ℕ) (index : ℕ) (units : List ℕ) → length heap ≤ 2 ^ 24 → HasUnits heap index units → index < 2 ^ 24
units_within heap zero units few h = omega arith
units_within heap (suc k) units few (last, (spelling, rest, at, packed), even) =
    let long = ap (length {A = ℕ}) at ∙ length-append spelling ((units ++ last ∷ []) ++ rest) in
    let then = length-append (units ++ last ∷ []) rest in
    let unit = length-append units (last ∷ []) in
    let left = length-drop (suc k) heap in
    omega arith

each_loadable : (user : Heap) (ts : List (List ℕ)) → length user.bytes ≤ 2 ^ 24 → AllByRecursion (λ text. (index : ℕ) × HoldsUnits user (bytes_of_units text) index) ts
    → AllByRecursion (IsLoadable user) ts
each_loadable user [] few h = tt
each_loadable user (t ∷ ts) few h =
    ((h.0.0, h.0.1, units_within user.bytes h.0.0 (bytes_of_units t) few h.0.1.there), each_loadable user ts few h.1)

loadable_later : (old new : Heap) → KeepsUnits old new → (ts : List (List ℕ)) → AllByRecursion (IsLoadable old) ts → AllByRecursion (IsLoadable new) ts
loadable_later old new keeps [] h = tt
loadable_later old new keeps (t ∷ ts) h =
    ((h.0.0, record { there = keeps.units h.0.0 (bytes_of_units t) h.0.1.there; used = keeps.used h.0.0 h.0.1.used }, h.0.2), loadable_later old new keeps ts h.1)

-- ---- what is well formed can be declared and filled

pub can_declare : (a : Assembly) (classes : List Class) (user : Heap) → FormedCanFill → is_well_formed a ≡ true → weight_of a ≤ 2 ^ 26 → AreClasses 0 2 a.types classes → AreLoaded user (texts a)
    → length user.bytes ≤ 2 ^ 24 → AllByRecursion IsMethodInRange (all_methods a classes) → CanDeclare a classes user
can_declare a classes user law formed light are loaded few in_range early late types widens =
    law a classes late formed light are
    (subst (λ (rows : List Cells). AreDeclared late.heaps.strings rows (places classes)) (sym widens.types)
    (zip_later (HoldsPlace early.heaps.strings) (HoldsPlace late.heaps.strings) early.declared.types (places classes)
    (λ cells p k. place_kept early.heaps.strings late.heaps.strings widens.strings cells p k) types.declared))
    (widens.externs ∙ types.externs_are)
    (loadable_later early.heaps.user late.heaps.user widens.user (texts a)
    (subst (λ (h : Heap). AllByRecursion (IsLoadable h) (texts a)) (sym types.user_is) (each_loadable user (texts a) few loaded.each)))
    in_range

-- ---- bytes

declared_bytes_are : (a : Assembly) (classes : List Class) → declared_bytes a classes
    ≡ room_of_texts (texts a) + (10 + sum_by class_size classes) + (fields_bytes a classes + methods_bytes a classes)
unfolding declared_bytes
declared_bytes_are a classes = refl

named_bytes_are : (a : Assembly) (classes : List Class) → named_bytes a classes
    ≡ sum_by stated_weight (map body_of (all_methods a classes)) + sum_by (λ c. base_weight (base_of c)) classes + sum_by interface_bytes (interfaces_from 2 classes)
unfolding named_bytes
named_bytes_are a classes = refl

member_bytes_are : (a : Assembly) (classes : List Class) → member_bytes a classes
    ≡ sum_by param_bytes (params_in a classes) + overrides_weight (all_methods a classes) + sum_by event_bytes (events_in classes) + sum_by property_bytes (properties_in classes)
unfolding member_bytes
member_bytes_are a classes = refl

-- the parts in another order
parts_same : (a : Assembly) (classes : List Class) → filled_bytes a classes ≡ manifest_bytes a + named_bytes a classes + member_bytes a classes + owned_bytes a classes
parts_same a classes =
    let all = filled_bytes_are a classes in
    let one = method_part_is a classes in
    let two = type_part_is classes in
    let three = property_part_is classes in
    let named = named_bytes_are a classes in
    let members = member_bytes_are a classes in
    omega arith

module _ (a : Assembly) (classes : List Class) (enough : heap_bytes a classes + code_bytes a classes + row_bytes a classes + 20000 ≤ weight_of a) (light : weight_of a ≤ 2 ^ 26) where
  pub begun_room : (user : Heap) → AreLoaded user (texts a) → length user.bytes + begun_bytes a classes ≤ 2 ^ 26
  begun_room user loaded =
      let long = loaded.size in
      let bytes = begun_bytes_are a classes in
      let declared = declared_bytes_are a classes in
      omega arith

  pub types_room : sum_by class_size classes ≤ 2 ^ 26
  types_room = let declared = declared_bytes_are a classes in omega arith

  pub code_room : (code : List ℕ) → code ≡ [] → length code + code_bytes a classes ≤ 2 ^ 26
  code_room code none = let empty = ap (length {A = ℕ}) none in omega arith

  module _ (r : References) (begun : DeclaresAll a classes r) where
    pub filled_ready : (t : Tables) → HasNoRows t → HasFewRows a classes → IsReady 0 (filled_bytes a classes) a classes r t
    filled_ready t none few = record {
      known = begun.known;
      declared = begun.declared;
      can = begun.can;
      few = few;
      lacks = λ table le. none table;
      room = (let first = begun.room in
          let bytes = begun_bytes_are a classes in
          let declared = declared_bytes_are a classes in
          let parts = parts_same a classes in
          omega arith);
    }

    pub filled_room : (s : References) → size s ≤ size r + filled_bytes a classes → size s ≤ 3 + heap_bytes a classes
    filled_room s then =
        let first = begun.room in
        let bytes = begun_bytes_are a classes in
        let declared = declared_bytes_are a classes in
        let parts = parts_same a classes in
        omega arith

    pub contents_made : (s : References) (t u : Tables) (code0 code : List ℕ) → AreClasses 0 2 a.types classes → Grows r s → size s ≤ size r + filled_bytes a classes → IsFull a classes s t code
        → HoldsReferences s u → KeepsOthers t u → code0 ≡ [] → Lengthens (code_bytes a classes) code0 code → IsContents a classes s u code
    contents_made s t u code0 code are grows then full references keeps none longer =
        let counted = holds_counted a classes s u code (manifest_holds a classes s t u code full references keeps) (types_hold a classes s t u code full references keeps)
        (fields_hold a classes s t u code full references keeps) (methods_hold a classes s t u code full references keeps) (properties_hold a classes s t u code full references keeps)
        (owned_hold a classes s t u code full references keeps) in
        let room = filled_room s then in
        record {
          filled = whole_filled a classes s t u code full references keeps are counted (references_counted s u references) enough light (omega arith);
          externs_are = ap (λ (d : Declared). d.externs) grows.declared ∙ begun.externs_are;
          room = room;
          long = (let empty = ap (length {A = ℕ}) none in let long = longer.long in omega arith);
        }
