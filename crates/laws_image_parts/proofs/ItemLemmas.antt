-- Rows that belong to one row of another table are found by a column.
use Rattle.std.proofs.Common.{◌≡◌, ap, refl, sym, ◌∙◌, subst, ℕ, zero, suc, ◌+◌, ◌==◌, eqb, List, [], ◌∷◌, ◌++◌, map, Option, Some, None, arith, ⊎_elim}
use Rattle.std.specs.Prelude.{slice_get, slice_index, filter}
use Rattle.std.specs.List.{AllByRecursion, AllZip, flat_map, enumerate_from}
use Rattle.std.proofs.lemmas.Bool.{eqb-true, eq-eqb, cases_Bool}
use Rattle.assembly_tree.specs.declared.assembly.Assembly.{Assembly}
use Rattle.assembly_tree.specs.declared.members.Field.{Field}
use Rattle.assembly_tree.specs.declared.members.Generic.{Generic}
use Rattle.assembly_tree.specs.declared.members.Method.{Method}
use Rattle.assembly_tree.specs.declared.typedef.Layout.{Layout}
use Rattle.assembly_tree.specs.declared.typedef.TypeDef.TheViews.{out-TypeDef}
use Rattle.metadata_tables.specs.CodedIndex.{tag_of}
use Rattle.metadata_tables.specs.declared.coded.Coded.TheVariants.{MethodDefOrRef}
use Rattle.type_terms.specs.declared.reference.MethodRef.{MethodRef}
use Rattle.type_terms.specs.declared.term.Owner.{Owner}
use Rattle.image_tokens.specs.Indexes.{index_of}
use Rattle.image_tokens.specs.declared.references.References.{References}
use Rattle.image_tokens.specs.declared.row_set.Cells.{Cells}
use Rattle.image_rows.specs.ClassRows.{class_rows, layout_rows, stated_rows}
use Rattle.image_members.specs.DataRows.{Datum, stated_data, field_data, all_data, IsDataRow}
use Rattle.image_members.specs.DeclaredMembers.{owned, class_methods, IsMethodOf}
use Rattle.image_rows.specs.FieldRows.{stated_offset, offset_rows}
use Rattle.image_rows.specs.Filled.{HasDeclared}
use Rattle.image_members.specs.GenericRows.{bounds_with, bounds_in, bounds_from, IsBoundRow}
use Rattle.image_rows.specs.InterfaceRows.{class_interfaces, interfaces_from, joined, AreInterfaceRows}
use Rattle.image_members.specs.Lists.{generics_in}
use Rattle.image_rows.specs.OverrideRows.{Override, overrides, overrides_from, IsOverrideRow}
use Rattle.image_members.specs.Places.{all_fields, all_methods}
use Rattle.image_members.specs.declared.classes.Class.{Class}
use Rattle.image_model.specs.Columns.{layout_parent, offset_field, data_field, bound_parameter, override_body, interface_class}
use Rattle.image_model.specs.Rows.{rows_with}
use Rattle.laws_image_parts.specs.AtRows.{AtEach, IsItem}
use Rattle.laws_image_parts.specs.ItemRows.{stated, BoundsOf, OverridesOf, InterfacesOf, TypeItemsRead, FieldItemsRead, ItemsAreRead}
use Rattle.laws_image_parts.specs.RowCells.{layout_cells, offset_cells, data_cells, bound_cells, override_cells, interface_cells}
use Rattle.laws_image_parts.specs.RowsRead.{IsMade, row_itself, ReadsTypes, ReadsFields, ReadsMethods, ReadsOwned, ReadsInterfaces}
use Rattle.laws_image_parts.proofs.CellLemmas.{zip_get}
use Rattle.laws_image_parts.proofs.GroupLemmas.{AreKeyed, has_key, group_at, no_group, made_at, none_made}
use Rattle.laws_image_parts.proofs.IndexLemmas.{index_apart}
use Rattle.laws_image_parts.proofs.OwnedLemmas.{reads_with, zip_later}

-- rows of one row or of none, each with what it is made of
zip_stated : {X Y : Type 0} (P : ℕ → Y → Type 0) (Q : ℕ → X → Type 0) (make : X → Y) (rows : List ℕ) (o : Option X) → ((k : ℕ) (x : X) → P k (make x) → Q k x)
    → AllZip P rows (map make (stated o)) → AllZip Q rows (stated o)
zip_stated P Q make [] None f h = tt
zip_stated P Q make (k ∷ ks) None f h = absurd h
zip_stated P Q make [] (Some x) f h = absurd h
zip_stated P Q make (k ∷ []) (Some x) f h = (f k x h.0, tt)
zip_stated P Q make (k ∷ (j ∷ ks)) (Some x) f h = absurd h.1

pub zip_map : {X Y : Type 0} (P : ℕ → Y → Type 0) (make : X → Y) (rows : List ℕ) (xs : List X) → AllZip P rows (map make xs) → AllZip (λ k x. P k (make x)) rows xs
zip_map P make [] [] h = tt
zip_map P make [] (x ∷ xs) h = absurd h
zip_map P make (k ∷ ks) [] h = absurd h
zip_map P make (k ∷ ks) (x ∷ xs) h = (h.0, zip_map P make ks xs h.1)

nothing_found : {X : Type 0} (P : ℕ → X → Type 0) (rows : List ℕ) (xs : List X) → xs ≡ [] → AllZip P rows xs → rows ≡ []
nothing_found P [] xs e h = refl
nothing_found P (k ∷ ks) [] e h = absurd h
nothing_found P (k ∷ ks) (x ∷ xs) e h = absurd cc

-- ---- layouts, offsets and data

abbrev layout_made : ℕ → Layout → List ℕ
layout_made row l = l.pack ∷ l.size ∷ row ∷ []

layouts_made : (row : ℕ) (o : Option Layout) → stated_rows row o ≡ map (layout_made row) (stated o)
layouts_made row None = refl
layouts_made row (Some l) = refl

abbrev offset_made : ℕ → ℕ → List ℕ
offset_made row o = o ∷ row ∷ []

offsets_made : (row : ℕ) (o : Option ℕ) → stated_offset row o ≡ map (offset_made row) (stated o)
offsets_made row None = refl
offsets_made row (Some n) = refl

abbrev datum : ℕ → List ℕ → Datum
datum row bytes = record { field = row; bytes = bytes }

data_made : (row : ℕ) (o : Option (List ℕ)) → stated_data row o ≡ map (datum row) (stated o)
data_made row None = refl
data_made row (Some bytes) = refl

abbrev cell_at : ℕ → List ℕ → ℕ
cell_at c cells = slice_index cells c

layout_keyed : (row : ℕ) (o : Option Layout) → AllByRecursion (λ cells. cell_at 2 cells ≡ row) (stated_rows row o)
layout_keyed row None = tt
layout_keyed row (Some l) = (refl, tt)

offset_keyed : (row : ℕ) (o : Option ℕ) → AllByRecursion (λ cells. cell_at 1 cells ≡ row) (stated_offset row o)
offset_keyed row None = tt
offset_keyed row (Some n) = (refl, tt)

datum_keyed : (row : ℕ) (o : Option (List ℕ)) → AllByRecursion (λ (d : Datum). d.field ≡ row) (stated_data row o)
datum_keyed row None = tt
datum_keyed row (Some bytes) = (refl, tt)

bounds_keyed : (row : ℕ) (os : List Owner) → AllByRecursion (λ (b : ℕ × Owner). b.0 ≡ row) (bounds_with row os)
bounds_keyed row [] = tt
bounds_keyed row (o ∷ os) = (refl, bounds_keyed row os)

-- ---- fields

fields_items : (a : Assembly) (classes : List Class) (r : References) (code image : List ℕ) → ReadsFields a classes r code image → FieldItemsRead a classes code image
fields_items a classes r code image h =
    let fields = all_fields a classes in
    record {
      offsets = λ k f at.
          let row = 1 + k in
          let found = reads_with 0x10 offset_cells (IsMade row_itself) (flat_map offset_rows (enumerate_from 1 fields)) image h.offsets offset_field row (has_key (cell_at 1) row)
          (λ j cells is. ap (λ (cs : List ℕ). slice_index cs 1 == row) is) in
          let its = made_at offset_rows (cell_at 1) (λ n (x : Field). offset_keyed n x.offset) 1 k fields f at in
          let P : ℕ → List ℕ → Type 0 = (λ j cells. IsMade row_itself (offset_cells image j) cells × IsItem (flat_map offset_rows (enumerate_from 1 fields)) j cells) in
          zip_stated P (λ j o. offset_cells image j ≡ offset_made row o) (offset_made row) (rows_with image 0x10 offset_field row) f.offset (λ j o p. p.0)
          (subst (AllZip P (rows_with image 0x10 offset_field row)) (its ∙ offsets_made row f.offset) found);
      contents = λ k f at.
          let row = 1 + k in
          let found = reads_with 0x1D data_cells (IsDataRow code) (all_data 1 fields) image h.contents data_field row (has_key (λ (d : Datum). d.field) row)
          (λ j d is. ap (λ (cs : List ℕ). slice_index cs 1 == row) is.are) in
          let its = made_at field_data (λ (d : Datum). d.field) (λ n (x : Field). datum_keyed n x.content) 1 k fields f at in
          let P : ℕ → Datum → Type 0 = (λ j d. IsDataRow code (data_cells image j) d × IsItem (all_data 1 fields) j d) in
          zip_stated P (λ j bytes. IsDataRow code (data_cells image j) (datum row bytes)) (datum row) (rows_with image 0x1D data_field row) f.content (λ j bytes p. p.0)
          (subst (AllZip P (rows_with image 0x1D data_field row)) (its ∙ data_made row f.content) found);
    }

-- ---- bounds

bounds_items : (a : Assembly) (classes : List Class) (r : References) (image : List ℕ) → ReadsOwned a classes r image
    → AtEach (λ row (g : Generic). BoundsOf r image row g.bounds) 1 (generics_in a classes)
bounds_items a classes r image h k g at =
    let row = 1 + k in
    let generics = generics_in a classes in
    let found = reads_with 0x2C bound_cells (IsBoundRow r) (bounds_from 1 generics) image h.bounds bound_parameter row (has_key (λ (b : ℕ × Owner). b.0) row)
    (λ j b is. ap (λ (cs : List ℕ). slice_index cs 0 == row) is.are) in
    let its = made_at bounds_in (λ (b : ℕ × Owner). b.0) (λ n (x : Generic). bounds_keyed n x.bounds) 1 k generics g at in
    let P : ℕ → ℕ × Owner → Type 0 = (λ j b. IsBoundRow r (bound_cells image j) b × IsItem (bounds_from 1 generics) j b) in
    let all : AllZip P (rows_with image 0x2C bound_parameter row) (bounds_with row g.bounds) = subst (AllZip P (rows_with image 0x2C bound_parameter row)) its found in
    zip_later (λ j o. P j (row, o)) (λ j o. IsBoundRow r (bound_cells image j) (row, o)) (rows_with image 0x2C bound_parameter row) g.bounds (λ j o p. p.0)
    (zip_map P (λ (o : Owner). (row, o)) (rows_with image 0x2C bound_parameter row) g.bounds all)

-- ---- overrides

pairs : List Cells → List Method → List (Cells × Method)
pairs declared [] = []
pairs [] (m ∷ ms) = []
pairs (cells ∷ declared) (m ∷ ms) = (cells, m) ∷ pairs declared ms

made_overrides : ℕ × (Cells × Method) → List Override
made_overrides (row, (cells, m)) = overrides cells.first row m.overrides

overrides_as : (row : ℕ) (declared : List Cells) (ms : List Method) → overrides_from row declared ms ≡ flat_map made_overrides (enumerate_from row (pairs declared ms))
unfolding pairs made_overrides
overrides_as row declared [] = refl
overrides_as row [] (m ∷ ms) = refl
overrides_as row (cells ∷ declared) (m ∷ ms) = ap (λ (os : List Override). overrides cells.first row m.overrides ++ os) (overrides_as (row + 1) declared ms)

same_pair : (d c : Cells) (n m : Method) → d ≡ c → n ≡ m → ◌≡◌ {A = Option (Cells × Method)} (Some (d, n)) (Some (c, m))
same_pair d c n m e f = λ i. Some (e i, f i)

pairs_get : (declared : List Cells) (ms : List Method) (k : ℕ) (cells : Cells) (m : Method) → slice_get declared k ≡ Some cells → slice_get ms k ≡ Some m
    → slice_get (pairs declared ms) k ≡ Some (cells, m)
unfolding pairs
pairs_get declared [] k cells m c at = absurd cc
pairs_get [] (n ∷ ms) k cells m c at = absurd cc
pairs_get (d ∷ declared) (n ∷ ms) zero cells m c at =
    let one : d ≡ cells = cc in
    let two : n ≡ m = cc in
    same_pair d cells n m one two
pairs_get (d ∷ declared) (n ∷ ms) (suc k) cells m c at = pairs_get declared ms k cells m c at

owned_both : {X : Type 0} (row : ℕ) (xs ys : List X) (zs : List (ℕ × X)) → ((k : ℕ) (x : X) → slice_get ys k ≡ Some x → (t : ℕ) × (slice_get zs k ≡ Some (t, x)))
    → (k : ℕ) (x : X) → slice_get (xs ++ ys) k ≡ Some x → (t : ℕ) × (slice_get (map (λ (y : X). (row, y)) xs ++ zs) k ≡ Some (t, x))
owned_both row [] ys zs rest k x at = rest k x at
owned_both row (y ∷ xs) ys zs rest zero x at = let same : y ≡ x = cc in (row, ap (λ z. Some (row, z)) same)
owned_both row (y ∷ xs) ys zs rest (suc k) x at = owned_both row xs ys zs rest k x at

-- each method of a type is among those of all types, with its type's row
owned_get : (row : ℕ) (classes : List Class) (k : ℕ) (m : Method) → slice_get (flat_map class_methods classes) k ≡ Some m
    → (t : ℕ) × (slice_get (owned row (map class_methods classes)) k ≡ Some (t, m))
owned_get row [] k m at = absurd cc
owned_get row (c ∷ cs) k m at = owned_both row (class_methods c) (flat_map class_methods cs) (owned (row + 1) (map class_methods cs)) (owned_get (row + 1) cs) k m at

overrides_keyed : (type row : ℕ) (ms : List MethodRef) → AllByRecursion (λ (o : Override). o.body ≡ row) (overrides type row ms)
overrides_keyed type row [] = tt
overrides_keyed type row (m ∷ ms) = (refl, overrides_keyed type row ms)

pair_keyed : (row : ℕ) (p : Cells × Method) → AllByRecursion (λ (o : Override). o.body ≡ row) (made_overrides (row, p))
unfolding made_overrides
pair_keyed row (cells, m) = overrides_keyed cells.first row m.overrides

body_same : (b row : ℕ) → eqb (index_of MethodDefOrRef 0x06 b) (index_of MethodDefOrRef 0x06 row) ≡ eqb b row
unfolding tag_of
body_same b row =
    ⊎_elim
    (λ h. let e = eqb-true b row h in eq-eqb _ _ (ap (index_of MethodDefOrRef 0x06) e) ∙ sym h)
    (λ h. ⊎_elim
    (λ g.
    let both = index_apart MethodDefOrRef 0x06 b 0 0x06 row 0 refl refl (eqb-true (index_of MethodDefOrRef 0x06 b) (index_of MethodDefOrRef 0x06 row) g) in
    let yes = eq-eqb b row both.1 in
    absurd cc)
    (λ g. g ∙ sym h)
    (cases_Bool (eqb (index_of MethodDefOrRef 0x06 b) (index_of MethodDefOrRef 0x06 row))))
    (cases_Bool (eqb b row))

overrides_items : (a : Assembly) (classes : List Class) (r : References) (code image : List ℕ) → HasDeclared a classes r → ReadsMethods a classes r code image
    → AtEach (λ row (m : Method). (type : ℕ) × IsItem (owned 1 (a.methods ∷ map class_methods classes)) row (type, m) × OverridesOf r image type row m.overrides)
    1 (all_methods a classes)
unfolding made_overrides
overrides_items a classes r code image d h k m at =
    let row = 1 + k in
    let ms = all_methods a classes in
    let members = owned 1 (a.methods ∷ map class_methods classes) in
    let member = owned_both 1 a.methods (flat_map class_methods classes) (owned 2 (map class_methods classes)) (owned_get 2 classes) k m at in
    let declared = zip_get (IsMethodOf r) r.declared.methods members k (member.0, m) d.methods member.1 in
    let cells = declared.0 in
    let items = overrides_from 1 r.declared.methods ms in
    let v = index_of MethodDefOrRef 0x06 row in
    let found = reads_with 0x19 override_cells (IsOverrideRow r) items image h.overrides override_body v (has_key (λ (o : Override). o.body) row)
    (λ j o is. ap (λ (cs : List ℕ). slice_index cs 1 == v) is.are ∙ body_same o.body row) in
    let its : filter (has_key (λ (o : Override). o.body) row) items ≡ overrides cells.first row m.overrides =
    ap (filter (has_key (λ (o : Override). o.body) row)) (overrides_as 1 r.declared.methods ms)
    ∙ made_at made_overrides (λ (o : Override). o.body) pair_keyed 1 k (pairs r.declared.methods ms) (cells, m) (pairs_get r.declared.methods ms k cells m declared.1 at) in
    let typed : overrides cells.first row m.overrides ≡ overrides member.0 row m.overrides = ap (λ t. overrides t row m.overrides) declared.2.type_is in
    let P : ℕ → Override → Type 0 = (λ j o. IsOverrideRow r (override_cells image j) o × IsItem items j o) in
    let made : MethodRef → Override = (λ (x : MethodRef). record { type = member.0; body = row; of = x }) in
    let all : AllZip P (rows_with image 0x19 override_body v) (map made m.overrides) = subst (AllZip P (rows_with image 0x19 override_body v)) (its ∙ typed) found in (
      member.0,
      (k, refl, member.1),
      zip_later (λ j x. P j (made x)) (λ j x. IsOverrideRow r (override_cells image j) (made x)) (rows_with image 0x19 override_body v) m.overrides (λ j x p. p.0)
          (zip_map P made (rows_with image 0x19 override_body v) m.overrides all),
    )

-- ---- types

interfaces_get : (row : ℕ) (classes : List Class) (k : ℕ) (c : Class) → slice_get classes k ≡ Some c → slice_get (interfaces_from row classes) k ≡ Some (row + k, class_interfaces c)
interfaces_get row [] k c at = absurd cc
interfaces_get row (d ∷ cs) zero c at =
    let same : d ≡ c = cc in
    let here : row ≡ row + 0 = omega arith in
    ap (λ (x : Class). Some (row, class_interfaces x)) same ∙ ap (λ n. Some (n, class_interfaces c)) here
interfaces_get row (d ∷ cs) (suc k) c at =
    let there : row + 1 + k ≡ row + suc k = omega arith in
    interfaces_get (row + 1) cs k c at ∙ ap (λ n. Some (n, class_interfaces c)) there

abbrev interface_made : ℕ → ℕ → List ℕ
interface_made type index = type ∷ index ∷ []

made_keyed : (type : ℕ) (indexes : List ℕ) → AllByRecursion (λ cells. cell_at 0 cells ≡ type) (map (interface_made type) indexes)
made_keyed type [] = tt
made_keyed type (index ∷ indexes) = (refl, made_keyed type indexes)

interfaces_keyed : (r : References) (row : ℕ) (classes : List Class) (groups : List (List (List ℕ))) → AllZip (AreInterfaceRows r) groups (interfaces_from row classes)
    → AreKeyed (cell_at 0) row groups
interfaces_keyed r row [] [] h = tt
interfaces_keyed r row [] (g ∷ gs) h = absurd h
interfaces_keyed r row (c ∷ cs) [] h = absurd h
interfaces_keyed r row (c ∷ cs) (g ∷ gs) h =
    (subst (AllByRecursion (λ cells. cell_at 0 cells ≡ row)) (sym h.0.are) (made_keyed row h.0.indexes), interfaces_keyed r (row + 1) cs gs h.1)

interfaces_items : (classes : List Class) (r : References) (image : List ℕ) → ReadsInterfaces classes r image → AtEach (λ type c. InterfacesOf r image type (class_interfaces c)) 2 classes
interfaces_items classes r image h k c at =
    let type = 2 + k in
    let items = joined h.groups in
    let group = zip_get (AreInterfaceRows r) h.groups (interfaces_from 2 classes) k (type, class_interfaces c) h.each (interfaces_get 2 classes k c at) in
    let is = group.2 in
    let found = reads_with 0x09 interface_cells (IsMade row_itself) items image h.are interface_class type (has_key (cell_at 0) type)
    (λ j cells same. ap (λ (cs : List ℕ). slice_index cs 0 == type) same) in
    let its = group_at (cell_at 0) 2 k h.groups group.0 (interfaces_keyed r 2 classes h.groups h.each) group.1 in
    let P : ℕ → List ℕ → Type 0 = (λ j cells. IsMade row_itself (interface_cells image j) cells × IsItem items j cells) in
    let all : AllZip P (rows_with image 0x09 interface_class type) (map (interface_made type) is.indexes) =
    subst (AllZip P (rows_with image 0x09 interface_class type)) (its ∙ is.are) found in
    record {
      found = is.found;
      each = is.each;
      indexes = is.indexes;
      same = is.same;
      rise = is.rise;
      rows = zip_later (λ j index. P j (interface_made type index)) (λ j index. interface_cells image j ≡ interface_made type index)
          (rows_with image 0x09 interface_class type) is.indexes (λ j index p. p.0)
          (zip_map P (interface_made type) (rows_with image 0x09 interface_class type) is.indexes all);
    }

types_items : (a : Assembly) (classes : List Class) (r : References) (image : List ℕ) → ReadsTypes a classes r image → TypeItemsRead classes r image
types_items a classes r image h =
    let P : ℕ → List ℕ → Type 0 = (λ j cells. IsMade row_itself (layout_cells image j) cells × IsItem (class_rows layout_rows classes) j cells) in
    let laid : (v : ℕ) → AllZip P (rows_with image 0x0F layout_parent v) (filter (has_key (cell_at 2) v) (class_rows layout_rows classes)) =
    (λ v. reads_with 0x0F layout_cells (IsMade row_itself) (class_rows layout_rows classes) image h.layouts layout_parent v (has_key (cell_at 2) v)
    (λ j cells is. ap (λ (cs : List ℕ). slice_index cs 2 == v) is)) in
    let faces : (v : ℕ) → AllZip (λ j cells. IsMade row_itself (interface_cells image j) cells × IsItem (joined h.interfaces.groups) j cells)
    (rows_with image 0x09 interface_class v) (filter (has_key (cell_at 0) v) (joined h.interfaces.groups)) =
    (λ v. reads_with 0x09 interface_cells (IsMade row_itself) (joined h.interfaces.groups) image h.interfaces.are interface_class v (has_key (cell_at 0) v)
    (λ j cells is. ap (λ (cs : List ℕ). slice_index cs 0 == v) is)) in
    let keyed : (n : ℕ) (c : Class) → AllByRecursion (λ cells. cell_at 2 cells ≡ n) (layout_rows (n, c)) = (λ n c. layout_keyed n (out-TypeDef c.of.now).layout) in
    record {
      layouts = λ k c at.
          let type = 2 + k in
          let its = made_at layout_rows (cell_at 2) keyed 2 k classes c at in
          zip_stated P (λ j (l : Layout). layout_cells image j ≡ layout_made type l) (layout_made type) (rows_with image 0x0F layout_parent type) (out-TypeDef c.of.now).layout (λ j l p. p.0)
          (subst (AllZip P (rows_with image 0x0F layout_parent type)) (its ∙ layouts_made type (out-TypeDef c.of.now).layout) (laid type));
      no_layout = nothing_found P (rows_with image 0x0F layout_parent 1) _ (none_made layout_rows (cell_at 2) keyed 2 1 classes (omega arith)) (laid 1);
      interfaces = interfaces_items classes r image h.interfaces;
      no_interfaces = nothing_found _ (rows_with image 0x09 interface_class 1) _
          (no_group (cell_at 0) 2 1 h.interfaces.groups (omega arith) (interfaces_keyed r 2 classes h.interfaces.groups h.interfaces.each)) (faces 1);
    }

-- all of them
pub items_are_read : ItemsAreRead
items_are_read = record { types = types_items; fields = fields_items; bounds = bounds_items; overrides = overrides_items }
