-- What the rows of several tables own is found by the coded indexes of their owners.
use Rattle.std.proofs.Common.{◌≡◌, ap, refl, sym, ◌∙◌, subst, ℕ, zero, suc, ◌+◌, ◌<◌, ◌==◌, Bool, true, eqb, List, [], ◌∷◌, map, length, Option, Some, arith, ⊎_elim}
use Rattle.std.specs.Prelude.{slice_get, slice_index, filter}
use Rattle.std.specs.List.{AllZip, range_with_len, enumerate_from}
use Rattle.std.proofs.lemmas.Bool.{cases_Bool}
use Rattle.metadata_tables.specs.CodedIndex.{tag_of}
use Rattle.metadata_tables.specs.declared.coded.Coded.{Coded}
use Rattle.metadata_tables.specs.declared.coded.Coded.TheVariants.{HasConstant, HasCustomAttribute, HasSemantics, TypeOrMethodDef}
use Rattle.assembly_tree.specs.declared.assembly.Assembly.{Assembly}
use Rattle.assembly_tree.specs.declared.members.Attribute.{Attribute}
use Rattle.assembly_tree.specs.declared.members.Constant.{Constant}
use Rattle.assembly_tree.specs.declared.members.Event.{Event}
use Rattle.assembly_tree.specs.declared.members.Field.{Field}
use Rattle.assembly_tree.specs.declared.members.Generic.{Generic}
use Rattle.assembly_tree.specs.declared.members.Method.{Method}
use Rattle.assembly_tree.specs.declared.members.Param.{Param}
use Rattle.assembly_tree.specs.declared.members.Property.{Property}
use Rattle.image_tokens.specs.Indexes.{index_of}
use Rattle.image_tokens.specs.declared.references.References.{References}
use Rattle.image_rows.specs.AttributeRows.{IsAttributeRow}
use Rattle.image_members.specs.ByNumber.{by_number, or_none}
use Rattle.image_members.specs.ConstantRows.{IsConstantRow, stated_constant}
use Rattle.image_members.specs.GenericRows.{IsGenericRow, generic_of}
use Rattle.image_members.specs.Lists.{Owned, longest_of, class_attributes, class_generics, generics_in, params_in, properties_in, events_in, attribute_lists, attribute_items, constant_lists, constant_items, generic_lists, generic_items, accessor_lists, accessor_items}
use Rattle.image_members.specs.Places.{all_fields, all_methods}
use Rattle.image_rows.specs.SemanticsRows.{semantics_row}
use Rattle.image_members.specs.declared.classes.Class.{Class}
use Rattle.image_model.specs.Columns.{attribute_parent, constant_parent, generic_owner, semantics_association}
use Rattle.image_model.specs.Rows.{rows_of, rows_with, count_of}
use Rattle.laws_image_parts.specs.AtRows.{IsItem, Reads}
use Rattle.laws_image_parts.specs.OwnedRows.{AttributesOf, AttributesRead, ConstantOf, ConstantsRead, GenericsOf, GenericsRead, AccessorsOf, AccessorsRead, OwnedAreRead}
use Rattle.laws_image_parts.specs.RowCells.{attribute_cells, constant_cells, generic_cells, semantics_cells}
use Rattle.laws_image_parts.specs.RowsRead.{IsMade, ReadsOwned, ReadsProperties}
use Rattle.laws_image_parts.proofs.ByNumberLemmas.{lists_of, stand_once, HasTag, HaveTags, owns, marked, own_items}
use Rattle.laws_image_parts.proofs.CellLemmas.{get_low}
use Rattle.laws_image_parts.proofs.RowLists.{zip_each, zip_filter}

pub get_map : {X Y : Type 0} (f : X → Y) (xs : List X) (k : ℕ) (x : X) → slice_get xs k ≡ Some x → slice_get (map f xs) k ≡ Some (f x)
get_map f [] k x at = absurd cc
get_map f (y ∷ xs) zero x at = let same : y ≡ x = cc in ap (λ z. Some (f z)) same
get_map f (y ∷ xs) (suc k) x at = get_map f xs k x at

pub zip_later : {A B : Type 0} (P Q : A → B → Type 0) (xs : List A) (ys : List B) → ((x : A) (y : B) → P x y → Q x y) → AllZip P xs ys → AllZip Q xs ys
zip_later P Q [] [] f p = tt
zip_later P Q [] (y ∷ ys) f p = absurd p
zip_later P Q (x ∷ xs) [] f p = absurd p
zip_later P Q (x ∷ xs) (y ∷ ys) f p = (f x y p.0, zip_later P Q xs ys f p.1)

zip_marked : {X : Type 0} (P : ℕ → ℕ × X → Type 0) (v : ℕ) (rows : List ℕ) (xs : List X) → AllZip P rows (marked v xs) → AllZip (λ row x. P row (v, x)) rows xs
zip_marked P v [] [] p = tt
zip_marked P v [] (x ∷ xs) p = absurd p
zip_marked P v (row ∷ rows) [] p = absurd p
zip_marked P v (row ∷ rows) (x ∷ xs) p = (p.0, zip_marked P v rows xs p.1)

-- ---- rows by a column

-- the rows in which a column has a value, with the items that they are of
pub reads_with : {X : Type 0} (table : ℕ) (cells : List ℕ → ℕ → List ℕ) (IsRow : List ℕ → X → Type 0) (items : List X) (image : List ℕ) → Reads table cells IsRow items image
    → (column : List ℕ → ℕ → ℕ) (v : ℕ) (keep : X → Bool) → ((row : ℕ) (x : X) → IsRow (cells image row) x → (column image row == v) ≡ keep x)
    → AllZip (λ row x. IsRow (cells image row) x × IsItem items row x) (rows_with image table column v) (filter keep items)
unfolding rows_with rows_of
reads_with {X} table cells IsRow items image reads column v keep same =
    let P : ℕ → X → Type 0 = (λ row x. IsRow (cells image row) x × IsItem items row x) in
    let all : AllZip P (range_with_len 1 (length items)) items = zip_each P 1 items (λ k x at. (reads.each k x at, (k, refl, at))) in
    zip_filter P (λ row. column image row == v) keep (range_with_len 1 (count_of image table)) items (λ row x p. same row x p.0)
    (subst (λ n. AllZip P (range_with_len 1 n) items) (sym reads.count) all)

-- ---- rows by their owners

get_longest : {X : Type 0} (table k : ℕ) (tables : List (Owned X)) (xs : List X) → slice_get (lists_of table tables) k ≡ Some xs → k < longest_of tables
get_longest table k [] xs at = absurd cc
get_longest {X} table k (t ∷ more) xs at =
    ⊎_elim
    (λ h.
    let here : slice_get t.1 k ≡ Some xs = rw h at at in
    let low = get_low t.1 k xs here in
    omega arith)
    (λ h.
    let there : slice_get (lists_of table more) k ≡ Some xs = rw h at at in
    let low = get_longest table k more xs there in
    omega arith)
    (cases_Bool (eqb t.0 table))

module _ {X : Type 0} (kind : Coded) (tables : List (Owned X)) (tags : HaveTags kind tables) (once : stand_once tables ≡ true)
    (table : ℕ) (cells : List ℕ → ℕ → List ℕ) (IsRow : List ℕ → ℕ × X → Type 0) (image : List ℕ)
    (reads : Reads table cells IsRow (by_number kind tables (longest_of tables)) image)
    (column : List ℕ → ℕ → ℕ) (owner : (row : ℕ) (x : ℕ × X) → IsRow (cells image row) x → column image row ≡ x.0) where
  -- what a row owns
  owned_by : (other row k : ℕ) (xs : List X) → HasTag kind other → row ≡ 1 + k → slice_get (lists_of other tables) k ≡ Some xs
      → AllZip (λ j x. IsRow (cells image j) (index_of kind other row, x) × IsItem (by_number kind tables (longest_of tables)) j (index_of kind other row, x))
      (rows_with image table column (index_of kind other row)) xs
  owned_by other row k xs tag at_row at =
      let v = index_of kind other (k + 1) in
      let items = by_number kind tables (longest_of tables) in
      let P : ℕ → ℕ × X → Type 0 = (λ j x. IsRow (cells image j) x × IsItem items j x) in
      let found = reads_with table cells IsRow items image reads column v (owns v) (λ j x is. ap (λ n. n == v) (owner j x is)) in
      let its = own_items kind other k tag tables tags once (longest_of tables) (get_longest other k tables xs at) in
      let own : marked v (or_none (slice_get (lists_of other tables) k)) ≡ marked v xs = ap (λ (o : Option (List X)). marked v (or_none o)) at in
      let number : k + 1 ≡ row = omega (arith, at_row) in
      let all : AllZip P (rows_with image table column v) (marked v xs) = subst (AllZip P (rows_with image table column v)) (its ∙ own) found in
      subst (λ n. AllZip (λ j x. P j (index_of kind other n, x)) (rows_with image table column (index_of kind other n)) xs) number
      (zip_marked P v (rows_with image table column v) xs all)

-- ---- each kind

module _ (a : Assembly) (classes : List Class) where
  attribute_tags : HaveTags HasCustomAttribute (attribute_lists a classes)
  unfolding tag_of
  attribute_tags = ((0, refl), ((1, refl), ((3, refl), ((4, refl), ((7, refl), ((9, refl), ((10, refl), ((14, refl), ((19, refl), tt)))))))))

  constant_tags : HaveTags HasConstant (constant_lists a classes)
  unfolding tag_of
  constant_tags = ((0, refl), ((1, refl), ((2, refl), tt)))

  generic_tags : HaveTags TypeOrMethodDef (generic_lists a classes)
  unfolding tag_of
  generic_tags = ((0, refl), ((1, refl), tt))

  accessor_tags : HaveTags HasSemantics (accessor_lists a classes)
  unfolding tag_of
  accessor_tags = ((0, refl), ((1, refl), tt))

  module _ (r : References) (image : List ℕ) where
    module _ (h : ReadsOwned a classes r image) where
      attributes_at : (other row k : ℕ) (xs : List Attribute) → HasTag HasCustomAttribute other → row ≡ 1 + k
          → slice_get (lists_of other (attribute_lists a classes)) k ≡ Some xs → AttributesOf r image other row xs
      attributes_at other row k xs tag number at =
          let v = index_of HasCustomAttribute other row in
          zip_later
          (λ j x. IsAttributeRow r (attribute_cells image j) (v, x) × IsItem (attribute_items a classes) j (v, x)) (λ j x. IsAttributeRow r (attribute_cells image j) (v, x))
          (rows_with image 0x0C attribute_parent v) xs (λ j x p. p.0)
          (owned_by HasCustomAttribute (attribute_lists a classes) attribute_tags refl 0x0C attribute_cells (IsAttributeRow r) image h.attributes attribute_parent
          (λ j x is. ap (λ (cs : List ℕ). slice_index cs 0) is.are) other row k xs tag number at)

      pub attributes_read : AttributesRead a classes r image
      unfolding tag_of
      attributes_read = record {
        methods = λ k m at. attributes_at 0x06 (1 + k) k m.attributes (0, refl) refl (get_map (λ (m : Method). m.attributes) (all_methods a classes) k m at);
        fields = λ k f at. attributes_at 0x04 (1 + k) k f.attributes (1, refl) refl (get_map (λ (f : Field). f.attributes) (all_fields a classes) k f at);
        types = λ k c at. attributes_at 0x02 (2 + k) (suc k) (class_attributes c) (3, refl) (omega arith) (get_map class_attributes classes k c at);
        params = λ k p at. attributes_at 0x08 (1 + k) k p.attributes (4, refl) refl (get_map (λ (p : Param). p.attributes) (params_in a classes) k p at);
        module_row = attributes_at 0x00 1 0 a.manifest.module_attributes (7, refl) refl refl;
        properties = λ k p at. attributes_at 0x17 (1 + k) k p.attributes (9, refl) refl (get_map (λ (p : Property). p.attributes) (properties_in classes) k p at);
        events = λ k e at. attributes_at 0x14 (1 + k) k e.attributes (10, refl) refl (get_map (λ (e : Event). e.attributes) (events_in classes) k e at);
        assembly_row = attributes_at 0x20 1 0 a.manifest.attributes (14, refl) refl refl;
        generics = λ k g at. attributes_at 0x2A (1 + k) k g.attributes (19, refl) refl (get_map (λ (g : Generic). g.attributes) (generics_in a classes) k g at);
      }

      constants_at : (other row k : ℕ) (xs : List Constant) → HasTag HasConstant other → row ≡ 1 + k
          → slice_get (lists_of other (constant_lists a classes)) k ≡ Some xs → ConstantOf r image other row xs
      constants_at other row k xs tag number at =
          let v = index_of HasConstant other row in
          zip_later
          (λ j x. IsConstantRow r (constant_cells image j) (v, x) × IsItem (constant_items a classes) j (v, x)) (λ j x. IsConstantRow r (constant_cells image j) (v, x))
          (rows_with image 0x0B constant_parent v) xs (λ j x p. p.0)
          (owned_by HasConstant (constant_lists a classes) constant_tags refl 0x0B constant_cells (IsConstantRow r) image h.constants constant_parent
          (λ j x is. ap (λ (cs : List ℕ). slice_index cs 2) is.are) other row k xs tag number at)

      pub constants_read : ConstantsRead a classes r image
      unfolding tag_of
      constants_read = record {
        fields = λ k f at. constants_at 0x04 (1 + k) k (stated_constant f.constant) (0, refl) refl (get_map (λ (f : Field). stated_constant f.constant) (all_fields a classes) k f at);
        params = λ k p at. constants_at 0x08 (1 + k) k (stated_constant p.constant) (1, refl) refl (get_map (λ (p : Param). stated_constant p.constant) (params_in a classes) k p at);
        properties = λ k p at. constants_at 0x17 (1 + k) k (stated_constant p.constant) (2, refl) refl (get_map (λ (p : Property). stated_constant p.constant) (properties_in classes) k p at);
      }

      generics_at : (other row k : ℕ) (gs : List Generic) → HasTag TypeOrMethodDef other → row ≡ 1 + k
          → slice_get (lists_of other (generic_lists a classes)) k ≡ Some (enumerate_from 0 gs) → GenericsOf a classes r image other row gs
      generics_at other row k gs tag number at =
          let v = index_of TypeOrMethodDef other row in
          zip_later
          (λ j x. IsGenericRow r (generic_cells image j) (v, x) × IsItem (generic_items a classes) j (v, x))
          (λ j (x : ℕ × Generic). IsGenericRow r (generic_cells image j) (v, x) × IsItem (generics_in a classes) j x.1)
          (rows_with image 0x2A generic_owner v) (enumerate_from 0 gs)
          (λ j x p. (p.0, (p.1.0, p.1.1, get_map generic_of (generic_items a classes) p.1.0 (v, x) p.1.2)))
          (owned_by TypeOrMethodDef (generic_lists a classes) generic_tags refl 0x2A generic_cells (IsGenericRow r) image h.generics generic_owner
          (λ j x is. ap (λ (cs : List ℕ). slice_index cs 2) is.are) other row k (enumerate_from 0 gs) tag number at)

      pub generics_read : GenericsRead a classes r image
      unfolding tag_of
      generics_read = record {
        types = λ k c at. generics_at 0x02 (2 + k) (suc k) (class_generics c) (0, refl) (omega arith) (get_map (λ c. enumerate_from 0 (class_generics c)) classes k c at);
        methods = λ k m at. generics_at 0x06 (1 + k) k m.generics (1, refl) refl (get_map (λ (m : Method). enumerate_from 0 m.generics) (all_methods a classes) k m at);
      }

    module _ (h : ReadsProperties a classes r image) where
      accessors_at : (other row k : ℕ) (xs : List (ℕ × ℕ)) → HasTag HasSemantics other → row ≡ 1 + k
          → slice_get (lists_of other (accessor_lists a classes)) k ≡ Some xs → AccessorsOf image other row xs
      accessors_at other row k xs tag number at =
          let v = index_of HasSemantics other row in
          zip_later
          (λ j (x : ℕ × ℕ). IsMade semantics_row (semantics_cells image j) (v, x) × IsItem (accessor_items a classes) j (v, x)) (λ j (x : ℕ × ℕ). IsMade semantics_row (semantics_cells image j) (v, x))
          (rows_with image 0x18 semantics_association v) xs (λ j x p. p.0)
          (owned_by HasSemantics (accessor_lists a classes) accessor_tags refl 0x18 semantics_cells (IsMade semantics_row) image h.accessors semantics_association
          (λ j x is. ap (λ (cs : List ℕ). slice_index cs 2) is) other row k xs tag number at)

      pub accessors_read : AccessorsRead a classes image
      unfolding tag_of
      accessors_read = record {
        events = λ k xs at. accessors_at 0x14 (1 + k) k xs (0, refl) refl at;
        properties = λ k xs at. accessors_at 0x17 (1 + k) k xs (1, refl) refl at;
      }

-- all of them
pub owned_are_read : OwnedAreRead
owned_are_read = record { attributes = attributes_read; constants = constants_read; generics = generics_read; accessors = accessors_read }
