-- What belongs to types and members is well formed: attributes, generic parameters, constants, params.
use Rattle.std.proofs.Common.{◌≡◌, ◌≢◌, ℕ, zero, suc, ◌/◌, ◌^◌, ◌<◌, ◌≤◌, ◌==◌, ◌⊎◌, inl, inr, Bool, true, false, not, ◌&&◌, ◌||◌, nat_eq, List, [], length, bit_and, Option, refl, sym, ◌∙◌, ap, subst, arith}
use Rattle.std.proofs.lemmas.Bool.{and_from}
use Rattle.std.specs.List.{AllZip, list_all}
use Rattle.heaps.specs.Content.{HasText}
use Rattle.metadata_tables.specs.Schema.{schema, columns_of}
use Rattle.metadata_tables.specs.Stream.{cell, column_of}
use Rattle.metadata_tables.specs.declared.coded.Coded.{Coded}
use Rattle.metadata_tables.specs.declared.coded.Coded.TheVariants.{TypeDefOrRef, CustomAttributeType}
use Rattle.metadata_tables.specs.declared.schema.Column.TheVariants.{Tagged}
use Rattle.type_terms.specs.declared.term.Owner.{Owner}
use Rattle.assembly_tree.specs.WellFormedNames.{option_all, is_name, has_no_zero}
use Rattle.assembly_tree.specs.WellFormedTerms.{is_owner}
use Rattle.assembly_tree.specs.WellFormedMembers.{is_clear, is_attribute, is_constant, is_generic, is_param}
use Rattle.assembly_tree.specs.declared.assembly.Assembly.{Assembly}
use Rattle.assembly_tree.specs.declared.members.Attribute.{Attribute}
use Rattle.assembly_tree.specs.declared.members.Constant.{Constant}
use Rattle.assembly_tree.specs.declared.members.Generic.{Generic}
use Rattle.assembly_tree.specs.declared.members.Param.{Param}
use Rattle.image_model.specs.Streams.{tables_of, strings_of, blobs_of}
use Rattle.image_model.specs.Columns.{attribute_parent, attribute_type, generic_name, generic_owner, bound_parameter, bound_type, constant_type, param_flags, param_name}
use Rattle.image_model.specs.Rows.{HasRow, Names, token_of, rows_with}
use Rattle.image_model.specs.Used.{IsUsed}
use Rattle.image_model.specs.Members.{constants_of, generics_of, ConstantIs}
use Rattle.image_model.specs.Faults.{indexes, entries, Reads}
use Rattle.image_model.specs.Reading.{IsGiven, without, OwnerIs, IsAttribute, AttributesAre, IsGeneric, GenericsAre, IsParam}
use Rattle.image_namings.proofs.Owners.{OneText}
use Rattle.image_namings.proofs.Rows.{few_methods, few_members}
use Rattle.formed_references.specs.Laws.{AreUsed, AreFormed}
use Rattle.formed_references.proofs.Words.{eq_true, is_eq, all_zipped, all_given, of_rows_with, text_has_no_zero, text_is_name}
use Rattle.formed_images.specs.Laws.{AreBytes}
use Rattle.formed_images.proofs.Bytes.{stream_bytes, blob_bytes, clear}
use Rattle.formed_images.proofs.Constants.{constant_passes}
use Rattle.image_namings.proofs.Indexes.{named_row, row_there}
use Rattle.image_namings.proofs.Indexes.{cell_names}
use Rattle.image_namings.proofs.Indexes.{constructor_tables, is_reference, no_reference}
use Rattle.formed_references.proofs.Words.{is_filled}

module _ (image : List ℕ) (a : Assembly) (h : Reads image a) (bytes : AreBytes image) (short : length image ≤ 2 ^ 26) (text : OneText (strings_of image)) (forms : AreFormed image a h.names) where
  -- ---- uses

  -- the token of a row that a coded index of a declared row names is in use
  pub used_token : (from_table from column : ℕ) (kind : Coded) (nil : Bool) → is_reference from_table ≡ false → HasRow image from_table from → column < length (columns_of from_table)
      → column_of from_table column ≡ Tagged kind nil → (table row : ℕ) → Names kind (cell (tables_of image) from_table from column) table row → row < 2 ^ 24 → AreUsed image (token_of table row)
  used_token from_table from column kind nil plain from_there inside coded table row n small named other token reference there =
      let t : named ≡ table = (let i = token.is in let f = token.fits in omega arith) in
      let r : other ≡ row = (let i = token.is in let f = token.fits in omega arith) in
      IsUsed.by_row (no_reference from_table plain) from_there
      (cell_names image from_table from column kind nil named other inside coded
      (subst (λ (x : ℕ). Names kind (cell (tables_of image) from_table from column) named x) (sym r) (subst (λ (x : ℕ). Names kind (cell (tables_of image) from_table from column) x row) (sym t) n)))
      reference there

  -- an owner that a coded index of a declared row names is well formed
  pub owner_is : (from_table from column : ℕ) (nil : Bool) → is_reference from_table ≡ false → HasRow image from_table from → column < length (columns_of from_table) → column_of from_table column ≡ Tagged TypeDefOrRef nil
      → (o : Owner) → OwnerIs image h.names (cell (tables_of image) from_table from column) o → is_owner a o ≡ true
  owner_is from_table from column nil plain there inside coded o is =
      forms.owner is.0 is.1 o is.3 (λ e spec. IsUsed.by_row (no_reference from_table plain) there (cell_names image from_table from column TypeDefOrRef nil 0x1B is.1 inside coded
      (subst (λ (t : ℕ). Names TypeDefOrRef (cell (tables_of image) from_table from column) t is.1) e is.2)) (inr (inr (inr (inl refl)))) spec)

  pub small_row : (table row : ℕ) → (table ≡ 0x06) ⊎ (table ≡ 0x0A) → HasRow image table row → row < 2 ^ 24
  small_row table row (inl e) there = few_methods image row short h.tables (subst (λ (t : ℕ). HasRow image t row) e there)
  small_row table row (inr e) there = few_members image row short h.tables (subst (λ (t : ℕ). HasRow image t row) e there)

  pub not_instance : (table row : ℕ) → (table ≡ 0x06) ⊎ (table ≡ 0x0A) → row < 2 ^ 24 → token_of table row / 2 ^ 24 ≡ 0x2B → ⊥
  not_instance table row (inl e) small f = omega arith
  not_instance table row (inr e) small f = omega arith

  -- ---- attributes

  attribute_formed : (row : ℕ) (x : Attribute) → HasRow image 0x0C row → IsAttribute image h.names row x → is_attribute a x ≡ true
  unfolding is_attribute schema
  attribute_formed row x there is =
      let tables = constructor_tables (attribute_type image row) is.table is.constructor_row is.coded in
      let n = named_row image CustomAttributeType (attribute_type image row) ((h.rows indexes).0 0x0C row there 1 (omega arith)) in
      let named = row_there image CustomAttributeType (attribute_type image row) is.table is.constructor_row n is.coded in
      let small = small_row is.table is.constructor_row tables named in
      forms.plain (token_of is.table is.constructor_row) x.constructor is.constructor (not_instance is.table is.constructor_row tables small)
      (used_token 0x0C row 1 CustomAttributeType false refl there (omega arith) refl is.table is.constructor_row is.coded small)

  pub attributes_formed : (table row : ℕ) (xs : List Attribute) → AttributesAre image h.names table row xs → list_all (is_attribute a) xs ≡ true
  attributes_formed table row xs are =
      all_zipped (IsAttribute image h.names) (is_attribute a) (rows_with image 0x0C attribute_parent _) xs (λ r x m is. attribute_formed r x (of_rows_with image 0x0C attribute_parent _ r m).0 is) are

  -- ---- generic parameters

  bounds_formed : (row : ℕ) (os : List Owner) → AllZip (λ k. OwnerIs image h.names (bound_type image k)) (rows_with image 0x2C bound_parameter row) os → list_all (is_owner a) os ≡ true
  unfolding schema
  bounds_formed row os are =
      all_zipped (λ k. OwnerIs image h.names (bound_type image k)) (is_owner a) (rows_with image 0x2C bound_parameter row) os
      (λ r o m is. owner_is 0x2C r 1 false refl (of_rows_with image 0x2C bound_parameter row r m).0 (omega arith) refl o is) are

  generic_formed : (row : ℕ) (g : Generic) → HasRow image 0x2A row → IsGeneric image h.names row g → is_generic a g ≡ true
  unfolding is_generic schema
  generic_formed row g there is =
      let t = (h.rows entries) 0x2A row there 3 (omega arith) in
      let same = text (generic_name image row) t.0 g.name t.1 is.name in
      let name = text_is_name (strings_of image) (generic_name image row) g.name is.name (λ e. is_filled t.2 (same ∙ e)) in
      and_from (is_name g.name && list_all (is_owner a) g.bounds) (list_all (is_attribute a) g.attributes)
      (and_from (is_name g.name) (list_all (is_owner a) g.bounds) name (bounds_formed row g.bounds is.bounds)) (attributes_formed 0x2A row g.attributes is.attributes)

  pub generics_formed : (table row : ℕ) (gs : List Generic) → GenericsAre image h.names table row gs → list_all (is_generic a) gs ≡ true
  generics_formed table row gs are =
      all_zipped (IsGeneric image h.names) (is_generic a) (generics_of image table row) gs (λ r g m is. generic_formed r g (of_rows_with image 0x2A generic_owner _ r m).0 is) are

  -- ---- constants

  pub constant_formed : (row : ℕ) (c : Constant) → ConstantIs image row c → is_constant c ≡ true
  constant_formed row c is =
      let b = blob_bytes (blobs_of image) _ is.0 (stream_bytes image _ bytes) is.1 in
      subst (λ o. option_all is_constant o ≡ true) is.2 (constant_passes is.0 b (constant_type image row))

  pub constants_formed : (table row : ℕ) (o : Option Constant) → IsGiven (ConstantIs image) (constants_of image table row) o → option_all is_constant o ≡ true
  constants_formed table row o are = all_given (ConstantIs image) is_constant (constants_of image table row) o (λ r c m is. constant_formed r c is) are

  -- ---- params

  unnamed : (number : ℕ) (name : List ℕ) → (number ≡ 0 → name ≡ []) → (not (number == 0) || (length name == 0)) ≡ true
  unnamed number name f = go (nat_eq number 0) refl
    where
      go : (b : Bool) → nat_eq number 0 ≡ b → (not b || (length name == 0)) ≡ true
      go true e = eq_true (length name) 0 (ap length (f (is_eq number 0 e)))
      go false e = refl

  named : (number index : ℕ) (name : List ℕ) → (number ≡ 0 → name ≡ []) → (number ≢ 0 → HasText (strings_of image) index name) → has_no_zero name ≡ true
  named zero index name f g = subst (λ (t : List ℕ). has_no_zero t ≡ true) (sym (f refl)) refl
  named (suc n) index name f g = text_has_no_zero (strings_of image) index name (g (λ e. absurd (omega arith)))

  pub is_cleared : (flags other mask : ℕ) → flags ≡ without other mask → is_clear mask flags ≡ true
  is_cleared flags other mask e = eq_true (bit_and flags mask) 0 (ap (λ (n : ℕ). bit_and n mask) e ∙ clear other mask)

  pub param_formed : (row : ℕ) (p : Param) → IsParam image h.names row p → is_param a p ≡ true
  unfolding is_param
  param_formed row p is =
      let n = named p.number (param_name image row) p.name is.result_name is.name in
      let u = unnamed p.number p.name is.result_name in
      let f = is_cleared p.flags (param_flags image row) 0x1000 is.flags in
      let c = constants_formed 0x08 row p.constant is.constant in
      let x = attributes_formed 0x08 row p.attributes is.attributes in
      and_from _ _ (and_from _ _ (and_from _ _ (and_from _ _ n u) f) c) x
