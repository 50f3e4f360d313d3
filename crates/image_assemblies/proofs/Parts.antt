-- What a row gives is there, where no demand fails: names, attributes, generic parameters, constants.
use Rattle.std.proofs.Common.{◌≡◌, ℕ, ◌^◌, ◌<◌, ◌≤◌, inl, inr, Bool, false, List, [], ◌∷◌, length, Option, Some, None, refl, ap, subst, arith}
use Rattle.std.proofs.lemmas.Bool.{ne_eqb}
use Rattle.std.specs.Int.{bit_at}
use Rattle.std.specs.List.{AllZip}
use Rattle.metadata_tables.specs.Schema.{schema, columns_of}
use Rattle.metadata_tables.specs.Stream.{row_count, present, cell, column_of}
use Rattle.metadata_tables.specs.declared.coded.Coded.TheVariants.{TypeDefOrRef, MemberRefParent, MethodDefOrRef, HasCustomAttribute, TypeOrMethodDef}
use Rattle.metadata_tables.specs.declared.schema.Column.TheVariants.{Tagged}
use Rattle.type_terms.specs.declared.reference.MethodRef.{MethodRef}
use Rattle.type_terms.specs.declared.reference.MethodSig.{MethodSig}
use Rattle.type_terms.specs.declared.term.Owner.{Owner}
use Rattle.type_terms.specs.declared.term.Owner.TheVariants.{Name, Spec}
use Rattle.assembly_tree.specs.declared.members.Attribute.{Attribute}
use Rattle.assembly_tree.specs.declared.members.Constant.{Constant}
use Rattle.assembly_tree.specs.declared.members.Generic.{Generic}
use Rattle.assembly_tree.specs.declared.members.Param.{Param}
use Rattle.body_codec.specs.Names.{NameMap}
use Rattle.image_model.specs.Streams.{tables_of}
use Rattle.image_model.specs.Columns.{attribute_parent, generic_flags, generic_owner, bound_parameter, bound_type, member_parent, param_flags, param_sequence, override_declaration}
use Rattle.image_model.specs.Rows.{HasRow, Names, token_of, rows_with, index_of}
use Rattle.image_model.specs.Cells.{NamesRow}
use Rattle.image_model.specs.Naming.{here, RowOwner, IsToken, OwnsMethod, OwnsMember, NamesMethod}
use Rattle.image_model.specs.Namings.{AreNamings}
use Rattle.image_model.specs.Used.{IsUsed}
use Rattle.image_model.specs.Terms.{MemberHasMethod}
use Rattle.image_model.specs.Members.{constants_of, generics_of, ConstantIs, HasConstants}
use Rattle.image_model.specs.Faults.{RowRule, indexes, entries, signatures, values, attributes, Holds, HasTables}
use Rattle.image_model.specs.Reading.{IsGiven, without, OwnerIs, MethodIs, IsAttribute, AttributesAre, IsGeneric, GenericsAre, IsParam}
use Rattle.image_namings.proofs.Among.{Among}
use Rattle.image_namings.proofs.Decided.{same}
use Rattle.image_namings.proofs.Rows.{few_methods, few_members}
use Rattle.image_namings.proofs.Standing.{Stands, stands}
use Rattle.formed_references.proofs.Words.{all_among, of_rows_with}
use Rattle.image_namings.proofs.Indexes.{named_row, row_there}
use Rattle.image_namings.proofs.Indexes.{cell_names}
use Rattle.image_namings.proofs.Indexes.{method_tables}
use Rattle.image_namings.proofs.Indexes.{type_tables, parent_tables, is_reference, no_reference, IsParent, IsTypeTable, IsMethodTable}

-- ---- lists of parts

pub zipped : {X : Type 0} (Is : ℕ → X → Type 0) (rows : List ℕ) → ((r : ℕ) → Among r rows → (x : X) × Is r x) → (xs : List X) × AllZip Is rows xs
zipped Is [] f = ([], tt)
zipped Is (r ∷ rows) f =
    let x = f r (inl refl) in
    let xs = zipped Is rows (λ s m. f s (inr m)) in
    (x.0 ∷ xs.0, (x.1, xs.1))

pub given : {X : Type 0} (Is : ℕ → X → Type 0) (rows : List ℕ) → ((r : ℕ) → Among r rows → (x : X) × Is r x) → (o : Option X) × IsGiven Is rows o
given Is [] f = (None, tt)
given Is (r ∷ rows) f = let x = f r (inl refl) in (Some x.0, x.1)

-- no row stands in a table that isn't in the profile
absent : (stream : List ℕ) (table : ℕ) → (bit_at (present stream) table ≡ 1 → ⊥) → row_count stream table ≡ 0
unfolding row_count
absent stream table h = rw (ne_eqb (bit_at (present stream) table) 1 h) refl

no_module_ref : (image : List ℕ) (row : ℕ) → HasTables image → HasRow image 0x1A row → ⊥
unfolding schema
no_module_ref image row tables there =
    let none = absent (tables_of image) 0x1A (λ bit. tables.whole.tables 0x1A (bit, refl)) in
    omega (arith, none, there.0, there.1)

module _ (image : List ℕ) (names : NameMap) (short : length image ≤ 2 ^ 26) (tables : HasTables image) (named : AreNamings image names) (rows : (rule : RowRule) → Holds image names rule) where
  pub stood : Stands image
  stood = stands image names (λ earlier low. rows earlier)

  -- ---- owners

  -- a row of one of the three tables is a type, where a TypeSpec is in use
  row_owner : (table row : ℕ) → IsTypeTable table → HasRow image table row → (table ≡ 0x1B → HasRow image 0x1B row → IsUsed image 0x1B row) → (o : Owner) × RowOwner image names.owners table row o
  row_owner table row (inl e) there used =
      let here_is = subst (λ (t : ℕ). HasRow image t row) e there in
      let p = stood.path row here_is in
      (here p.0, RowOwner.defined e here_is p.1)
  row_owner table row (inr (inl e)) there used =
      let here_is = subst (λ (t : ℕ). HasRow image t row) e there in
      let p = stood.reference row here_is in
      (Name (record { scope = p.0; path = p.1 }), RowOwner.referred e here_is p.2)
  row_owner table row (inr (inr e)) there used =
      let here_is = subst (λ (t : ℕ). HasRow image t row) e there in
      let s = (rows signatures 0x1B row).type refl (used e here_is) in
      (Spec s.0, RowOwner.specified e here_is s.1.1 s.1.2)

  -- an owner that a coded index of a declared row names
  pub owner_is : (from_table from column : ℕ) (nil : Bool) → is_reference from_table ≡ false → HasRow image from_table from → column < length (columns_of from_table) → column_of from_table column ≡ Tagged TypeDefOrRef nil
      → NamesRow image TypeDefOrRef (cell (tables_of image) from_table from column) → (o : Owner) × OwnerIs image names (cell (tables_of image) from_table from column) o
  owner_is from_table from column nil plain from_there inside coded n =
      let o = row_owner n.0 n.1 (type_tables (cell (tables_of image) from_table from column) n.0 n.1 n.2) n.3 (λ e spec.
      IsUsed.by_row (no_reference from_table plain) from_there (cell_names image from_table from column TypeDefOrRef nil 0x1B n.1 inside coded
      (subst (λ (t : ℕ). Names TypeDefOrRef (cell (tables_of image) from_table from column) t n.1) e n.2)) (inr (inr (inr (inl refl)))) spec) in
      (o.0, (n.0, n.1, n.2, o.1))

  method_owner : (row : ℕ) → HasRow image 0x06 row → (o : Owner) × OwnsMethod image row o
  method_owner row there =
      let t = stood.method_in row there in
      let p = stood.path t.0 t.1 in
      (here p.0, OwnsMethod.owns t.1 t.2 p.1)

  -- the type of a reference to a member that is in use
  member_owner : (row : ℕ) → HasRow image 0x0A row → IsUsed image 0x0A row → (o : Owner) × OwnsMember image names.owners row o
  unfolding schema
  member_owner row there used =
      let n = stood.member_in row there in
      go n.0 n.1 n.2 n.3 (parent_tables (member_parent image row) n.0 n.1 n.2)
    where
      by_type : (table parent : ℕ) → Names MemberRefParent (member_parent image row) table parent → IsTypeTable table → HasRow image table parent → (o : Owner) × OwnsMember image names.owners row o
      by_type table parent n kind parent_there =
          let o = row_owner table parent kind parent_there (λ e spec. IsUsed.by_reference used (cell_names image 0x0A row 0 MemberRefParent false 0x1B parent (omega arith) refl
          (subst (λ (x : ℕ). Names MemberRefParent (member_parent image row) x parent) e n)) (inr (inr (inr (inl refl)))) spec) in
          (o.0, OwnsMember.by_type n o.1)

      go : (table parent : ℕ) → Names MemberRefParent (member_parent image row) table parent → HasRow image table parent → IsParent table → (o : Owner) × OwnsMember image names.owners row o
      go table parent n parent_there (inl e) = by_type table parent n (inl e) parent_there
      go table parent n parent_there (inr (inl e)) = by_type table parent n (inr (inl e)) parent_there
      go table parent n parent_there (inr (inr (inl e))) = absurd (no_module_ref image parent tables (subst (λ (t : ℕ). HasRow image t parent) e parent_there))
      go table parent n parent_there (inr (inr (inr (inl e)))) =
          let m = method_owner parent (subst (λ (t : ℕ). HasRow image t parent) e parent_there) in
          (m.0, OwnsMember.by_method (subst (λ (x : ℕ). Names MemberRefParent (member_parent image row) x parent) e n) m.1)
      go table parent n parent_there (inr (inr (inr (inr e)))) = by_type table parent n (inr (inr e)) parent_there

  -- ---- overrides

  -- the method that overrides is declared by
  pub declared_method : (row : ℕ) → HasRow image 0x19 row → (m : MethodRef) × MethodIs names (override_declaration image row) m
  unfolding schema
  declared_method row there =
      let s = ((rows signatures 0x19 row).override refl there).1 in
      let n = named_row image MethodDefOrRef (override_declaration image row) ((rows indexes).0 0x19 row there 2 (omega arith)) in
      let t = method_tables (override_declaration image row) s.0 s.1 s.2 in
      go s.0 s.1 s.2 s.3 (row_there image MethodDefOrRef (override_declaration image row) s.0 s.1 n s.2) t
    where
      go : (table method : ℕ) → Names MethodDefOrRef (override_declaration image row) table method → (table ≡ 0x0A → (sig : MethodSig) × MemberHasMethod image names method sig) → HasRow image table method → IsMethodTable table
          → (m : MethodRef) × MethodIs names (override_declaration image row) m
      go table method n sig method_there (inl e) =
          let here_is = subst (λ (t : ℕ). HasRow image t method) e method_there in
          let o = method_owner method here_is in
          let t = stood.method_is method here_is in
          let s = (rows signatures 0x06 method).method refl here_is in
          let token : IsToken (token_of table method) 0x06 method = record { is = ap (λ (t : ℕ). token_of t method) e; fits = few_methods image method short tables here_is } in
          let m : MethodRef = record { owner = o.0; name = t.0; sig = s.0; args = None } in
          (m, (table, method, n, (named.methods (token_of table method) m).1 (NamesMethod.defined token here_is o.1 t.1 s.1.1 s.1.2)))
      go table method n sig method_there (inr e) =
          let here_is = subst (λ (t : ℕ). HasRow image t method) e method_there in
          let used = IsUsed.by_row (no_reference 0x19 refl) there (cell_names image 0x19 row 2 MethodDefOrRef false 0x0A method (omega arith) refl
          (subst (λ (x : ℕ). Names MethodDefOrRef (override_declaration image row) x method) e n)) (inr (inl refl)) here_is in
          let o = member_owner method here_is used in
          let t = stood.member_is method here_is in
          let s = sig e in
          let token : IsToken (token_of table method) 0x0A method = record { is = ap (λ (t : ℕ). token_of t method) e; fits = few_members image method short tables here_is } in
          let m : MethodRef = record { owner = o.0; name = t.0; sig = s.0; args = None } in
          (m, (table, method, n, (named.methods (token_of table method) m).1 (NamesMethod.referred token here_is o.1 t.1 s.1.1 s.1.2)))

  -- ---- attributes

  attribute_is : (row : ℕ) → HasRow image 0x0C row → (x : Attribute) × IsAttribute image names row x
  unfolding schema
  attribute_is row there =
      let c = (rows attributes 0x0C row).constructor refl there in
      let v = (rows entries) 0x0C row there 2 (omega arith) in
      (record { constructor = c.2; value = v.0 }, record { table = c.0; constructor_row = c.1; coded = c.3; constructor = c.4; value = v.1 })

  pub attributes_are : (table row : ℕ) → (xs : List Attribute) × AttributesAre image names table row xs
  attributes_are table row = zipped (IsAttribute image names) (rows_with image 0x0C attribute_parent (index_of HasCustomAttribute table row)) (λ r m. attribute_is r (of_rows_with image 0x0C attribute_parent (index_of HasCustomAttribute table row) r m).0)

  -- ---- generic parameters

  bounds_are : (row : ℕ) → (os : List Owner) × AllZip (λ k. OwnerIs image names (bound_type image k)) (rows_with image 0x2C bound_parameter row) os
  unfolding schema
  bounds_are row = zipped (λ k. OwnerIs image names (bound_type image k)) (rows_with image 0x2C bound_parameter row) (λ r m.
      let there = (of_rows_with image 0x2C bound_parameter row r m).0 in
      owner_is 0x2C r 1 false refl there (omega arith) refl (named_row image TypeDefOrRef (bound_type image r) ((rows indexes).0 0x2C r there 1 (omega arith))))

  generic_is : (row : ℕ) → HasRow image 0x2A row → (g : Generic) × IsGeneric image names row g
  unfolding schema
  generic_is row there =
      let t = (rows entries) 0x2A row there 3 (omega arith) in
      let b = bounds_are row in
      let x = attributes_are 0x2A row in
      (record { name = t.0; flags = generic_flags image row; bounds = b.0; attributes = x.0 }, record { name = t.1; flags = refl; bounds = b.1; attributes = x.1 })

  pub generics_are : (table row : ℕ) → (gs : List Generic) × GenericsAre image names table row gs
  generics_are table row = zipped (IsGeneric image names) (generics_of image table row) (λ r m. generic_is r (of_rows_with image 0x2A generic_owner (index_of TypeOrMethodDef table row) r m).0)

  -- ---- constants and params

  pub constant_is : (table row : ℕ) → HasConstants image table row → (o : Option Constant) × IsGiven (ConstantIs image) (constants_of image table row) o
  constant_is table row has = given (ConstantIs image) (constants_of image table row) (λ r m. all_among (λ k. (c : Constant) × ConstantIs image k c) r (constants_of image table row) has.each m)

  pub param_is : (row : ℕ) → HasRow image 0x08 row → (p : Param) × IsParam image names row p
  unfolding schema
  param_is row there =
      let t = (rows entries) 0x08 row there 2 (omega arith) in
      let c = constant_is 0x08 row ((rows values 0x08 row).param refl there) in
      let x = attributes_are 0x08 row in
      elim (same (param_sequence image row) 0) [
        | inl e ↦ (
          record { number = param_sequence image row; flags = without (param_flags image row) 0x1000; name = []; constant = c.0; attributes = x.0 },
          record { number = refl; flags = refl; result_name = λ z. refl; name = λ n. absurd (n e); constant = c.1; attributes = x.1 },
        )
        | inr n ↦ (
          record { number = param_sequence image row; flags = without (param_flags image row) 0x1000; name = t.0; constant = c.0; attributes = x.0 },
          record { number = refl; flags = refl; result_name = λ z. absurd (n z); name = λ k. t.1; constant = c.1; attributes = x.1 },
        )
      ]
