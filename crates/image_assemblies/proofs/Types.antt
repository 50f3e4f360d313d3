-- Types are there, with those that they nest: an enclosing type's row stands before those of the types that it encloses
-- (II.22.32), so that nesting ends.
use Rattle.std.proofs.Common.{◌≡◌, ◌≢◌, ℕ, zero, suc, ◌+◌, ◌-◌, ◌^◌, ◌<◌, ◌≤◌, ◌⊎◌, inl, inr, true, false, nat_eq, List, [], ◌∷◌, find, length, Option, Some, None, refl, sym, ◌∙◌, ap, subst, arith}
use Rattle.std.proofs.lemmas.Bool.Decides.{nat_tests}
use Rattle.std.specs.Cmp.{IsTotalOrder}
use Rattle.std.specs.List.{AllZip}
use Rattle.std.specs.Option.{option_map_or}
use Rattle.metadata_tables.specs.Schema.{schema}
use Rattle.metadata_tables.specs.declared.coded.Coded.TheVariants.{TypeDefOrRef}
use Rattle.type_terms.specs.Order.{owner_order}
use Rattle.type_terms.specs.declared.term.Owner.{Owner}
use Rattle.sorted_owners.specs.Rising.{rising}
use Rattle.assembly_tree.specs.declared.typedef.TypeDef.{TypeDef}
use Rattle.assembly_tree.specs.declared.typedef.TypeDef.TheOpen.{TypeDef-F}
use Rattle.assembly_tree.specs.declared.typedef.TypeDef.TheViews.{out-TypeDef, roll-TypeDef, out-roll-TypeDef}
use Rattle.body_codec.specs.Names.{NameMap}
use Rattle.image_model.specs.Streams.{strings_of, blobs_of}
use Rattle.image_model.specs.Columns.{type_flags, type_extends, interface_class, interface_type, layout_pack, layout_size, nested_class, enclosing_class}
use Rattle.image_model.specs.Rows.{count_of, HasRow, rows_of, rows_with, enclosing, fields_of, methods_of, properties_of, events_of, types_in}
use Rattle.image_model.specs.Cells.{NamesRow}
use Rattle.image_model.specs.Naming.{RowOwner}
use Rattle.image_model.specs.Namings.{AreNamings}
use Rattle.image_model.specs.Members.{layouts_of}
use Rattle.image_model.specs.Faults.{RowRule, indexes, entries, scopes, Holds, HasTables}
use Rattle.image_model.specs.Reading.{OwnerIs, IsField, IsMethod, IsProperty, IsEvent, ExtendsIs, AreInterfaces, IsLayout, IsTypeButNested, IsType, AreTypes}
use Rattle.image_namings.proofs.Among.{Among, found, from_among}
use Rattle.image_namings.proofs.Decided.{OneBlob, same}
use Rattle.image_namings.proofs.General.{names_one}
use Rattle.image_namings.proofs.Owners.{OneText, ReadsTypes, owner_one}
use Rattle.formed_references.proofs.Words.{to_among, of_rows, of_rows_with}
use Rattle.image_assemblies.proofs.Ties.{IsIn, is_in, contained, rising_keeps, rising_only, rising_rises}
use Rattle.image_assemblies.proofs.Parts.{zipped, given, stood, owner_is, attributes_are, generics_are}
use Rattle.image_assemblies.proofs.Members.{OutlinesAreBodies, OneField, field_is, method_is, property_is, event_is}
use Rattle.image_namings.proofs.Indexes.{named_row}
use Rattle.formed_references.proofs.Words.{of_types}

-- an owner for each row is among the owners of all
zip_has : (Is : ℕ → Owner → Type 0) (rows : List ℕ) (os : List Owner) (r : ℕ) → AllZip Is rows os → Among r rows → (o : Owner) × Is r o × IsIn o os
zip_has Is [] [] r z m = absurd m
zip_has Is [] (o ∷ os) r z m = absurd z
zip_has Is (s ∷ rows) [] r z m = absurd z
zip_has Is (s ∷ rows) (o ∷ os) r z (inl e) = (o, subst (λ (k : ℕ). Is k o) e z.0, inl refl)
zip_has Is (s ∷ rows) (o ∷ os) r z (inr m) = let h = zip_has Is rows os r z.1 m in (h.0, h.1, inr h.2)

zip_from : (Is : ℕ → Owner → Type 0) (rows : List ℕ) (os : List Owner) (o : Owner) → AllZip Is rows os → IsIn o os → (r : ℕ) × Among r rows × Is r o
zip_from Is [] [] o z m = absurd m
zip_from Is [] (p ∷ os) o z m = absurd z
zip_from Is (s ∷ rows) [] o z m = absurd z
zip_from Is (s ∷ rows) (p ∷ os) o z (inl e) = (s, inl refl, subst (Is s) e z.0)
zip_from Is (s ∷ rows) (p ∷ os) o z (inr m) = let h = zip_from Is rows os o z.1 m in (h.0, inr h.1, h.2)

module _ (image : List ℕ) (names : NameMap) (short : length image ≤ 2 ^ 26) (tables : HasTables image) (named : AreNamings image names) (rows : (rule : RowRule) → Holds image names rule)
    (text : OneText (strings_of image)) (blob : OneBlob (blobs_of image)) (reads : ReadsTypes) (one_field : OneField) (body_law : OutlinesAreBodies) (total : IsTotalOrder owner_order) where
  -- ---- interfaces

  interfaces_each : (row : ℕ) → (os : List Owner) × AllZip (λ r. OwnerIs image names (interface_type image r)) (rows_with image 0x09 interface_class row) os
  unfolding schema
  interfaces_each row = zipped (λ r. OwnerIs image names (interface_type image r)) (rows_with image 0x09 interface_class row) (λ r m.
      let there = (of_rows_with image 0x09 interface_class row r m).0 in
      owner_is image names short tables named rows 0x09 r 1 false refl there (omega arith) refl (named_row image TypeDefOrRef (interface_type image r) ((rows indexes).0 0x09 r there 1 (omega arith))))

  -- an index names one owner
  same_owner : (value : ℕ) (o p : Owner) → OwnerIs image names value o → OwnerIs image names value p → o ≡ p
  same_owner value o p h k =
      let e = names_one TypeDefOrRef value k.0 k.1 h.0 h.1 k.2 h.2 in
      owner_one image reads text blob names.owners h.0 h.1 o p h.3 (subst (λ (r : ℕ). RowOwner image names.owners h.0 r p) e.1 (subst (λ (t : ℕ). RowOwner image names.owners t k.1 p) e.0 k.3))

  interfaces_are : (row : ℕ) → (os : List Owner) × AreInterfaces image names row os
  interfaces_are row =
      let each = interfaces_each row in
      let all = rows_with image 0x09 interface_class row in (
        rising each.0,
        record {
          rising = rising_rises total each.0;
          each = λ o. (
            λ c.
                let r = zip_from (λ r. OwnerIs image names (interface_type image r)) all each.0 o each.1 (rising_only o each.0 (is_in o (rising each.0) c.0 c.1 c.2)) in
                (r.0, from_among r.0 all r.1, r.2),
            λ h.
                let z = zip_has (λ r. OwnerIs image names (interface_type image r)) all each.0 h.0 each.1 (to_among h.0 all h.1) in
                let e = same_owner (interface_type image h.0) z.0 o z.1 h.2 in
                contained o (rising each.0) (rising_keeps o each.0 (subst (λ (x : Owner). IsIn x each.0) e z.2)),
          );
        },
      )

  -- ---- a type without those that it nests

  extends_is : (row : ℕ) → HasRow image 0x02 row → (o : Option Owner) × ExtendsIs image names (type_extends image row) o
  unfolding schema
  extends_is row there = elim (same (type_extends image row) 0) [
    | inl e ↦ (None, e)
    | inr n ↦
        let o = owner_is image names short tables named rows 0x02 row 3 true refl there (omega arith) refl (not_nil ((rows indexes).0 0x02 row there 3 (omega arith)) n) in
        (Some o.0, (n, o.1))
  ]
    where
      not_nil : ((true ≡ true) × (type_extends image row ≡ 0)) ⊎ NamesRow image TypeDefOrRef (type_extends image row) → type_extends image row ≢ 0 → NamesRow image TypeDefOrRef (type_extends image row)
      not_nil (inl z) n = absurd (n z.1)
      not_nil (inr r) n = r

  record IsThere (row : ℕ) (nested : List TypeDef) : Type 0 where
    pub type : TypeDef-F TypeDef
    pub is : IsTypeButNested image names row type
    pub nests : type.nested ≡ nested

  type_there : (row : ℕ) (nested : List TypeDef) → HasRow image 0x02 row → IsThere row nested
  unfolding schema
  type_there row nested there =
      let s = stood image names short tables named rows in
      let n = (rows entries) 0x02 row there 1 (omega arith) in
      let w = (rows entries) 0x02 row there 2 (omega arith) in
      let l = given (IsLayout image) (layouts_of image row) (λ r m. (record { pack = layout_pack image r; size = layout_size image r }, record { pack = refl; size = refl })) in
      let g = generics_are image names short tables named rows 0x02 row in
      let x = extends_is row there in
      let i = interfaces_are row in
      let f = zipped (IsField image names) (fields_of image row) (λ r m. field_is image names short tables named rows blob one_field body_law r (s.field_there r row there (from_among r (fields_of image row) m))) in
      let d = zipped (IsMethod image names) (methods_of image row) (λ r m. method_is image names short tables named rows blob one_field body_law r (s.method_there r row there (from_among r (methods_of image row) m))) in
      let p = zipped (IsProperty image names row) (properties_of image row) (λ r m. property_is image names short tables named rows blob one_field body_law row r m) in
      let e = zipped (IsEvent image names row) (events_of image row) (λ r m. event_is image names short tables named rows blob one_field body_law row r m) in
      let c = attributes_are image names short tables named rows 0x02 row in
      record {
        type = record { id = record { space = w.0; name = n.0 }; flags = type_flags image row; layout = l.0; generics = g.0; extends = x.0; implements = i.0; fields = f.0; methods = d.0; properties = p.0; events = e.0; nested = nested; attributes = c.0 };
        is = record { id = record { space = w.1; name = n.1 }; flags = refl; layout = l.1; generics = g.1; extends = x.1; implements = i.1; fields = f.1; methods = d.1; properties = p.1; events = e.1; attributes = c.1 };
        nests = refl;
      }

  -- ---- nesting

  type_made : (row : ℕ) → HasRow image 0x02 row → (nested : List TypeDef) → AreTypes image names (types_in image row) nested → (t : TypeDef) × IsType image names row t
  type_made row there nested are =
      let t = type_there row nested there in
      let out = out-roll-TypeDef t.type in
      let inner : (out-TypeDef (roll-TypeDef t.type)).nested ≡ nested = ap (λ (l : TypeDef-F TypeDef). l.nested) out ∙ t.nests in
      (roll-TypeDef t.type, IsType.made (subst (λ (l : TypeDef-F TypeDef). IsTypeButNested image names row l) (sym out) t.is) (subst (λ (ts : List TypeDef). AreTypes image names (types_in image row) ts) (sym inner) are))

  types_from : (all : List ℕ) → ((r : ℕ) → Among r all → (t : TypeDef) × IsType image names r t) → (ts : List TypeDef) × AreTypes image names all ts
  types_from [] f = ([], AreTypes.none)
  types_from (r ∷ all) f =
      let t = f r (inl refl) in
      let ts = types_from all (λ s m. f s (inr m)) in
      (t.0 ∷ ts.0, AreTypes.more t.1 ts.1)

  later_at : (row : ℕ) (o : Option ℕ) → find (λ r. nat_eq (nested_class image r) row) (rows_of image 0x29) ≡ o → 0 < row → option_map_or (enclosing_class image) o 0 < row
  later_at row None e some = some
  later_at row (Some r) e some =
      let w = found (λ r. nat_eq (nested_class image r) row) (rows_of image 0x29) r e in
      let n = (rows scopes 0x29 r).nesting refl (of_rows image 0x29 r w.0) in
      let is : nested_class image r ≡ row = grind (arith, nat_tests, w.1) in
      let before = n.before in
      omega arith

  -- a type stands behind the one that encloses it
  later : (row : ℕ) → 0 < row → enclosing image row < row
  unfolding enclosing
  later row some = later_at row _ refl some

  types_by : (fuel outer : ℕ) → count_of image 0x02 ≤ outer + fuel → (ts : List TypeDef) × AreTypes image names (types_in image outer) ts
  types_by zero outer enough = types_from (types_in image outer) (λ r m.
      let o = of_types image r outer m in
      let l = later r o.0.0 in
      absurd (omega (arith, enough, o.0.1, o.2, l)))
  types_by (suc fuel) outer enough = types_from (types_in image outer) (λ r m.
      let o = of_types image r outer m in
      let l = later r o.0.0 in
      let nested = types_by fuel r (omega (arith, enough, o.2, l)) in
      type_made r o.0 nested.0 nested.1)

  pub types_are : (ts : List TypeDef) × AreTypes image names (types_in image 0) ts
  types_are = types_by (count_of image 0x02) 0 (omega arith)
