-- Each row of TypeDef, TypeRef and, where it is used, TypeSpec is a type, where the demands before that on tokens hold.
use Rattle.std.proofs.Common.{◌≡◌, ◌∙◌, sym, ap, subst, refl, ℕ, suc, ◌+◌, ◌<◌, ◌≤◌, ◌^◌, ◌⊎◌, inl, inr, Bool, true, List, [], ◌∷◌, length, Option, None, Some, arith}
use Rattle.std.specs.Prelude.{◌↔◌, ◌==◌, Contains}
use Rattle.std.specs.List.{find}
use Rattle.std.specs.Option.{option_map_or}
use Rattle.std.proofs.lemmas.Bool.{eqb-true}
use Rattle.body_codec.specs.Names.{NameMap}
use Rattle.heaps.specs.Content.{HasText}
use Rattle.metadata_tables.specs.Schema.{schema}
use Rattle.type_terms.specs.declared.name.TypeId.{TypeId}
use Rattle.type_terms.specs.declared.term.Owner.{Owner}
use Rattle.type_terms.specs.declared.term.Owner.TheVariants.{Spec, Name}
use Rattle.image_model.specs.Cells.{HasEntries}
use Rattle.image_model.specs.Columns.{nested_class, enclosing_class, type_name, type_space}
use Rattle.image_model.specs.Faults.{HasTables, HoldBefore, entries, scopes, signatures, tokens}
use Rattle.image_model.specs.Naming.{HasId, HasPath, HasRefPath, RowOwner, NamesOwner, IsToken, here}
use Rattle.image_model.specs.Namings.{AreNamings}
use Rattle.image_model.specs.Rows.{count_of, HasRow, rows_of, enclosing}
use Rattle.image_model.specs.Streams.{strings_of}
use Rattle.image_model.specs.Structure.{HasScopes}
use Rattle.image_model.specs.Terms.{HasSignatures}
use Rattle.image_model.specs.Used.{IsUsed}
use Rattle.body_tokens.specs.Tokens.{NamesRow, IsTypeToken}
use Rattle.body_tokens.proofs.Found.{found_passes, in_range}

-- space and name of a type
id_of : (image : List ℕ) (type : ℕ) → HasEntries image 0x02 type → (id : TypeId) × HasId image type id
unfolding schema
id_of image type h =
    let name = h 1 (omega arith) in
    let space = h 2 (omega arith) in
    let id : TypeId = record { space = space.0; name = name.0 } in
    (id, record { space = space.1; name = name.1 })

path_of : (image : List ℕ) (type : ℕ) → HasEntries image 0x02 type → ((row : ℕ) → HasRow image 0x29 row → HasScopes image 0x29 row) → HasRow image 0x02 type
    → (path : List TypeId) × HasPath image type path
unfolding enclosing rows_of
path_of image type h nested there = by_row (find (λ row. nested_class image row == type) (rows_of image 0x29)) refl where
  by_row : (o : Option ℕ) → find (λ row. nested_class image row == type) (rows_of image 0x29) ≡ o → (path : List TypeId) × HasPath image type path
  by_row None e =
      let id = id_of image type h in
      let top : enclosing image type ≡ 0 = ap (λ o. option_map_or (enclosing_class image) o 0) e in
      (id.0 ∷ [], HasPath.top top id.1)
  by_row (Some row) e =
      let passes = found_passes (λ row. nested_class image row == type) (rows_of image 0x29) row e in
      let range = in_range 1 (count_of image 0x29) row passes.1 in
      let low = range.0 in
      let high = range.1 in
      let there : HasRow image 0x29 row = (omega arith, omega arith) in
      let same : nested_class image row ≡ type = eqb-true (nested_class image row) type passes.0 in
      let one = (nested row there).nesting refl there in
      (one.path, subst (λ (t : ℕ). HasPath image t one.path) same one.leads)

module _ (image : List ℕ) (names : NameMap) (has : HasTables image) (named : AreNamings image names) (before : HoldBefore image names tokens) where
  pub type_path : (type : ℕ) → HasRow image 0x02 type → (path : List TypeId) × HasPath image type path
  type_path type there =
      path_of image type (before entries (omega arith) 0x02 type there) (λ row nested. before scopes (omega arith) 0x29 row) there

  -- a row is a type
  pub defined_owner : (type : ℕ) → HasRow image 0x02 type → (owner : Owner) × RowOwner image names.owners 0x02 type owner
  defined_owner type there = let p = type_path type there in (here p.0, RowOwner.defined refl there p.1)

  pub referred_owner : (row : ℕ) → HasRow image 0x01 row → (owner : Owner) × RowOwner image names.owners 0x01 row owner
  referred_owner row there =
      let s = (before scopes (omega arith) 0x01 row).reference refl there in
      (Name (record { scope = s.scope; path = s.path }), RowOwner.referred refl there s.leads)

  pub specified_owner : (row : ℕ) → HasRow image 0x1B row → IsUsed image 0x1B row → (owner : Owner) × RowOwner image names.owners 0x1B row owner
  specified_owner row there used =
      let t = (before signatures (omega arith) 0x1B row).type refl used in
      (Spec t.0, RowOwner.specified refl there t.1.1 t.1.2)

  told : (token table row : ℕ) → IsToken token table row → (owner : Owner) × RowOwner image names.owners table row owner → (owner : Owner) × (names.owners token ≡ Some owner)
  told token table row is o = (o.0, (named.owners token o.0).1 (NamesOwner.by_row is o.1))

  -- so its token has a name
  pub type_named : (token : ℕ) → ((row : ℕ) → IsToken token 0x1B row → HasRow image 0x1B row → IsUsed image 0x1B row) → IsTypeToken image token → (owner : Owner) × (names.owners token ≡ Some owner)
  type_named token used (inl n) = told token 0x02 n.row n.is (defined_owner n.row n.there)
  type_named token used (inr (inl n)) = told token 0x01 n.row n.is (referred_owner n.row n.there)
  type_named token used (inr (inr n)) = told token 0x1B n.row n.is (specified_owner n.row n.there (used n.row n.is n.there))

  row_token : (token table row : ℕ) (owner : Owner) → IsToken token table row → RowOwner image names.owners table row owner → IsTypeToken image token
  row_token token table row owner is (RowOwner.defined e there path) = inl (record { row = row; is = subst (λ (t : ℕ). IsToken token t row) e is; there = there })
  row_token token table row owner is (RowOwner.referred e there path) = inr (inl (record { row = row; is = subst (λ (t : ℕ). IsToken token t row) e is; there = there }))
  row_token token table row owner is (RowOwner.specified e there blob spelled) = inr (inr (record { row = row; is = subst (λ (t : ℕ). IsToken token t row) e is; there = there }))

  names_type : (token : ℕ) (owner : Owner) → NamesOwner image names.owners token owner → IsTypeToken image token
  names_type token owner (NamesOwner.by_row {table = table} {row = row} is o) = row_token token table row owner is o

  -- and what has a name is a type's token
  pub named_type : (token : ℕ) (owner : Owner) → names.owners token ≡ Some owner → IsTypeToken image token
  named_type token owner e = names_type token owner ((named.owners token owner).0 e)
