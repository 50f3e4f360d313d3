-- What the coded indexes of a laid-out image name (ECMA-335 II.24.2.6, III.1.9).
use Rattle.std.proofs.Common.{◌≡◌, ◌≢◌, ap, refl, sym, ◌∙◌, subst, ℕ, ◌+◌, ◌*◌, ◌/◌, ◌%◌, ◌^◌, ◌<◌, List, Option, None, Some, inl, inr, arith}
use Rattle.std.specs.Prelude.{◌⊎◌}
use Rattle.body_codec.specs.Back.{NamesBack}
use Rattle.body_codec.specs.Names.{NameMap}
use Rattle.metadata_tables.specs.CodedIndex.{tag_of, unpacked}
use Rattle.metadata_tables.specs.declared.coded.Coded.{Coded}
use Rattle.metadata_tables.specs.declared.coded.Coded.TheVariants.{TypeDefOrRef, MethodDefOrRef, CustomAttributeType}
use Rattle.type_terms.specs.declared.reference.MethodRef.{MethodRef}
use Rattle.type_terms.specs.declared.term.Owner.{Owner}
use Rattle.image_tokens.specs.Indexes.{index_of, index_of_token}
use Rattle.image_tokens.specs.Members.{HasMethod}
use Rattle.image_tokens.specs.declared.references.References.{References}
use Rattle.image_members.specs.CodeBytes.{all_tokens}
use Rattle.image_members.specs.TypeIndexes.{IsTypeIndex}
use Rattle.image_layout.specs.Laws.{ReadsHeaps}
use Rattle.image_model.specs.Naming.{IsToken, NamesMethod, NamesOwner, RowOwner}
use Rattle.image_model.specs.Namings.{AreNamings}
use Rattle.image_model.specs.Reading.{OwnerIs}
use Rattle.image_model.specs.Rows.{Names, count_of, token_of}
use Rattle.laws_image_parts.proofs.IndexLemmas.{index_is, index_names}

-- what is known of an image with a namer
pub record IsReader (r : References) (image : List ℕ) (names : NameMap) : Type 0 where
  pub heaps : ReadsHeaps r image
  pub few : (table : ℕ) → count_of image table < 2 ^ 24
  pub named : AreNamings image names
  pub back : NamesBack (all_tokens r) names

value_one : {X : Type 0} (o : Option X) (x y : X) → o ≡ Some x → o ≡ Some y → x ≡ y
value_one o x y h k = cc

-- ---- tags

method_tag : (table : ℕ) → (table ≡ 0x06) ⊎ (table ≡ 0x0A) → (tag : ℕ) × (tag_of MethodDefOrRef table ≡ Some tag)
unfolding tag_of
method_tag table (inl e) = (0, ap (tag_of MethodDefOrRef) e)
method_tag table (inr e) = (1, ap (tag_of MethodDefOrRef) e)

constructor_tag : (table : ℕ) → (table ≡ 0x06) ⊎ (table ≡ 0x0A) → (tag : ℕ) × (tag_of CustomAttributeType table ≡ Some tag)
unfolding tag_of
constructor_tag table (inl e) = (2, ap (tag_of CustomAttributeType) e)
constructor_tag table (inr e) = (3, ap (tag_of CustomAttributeType) e)

module _ (r : References) (image : List ℕ) (names : NameMap) (s : IsReader r image names) where
  -- ---- types

  owner_tag : (table row : ℕ) (o : Owner) → RowOwner image names.owners table row o → (tag : ℕ) × (tag_of TypeDefOrRef table ≡ Some tag)
  unfolding tag_of
  owner_tag table row o (RowOwner.defined e there h) = (0, ap (tag_of TypeDefOrRef) e)
  owner_tag table row o (RowOwner.referred e there h) = (1, ap (tag_of TypeDefOrRef) e)
  owner_tag table row o (RowOwner.specified e there b h) = (2, ap (tag_of TypeDefOrRef) e)

  owner_row : (table row : ℕ) (o : Owner) → RowOwner image names.owners table row o → (0 < row) × (row < 2 ^ 24)
  owner_row table row o (RowOwner.defined e there h) = (let high = there.1 in let few = s.few 0x02 in (there.0, omega arith))
  owner_row table row o (RowOwner.referred e there h) = (let high = there.1 in let few = s.few 0x01 in (there.0, omega arith))
  owner_row table row o (RowOwner.specified e there b h) = (let high = there.1 in let few = s.few 0x1B in (there.0, omega arith))

  by_row : (token cell : ℕ) (o : Owner) → NamesOwner image names.owners token o → cell ≡ index_of_token TypeDefOrRef token → OwnerIs image names cell o × (cell ≢ 0)
  by_row token cell o (NamesOwner.by_row {table = table} {row = at} i h) is =
      let e = i.is in
      let fits = i.fits in
      let high : token / 2 ^ 24 ≡ table = omega arith in
      let low : token % 2 ^ 24 ≡ at = omega arith in
      let tag = owner_tag table at o h in
      let some = (owner_row table at o h).0 in
      let index : cell ≡ index_of TypeDefOrRef table at = is ∙ (λ j. index_of TypeDefOrRef (high j) (low j)) in
      let value : cell ≡ at * 2 ^ 2 + tag.0 = index ∙ index_is TypeDefOrRef table at tag.0 tag.1 in (
        (table, at, subst (λ v. unpacked TypeDefOrRef v ≡ Some (table, at)) (sym index) (index_names TypeDefOrRef table at tag.0 tag.1), h),
        λ zero. omega arith,
      )

  both : (o : Owner) (cell token : ℕ) → (all_tokens r).owners o ≡ Some token → cell ≡ index_of_token TypeDefOrRef token → OwnerIs image names cell o × (cell ≢ 0)
  both o cell token has is = by_row token cell o ((s.named.owners token o).0 (s.back.owners o token has)) is

  -- the index of a type names it
  pub owner_is : (o : Owner) (cell index : ℕ) → IsTypeIndex o r index → cell ≡ index → OwnerIs image names cell o
  owner_is o cell index h is = (both o cell h.0 h.1 (is ∙ h.2)).0

  -- and isn't 0
  pub owner_some : (o : Owner) (cell index : ℕ) → IsTypeIndex o r index → cell ≡ index → cell ≢ 0
  owner_some o cell index h is = (both o cell h.0 h.1 (is ∙ h.2)).1

  told : (table row : ℕ) (o : Owner) → RowOwner image names.owners table row o → names.owners (token_of table row) ≡ Some o
  told table row o h = (s.named.owners (token_of table row) o).1 (NamesOwner.by_row (record { is = refl; fits = (owner_row table row o h).1 }) h)

  -- an index names one type
  pub owner_one : (cell : ℕ) (o p : Owner) → OwnerIs image names cell o → OwnerIs image names cell p → o ≡ p
  owner_one cell o p (table, row, is, h) (other, at, also, k) =
      let same : ◌≡◌ {A = ℕ × ℕ} (table, row) (other, at) = value_one (unpacked TypeDefOrRef cell) (table, row) (other, at) is also in
      let tokens : token_of table row ≡ token_of other at = ap (λ (x : ℕ × ℕ). token_of x.0 x.1) same in
      value_one (names.owners (token_of other at)) o p (ap names.owners (sym tokens) ∙ told table row o h) (told other at p k)

  -- ---- methods

  -- a method without arguments has a row of MethodDef or of MemberRef
  method_row : (token : ℕ) (m : MethodRef) → NamesMethod image names.owners token m → m.args ≡ None → (table row : ℕ) × IsToken token table row × ((table ≡ 0x06) ⊎ (table ≡ 0x0A))
  method_row token m (NamesMethod.defined {method = row} i there own name blob sig) plain = (0x06, row, i, inl refl)
  method_row token m (NamesMethod.referred {row = row} i there own name blob sig) plain = (0x0A, row, i, inr refl)
  method_row token m (NamesMethod.instantiated {args = args} i there coded generic blob spelled) plain = absurd cc

  -- a coded index of a method
  abbrev pub NamesIt : Coded → ℕ → MethodRef → Type 0
  NamesIt kind cell m = (table row : ℕ) × Names kind cell table row × (names.methods (token_of table row) ≡ Some m)

  method_named : (kind : Coded) → ((table : ℕ) → (table ≡ 0x06) ⊎ (table ≡ 0x0A) → (tag : ℕ) × (tag_of kind table ≡ Some tag))
      → (m : MethodRef) (cell token : ℕ) → HasMethod m r token → m.args ≡ None → cell ≡ index_of_token kind token → NamesIt kind cell m
  method_named kind tags m cell token has plain is =
      let told_it : names.methods token ≡ Some m = s.back.methods m token has in
      let found = method_row token m ((s.named.methods token m).0 told_it) plain in
      let table = found.0 in
      let row = found.1 in
      let e = found.2.is in
      let fits = found.2.fits in
      let tag = tags table found.3 in
      let kinds = found.3 in
      let high : token / 2 ^ 24 ≡ table = omega arith in
      let low : token % 2 ^ 24 ≡ row = omega arith in
      let index : cell ≡ index_of kind table row = is ∙ (λ j. index_of kind (high j) (low j)) in (
        table,
        row,
        subst (λ v. unpacked kind v ≡ Some (table, row)) (sym index) (index_names kind table row tag.0 tag.1),
        subst (λ t. names.methods t ≡ Some m) e told_it,
      )

  -- what is overridden
  pub declaration_is : (m : MethodRef) (cell token : ℕ) → HasMethod m r token → m.args ≡ None → cell ≡ index_of_token MethodDefOrRef token → NamesIt MethodDefOrRef cell m
  declaration_is m cell token has plain is = method_named MethodDefOrRef method_tag m cell token has plain is

  -- the constructor of an attribute
  pub constructor_is : (m : MethodRef) (cell token : ℕ) → HasMethod m r token → m.args ≡ None → cell ≡ index_of_token CustomAttributeType token → NamesIt CustomAttributeType cell m
  constructor_is m cell token has plain is = method_named CustomAttributeType constructor_tag m cell token has plain is
