-- The owners of rows of MemberRef.
use Rattle.std.proofs.Common.{◌≡◌, ap, refl, sym, ◌∙◌, subst, ℕ, ◌+◌, ◌-◌, ◌/◌, ◌%◌, ◌^◌, ◌<◌, List, Some, Contains, arith}
use Rattle.std.specs.Prelude.{slice_get, slice_index}
use Rattle.metadata_tables.specs.CodedIndex.{tag_of, unpacked}
use Rattle.metadata_tables.specs.declared.coded.Coded.TheVariants.{MemberRefParent}
use Rattle.type_terms.specs.declared.term.Owner.{Owner}
use Rattle.image_tokens.specs.Indexes.{index_of, index_of_token}
use Rattle.image_tokens.specs.References.{AreKnown, IsReferredMember, tokens_of}
use Rattle.image_tokens.specs.declared.references.References.{References}
use Rattle.image_tokens.specs.declared.row_set.Cells.{Cells}
use Rattle.image_rows.specs.Filled.{three_cells}
use Rattle.image_model.specs.Columns.{member_parent}
use Rattle.image_model.specs.Naming.{RowOwner, NamesOwner, OwnsMethod, OwnsMember, HasPath, here}
use Rattle.image_model.specs.Rows.{Names, count_of, token_of, methods_of}
use Rattle.laws_image_parts.specs.AtRows.{Reads}
use Rattle.laws_image_parts.specs.RowCells.{member_cells}
use Rattle.laws_image_parts.specs.RowsRead.{IsMade}
use Rattle.laws_image_parts.proofs.IndexLemmas.{index_names}
use Rattle.laws_image_parts.specs.names.MemberOwners.{MembersOwned}
use Rattle.laws_image_parts.specs.names.Owners.{OwnersRead}
use Rattle.laws_image_parts.specs.names.Parents.{ParentsRead}
use Rattle.laws_image_parts.proofs.names.General.{get_some}
use Rattle.laws_image_parts.proofs.names.OnePath.{one_value, path_one}
use Rattle.laws_image_parts.proofs.names.OneToken.{OneText}

module _ (r : References) (image : List ℕ) (text : OneText image) (known : AreKnown r) (reads : Reads 0x0A member_cells (IsMade three_cells) r.referred.members image)
    (few : (table : ℕ) → count_of image table < 2 ^ 24) (members : MembersOwned image) (o : OwnersRead r image) where
  -- the row of a type is one that a parent can name
  parent_tag : (table row : ℕ) (owner : Owner) → RowOwner image o.owners table row owner → (tag : ℕ) × (tag_of MemberRefParent table ≡ Some tag)
  unfolding tag_of
  parent_tag table row owner (RowOwner.defined e there h) = (0, ap (tag_of MemberRefParent) e)
  parent_tag table row owner (RowOwner.referred e there h) = (1, ap (tag_of MemberRefParent) e)
  parent_tag table row owner (RowOwner.specified e there b h) = (4, ap (tag_of MemberRefParent) e)

  no_method : (table row : ℕ) (owner : Owner) → RowOwner image o.owners table row owner → table ≡ 0x06 → ⊥
  no_method table row owner (RowOwner.defined e there h) f = omega arith
  no_method table row owner (RowOwner.referred e there h) f = omega arith
  no_method table row owner (RowOwner.specified e there b h) f = omega arith

  row_few : (table row : ℕ) (owner : Owner) → RowOwner image o.owners table row owner → row < 2 ^ 24
  row_few table row owner (RowOwner.defined e there h) = (let high = there.1 in omega (arith, few 0x02))
  row_few table row owner (RowOwner.referred e there h) = (let high = there.1 in omega (arith, few 0x01))
  row_few table row owner (RowOwner.specified e there b h) = (let high = there.1 in omega (arith, few 0x1B))

  -- a row is that of one type
  told : (table row : ℕ) (owner : Owner) → RowOwner image o.owners table row owner → o.owners (token_of table row) ≡ Some owner
  told table row owner h = (o.tells (token_of table row) owner).1 (NamesOwner.by_row (record { is = refl; fits = row_few table row owner h }) h)

  same_names : (value table row other at : ℕ) → Names MemberRefParent value table row → Names MemberRefParent value other at → (table ≡ other) × (row ≡ at)
  same_names value table row other at h k =
      let e = one_value _ (table, row) (other, at) h k in
      (ap (λ p. p.0) e, ap (λ p. p.1) e)

  method_one : (method other : ℕ) (owner another : Owner) → method ≡ other → OwnsMethod image method owner → OwnsMethod image other another → owner ≡ another
  method_one method other owner another e (OwnsMethod.owns {type = t} there within path) (OwnsMethod.owns {type = u} {path = q} those beside way) =
      let same : u ≡ t = members.methods.one other u t those there beside (subst (Contains (methods_of image t)) e within) in
      ap here (path_one image text path (subst (λ z. HasPath image z q) same way))

  one : (row : ℕ) (owner other : Owner) → OwnsMember image o.owners row owner → OwnsMember image o.owners row other → owner ≡ other
  one row owner other (OwnsMember.by_type {table = t} {parent = p} n h) (OwnsMember.by_type {table = u} {parent = q} m k) =
      let e = same_names (member_parent image row) t p u q n m in
      let tables = e.0 in
      let rows = e.1 in
      let token : token_of t p ≡ token_of u q = (λ i. token_of (tables i) (rows i)) in
      one_value (o.owners (token_of u q)) owner other (ap o.owners (sym token) ∙ told t p owner h) (told u q other k)
  one row owner other (OwnsMember.by_type {table = t} {parent = p} n h) (OwnsMember.by_method {method = m} i k) =
      absurd (no_method t p owner h (same_names (member_parent image row) t p 0x06 m n i).0)
  one row owner other (OwnsMember.by_method {method = m} i k) (OwnsMember.by_type {table = t} {parent = p} n h) =
      absurd (no_method t p other h (same_names (member_parent image row) t p 0x06 m n i).0)
  one row owner other (OwnsMember.by_method {method = m} i h) (OwnsMember.by_method {method = n} j k) =
      method_one m n owner other (same_names (member_parent image row) 0x06 m 0x06 n i j).1 h k

  by_token : (row token : ℕ) (owner : Owner) → NamesOwner image o.owners token owner → member_parent image row ≡ index_of_token MemberRefParent token → OwnsMember image o.owners row owner
  by_token row token owner (NamesOwner.by_row {table = table} {row = at} i h) is =
      let e = i.is in
      let fits = i.fits in
      let high : token / 2 ^ 24 ≡ table = omega arith in
      let low : token % 2 ^ 24 ≡ at = omega arith in
      let tag = parent_tag table at owner h in
      let index : member_parent image row ≡ index_of MemberRefParent table at = is ∙ (λ i. index_of MemberRefParent (high i) (low i)) in
      OwnsMember.by_type (subst (λ v. unpacked MemberRefParent v ≡ Some (table, at)) (sym index) (index_names MemberRefParent table at tag.0 tag.1)) h

  made : (k : ℕ) (cells : Cells) (owner : Owner) (token : ℕ) → slice_get r.referred.members k ≡ Some cells → tokens_of r owner ≡ Some token
      → cells.first ≡ index_of_token MemberRefParent token → OwnsMember image o.owners (1 + k) owner
  made k cells owner token at has is =
      let column : member_parent image (1 + k) ≡ cells.first = ap (λ (cs : List ℕ). slice_index cs 0) (reads.each k cells at) in
      by_token (1 + k) token owner ((o.tells token owner).0 (o.back owner token has)) (column ∙ is)

  pub parents_read : ParentsRead r image o.owners
  parents_read = record {
    has = λ row there.
        let some = there.0 in
        let high = there.1 in
        let found = get_some r.referred.members (row - 1) (omega (arith, reads.count)) in
        let m : IsReferredMember r found.0 = known.rows.members (row - 1) found.0 found.1 in
        let same : 1 + (row - 1) ≡ row = omega arith in
        (m.owner, subst (λ n. OwnsMember image o.owners n m.owner) same (made (row - 1) found.0 m.owner m.token found.1 m.owner_is m.parent_is));
    one = one;
    made = made;
  }
