-- Each row of TypeDef and of TypeRef names a type by a path of at most 100 names, where I8 to I13 hold.
use Rattle.std.proofs.Common.{ℕ, inl, inr, List, [], ◌∷◌, refl, subst, arith}
use Rattle.metadata_tables.specs.Schema.{schema}
use Rattle.type_terms.specs.declared.name.Scope.TheVariants.{Here}
use Rattle.type_terms.specs.declared.name.TypeId.{TypeId}
use Rattle.image_model.specs.Naming.{HasId, HasPath}
use Rattle.image_model.specs.Rows.{HasRow}
use Rattle.image_model.specs.Structure.{HasScopes}
use Rattle.row_demands.specs.Structured.{MeetStructure}
use Rattle.row_groups.proofs.Enclosing.{enclosed}
use Rattle.kept_owners.specs.Paths.{RowNamesType, IsShort}

module _ (image : List ℕ) (meets : MeetStructure image) (scopes : (table row : ℕ) → HasScopes image table row) where
  id_at : (type : ℕ) → HasRow image 0x02 type → (id : TypeId) × HasId image type id
  unfolding schema
  id_at type there =
      let n = meets.entries 0x02 type there 1 (omega arith) in
      let s = meets.entries 0x02 type there 2 (omega arith) in
      (record { space = s.0; name = n.0 }, record { space = s.1; name = n.1 })

  pub short_type : (row : ℕ) → HasRow image 0x02 row → IsShort image 0x02 row
  short_type row there = elim (enclosed image row) [
    | inl top ↦ let i = id_at row there in (Here, i.0 ∷ [], RowNamesType.defined refl there (HasPath.top top.0 i.1), omega arith)
    | inr u ↦
        let n = (scopes 0x29 u.0).nesting refl u.1 in
        (Here, n.path, RowNamesType.defined refl there (subst (λ (t : ℕ). HasPath image t n.path) u.2 n.leads), n.short)
  ]

  pub short_reference : (row : ℕ) → HasRow image 0x01 row → IsShort image 0x01 row
  short_reference row there =
      let s = (scopes 0x01 row).reference refl there in
      (s.scope, s.path, RowNamesType.referred refl there s.leads, s.short)
