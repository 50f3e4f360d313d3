-- Where nesting and scopes are right, each type and each reference has a number.
use Rattle.std.proofs.Common.{◌≡◌, ℕ, ◌≤◌, ◌<◌, inl, inr, List, [], ◌∷◌, length, refl, sym, subst, arith}
use Rattle.type_terms.specs.declared.name.Scope.TheVariants.{Here}
use Rattle.type_terms.specs.declared.name.TypeId.{TypeId}
use Rattle.image_model.specs.Columns.{nested_class}
use Rattle.image_model.specs.Naming.{HasPath}
use Rattle.image_model.specs.Rows.{HasRow}
use Rattle.image_model.specs.Structure.{HasScopes}
use Rattle.name_numbers.specs.Names.{depth_at}
use Rattle.name_numbers.specs.declared.numbering.Named.{Named}
use Rattle.row_demands.specs.Structured.{MeetStructure}
use Rattle.row_groups.proofs.Enclosing.{enclosed}
use Rattle.type_names.specs.Forest.{ref_node}
use Rattle.type_names.specs.Numbers.{NodeNames, IsNode, TellNames}
use Rattle.type_names.proofs.Facts.{type_ids}
use Rattle.owner_numbers.specs.Canon.{AreNumbered}

module _ (image : List ℕ) (named : List Named) (tell : TellNames image named) (meets : MeetStructure image) (scopes : (table row : ℕ) → HasScopes image table row) where
  pub ref_is_node : (row : ℕ) → HasRow image 0x01 row → IsNode image (ref_node image row)
  ref_is_node row there = let a = there.0 in let b = there.1 in (omega arith, omega arith)

  pub type_is_node : (row : ℕ) → HasRow image 0x02 row → IsNode image row
  type_is_node row there = let b = there.1 in (there.0, omega arith)

  type_numbered : (row : ℕ) → HasRow image 0x02 row → 0 < depth_at named row
  type_numbered row there = elim (enclosed image row) [
    | inl top ↦
        let x = type_ids image meets.entries row there in
        let one : List TypeId = x.0 ∷ [] in
        (tell.has row (type_is_node row there)).1 (Here, one, NodeNames.type there (HasPath.top top.0 x.1), omega arith)
    | inr under ↦
        let n = (scopes 0x29 under.0).nesting refl under.1 in
        let leads : HasPath image row n.path = subst (λ (q : ℕ). HasPath image q n.path) under.2 n.leads in
        (tell.has row (type_is_node row there)).1 (Here, n.path, NodeNames.type there leads, n.short)
  ]

  ref_numbered : (row : ℕ) → HasRow image 0x01 row → 0 < depth_at named (ref_node image row)
  ref_numbered row there =
      let s = (scopes 0x01 row).reference refl there in
      (tell.has (ref_node image row) (ref_is_node row there)).1 (s.scope, s.path, NodeNames.reference there refl s.leads, s.short)

  pub numbered : AreNumbered image named
  numbered = record { types = type_numbered; references = ref_numbered }
