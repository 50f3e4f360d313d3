-- Types have one number where they have one path.
use Rattle.std.proofs.Common.{◌≡◌, ℕ, ◌≤◌, ◌<◌, inl, inr, cond, List, [], ◌∷◌, Option, Some, None, length, refl, sym, subst, ◌∙◌, arith}
use Rattle.std.specs.Prelude.{◌↔◌, nat_eq}
use Rattle.std.proofs.lemmas.Bool.{cond-false, ne_eqb}
use Rattle.type_terms.specs.declared.name.Scope.TheVariants.{Here}
use Rattle.type_terms.specs.declared.name.TypeId.{TypeId}
use Rattle.image_model.specs.Columns.{nested_class}
use Rattle.image_model.specs.Members.{HaveOnePath}
use Rattle.image_model.specs.Naming.{HasPath}
use Rattle.image_model.specs.Rows.{HasRow}
use Rattle.image_model.specs.Structure.{HasScopes}
use Rattle.name_numbers.specs.Names.{named_at, number_at, depth_at}
use Rattle.name_numbers.specs.declared.numbering.Named.{Named}
use Rattle.row_demands.specs.Structured.{MeetStructure}
use Rattle.row_groups.proofs.Enclosing.{enclosed}
use Rattle.type_names.specs.Numbers.{NodeNames, IsNode, TellNames, number_in, number_of}
use Rattle.type_names.proofs.Facts.{type_ids}
use Rattle.type_names.proofs.Telling.{type_names}

module _ (image : List ℕ) (named : List Named) (tell : TellNames image named) (meets : MeetStructure image) (scopes : (table row : ℕ) → HasScopes image table row) where
  type_is_node : (row : ℕ) → HasRow image 0x02 row → IsNode image row
  type_is_node row there = let b = there.1 in (there.0, omega arith)

  pub type_numbered : (row : ℕ) → HasRow image 0x02 row → 0 < depth_at named row
  type_numbered row there = elim (enclosed image row) [
    | inl top ↦
        let x = type_ids image meets.entries row there in
        let one : List TypeId = x.0 ∷ [] in
        (tell.has row (type_is_node row there)).1 (Here, one, NodeNames.type there (HasPath.top top.0 x.1), omega arith)
    | inr under ↦
        let n = (scopes 0x29 under.0).nesting refl under.1 in
        let leads : HasPath image row n.path = subst (λ (q : ℕ). HasPath image q n.path) under.2 n.leads in
        (tell.has row (type_is_node row there)).1 (Here, n.path, NodeNames.type there leads, n.short)
  ]

  pub number_there : (row : ℕ) → HasRow image 0x02 row → number_of named row ≡ Some (number_at named row)
  number_there row there =
      let some = type_numbered row there in
      cond-false (nat_eq (depth_at named row) 0) None (Some (number_at named row)) (ne_eqb (depth_at named row) 0 (λ e. absurd (omega arith)))

  pub one_path : (a b : ℕ) → HasRow image 0x02 a → HasRow image 0x02 b → (number_at named a ≡ number_at named b) ↔ HaveOnePath image a b
  one_path a b p q =
      let s = tell.same a b (type_is_node a p) (type_is_node b q) (type_numbered a p) (type_numbered b q) in (
        λ e. let one = s.0 e in (one.1, (type_names one.2 p.1).1, (type_names one.3 q.1).1),
        λ h. s.1 (Here, h.0, NodeNames.type p h.1, NodeNames.type q h.2),
      )
