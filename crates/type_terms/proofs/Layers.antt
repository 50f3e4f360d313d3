-- A function of a whole type that goes by a step for each layer, at each variant.
use Rattle.std.proofs.Common.{◌≡◌, ◌∙◌, ap, subst, ℕ, ℤ, Bool, List, map}
use Rattle.type_terms.specs.declared.name.TypeName.{TypeName}
use Rattle.type_terms.specs.declared.term.Primitive as prim
use Rattle.type_terms.specs.declared.term.Owner.{Owner, fold-Owner, fold_out-Owner, map-Owner, roll-Owner, ind-Owner}
use Rattle.type_terms.specs.declared.term.SigType.{SigType, fold-SigType, fold_out-SigType, map-SigType, roll-SigType, ind-SigType}
use Rattle.type_terms.specs.declared.term.Owner.TheVariants as o
use Rattle.type_terms.specs.declared.term.SigType.TheVariants as t
use Rattle.type_terms.specs.declared.term.Owner.TheOpen as layer

module _ (A B : Type 0) (f : layer.Owner-F A B → A) (g : layer.SigType-F A B → B) where
  abbrev owners : Owner → A
  owners = fold-Owner A B f g

  abbrev types : SigType → B
  types = fold-SigType A B f g

  abbrev owner_at : layer.Owner-F Owner SigType → A
  owner_at l = f (map-Owner Owner SigType A B owners types l)

  abbrev type_at : layer.SigType-F Owner SigType → B
  type_at l = g (map-SigType Owner SigType A B owners types l)

  pub fold-Name : (n : TypeName) → owners (o.Name n) ≡ f (layer.Name n)
  fold-Name n = fold_out-Owner A B f g (o.Name n) ∙ ap owner_at (o.outs-Name n)

  pub fold-Spec : (of : SigType) → owners (o.Spec of) ≡ f (layer.Spec (types of))
  fold-Spec of = fold_out-Owner A B f g (o.Spec of) ∙ ap owner_at (o.outs-Spec of)

  pub fold-Prim : (p : prim.Primitive) → types (t.Prim p) ≡ g (layer.Prim p)
  fold-Prim p = fold_out-SigType A B f g (t.Prim p) ∙ ap type_at (t.outs-Prim p)

  pub fold-Class : (n : TypeName) → types (t.Class n) ≡ g (layer.Class n)
  fold-Class n = fold_out-SigType A B f g (t.Class n) ∙ ap type_at (t.outs-Class n)

  pub fold-Value : (n : TypeName) → types (t.Value n) ≡ g (layer.Value n)
  fold-Value n = fold_out-SigType A B f g (t.Value n) ∙ ap type_at (t.outs-Value n)

  pub fold-Inst : (v : Bool) (n : TypeName) (args : List SigType) → types (t.Inst v n args) ≡ g (layer.Inst v n (map types args))
  fold-Inst v n args = fold_out-SigType A B f g (t.Inst v n args) ∙ ap type_at (t.outs-Inst v n args)

  pub fold-Var : (k : ℕ) → types (t.Var k) ≡ g (layer.Var k)
  fold-Var k = fold_out-SigType A B f g (t.Var k) ∙ ap type_at (t.outs-Var k)

  pub fold-MVar : (k : ℕ) → types (t.MVar k) ≡ g (layer.MVar k)
  fold-MVar k = fold_out-SigType A B f g (t.MVar k) ∙ ap type_at (t.outs-MVar k)

  pub fold-SzArray : (of : SigType) → types (t.SzArray of) ≡ g (layer.SzArray (types of))
  fold-SzArray of = fold_out-SigType A B f g (t.SzArray of) ∙ ap type_at (t.outs-SzArray of)

  pub fold-Array : (of : SigType) (r : ℕ) (s : List ℕ) (l : List ℤ) → types (t.Array of r s l) ≡ g (layer.Array (types of) r s l)
  fold-Array of r s l = fold_out-SigType A B f g (t.Array of r s l) ∙ ap type_at (t.outs-Array of r s l)

  pub fold-ByRef : (of : SigType) → types (t.ByRef of) ≡ g (layer.ByRef (types of))
  fold-ByRef of = fold_out-SigType A B f g (t.ByRef of) ∙ ap type_at (t.outs-ByRef of)

  pub fold-Pointer : (of : SigType) → types (t.Pointer of) ≡ g (layer.Pointer (types of))
  fold-Pointer of = fold_out-SigType A B f g (t.Pointer of) ∙ ap type_at (t.outs-Pointer of)

  pub fold-Mod : (r : Bool) (o : Owner) (of : SigType) → types (t.Mod r o of) ≡ g (layer.Mod r (owners o) (types of))
  fold-Mod r o of = fold_out-SigType A B f g (t.Mod r o of) ∙ ap type_at (t.outs-Mod r o of)

  pub fold-Pinned : (of : SigType) → types (t.Pinned of) ≡ g (layer.Pinned (types of))
  fold-Pinned of = fold_out-SigType A B f g (t.Pinned of) ∙ ap type_at (t.outs-Pinned of)

-- Induction by layers: a layer holds each child with its fact.
module _ (P : Owner → Type 0) (Q : SigType → Type 0) where
  abbrev pub OwnerWith : Type 0
  OwnerWith = (a : Owner) × P a

  abbrev pub TypeWith : Type 0
  TypeWith = (a : SigType) × Q a

  abbrev pub owner_values : layer.Owner-F OwnerWith TypeWith → layer.Owner-F Owner SigType
  owner_values = map-Owner OwnerWith TypeWith Owner SigType (λ x. x.0) (λ x. x.0)

  abbrev pub type_values : layer.SigType-F OwnerWith TypeWith → layer.SigType-F Owner SigType
  type_values = map-SigType OwnerWith TypeWith Owner SigType (λ x. x.0) (λ x. x.0)

  module _ (owner : (l : layer.Owner-F OwnerWith TypeWith) → P (roll-Owner (owner_values l))) (type : (l : layer.SigType-F OwnerWith TypeWith) → Q (roll-SigType (type_values l))) where
    pub by_layers : (t : SigType) → Q t
    by_layers = ind-SigType P Q
        (λ x y e. subst (λ l. P (roll-Owner l)) e (owner y))
        (λ x y e. subst (λ l. Q (roll-SigType l)) e (type y))

    pub owner_by_layers : (o : Owner) → P o
    owner_by_layers = ind-Owner P Q
        (λ x y e. subst (λ l. P (roll-Owner l)) e (owner y))
        (λ x y e. subst (λ l. Q (roll-SigType l)) e (type y))
