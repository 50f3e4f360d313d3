-- The type of a node as a tree, from those of its children, whose ids are lower.
use Rattle.std.proofs.Common.{◌≡◌, ◌∙◌, ap, sym, subst, ℕ, ℤ, Bool, zero, suc, ◌+◌, ◌<◌, ◌≤◌, arith, List, [], ◌∷◌, map, length, get_or}
use Rattle.type_terms.specs.declared.name.TypeName.{TypeName}
use Rattle.type_terms.specs.declared.term.Primitive as prim
use Rattle.type_terms.specs.declared.term.Owner.{Owner}
use Rattle.type_terms.specs.declared.term.Owner.TheVariants as owner
use Rattle.type_terms.specs.declared.term.SigType.{SigType}
use Rattle.type_terms.specs.declared.term.SigType.TheVariants as type
use Rattle.type_terms.specs.Depth.{largest}
use Rattle.sig_pool.specs.declared.node.Node.{Node}
use Rattle.sig_pool.specs.declared.node.Node.TheVariants as node
use Rattle.sig_pool.specs.declared.node.NodeOwner.{NodeOwner}
use Rattle.sig_pool.specs.declared.node.NodeOwner.TheVariants as by_node
use Rattle.sig_pool.specs.Replaced.{terms_at}
use Rattle.sig_pool.specs.Terms.{children, AllBelow, owner_of, built, terms, term_of}

pub bound_of : (b : ℕ) (ids : List ℕ) → AllBelow b ids → largest (map (λ k. k + 1) ids) ≤ b
bound_of b [] p = omega arith
bound_of b (k ∷ ids) p =
    let h : k < b = p 0 0 (omega arith) in
    let g : largest (map (λ j. j + 1) ids) ≤ b = bound_of b ids (λ i d q. p (suc i) d (omega arith)) in
    omega arith

pub bound_at : (ids : List ℕ) (i d : ℕ) → i < length ids → get_or ids i d < largest (map (λ k. k + 1) ids)
bound_at [] i d h = absurd (omega arith)
bound_at (k ∷ ids) zero d h = omega arith
bound_at (k ∷ ids) (suc i) d h = let g = bound_at ids i d (omega arith) in omega arith

pub within_length : (b n : ℕ) (ids : List ℕ) → AllBelow b ids → b ≤ n → AllBelow n ids
within_length b n ids p h k d q = let g = p k d q in omega arith

pub below_of : (b : ℕ) (n m : Node) → AllBelow b (children n) → n ≡ m → AllBelow b (children m)
below_of b n m p e = subst (λ (x : Node). AllBelow b (children x)) e p

pub owner_is : (ns : List Node) (o : NodeOwner) (k : ℕ) (t : SigType) → o ≡ by_node.Spec k → t ≡ term_of ns k → owner.Spec t ≡ owner_of (terms ns) o
unfolding term_of
owner_is ns o k t e f = ap owner.Spec f ∙ sym (ap (owner_of (terms ns)) e)

module _ (ns : List Node) (id : ℕ) (n : Node) (e : term_of ns id ≡ built (terms ns) n) where
  pub is_Prim : (p : prim.Primitive) → n ≡ node.Prim p → type.Prim p ≡ term_of ns id
  unfolding built
  is_Prim p s = sym (e ∙ ap (built (terms ns)) s ∙ type.rolls-Prim p)

  pub is_Class : (m name : TypeName) → n ≡ node.Class name → m ≡ name → type.Class m ≡ term_of ns id
  unfolding built
  is_Class m name s f = ap type.Class f ∙ sym (e ∙ ap (built (terms ns)) s ∙ type.rolls-Class name)

  pub is_Value : (m name : TypeName) → n ≡ node.Value name → m ≡ name → type.Value m ≡ term_of ns id
  unfolding built
  is_Value m name s f = ap type.Value f ∙ sym (e ∙ ap (built (terms ns)) s ∙ type.rolls-Value name)

  pub is_Var : (k : ℕ) → n ≡ node.Var k → type.Var k ≡ term_of ns id
  unfolding built
  is_Var k s = sym (e ∙ ap (built (terms ns)) s ∙ type.rolls-Var k)

  pub is_MVar : (k : ℕ) → n ≡ node.MVar k → type.MVar k ≡ term_of ns id
  unfolding built
  is_MVar k s = sym (e ∙ ap (built (terms ns)) s ∙ type.rolls-MVar k)

  pub is_SzArray : (k : ℕ) (t : SigType) → n ≡ node.SzArray k → t ≡ term_of ns k → type.SzArray t ≡ term_of ns id
  unfolding built term_of
  is_SzArray k t s f = ap type.SzArray f ∙ sym (e ∙ ap (built (terms ns)) s ∙ type.rolls-SzArray (term_of ns k))

  pub is_ByRef : (k : ℕ) (t : SigType) → n ≡ node.ByRef k → t ≡ term_of ns k → type.ByRef t ≡ term_of ns id
  unfolding built term_of
  is_ByRef k t s f = ap type.ByRef f ∙ sym (e ∙ ap (built (terms ns)) s ∙ type.rolls-ByRef (term_of ns k))

  pub is_Pointer : (k : ℕ) (t : SigType) → n ≡ node.Pointer k → t ≡ term_of ns k → type.Pointer t ≡ term_of ns id
  unfolding built term_of
  is_Pointer k t s f = ap type.Pointer f ∙ sym (e ∙ ap (built (terms ns)) s ∙ type.rolls-Pointer (term_of ns k))

  pub is_Pinned : (k : ℕ) (t : SigType) → n ≡ node.Pinned k → t ≡ term_of ns k → type.Pinned t ≡ term_of ns id
  unfolding built term_of
  is_Pinned k t s f = ap type.Pinned f ∙ sym (e ∙ ap (built (terms ns)) s ∙ type.rolls-Pinned (term_of ns k))

  pub is_Array : (k r : ℕ) (sizes ss : List ℕ) (lower ls : List ℤ) (t : SigType) → n ≡ node.Array k r sizes lower → t ≡ term_of ns k → ss ≡ sizes → ls ≡ lower → type.Array t r ss ls ≡ term_of ns id
  unfolding built term_of
  is_Array k r sizes ss lower ls t s f g h =
      (λ i. type.Array (f i) r (g i) (h i)) ∙ sym (e ∙ ap (built (terms ns)) s ∙ type.rolls-Array (term_of ns k) r sizes lower)

  pub is_Inst : (v : Bool) (m name : TypeName) (ids : List ℕ) (ts : List SigType) → n ≡ node.Inst v name ids → m ≡ name → ts ≡ terms_at ns ids → type.Inst v m ts ≡ term_of ns id
  unfolding built term_of
  is_Inst v m name ids ts s f g =
      (λ i. type.Inst v (f i) (g i)) ∙ sym (e ∙ ap (built (terms ns)) s ∙ type.rolls-Inst v name (terms_at ns ids))

  pub is_Mod : (r : Bool) (o : NodeOwner) (k : ℕ) (by : Owner) (t : SigType) → n ≡ node.Mod r o k → by ≡ owner_of (terms ns) o → t ≡ term_of ns k → type.Mod r by t ≡ term_of ns id
  unfolding built term_of
  is_Mod r o k by t s f g =
      (λ i. type.Mod r (f i) (g i)) ∙ sym (e ∙ ap (built (terms ns)) s ∙ type.rolls-Mod r (owner_of (terms ns) o) (term_of ns k))
