-- A class with its own parameters.
use Rattle.std.proofs.Common.{◌≡◌, ◌∙◌, ap, sym, refl, subst, subst₂, Some, false, ℕ, zero, suc, ◌+◌, arith, List, [], ◌∷◌, ◌++◌, add-one}
use Rattle.type_terms.specs.declared.name.Scope.TheVariants.{Here}
use Rattle.type_terms.specs.declared.name.TypeId.{TypeId}
use Rattle.type_terms.specs.declared.term.SigType.{SigType}
use Rattle.type_terms.specs.declared.term.SigType.TheVariants as type
use Rattle.sig_pool.specs.declared.node.Node.{Node}
use Rattle.sig_pool.specs.Pool.{Has}
use Rattle.type_hierarchy.specs.Hierarchy.{Hierarchy}
use Rattle.type_hierarchy.specs.Normal.{normal}
use Rattle.type_order.specs.Found.{Knows, IsOwn, IsOwnOf, AreKeysOf, AreOwnKeys}
use Rattle.type_order.specs.Keys.{reading_of}
use Rattle.type_order.specs.OwnTypes.{variables, own_class}
use Rattle.type_order.specs.declared.found.Found.{Found}
use Rattle.type_order.specs.declared.found.Own.{Own}
use Rattle.type_order.specs.declared.own.OwnKeys.{OwnKeys}

variables_end : (k n : ℕ) → variables k (suc n) ≡ variables k n ++ type.Var (k + n) ∷ []
variables_end k zero = let e : k ≡ k + 0 = omega arith in ap (λ j. type.Var j ∷ []) e
variables_end k (suc n) =
    let e : k + 1 + n ≡ k + suc n = omega arith in
    ap (λ l. type.Var k ∷ l) (variables_end (k + 1) n ∙ ap (λ j. variables (k + 1) n ++ type.Var j ∷ []) e)

-- one more parameter in the loop
pub parameters_more : (k : ℕ) (ts later : List SigType) → ts ≡ variables 0 k → later ≡ ts ++ type.Var k ∷ [] → later ≡ variables 0 (k + 1)
parameters_more k ts later is e =
    let z : 0 + k ≡ k = omega arith in
    let more : variables 0 (k + 1) ≡ variables 0 k ++ type.Var k ∷ [] =
    ap (variables 0) (add-one k) ∙ variables_end 0 k ∙ ap (λ j. variables 0 k ++ type.Var j ∷ []) z in
    e ∙ ap (λ l. l ++ type.Var k ∷ []) is ∙ sym more

pub own_generic : (path : List TypeId) (n : ℕ) → (n ≡ 0 → ⊥) → own_class path n ≡ type.Inst false (record { scope = Here; path = path }) (variables 0 n)
own_generic path zero h = absurd (h refl)
own_generic path (suc n) h = refl

pub found_own : (w : Hierarchy) (ns : List Node) (f : Found) (path : List TypeId) (n : ℕ) (k : OwnKeys) (o : Own) → Knows w ns f → f.own ≡ Some o → IsOwnOf o path n → AreKeysOf o k → AreOwnKeys w ns path n k
found_own w ns f path n k o h e of keys = own_keys_are w ns path n k o (h.own o e) of keys
  where
    own_keys_are : (w : Hierarchy) (ns : List Node) (path : List TypeId) (n : ℕ) (k : OwnKeys) (o : Own) → IsOwn w ns o → IsOwnOf o path n → AreKeysOf o k → AreOwnKeys w ns path n k
    own_keys_are w ns path n k o is of keys =
        let class : (i : ℕ) → i ≡ o.class → Has ns i (normal (reading_of w) (own_class path n)) = λ i e. subst (λ (j : ℕ). Has ns j (normal (reading_of w) (own_class path n))) (sym e) (subst₂ (λ (p : List TypeId) (m : ℕ). Has ns o.class (normal (reading_of w) (own_class p m))) of.0 of.1 is.class) in
        let pointer : (i : ℕ) → i ≡ o.pointer → Has ns i (normal (reading_of w) (type.ByRef (own_class path n))) = λ i e. subst (λ (j : ℕ). Has ns j (normal (reading_of w) (type.ByRef (own_class path n)))) (sym e) (subst₂ (λ (p : List TypeId) (m : ℕ). Has ns o.pointer (normal (reading_of w) (type.ByRef (own_class p m)))) of.0 of.1 is.pointer) in
        record { class = class k.class keys.0; pointer = pointer k.pointer keys.1 }
