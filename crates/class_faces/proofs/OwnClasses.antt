-- The generic parameters of a class, one more at a time.
use Rattle.std.proofs.Common.{◌≡◌, ◌∙◌, ap, sym, ℕ, zero, suc, ◌+◌, arith, List, [], ◌∷◌, ◌++◌}
use Rattle.type_terms.specs.declared.term.SigType.{SigType}
use Rattle.type_terms.specs.declared.term.SigType.TheVariants as type
use Rattle.type_order.specs.OwnTypes.{variables}

variables_end : (k n : ℕ) → variables k (suc n) ≡ variables k n ++ type.Var (k + n) ∷ []
variables_end k zero = let e : k ≡ k + 0 = omega arith in ap (λ j. type.Var j ∷ []) e
variables_end k (suc n) =
    let e : k + 1 + n ≡ k + suc n = omega arith in
    ap (λ l. type.Var k ∷ l) (variables_end (k + 1) n ∙ ap (λ j. variables (k + 1) n ++ type.Var j ∷ []) e)

pub parameters_more : (k : ℕ) (ts later : List SigType) → ts ≡ variables 0 k → later ≡ ts ++ type.Var k ∷ [] → later ≡ variables 0 (k + 1)
parameters_more k ts later is e =
    let z : 0 + k ≡ k = omega arith in
    let one : k + 1 ≡ suc k = omega arith in
    let more : variables 0 (k + 1) ≡ variables 0 k ++ type.Var k ∷ [] =
    ap (variables 0) one ∙ variables_end 0 k ∙ ap (λ j. variables 0 k ++ type.Var j ∷ []) z in
    e ∙ ap (λ l. l ++ type.Var k ∷ []) is ∙ sym more
