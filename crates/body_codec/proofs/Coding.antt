-- One more instruction of code that is written.
use Rattle.std.proofs.Common.{◌≡◌, ◌∙◌, ℕ, ◌<◌, ◌≤◌, ◌+◌, List, length, get_or, sym, subst, arith, below_more}
use Rattle.std.proofs.lemmas.List.{get_or_default}
use Rattle.assembly_tree.specs.declared.body.Ins.{Ins}
use Rattle.assembly_tree.specs.declared.body.Operand as operand
use Rattle.body_codec.specs.Written.{AreWithin}

-- what holds of each instruction before one, and of it
pub each_more : (Q : ℕ → Ins → Type 0) (code : List Ins) (k : ℕ) (ins : Ins) → k < length code → ins ≡ get_or code k ins
    → ((j : ℕ) (i : Ins) → j < k → Q j (get_or code j i)) → Q k ins → (j : ℕ) (i : Ins) → j < k + 1 → Q j (get_or code j i)
each_more Q code k ins h is all here j i l =
    let P : Ins → Type 0 = Q k in
    below_more (λ n. (x : Ins) → Q n (get_or code n x)) k (λ n m x. all n x m) (λ x. subst P (is ∙ get_or_default code k ins x h) here) j l i

-- targets below a number are below a greater one
pub wider : (n m : ℕ) (value : operand.Operand) → n ≤ m → AreWithin n value → AreWithin m value
wider n m (operand.TheVariants.Target t) h w = omega arith
wider n m (operand.TheVariants.Targets ts) h w = λ i d l. omega (arith, w i d l)
wider n m value h w = tt

pub within_at : (code : List Ins) (m k : ℕ) (ins : Ins) → length code ≤ m → ins ≡ get_or code k ins → AreWithin (length code) (get_or code k ins).operand → AreWithin m ins.operand
within_at code m k ins h is w =
    let P : Ins → Type 0 = λ i. AreWithin (length code) i.operand in wider (length code) m ins.operand h (subst P (sym is) w)
