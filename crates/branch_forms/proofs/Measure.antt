-- How many branches are short.
use Rattle.std.proofs.Common.{◌≡◌, sym, subst, ℕ, zero, suc, ◌+◌, ◌-◌, ◌*◌, ◌<◌, List, [], ◌∷◌, Some, arith}
use Rattle.std.specs.List.{sum_by}
use Rattle.std.proofs.Math.ListN.{set}
use Rattle.std.proofs.lemmas.List.Sums.{sum_by-cons}
use Rattle.branch_forms.specs.declared.form.Form.{Form}
use Rattle.branch_forms.specs.declared.form.Form.TheVariants.{Fixed, Short, Long}
use Rattle.branch_forms.specs.Forms.{IsShortTo}

abbrev pub short_one : Form → ℕ
short_one (Fixed bytes) = 0
short_one (Short to) = 1
short_one (Long to) = 0

abbrev pub shorts : List Form → ℕ
shorts s = sum_by short_one s

short_head : (x : Form) (to : ℕ) → Some x ≡ Some (Short to) → x ≡ Short to
short_head x to h = cc

first_less : (s : List Form) (to : ℕ) → shorts (Long to ∷ s) + 1 ≡ shorts (Short to ∷ s)
first_less s to = simp sum_by-cons (omega arith)

pub one_less : (s : List Form) (k to : ℕ) → IsShortTo s k to → shorts (set s k (Long to)) + 1 ≡ shorts s
one_less [] k to h = absurd cc
one_less (x ∷ s) zero to h =
    let e : x ≡ Short to = short_head x to h in subst (λ y. shorts (Long to ∷ s) + 1 ≡ shorts (y ∷ s)) (sym e) (first_less s to)
one_less (x ∷ s) (suc k) to h =
    let rest : shorts (set s k (Long to)) + 1 ≡ shorts s = one_less s k to h in simp sum_by-cons (omega arith)

pub falls : (c d n k next : ℕ) → d + 1 ≡ c → k < n → d * (n + 1) + (n - next) < c * (n + 1) + (n - k)
falls c d n k next e h = grind arith
