-- How often what is known before the instructions of a body can still change, and what that costs.
use Rattle.std.specs.Prelude.{ℕ, zero, suc, ◌≡◌, ◌+◌, ◌*◌, ◌≤◌, List, [], ◌∷◌, length}
use Rattle.std.specs.List.{sum_by}
use Rattle.type_terms.specs.declared.term.SigType.{SigType}
use Rattle.type_hierarchy.specs.Stack.{Stack, i4, i8, native, float, null, ref, boxed, val, ptr, bad}
use Rattle.code_flow.specs.Typings.{State, unreached, stack, clash, Typing}

-- how many types can lie above one, where `height` counts those above a type, and no type has more than `top - 2` above it
unfoldable pub rank : (SigType → ℕ) → ℕ → Stack → ℕ
rank height top bad = 0
rank height top i4 = 1
rank height top i8 = 1
rank height top native = 1
rank height top float = 1
rank height top null = top
rank height top (ref t) = height t + 1
rank height top (boxed t) = height t + 1
rank height top (val t) = 1
rank height top (ptr t) = 1

unfoldable pub ranks : (SigType → ℕ) → ℕ → List Stack → ℕ
ranks height top [] = 0
ranks height top (s ∷ ss) = rank height top s + ranks height top ss

-- before an instruction, with stacks of at most `depth` values
unfoldable pub changes : (SigType → ℕ) → ℕ → ℕ → State → ℕ
changes height top depth unreached = depth * top + 2
changes height top depth (stack s) = ranks height top s + 1
changes height top depth clash = 0

-- no stack is deeper than that
abbrev pub IsLow : ℕ → State → Type 0
IsLow depth x = (s : List Stack) → x ≡ stack s → length s ≤ depth

-- ---- sums over the first numbers

unfoldable pub total : (ℕ → ℕ) → ℕ → ℕ
total f zero = 0
total f (suc n) = total f n + f n

-- of the first `n` instructions: those that are reached
abbrev pub one_if_reached : State → ℕ
one_if_reached unreached = 0
one_if_reached (stack s) = 1
one_if_reached clash = 1

abbrev pub reached : Typing → ℕ → ℕ
reached typing n = total (λ k. one_if_reached (typing k)) n

-- where it costs `cost k` to look at instruction `k` once, and no stack is deeper than `depth`: what the first `n` and those
-- that wait can still cost
abbrev pub potential_at : (SigType → ℕ) → ℕ → ℕ → (ℕ → ℕ) → Typing → List ℕ → ℕ → ℕ
potential_at height top depth cost typing waiting n = total (λ k. changes height top depth (typing k) * cost k) n + sum_by cost waiting

-- no stack of `n` instructions is deeper than one more than those
abbrev pub potential : (SigType → ℕ) → ℕ → (ℕ → ℕ) → Typing → List ℕ → ℕ → ℕ
potential height top cost typing waiting n = potential_at height top (n + 1) cost typing waiting n
