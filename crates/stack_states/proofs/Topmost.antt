-- What is asked of operands, by the topmost values of a stack, as many as there are operands.
use Rattle.std.proofs.Common.{◌≡◌, ◌↔◌, ◌∙◌, inl, inr, ap, sym, subst, ℕ, ◌-◌, arith, Bool, IsTrue, List, length, get_or, drop, replicate, ◌++◌}
use Rattle.std.proofs.lemmas.List.{length-map, length-drop, drop-map}
use Rattle.std.proofs.lemmas.List.Elements.{All-drop}
use Rattle.sig_pool.specs.declared.node.Node.{Node}
use Rattle.type_hierarchy.specs.declared.stack_type.StackType.{StackType}
use Rattle.type_hierarchy.specs.Hierarchy.{Hierarchy}
use Rattle.type_hierarchy.specs.Meaning.{meant, IsWithin}
use Rattle.type_hierarchy.specs.Stack.{Stack, bad}
use Rattle.stack_states.specs.Asking.{HasWrongOperand, HasUnassignable, FailsToFit, IsMismatched}
use Rattle.stack_rows.specs.declared.row.Row as code
use Rattle.code_flow.specs.Demands.{HasWrongKind, FailsToAssign, FailToStore, AreMismatched}
use Rattle.code_flow.specs.Effects.{operands_of, taken}
use Rattle.code_flow.specs.Rows.{Row}
use Rattle.stack_rows.specs.RowMeanings.{stack_meant, IsStackWithin, demand_meant, row_meant}

operands_above : (n : ℕ) (s : List Stack) → operands_of n (drop (length s - n) s) ≡ operands_of n s
operands_above n s =
    let long = length-drop (length s - n) s in
    let missing : n - length (drop (length s - n) s) ≡ n - length s = omega (arith, long) in
    let all : length (drop (length s - n) s) - n ≡ 0 = omega (arith, long) in
    λ i. replicate (missing i) bad ++ drop (all i) (drop (length s - n) s)

pub top_operands : (ns : List Node) (n : ℕ) (s top : List StackType) → top ≡ drop (length s - n) s → operands_of n (stack_meant ns top) ≡ operands_of n (stack_meant ns s)
top_operands ns n s top e =
    ap (λ (xs : List StackType). operands_of n (stack_meant ns xs)) e
    ∙ ap (operands_of n) (sym (drop-map (meant ns) (length s - n) s))
    ∙ (let l : length s ≡ length (stack_meant ns s) = sym (length-map s (meant ns)) in λ i. operands_of n (drop (l i - n) (stack_meant ns s)))
    ∙ operands_above n (stack_meant ns s)

pub top_within : (n k : ℕ) (s top : List StackType) → top ≡ drop k s → IsStackWithin n s → IsStackWithin n top
top_within n k s top e all = subst (IsStackWithin n) (sym e) (All-drop (IsWithin n) k s all)

-- an operand among them
pub top_operand : (ns : List Node) (n k : ℕ) (s top : List StackType) (v : StackType) → top ≡ drop (length s - n) s → meant ns v ≡ get_or (operands_of n (stack_meant ns top)) k bad
    → meant ns v ≡ get_or (operands_of n (stack_meant ns s)) k bad
top_operand ns n k s top v e is = is ∙ ap (λ (xs : List Stack). get_or xs k bad) (top_operands ns n s top e)

-- a row takes the same
pub top_taken : (ns : List Node) (r : code.Row) (s top : List StackType) → top ≡ drop (length s - length r.operands) s
    → taken (row_meant ns r) (stack_meant ns top) ≡ taken (row_meant ns r) (stack_meant ns s)
top_taken ns r s top e =
    let n : length (row_meant ns r).operands ≡ length r.operands = length-map r.operands (demand_meant ns) in
    top_operands ns (length (row_meant ns r).operands) s top (e ∙ (λ i. drop (length s - sym n i) s))

-- ---- what only asks what is taken

wrong_over : (w : Hierarchy) (r : Row) (s t : List Stack) → taken r s ≡ taken r t → HasWrongOperand w r s → HasWrongOperand w r t
wrong_over w r s t e h = (
  h.0,
  record {
    demand = h.1.demand;
    asked = h.1.asked;
    wrong = subst (λ (xs : List Stack). HasWrongKind w h.1.demand (get_or xs h.0 bad)) e h.1.wrong;
  },
)

pub wrong_same : (w : Hierarchy) (r : Row) (s t : List Stack) (b : Bool) → taken r s ≡ taken r t → (IsTrue b ↔ HasWrongOperand w r s) → (IsTrue b ↔ HasWrongOperand w r t)
wrong_same w r s t b e h = (λ y. wrong_over w r s t e (h.0 y), λ x. h.1 (wrong_over w r t s (sym e) x))

unassignable_over : (w : Hierarchy) (r : Row) (s t : List Stack) → taken r s ≡ taken r t → HasUnassignable w r s → HasUnassignable w r t
unassignable_over w r s t e h = (
  h.0,
  record {
    demand = h.1.demand;
    asked = h.1.asked;
    fails = subst (λ (xs : List Stack). FailsToAssign w h.1.demand (get_or xs h.0 bad)) e h.1.fails;
  },
)

fit_over : (w : Hierarchy) (r : Row) (s t : List Stack) → taken r s ≡ taken r t → FailsToFit w r s → FailsToFit w r t
fit_over w r s t e (inl h) = inl (unassignable_over w r s t e h)
fit_over w r s t e (inr h) = inr (subst (λ (xs : List Stack). FailToStore w r.together xs) e h)

pub fit_same : (w : Hierarchy) (r : Row) (s t : List Stack) (b : Bool) → taken r s ≡ taken r t → (IsTrue b ↔ FailsToFit w r s) → (IsTrue b ↔ FailsToFit w r t)
fit_same w r s t b e h = (λ y. fit_over w r s t e (h.0 y), λ x. h.1 (fit_over w r t s (sym e) x))

pub mismatch_same : (w : Hierarchy) (r : Row) (s t : List Stack) (b : Bool) → taken r s ≡ taken r t → (IsTrue b ↔ IsMismatched w r s) → (IsTrue b ↔ IsMismatched w r t)
mismatch_same w r s t b e h = subst (λ (xs : List Stack). IsTrue b ↔ AreMismatched w r.together xs) e h
