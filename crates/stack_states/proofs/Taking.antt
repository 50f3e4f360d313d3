-- The operands of an instruction, by their places on the stack.
use Rattle.std.proofs.Common.{◌≡◌, ◌∙◌, ap, sym, subst, ℕ, ◌-◌, ◌<◌, ◌≤◌, arith, List, length, get_or, drop, slice_get, replicate, Some}
use Rattle.std.proofs.lemmas.List.{length-append, length-map, length-replicate, length-drop, get_or-drop, get_or-replicate, get_or_append_left, get_or-append_right, get_or_past, get_or-map}
use Rattle.std.proofs.lemmas.List.Elements.{All-get_or}
use Rattle.std.proofs.lemmas.Option.{slice_get_within, get_or_from_slice_get}
use Rattle.sig_pool.specs.declared.node.Node.{Node}
use Rattle.type_hierarchy.specs.declared.stack_type.StackType.{StackType}
use Rattle.type_hierarchy.specs.Meaning.{meant, IsWithin}
use Rattle.type_hierarchy.specs.Stack.{Stack, bad}
use Rattle.code_flow.specs.Effects.{operands_of}
use Rattle.stack_rows.specs.RowMeanings.{stack_meant, IsStackWithin}

pub operands_long : (n : ℕ) (s : List Stack) → length (operands_of n s) ≡ n
operands_long n s = simp (length-append, length-replicate, length-drop) (omega arith)

-- past the operands
pub operand_past : (n : ℕ) (s : List Stack) (k : ℕ) → n ≤ k → get_or (operands_of n s) k bad ≡ bad
operand_past n s k h = get_or_past (operands_of n s) k bad (let e = operands_long n s in omega arith)

-- one that is missing
pub operand_missing : (n : ℕ) (s : List Stack) (k : ℕ) → k < n → length s < n - k → get_or (operands_of n s) k bad ≡ bad
operand_missing n s k h low =
    get_or_append_left (replicate (n - length s) bad) (drop (length s - n) s) bad k (let e = length-replicate (n - length s) bad in omega arith)
    ∙ get_or-replicate (n - length s) k bad bad (omega arith)

-- one that is on the stack
pub operand_there : (n : ℕ) (s : List Stack) (k : ℕ) → k < n → n - k ≤ length s → get_or (operands_of n s) k bad ≡ get_or s (length s - (n - k)) bad
operand_there n s k h low =
    get_or-append_right (replicate (n - length s) bad) (drop (length s - n) s) (n - length s) k bad (length-replicate (n - length s) bad) (omega arith)
    ∙ get_or-drop (length s - n) s (k - (n - length s)) bad
    ∙ ap (λ (i : ℕ). get_or s i bad) (omega arith)

-- ---- as the code has them

pub code_missing : (ns : List Node) (s : List StackType) (n k : ℕ) → k < n → length s < n - k → bad ≡ get_or (operands_of n (stack_meant ns s)) k bad
code_missing ns s n k h low = sym (operand_missing n (stack_meant ns s) k h (let e = length-map s (meant ns) in omega arith))

pub code_past : (ns : List Node) (s : List StackType) (n k : ℕ) → n ≤ k → bad ≡ get_or (operands_of n (stack_meant ns s)) k bad
code_past ns s n k h = sym (operand_past n (stack_meant ns s) k h)

pub code_there : (ns : List Node) (s : List StackType) (n k i : ℕ) (t : StackType) → k < n → n - k ≤ length s → i ≡ length s - (n - k) → slice_get s i ≡ Some t
    → meant ns t ≡ get_or (operands_of n (stack_meant ns s)) k bad
code_there ns s n k i t h low e is =
    let l = length-map s (meant ns) in
    sym (operand_there n (stack_meant ns s) k h (omega arith)
    ∙ ap (λ (j : ℕ). get_or (stack_meant ns s) j bad) (let g : length (stack_meant ns s) - (n - k) ≡ i = omega arith in g)
    ∙ get_or-map (meant ns) s i t bad (slice_get_within s i t is)
    ∙ ap (meant ns) (get_or_from_slice_get s i t t is))

pub one_within : (m : ℕ) (s : List StackType) (i : ℕ) (t : StackType) → slice_get s i ≡ Some t → IsStackWithin m s → IsWithin m t
one_within m s i t is all = subst (IsWithin m) (get_or_from_slice_get s i t t is) (All-get_or (IsWithin m) s i t (slice_get_within s i t is) all)
