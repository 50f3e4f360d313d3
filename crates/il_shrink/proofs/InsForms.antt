-- An instruction and its length, in each of its forms.
use Rattle.std.proofs.Common.{◌≡◌, ◌∙◌, sym, ap, refl, ℕ, ◌+◌, ◌<◌, ◌≤◌, min, true, nat_lt, IsTrue, arith}
use Rattle.std.proofs.lemmas.Bool.Decides.{nat_tests}
use Rattle.branch_forms.specs.declared.form.Form.{Form}
use Rattle.branch_forms.specs.declared.form.Form.TheVariants.{Fixed, Short, Long}
use Rattle.branch_forms.specs.Forms.{width, has_bytes, shortened}
use Rattle.opcode_table.specs.declared.kind.OperandKind.{OperandKind}
use Rattle.opcode_table.specs.declared.kind.OperandKind.TheVariants as kind
use Rattle.opcode_table.specs.Opcodes.{kind_of}
use Rattle.opcode_table.specs.Sizes.{opcode_size}
use Rattle.assembly_tree.specs.declared.body.Ins.{Ins}
use Rattle.assembly_tree.specs.declared.body.Operand as operand
use Rattle.assembly_tree.specs.WellFormedBodies.{operand_kind, operand_size, size_of}
use Rattle.il_shrink.specs.Branches.{short_form, is_short, short_kind}
use Rattle.il_shrink.specs.Shrunk.{with_short}
use Rattle.il_shrink.specs.Forms.{form_in, short_size, form_of, first_form, in_form}
use Rattle.il_shrink.proofs.OperandKinds.{long_kind, is_short_kind}
use Rattle.il_shrink.proofs.Ops.{kind_short, kind_long, short_twice, short_long, short_by_kind, size_short, kind_size, size_by_kind, some_byte}

-- ---- by the kind of the operand

short_in : (k : OperandKind) (o : operand.Operand) (n : ℕ) → shortened (form_in k o n) ≡ form_in (short_kind k) o n
short_in kind.Branch8 (operand.TheVariants.Target to) n = refl
short_in kind.Branch32 (operand.TheVariants.Target to) n = refl
short_in k o n = refl

no_short : (n t : ℕ) → Fixed n ≡ Short t → ⊥
no_short n t h = cc

short_is : (t u : ℕ) → Short t ≡ Short u → t ≡ u
short_is t u h = cc

-- what is a branch when short is one when long
long_in : (k : OperandKind) (o : operand.Operand) (n m t : ℕ) → shortened (form_in k o n) ≡ Short t → form_in (long_kind k) o m ≡ Long t
long_in kind.Branch8 (operand.TheVariants.Target to) n m t h = ap Long (short_is to t h)
long_in kind.Branch32 (operand.TheVariants.Target to) n m t h = ap Long (short_is to t h)
long_in k o n m t h = absurd (no_short n t h)

-- a branch whose operand is short is short
pub short_of : (k : OperandKind) (o : operand.Operand) (n t : ℕ) → k ≡ kind.Branch8 → shortened (form_in k o n) ≡ Short t → form_in k o n ≡ Short t
short_of k o n t e h =
    let same : form_in kind.Branch8 o n ≡ Short t = ap (λ l. form_in (short_kind l) o n) (sym e) ∙ sym (short_in k o n) ∙ h in
    ap (λ l. form_in l o n) e ∙ same

fixed_is : (n m : ℕ) → Fixed m ≡ Fixed n → m ≡ n
fixed_is n m h = cc

no_fixed : (n t : ℕ) → Short t ≡ Fixed n → ⊥
no_fixed n t h = cc

no_fixed_long : (n t : ℕ) → Long t ≡ Fixed n → ⊥
no_fixed_long n t h = cc

fixed_in : (k : OperandKind) (o : operand.Operand) (n m : ℕ) → form_in k o m ≡ Fixed n → m ≡ n
fixed_in kind.Branch8 (operand.TheVariants.Target to) n m h = absurd (no_fixed n to h)
fixed_in kind.Branch32 (operand.TheVariants.Target to) n m h = absurd (no_fixed_long n to h)
fixed_in k o n m h = fixed_is n m h

no_long_short : (t u : ℕ) → Long u ≡ Short t → ⊥
no_long_short t u h = cc

no_fixed_to_long : (n t : ℕ) → Fixed n ≡ Long t → ⊥
no_fixed_to_long n t h = cc

no_short_long : (t u : ℕ) → Short u ≡ Long t → ⊥
no_short_long t u h = cc

-- the kind and the operand of what is a short branch
pub record IsBranchTo (k : OperandKind) (o : operand.Operand) (t : ℕ) : Type 0 where
  pub kind_is : k ≡ kind.Branch8
  pub operand_is : o ≡ operand.TheVariants.Target t

pub branch_in : (k : OperandKind) (o : operand.Operand) (n t : ℕ) → form_in k o n ≡ Short t → IsBranchTo k o t
branch_in kind.Branch8 (operand.TheVariants.Target to) n t h = record { kind_is = refl; operand_is = ap operand.TheVariants.Target (short_is to t h) }
branch_in kind.Branch32 (operand.TheVariants.Target to) n t h = absurd (no_long_short t to h)
branch_in k o n t h = absurd (no_short n t h)

long_branch_in : (k : OperandKind) (o : operand.Operand) (n t : ℕ) → form_in k o n ≡ Long t → k ≡ kind.Branch32
long_branch_in kind.Branch8 (operand.TheVariants.Target to) n t h = absurd (no_short_long t to h)
long_branch_in kind.Branch32 (operand.TheVariants.Target to) n t h = refl
long_branch_in k o n t h = absurd (no_fixed_to_long n t h)

short_less : (k : OperandKind) (o : operand.Operand) → operand_size (short_kind k) o ≤ operand_size k o
short_less kind.Branch32 o = omega arith
short_less k o = omega arith

-- ---- forms

twice : (i : Ins) → with_short (with_short i) ≡ with_short i
twice i = ap (λ op. record i { op = op }) (short_twice i.op)

size_twice : (i : Ins) → short_size (with_short i) ≡ short_size i
size_twice i = ap (λ j. min (size_of j) 255) (twice i)

-- the form with a short branch is that of the instruction with a short branch
pub form_short : (i : Ins) → shortened (form_of i) ≡ form_of (with_short i)
unfolding form_of operand_kind
form_short i =
    short_in (operand_kind i.op) i.operand (short_size i) ∙ ap (λ k. form_in k i.operand (short_size i)) (sym (kind_short i.op))
    ∙ ap (λ n. form_in (operand_kind (short_form i.op)) i.operand n) (sym (size_twice i))

pub in_form_of : (f : Form) (i : Ins) → shortened f ≡ shortened (form_of i) → form_of (in_form f i) ≡ f
unfolding form_of operand_kind
in_form_of (Fixed n) i h = sym (form_short i) ∙ sym h
in_form_of (Short t) i h = sym (form_short i) ∙ sym h
in_form_of (Long t) i h =
    ap (λ k. form_in k i.operand (short_size (in_form (Long t) i))) (kind_long i.op)
    ∙ long_in (operand_kind i.op) i.operand (short_size i) (short_size (in_form (Long t) i)) t (sym h)

pub short_in_form : (f : Form) (i : Ins) → with_short (in_form f i) ≡ with_short i
short_in_form (Fixed n) i = twice i
short_in_form (Short t) i = twice i
short_in_form (Long t) i = ap (λ op. record i { op = op }) (short_long i.op)

pub shortened_twice : (f : Form) → shortened (shortened f) ≡ shortened f
shortened_twice (Fixed n) = refl
shortened_twice (Short t) = refl
shortened_twice (Long t) = refl

-- ---- lengths

size_is : (i : Ins) → size_of i ≡ opcode_size i.op + operand_size (operand_kind i.op) i.operand
unfolding size_of
size_is i = refl

size_as : (i : Ins) (k : OperandKind) → operand_kind i.op ≡ k → size_of i ≡ kind_size i.op k + operand_size k i.operand
unfolding size_of operand_kind
size_as i k e =
    ap (λ s. s + operand_size (operand_kind i.op) i.operand) (size_by_kind i.op)
    ∙ ap (λ l. kind_size i.op l + operand_size l i.operand) e

short_size_is : (i : Ins) → size_of (with_short i) ≡ opcode_size i.op + operand_size (short_kind (operand_kind i.op)) i.operand
unfolding size_of operand_kind
short_size_is i =
    ap (λ s. s + operand_size (operand_kind (short_form i.op)) i.operand) (size_short i.op)
    ∙ ap (λ k. opcode_size i.op + operand_size k i.operand) (kind_short i.op)

-- making a branch short makes nothing longer
pub short_no_longer : (i : Ins) → size_of (with_short i) ≤ size_of i
short_no_longer i = omega (arith, short_size_is i, size_is i, short_less (operand_kind i.op) i.operand)

-- the short length from what stands for its parts
pub short_size_by : (i : Ins) (k : OperandKind) (s b : ℕ) → k ≡ kind_of i.op → s ≡ opcode_size i.op →
    min b 255 ≡ min (operand_size (short_kind k) i.operand) 255 → min (s + b) 255 ≡ short_size i
unfolding operand_kind
short_size_by i k s b e is h =
    let size : size_of (with_short i) ≡ opcode_size i.op + operand_size (short_kind (operand_kind i.op)) i.operand = short_size_is i in
    let kinds : operand_size (short_kind k) i.operand ≡ operand_size (short_kind (operand_kind i.op)) i.operand =
    ap (λ l. operand_size (short_kind l) i.operand) e in
    omega arith

-- the first form from what stands for its parts
pub first_form_by : (i : Ins) (k : OperandKind) (n : ℕ) → k ≡ kind_of i.op → n ≡ short_size i → shortened (form_in k i.operand n) ≡ first_form i
unfolding form_of operand_kind
first_form_by i k n e is = ap (λ l. shortened (form_in l i.operand n)) e ∙ ap (λ m. shortened (form_in (operand_kind i.op) i.operand m)) is

width_in : (k : OperandKind) (o : operand.Operand) (s n : ℕ) → 0 < s → n ≤ s + operand_size k o → width (form_in k o n) ≤ s + operand_size k o
width_in kind.Branch8 (operand.TheVariants.Target to) s n some h = omega arith
width_in kind.Branch32 (operand.TheVariants.Target to) s n some h = omega arith
width_in k o s n some h = h

-- a form is no longer than its instruction
pub width_at_most : (i : Ins) → min (width (form_of i)) 255 ≤ size_of i
unfolding form_of
width_at_most i =
    let least : size_of (with_short i) ≤ size_of i = short_no_longer i in
    let is : size_of i ≡ opcode_size i.op + operand_size (operand_kind i.op) i.operand = size_is i in
    let fits : short_size i ≤ opcode_size i.op + operand_size (operand_kind i.op) i.operand = omega arith in
    let all : width (form_in (operand_kind i.op) i.operand (short_size i)) ≤ opcode_size i.op + operand_size (operand_kind i.op) i.operand =
    width_in (operand_kind i.op) i.operand (opcode_size i.op) (short_size i) (some_byte i.op) fits in
    omega arith

form_size : (i : Ins) (f : Form) → form_of i ≡ f → with_short i ≡ i → min (size_of i) 255 ≤ width f
unfolding form_of
form_size i (Fixed n) e short =
    let n_is : short_size i ≡ n = fixed_in (operand_kind i.op) i.operand n (short_size i) e in
    let s_is : short_size i ≡ min (size_of i) 255 = ap (λ j. min (size_of j) 255) short in
    omega arith
form_size i (Short t) e short =
    let is : size_of i ≡ 2 = size_as i kind.Branch8 (branch_in (operand_kind i.op) i.operand (short_size i) t e).kind_is in omega arith
form_size i (Long t) e short =
    let is : size_of i ≡ 5 = size_as i kind.Branch32 (long_branch_in (operand_kind i.op) i.operand (short_size i) t e) in omega arith

long_size : (i : Ins) (t : ℕ) → form_of i ≡ Long t → min (size_of i) 255 ≤ 5
unfolding form_of
long_size i t e =
    let is : size_of i ≡ 5 = size_as i kind.Branch32 (long_branch_in (operand_kind i.op) i.operand (short_size i) t e) in omega arith

-- an instruction is no longer than its form
pub size_at_most : (f : Form) (i : Ins) → shortened f ≡ shortened (form_of i) → min (size_of (in_form f i)) 255 ≤ width f
size_at_most (Fixed n) i h = form_size (with_short i) (Fixed n) (in_form_of (Fixed n) i h) (twice i)
size_at_most (Short t) i h = form_size (with_short i) (Short t) (in_form_of (Short t) i h) (twice i)
size_at_most (Long t) i h = long_size (in_form (Long t) i) t (in_form_of (Long t) i h)

pos_test : (n : ℕ) → 0 < n → IsTrue (nat_lt 0 n)
pos_test n h = grind (arith, nat_tests)

has_in : (k : OperandKind) (o : operand.Operand) (n : ℕ) → 0 < n → IsTrue (has_bytes (shortened (form_in k o n)))
has_in kind.Branch8 (operand.TheVariants.Target to) n h = refl
has_in kind.Branch32 (operand.TheVariants.Target to) n h = refl
has_in k o n h = pos_test n h

pub first_has_bytes : (i : Ins) → IsTrue (has_bytes (first_form i))
unfolding form_of
first_has_bytes i =
    let is : size_of (with_short i) ≡ opcode_size i.op + operand_size (short_kind (operand_kind i.op)) i.operand = short_size_is i in
    let some : 0 < opcode_size i.op = some_byte i.op in
    has_in (operand_kind i.op) i.operand (short_size i) (omega arith)

-- ---- which opcodes are short

is_branch8 : (k : OperandKind) → is_short_kind k ≡ true → k ≡ kind.Branch8
is_branch8 kind.Branch8 h = refl
is_branch8 k h = absurd cc

pub short_kind_is : (i : Ins) → is_short i.op ≡ true → operand_kind i.op ≡ kind.Branch8
unfolding operand_kind
short_kind_is i h = is_branch8 (operand_kind i.op) (sym (short_by_kind i.op) ∙ h)

pub kind_is_short : (i : Ins) → operand_kind i.op ≡ kind.Branch8 → is_short i.op ≡ true
unfolding operand_kind
kind_is_short i e = short_by_kind i.op ∙ ap is_short_kind e
