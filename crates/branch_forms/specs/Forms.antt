-- The lengths of a body's instructions under a choice of short branches (ECMA-335 III.3), and the greatest choice that is
-- valid.
use Rattle.std.specs.Prelude.{◌≡◌, ℕ, ◌+◌, ◌&&◌, Bool, false, nat_le, nat_lt, List, map, take, sum_by, slice_get, Some, IsTrue}
use Rattle.branch_forms.specs.declared.form.Form.{Form}
use Rattle.branch_forms.specs.declared.form.Form.TheVariants.{Fixed, Short, Long}

-- the bytes of an instruction: a branch has its opcode and the displacement
abbrev pub width : Form → ℕ
width (Fixed bytes) = bytes
width (Short to) = 2
width (Long to) = 5

abbrev pub has_bytes : Form → Bool
has_bytes f = nat_lt 0 (width f)

-- the instruction with its branch made short
abbrev pub shortened : Form → Form
shortened (Fixed bytes) = Fixed bytes
shortened (Short to) = Short to
shortened (Long to) = Short to

-- the code offset of instruction `k`, or with the number of instructions that of the end
abbrev pub offset : List Form → ℕ → ℕ
offset forms k = sum_by width (take k forms)

-- a displacement in one signed byte leads from the offset `from` to `to`
abbrev pub is_near : ℕ → ℕ → Bool
is_near from to = nat_le from (to + 0x80) && nat_le to (from + 0x7F)

-- the branch at `k` is short, and its target is `to`
abbrev pub IsShortTo : List Form → ℕ → ℕ → Type 0
IsShortTo forms k to = slice_get forms k ≡ Some (Short to)

abbrev pub IsShort : List Form → ℕ → Type 0
IsShort forms k = (to : ℕ) × IsShortTo forms k to

-- from the end of instruction `k`, one byte leads to `to`
abbrev pub is_near_at : List Form → ℕ → ℕ → Bool
is_near_at forms k to = is_near (offset forms (k + 1)) (offset forms to)

-- what stands at `k` is no short branch, or one that reaches its target
abbrev pub Reaches : List Form → ℕ → Type 0
Reaches forms k = (to : ℕ) → IsShortTo forms k to → IsTrue (is_near_at forms k to)

-- what stands at `k` is a short branch to `to` that doesn't reach it
pub record IsFar (forms : List Form) (k to : ℕ) : Type 0 where
  pub short : IsShortTo forms k to
  pub far : is_near_at forms k to ≡ false

-- each short branch reaches its target
abbrev pub IsValid : List Form → Type 0
IsValid forms = (k : ℕ) → Reaches forms k

-- the same instructions, where each branch may have either form
abbrev pub IsChoice : List Form → List Form → Type 0
IsChoice forms other = map shortened other ≡ map shortened forms

-- whatever is short in any valid choice is short in this one
abbrev pub IsGreatest : List Form → List Form → Type 0
IsGreatest forms choice = (other : List Form) → IsChoice forms other → IsValid other → (k : ℕ) → IsShort other k → IsShort choice k

-- the valid choice in which the most branches are short
pub record IsShortest (forms choice : List Form) : Type 0 where
  pub same : IsChoice forms choice
  pub valid : IsValid choice
  pub greatest : IsGreatest forms choice
