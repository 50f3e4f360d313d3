-- The body with the most short branches: each choice of forms that is valid has its short branches among those of the body
-- (ECMA-335 III.3).
use Rattle.std.specs.Prelude.{◌≡◌, ℕ, List, map, slice_get, Some, IsTrue}
use Rattle.assembly_tree.specs.declared.body.Body.{Body}
use Rattle.assembly_tree.specs.declared.body.Ins.{Ins}
use Rattle.assembly_tree.specs.WellFormedBodies.{short_branches_reach}
use Rattle.il_shrink.specs.Branches.{short_form, is_short}

-- the instruction with its target in one byte, where it is a branch with two forms
abbrev pub with_short : Ins → Ins
with_short i = record i { op = short_form i.op }

-- a choice for code: the same instructions, but that each branch has either of its forms
abbrev pub IsChoice : List Ins → List Ins → Type 0
IsChoice code choice = map with_short choice ≡ map with_short code

-- a choice is valid where each short branch reaches its target, by the lengths that the choice gives
abbrev pub IsValid : List Ins → Type 0
IsValid choice = IsTrue (short_branches_reach choice)

-- instruction `k` is a short branch
abbrev pub IsShortAt : List Ins → ℕ → Type 0
IsShortAt code k = (i : Ins) × (slice_get code k ≡ Some i) × IsTrue (is_short i.op)

-- the valid choice in which whatever is short in any valid choice is short
pub record IsShrunkCode (code choice : List Ins) : Type 0 where
  pub choice_of : IsChoice code choice
  pub valid : IsValid choice
  pub greatest : (other : List Ins) → IsChoice code other → IsValid other → (k : ℕ) → IsShortAt other k → IsShortAt choice k

-- the body with that code
pub record IsShrunk (b c : Body) : Type 0 where
  pub same : c ≡ record b { code = c.code }
  pub code : IsShrunkCode b.code c.code
