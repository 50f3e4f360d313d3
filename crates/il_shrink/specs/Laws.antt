-- What holds of shrunk code.
use Rattle.std.specs.Prelude.{◌≡◌, ◌↔◌, ◌⊎◌, ℕ, List}
use Rattle.assembly_tree.specs.declared.body.Body.{Body}
use Rattle.assembly_tree.specs.declared.body.Ins.{Ins}
use Rattle.il_shrink.specs.Shrunk.{IsChoice, IsValid, IsShortAt, IsShrunk}

-- the valid choice in which what is short in either of two is short
pub record IsJoin (code d e f : List Ins) : Type 0 where
  pub choice_of : IsChoice code f
  pub valid : IsValid f
  pub short : (k : ℕ) → IsShortAt f k ↔ (IsShortAt d k ⊎ IsShortAt e k)

abbrev pub ValidChoicesJoin : Type 0
ValidChoicesJoin = (code d e : List Ins) → IsChoice code d → IsValid d → IsChoice code e → IsValid e → (f : List Ins) × IsJoin code d e f

abbrev pub OneIsShrunk : Type 0
OneIsShrunk = (b c d : Body) → IsShrunk b c → IsShrunk b d → c ≡ d

abbrev pub ShortOnesStay : Type 0
ShortOnesStay = (b c : Body) → IsShrunk b c → IsValid b.code → (k : ℕ) → IsShortAt b.code k → IsShortAt c.code k
