-- Where two ways meet (ECMA-335 III.1.8.1.3).
use Rattle.std.specs.Prelude.{◌≡◌}
use Rattle.type_hierarchy.specs.Hierarchy.{Hierarchy}
use Rattle.code_flow.specs.Typings.{State, AtMost}

-- the least state that both are at most
pub record IsMeeting (w : Hierarchy) (x y z : State) : Type 0 where
  pub left : AtMost w x z
  pub right : AtMost w y z
  pub least : (u : State) → AtMost w x u → AtMost w y u → AtMost w z u

-- the meeting of two states is another one, or the first
pub record IsNewMeeting (w : Hierarchy) (x y z : State) : Type 0 where
  pub meets : IsMeeting w x y z
  pub other : x ≡ z → ⊥
