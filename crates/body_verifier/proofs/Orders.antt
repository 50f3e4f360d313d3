-- Typings are ordered, so two least ones are the same.
use Rattle.std.proofs.Common.{◌≡◌, List, [], ◌∷◌, refl, ap}
use Rattle.type_hierarchy.specs.Hierarchy.{Hierarchy}
use Rattle.type_hierarchy.specs.Stack.{Stack}
use Rattle.type_hierarchy.specs.Relations.{Below}
use Rattle.type_hierarchy.specs.Laws.{IsOrder}
use Rattle.code_flow.specs.Stacks.{Each}
use Rattle.code_flow.specs.Frames.{Frame}
use Rattle.code_flow.specs.Typings.{State, unreached, stack, clash, AtMost, stacks}
use Rattle.code_flow.specs.Laws.{HasOneLeast}

module _ (w : Hierarchy) (o : IsOrder w) where
  each_once : (ss ts : List Stack) → Each (Below w) ss ts → Each (Below w) ts ss → ss ≡ ts
  each_once [] [] a b = refl
  each_once [] (t ∷ ts) a b = absurd a
  each_once (s ∷ ss) [] a b = absurd a
  each_once (s ∷ ss) (t ∷ ts) a b =
      let first : s ≡ t = o.antisymmetric s t a.0 b.0 in
      let more : ss ≡ ts = each_once ss ts a.1 b.1 in
      cc

  once : (x y : State) → AtMost w x y → AtMost w y x → x ≡ y
  once unreached unreached a b = refl
  once unreached (stack t) a b = elim b [ ]
  once unreached clash a b = elim b [ ]
  once (stack s) unreached a b = elim a [ ]
  once (stack s) (stack t) (stacks a) (stacks b) = ap stack (each_once s t a b)
  once (stack s) clash a b = elim b [ ]
  once clash unreached a b = elim a [ ]
  once clash (stack t) a b = elim a [ ]
  once clash clash a b = refl

pub one_least : (f : Frame) → IsOrder f.types → HasOneLeast f
one_least f o x y a b k below = once f.types o (x k) (y k) (a.least y b.solves k below) (b.least x a.solves k below)
