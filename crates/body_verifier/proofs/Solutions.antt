-- Towards the least typing: each typing on the way is at most every solution, and what doesn't wait is settled.
use Rattle.std.proofs.Common.{◌≡◌, ◌≢◌, ◌⊎◌, inl, inr, ℕ, ◌<◌, List, [], ◌∷◌, length, refl, sym, ◌∙◌, ap, subst, Option, None, Some}
use Rattle.std.specs.Prelude.{slice_get}
use Rattle.std.specs.List.{Contains}
use Rattle.std.proofs.lemmas.Bool.{cases_eq}
use Rattle.assembly_tree.specs.declared.body.Ins.{Ins}
use Rattle.type_hierarchy.specs.Hierarchy.{Hierarchy}
use Rattle.type_hierarchy.specs.Stack.{Stack}
use Rattle.type_hierarchy.specs.Relations.{Below}
use Rattle.type_hierarchy.specs.Laws.{IsOrder}
use Rattle.code_flow.specs.Frames.{Frame}
use Rattle.code_flow.specs.Stacks.{Each}
use Rattle.code_flow.specs.Edges.{Carries, flowing, stated, Edge}
use Rattle.code_flow.specs.Typings.{State, unreached, stack, clash, Typing, AtMost, below_all, above_all, stacks, stack_after, carried, IsSolution, IsAtMost, IsLeast}
use Rattle.code_flow.specs.Laws.{IsMonotone, AreMonotone}
use Rattle.stack_states.specs.Meetings.{IsMeeting}

-- ---- the order of states

module _ (w : Hierarchy) (o : IsOrder w) where
  each_itself : (ss : List Stack) → Each (Below w) ss ss
  each_itself [] = tt
  each_itself (s ∷ ss) = (o.reflexive s, each_itself ss)

  each_trans : (ss ts us : List Stack) → Each (Below w) ss ts → Each (Below w) ts us → Each (Below w) ss us
  each_trans [] [] [] a b = tt
  each_trans [] [] (u ∷ us) a b = absurd b
  each_trans [] (t ∷ ts) us a b = absurd a
  each_trans (s ∷ ss) [] us a b = absurd a
  each_trans (s ∷ ss) (t ∷ ts) [] a b = absurd b
  each_trans (s ∷ ss) (t ∷ ts) (u ∷ us) a b = (o.transitive s t u a.0 b.0, each_trans ss ts us a.1 b.1)

  pub state_itself : (x : State) → AtMost w x x
  state_itself unreached = below_all
  state_itself (stack s) = stacks (each_itself s)
  state_itself clash = above_all

  from_stack : (s t : List Stack) (z : State) → Each (Below w) s t → AtMost w (stack t) z → AtMost w (stack s) z
  from_stack s t unreached a b = elim b [ ]
  from_stack s t (stack u) a (stacks b) = stacks (each_trans s t u a b)
  from_stack s t clash a b = above_all

  above_clash : (x z : State) → AtMost w clash z → AtMost w x z
  above_clash x unreached b = elim b [ ]
  above_clash x (stack u) b = elim b [ ]
  above_clash x clash b = above_all

  pub state_trans : {x y z : State} → AtMost w x y → AtMost w y z → AtMost w x z
  state_trans below_all b = below_all
  state_trans {x = x} {z = z} above_all b = above_clash x z b
  state_trans {z = z} (stacks {s = s} {t = t} a) b = from_stack s t z a b

-- ---- what comes along an edge is monotone

module _ (f : Frame) (o : IsOrder f.types) (mono : AreMonotone f) where
  after_lower : (k : ℕ) (i : Option Ins) (s t : List Stack) → Each (Below f.types) s t → Each (Below f.types) (stack_after f k i s) (stack_after f k i t)
  after_lower k None s t h = h
  after_lower k (Some i) s t h = (mono.order k i).effects s t h

  carried_stack : (k : ℕ) (c : Carries) (s t : List Stack) → Each (Below f.types) s t → AtMost f.types (carried f k c (stack s)) (carried f k c (stack t))
  carried_stack k flowing s t h = stacks (after_lower k (slice_get f.code k) s t h)
  carried_stack k (stated x) s t h = state_itself f.types o (stack x)

  carried_clash : (k : ℕ) (c : Carries) (x : State) → AtMost f.types (carried f k c x) (carried f k c clash)
  carried_clash k flowing x = above_all
  carried_clash k (stated s) unreached = below_all
  carried_clash k (stated s) (stack t) = state_itself f.types o (stack s)
  carried_clash k (stated s) clash = state_itself f.types o (stack s)

  pub carried_lower : (k : ℕ) (c : Carries) {x y : State} → AtMost f.types x y → AtMost f.types (carried f k c x) (carried f k c y)
  carried_lower k c below_all = below_all
  carried_lower k c {x = x} above_all = carried_clash k c x
  carried_lower k c (stacks {s = s} {t = t} h) = carried_stack k c s t h
