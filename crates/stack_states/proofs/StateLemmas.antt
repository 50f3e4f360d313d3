-- What is known where two ways meet.
use Rattle.std.proofs.Common.{◌≡◌, refl, sym, subst, ℕ, List, [], ◌∷◌}
use Rattle.sig_pool.specs.declared.node.Node.{Node}
use Rattle.type_hierarchy.specs.declared.stack_type.StackType.{StackType}
use Rattle.type_hierarchy.specs.Hierarchy.{Hierarchy}
use Rattle.type_hierarchy.specs.Relations.{Below, equal}
use Rattle.type_hierarchy.specs.Stack.{Stack}
use Rattle.stack_states.specs.Meetings.{IsMeeting, IsNewMeeting}
use Rattle.stack_states.specs.declared.state.State as code
use Rattle.stack_states.specs.declared.state.State.TheVariants as states
use Rattle.stack_rows.specs.RowMeanings.{stack_meant, IsStackWithin}
use Rattle.code_flow.specs.Stacks.{Each}
use Rattle.stack_states.specs.StateMeanings.{state_meant, IsStateWithin}
use Rattle.code_flow.specs.Typings.{State, unreached, stack, clash, AtMost, below_all, above_all, stacks}

each_equal : (w : Hierarchy) (ss : List Stack) → Each (Below w) ss ss
each_equal w [] = tt
each_equal w (s ∷ ss) = (equal, each_equal w ss)

pub at_itself : (w : Hierarchy) (x : State) → AtMost w x x
at_itself w unreached = below_all
at_itself w (stack s) = stacks (each_equal w s)
at_itself w clash = above_all

pub stacks_same : (w : Hierarchy) (s t : List Stack) → s ≡ t → IsMeeting w (stack s) (stack t) (stack s)
stacks_same w s t e = subst (λ (u : List Stack). IsMeeting w (stack s) (stack u) (stack s)) e (record { left = at_itself w (stack s); right = at_itself w (stack s); least = λ u a b. a })

pub meets_clash : (w : Hierarchy) (y : State) → IsMeeting w clash y clash
meets_clash w y = record { left = above_all; right = above_all; least = λ u a b. a }

pub meets_unreached : (w : Hierarchy) (x : State) → IsMeeting w x unreached x
meets_unreached w x = record { left = at_itself w x; right = below_all; least = λ u a b. a }

pub unreached_meets : (w : Hierarchy) (y : State) → (unreached ≡ y → ⊥) → IsNewMeeting w unreached y y
unreached_meets w y ne = record { meets = record { left = below_all; right = at_itself w y; least = λ u a b. b }; other = ne }

pub stack_meets_clash : (w : Hierarchy) (s : List Stack) → IsNewMeeting w (stack s) clash clash
stack_meets_clash w s = record { meets = record { left = above_all; right = above_all; least = λ u a b. b }; other = λ e. cc }

-- ---- the same of states of the code

module _ (w : Hierarchy) (ns : List Node) (x y : code.State) where
  pub from_clash : x ≡ states.Clash → IsMeeting w (state_meant ns x) (state_meant ns y) (state_meant ns x)
  from_clash e = let P : code.State → Type 0 = λ (z : code.State). IsMeeting w (state_meant ns z) (state_meant ns y) (state_meant ns z) in subst P (sym e) (meets_clash w (state_meant ns y))

  pub from_unreached : y ≡ states.Unreached → IsMeeting w (state_meant ns x) (state_meant ns y) (state_meant ns x)
  from_unreached e = let P : code.State → Type 0 = λ (z : code.State). IsMeeting w (state_meant ns x) (state_meant ns z) (state_meant ns x) in subst P (sym e) (meets_unreached w (state_meant ns x))

  pub reached_by_clash : x ≡ states.Unreached → y ≡ states.Clash → IsNewMeeting w (state_meant ns x) (state_meant ns y) clash
  reached_by_clash e f =
      let P : code.State → Type 0 = λ (z : code.State). IsNewMeeting w (state_meant ns z) (state_meant ns y) clash in
      let Q : code.State → Type 0 = λ (z : code.State). IsNewMeeting w unreached (state_meant ns z) clash in
      subst P (sym e) (subst Q (sym f) (unreached_meets w clash (λ h. cc)))

  pub reached_by_stack : (s t : List StackType) → x ≡ states.Unreached → y ≡ states.Stack s → t ≡ s → IsNewMeeting w (state_meant ns x) (state_meant ns y) (stack (stack_meant ns t))
  reached_by_stack s t e f g =
      let P : code.State → Type 0 = λ (z : code.State). IsNewMeeting w (state_meant ns z) (state_meant ns y) (stack (stack_meant ns t)) in
      let Q : code.State → Type 0 = λ (z : code.State). IsNewMeeting w unreached (state_meant ns z) (stack (stack_meant ns t)) in
      let R : List StackType → Type 0 = λ (u : List StackType). IsNewMeeting w unreached (stack (stack_meant ns s)) (stack (stack_meant ns u)) in
      subst P (sym e) (subst Q (sym f) (subst R (sym g) (unreached_meets w (stack (stack_meant ns s)) (λ h. cc))))

  pub clash_from_stack : (s : List StackType) → x ≡ states.Stack s → y ≡ states.Clash → IsNewMeeting w (state_meant ns x) (state_meant ns y) clash
  clash_from_stack s e f =
      let P : code.State → Type 0 = λ (z : code.State). IsNewMeeting w (state_meant ns z) (state_meant ns y) clash in
      let Q : code.State → Type 0 = λ (z : code.State). IsNewMeeting w (stack (stack_meant ns s)) (state_meant ns z) clash in
      subst P (sym e) (subst Q (sym f) (stack_meets_clash w (stack_meant ns s)))

pub copy_within : (n : ℕ) (y : code.State) (s t : List StackType) → IsStateWithin n y → y ≡ states.Stack s → t ≡ s → IsStackWithin n t
copy_within n y s t h e f =
    let P : code.State → Type 0 = λ (z : code.State). IsStateWithin n z in
    let Q : List StackType → Type 0 = λ (u : List StackType). IsStackWithin n u in
    let in_s : IsStackWithin n s = subst P e h in
    subst Q (sym f) in_s
