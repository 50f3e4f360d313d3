-- The loop over one instruction's edges.
use Rattle.std.proofs.Common.{◌≡◌, ◌≢◌, ◌⊎◌, inl, inr, refl, sym, ◌∙◌, ap, subst, ℕ, zero, suc, ◌+◌, ◌*◌, ◌<◌, ◌≤◌, arith, List, [], ◌∷◌, length, take, get_or, min, Option, None, Some}
use Rattle.std.specs.Prelude.{slice_get, slice_set}
use Rattle.std.specs.List.{All}
use Rattle.std.proofs.lemmas.Bool.{cases_eq, cases_lt}
use Rattle.std.proofs.lemmas.Option.{slice_get-get_or, slice_get_past, slice_get_within, get_or_from_slice_get}
use Rattle.std.proofs.lemmas.List.{get_or-set_same, get_or-set_other, length-set}
use Rattle.std.proofs.lemmas.List.Elements.{All-get_or, All-weaker, All-set}
use Rattle.sig_pool.specs.declared.node.Node.{Node}
use Rattle.type_order.specs.Staying.{KeepsKeys}
use Rattle.type_hierarchy.specs.World.{Content, hierarchy, Stays}
use Rattle.code_flow.specs.declared.goings.Carried.{Carried}
use Rattle.code_flow.specs.declared.goings.Carried.TheVariants.{Flowing, Nothing, Object, Caught}
use Rattle.code_flow.specs.declared.goings.Going.{Going}
use Rattle.stack_states.specs.declared.state.State.{State}
use Rattle.stack_states.specs.declared.state.State.TheVariants.{Unreached, Stack, Clash}
use Rattle.body_verifier.specs.declared.stated.Stated.{Stated}
use Rattle.stack_rows.specs.RowMeanings.{stack_meant}
use Rattle.stack_states.specs.StateMeanings.{state_meant, state_or_none, state_depth, depth_or_none, IsStateWithin, typing_of}
use Rattle.code_flow.specs.Typings as typings
use Rattle.stack_states.proofs.StackLemmas.{stack_kept}

-- ---- what states mean as the pool grows

pub state_kept : (a b : Content) (x : State) → KeepsKeys a b → IsStateWithin (length a.nodes) x → IsStateWithin (length b.nodes) x × (state_meant b.nodes x ≡ state_meant a.nodes x)
state_kept a b Unreached keeps h = (tt, refl)
state_kept a b Clash keeps h = (tt, refl)
state_kept a b (Stack s) keeps h = let k = stack_kept a b s keeps h in (k.0, ap typings.stack k.1)

pub states_kept : (a b : Content) (xs : List State) → KeepsKeys a b → All (IsStateWithin (length a.nodes)) xs → All (IsStateWithin (length b.nodes)) xs
states_kept a b xs keeps h = All-weaker (IsStateWithin (length a.nodes)) (IsStateWithin (length b.nodes)) (λ x in_a. (state_kept a b x keeps in_a).0) xs h

or_none_kept : (a b : Content) (xs : List State) (k : ℕ) → KeepsKeys a b → All (IsStateWithin (length a.nodes)) xs → (k < length xs) ⊎ (length xs ≤ k) → typing_of b.nodes xs k ≡ typing_of a.nodes xs k
or_none_kept a b xs k keeps h (inl below) =
    let at = slice_get-get_or xs k Unreached below in
    ap (state_or_none b.nodes) at ∙ (state_kept a b (get_or xs k Unreached) keeps (All-get_or (IsStateWithin (length a.nodes)) xs k Unreached below h)).1 ∙ sym (ap (state_or_none a.nodes) at)
or_none_kept a b xs k keeps h (inr past) =
    let at = slice_get_past xs k past in
    ap (state_or_none b.nodes) at ∙ sym (ap (state_or_none a.nodes) at)

same_functions : (f g : typings.Typing) → ((k : ℕ) → f k ≡ g k) → f ≡ g
same_functions f g h = λ i. λ k. h k i

pub typing_kept : (a b : Content) (xs : List State) → KeepsKeys a b → All (IsStateWithin (length a.nodes)) xs → typing_of b.nodes xs ≡ typing_of a.nodes xs
typing_kept a b xs keeps h = same_functions (typing_of b.nodes xs) (typing_of a.nodes xs) (λ k. or_none_kept a b xs k keeps h (cases_lt k (length xs)))
