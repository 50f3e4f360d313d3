-- One edge more of an instruction.
use Rattle.std.proofs.Common.{◌≡◌, ◌≢◌, ◌⊎◌, inl, inr, refl, sym, ◌∙◌, ap, subst, ℕ, zero, suc, ◌+◌, ◌*◌, ◌<◌, ◌≤◌, arith, List, [], ◌∷◌, ◌++◌, length, map, take, drop, get_or, min, Option, None, Some}
use Rattle.std.specs.Prelude.{slice_get, slice_set}
use Rattle.std.specs.List.{All, sum_by}
use Rattle.std.proofs.lemmas.Bool.{cases_eq, cases_lt}
use Rattle.std.proofs.lemmas.Option.{slice_get-get_or, slice_get_past, slice_get_within, get_or_from_slice_get}
use Rattle.std.proofs.lemmas.List.{get_or-set_same, get_or-set_other, length-set, length-map, get_or_past, take_more, take-append-drop}
use Rattle.std.proofs.lemmas.List.Elements.{All-get_or, All-set}
use Rattle.std.proofs.lemmas.List.Sums.{sum_by-append}
use Rattle.sig_pool.specs.declared.node.Node.{Node}
use Rattle.type_hierarchy.specs.Hierarchy.{Hierarchy}
use Rattle.type_hierarchy.specs.Laws.{IsOrder}
use Rattle.type_hierarchy.specs.Meaning.{meant}
use Rattle.type_hierarchy.specs.Stack as stack
use Rattle.type_order.specs.Staying.{KeepsKeys}
use Rattle.type_hierarchy.specs.Tables.{hierarchy_in}
use Rattle.type_hierarchy.specs.World.{Content, hierarchy, Stays}
use Rattle.code_flow.specs.declared.goings.Carried.{Carried}
use Rattle.code_flow.specs.declared.goings.Carried.TheVariants.{Flowing, Nothing, Object, Caught}
use Rattle.code_flow.specs.declared.goings.Going.{Going}
use Rattle.stack_states.specs.declared.state.State.{State}
use Rattle.stack_states.specs.declared.state.State.TheVariants.{Unreached, Stack, Clash}
use Rattle.body_verifier.specs.declared.stated.Stated.{Stated}
use Rattle.code_flow.specs.Edges as edges
use Rattle.code_flow.specs.Frames.{Frame}
use Rattle.stack_states.specs.Meetings.{IsMeeting, IsNewMeeting}
use Rattle.body_verifier.specs.Potential.{IsLow, reached}
use Rattle.stack_states.specs.StateMeanings.{state_meant, state_or_none, state_depth, depth_or_none, IsStateWithin, typing_of}
use Rattle.code_flow.specs.Typings as typings
use Rattle.stack_states.specs.Waiting.{Waiting, has, pushed}
use Rattle.body_verifier.specs.Ways.{Setup, IsSetUp, IsShallow, HasNoMore, brought, AreStated, Says, AreWays, charge_of, charge, Raises, stays, rises, IsDepth, HasLessAt, depth_charge, depth_charges}
use Rattle.body_verifier.proofs.Budgets.{changed_budget, no_more_then, changed_less, less_then}
use Rattle.body_verifier.proofs.FollowLemmas.{state_kept, states_kept, typing_kept}
use Rattle.body_verifier.proofs.Following.{Follows, IsChanged, follow_stays, follow_rises, brings_low, shallow_changed, reached_changed, reached_low, at_most_one}
use Rattle.body_verifier.proofs.Totals.{still_waits, waits_now, same_count}

abbrev no_going : Going
no_going = record { to = 0; carries = Flowing }

abbrev pub going_at : List Going → ℕ → Going
going_at gs j = get_or gs j no_going

abbrev pub target_of : List Going → ℕ → ℕ
target_of gs j = (going_at gs j).to

abbrev pub comes_of : Stated → State → List Going → ℕ → State
comes_of stated after gs j = brought stated (going_at gs j).carries after

abbrev pub value_of : List Node → Stated → State → List Going → ℕ → typings.State
value_of ns stated after gs j = state_meant ns (comes_of stated after gs j)

-- what doesn't change while the edges of `k` are followed
pub record IsSetOff (at : Setup) (k : ℕ) (stated : Stated) (after : State) (gs : List Going) (a : Content) (states : List State) : Type 0 where
  pub setup : IsSetUp (hierarchy a) at
  pub stacks : AreStated a.nodes stated
  pub within : IsStateWithin (length a.nodes) after
  pub low : IsLow (reached (typing_of a.nodes states) (length at.frame.code) + 1) (state_meant a.nodes after)
  pub is : state_meant a.nodes after ≡ typings.carried at.frame k edges.flowing (typing_of a.nodes states k)
  pub known : typing_of a.nodes states k ≡ typings.unreached → ⊥
  pub below : (other : typings.Typing) → typings.IsSolution at.frame other → typings.IsAtMost at.frame (typing_of a.nodes states) other
  pub here : k < length at.frame.code
  pub ways : AreWays a.nodes stated at.frame k gs

-- how far the loop is
pub record IsFollowing (at : Setup) (k : ℕ) (stated : Stated) (after : State) (gs : List Going) (a : Content) (states0 : List State) (list0 : Waiting) (steps0 : ℕ)
    (b : Content) (states : List State) (list : Waiting) (steps j : ℕ) : Type 0 where
  pub stays : Stays a b
  pub count : list.count ≡ list0.count
  pub long : length states ≡ length at.frame.code
  pub within : All (IsStateWithin (length b.nodes)) states
  pub follows : Follows at.frame (typing_of b.nodes states) list.numbers k (typing_of a.nodes states0 k) (value_of a.nodes stated after gs) (target_of gs) j
  pub shallow : IsShallow at.frame (typing_of b.nodes states)
  pub grown : reached (typing_of a.nodes states0) (length at.frame.code) ≤ reached (typing_of b.nodes states) (length at.frame.code)
  pub no_more : HasNoMore at (typing_of a.nodes states0) list0.numbers (typing_of b.nodes states) list.numbers
  pub spent : steps ≤ steps0 + charge (length at.frame.code) (take j gs)
  pub less : (d : ℕ) → IsDepth at.frame d → HasLessAt d at (typing_of a.nodes states0) list0.numbers (typing_of b.nodes states) list.numbers
  pub few : (d : ℕ) → IsDepth at.frame d → steps ≤ steps0 + depth_charges d (take j gs)

-- ---- what comes

brought_within : (n : ℕ) (s : Stated) (c : Carried) (after : State) → IsStateWithin n s.nothing → IsStateWithin n s.object → All (IsStateWithin n) s.caught
    → IsStateWithin n after → IsStateWithin n (brought s c after)
brought_within n s Flowing after a b d e = e
brought_within n s Nothing after a b d e = a
brought_within n s Object after a b d e = b
brought_within n s (Caught k) after a b d e = elim (cases_lt k (length s.caught)) [
  | inl into ↦ All-get_or (IsStateWithin n) s.caught k s.nothing into d
  | inr past ↦ let P : State → Type 0 = λ (x : State). IsStateWithin n x in subst P (sym (get_or_past s.caught k s.nothing past)) a
]

brought_low : (ns : List Node) (s : Stated) (c : Carried) (after : State) (r : ℕ) → AreStated ns s → IsLow (r + 1) (state_meant ns after)
    → IsLow (r + 1) (state_meant ns (brought s c after))
brought_low ns s Flowing after r h low t e = low t e
brought_low ns s Nothing after r h low t e = let d = h.no_value t e in omega arith
brought_low ns s Object after r h low t e = let d = h.one_value t e in omega arith
brought_low ns s (Caught k) after r h low t e = let d = h.one_caught k t e in omega arith

states_what : (f : Frame) (k : ℕ) (xs : List stack.Stack) (x v : typings.State) (c : edges.Carries) → (x ≡ typings.unreached → ⊥) → c ≡ edges.stated xs → v ≡ typings.stack xs → v ≡ typings.carried f k c x
states_what f k xs typings.unreached v c ne e g = absurd (ne refl)
states_what f k xs (typings.stack s) v c ne e g = let P : edges.Carries → Type 0 = λ (d : edges.Carries). v ≡ typings.carried f k d (typings.stack s) in subst P (sym e) g
states_what f k xs typings.clash v c ne e g = let P : edges.Carries → Type 0 = λ (d : edges.Carries). v ≡ typings.carried f k d typings.clash in subst P (sym e) g

pub says_what : (f : Frame) (k : ℕ) (ns : List Node) (s : Stated) (carries : Carried) (after : State) (x : typings.State) (c : edges.Carries) → (x ≡ typings.unreached → ⊥)
    → state_meant ns after ≡ typings.carried f k edges.flowing x → Says ns s carries c → state_meant ns (brought s carries after) ≡ typings.carried f k c x
says_what f k ns s Flowing after x c ne is h = let P : edges.Carries → Type 0 = λ (d : edges.Carries). state_meant ns after ≡ typings.carried f k d x in subst P (sym h) is
says_what f k ns s Nothing after x c ne is h = states_what f k h.0 x (state_meant ns s.nothing) c ne h.1 h.2
says_what f k ns s Object after x c ne is h = states_what f k h.0 x (state_meant ns s.object) c ne h.1 h.2
says_what f k ns s (Caught j) after x c ne is h = states_what f k h.0 x (state_meant ns (get_or s.caught j s.nothing)) c ne h.1 h.2

depth_meant : (ns : List Node) (x : State) (r : ℕ) → IsLow r (state_meant ns x) → state_depth x ≤ r
depth_meant ns Unreached r low = omega arith
depth_meant ns Clash r low = omega arith
depth_meant ns (Stack s) r low = let d = low (map (meant ns) s) refl in omega (arith, length-map s (meant ns))

depth_there : (ns : List Node) (r : ℕ) (x : Option State) → IsLow r (state_or_none ns x) → depth_or_none x ≤ r
depth_there ns r None low = omega arith
depth_there ns r (Some x) low = depth_meant ns x r low

-- it takes no more joins than the edge's charge
charged : (ns : List Node) (s : Stated) (c : Carried) (after : State) (n d : ℕ) → AreStated ns s → d ≤ n → min d (state_depth (brought s c after)) ≤ charge_of n c
charged ns s Flowing after n d h le = omega arith
charged ns s Nothing after n d h le = let e = depth_meant ns s.nothing 0 h.no_value in omega arith
charged ns s Object after n d h le = let e = depth_meant ns s.object 1 h.one_value in omega arith
charged ns s (Caught k) after n d h le = let e = depth_meant ns (get_or s.caught k s.nothing) 1 (h.one_caught k) in omega arith

charged_less : (ns : List Node) (s : Stated) (c : Carried) (after : State) (n d : ℕ) → AreStated ns s → n ≤ d → min n (state_depth (brought s c after)) ≤ depth_charge d c
charged_less ns s Flowing after n d h le = omega arith
charged_less ns s Nothing after n d h le = let e = depth_meant ns s.nothing 0 h.no_value in omega arith
charged_less ns s Object after n d h le = let e = depth_meant ns s.object 1 h.one_value in omega arith
charged_less ns s (Caught k) after n d h le = let e = depth_meant ns (get_or s.caught k s.nothing) 1 (h.one_caught k) in omega arith

less_more : (d : ℕ) (gs : List Going) (j : ℕ) → j < length gs → depth_charges d (take (j + 1) gs) ≡ depth_charges d (take j gs) + depth_charge d (going_at gs j).carries
less_more d gs j below =
    ap (depth_charges d) (take_more gs j no_going below) ∙ sum_by-append (λ (g : Going). depth_charge d g.carries) (take j gs) (going_at gs j ∷ []) ∙ (omega arith)

charge_more : (n : ℕ) (gs : List Going) (j : ℕ) → j < length gs → charge n (take (j + 1) gs) ≡ charge n (take j gs) + charge_of n (going_at gs j).carries
charge_more n gs j below =
    ap (charge n) (take_more gs j no_going below) ∙ sum_by-append (λ (g : Going). charge_of n g.carries) (take j gs) (going_at gs j ∷ []) ∙ (omega arith)

-- ---- a state changes

elsewhere_states : (ns : List Node) (xs : List State) (t : ℕ) (z : State) (j : ℕ) → j ≢ t → (j < length xs) ⊎ (length xs ≤ j) → typing_of ns (slice_set xs t z) j ≡ typing_of ns xs j
elsewhere_states ns xs t z j ne (inl below) =
    ap (state_or_none ns)
    (slice_get-get_or (slice_set xs t z) j Unreached (omega (arith, length-set xs t z)) ∙ ap Some (get_or-set_other xs t j z Unreached ne) ∙ sym (slice_get-get_or xs j Unreached below))
elsewhere_states ns xs t z j ne (inr past) =
    ap (state_or_none ns) (slice_get_past (slice_set xs t z) j (omega (arith, length-set xs t z)) ∙ sym (slice_get_past xs j past))

changed_states : (ns : List Node) (xs : List State) (t : ℕ) (z : State) → t < length xs → IsChanged (typing_of ns xs) (typing_of ns (slice_set xs t z)) t (state_meant ns z)
changed_states ns xs t z below = record {
  at = ap (state_or_none ns) (slice_get-get_or (slice_set xs t z) t Unreached (omega (arith, length-set xs t z)) ∙ ap Some (get_or-set_same xs t z Unreached below));
  elsewhere = λ j ne. elsewhere_states ns xs t z j ne (cases_lt j (length xs));
}

-- ---- the next edge

-- what is known of it
record IsNext (at : Setup) (k : ℕ) (stated : Stated) (after : State) (gs : List Going) (a : Content) (states0 : List State) (j : ℕ) : Type 0 where
  into : target_of gs j < length at.frame.code
  brings : (other : typings.Typing) → typings.IsSolution at.frame other → typings.AtMost at.frame.types (value_of a.nodes stated after gs j) (other (target_of gs j))
  within : IsStateWithin (length a.nodes) (comes_of stated after gs j)
  low : IsLow (reached (typing_of a.nodes states0) (length at.frame.code) + 1) (value_of a.nodes stated after gs j)

next_edge : (at : Setup) (k : ℕ) (stated : Stated) (after : State) (gs : List Going) (a : Content) (states0 : List State) (j : ℕ) → j < length gs
    → IsSetOff at k stated after gs a states0 → IsNext at k stated after gs a states0 j
next_edge at k stated after gs a states0 j below s =
    let it = s.ways.each j (going_at gs j) (slice_get-get_or gs j no_going below) in
    let f = at.frame in
    let x = typing_of a.nodes states0 k in
    let O : Hierarchy → Type 0 = λ (w : Hierarchy). IsOrder w in
    let order : IsOrder f.types = subst O (sym s.setup.types) s.setup.order in
    let says = says_what f k a.nodes stated (going_at gs j).carries after x it.1.0 s.known s.is it.1.1 in
    record {
      into = it.0;
      brings = λ other solves.
          let P : typings.State → Type 0 = λ (v : typings.State). typings.AtMost f.types v (other (target_of gs j)) in
          subst P (sym says) (brings_low f order s.setup.monotone (typing_of a.nodes states0) k (target_of gs j) it.1.0 s.here it.0 it.1.2 s.below other solves);
      within = brought_within (length a.nodes) stated (going_at gs j).carries after s.stacks.nothing s.stacks.object s.stacks.caught s.within;
      low = brought_low a.nodes stated (going_at gs j).carries after (reached (typing_of a.nodes states0) (length f.code)) s.stacks s.low;
    }

-- ---- what the call for an edge asks

pub asks_within : (at : Setup) (k : ℕ) (stated : Stated) (after : State) (gs : List Going) (a b : Content) (states0 : List State) (j : ℕ) → j < length gs → KeepsKeys a b
    → IsSetOff at k stated after gs a states0 → IsStateWithin (length b.nodes) (comes_of stated after gs j)
asks_within at k stated after gs a b states0 j below keeps s = (state_kept a b (comes_of stated after gs j) keeps (next_edge at k stated after gs a states0 j below s).within).0

pub asks_target : (at : Setup) (k : ℕ) (stated : Stated) (after : State) (gs : List Going) (a : Content) (states0 : List State) (j : ℕ) → j < length gs
    → IsSetOff at k stated after gs a states0 → target_of gs j < length at.frame.code
asks_target at k stated after gs a states0 j below s = (next_edge at k stated after gs a states0 j below s).into

-- the joins of one edge
pub asks_joins : (at : Setup) (k : ℕ) (stated : Stated) (after : State) (gs : List Going) (a : Content) (states0 : List State) (list0 : Waiting) (steps0 : ℕ)
    (b : Content) (states : List State) (list : Waiting) (steps j : ℕ) → j < length gs → IsSetOff at k stated after gs a states0
    → IsFollowing at k stated after gs a states0 list0 steps0 b states list steps j
    → min (depth_or_none (slice_get states (target_of gs j))) (state_depth (comes_of stated after gs j)) ≤ charge_of (length at.frame.code) (going_at gs j).carries
asks_joins at k stated after gs a states0 list0 steps0 b states list steps j below s h =
    let next = next_edge at k stated after gs a states0 j below s in
    let n = length at.frame.code in
    let typing = typing_of b.nodes states in
    let low = reached_low typing n in
    let d = depth_there b.nodes (reached typing n) (slice_get states (target_of gs j)) (h.shallow (target_of gs j) next.into) in
    charged a.nodes stated (going_at gs j).carries after n (depth_or_none (slice_get states (target_of gs j))) s.stacks (omega arith)

-- the joins of one edge, where stacks are no deeper than that
joins_less : (at : Setup) (k : ℕ) (stated : Stated) (after : State) (gs : List Going) (a : Content) (states0 : List State) (list0 : Waiting) (steps0 : ℕ)
    (b : Content) (states : List State) (list : Waiting) (steps j d : ℕ) → j < length gs → IsSetOff at k stated after gs a states0
    → IsFollowing at k stated after gs a states0 list0 steps0 b states list steps j → IsDepth at.frame d
    → min (depth_or_none (slice_get states (target_of gs j))) (state_depth (comes_of stated after gs j)) ≤ depth_charge d (going_at gs j).carries
joins_less at k stated after gs a states0 list0 steps0 b states list steps j d below s h deep =
    let next = next_edge at k stated after gs a states0 j below s in
    let typing = typing_of b.nodes states in
    let there = depth_there b.nodes d (slice_get states (target_of gs j)) (deep typing h.follows.below (target_of gs j) next.into) in
    charged_less a.nodes stated (going_at gs j).carries after (depth_or_none (slice_get states (target_of gs j))) d s.stacks there

pub less_low : (d : ℕ) (gs : List Going) (j : ℕ) → depth_charges d (take j gs) ≤ depth_charges d gs
less_low d gs j =
    let e : depth_charges d (take j gs ++ drop j gs) ≡ depth_charges d gs = ap (depth_charges d) (take-append-drop j gs) in
    let f = sum_by-append (λ (g : Going). depth_charge d g.carries) (take j gs) (drop j gs) in
    omega arith

next_few : (d : ℕ) (gs : List Going) (j steps0 steps later n : ℕ) → j < length gs → steps ≤ steps0 + depth_charges d (take j gs) → later ≤ steps + n → n ≤ depth_charge d (going_at gs j).carries
    → later ≤ steps0 + depth_charges d (take (j + 1) gs)
next_few d gs j steps0 steps later n below h more low = let e = less_more d gs j below in omega arith

-- the call for an edge goes no further
pub asks_few : (at : Setup) (k : ℕ) (stated : Stated) (after : State) (gs : List Going) (a : Content) (states0 : List State) (list0 : Waiting) (steps0 : ℕ)
    (b : Content) (states : List State) (list : Waiting) (steps j d : ℕ) → j < length gs → IsSetOff at k stated after gs a states0
    → IsFollowing at k stated after gs a states0 list0 steps0 b states list steps j → IsDepth at.frame d
    → steps + min (depth_or_none (slice_get states (target_of gs j))) (state_depth (comes_of stated after gs j)) ≤ steps0 + depth_charges d gs
asks_few at k stated after gs a states0 list0 steps0 b states list steps j d below s h deep =
    let one = joins_less at k stated after gs a states0 list0 steps0 b states list steps j d below s h deep in
    let few = h.few d deep in
    let more = less_more d gs j below in
    let low = less_low d gs (j + 1) in
    omega arith

take_low : (n : ℕ) (gs : List Going) (j : ℕ) → charge n (take j gs) ≤ charge n gs
take_low n gs j =
    let e : charge n (take j gs ++ drop j gs) ≡ charge n gs = ap (charge n) (take-append-drop j gs) in
    let f = sum_by-append (λ (g : Going). charge_of n g.carries) (take j gs) (drop j gs) in
    omega arith

pub asks_room : (at : Setup) (k : ℕ) (stated : Stated) (after : State) (gs : List Going) (a : Content) (states0 : List State) (list0 : Waiting) (steps0 : ℕ)
    (b : Content) (states : List State) (list : Waiting) (steps j : ℕ) → j < length gs → IsSetOff at k stated after gs a states0
    → IsFollowing at k stated after gs a states0 list0 steps0 b states list steps j
    → steps + min (depth_or_none (slice_get states (target_of gs j))) (state_depth (comes_of stated after gs j)) ≤ steps0 + charge (length at.frame.code) gs
asks_room at k stated after gs a states0 list0 steps0 b states list steps j below s h =
    let n = length at.frame.code in
    let one = asks_joins at k stated after gs a states0 list0 steps0 b states list steps j below s h in
    let spent = h.spent in
    let more = charge_more n gs j below in
    let low = take_low n gs (j + 1) in
    omega arith

-- ---- the loop goes on

next_spent : (n : ℕ) (gs : List Going) (j steps0 steps later d : ℕ) → j < length gs → steps ≤ steps0 + charge n (take j gs) → later ≤ steps + d → d ≤ charge_of n (going_at gs j).carries
    → later ≤ steps0 + charge n (take (j + 1) gs)
next_spent n gs j steps0 steps later d below h more low = let e = charge_more n gs j below in omega arith

-- nothing changes at the target
follows_stays : (at : Setup) (k : ℕ) (stated : Stated) (after : State) (gs : List Going) (a : Content) (states0 : List State) (list0 : Waiting) (steps0 : ℕ)
    (b c : Content) (states : List State) (list : Waiting) (steps later j : ℕ) → j < length gs → IsSetOff at k stated after gs a states0 → KeepsKeys a b → KeepsKeys b c → Stays a c
    → IsFollowing at k stated after gs a states0 list0 steps0 b states list steps j
    → IsMeeting (hierarchy b) (typing_of b.nodes states (target_of gs j)) (state_meant b.nodes (comes_of stated after gs j)) (typing_of b.nodes states (target_of gs j))
    → later ≤ steps + min (depth_or_none (slice_get states (target_of gs j))) (state_depth (comes_of stated after gs j))
    → IsFollowing at k stated after gs a states0 list0 steps0 c states list later (j + 1)
follows_stays at k stated after gs a states0 list0 steps0 b c states list steps later j below s ab bc ac h meets more =
    let f = at.frame in
    let next = next_edge at k stated after gs a states0 j below s in
    let O : Hierarchy → Type 0 = λ (w : Hierarchy). IsOrder w in
    let order : IsOrder f.types = subst O (sym s.setup.types) s.setup.order in
    let same = typing_kept b c states bc h.within in
    let W : Hierarchy → Type 0 = λ (w : Hierarchy). typings.AtMost w (state_meant b.nodes (comes_of stated after gs j)) (typing_of b.nodes states (target_of gs j)) in
    let V : typings.State → Type 0 = λ (v : typings.State). typings.AtMost f.types v (typing_of b.nodes states (target_of gs j)) in
    let comes : typings.AtMost f.types (value_of a.nodes stated after gs j) (typing_of b.nodes states (target_of gs j)) =
    subst V (state_kept a b (comes_of stated after gs j) ab next.within).1 (subst W (ap hierarchy_in h.stays.tables ∙ sym s.setup.types) meets.right) in
    let one = asks_joins at k stated after gs a states0 list0 steps0 b states list steps j below s h in
    let F : typings.Typing → Type 0 = λ (t : typings.Typing). Follows f t list.numbers k (typing_of a.nodes states0 k) (value_of a.nodes stated after gs) (target_of gs) (j + 1) in
    let S : typings.Typing → Type 0 = λ (t : typings.Typing). IsShallow f t in
    let R : typings.Typing → Type 0 = λ (t : typings.Typing). reached (typing_of a.nodes states0) (length f.code) ≤ reached t (length f.code) in
    let N : typings.Typing → Type 0 = λ (t : typings.Typing). HasNoMore at (typing_of a.nodes states0) list0.numbers t list.numbers in
    record {
      stays = ac;
      count = h.count;
      long = h.long;
      within = states_kept b c states bc h.within;
      follows = subst F (sym same)
          (follow_stays f order s.setup.monotone (typing_of b.nodes states) list.numbers k (typing_of a.nodes states0 k) (value_of a.nodes stated after gs) (target_of gs) j h.follows comes);
      shallow = subst S (sym same) h.shallow;
      grown = subst R (sym same) h.grown;
      no_more = subst N (sym same) h.no_more;
      spent = next_spent (length f.code) gs j steps0 steps later (min (depth_or_none (slice_get states (target_of gs j))) (state_depth (comes_of stated after gs j))) below h.spent more one;
      less = λ d deep.
          let L : typings.Typing → Type 0 = λ (t : typings.Typing). HasLessAt d at (typing_of a.nodes states0) list0.numbers t list.numbers in
          subst L (sym same) (h.less d deep);
      few = λ d deep. next_few d gs j steps0 steps later (min (depth_or_none (slice_get states (target_of gs j))) (state_depth (comes_of stated after gs j))) below (h.few d deep) more
          (joins_less at k stated after gs a states0 list0 steps0 b states list steps j d below s h deep);
    }

-- the target rises
follows_rises : (at : Setup) (k : ℕ) (stated : Stated) (after : State) (gs : List Going) (a : Content) (states0 : List State) (list0 : Waiting) (steps0 : ℕ)
    (b c : Content) (states : List State) (list : Waiting) (steps later j : ℕ) (z : State) → j < length gs → IsSetOff at k stated after gs a states0 → KeepsKeys a b → KeepsKeys b c → Stays a c
    → IsFollowing at k stated after gs a states0 list0 steps0 b states list steps j → IsStateWithin (length c.nodes) z
    → IsNewMeeting (hierarchy b) (typing_of b.nodes states (target_of gs j)) (state_meant b.nodes (comes_of stated after gs j)) (state_meant c.nodes z)
    → later ≤ steps + min (depth_or_none (slice_get states (target_of gs j))) (state_depth (comes_of stated after gs j))
    → IsFollowing at k stated after gs a states0 list0 steps0 c (slice_set states (target_of gs j) z) (pushed list (target_of gs j)) later (j + 1)
follows_rises at k stated after gs a states0 list0 steps0 b c states list steps later j z below s ab bc ac h in_z meets more =
    let f = at.frame in
    let t = target_of gs j in
    let next = next_edge at k stated after gs a states0 j below s in
    let O : Hierarchy → Type 0 = λ (w : Hierarchy). IsOrder w in
    let order : IsOrder f.types = subst O (sym s.setup.types) s.setup.order in
    let old = typing_of b.nodes states in
    let new = typing_of c.nodes (slice_set states t z) in
    let zs = state_meant c.nodes z in
    let same = typing_kept b c states bc h.within in
    let C : typings.Typing → Type 0 = λ (u : typings.Typing). IsChanged u new t zs in
    let into_states : t < length states = omega (arith, next.into, h.long) in
    let changed : IsChanged old new t zs = subst C same (changed_states c.nodes states t z into_states) in
    let W : Hierarchy → Type 0 = λ (w : Hierarchy). IsNewMeeting w (old t) (state_meant b.nodes (comes_of stated after gs j)) zs in
    let V : typings.State → Type 0 = λ (v : typings.State). IsNewMeeting (hierarchy a) (old t) v zs in
    let meeting_a : IsNewMeeting (hierarchy a) (old t) (value_of a.nodes stated after gs j) zs =
    subst V (state_kept a b (comes_of stated after gs j) ab next.within).1 (subst W (ap hierarchy_in h.stays.tables) meets) in
    let T : Hierarchy → Type 0 = λ (w : Hierarchy). IsNewMeeting w (old t) (value_of a.nodes stated after gs j) zs in
    let meeting : IsNewMeeting f.types (old t) (value_of a.nodes stated after gs j) zs = subst T (sym s.setup.types) meeting_a in
    let one = asks_joins at k stated after gs a states0 list0 steps0 b states list steps j below s h in
    let shallow : IsShallow f new = shallow_changed f old new t (reached (typing_of a.nodes states0) (length f.code)) (value_of a.nodes stated after gs j) zs next.into changed meeting h.shallow next.low h.grown in
    let sum = reached_changed f.types old new (length f.code) t (value_of a.nodes stated after gs j) zs next.into changed meeting in
    let once = at_most_one (old t) in
    let grown = h.grown in
    let low = reached_low new (length f.code) in
    let Z : typings.State → Type 0 = λ (v : typings.State). IsLow (reached new (length f.code)) v in
    let low_z : IsLow (reached new (length f.code)) zs = subst Z changed.at (shallow t next.into) in
    let follows : Follows f new (pushed list t).numbers k (typing_of a.nodes states0 k) (value_of a.nodes stated after gs) (target_of gs) (j + 1) =
    follow_rises f order s.setup.monotone old new list.numbers (pushed list t).numbers k (typing_of a.nodes states0 k) (value_of a.nodes stated after gs) (target_of gs) j zs h.follows
    next.into next.brings changed meeting.meets (still_waits list t) (waits_now list t) in
    record {
      stays = ac;
      count = same_count list t ∙ h.count;
      long = length-set states t z ∙ h.long;
      within = All-set (IsStateWithin (length c.nodes)) states t z in_z (states_kept b c states bc h.within);
      follows = follows;
      shallow = shallow;
      grown = omega arith;
      no_more = no_more_then at (typing_of a.nodes states0) old new list0.numbers list.numbers (pushed list t).numbers h.no_more
          (changed_budget (hierarchy a) at old new list t (value_of a.nodes stated after gs j) zs s.setup next.into changed meeting_a (λ u e. let d = low_z u e in omega arith));
      spent = next_spent (length f.code) gs j steps0 steps later (min (depth_or_none (slice_get states t)) (state_depth (comes_of stated after gs j))) below h.spent more one;
      less = λ d deep.
          let D : typings.State → Type 0 = λ (v : typings.State). IsLow d v in
          less_then at d (typing_of a.nodes states0) old new list0.numbers list.numbers (pushed list t).numbers (h.less d deep)
          (changed_less (hierarchy a) at d old new list t (value_of a.nodes stated after gs j) zs s.setup next.into changed meeting_a (subst D changed.at (deep new follows.below t next.into)));
      few = λ d deep. next_few d gs j steps0 steps later (min (depth_or_none (slice_get states t)) (state_depth (comes_of stated after gs j))) below (h.few d deep) more
          (joins_less at k stated after gs a states0 list0 steps0 b states list steps j d below s h deep);
    }

pub follows_more : (at : Setup) (k : ℕ) (stated : Stated) (after : State) (gs : List Going) (a : Content) (states0 : List State) (list0 : Waiting) (steps0 : ℕ)
    (b c : Content) (states : List State) (list : Waiting) (steps : ℕ) (states_later : List State) (list_later : Waiting) (later j : ℕ) → j < length gs → IsSetOff at k stated after gs a states0
    → KeepsKeys a b → KeepsKeys b c → Stays a c → IsFollowing at k stated after gs a states0 list0 steps0 b states list steps j
    → Raises (hierarchy b) b.nodes states list (target_of gs j) (comes_of stated after gs j) c.nodes states_later list_later
    → later ≤ steps + min (depth_or_none (slice_get states (target_of gs j))) (state_depth (comes_of stated after gs j))
    → IsFollowing at k stated after gs a states0 list0 steps0 c states_later list_later later (j + 1)
follows_more at k stated after gs a states0 list0 steps0 b c states list steps states_later list_later later j below s ab bc ac h (stays e l meets) more =
    let P : List State → Type 0 = λ (xs : List State). IsFollowing at k stated after gs a states0 list0 steps0 c xs list later (j + 1) in
    let Q : Waiting → Type 0 = λ (ws : Waiting). IsFollowing at k stated after gs a states0 list0 steps0 c states_later ws later (j + 1) in
    subst Q (sym l) (subst P (sym e) (follows_stays at k stated after gs a states0 list0 steps0 b c states list steps later j below s ab bc ac h meets more))
follows_more at k stated after gs a states0 list0 steps0 b c states list steps states_later list_later later j below s ab bc ac h (rises z e l in_z meets) more =
    let P : List State → Type 0 = λ (xs : List State). IsFollowing at k stated after gs a states0 list0 steps0 c xs (pushed list (target_of gs j)) later (j + 1) in
    let Q : Waiting → Type 0 = λ (ws : Waiting). IsFollowing at k stated after gs a states0 list0 steps0 c states_later ws later (j + 1) in
    subst Q (sym l) (subst P (sym e) (follows_rises at k stated after gs a states0 list0 steps0 b c states list steps later j z below s ab bc ac h in_z meets more))
