-- One instruction's edges, one after the other.
use Rattle.std.proofs.Common.{◌≡◌, ◌≢◌, ◌⊎◌, inl, inr, refl, sym, ◌∙◌, ap, subst, ℕ, zero, suc, ◌+◌, ◌*◌, ◌<◌, ◌≤◌, arith, Bool, true, false, List, [], ◌∷◌, length, Option, None, Some}
use Rattle.std.specs.Prelude.{slice_get, nat_eq, ◌||◌}
use Rattle.std.proofs.lemmas.Bool.{cases_eq, eqb-true, or_cases}
use Rattle.assembly_tree.specs.declared.body.Ins.{Ins}
use Rattle.type_hierarchy.specs.Hierarchy.{Hierarchy}
use Rattle.type_hierarchy.specs.Stack.{Stack}
use Rattle.type_hierarchy.specs.Relations.{Below}
use Rattle.type_hierarchy.specs.Laws.{IsOrder}
use Rattle.code_flow.specs.Edges.{Carries, flowing, stated, Edge}
use Rattle.code_flow.specs.Frames.{Frame}
use Rattle.code_flow.specs.Laws.{IsMonotone, AreMonotone}
use Rattle.stack_states.specs.Meetings.{IsMeeting, IsNewMeeting}
use Rattle.body_verifier.specs.Potential.{IsLow, reached, one_if_reached, total, potential, changes}
use Rattle.code_flow.specs.Stacks.{Each}
use Rattle.code_flow.specs.Typings.{State, unreached, stack, clash, Typing, AtMost, below_all, above_all, stacks, stack_after, carried, IsSolution, IsAtMost, IsLeast}
use Rattle.stack_states.specs.Waiting.{has}
use Rattle.body_verifier.specs.Ways.{IsSettled, IsOnTheWay, IsShallow}
use Rattle.body_verifier.proofs.Solutions.{state_itself, state_trans, carried_lower}
use Rattle.stack_states.proofs.StackLemmas.{each_depth, at_or_before}
use Rattle.body_verifier.proofs.Totals.{total_at_most, total_but}

pub has_cases : (ks : List ℕ) (k i : ℕ) → has (k ∷ ks) i ≡ true → (i ≡ k) ⊎ (has ks i ≡ true)
has_cases ks k i h = elim (or_cases (nat_eq i k) (has ks i) h) [ inl e ↦ inl (eqb-true i k e) | inr more ↦ inr more ]

-- Of the edges of instruction `k`, where `x` was known, the first `j` are followed: along edge `i` to `to i` came `comes i`.
pub record Follows (f : Frame) (typing : Typing) (waiting : List ℕ) (k : ℕ) (x : State) (comes : ℕ → State) (to : ℕ → ℕ) (j : ℕ) : Type 0 where
  pub start : AtMost f.types (stack []) (typing 0)
  pub below : (other : Typing) → IsSolution f other → IsAtMost f typing other
  pub others : (i : ℕ) → i < length f.code → i ≢ k → (has waiting i ≡ true → ⊥) → IsSettled f typing i
  pub same : (has waiting k ≡ true → ⊥) → typing k ≡ x
  pub along : (i : ℕ) → i < j → AtMost f.types (comes i) (typing (to i))

-- `later` has `z` at `t`, and is the same elsewhere
pub record IsChanged (typing later : Typing) (t : ℕ) (z : State) : Type 0 where
  pub at : later t ≡ z
  pub elsewhere : (j : ℕ) → j ≢ t → later j ≡ typing j

module _ (f : Frame) (o : IsOrder f.types) (mono : AreMonotone f) where
  pub follow_none : (typing : Typing) (waiting : List ℕ) (k : ℕ) (comes : ℕ → State) (to : ℕ → ℕ) → IsOnTheWay f typing (k ∷ waiting) → Follows f typing waiting k (typing k) comes to 0
  follow_none typing waiting k comes to h = record {
    start = h.start;
    below = h.below;
    others = λ i below ne quiet. h.settled i below (λ waits. elim (has_cases waiting k i waits) [ inl is ↦ ne is | inr more ↦ quiet more ]);
    same = λ quiet. refl;
    along = λ i below. absurd (omega arith);
  }

  pub follow_stays : (typing : Typing) (waiting : List ℕ) (k : ℕ) (x : State) (comes : ℕ → State) (to : ℕ → ℕ) (j : ℕ) → Follows f typing waiting k x comes to j
      → AtMost f.types (comes j) (typing (to j)) → Follows f typing waiting k x comes to (j + 1)
  follow_stays typing waiting k x comes to j h new = record {
    start = h.start;
    below = h.below;
    others = h.others;
    same = h.same;
    along = λ i below. elim (at_or_before i j below) [
      | inl before ↦ h.along i before
      | inr is ↦ let P : ℕ → Type 0 = λ (n : ℕ). AtMost f.types (comes n) (typing (to n)) in subst P (sym is) new
    ];
  }

  changed_above : (typing later : Typing) (t : ℕ) (z : State) → IsChanged typing later t z → AtMost f.types (typing t) z → (i : ℕ) → AtMost f.types (typing i) (later i)
  changed_above typing later t z c up i = elim (cases_eq i t) [
    | inl is ↦
        let P : ℕ → Type 0 = λ (n : ℕ). AtMost f.types (typing n) (later n) in
        let Q : State → Type 0 = λ (y : State). AtMost f.types (typing t) y in
        subst P (sym is) (subst Q (sym c.at) up)
    | inr ne ↦ let P : State → Type 0 = λ (y : State). AtMost f.types (typing i) y in subst P (sym (c.elsewhere i ne)) (state_itself f.types o (typing i))
  ]

  still_settled : (typing later : Typing) → ((i : ℕ) → AtMost f.types (typing i) (later i)) → (k : ℕ) → later k ≡ typing k → IsSettled f typing k → IsSettled f later k
  still_settled typing later up k same h t c into e =
      let P : State → Type 0 = λ (y : State). AtMost f.types (carried f k c y) (later t) in
      subst P (sym same) (state_trans f.types o (h t c into e) (up t))

  changed_below : (typing later : Typing) (t : ℕ) (z y : State) → IsChanged typing later t z → IsMeeting f.types (typing t) y z → t < length f.code
      → ((other : Typing) → IsSolution f other → AtMost f.types y (other t)) → ((other : Typing) → IsSolution f other → IsAtMost f typing other)
      → (other : Typing) → IsSolution f other → IsAtMost f later other
  changed_below typing later t z y c meets into comes low other solves i less = elim (cases_eq i t) [
    | inl is ↦
        let P : ℕ → Type 0 = λ (n : ℕ). AtMost f.types (later n) (other n) in
        let Q : State → Type 0 = λ (v : State). AtMost f.types v (other t) in
        subst P (sym is) (subst Q (sym c.at) (meets.least (other t) (low other solves t into) (comes other solves)))
    | inr ne ↦ let Q : State → Type 0 = λ (v : State). AtMost f.types v (other i) in subst Q (sym (c.elsewhere i ne)) (low other solves i less)
  ]

  pub follow_rises : (typing later : Typing) (waiting waits_later : List ℕ) (k : ℕ) (x : State) (comes : ℕ → State) (to : ℕ → ℕ) (j : ℕ) (z : State)
      → Follows f typing waiting k x comes to j → to j < length f.code → ((other : Typing) → IsSolution f other → AtMost f.types (comes j) (other (to j)))
      → IsChanged typing later (to j) z → IsMeeting f.types (typing (to j)) (comes j) z
      → ((i : ℕ) → has waiting i ≡ true → has waits_later i ≡ true) → has waits_later (to j) ≡ true → Follows f later waits_later k x comes to (j + 1)
  follow_rises typing later waiting waits_later k x comes to j z h into brings c meets still now =
      let up = changed_above typing later (to j) z c meets.left in
      record {
        start = state_trans f.types o h.start (up 0);
        below = changed_below typing later (to j) z (comes j) c meets into brings h.below;
        others = λ i below ne quiet.
            let apart : i ≢ to j = λ is. quiet (let P : ℕ → Type 0 = λ (n : ℕ). has waits_later n ≡ true in subst P (sym is) now) in
            still_settled typing later up i (c.elsewhere i apart) (h.others i below ne (λ waits. quiet (still i waits)));
        same = λ quiet.
            let apart : k ≢ to j = λ is. quiet (let P : ℕ → Type 0 = λ (n : ℕ). has waits_later n ≡ true in subst P (sym is) now) in
            c.elsewhere k apart ∙ h.same (λ waits. quiet (still k waits));
        along = λ i below. elim (at_or_before i j below) [
          | inl before ↦ state_trans f.types o (h.along i before) (up (to i))
          | inr is ↦
              let P : ℕ → Type 0 = λ (n : ℕ). AtMost f.types (comes n) (later (to n)) in
              let Q : State → Type 0 = λ (v : State). AtMost f.types (comes j) v in
              subst P (sym is) (subst Q (sym c.at) meets.right)
        ];
      }

  -- what comes along an edge is at most what is there in a solution
  pub brings_low : (typing : Typing) (k t : ℕ) (c : Carries) → k < length f.code → t < length f.code → Edge f k t c
      → ((other : Typing) → IsSolution f other → IsAtMost f typing other) → (other : Typing) → IsSolution f other → AtMost f.types (carried f k c (typing k)) (other t)
  brings_low typing k t c below into e low other solves =
      state_trans f.types o (carried_lower f o mono k c (low other solves k below)) (solves.along k t c below into e)

  pub follow_all : (typing : Typing) (waiting : List ℕ) (k : ℕ) (x : State) (comes : ℕ → State) (to : ℕ → ℕ) (j : ℕ) → Follows f typing waiting k x comes to j
      → ((t : ℕ) (c : Carries) → t < length f.code → Edge f k t c → (i : ℕ) × (i < j) × (to i ≡ t) × (comes i ≡ carried f k c x))
      → IsOnTheWay f typing waiting
  follow_all typing waiting k x comes to j h whole = record {
    start = h.start;
    below = h.below;
    settled = λ i below quiet. elim (cases_eq i k) [
      | inl is ↦
          let P : ℕ → Type 0 = λ (n : ℕ). IsSettled f typing n in
          let same : typing k ≡ x = h.same (λ waits. quiet (let Q : ℕ → Type 0 = λ (n : ℕ). has waiting n ≡ true in subst Q (sym is) waits)) in
          subst P (sym is) (λ t c into e.
          let edge = whole t c into e in
          let Q : State → Type 0 = λ (y : State). AtMost f.types (carried f k c y) (typing t) in
          let R : State → Type 0 = λ (y : State). AtMost f.types y (typing t) in
          let S : ℕ → Type 0 = λ (n : ℕ). AtMost f.types (comes edge.0) (typing n) in
          subst Q (sym same) (subst R edge.3 (subst S edge.2 (h.along edge.0 edge.1))))
      | inr ne ↦ h.others i below ne quiet
    ];
  }

-- ---- depths

state_is_low : (w : Hierarchy) (r : ℕ) (s t : List Stack) → AtMost w (stack s) (stack t) → IsLow r (stack s) → length t ≤ r
state_is_low w r s t (stacks h) low = let e = each_depth (Below w) s t h in let d = low s refl in omega arith

-- a stack that two ways meet at is as deep as theirs
pub meeting_low : (w : Hierarchy) (x y z : State) (r s : ℕ) → IsNewMeeting w x y z → IsLow r x → r ≤ s → (x ≡ unreached → IsLow s y) → IsLow s z
meeting_low w x y unreached r s m low_x le low_y t e = cc
meeting_low w x y clash r s m low_x le low_y t e = cc
meeting_low w (stack a) y (stack b) r s m low_x le low_y t e =
    let d = state_is_low w r a b m.meets.left low_x in let same : length b ≡ length t = ap length (let f : b ≡ t = cc in f) in omega arith
meeting_low w clash y (stack b) r s m low_x le low_y t e = elim (m.meets.left) [ ]
meeting_low w unreached (stack a) (stack b) r s m low_x le low_y t e =
    let d = state_is_low w s a b m.meets.right (low_y refl) in let same : length b ≡ length t = ap length (let f : b ≡ t = cc in f) in omega arith
meeting_low w unreached clash (stack b) r s m low_x le low_y t e = elim (m.meets.right) [ ]
meeting_low w unreached unreached (stack b) r s m low_x le low_y t e = elim (m.meets.least unreached below_all below_all) [ ]

-- what is met newly is reached
pub newly_reached : (w : Hierarchy) (x y z : State) → IsNewMeeting w x y z → one_if_reached z ≡ 1
newly_reached w x y (stack s) m = refl
newly_reached w x y clash m = refl
newly_reached w unreached y unreached m = absurd (m.other refl)
newly_reached w (stack s) y unreached m = elim (m.meets.left) [ ]
newly_reached w clash y unreached m = elim (m.meets.left) [ ]

pub at_most_one : (x : State) → one_if_reached x ≤ 1
at_most_one unreached = omega arith
at_most_one (stack s) = omega arith
at_most_one clash = omega arith

ones : (n : ℕ) → total (λ k. 1) n ≡ n
unfolding total
ones zero = refl
ones (suc n) = let e = ones n in omega arith

pub reached_low : (typing : Typing) (n : ℕ) → reached typing n ≤ n
reached_low typing n =
    let a = total_at_most (λ k. one_if_reached (typing k)) (λ k. 1) n (λ k below. at_most_one (typing k)) in
    let b = ones n in
    omega arith

pub reached_changed : (w : Hierarchy) (typing later : Typing) (n t : ℕ) (y z : State) → t < n → IsChanged typing later t z → IsNewMeeting w (typing t) y z
    → reached later n + one_if_reached (typing t) ≡ reached typing n + 1
reached_changed w typing later n t y z below c m =
    let a = total_but (λ k. one_if_reached (later k)) (λ k. one_if_reached (typing k)) n t below (λ k ne. ap one_if_reached (c.elsewhere k ne)) in
    let b = newly_reached w (typing t) y z m in
    let d : one_if_reached (later t) ≡ one_if_reached z = ap one_if_reached c.at in
    omega arith

low_more : (r s : ℕ) (x : State) → r ≤ s → IsLow r x → IsLow s x
low_more r s x le h a e = let d = h a e in omega arith

-- stacks stay as shallow as instructions are reached
pub shallow_changed : (f : Frame) (typing later : Typing) (t r : ℕ) (y z : State) → t < length f.code → IsChanged typing later t z → IsNewMeeting f.types (typing t) y z
    → IsShallow f typing → IsLow (r + 1) y → r ≤ reached typing (length f.code) → IsShallow f later
shallow_changed f typing later t r y z into c m h low_y le i below =
    let n = length f.code in
    let sum = reached_changed f.types typing later n t y z into c m in
    let one = at_most_one (typing t) in
    let grown : reached typing n ≤ reached later n = omega arith in
    elim (cases_eq i t) [
      | inl is ↦
          let P : ℕ → Type 0 = λ (j : ℕ). IsLow (reached later n) (later j) in
          let Q : State → Type 0 = λ (v : State). IsLow (reached later n) v in
          subst P (sym is) (subst Q (sym c.at)
          (meeting_low f.types (typing t) y z (reached typing n) (reached later n) m (h t into) grown
          (λ none. let zero_there : one_if_reached (typing t) ≡ 0 = ap one_if_reached none in low_more (r + 1) (reached later n) y (omega arith) low_y)))
      | inr ne ↦
          let Q : State → Type 0 = λ (v : State). IsLow (reached later n) v in
          subst Q (sym (c.elsewhere i ne)) (low_more (reached typing n) (reached later n) (typing i) grown (h i below))
    ]
