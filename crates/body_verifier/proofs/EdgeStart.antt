-- Before the edges of an instruction are followed, and after.
use Rattle.std.proofs.Common.{◌≡◌, ◌≢◌, ◌⊎◌, inl, inr, refl, sym, ◌∙◌, ap, subst, ℕ, zero, suc, ◌+◌, ◌*◌, ◌<◌, ◌≤◌, arith, true, false, List, [], ◌∷◌, ◌++◌, length, map, take, get_or, min, Option, None, Some}
use Rattle.std.specs.Prelude.{slice_get}
use Rattle.std.specs.List.{All}
use Rattle.std.proofs.lemmas.Bool.{cases_eq, cases_lt}
use Rattle.std.proofs.lemmas.Option.{slice_get-get_or, slice_get_within, get_or_from_slice_get}
use Rattle.std.proofs.lemmas.List.{append-nil, get_or_past}
use Rattle.std.proofs.lemmas.List.Elements.{All-get_or}
use Rattle.assembly_tree.specs.declared.body.Ins.{Ins}
use Rattle.sig_pool.specs.declared.node.Node.{Node}
use Rattle.type_hierarchy.specs.Hierarchy.{Hierarchy}
use Rattle.type_hierarchy.specs.Laws.{IsOrder}
use Rattle.type_hierarchy.specs.Stack as stack
use Rattle.type_order.specs.Staying.{KeepsKeys}
use Rattle.type_hierarchy.specs.Tables.{hierarchy_in}
use Rattle.type_hierarchy.specs.World.{Content, hierarchy, Stays}
use Rattle.code_flow.specs.declared.goings.Carried.{Carried}
use Rattle.code_flow.specs.declared.goings.Carried.TheVariants.{Flowing, Nothing, Object, Caught}
use Rattle.code_flow.specs.declared.goings.Going.{Going}
use Rattle.stack_rows.specs.declared.row.Row.{Row}
use Rattle.stack_states.specs.declared.state.State.{State}
use Rattle.stack_states.specs.declared.state.State.TheVariants.{Unreached, Stack, Clash}
use Rattle.body_verifier.specs.declared.stated.Stated.{Stated}
use Rattle.code_flow.specs.Edges as edges
use Rattle.code_flow.specs.Effects.{effect}
use Rattle.code_flow.specs.Frames.{Frame}
use Rattle.body_verifier.specs.Potential.{IsLow, reached, one_if_reached, total}
use Rattle.stack_rows.specs.RowMeanings.{row_meant}
use Rattle.code_flow.specs.Rows as rows
use Rattle.stack_states.specs.StateMeanings.{state_meant, state_or_none, is_unreached, IsStateWithin, typing_of}
use Rattle.code_flow.specs.Typings as typings
use Rattle.stack_states.specs.Waiting.{Waiting}
use Rattle.body_verifier.specs.Ways.{Setup, IsSetUp, IsOnTheWay, IsShallow, IsUnderWay, HasNoMore, flows, AreStated, Says, AreWays, charge, HasLessAt}
use Rattle.body_verifier.proofs.EdgeLoop.{IsSetOff, IsFollowing, going_at, target_of, value_of, says_what}
use Rattle.body_verifier.proofs.FollowLemmas.{state_kept, states_kept, typing_kept}
use Rattle.body_verifier.proofs.Following.{has_cases, follow_none, follow_all}
use Rattle.body_verifier.proofs.RowDepths.{effect_length}
use Rattle.body_verifier.proofs.Totals.{total_part}

pub stays_itself : (a : Content) → Stays a a
stays_itself a = record { tables = refl; nodes = record { more = []; nodes = sym (append-nil a.nodes); terms = λ k h. refl } }

-- ---- as the pool grows

low_kept : (a b : Content) (x : State) (n : ℕ) → KeepsKeys a b → IsStateWithin (length a.nodes) x → IsLow n (state_meant a.nodes x) → IsLow n (state_meant b.nodes x)
low_kept a b x n keeps h low =
    let P : typings.State → Type 0 = λ (v : typings.State). IsLow n v in
    subst P (sym (state_kept a b x keeps h).1) low

caught_within : (n : ℕ) (s : Stated) (k : ℕ) → IsStateWithin n s.nothing → All (IsStateWithin n) s.caught → IsStateWithin n (get_or s.caught k s.nothing)
caught_within n s k a h = elim (cases_lt k (length s.caught)) [
  | inl into ↦ All-get_or (IsStateWithin n) s.caught k s.nothing into h
  | inr past ↦ let P : State → Type 0 = λ (x : State). IsStateWithin n x in subst P (sym (get_or_past s.caught k s.nothing past)) a
]

pub stated_kept : (a b : Content) (s : Stated) → KeepsKeys a b → AreStated a.nodes s → AreStated b.nodes s
stated_kept a b s keeps h = record {
  nothing = (state_kept a b s.nothing keeps h.nothing).0;
  object = (state_kept a b s.object keeps h.object).0;
  caught = states_kept a b s.caught keeps h.caught;
  no_value = low_kept a b s.nothing 0 keeps h.nothing h.no_value;
  one_value = low_kept a b s.object 1 keeps h.object h.one_value;
  one_caught = λ k. low_kept a b (get_or s.caught k s.nothing) 1 keeps (caught_within (length a.nodes) s k h.nothing h.caught) (h.one_caught k);
}

says_kept : (a b : Content) (s : Stated) (c : Carried) (d : edges.Carries) → KeepsKeys a b → AreStated a.nodes s → Says a.nodes s c d → Says b.nodes s c d
says_kept a b s Flowing d keeps h e = e
says_kept a b s Nothing d keeps h e = (e.0, e.1, (state_kept a b s.nothing keeps h.nothing).1 ∙ e.2)
says_kept a b s Object d keeps h e = (e.0, e.1, (state_kept a b s.object keeps h.object).1 ∙ e.2)
says_kept a b s (Caught k) d keeps h e =
    (e.0, e.1, (state_kept a b (get_or s.caught k s.nothing) keeps (caught_within (length a.nodes) s k h.nothing h.caught)).1 ∙ e.2)

pub ways_kept : (a b : Content) (s : Stated) (f : Frame) (k : ℕ) (gs : List Going) → KeepsKeys a b → AreStated a.nodes s → AreWays a.nodes s f k gs → AreWays b.nodes s f k gs
ways_kept a b s f k gs keeps h w = record {
  each = λ j g at. let e = w.each j g at in (e.0, (e.1.0, says_kept a b s g.carries e.1.0 keeps h e.1.1, e.1.2));
  whole = λ t c into e. let r = w.whole t c into e in (r.0, r.1, r.2, r.3, says_kept a b s r.1.carries c keeps h r.4);
}

pub setup_kept : (a b : Content) (at : Setup) → Stays a b → IsSetUp (hierarchy a) at → IsSetUp (hierarchy b) at
setup_kept a b at s h = let P : Hierarchy → Type 0 = λ (w : Hierarchy). IsSetUp w at in subst P (sym (ap hierarchy_in s.tables)) h

-- ---- what flows on

flows_is : (f : Frame) (k : ℕ) (i : Ins) (x : typings.State) → slice_get f.code k ≡ Some i → flows (rows.row_of f k i) x ≡ typings.carried f k edges.flowing x
flows_is f k i typings.unreached e = refl
flows_is f k i (typings.stack s) e =
    let P : Option Ins → Type 0 = λ (o : Option Ins). typings.stack (effect (rows.row_of f k i) s) ≡ typings.stack (typings.stack_after f k o s) in
    subst P (sym e) refl
flows_is f k i typings.clash e = refl

flows_low : (f : Frame) (k : ℕ) (i : Ins) (x : typings.State) (n : ℕ) → IsLow n x → 1 ≤ n → IsLow (n + 1) (flows (rows.row_of f k i) x)
flows_low f k i typings.unreached n low some t e = cc
flows_low f k i typings.clash n low some t e = cc
flows_low f k i (typings.stack s) n low some t e =
    let h = effect_length f k i s n (low s refl) some in
    let same : length (effect (rows.row_of f k i) s) ≡ length t = ap length (let g : effect (rows.row_of f k i) s ≡ t = cc in g) in
    omega arith

reached_one : (x : typings.State) → (x ≡ typings.unreached → ⊥) → one_if_reached x ≡ 1
reached_one typings.unreached ne = absurd (ne refl)
reached_one (typings.stack s) ne = refl
reached_one typings.clash ne = refl

some_at : (xs : List Ins) (k : ℕ) → k < length xs → (i : Ins) × (slice_get xs k ≡ Some i)
some_at [] k below = absurd (omega arith)
some_at (x ∷ xs) zero below = (x, refl)
some_at (x ∷ xs) (suc k) below = some_at xs k (omega arith)

unreached_from : (ns : List Node) (x : State) → state_meant ns x ≡ typings.unreached → x ≡ Unreached
unreached_from ns Unreached e = refl
unreached_from ns (Stack s) e = cc
unreached_from ns Clash e = cc

code_at : (f : Frame) (k : ℕ) → k < length f.code → (i : Ins) × (slice_get f.code k ≡ Some i)
code_at f k below = some_at f.code k below

-- ---- at the start

pub set_off : (at : Setup) (k : ℕ) (stated : Stated) (after known : State) (gs : List Going) (w a : Content) (states : List State) (waiting : List ℕ) (row : Row) → IsSetUp (hierarchy w) at
    → KeepsKeys w a → Stays w a → IsUnderWay at w.nodes states waiting → AreStated w.nodes stated → AreWays w.nodes stated at.frame k gs → k < length at.frame.code
    → ((i : Ins) → slice_get at.frame.code k ≡ Some i → row_meant w.nodes row ≡ rows.row_of at.frame k i) → slice_get states k ≡ Some known → (known ≡ Unreached → ⊥)
    → IsStateWithin (length a.nodes) after → state_meant a.nodes after ≡ flows (row_meant w.nodes row) (state_meant w.nodes known) → IsSetOff at k stated after gs a states
set_off at k stated after known gs w a states waiting row setup keeps stay under stacks ways here means there ne within is =
    let f = at.frame in
    let n = length f.code in
    let ins = code_at f k here in
    let same = typing_kept w a states keeps under.within in
    let old = typing_of w.nodes states in
    let x : old k ≡ state_meant w.nodes known = ap (state_or_none w.nodes) there in
    let after_is : state_meant a.nodes after ≡ typings.carried f k edges.flowing (old k) =
    is ∙ ap (λ (r : rows.Row). flows r (state_meant w.nodes known)) (means ins.0 ins.1) ∙ ap (flows (rows.row_of f k ins.0)) (sym x) ∙ flows_is f k ins.0 (old k) ins.1 in
    let not_unreached : old k ≡ typings.unreached → ⊥ = λ e. ne (unreached_from w.nodes known (sym x ∙ e)) in
    let one = reached_one (old k) not_unreached in
    let part = total_part (λ j. one_if_reached (old j)) n k here in
    let some : 1 ≤ reached old n = omega arith in
    let low : IsLow (reached old n + 1) (state_meant a.nodes after) =
    let P : typings.State → Type 0 = λ (v : typings.State). IsLow (reached old n + 1) v in
    subst P (sym (after_is ∙ sym (flows_is f k ins.0 (old k) ins.1))) (flows_low f k ins.0 (old k) (reached old n) (under.shallow k here) some) in
    let L : typings.Typing → Type 0 = λ (u : typings.Typing). IsLow (reached u n + 1) (state_meant a.nodes after) in
    let I : typings.Typing → Type 0 = λ (u : typings.Typing). state_meant a.nodes after ≡ typings.carried f k edges.flowing (u k) in
    let K : typings.Typing → Type 0 = λ (u : typings.Typing). u k ≡ typings.unreached → ⊥ in
    let B : typings.Typing → Type 0 = λ (u : typings.Typing). (other : typings.Typing) → typings.IsSolution f other → typings.IsAtMost f u other in
    record {
      setup = setup_kept w a at stay setup;
      stacks = stated_kept w a stated keeps stacks;
      within = within;
      low = subst L (sym same) low;
      is = subst I (sym same) after_is;
      known = subst K (sym same) not_unreached;
      below = subst B (sym same) under.way.below;
      here = here;
      ways = ways_kept w a stated f k gs keeps stacks ways;
    }

pub follows_none : (at : Setup) (k : ℕ) (stated : Stated) (after : State) (gs : List Going) (w a : Content) (states : List State) (list : Waiting) (steps : ℕ)
    → KeepsKeys w a → IsUnderWay at w.nodes states (k ∷ list.numbers) → IsSetOff at k stated after gs a states
    → IsFollowing at k stated after gs a states list steps a states list steps 0
follows_none at k stated after gs w a states list steps keeps under s =
    let f = at.frame in
    let same = typing_kept w a states keeps under.within in
    let O : Hierarchy → Type 0 = λ (h : Hierarchy). IsOrder h in
    let order : IsOrder f.types = subst O (sym s.setup.types) s.setup.order in
    let W : typings.Typing → Type 0 = λ (u : typings.Typing). IsOnTheWay f u (k ∷ list.numbers) in
    let S : typings.Typing → Type 0 = λ (u : typings.Typing). IsShallow f u in
    record {
      stays = stays_itself a;
      count = refl;
      long = under.long;
      within = states_kept w a states keeps under.within;
      follows = follow_none f order s.setup.monotone (typing_of a.nodes states) list.numbers k (value_of a.nodes stated after gs) (target_of gs) (subst W (sym same) under.way);
      shallow = subst S (sym same) under.shallow;
      grown = omega arith;
      no_more = λ cost. omega arith;
      spent = omega arith;
      less = λ d deep cost. omega arith;
      few = λ d deep. omega arith;
    }

-- ---- at the end

pub all_followed : (at : Setup) (k : ℕ) (stated : Stated) (after : State) (gs : List Going) (a : Content) (states0 : List State) (list0 : Waiting) (steps0 : ℕ)
    (b : Content) (states : List State) (list : Waiting) (steps : ℕ) → IsSetOff at k stated after gs a states0
    → IsFollowing at k stated after gs a states0 list0 steps0 b states list steps (length gs) → IsUnderWay at b.nodes states list.numbers
all_followed at k stated after gs a states0 list0 steps0 b states list steps s h =
    let f = at.frame in
    let x = typing_of a.nodes states0 k in
    let O : Hierarchy → Type 0 = λ (w : Hierarchy). IsOrder w in
    let order : IsOrder f.types = subst O (sym s.setup.types) s.setup.order in
    record {
      long = h.long;
      within = h.within;
      way = follow_all f order s.setup.monotone (typing_of b.nodes states) list.numbers k x (value_of a.nodes stated after gs) (target_of gs) (length gs) h.follows
          (λ t c into e.
          let r = s.ways.whole t c into e in
          let at_r : going_at gs r.0 ≡ r.1 = get_or_from_slice_get gs r.0 r.1 (record { to = 0; carries = Flowing }) r.2 in
          let P : Going → Type 0 = λ (g : Going). g.to ≡ t in
          let Q : Going → Type 0 = λ (g : Going). Says a.nodes stated g.carries c in
          (r.0, slice_get_within gs r.0 r.1 r.2, subst P (sym at_r) r.3, says_what f k a.nodes stated (going_at gs r.0).carries after x c s.known s.is (subst Q (sym at_r) r.4)));
      shallow = h.shallow;
    }

pub no_more_from : (at : Setup) (w a : Content) (states0 : List State) (xs ys : List ℕ) (later : typings.Typing) → KeepsKeys w a → All (IsStateWithin (length w.nodes)) states0
    → HasNoMore at (typing_of a.nodes states0) xs later ys → HasNoMore at (typing_of w.nodes states0) xs later ys
no_more_from at w a states0 xs ys later keeps within h =
    let P : typings.Typing → Type 0 = λ (u : typings.Typing). HasNoMore at u xs later ys in
    subst P (typing_kept w a states0 keeps within) h

pub less_from : (at : Setup) (d : ℕ) (w a : Content) (states0 : List State) (xs ys : List ℕ) (later : typings.Typing) → KeepsKeys w a → All (IsStateWithin (length w.nodes)) states0
    → HasLessAt d at (typing_of a.nodes states0) xs later ys → HasLessAt d at (typing_of w.nodes states0) xs later ys
less_from at d w a states0 xs ys later keeps within h =
    let P : typings.Typing → Type 0 = λ (u : typings.Typing). HasLessAt d at u xs later ys in
    subst P (typing_kept w a states0 keeps within) h

-- an instruction that isn't reached has nothing that comes along its edges
pub unreached_settled : (at : Setup) (k : ℕ) (w : Content) (states : List State) (waiting : List ℕ) → IsUnderWay at w.nodes states (k ∷ waiting) → slice_get states k ≡ Some Unreached
    → IsUnderWay at w.nodes states waiting
unreached_settled at k w states waiting h there = record {
  long = h.long;
  within = h.within;
  way = record {
    start = h.way.start;
    below = h.way.below;
    settled = λ i below quiet. elim (cases_eq i k) [
      | inl is ↦
          let typing = typing_of w.nodes states in
          let none : typing i ≡ typings.unreached = ap typing is ∙ ap (state_or_none w.nodes) there in
          (λ t c into e. let P : typings.State → Type 0 = λ (v : typings.State). typings.AtMost at.frame.types (typings.carried at.frame i c v) (typing t) in subst P (sym none) typings.below_all)
      | inr ne ↦ h.way.settled i below (λ waits. elim (has_cases waiting k i waits) [ inl e ↦ ne e | inr more ↦ quiet more ])
    ];
  };
  shallow = h.shallow;
}

pub unreached_true : (x : State) → is_unreached x ≡ true → x ≡ Unreached
unreached_true Unreached e = refl
unreached_true (Stack s) e = cc
unreached_true Clash e = cc

pub unreached_false : (x : State) → is_unreached x ≡ false → x ≡ Unreached → ⊥
unreached_false Unreached e f = cc
unreached_false (Stack s) e f = cc
unreached_false Clash e f = cc

pub within_there : (n : ℕ) (xs : List State) (k : ℕ) (x : State) → All (IsStateWithin n) xs → slice_get xs k ≡ Some x → IsStateWithin n x
within_there n xs k x h at =
    let P : State → Type 0 = λ (y : State). IsStateWithin n y in
    subst P (get_or_from_slice_get xs k x Unreached at) (All-get_or (IsStateWithin n) xs k Unreached (slice_get_within xs k x at) h)

pub all_followed_at : (at : Setup) (k : ℕ) (stated : Stated) (after : State) (gs : List Going) (a : Content) (states0 : List State) (list0 : Waiting) (steps0 : ℕ)
    (b : Content) (states : List State) (list : Waiting) (steps j : ℕ) → IsSetOff at k stated after gs a states0 → j ≡ length gs
    → IsFollowing at k stated after gs a states0 list0 steps0 b states list steps j → IsUnderWay at b.nodes states list.numbers
all_followed_at at k stated after gs a states0 list0 steps0 b states list steps j s e h =
    let P : ℕ → Type 0 = λ (n : ℕ). IsFollowing at k stated after gs a states0 list0 steps0 b states list steps n in
    all_followed at k stated after gs a states0 list0 steps0 b states list steps s (subst P e h)
