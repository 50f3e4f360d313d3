-- The loop over the instructions that wait.
use Rattle.std.proofs.Common.{◌≡◌, ◌≢◌, ◌⊎◌, inl, inr, refl, sym, ◌∙◌, ap, subst, ℕ, zero, suc, ◌+◌, ◌-◌, ◌*◌, ◌<◌, ◌≤◌, arith, true, false, List, [], ◌∷◌, ◌++◌, length, map, take, get_or, replicate, Option, None, Some}
use Rattle.std.specs.Prelude.{slice_get}
use Rattle.std.specs.List.{All, sum_by}
use Rattle.std.proofs.lemmas.Bool.{cases_eq, cases_lt}
use Rattle.std.proofs.lemmas.List.{length-replicate, get_or-replicate, replicate_more, take_more, take_all}
use Rattle.std.proofs.lemmas.List.Sums.{sum_by-append}
use Rattle.std.proofs.lemmas.List.Elements.{All-nil, All-cons, All-replicate, All-get_or}
use Rattle.std.proofs.lemmas.Option.{slice_get-get_or, slice_get_past, slice_get_within, get_or_from_slice_get}
use Rattle.type_terms.specs.declared.term.SigType.{SigType}
use Rattle.assembly_tree.specs.declared.body.Ins.{Ins}
use Rattle.sig_pool.specs.declared.node.Node.{Node}
use Rattle.type_hierarchy.specs.Meaning.{IsWithin}
use Rattle.type_order.specs.Staying.{KeepsKeys}
use Rattle.type_hierarchy.specs.World.{Content, Stays}
use Rattle.code_flow.specs.declared.goings.Going.{Going}
use Rattle.stack_states.specs.declared.state.State.{State}
use Rattle.stack_states.specs.declared.state.State.TheVariants.{Unreached, Stack, Clash}
use Rattle.stack_rows.specs.declared.row.Row.{Row}
use Rattle.body_verifier.specs.declared.stated.Stated.{Stated}
use Rattle.code_flow.specs.Frames.{Frame}
use Rattle.body_verifier.specs.Potential.{changes, ranks, total, potential, potential_at}
use Rattle.stack_rows.specs.RowMeanings.{row_meant, IsRowWithin}
use Rattle.code_flow.specs.Rows as rows
use Rattle.stack_states.specs.StateMeanings.{state_meant, state_or_none, IsStateWithin, typing_of}
use Rattle.code_flow.specs.Typings as typings
use Rattle.stack_states.specs.Waiting.{Waiting, has, pushed}
use Rattle.body_verifier.specs.Ways.{Setup, IsOnTheWay, IsShallow, IsUnderWay, IsSolved, AreRows, AreStated, AreWays, AreAllWays, charge, step_budget}
use Rattle.body_verifier.proofs.EdgeStart.{ways_kept}
use Rattle.stack_rows.proofs.Growing.{row_kept}
use Rattle.body_verifier.proofs.Ranks.{first_changes, unreached_changes}
use Rattle.stack_states.proofs.StateLemmas.{at_itself}
use Rattle.body_verifier.proofs.Totals.{products_fall, total_times}

-- what it costs to look at instruction `k` once
abbrev pub cost_of : ℕ → List (List Going) → ℕ → ℕ
cost_of n all k = charge n (get_or all k [])

-- ---- the first states

pub first_more : (c : ℕ) (xs ys : List State) → 1 ≤ c → xs ≡ Stack [] ∷ replicate (c - 1) Unreached → ys ≡ xs ++ Unreached ∷ [] → ys ≡ Stack [] ∷ replicate (c + 1 - 1) Unreached
first_more c xs ys some e f =
    let n : c - 1 + 1 ≡ c + 1 - 1 = omega arith in
    f ∙ ap (λ (zs : List State). zs ++ Unreached ∷ []) e ∙ ap (λ (zs : List State). Stack [] ∷ zs) (replicate_more (c - 1) Unreached) ∙ ap (λ (m : ℕ). Stack [] ∷ replicate m Unreached) n

pub first_all : (c n : ℕ) (xs : List State) → c ≡ n → xs ≡ Stack [] ∷ replicate (c - 1) Unreached → xs ≡ Stack [] ∷ replicate (n - 1) Unreached
first_all c n xs e h = h ∙ ap (λ (m : ℕ). Stack [] ∷ replicate (m - 1) Unreached) e

replicated : (n k : ℕ) (x : State) (ns : List Node) → x ≡ Unreached → (k < n) ⊎ (n ≤ k) → state_or_none ns (slice_get (replicate n x) k) ≡ typings.unreached
replicated n k x ns is (inl below) =
    ap (state_or_none ns) (slice_get-get_or (replicate n x) k x (omega (arith, length-replicate n x)) ∙ ap Some (get_or-replicate n k x x below)) ∙ ap (state_meant ns) is
replicated n k x ns is (inr past) = ap (state_or_none ns) (slice_get_past (replicate n x) k (omega (arith, length-replicate n x)))

first_meant : (ns : List Node) (n k : ℕ) → k ≢ 0 → typing_of ns (Stack [] ∷ replicate n Unreached) k ≡ typings.unreached
first_meant ns n zero ne = absurd (ne refl)
first_meant ns n (suc k) ne = replicated n k Unreached ns refl (cases_lt k n)

all_first : (m n : ℕ) → All (IsStateWithin m) (Stack [] ∷ replicate n Unreached)
all_first m n = All-cons (IsStateWithin m) (Stack []) (replicate n Unreached) (All-nil (IsWithin m)) (All-replicate (IsStateWithin m) n Unreached tt)

-- the first typing is on the way
first_way : (f : Frame) (typing : typings.Typing) → typing 0 ≡ typings.stack [] → ((k : ℕ) → k ≢ 0 → typing k ≡ typings.unreached) → IsOnTheWay f typing (0 ∷ [])
first_way f typing here there = record {
  start = let P : typings.State → Type 0 = λ (x : typings.State). typings.AtMost f.types (typings.stack []) x in subst P (sym here) (at_itself f.types (typings.stack []));
  below = λ other solves k less. elim (cases_eq k 0) [
    | inl is ↦
        let P : ℕ → Type 0 = λ (n : ℕ). typings.AtMost f.types (typing n) (other n) in
        let Q : typings.State → Type 0 = λ (x : typings.State). typings.AtMost f.types x (other 0) in
        subst P (sym is) (subst Q (sym here) solves.start)
    | inr ne ↦ let Q : typings.State → Type 0 = λ (x : typings.State). typings.AtMost f.types x (other k) in subst Q (sym (there k ne)) typings.below_all
  ];
  settled = λ k below quiet t c into e.
      let ne : k ≢ 0 = λ is. quiet (let P : ℕ → Type 0 = λ (n : ℕ). has (0 ∷ []) n ≡ true in subst P (sym is) refl) in
      let Q : typings.State → Type 0 = λ (x : typings.State). typings.AtMost f.types (typings.carried f k c x) (typing t) in
      subst Q (sym (there k ne)) typings.below_all;
}

first_shallow : (f : Frame) (typing : typings.Typing) → typing 0 ≡ typings.stack [] → ((k : ℕ) → k ≢ 0 → typing k ≡ typings.unreached) → IsShallow f typing
first_shallow f typing here there k below t e = elim (cases_eq k 0) [
  | inl is ↦
      let same : typings.stack t ≡ typings.stack [] = sym e ∙ ap typing is ∙ here in
      let none : length t ≡ 0 = ap length (let g : t ≡ [] = cc in g) in
      omega arith
  | inr ne ↦ let bad : typings.stack t ≡ typings.unreached = sym e ∙ there k ne in cc
]

pub set_out : (at : Setup) (w : Content) (states : List State) (n : ℕ) → n ≡ length at.frame.code → 0 < n → states ≡ Stack [] ∷ replicate (n - 1) Unreached → IsUnderWay at w.nodes states (0 ∷ [])
set_out at w states n long some is =
    let there : (k : ℕ) → k ≢ 0 → typing_of w.nodes (Stack [] ∷ replicate (n - 1) Unreached) k ≡ typings.unreached = first_meant w.nodes (n - 1) in
    let P : List State → Type 0 = λ (xs : List State). IsUnderWay at w.nodes xs (0 ∷ []) in
    subst P (sym is) (record {
      long = omega (arith, length-replicate (n - 1) Unreached);
      within = all_first (length w.nodes) (n - 1);
      way = first_way at.frame (typing_of w.nodes (Stack [] ∷ replicate (n - 1) Unreached)) refl there;
      shallow = first_shallow at.frame (typing_of w.nodes (Stack [] ∷ replicate (n - 1) Unreached)) refl there;
    })

-- ---- what it costs in all

total_list : {X : Type 0} (f : List X → ℕ) (xs : List (List X)) (n : ℕ) → n ≤ length xs → total (λ k. f (get_or xs k [])) n ≡ sum_by f (take n xs)
unfolding total
total_list f xs zero h = refl
total_list f xs (suc n) h =
    let more = total_list f xs n (omega arith) in
    let e : take (n + 1) xs ≡ take n xs ++ get_or xs n [] ∷ [] = take_more xs n [] (omega arith) in
    let s : sum_by f (take (n + 1) xs) ≡ sum_by f (take n xs) + f (get_or xs n []) = ap (sum_by f) e ∙ sum_by-append f (take n xs) (get_or xs n [] ∷ []) ∙ (omega arith) in
    let m : n + 1 ≡ suc n = omega arith in
    let t : sum_by f (take (suc n) xs) ≡ sum_by f (take (n + 1) xs) = ap (λ (k : ℕ). sum_by f (take k xs)) (sym m) in
    omega arith

pub cost_total : (n : ℕ) (all : List (List Going)) → length all ≡ n → total (cost_of n all) n ≡ sum_by (charge n) all
cost_total n all e = total_list (charge n) all n (omega arith) ∙ ap (sum_by (charge n)) (take_all n all (omega arith))

first_budget : (height : SigType → ℕ) (top depth n : ℕ) (cost : ℕ → ℕ) (typing : typings.Typing) → 0 < n → typing 0 ≡ typings.stack [] → ((k : ℕ) → k ≢ 0 → typing k ≡ typings.unreached)
    → potential_at height top depth cost typing (0 ∷ []) n ≤ (2 + depth * top) * total cost n
first_budget height top depth n cost typing some here there =
    let u : ℕ → ℕ = λ (k : ℕ). changes height top depth (typing k) in
    let all : ℕ = depth * top + 2 in
    let first : u 0 ≡ 1 = ap (changes height top depth) here ∙ first_changes height top depth in
    let rest : (k : ℕ) → k ≢ 0 → u k ≡ all = λ k ne. ap (changes height top depth) (there k ne) ∙ unreached_changes height top depth in
    let sum = products_fall (λ k. all) u cost n 0 some (omega arith) rest in
    let times = total_times cost all n in
    let same : all * total cost n ≡ (2 + depth * top) * total cost n = ap (λ (m : ℕ). m * total cost n) (let e : all ≡ 2 + depth * top = omega arith in e) in
    omega arith

-- where no stack is deeper than `d`
pub set_out_less : (at : Setup) (w : Content) (states : List State) (n d : ℕ) (cost : ℕ → ℕ) → n ≡ length at.frame.code → 0 < n → states ≡ Stack [] ∷ replicate (n - 1) Unreached
    → potential_at at.height at.top d cost (typing_of w.nodes states) (0 ∷ []) (length at.frame.code) ≤ (2 + d * at.top) * total cost (length at.frame.code)
set_out_less at w states n d cost long some is =
    let m = length at.frame.code in
    let P : List State → Type 0 = λ (xs : List State). potential_at at.height at.top d cost (typing_of w.nodes xs) (0 ∷ []) m ≤ (2 + d * at.top) * total cost m in
    subst P (sym is) (first_budget at.height at.top d m cost (typing_of w.nodes (Stack [] ∷ replicate (n - 1) Unreached)) (omega arith) refl (first_meant w.nodes (n - 1)))

pub set_out_budget : (at : Setup) (w : Content) (states : List State) (n : ℕ) (all : List (List Going)) → n ≡ length at.frame.code → 0 < n → length all ≡ length at.frame.code
    → states ≡ Stack [] ∷ replicate (n - 1) Unreached
    → potential at.height at.top (cost_of (length at.frame.code) all) (typing_of w.nodes states) (0 ∷ []) (length at.frame.code) ≤ step_budget at all
set_out_budget at w states n all long some whole is =
    let m = length at.frame.code in
    let P : List State → Type 0 = λ (xs : List State). potential at.height at.top (cost_of m all) (typing_of w.nodes xs) (0 ∷ []) m ≤ step_budget at all in
    let low = first_budget at.height at.top (m + 1) m (cost_of m all) (typing_of w.nodes (Stack [] ∷ replicate (n - 1) Unreached)) (omega arith) refl (first_meant w.nodes (n - 1)) in
    let same = cost_total m all whole in
    let product : (2 + (m + 1) * at.top) * total (cost_of m all) m ≡ step_budget at all = ap (λ (c : ℕ). (2 + (m + 1) * at.top) * c) same in
    subst P (sym is) (omega arith)

-- ---- one instruction

pub row_ready : (a b : Content) (all : List Row) (f : Frame) (k : ℕ) (r : Row) → AreRows a.nodes all f → Stays a b → slice_get all k ≡ Some r
    → IsRowWithin (length b.nodes) r × ((i : Ins) → slice_get f.code k ≡ Some i → row_meant b.nodes r ≡ rows.row_of f k i)
row_ready a b all f k r h s at =
    let P : Row → Type 0 = λ (x : Row). IsRowWithin (length a.nodes) x in
    let in_a : IsRowWithin (length a.nodes) r = subst P (get_or_from_slice_get all k r r at) (All-get_or (IsRowWithin (length a.nodes)) all k r (slice_get_within all k r at) h.within) in
    let kept = row_kept a.nodes b.nodes r (row_meant a.nodes r) s.nodes (record { within = in_a; is = refl }) in
    (kept.within, λ i there. kept.is ∙ h.are k r i at there)

pub ways_ready : (a b : Content) (s : Stated) (f : Frame) (k : ℕ) (all : List (List Going)) (gs : List Going) → AreAllWays a.nodes s f all → AreStated a.nodes s → KeepsKeys a b
    → k < length f.code → slice_get all k ≡ Some gs → AreWays b.nodes s f k gs
ways_ready a b s f k all gs h stacks keeps below at =
    let P : List Going → Type 0 = λ (x : List Going). AreWays a.nodes s f k x in
    ways_kept a b s f k gs keeps stacks (subst P (get_or_from_slice_get all k gs [] at) (h.are k below))

pub charge_is : (n : ℕ) (all : List (List Going)) (k : ℕ) (gs : List Going) → slice_get all k ≡ Some gs → cost_of n all k ≡ charge n gs
charge_is n all k gs at = ap (charge n) (get_or_from_slice_get all k gs [] at)

pub arrived : (at : Setup) (w : Content) (states : List State) (numbers : List ℕ) → IsUnderWay at w.nodes states numbers → numbers ≡ [] → IsSolved at.frame w.nodes states
arrived at w states numbers h none = record {
  long = h.long;
  within = h.within;
  least = record {
    solves = record {
      start = h.way.start;
      along = λ k t c below into e. h.way.settled k below (λ waits. let P : List ℕ → Type 0 = λ (xs : List ℕ). has xs k ≡ true in let no : false ≡ true = subst P none waits in cc) t c into e;
    };
    least = h.way.below;
  };
}

-- an instruction that is taken costs nothing more
pub taken_budget : (at : Setup) (cost : ℕ → ℕ) (typing : typings.Typing) (n k : ℕ) (xs ys : List ℕ) → xs ≡ k ∷ ys
    → potential at.height at.top cost typing xs n ≡ potential at.height at.top cost typing ys n + cost k
taken_budget at cost typing n k xs ys e =
    let s : sum_by cost (k ∷ ys) ≡ cost k + sum_by cost ys = sum_by-append cost (k ∷ []) ys ∙ (omega arith) in
    ap (λ (zs : List ℕ). potential at.height at.top cost typing zs n) e ∙ (omega arith)

pub taken_less : (at : Setup) (depth : ℕ) (cost : ℕ → ℕ) (typing : typings.Typing) (n k : ℕ) (xs ys : List ℕ) → xs ≡ k ∷ ys
    → potential_at at.height at.top depth cost typing xs n ≡ potential_at at.height at.top depth cost typing ys n + cost k
taken_less at depth cost typing n k xs ys e =
    let s : sum_by cost (k ∷ ys) ≡ cost k + sum_by cost ys = sum_by-append cost (k ∷ []) ys ∙ (omega arith) in
    ap (λ (zs : List ℕ). potential_at at.height at.top depth cost typing zs n) e ∙ (omega arith)

pub goings_at : (all : List (List Going)) (k : ℕ) (gs : List Going) → slice_get all k ≡ Some gs → get_or all k [] ≡ gs
goings_at all k gs at = get_or_from_slice_get all k gs [] at

pub first_pushed : (l m : Waiting) (n : ℕ) → l ≡ record { count = n; numbers = [] } → m ≡ pushed l 0 → (m.numbers ≡ 0 ∷ []) × (m.count ≡ n)
first_pushed l m n e f =
    let P : Waiting → Type 0 = λ (w : Waiting). ((pushed w 0).numbers ≡ 0 ∷ []) × ((pushed w 0).count ≡ n) in
    let Q : Waiting → Type 0 = λ (w : Waiting). (w.numbers ≡ 0 ∷ []) × (w.count ≡ n) in
    subst Q (sym f) (subst P (sym e) (refl, refl))
