-- The stacks that edges state, clause by clause.
use Rattle.std.proofs.Common.{◌≡◌, ◌∙◌, ap, sym, subst, ℕ, zero, suc, ◌+◌, ◌<◌, ◌≤◌, arith, List, [], ◌∷◌, ◌++◌, map, take, length, get_or}
use Rattle.std.specs.Prelude.{slice_get, Option, None, Some}
use Rattle.std.specs.List.{All, AllZip}
use Rattle.std.proofs.lemmas.List.{map_more}
use Rattle.std.proofs.lemmas.List.Elements.{All-nil, All-cons}
use Rattle.assembly_tree.specs.declared.body.Clause.{Clause}
use Rattle.assembly_tree.specs.declared.body.ClauseKind.{ClauseKind}
use Rattle.assembly_tree.specs.declared.body.ClauseKind.TheVariants.{Catch, Filter, Finally, Fault}
use Rattle.sig_pool.specs.declared.node.Node.{Node}
use Rattle.sig_pool.specs.Pool.{Extends}
use Rattle.type_hierarchy.specs.Meaning.{IsWithin}
use Rattle.type_hierarchy.specs.Stack.{Stack}
use Rattle.type_hierarchy.specs.Tables.{hierarchy_in}
use Rattle.type_hierarchy.specs.World.{Content, hierarchy, Stays}
use Rattle.stack_states.specs.declared.state.State.{State}
use Rattle.stack_states.specs.declared.state.State.TheVariants as state
use Rattle.body_verifier.specs.declared.stated.Stated.{Stated}
use Rattle.code_flow.specs.Edges.{any_object}
use Rattle.code_flow.specs.Frames.{Frame}
use Rattle.code_flow.specs.Goings.{found_by, found_in}
use Rattle.body_verifier.specs.Potential.{IsLow}
use Rattle.stack_states.specs.StateMeanings.{state_meant, IsStateWithin}
use Rattle.body_verifier.specs.Stating.{IsStack, found_at}
use Rattle.code_flow.specs.Typings as typings
use Rattle.body_verifier.specs.Ways.{AreStatedFor}
use Rattle.stack_rows.proofs.Growing.{stack_within, stack_same}
use Rattle.stack_effects.proofs.Zips.{zip_weaker, zip_end}

-- ---- as a pool grows

pub stays_stack : (ns ms : List Node) (s : State) (xs : List Stack) → Extends ns ms → IsStack ns s xs → IsStack ms s xs
stays_stack ns ms state.Unreached xs x h = record { within = tt; is = h.is }
stays_stack ns ms state.Clash xs x h = record { within = tt; is = h.is }
stays_stack ns ms (state.Stack s) xs x h = record {
  within = stack_within ns ms s x h.within;
  is = ap typings.stack (stack_same ns ms s x h.within) ∙ h.is;
}

-- one more clause in the loop
pub caught_more : (a b c : Content) (all later : List State) (clauses : List Clause) (i : ℕ) (clause : Clause) (s : State) (f : Frame) → Stays a b → Stays b c
    → i < length clauses → clause ≡ get_or clauses i clause → f.types ≡ hierarchy a → AllZip (IsStack b.nodes) all (map (found_at f) (take i clauses))
    → ((g : Frame) → g.types ≡ hierarchy b → IsStack c.nodes s (found_by g clause.kind)) → later ≡ all ++ s ∷ []
    → AllZip (IsStack c.nodes) later (map (found_at f) (take (i + 1) clauses))
caught_more a b c all later clauses i clause s f ab bc low is types zip one e =
    let same : hierarchy b ≡ hierarchy a = ap hierarchy_in ab.tables in
    let kept = zip_weaker (IsStack b.nodes) (IsStack c.nodes) all (map (found_at f) (take i clauses)) (λ t xs h. stays_stack b.nodes c.nodes t xs bc.nodes h) zip in
    let grown = zip_end (IsStack c.nodes) all (map (found_at f) (take i clauses)) s (found_at f clause) kept (one f (types ∙ sym same)) in
    let more : map (found_at f) (take (i + 1) clauses) ≡ map (found_at f) (take i clauses) ++ found_at f clause ∷ [] =
    map_more (found_at f) clauses i clause low ∙ ap (λ (x : Clause). map (found_at f) (take i clauses) ++ found_at f x ∷ []) (sym is) in
    subst (AllZip (IsStack c.nodes) later) (sym more) (subst (λ (l : List State). AllZip (IsStack c.nodes) l (map (found_at f) (take i clauses) ++ found_at f clause ∷ [])) (sym e) grown)

-- ---- of a whole body

low_of : (n : ℕ) (x : typings.State) (xs : List Stack) → x ≡ typings.stack xs → length xs ≤ n → IsLow n x
low_of n x xs is low = λ s e. let same : xs ≡ s = cc in let long = ap length same in omega (arith, long, low)

found_low : (f : Frame) (k : ClauseKind) → length (found_by f k) ≤ 1
found_low f (Catch o) = omega arith
found_low f (Filter at) = omega arith
found_low f Finally = omega arith
found_low f Fault = omega arith

in_low : (f : Frame) (c : Option Clause) → length (found_in f c) ≤ 1
in_low f None = omega arith
in_low f (Some c) = found_low f c.kind

all_within : (ns : List Node) (all : List State) (ys : List (List Stack)) → AllZip (IsStack ns) all ys → All (IsStateWithin (length ns)) all
all_within ns [] [] h = All-nil (IsStateWithin (length ns))
all_within ns [] (y ∷ ys) h = absurd h
all_within ns (s ∷ all) [] h = absurd h
all_within ns (s ∷ all) (y ∷ ys) h = All-cons (IsStateWithin (length ns)) s all h.0.within (all_within ns all ys h.1)

caught_at : (ns : List Node) (f : Frame) (all : List State) (clauses : List Clause) (d : State) (k : ℕ) → state_meant ns d ≡ typings.stack [] → AllZip (IsStack ns) all (map (found_at f) clauses)
    → state_meant ns (get_or all k d) ≡ typings.stack (found_in f (slice_get clauses k))
caught_at ns f [] [] d k e h = e
caught_at ns f [] (c ∷ clauses) d k e h = absurd h
caught_at ns f (s ∷ all) [] d k e h = absurd h
caught_at ns f (s ∷ all) (c ∷ clauses) d zero e h = h.0.is
caught_at ns f (s ∷ all) (c ∷ clauses) d (suc k) e h = caught_at ns f all clauses d k e h.1

empty_within : (ns : List Node) (s : State) → s ≡ state.Stack [] → IsStateWithin (length ns) s
empty_within ns s e = subst (IsStateWithin (length ns)) (sym e) (All-nil (IsWithin (length ns)))

pub stated_are : (ns : List Node) (s : Stated) (f : Frame) (clauses : List Clause) → s.nothing ≡ state.Stack [] → IsStack ns s.object any_object → AllZip (IsStack ns) s.caught (map (found_at f) clauses)
    → f.clauses ≡ clauses → AreStatedFor ns s f
stated_are ns s f clauses empty object caught e =
    let none : state_meant ns s.nothing ≡ typings.stack [] = ap (state_meant ns) empty in
    let at : (k : ℕ) → state_meant ns (get_or s.caught k s.nothing) ≡ typings.stack (found_in f (slice_get f.clauses k)) =
    λ k. caught_at ns f s.caught clauses s.nothing k none caught ∙ ap (λ (cs : List Clause). typings.stack (found_in f (slice_get cs k))) (sym e) in
    record {
      stated = record {
        nothing = empty_within ns s.nothing empty;
        object = object.within;
        caught = all_within ns s.caught (map (found_at f) clauses) caught;
        no_value = low_of 0 (state_meant ns s.nothing) [] none (omega arith);
        one_value = low_of 1 (state_meant ns s.object) any_object object.is (omega arith);
        one_caught = λ k. low_of 1 (state_meant ns (get_or s.caught k s.nothing)) (found_in f (slice_get f.clauses k)) (at k) (in_low f (slice_get f.clauses k));
      };
      nothing = none;
      object = object.is;
      caught = at;
    }
