-- The form of the bodies of a faultless source: counts, and clauses that are forward and inside (ECMA-335 II.15.4.1.3, II.19, II.25.4).
use Rattle.std.proofs.Common.{◌≡◌, ℕ, suc, ◌+◌, ◌≤◌, inl, inr, List, [], ◌∷◌, ◌++◌, Option, None, Some, cond, length, map, refl, ap, subst, ◌∙◌, arith, length-append, nat_lt, nat_le}
use Rattle.std.specs.Prelude.{Bool, true, false, ◌==◌, ◌&&◌, if◌then◌else◌, filter}
use Rattle.std.specs.List.{enumerate_from, flat_map, list_all}
use Rattle.std.proofs.lemmas.Bool.{and_from, and_parts, le-leb, lt-ltb}
use Rattle.std.proofs.lemmas.List.{length-map}
use Rattle.std.proofs.lemmas.List.Elements.{filter-append}
use Rattle.assembly_tree.specs.declared.body.ClauseKind.TheVariants as handles
use Rattle.assembly_tree.specs.declared.body.Ins.{Ins}
use Rattle.assembly_tree.specs.WellFormedBodies.{has_body_form, is_clause, is_filter_inside, is_forward, is_inside, is_instruction, short_branches_reach}
use Rattle.assembly_tree.specs.WellFormedNames.{option_all}
use Rattle.assembly_tree.specs.WellFormedTerms.{is_count}
use Rattle.ilasm_grammar.specs.declared.productions.TheConstants.{CLAUSE_CATCH, CLAUSE_FILTER, CLAUSE_FINALLY, FILTER_START_BLOCK, FILTER_START_NAME, HANDLER_BLOCK, HANDLER_HANDLER, ITEM_TRY, TRY_RANGE_BLOCK, TRY_RANGE_NAME}
use Rattle.source_model.specs.Bodies.{body, body_unless_empty, code}
use Rattle.source_model.specs.BodyFaults.{all_methods, clause_backwards}
use Rattle.source_model.specs.BodyNumbers.{body_numbers_out_of_range_in, bounds_out_of_range, clause_forests, local_misnumbered, number_out_of_range, real_out_of_range, variable_out_of_range}
use Rattle.source_model.specs.Clauses.{Guarded, Range, block_in, clause, clause_forms, clause_kind, clauses, filter_start, guarded, guarded_in, handler_range, stands, try_range}
use Rattle.source_model.specs.Forest.{Forest, Part, none, leaf, branch, child, first_token, is_among, leaf_at, part}
use Rattle.source_model.specs.Instructions.{instructions_of, instructions_with, label_named, label_number, mnemonic_token, number_at, number_of_label}
use Rattle.source_model.specs.Nodes.{Around, Node, entered, nodes_in, nodes_of}
use Rattle.source_model.specs.Operands.{instruction}
use Rattle.source_model.specs.Source.{Source}
use Rattle.source_model.specs.TypeRules.{past_count}
use Rattle.source_model.specs.Types.{the_owner, the_type}
use Rattle.source_model.specs.Variables.{local_types, locals}
use Rattle.ilasm_grammar.specs.declared.productions.TheConstants.{INSTRUCTION_OP_NUM, INSTRUCTION_OP_REAL, INSTRUCTION_OP_VAR}
use Rattle.laws_formed_sources.specs.sources.Remaining.{Among, fits_instructions, has_form}
use Rattle.laws_formed_sources.proofs.sources.Signatures.{at_most, count_is}
use Rattle.laws_formed_sources.proofs.sources.Unbroken.{AllBounded, empty_in}

nothing_at : {X Y : Type 0} (g : X → List Y) (q : X) (xs : List X) → Among q xs → flat_map g xs ≡ [] → g q ≡ []
nothing_at g q [] h e = absurd h
nothing_at g q (x ∷ xs) (inl is) e = subst (λ y. g y ≡ []) is (empty_in (g x) (flat_map g xs) e).0
nothing_at g q (x ∷ xs) (inr h) e = nothing_at g q xs h (empty_in (g x) (flat_map g xs) e).1

-- ---- instructions before a token

few_filtered : {X : Type 0} (test : X → Bool) (xs : List X) → length (filter test xs) ≤ length xs
few_filtered test [] = omega arith
few_filtered test (x ∷ xs) = go (test x) (few_filtered test xs)
  where
    go : (c : Bool) → length (filter test xs) ≤ length xs → length (cond c (x ∷ filter test xs) (filter test xs)) ≤ suc (length xs)
    go true h = omega (arith, h)
    go false h = omega (arith, h)

module _ (s : Source) (a : Around) (f : Forest) where
  abbrev count : ℕ
  count = length (instructions_of f)

  at_inside : (k : ℕ) → number_at f k ≤ count
  at_inside k = few_filtered (λ p. nat_lt (mnemonic_token p) k) (instructions_of f)

  label_inside : (k : ℕ) → label_number s f k ≤ count
  label_inside k = go (label_named s f k)
    where
      go : (o : Option ℕ) → number_of_label f o ≤ count
      go None = omega arith
      go (Some j) = at_inside j

  record Inside (x : Range) : Type 0 where
    start : x.start ≤ count
    end : x.end ≤ count

  either : (c : Bool) (x y : Range) → Inside x → Inside y → Inside (if c then x else y)
  either true x y h i = h
  either false x y h i = i

  try_inside : (g : Forest) → Inside (try_range s f g)
  try_inside g =
      either (stands TRY_RANGE_NAME g)
      (record { start = label_number s f (leaf_at 0 (child (TRY_RANGE_NAME ∷ []) g)); end = label_number s f (leaf_at 2 (child (TRY_RANGE_NAME ∷ []) g)) })
      (record { start = number_at f (leaf_at 0 (block_in TRY_RANGE_BLOCK g)); end = number_at f (leaf_at 1 (block_in TRY_RANGE_BLOCK g)) })
      (record { start = label_inside (leaf_at 0 (child (TRY_RANGE_NAME ∷ []) g)); end = label_inside (leaf_at 2 (child (TRY_RANGE_NAME ∷ []) g)) })
      (record { start = at_inside (leaf_at 0 (block_in TRY_RANGE_BLOCK g)); end = at_inside (leaf_at 1 (block_in TRY_RANGE_BLOCK g)) })

  handler_inside : (g : Forest) → Inside (handler_range s f g)
  handler_inside g =
      either (stands HANDLER_HANDLER g)
      (record { start = label_number s f (leaf_at 1 (child (HANDLER_HANDLER ∷ []) g)); end = label_number s f (leaf_at 3 (child (HANDLER_HANDLER ∷ []) g)) })
      (record { start = number_at f (leaf_at 0 (block_in HANDLER_BLOCK g)); end = number_at f (leaf_at 1 (block_in HANDLER_BLOCK g)) })
      (record { start = label_inside (leaf_at 1 (child (HANDLER_HANDLER ∷ []) g)); end = label_inside (leaf_at 3 (child (HANDLER_HANDLER ∷ []) g)) })
      (record { start = at_inside (leaf_at 0 (block_in HANDLER_BLOCK g)); end = at_inside (leaf_at 1 (block_in HANDLER_BLOCK g)) })

  filter_low : (g : Forest) → filter_start s f g ≤ count
  filter_low g = low (stands FILTER_START_NAME g)
    where
      low : (c : Bool) → (if c then label_number s f (leaf_at 0 (child (FILTER_START_NAME ∷ []) g)) else number_at f (leaf_at 0 (block_in FILTER_START_BLOCK g))) ≤ count
      low true = label_inside (leaf_at 0 (child (FILTER_START_NAME ∷ []) g))
      low false = at_inside (leaf_at 0 (block_in FILTER_START_BLOCK g))

  kind_inside : (p : Part) → is_filter_inside count (clause_kind s a f p) ≡ true
  kind_inside p = go (p.production == CLAUSE_CATCH) (p.production == CLAUSE_FILTER) (p.production == CLAUSE_FINALLY)
    where
      go : (c d e : Bool) → is_filter_inside count (if c then handles.Catch (the_owner s a p.below) else if d then handles.Filter (filter_start s f p.below) else if e then handles.Finally else handles.Fault) ≡ true
      go true d e = refl
      go false true e = le-leb (filter_start s f p.below) count (filter_low p.below)
      go false false true = refl
      go false false false = refl

  clause_inside : (g : Guarded) → is_inside count (clause s a f g) ≡ true
  clause_inside g =
      let tried = try_inside g.tried in
      let handler = handler_inside g.clause.below in
      let t = try_range s f g.tried in
      let h = handler_range s f g.clause.below in
      let p1 = and_from (nat_le t.start count) (nat_le t.end count) (le-leb t.start count tried.start) (le-leb t.end count tried.end) in
      let p2 = and_from (nat_le t.start count && nat_le t.end count) (nat_le h.start count) p1 (le-leb h.start count handler.start) in
      let p3 = and_from (nat_le t.start count && nat_le t.end count && nat_le h.start count) (nat_le h.end count) p2 (le-leb h.end count handler.end) in
      and_from (nat_le t.start count && nat_le t.end count && nat_le h.start count && nat_le h.end count) (is_filter_inside count (clause_kind s a f g.clause)) p3 (kind_inside g.clause)

-- ---- a method by its node

unless : (c : Bool) (k : ℕ) → (if c then [] else k ∷ []) ≡ [] → c ≡ true
unless true k e = refl
unless false k e = absurd cc

module _ (s : Source) (bounded : AllBounded s) (n : Node) (here : Among n (all_methods s)) where
  counts : (past_count (locals n.below) ≡ []) × (past_count (clause_forests n.below) ≡ [])
  counts =
      let all = nothing_at (body_numbers_out_of_range_in s) n (all_methods s) here bounded.body-numbers in
      let b = bounds_out_of_range s n.below in
      let i = flat_map (number_out_of_range s) (instructions_with INSTRUCTION_OP_NUM n.below) in
      let x = flat_map (real_out_of_range s) (instructions_with INSTRUCTION_OP_REAL n.below) in
      let v = flat_map (variable_out_of_range s n.below) (instructions_with INSTRUCTION_OP_VAR n.below) in
      let l = flat_map (local_misnumbered s) (enumerate_from 0 (locals n.below)) in
      let both = empty_in (b ++ i ++ x ++ v ++ l ++ past_count (locals n.below)) (past_count (clause_forests n.below)) all in
      ((empty_in (b ++ i ++ x ++ v ++ l) (past_count (locals n.below)) both.0).1, both.1)

  clauses_formed : (m : ℕ) → m ≡ length (instructions_of n.below) → list_all (is_clause m) (clauses s n.around n.below) ≡ true
  unfolding is_clause
  clauses_formed m same = go (guarded n.below) (nothing_at (λ x. flat_map (clause_backwards s x) (guarded x.below)) n (all_methods s) here bounded.clauses)
    where
      go : (gs : List Guarded) → flat_map (clause_backwards s n) gs ≡ [] → list_all (is_clause m) (map (clause s n.around n.below) gs) ≡ true
      go [] e = refl
      go (g ∷ gs) e =
          let both = empty_in (clause_backwards s n g) (flat_map (clause_backwards s n) gs) e in
          let forward = unless (is_forward (clause s n.around n.below g)) (first_token g.clause.below) both.0 in
          let inside : is_inside m (clause s n.around n.below g) ≡ true = ap (λ k. is_inside k (clause s n.around n.below g)) same ∙ clause_inside s n.around n.below g in
          and_from (is_clause m (clause s n.around n.below g)) (list_all (is_clause m) (map (clause s n.around n.below) gs))
          (and_from (is_forward (clause s n.around n.below g)) (is_inside m (clause s n.around n.below g)) forward inside) (go gs both.1)

  -- where its instructions fit, a body has the form of one
  pub form_formed : option_all fits_instructions (body s n.around n.below) ≡ true → option_all has_form (body s n.around n.below) ≡ true
  unfolding body code has_body_form
  form_formed h = go (map (instruction s n.around n.below) (instructions_of n.below)) (length-map (instructions_of n.below) (instruction s n.around n.below)) h
    where
      go : (is : List Ins) → length is ≡ length (instructions_of n.below) → option_all fits_instructions (body_unless_empty s n.around n.below is) ≡ true
          → option_all has_form (body_unless_empty s n.around n.below is) ≡ true
      go [] same fit = refl
      go (i ∷ is) same fit =
          let b : List Ins = i ∷ is in
          let parted = and_parts (list_all (is_instruction (length b)) b) (short_branches_reach b) fit in
          let few = at_most (locals n.below) counts.0 in
          let few_clauses = at_most (clause_forests n.below) counts.1 in
          let c1 = and_from (nat_lt 0 (length b)) (is_count (length (local_types s n.around n.below))) (lt-ltb 0 (length b) (omega arith))
          (count_is (length (local_types s n.around n.below)) (omega (arith, few, length-map (locals n.below) (the_type s n.around)))) in
          let c2 = and_from (nat_lt 0 (length b) && is_count (length (local_types s n.around n.below))) (is_count (length (clauses s n.around n.below))) c1
          (count_is (length (clauses s n.around n.below))
          (omega (
            arith,
            few_clauses,
            length-map (guarded n.below) (clause s n.around n.below),
            length-map (guarded n.below) (λ (g : Guarded). g.clause.below),
          ))) in
          let c3 = and_from (nat_lt 0 (length b) && is_count (length (local_types s n.around n.below)) && is_count (length (clauses s n.around n.below))) (list_all (is_instruction (length b)) b) c2 parted.0 in
          let c4 = and_from (nat_lt 0 (length b) && is_count (length (local_types s n.around n.below)) && is_count (length (clauses s n.around n.below)) && list_all (is_instruction (length b)) b)
          (list_all (is_clause (length b)) (clauses s n.around n.below)) c3 (clauses_formed (length b) same) in
          and_from
          (nat_lt 0 (length b) && is_count (length (local_types s n.around n.below)) && is_count (length (clauses s n.around n.below)) && list_all (is_instruction (length b)) b
          && list_all (is_clause (length b)) (clauses s n.around n.below))
          (short_branches_reach b) c4 parted.1
