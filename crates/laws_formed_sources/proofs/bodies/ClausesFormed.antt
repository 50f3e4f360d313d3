-- Exception clauses are forward and inside of their method, in a source that breaks no rule (ECMA-335 II.19, II.25.4.6).
use Rattle.std.proofs.Common.{◌≡◌, ℕ, ◌≤◌, List, [], ◌∷◌, ◌++◌, length, refl, ap, sym, ◌∙◌, arith, length-append, nat_le}
use Rattle.std.specs.Prelude.{Bool, true, false, ◌==◌, ◌&&◌, if◌then◌else◌}
use Rattle.std.specs.List.{flat_map, list_all}
use Rattle.std.proofs.lemmas.Bool.{and_from, le-leb}
use Rattle.std.proofs.lemmas.List.{length-map}
use Rattle.assembly_tree.specs.WellFormedBodies.{is_clause, is_filter_inside, is_forward, is_inside}
use Rattle.assembly_tree.specs.declared.body.ClauseKind.TheVariants as handles
use Rattle.ilasm_grammar.specs.declared.productions.TheConstants.{CLAUSE_CATCH, CLAUSE_FILTER, CLAUSE_FINALLY, FILTER_START_BLOCK, FILTER_START_NAME, HANDLER_BLOCK, HANDLER_HANDLER, ITEM_TRY, TRY_RANGE_BLOCK, TRY_RANGE_NAME}
use Rattle.source_model.specs.BodyFaults.{clause_backwards}
use Rattle.source_model.specs.BodyNumbers.{clause_forests}
use Rattle.source_model.specs.Clauses.{Guarded, Range, block_in, clause, clause_forms, clause_kind, clauses, filter_start, guarded, guarded_in, handler_range, label_range, scope_range, stands, try_range}
use Rattle.source_model.specs.Forest.{Forest, Part, none, leaf, branch, child, first_token, is_among, leaf_at, part}
use Rattle.source_model.specs.Instructions.{instructions_of, label_number, number_at}
use Rattle.source_model.specs.Nodes.{Around, Node}
use Rattle.source_model.specs.Source.{Source}
use Rattle.source_model.specs.Types.{the_owner}
use Rattle.check_bodies.proofs.ShortBranchLemmas.{number_within}
use Rattle.laws_formed_sources.proofs.sources.Members.{In}
use Rattle.laws_formed_sources.proofs.bodies.Methods.{all_pass, none_of}

-- ---- how many there are

pub as_many_clauses : (f : Forest) → length (guarded f) ≡ length (clause_forests f)
as_many_clauses f = sym (length-map (guarded f) (λ (g : Guarded). g.clause.below))

-- ---- their numbers

module _ (s : Source) (a : Around) (f : Forest) (label_within : (k : ℕ) → label_number s f k ≤ length (instructions_of f)) where
  abbrev count : ℕ
  count = length (instructions_of f)

  number : (k : ℕ) → nat_le (number_at f k) count ≡ true
  number k = le-leb (number_at f k) count (number_within f k)

  labelled : (k : ℕ) → nat_le (label_number s f k) count ≡ true
  labelled k = le-leb (label_number s f k) count (label_within k)

  abbrev IsWithin : Range → Type 0
  IsWithin r = (nat_le r.start count ≡ true) × (nat_le r.end count ≡ true)

  either : (c : Bool) (x y : Range) → IsWithin x → IsWithin y → IsWithin (if c then x else y)
  either true x y h i = h
  either false x y h i = i

  by_labels : (from to : ℕ) → IsWithin (label_range s f from to)
  by_labels from to = (labelled from, labelled to)

  by_scope : (block : Forest) → IsWithin (scope_range f block)
  by_scope block = (number (leaf_at 0 block), number (leaf_at 1 block))

  try_within : (tried : Forest) → IsWithin (try_range s f tried)
  try_within tried =
      either (stands TRY_RANGE_NAME tried) _ _ (by_labels (leaf_at 0 (child (TRY_RANGE_NAME ∷ []) tried)) (leaf_at 2 (child (TRY_RANGE_NAME ∷ []) tried)))
      (by_scope (block_in TRY_RANGE_BLOCK tried))

  handler_within : (b : Forest) → IsWithin (handler_range s f b)
  handler_within b =
      either (stands HANDLER_HANDLER b) _ _ (by_labels (leaf_at 1 (child (HANDLER_HANDLER ∷ []) b)) (leaf_at 3 (child (HANDLER_HANDLER ∷ []) b)))
      (by_scope (block_in HANDLER_BLOCK b))

  filter_within : (b : Forest) → nat_le (filter_start s f b) count ≡ true
  filter_within b = go (stands FILTER_START_NAME b)
    where
      go : (c : Bool) → nat_le (if c then label_number s f (leaf_at 0 (child (FILTER_START_NAME ∷ []) b)) else number_at f (leaf_at 0 (block_in FILTER_START_BLOCK b))) count ≡ true
      go true = labelled (leaf_at 0 (child (FILTER_START_NAME ∷ []) b))
      go false = number (leaf_at 0 (block_in FILTER_START_BLOCK b))

  kind_within : (p : Part) → is_filter_inside count (clause_kind s a f p) ≡ true
  kind_within p = go (p.production == CLAUSE_CATCH) (p.production == CLAUSE_FILTER) (p.production == CLAUSE_FINALLY)
    where
      go : (c d e : Bool) → is_filter_inside count (if c then handles.Catch (the_owner s a p.below) else if d then handles.Filter (filter_start s f p.below) else if e then handles.Finally else handles.Fault) ≡ true
      go true d e = refl
      go false true e = filter_within p.below
      go false false true = refl
      go false false false = refl

  inside : (g : Guarded) → is_inside count (clause s a f g) ≡ true
  inside g =
      let c = clause s a f g in
      let t = try_within g.tried in
      let h = handler_within g.clause.below in
      let two = and_from (nat_le c.try_start count) (nat_le c.try_end count) t.0 t.1 in
      let three = and_from (nat_le c.try_start count && nat_le c.try_end count) (nat_le c.handler_start count) two h.0 in
      let four = and_from (nat_le c.try_start count && nat_le c.try_end count && nat_le c.handler_start count) (nat_le c.handler_end count) three h.1 in
      and_from (nat_le c.try_start count && nat_le c.try_end count && nat_le c.handler_start count && nat_le c.handler_end count) (is_filter_inside count c.kind) four (kind_within g.clause)

  pub clauses_formed : ((g : Guarded) → In g (guarded f) → is_forward (clause s a f g) ≡ true) → list_all (is_clause count) (clauses s a f) ≡ true
  unfolding is_clause
  clauses_formed forward =
      all_pass (is_clause count) (clause s a f) (guarded f)
      (λ g i. and_from (is_forward (clause s a f g)) (is_inside count (clause s a f g)) (forward g i) (inside g))

pub forward : (s : Source) (n : Node) → flat_map (clause_backwards s n) (guarded n.below) ≡ [] → (g : Guarded) → In g (guarded n.below)
    → is_forward (clause s n.around n.below g) ≡ true
forward s n e g i = holds (is_forward (clause s n.around n.below g)) (first_token g.clause.below) (none_of (clause_backwards s n) g (guarded n.below) i e)
  where
    holds : (c : Bool) (k : ℕ) → (if c then [] else k ∷ []) ≡ [] → c ≡ true
    holds true k e = refl
    holds false k e = absurd cc
