-- Edges of a well-formed body lead to instructions.
use Rattle.std.proofs.Common.{◌≡◌, ℕ, zero, suc, ◌<◌, ◌≤◌, Bool, true, ◌&&◌, List, [], ◌∷◌, length, sym, ◌∙◌, ap, Some, arith}
use Rattle.std.specs.Prelude.{slice_get, nat_lt, nat_le}
use Rattle.std.specs.List.{Contains, list_all}
use Rattle.std.proofs.lemmas.Bool.{and_parts, ltb-true, leb-true}
use Rattle.assembly_tree.specs.declared.body.Clause.{Clause}
use Rattle.assembly_tree.specs.declared.body.ClauseKind.{ClauseKind}
use Rattle.assembly_tree.specs.declared.body.ClauseKind.TheVariants.{Filter}
use Rattle.assembly_tree.specs.declared.body.Ins.{Ins}
use Rattle.assembly_tree.specs.declared.body.Operand as operand
use Rattle.assembly_tree.specs.WellFormedBodies.{is_instruction, is_clause, are_targets, fits_kind, operand_kind, is_forward, is_inside, filter_before, is_filter_inside}
use Rattle.code_flow.specs.Frames.{Frame}
use Rattle.code_flow.specs.Edges.{targets}
use Rattle.code_flow.specs.Laws.{IsFormed}

pub all_at : {X : Type 0} (p : X → Bool) (xs : List X) (k : ℕ) (x : X) → list_all p xs ≡ true → slice_get xs k ≡ Some x → p x ≡ true
all_at p [] k x h e = absurd (let f : ⊥ = cc in f)
all_at p (y ∷ ys) zero x h e = let is : y ≡ x = cc in ap p (sym is) ∙ (and_parts (p y) (list_all p ys) h).0
all_at p (y ∷ ys) (suc k) x h e = all_at p ys k x (and_parts (p y) (list_all p ys) h).1 e

pub all_in : {X : Type 0} (p : X → Bool) (xs : List X) (x : X) → list_all p xs ≡ true → Contains xs x → p x ≡ true
all_in p [] x h (k, less, e) = absurd (omega arith)
all_in p (y ∷ ys) x h (zero, less, e) = ap p (sym e) ∙ (and_parts (p y) (list_all p ys) h).0
all_in p (y ∷ ys) x h (suc k, less, e) = all_in p ys x (and_parts (p y) (list_all p ys) h).1 (k, omega arith, e)

none_in : {X : Type 0} (x : X) → Contains [] x → ⊥
none_in x (k, less, e) = omega arith

one_in : (y x : ℕ) → Contains (y ∷ []) x → y ≡ x
one_in y x (zero, less, e) = e
one_in y x (suc k, less, e) = absurd (omega arith)

operand_targets : (n : ℕ) (o : operand.Operand) (t : ℕ) → are_targets n o ≡ true → Contains (targets o) t → t < n
operand_targets n (operand.TheVariants.Target at) t h c = let below : at < n = ltb-true at n h in omega (arith, one_in at t c)
operand_targets n (operand.TheVariants.Targets ts) t h c = ltb-true t n (all_in (λ (x : ℕ). nat_lt x n) ts t h c)
operand_targets n operand.TheVariants.Nothing t h c = absurd (none_in t c)
operand_targets n (operand.TheVariants.Var m) t h c = absurd (none_in t c)
operand_targets n (operand.TheVariants.Int m) t h c = absurd (none_in t c)
operand_targets n (operand.TheVariants.Real m) t h c = absurd (none_in t c)
operand_targets n (operand.TheVariants.Method m) t h c = absurd (none_in t c)
operand_targets n (operand.TheVariants.Field m) t h c = absurd (none_in t c)
operand_targets n (operand.TheVariants.Of m) t h c = absurd (none_in t c)
operand_targets n (operand.TheVariants.Text m) t h c = absurd (none_in t c)

pub target_within : (f : Frame) → IsFormed f → (k : ℕ) (i : Ins) (t : ℕ) → slice_get f.code k ≡ Some i → Contains (targets i.operand) t → t < length f.code
target_within f formed k i t at c =
    let n = length f.code in
    let ok = all_at (is_instruction n) f.code k i formed.targets at in
    operand_targets n i.operand t (and_parts (fits_kind (operand_kind i.op) i.operand) (are_targets n i.operand) ok).1 c

-- what is known of a clause
pub record ClauseWithin (n : ℕ) (c : Clause) : Type 0 where
  pub handler : c.handler_start < n
  pub filter : (at : ℕ) → c.kind ≡ Filter at → at < n

filter_first : (start at : ℕ) (k : ClauseKind) → k ≡ Filter at → filter_before start k ≡ true → at < start
filter_first start at k e h = ltb-true at start (ap (filter_before start) (sym e) ∙ h)

clause_within : (n : ℕ) (c : Clause) → is_clause n c ≡ true → ClauseWithin n c
unfolding is_clause
clause_within n c h =
    let both = and_parts (is_forward c) (is_inside n c) h in
    let forward = and_parts (nat_lt c.try_start c.try_end && nat_lt c.handler_start c.handler_end) (filter_before c.handler_start c.kind) both.0 in
    let ranges = and_parts (nat_lt c.try_start c.try_end) (nat_lt c.handler_start c.handler_end) forward.0 in
    let less : c.handler_start < c.handler_end = ltb-true c.handler_start c.handler_end ranges.1 in
    let inside = and_parts (nat_le c.try_start n && nat_le c.try_end n && nat_le c.handler_start n && nat_le c.handler_end n) (is_filter_inside n c.kind) both.1 in
    let ends = and_parts (nat_le c.try_start n && nat_le c.try_end n && nat_le c.handler_start n) (nat_le c.handler_end n) inside.0 in
    let last : c.handler_end ≤ n = leb-true c.handler_end n ends.1 in
    record {
      handler = omega arith;
      filter = λ at e. let first : at < c.handler_start = filter_first c.handler_start at c.kind e forward.1 in omega arith;
    }

pub clause_at : (f : Frame) → IsFormed f → (k : ℕ) (c : Clause) → slice_get f.clauses k ≡ Some c → ClauseWithin (length f.code) c
clause_at f formed k c at = clause_within (length f.code) c (all_at (is_clause (length f.code)) f.clauses k c formed.clauses at)

pub clause_in : (f : Frame) → IsFormed f → (c : Clause) → Contains f.clauses c → ClauseWithin (length f.code) c
clause_in f formed c h = clause_within (length f.code) c (all_in (is_clause (length f.code)) f.clauses c formed.clauses h)
