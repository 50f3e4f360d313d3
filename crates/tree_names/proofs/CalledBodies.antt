-- The instructions of a called body have the forms and lengths of those of the body.
use Rattle.std.proofs.Common.{◌≡◌, ◌∙◌, ap, sym, refl, ℕ, zero, suc, ◌+◌, ◌&&◌, Bool, true, List, [], ◌∷◌, map, length, take, nat_lt, nat_le}
use Rattle.std.specs.List.{list_all, enumerate_from, sum_by}
use Rattle.std.proofs.lemmas.List.Sums.{sum_by-cons}
use Rattle.opcode_table.specs.declared.kind.OperandKind.{OperandKind}
use Rattle.opcode_table.specs.declared.kind.OperandKind.TheVariants as kind
use Rattle.type_terms.specs.declared.reference.FieldRef.{FieldRef}
use Rattle.type_terms.specs.declared.reference.MethodRef.{MethodRef}
use Rattle.type_terms.specs.declared.term.Owner.{Owner}
use Rattle.assembly_tree.specs.declared.body.Clause.{Clause}
use Rattle.assembly_tree.specs.declared.body.ClauseKind as handles
use Rattle.assembly_tree.specs.declared.body.Ins.{Ins}
use Rattle.assembly_tree.specs.declared.body.Operand as operand
use Rattle.assembly_tree.specs.WellFormedBodies.{opcode_size, are_targets, filter_before, fits_kind, is_clause, is_filter_inside, is_forward, is_inside, is_instruction, is_near, offset_of, operand_kind, operand_size, reaches, reaches_at, short_branches_reach, size_of, targets_size}
use Rattle.tree_names.specs.Called.{Call, called_clause, called_field_ref, called_handled, called_instruction, called_method_ref, called_operand, called_owner}

-- ---- operands

fits_method : (k : OperandKind) (m n : MethodRef) → fits_kind k (operand.TheVariants.Method m) ≡ fits_kind k (operand.TheVariants.Method n)
fits_method kind.Method m n = refl
fits_method k m n = refl

fits_field : (k : OperandKind) (m n : FieldRef) → fits_kind k (operand.TheVariants.Field m) ≡ fits_kind k (operand.TheVariants.Field n)
fits_field kind.Field m n = refl
fits_field k m n = refl

fits_owner : (k : OperandKind) (m n : Owner) → fits_kind k (operand.TheVariants.Of m) ≡ fits_kind k (operand.TheVariants.Of n)
fits_owner kind.Of m n = refl
fits_owner k m n = refl

module _ (f : Call) where
  fits_called : (k : OperandKind) (o : operand.Operand) → fits_kind k (called_operand f o) ≡ fits_kind k o
  unfolding called_operand
  fits_called k (operand.TheVariants.Method m) = fits_method k (called_method_ref f m) m
  fits_called k (operand.TheVariants.Field r) = fits_field k (called_field_ref f r) r
  fits_called k (operand.TheVariants.Of o) = fits_owner k (called_owner f o) o
  fits_called k operand.TheVariants.Nothing = refl
  fits_called k (operand.TheVariants.Var n) = refl
  fits_called k (operand.TheVariants.Int n) = refl
  fits_called k (operand.TheVariants.Real bits) = refl
  fits_called k (operand.TheVariants.Target at) = refl
  fits_called k (operand.TheVariants.Targets at) = refl
  fits_called k (operand.TheVariants.Text units) = refl

  targets_called : (n : ℕ) (o : operand.Operand) → are_targets n (called_operand f o) ≡ are_targets n o
  unfolding called_operand
  targets_called n (operand.TheVariants.Method m) = refl
  targets_called n (operand.TheVariants.Field r) = refl
  targets_called n (operand.TheVariants.Of o) = refl
  targets_called n operand.TheVariants.Nothing = refl
  targets_called n (operand.TheVariants.Var k) = refl
  targets_called n (operand.TheVariants.Int k) = refl
  targets_called n (operand.TheVariants.Real bits) = refl
  targets_called n (operand.TheVariants.Target at) = refl
  targets_called n (operand.TheVariants.Targets at) = refl
  targets_called n (operand.TheVariants.Text units) = refl

  target_sizes : (o : operand.Operand) → targets_size (called_operand f o) ≡ targets_size o
  unfolding called_operand
  target_sizes (operand.TheVariants.Method m) = refl
  target_sizes (operand.TheVariants.Field r) = refl
  target_sizes (operand.TheVariants.Of o) = refl
  target_sizes operand.TheVariants.Nothing = refl
  target_sizes (operand.TheVariants.Var k) = refl
  target_sizes (operand.TheVariants.Int k) = refl
  target_sizes (operand.TheVariants.Real bits) = refl
  target_sizes (operand.TheVariants.Target at) = refl
  target_sizes (operand.TheVariants.Targets at) = refl
  target_sizes (operand.TheVariants.Text units) = refl

  operand_sizes : (k : OperandKind) (o : operand.Operand) → operand_size k (called_operand f o) ≡ operand_size k o
  operand_sizes kind.Switch o = target_sizes o
  operand_sizes k o = refl

  reach_called : (code : List Ins) (n : ℕ) (k : OperandKind) (o : operand.Operand) → reaches_at code n k (called_operand f o) ≡ reaches_at code n k o
  unfolding called_operand
  reach_called code n kind.Branch8 (operand.TheVariants.Method m) = refl
  reach_called code n kind.Branch8 (operand.TheVariants.Field r) = refl
  reach_called code n kind.Branch8 (operand.TheVariants.Of o) = refl
  reach_called code n kind.Branch8 operand.TheVariants.Nothing = refl
  reach_called code n kind.Branch8 (operand.TheVariants.Var k) = refl
  reach_called code n kind.Branch8 (operand.TheVariants.Int k) = refl
  reach_called code n kind.Branch8 (operand.TheVariants.Real bits) = refl
  reach_called code n kind.Branch8 (operand.TheVariants.Target at) = refl
  reach_called code n kind.Branch8 (operand.TheVariants.Targets at) = refl
  reach_called code n kind.Branch8 (operand.TheVariants.Text units) = refl
  reach_called code n k o = refl

  -- ---- instructions

  pub instruction_called : (n : ℕ) (i : Ins) → is_instruction n (called_instruction f i) ≡ is_instruction n i
  unfolding called_instruction
  instruction_called n i = λ j. (fits_called (operand_kind i.op) i.operand j && targets_called n i.operand j)

  size_called : (i : Ins) → size_of (called_instruction f i) ≡ size_of i
  unfolding called_instruction size_of
  size_called i = ap (λ n. opcode_size i.op + n) (operand_sizes (operand_kind i.op) i.operand)

  offset_called : (code : List Ins) (k : ℕ) → offset_of (map (called_instruction f) code) k ≡ offset_of code k
  offset_called code zero = refl
  offset_called [] (suc k) = refl
  offset_called (i ∷ code) (suc k) =
      sum_by-cons size_of (called_instruction f i) (take k (map (called_instruction f) code)) ∙ (λ j. size_called i j + offset_called code k j)
      ∙ sym (sum_by-cons size_of i (take k code))

  near_called : (code : List Ins) (n : ℕ) (k : OperandKind) (o : operand.Operand) → reaches_at (map (called_instruction f) code) n k o ≡ reaches_at code n k o
  near_called code n kind.Branch8 (operand.TheVariants.Target at) = λ i. is_near (offset_called code (n + 1) i) (offset_called code at i)
  near_called code n k o = refl

  each_called : (code : List Ins) (n : ℕ) (xs : List Ins)
      → list_all (reaches (map (called_instruction f) code)) (enumerate_from n (map (called_instruction f) xs)) ≡ list_all (reaches code) (enumerate_from n xs)
  unfolding called_instruction
  each_called code n [] = refl
  each_called code n (i ∷ xs) = λ j.
      ((near_called code n (operand_kind i.op) (called_operand f i.operand) ∙ reach_called code n (operand_kind i.op) i.operand) j && each_called code (n + 1) xs j)

  pub branches_called : (code : List Ins) → short_branches_reach (map (called_instruction f) code) ≡ short_branches_reach code
  unfolding short_branches_reach
  branches_called code = each_called code 0 code

  -- ---- clauses

  before_called : (n : ℕ) (k : handles.ClauseKind) → filter_before n (called_handled f k) ≡ filter_before n k
  unfolding called_handled
  before_called n (handles.TheVariants.Catch o) = refl
  before_called n (handles.TheVariants.Filter at) = refl
  before_called n handles.TheVariants.Finally = refl
  before_called n handles.TheVariants.Fault = refl

  inside_called : (n : ℕ) (k : handles.ClauseKind) → is_filter_inside n (called_handled f k) ≡ is_filter_inside n k
  unfolding called_handled
  inside_called n (handles.TheVariants.Catch o) = refl
  inside_called n (handles.TheVariants.Filter at) = refl
  inside_called n handles.TheVariants.Finally = refl
  inside_called n handles.TheVariants.Fault = refl

  pub clause_called : (n : ℕ) (c : Clause) → is_clause n (called_clause f c) ≡ is_clause n c
  unfolding called_clause is_clause
  clause_called n c = λ j.
      (nat_lt c.try_start c.try_end && nat_lt c.handler_start c.handler_end && before_called c.handler_start c.kind j)
      && (nat_le c.try_start n && nat_le c.try_end n && nat_le c.handler_start n && nat_le c.handler_end n && inside_called n c.kind j)
