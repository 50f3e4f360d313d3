-- The bodies of a well-formed assembly can be written, where names can, texts are loaded and numbers are in range.
use Rattle.std.proofs.Common.{◌≡◌, ap, refl, sym, ◌∙◌, subst, ℕ, zero, suc, ◌+◌, ◌^◌, ◌<◌, ◌≤◌, nat_lt, nat_le, List, [], ◌∷◌, take, length, get_or, Option, Some, None, arith}
use Rattle.std.specs.Prelude.{IsTrue, sum_by, pos, ◌-ℤ◌}
use Rattle.std.specs.List.{AllByRecursion, enumerate_from, flat_map, list_all}
use Rattle.std.proofs.Math.Seq.{take-length}
use Rattle.std.proofs.lemmas.Bool.{and_parts, ltb-true, leb-true}
use Rattle.std.proofs.lemmas.Int.{ints}
use Rattle.std.proofs.lemmas.List.Elements.{All-from_recursion}
use Rattle.std.proofs.lemmas.List.Sums.{sum_by-cons}
use Rattle.opcode_table.specs.declared.kind.OperandKind.{OperandKind}
use Rattle.opcode_table.specs.declared.kind.OperandKind.TheVariants as kinds
use Rattle.assembly_tree.specs.Room.{instruction_texts, body_texts, operand_texts}
use Rattle.assembly_tree.specs.Weight.{optional, operand_weight, instruction_weight, handled_weight, clause_weight, body_weight}
use Rattle.assembly_tree.specs.WellFormedBodies.{fits_kind, are_targets, is_instruction, is_operand, is_handled, operand_kind, offset_of, is_near, reaches, reaches_at, short_branches_reach, is_forward, is_inside, filter_before, is_filter_inside, is_clause, is_body}
use Rattle.assembly_tree.specs.WellFormedBodies as tree
use Rattle.assembly_tree.specs.WellFormedNames.{option_all, is_type_name}
use Rattle.assembly_tree.specs.declared.assembly.Assembly.{Assembly}
use Rattle.assembly_tree.specs.declared.body.Body.{Body}
use Rattle.assembly_tree.specs.declared.body.Clause.{Clause}
use Rattle.assembly_tree.specs.declared.body.ClauseKind as handled
use Rattle.assembly_tree.specs.declared.body.Ins.{Ins}
use Rattle.assembly_tree.specs.declared.body.Operand as operand
use Rattle.assembly_tree.proofs.FormedFacts.{bodies_named}
use Rattle.body_codec.specs.Encoding.{FitsBytes, IsFar, IsFirstFar, OperandFits, KindFits, ClauseFits, CanBeWritten, distance, ins_size, offset}
use Rattle.body_codec.specs.Instruction.{kind}
use Rattle.type_terms.specs.declared.name.TypeName.{TypeName}
use Rattle.image_tokens.specs.Units.{IsLoadable}
use Rattle.image_tokens.specs.Writable.{CanBeNamed, IsOperandWritable, IsInstructionWritable, IsHandledWritable, IsClauseWritable, IsBodyWritable}
use Rattle.image_tokens.specs.declared.references.References.{References}
use Rattle.image_members.specs.CodeBytes.{any_token, CanPushBody, CanPushStated}
use Rattle.laws_writable_trees.specs.Ranges.{IsInRange, IsStatedInRange}
use Rattle.laws_writable_trees.proofs.Bounds.{types_bounds}
use Rattle.laws_writable_trees.proofs.Each.{split_three, split_five, each_from, each_true, each_both, each_apart}
use Rattle.laws_writable_trees.proofs.Members.{method_ref_can, field_ref_can}
use Rattle.laws_writable_trees.proofs.Operands.{instruction_fits, same_kind, same_size, size_light}
use Rattle.laws_writable_trees.proofs.Types.{owner_can, types_can}

-- ---- what a body names

module _ (a : Assembly) (r : References) (names : (name : TypeName) → IsTrue (is_type_name a name) → CanBeNamed r name) where
  operand_can : (o : operand.Operand) → IsTrue (is_operand a o) → operand_weight o ≤ 2 ^ 26 → AllByRecursion (IsLoadable r.heaps.user) (operand_texts o) → IsOperandWritable r o
  unfolding operand_weight
  operand_can (operand.TheVariants.Method m) h k t = method_ref_can a r names m h k
  operand_can (operand.TheVariants.Field f) h k t = field_ref_can a r names f h k
  operand_can (operand.TheVariants.Of o) h k t = owner_can a r names o h k
  operand_can (operand.TheVariants.Text units) h k t = t.0
  operand_can operand.TheVariants.Nothing h k t = tt
  operand_can (operand.TheVariants.Var n) h k t = tt
  operand_can (operand.TheVariants.Int n) h k t = tt
  operand_can (operand.TheVariants.Real bits) h k t = tt
  operand_can (operand.TheVariants.Target at) h k t = tt
  operand_can (operand.TheVariants.Targets at) h k t = tt

  code_can : (code : List Ins) → IsTrue (list_all (λ (i : Ins). is_operand a i.operand) code) → sum_by instruction_weight code ≤ 2 ^ 26
      → AllByRecursion (IsLoadable r.heaps.user) (flat_map instruction_texts code) → AllByRecursion (IsInstructionWritable r) code
  unfolding instruction_weight instruction_texts
  code_can [] h k t = tt
  code_can (i ∷ code) h k t =
      let both = and_parts (is_operand a i.operand) (list_all (λ (i : Ins). is_operand a i.operand) code) h in
      let all = sum_by-cons instruction_weight i code in
      let texts = each_apart (IsLoadable r.heaps.user) (operand_texts i.operand) (flat_map instruction_texts code) t in
      (operand_can i.operand both.0 (omega arith) texts.0, code_can code both.1 (omega arith) texts.1)

  handled_can : (c : handled.ClauseKind) → IsTrue (is_handled a c) → handled_weight c ≤ 2 ^ 26 → IsHandledWritable r c
  unfolding handled_weight
  handled_can (handled.TheVariants.Catch o) h k = owner_can a r names o h k
  handled_can (handled.TheVariants.Filter at) h k = tt
  handled_can handled.TheVariants.Finally h k = tt
  handled_can handled.TheVariants.Fault h k = tt

  clauses_can : (cs : List Clause) → IsTrue (list_all (λ (c : Clause). is_handled a c.kind) cs) → sum_by clause_weight cs ≤ 2 ^ 26 → AllByRecursion (IsClauseWritable r) cs
  unfolding clause_weight
  clauses_can [] h k = tt
  clauses_can (c ∷ cs) h k =
      let both = and_parts (is_handled a c.kind) (list_all (λ (c : Clause). is_handled a c.kind) cs) h in
      let all = sum_by-cons clause_weight c cs in
      (handled_can c.kind both.0 (omega arith), clauses_can cs both.1 (omega arith))

  body_named : (b : Body) → IsTrue (is_body a b) → body_weight b ≤ 2 ^ 26 → AllByRecursion (IsLoadable r.heaps.user) (flat_map instruction_texts b.code) → IsBodyWritable r b
  unfolding body_weight
  body_named b h k t =
      let f = (bodies_named a b).0 h in
      let few = leb-true (length b.locals) 65535 f.local_count in
      record {
        locals = types_can a r names b.locals f.locals (omega arith);
        count = omega arith;
        in_bounds = types_bounds a b.locals f.locals (omega arith) few;
        code = code_can b.code f.operands (omega arith) t;
        clauses = clauses_can b.clauses f.catches (omega arith);
      }

-- ---- its form

kind_fits : (handler count : ℕ) (c : handled.ClauseKind) → IsTrue (filter_before handler c) → KindFits any_token handler c
kind_fits handler count (handled.TheVariants.Catch o) h = refl
kind_fits handler count (handled.TheVariants.Filter at) h = ltb-true at handler h
kind_fits handler count handled.TheVariants.Finally h = tt
kind_fits handler count handled.TheVariants.Fault h = tt

clause_fits : (count : ℕ) (c : Clause) → IsTrue (is_clause count c) → ClauseFits any_token count c
unfolding is_clause
clause_fits count c h =
    let both = and_parts (is_forward c) (is_inside count c) h in
    let forward = split_three (nat_lt c.try_start c.try_end) (nat_lt c.handler_start c.handler_end) (filter_before c.handler_start c.kind) both.0 in
    let inside = split_five (nat_le c.try_start count) (nat_le c.try_end count) (nat_le c.handler_start count) (nat_le c.handler_end count) (is_filter_inside count c.kind) both.1 in
    record {
      try_some = ltb-true c.try_start c.try_end forward.0;
      try_inside = leb-true c.try_end count inside.1;
      handler_some = ltb-true c.handler_start c.handler_end forward.1;
      handler_inside = leb-true c.handler_end count inside.3;
      kind = kind_fits c.handler_start count c.kind forward.2;
    }

sizes_light : (count : ℕ) (code : List Ins) → AllByRecursion (λ i. IsTrue (is_instruction count i)) code → sum_by ins_size code ≤ sum_by instruction_weight code
sizes_light count [] h = omega arith
sizes_light count (i ∷ code) h =
    let one = size_light count i h.0 in
    let rest = sizes_light count code h.1 in
    let left = sum_by-cons ins_size i code in
    let right = sum_by-cons instruction_weight i code in
    omega arith

whole_code : (code : List Ins) → offset code (length code) ≡ sum_by ins_size code
unfolding offset
whole_code code = ap (sum_by ins_size) (take-length code)

body_formed : (a : Assembly) (b : Body) → IsTrue (is_body a b) → body_weight b ≤ 2 ^ 26 → AllByRecursion IsInRange b.code → CanBeWritten any_token b
unfolding body_weight
body_formed a b h k range =
    let f = (bodies_named a b).0 h in
    let count = length b.code in
    let fits = each_true (is_instruction count) b.code f.instructions in
    let light = sizes_light count b.code fits in
    let end = whole_code b.code in
    record {
      some = ltb-true 0 count f.some_code;
      operands = All-from_recursion (λ (i : Ins). OperandFits any_token count (kind i.op) i.operand) b.code
          (each_from (λ i. IsTrue (is_instruction count i) × IsInRange i) (λ (i : Ins). OperandFits any_token count (kind i.op) i.operand) (λ i both. instruction_fits count i both.0 both.1) b.code
          (each_both (λ i. IsTrue (is_instruction count i)) IsInRange b.code fits range));
      size = omega arith;
      few = leb-true (length b.clauses) 65535 f.clause_count;
      clauses = All-from_recursion (ClauseFits any_token count) b.clauses
          (each_from (λ c. IsTrue (is_clause count c)) (ClauseFits any_token count) (clause_fits count) b.clauses (each_true (is_clause count) b.clauses f.ranges));
      locals = λ some. (1, refl, λ e. omega arith);
    }

-- ---- short branches

-- what holds of numbered items holds of the item with a number
numbered_at : {X : Type 0} (P : ℕ × X → Type 0) (n : ℕ) (xs : List X) → AllByRecursion P (enumerate_from n xs) → (k : ℕ) (d : X) → k < length xs → P (n + k, get_or xs k d)
numbered_at P n [] h k d low = absurd (omega arith)
numbered_at P n (x ∷ xs) h zero d low = let same : n ≡ n + 0 = omega arith in subst (λ (m : ℕ). P (m, x)) same h.0
numbered_at P n (x ∷ xs) h (suc k) d low = let same : n + 1 + k ≡ n + suc k = omega arith in subst (λ (m : ℕ). P (m, get_or xs k d)) same (numbered_at P (n + 1) xs h.1 k d (omega arith))

sums_same : (count : ℕ) (code : List Ins) → AllByRecursion (λ i. IsTrue (is_instruction count i)) code → (k : ℕ) → sum_by ins_size (take k code) ≡ sum_by tree.size_of (take k code)
sums_same count [] h zero = refl
sums_same count [] h (suc k) = refl
sums_same count (i ∷ code) h zero = refl
sums_same count (i ∷ code) h (suc k) =
    let one = same_size count i h.0 in
    let rest = sums_same count code h.1 k in
    let left = sum_by-cons ins_size i (take k code) in
    let right = sum_by-cons tree.size_of i (take k code) in
    omega arith

same_offset : (count : ℕ) (code : List Ins) → AllByRecursion (λ i. IsTrue (is_instruction count i)) code → (k : ℕ) → offset code k ≡ offset_of code k
unfolding offset
same_offset count code h k = sums_same count code h k

near : (from to : ℕ) → IsTrue (is_near from to) → FitsBytes 1 (pos to -ℤ pos from)
near from to h =
    let both = and_parts (nat_le from (to + 0x80)) (nat_le to (from + 0x7F)) h in
    let low = leb-true from (to + 0x80) both.0 in
    let high = leb-true to (from + 0x7F) both.1 in
    record { low = omega (arith, ints); high = omega (arith, ints) }

reached : (code : List Ins) (k to : ℕ) (form : OperandKind) (o : operand.Operand) → form ≡ kinds.Branch8 → o ≡ operand.TheVariants.Target to → IsTrue (reaches_at code k form o)
    → IsTrue (is_near (offset_of code (k + 1)) (offset_of code to))
reached code k to form o e f h = subst (λ (p : operand.Operand). IsTrue (reaches_at code k kinds.Branch8 p)) f (subst (λ (m : OperandKind). IsTrue (reaches_at code k m o)) e h)

not_far : (count : ℕ) (code : List Ins) → AllByRecursion (λ i. IsTrue (is_instruction count i)) code → IsTrue (short_branches_reach code) → (k : ℕ) (i : Ins) → IsTrue (reaches code (k, i))
    → IsFar code k i → ⊥
not_far count code fits h k i reach far =
    let form : operand_kind i.op ≡ kinds.Branch8 = same_kind i.op ∙ far.short in
    let close = near (offset_of code (k + 1)) (offset_of code far.to) (reached code k far.to (operand_kind i.op) i.operand form far.branch reach) in
    let here : pos (offset_of code far.to) -ℤ pos (offset_of code (k + 1)) ≡ distance code k far.to =
    ap (λ n. pos n -ℤ pos (offset_of code (k + 1))) (sym (same_offset count code fits far.to)) ∙ ap (λ n. pos (offset code far.to) -ℤ pos n) (sym (same_offset count code fits (k + 1))) in
    far.far (subst (FitsBytes 1) here close)

none_far : (count : ℕ) (code : List Ins) → AllByRecursion (λ i. IsTrue (is_instruction count i)) code → IsTrue (short_branches_reach code) → (at : ℕ) → IsFirstFar code at → ⊥
unfolding short_branches_reach
none_far count [] fits h at first = omega (arith, first.within)
none_far count (i ∷ code) fits h at first =
    let all = each_true (reaches (i ∷ code)) (enumerate_from 0 (i ∷ code)) h in
    let here = numbered_at (λ e. IsTrue (reaches (i ∷ code) e)) 0 (i ∷ code) all at i first.within in
    let same : 0 + at ≡ at = omega arith in
    not_far count (i ∷ code) fits h at (get_or (i ∷ code) at i) (subst (λ (n : ℕ). IsTrue (reaches (i ∷ code) (n, get_or (i ∷ code) at i))) same here) (first.far i)

-- ---- the whole

module _ (a : Assembly) (r : References) (names : (name : TypeName) → IsTrue (is_type_name a name) → CanBeNamed r name) where
  body_can : (b : Body) → IsTrue (is_body a b) → body_weight b ≤ 2 ^ 26 → AllByRecursion (IsLoadable r.heaps.user) (flat_map instruction_texts b.code) → AllByRecursion IsInRange b.code
      → CanPushBody r b
  body_can b h k t range =
      let f = (bodies_named a b).0 h in
      let fits = each_true (is_instruction (length b.code)) b.code f.instructions in
      record { writable = body_named a r names b h k t; form = body_formed a b h k range; reaches = none_far (length b.code) b.code fits f.short_branches }

  pub stated_can : (b : Option Body) → IsTrue (option_all (is_body a) b) → optional body_weight b ≤ 2 ^ 26 → AllByRecursion (IsLoadable r.heaps.user) (body_texts b) → IsStatedInRange b
      → CanPushStated r b
  unfolding body_texts
  stated_can None h k t range = tt
  stated_can (Some b) h k t range = body_can b h k t range
