-- Code of few instructions, none of which is `switch`: each branch in it reaches its target.
use Rattle.std.proofs.Common.{◌≡◌, ℕ, ◌+◌, ◌*◌, ◌≤◌, List, [], ◌∷◌, ◌++◌, length, map, sum_by, ap, sym, ◌∙◌, refl, arith}
use Rattle.std.proofs.lemmas.Bool.{le-leb, leb-true}
use Rattle.std.proofs.lemmas.List.Sums.{sum_by-cons, sum_by-take-le}
use Rattle.std.specs.Prelude.{Bool, true, false, not, ◌&&◌, nat_le, if◌then◌else◌}
use Rattle.std.specs.List.{enumerate_from, flat_map, list_all}
use Rattle.opcode_table.specs.declared.kind.OperandKind.{OperandKind}
use Rattle.opcode_table.specs.declared.kind.OperandKind.TheVariants as kind
use Rattle.assembly_tree.specs.WellFormedBodies.{is_near, offset_of, operand_kind, reaches_at, size_of}
use Rattle.assembly_tree.specs.declared.body.Ins.{Ins}
use Rattle.assembly_tree.specs.declared.body.Operand.{Operand}
use Rattle.assembly_tree.specs.declared.body.Operand.TheVariants as operand
use Rattle.ilasm_grammar.specs.declared.tree.TreeNode.{TreeNode}
use Rattle.source_model.specs.Bodies.{code}
use Rattle.source_model.specs.BodyFaults.{branch_too_far, declared_targets}
use Rattle.source_model.specs.Forest.{Forest, Part}
use Rattle.source_model.specs.Instructions.{instructions_of, op_of, targets}
use Rattle.source_model.specs.Nodes.{Around, Node}
use Rattle.source_model.specs.Operands.{instruction, operand_of}
use Rattle.source_model.specs.Source.{Source}
use Rattle.source_nodes.specs.Pieces.{ArePieces, piece_of, written}
use Rattle.source_nodes.specs.declared.pieces.Piece.{Piece}
use Rattle.source_nodes.proofs.PieceLemmas.{as_many}
use Rattle.source_nodes.proofs.WrittenNames.{both_true}
use Rattle.check_bodies.specs.AllOfBodies.{far_in}
use Rattle.check_bodies.specs.ShortCode.{is_bounded, is_short_code}
use Rattle.check_bodies.specs.Sizes.{size_by, targets_bytes}
use Rattle.check_bodies.proofs.ShortBranchLemmas.{reaches_by}
use Rattle.check_bodies.proofs.SizeLemmas.{opcode_small, size_of_it}

-- ---- what was found, and the parts that it is

pub all_mapped : {X Y : Type 0} (t : Y → Bool) (g : X → Y) (xs : List X) → list_all t (map g xs) ≡ list_all (λ x. t (g x)) xs
all_mapped t g [] = refl
all_mapped t g (x ∷ xs) = ap (λ b. t (g x) && b) (all_mapped t g xs)

bounded_parts : (nodes : List TreeNode) (found : List Piece) (ps : List Part) → ArePieces nodes found ps
    → list_all (λ (x : Piece). is_bounded x.production) found ≡ list_all (λ (p : Part). is_bounded p.production) ps
bounded_parts nodes found ps are =
    let t : ℕ × List TreeNode → Bool = λ w. is_bounded w.0 in
    sym (all_mapped t (piece_of nodes) found) ∙ ap (list_all t) are ∙ all_mapped t written ps

-- ---- sizes

eight : (k : OperandKind) → size_by k 4 ≤ 8
eight kind.Nothing = omega arith
eight kind.Var8 = omega arith
eight kind.Var16 = omega arith
eight kind.Num8 = omega arith
eight kind.Num32 = omega arith
eight kind.Num64 = omega arith
eight kind.Byte = omega arith
eight kind.Real4 = omega arith
eight kind.Real8 = omega arith
eight kind.Branch8 = omega arith
eight kind.Branch32 = omega arith
eight kind.Switch = omega arith
eight kind.Method = omega arith
eight kind.Field = omega arith
eight kind.Of = omega arith
eight kind.Text = omega arith
eight kind.Token = omega arith

four_bytes : (p : Part) (c : Bool) → not c ≡ true → (if c then 4 + 4 * length (targets p) else 4) ≡ 4
four_bytes p true e = absurd cc
four_bytes p false e = refl

sum_mapped : {X Y : Type 0} (h : Y → ℕ) (g : X → Y) (xs : List X) → sum_by h (map g xs) ≡ sum_by (λ x. h (g x)) xs
sum_mapped h g [] = refl
sum_mapped {X = X} h g (x ∷ xs) =
    sum_by-cons h (g x) (map g xs) ∙ ap (λ n. h (g x) + n) (sum_mapped h g xs) ∙ sym (sum_by-cons {X = X} (λ y. h (g y)) x xs)

module _ (s : Source) (a : Around) (f : Forest) where
  abbrev size : Part → ℕ
  size p = size_of (instruction s a f p)

  ten : (p : Part) → is_bounded p.production ≡ true → size p ≤ 10
  ten p bounded =
      let is = size_of_it s a f p in
      let opcode = opcode_small (op_of s p) in
      let same : size_by (operand_kind (op_of s p)) (targets_bytes p) ≡ size_by (operand_kind (op_of s p)) 4 =
      ap (size_by (operand_kind (op_of s p))) (four_bytes p _ bounded) in
      let small = eight (operand_kind (op_of s p)) in
      omega (arith, is, opcode, same, small)

  ten_each : (ps : List Part) → list_all (λ (p : Part). is_bounded p.production) ps ≡ true → sum_by size ps ≤ 10 * length ps
  ten_each [] all = omega arith
  ten_each (p ∷ ps) all =
      let both = both_true (is_bounded p.production) (list_all (λ (q : Part). is_bounded q.production) ps) all in
      let here = ten p both.0 in
      let rest = ten_each ps both.1 in
      omega (arith, here, rest, sum_by-cons size p ps)

-- ---- branches

near : (from to : ℕ) → from ≤ 127 → to ≤ 127 → is_near from to ≡ true
near from to f t =
    let back : nat_le from (to + 0x80) ≡ true = le-leb from (to + 0x80) (omega (arith, f)) in
    let on : nat_le to (from + 0x7F) ≡ true = le-leb to (from + 0x7F) (omega (arith, t)) in
    ap (λ b. b && nat_le to (from + 0x7F)) back ∙ on

reaches_near : (c : List Ins) (k : ℕ) (o : Operand) → ((j : ℕ) → offset_of c j ≤ 127) → reaches_at c k kind.Branch8 o ≡ true
reaches_near c k (operand.Target at) small = near (offset_of c (k + 1)) (offset_of c at) (small (k + 1)) (small at)
reaches_near c k operand.Nothing small = refl
reaches_near c k (operand.Var n) small = refl
reaches_near c k (operand.Int n) small = refl
reaches_near c k (operand.Real bits) small = refl
reaches_near c k (operand.Targets at) small = refl
reaches_near c k (operand.Method m) small = refl
reaches_near c k (operand.Field f) small = refl
reaches_near c k (operand.Of o) small = refl
reaches_near c k (operand.Text units) small = refl

module _ (s : Source) (n : Node) where
  abbrev all : List Ins
  all = code s n.around n.below

  none_far : ((j : ℕ) → offset_of all j ≤ 127) → (i : ℕ) (ps : List Part) → flat_map (branch_too_far s n) (enumerate_from i ps) ≡ []
  none_far small i [] = refl
  none_far small i (p ∷ ps) =
      let o = operand_of s n.around n.below p in
      ap (λ (c : Bool). (if c then [] else declared_targets s n.below p) ++ flat_map (branch_too_far s n) (enumerate_from (i + 1) ps))
      (reaches_by all i (operand_kind (op_of s p)) o (reaches_near all i o small))
      ∙ none_far small (i + 1) ps

  pub near_enough : (nodes : List TreeNode) (found : List Piece) → ArePieces nodes found (instructions_of n.below) → is_short_code found ≡ true → far_in s n ≡ []
  unfolding code
  near_enough nodes found are short =
      let ps = instructions_of n.below in
      let both = both_true (nat_le (length found) 12) (list_all (λ (x : Piece). is_bounded x.production) found) short in
      let few : length found ≤ 12 = leb-true (length found) 12 both.0 in
      let many = as_many nodes found ps are in
      let bounded = sym (bounded_parts nodes found ps are) ∙ both.1 in
      let sum : sum_by size_of all ≤ 120 =
      let tens = ten_each s n.around n.below ps bounded in
      let whole = sum_mapped size_of (instruction s n.around n.below) ps in
      omega (arith, tens, whole, few, many) in
      none_far (λ j. let part = sum_by-take-le size_of all j in omega (arith, part, sum)) 0 ps
