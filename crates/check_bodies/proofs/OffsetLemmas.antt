-- Offsets of instructions, gathered one by one, and short branches read from them.
use Rattle.std.proofs.Common.{◌≡◌, ℕ, ◌+◌, ◌*◌, ◌≤◌, List, [], ◌∷◌, ◌++◌, length, map, drop, sum_by, ap, sym, subst, ◌∙◌, refl, arith, append_assoc, slice_get}
use Rattle.std.proofs.lemmas.List.{drop_all}
use Rattle.std.proofs.lemmas.List.Sums.{sum_by-cons}
use Rattle.std.specs.Prelude.{min, Some}
use Rattle.opcode_table.specs.Opcodes as opcodes
use Rattle.opcode_table.specs.declared.kind.OperandKind.{OperandKind}
use Rattle.opcode_table.specs.declared.op.Op.{Op}
use Rattle.assembly_tree.specs.WellFormedBodies.{operand_kind, size_of}
use Rattle.opcode_table.specs.Sizes.{opcode_size}
use Rattle.source_model.specs.Bodies.{code}
use Rattle.source_model.specs.Forest.{Forest, Part, preorder}
use Rattle.source_model.specs.Instructions.{instructions_of, op_of}
use Rattle.source_model.specs.Nodes.{Around}
use Rattle.source_model.specs.Operands.{instruction}
use Rattle.source_model.specs.Source.{Source}
use Rattle.check_bodies.specs.Sizes.{offsets_from, size_by, targets_bytes}
use Rattle.check_bodies.proofs.SizeLemmas.{opcode_small, size_small, targets_few}
use Rattle.source_syntax.proofs.MethodLemmas.{drop_at}

-- 4 bytes for each of n and 4 more, where each sum saturates
pub four_each : (n m r nodes most bound : ℕ) → m ≡ min (n * 4) bound → r ≡ min (m + 4) bound → 4 + 4 * n ≤ 4 + 4 * nodes → most ≡ 14 * nodes + 14
    → most ≤ bound → r ≡ 4 + 4 * n
four_each n m r nodes most bound times plus less is fits = omega arith

-- the bytes of an opcode and of an operand
both_fit : (o k r targets nodes most bound : ℕ) → r ≡ min (o + k) bound → o ≤ 2 → k ≤ 8 + targets → targets ≤ 4 + 4 * nodes → most ≡ 14 * nodes + 14
    → most ≤ bound → r ≡ o + k
both_fit o k r targets nodes most bound sum small size less is fits = omega arith

pub size_fits : (s : Source) (p : Part) (o k r nodes most bound : ℕ) → r ≡ min (o + k) bound → o ≡ opcode_size (op_of s p)
    → k ≡ size_by (operand_kind (op_of s p)) (targets_bytes p) → length (preorder p.below) ≡ nodes → most ≡ 14 * nodes + 14 → most ≤ bound → r ≡ o + k
size_fits s p o k r nodes most bound sum op operand many is fits =
    both_fit o k r (targets_bytes p) nodes most bound sum (subst (λ x. x ≤ 2) (sym op) (opcode_small (op_of s p)))
    (subst (λ x. x ≤ 8 + targets_bytes p) (sym operand) (size_small (operand_kind (op_of s p)) (targets_bytes p)))
    (subst (λ x. targets_bytes p ≤ 4 + 4 * x) many (targets_few p)) is fits

-- the bytes so far and those of one more instruction
pub next_at : (at size rest total nodes most bound r : ℕ) → r ≡ min (at + size) bound → at + (size + rest) ≡ total → total ≤ 14 * nodes
    → most ≡ 14 * nodes + 14 → most ≤ bound → r ≡ at + size
next_at at size rest total nodes most bound r sum whole less is fits = omega arith

pub next_sum : (at size rest total r after : ℕ) → r ≡ at + size → after ≡ size + rest → at + after ≡ total → r + rest ≡ total
next_sum at size rest total r after is split whole = omega arith

-- the form of an opcode's operand
pub kind_is : (k : OperandKind) (o op : Op) → k ≡ opcodes.kind_of o → o ≡ op → k ≡ operand_kind op
unfolding operand_kind
kind_is k o op is same = is ∙ ap opcodes.kind_of same

pub map_twice : {X Y Z : Type 0} (g : Y → Z) (f : X → Y) (xs : List X) → map g (map f xs) ≡ map (λ x. g (f x)) xs
map_twice g f [] = refl
map_twice g f (x ∷ xs) = ap (λ ys. g (f x) ∷ ys) (map_twice g f xs)

module _ (size : Part → ℕ) (ps : List Part) where
  -- the sizes from a place on
  abbrev pub after : ℕ → ℕ
  after i = sum_by size (drop i ps)

  pub after_next : (i : ℕ) (p : Part) → slice_get ps i ≡ Some p → after i ≡ size p + after (i + 1)
  after_next i p at = ap (sum_by size) (drop_at ps i p at) ∙ sum_by-cons {X = Part} size p (drop (i + 1) ps)

  pub one_offset : (i at next : ℕ) (p : Part) (offsets more : List ℕ) → slice_get ps i ≡ Some p → more ≡ offsets ++ at ∷ [] → next ≡ at + size p
      → more ++ offsets_from next (map size (drop (i + 1) ps)) ≡ offsets ++ offsets_from at (map size (drop i ps))
  one_offset i at next p offsets more here pushed sum =
      ap (λ xs. xs ++ offsets_from next (map size (drop (i + 1) ps))) pushed
      ∙ append_assoc offsets (at ∷ []) (offsets_from next (map size (drop (i + 1) ps)))
      ∙ ap (λ n. offsets ++ at ∷ offsets_from n (map size (drop (i + 1) ps))) sum
      ∙ ap (λ qs. offsets ++ offsets_from at (map size qs)) (sym (drop_at ps i p here))

  pub last_offset : (i at : ℕ) (offsets more : List ℕ) → length ps ≤ i → more ≡ offsets ++ at ∷ [] → more ≡ offsets ++ offsets_from at (map size (drop i ps))
  last_offset i at offsets more over pushed = pushed ∙ ap (λ qs. offsets ++ offsets_from at (map size qs)) (sym (drop_all i ps over))

-- the sizes of a method's code
pub code_sizes : (s : Source) (a : Around) (f : Forest) → map size_of (code s a f) ≡ map (λ p. size_of (instruction s a f p)) (instructions_of f)
unfolding code
code_sizes s a f = map_twice size_of (instruction s a f) (instructions_of f)
