-- The sizes of instructions, and that a method's code is small.
use Rattle.std.proofs.Common.{◌≡◌, ℕ, zero, suc, ◌+◌, ◌*◌, ◌≤◌, List, [], ◌∷◌, ◌++◌, length, map, take, sum_by, ap, sym, ◌∙◌, refl, arith, length-append, slice_get}
use Rattle.std.proofs.lemmas.List.{length-map}
use Rattle.std.proofs.lemmas.List.Sums.{sum_by-append, sum_by-cons}
use Rattle.std.specs.Prelude.{Bool, true, false, ◌==◌, Option, None, Some, if◌then◌else◌}
use Rattle.std.specs.List.{flat_map}
use Rattle.std.proofs.lemmas.Bool.Decides.{Decides-eqb}
use Rattle.opcode_table.specs.Opcodes as opcodes
use Rattle.opcode_table.specs.declared.kind.OperandKind.{OperandKind}
use Rattle.opcode_table.specs.declared.kind.OperandKind.TheVariants as kind
use Rattle.opcode_table.specs.declared.op.Op.{Op}
use Rattle.opcode_table.specs.Sizes.{bytes_in, opcode_size}
use Rattle.assembly_tree.specs.WellFormedBodies.{operand_kind, operand_size, offset_of, reaches_at, size_of, targets_size}
use Rattle.assembly_tree.specs.declared.body.Ins.{Ins}
use Rattle.assembly_tree.specs.declared.body.Operand.{Operand}
use Rattle.assembly_tree.specs.declared.body.Operand.TheVariants as operand
use Rattle.ilasm_grammar.specs.declared.productions.TheConstants as production
use Rattle.source_model.specs.Forest as tree
use Rattle.source_model.specs.Forest.{Forest, Part, part, parts, preorder, below_each, each, is_among, leaf_at}
use Rattle.source_model.specs.Instructions.{instruction_forms, instructions_of, label_number, names_in, op_of, targets}
use Rattle.source_model.specs.Nodes.{Around}
use Rattle.source_model.specs.Operands.{instruction, operand_of}
use Rattle.source_model.specs.Source.{Source}
use Rattle.source_model.specs.Types.{the_owner}
use Rattle.check_bodies.specs.Sizes.{size_by, targets_bytes, offsets_from}

-- ---- operands

pub size_is : (k : OperandKind) (o : Operand) → operand_size k o ≡ size_by k (targets_size o)
size_is kind.Nothing o = refl
size_is kind.Var8 o = refl
size_is kind.Var16 o = refl
size_is kind.Num8 o = refl
size_is kind.Num32 o = refl
size_is kind.Num64 o = refl
size_is kind.Byte o = refl
size_is kind.Real4 o = refl
size_is kind.Real8 o = refl
size_is kind.Branch8 o = refl
size_is kind.Branch32 o = refl
size_is kind.Switch o = refl
size_is kind.Method o = refl
size_is kind.Field o = refl
size_is kind.Of o = refl
size_is kind.Text o = refl
size_is kind.Token o = refl

-- of two operands, one of which is chosen
either : (P : Operand → Type 0) (c : Bool) (x y : Operand) → (c ≡ true → P x) → (c ≡ false → P y) → P (if c then x else y)
either P true x y h i = h refl
either P false x y h i = i refl

module _ (s : Source) (a : Around) (f : Forest) (p : Part) where
  -- what the operand is, save behind a branch and `switch`
  abbrev pub Shown : Operand → Type 0
  Shown o =
      ((p.production == production.INSTRUCTION_SWITCH) ≡ false → targets_size o ≡ 4)
      × ((p.production == production.INSTRUCTION_OP_BRANCH) ≡ false → (code : List Ins) (k : ℕ) → reaches_at code k kind.Branch8 o ≡ true)

  pub shown : Shown (operand_of s a f p)
  shown =
      either Shown (p.production == production.INSTRUCTION_OP_NONE) _ _ (λ _. ((λ _. refl), (λ _ _ _. refl)))
      (λ _. either Shown (p.production == production.INSTRUCTION_OP_VAR) _ _ (λ _. ((λ _. refl), (λ _ _ _. refl)))
      (λ _. either Shown (p.production == production.INSTRUCTION_OP_NUM) _ _ (λ _. ((λ _. refl), (λ _ _ _. refl)))
      (λ _. either Shown (p.production == production.INSTRUCTION_OP_REAL) _ _ (λ _. ((λ _. refl), (λ _ _ _. refl)))
      (λ _. either Shown (p.production == production.INSTRUCTION_OP_BRANCH) _ _ (λ is. ((λ _. refl), (λ isn't. absurd cc)))
      (λ _. either Shown (p.production == production.INSTRUCTION_OP_METHOD) _ _ (λ _. ((λ _. refl), (λ _ _ _. refl)))
      (λ _. either Shown (p.production == production.INSTRUCTION_OP_FIELD) _ _ (λ _. ((λ _. refl), (λ _ _ _. refl)))
      (λ _. either Shown (p.production == production.INSTRUCTION_OP_TYPE) _ _ (λ _. ((λ _. refl), (λ _ _ _. refl)))
      (λ _. either Shown (p.production == production.INSTRUCTION_SWITCH) _ _ (λ is. ((λ isn't. absurd cc), (λ _ _ _. refl)))
      (λ _. either Shown (p.production == production.INSTRUCTION_LDSTR) _ _ (λ _. ((λ _. refl), (λ _ _ _. refl)))
      (λ _. either Shown (tree.has production.TOKEN_OPERAND_METHOD p.below) _ _ (λ _. ((λ _. refl), (λ _ _ _. refl)))
      (λ _. either Shown (tree.has production.TOKEN_OPERAND_FIELD p.below) _ (operand.Of (the_owner s a p.below)) (λ _. ((λ _. refl), (λ _ _ _. refl))) (λ _. ((λ _. refl), (λ _ _ _. refl))))))))))))))

  -- behind `switch` stand its targets
  switched : p.production ≡ production.INSTRUCTION_SWITCH → targets_size (operand_of s a f p) ≡ 4 + 4 * length (targets p)
  switched is =
      ap (λ q. targets_size (operand_of s a f (part q p.below))) is
      ∙ ap (λ n. 4 + 4 * n) (length-map (targets (part production.INSTRUCTION_SWITCH p.below)) (label_number s f))
      ∙ ap (λ q. 4 + 4 * length (targets (part q p.below))) (sym is)

  targets_are : (c : Bool) → (p.production == production.INSTRUCTION_SWITCH) ≡ c → targets_size (operand_of s a f p) ≡ (if c then 4 + 4 * length (targets p) else 4)
  targets_are true is = switched ((Decides-eqb p.production production.INSTRUCTION_SWITCH).0 is)
  targets_are false isn't = shown.0 isn't

  pub size_of_it : size_of (instruction s a f p) ≡ opcode_size (op_of s p) + size_by (operand_kind (op_of s p)) (targets_bytes p)
  unfolding size_of
  size_of_it =
      ap (λ n. opcode_size (op_of s p) + n)
      (size_is (operand_kind (op_of s p)) (operand_of s a f p)
      ∙ ap (size_by (operand_kind (op_of s p))) (targets_are (p.production == production.INSTRUCTION_SWITCH) refl))

-- ---- the number of targets, and the bytes of all code

spread : (c m n : ℕ) → c * suc (m + n) ≡ c * suc m + c * n
spread c m n = grind arith

one_more : (c m : ℕ) → c * suc m ≡ c * m + c
one_more c m = grind arith

pub weigh : (c : ℕ) (h : Part → ℕ) (sought : List ℕ) (f : Forest) → ((p : Part) → h p ≤ c * suc (length (preorder p.below)))
    → sum_by h (parts sought f) ≤ c * length (preorder f)
weigh c h sought tree.none fits = omega arith
weigh c h sought (tree.leaf k f) fits =
    let rest = weigh c h sought f fits in
    let more = one_more c (length (preorder f)) in
    omega (arith, rest, more)
weigh c h sought (tree.branch q b f) fits =
    let rest = weigh c h sought f fits in
    let inner = weigh c h sought b fits in
    let own = fits (part q b) in
    let all : c * suc (length (preorder b ++ preorder f)) ≡ c * suc (length (preorder b)) + c * length (preorder f) =
    ap (λ n. c * suc n) (length-append (preorder b) (preorder f)) ∙ spread c (length (preorder b)) (length (preorder f)) in
    let less = one_more c (length (preorder b)) in
    let both = sum_by-append h (if is_among sought q then part q b ∷ [] else parts sought b) (parts sought f) in
    let here = chosen (is_among sought q) own (omega (arith, inner, less)) in
    omega (arith, rest, all, both, here)
  where
    chosen : (d : Bool) → h (part q b) ≤ c * suc (length (preorder b)) → sum_by h (parts sought b) ≤ c * suc (length (preorder b))
        → sum_by h (if d then part q b ∷ [] else parts sought b) ≤ c * suc (length (preorder b))
    chosen true own inner = omega (arith, own)
    chosen false own inner = inner

as_many_below : (ps : List Part) → length (below_each ps) ≡ sum_by (λ _. 1) ps
as_many_below [] = refl
as_many_below (p ∷ ps) = let rest = as_many_below ps in omega (arith, rest, sum_by-cons {X = Part} (λ _. 1) p ps)

names_few : (f : Forest) → length (names_in f) ≤ suc (length (preorder f))
names_few f =
    let few = weigh 1 (λ _. 1) (production.COMMA_NAME ∷ []) f (λ p. omega arith) in
    let many = as_many_below (parts (production.COMMA_NAME ∷ []) f) in
    let same = length-map (each production.COMMA_NAME f) (leaf_at 1) in
    omega (arith, few, many, same)

lists_long : (ps : List Part) → length (flat_map names_in (below_each ps)) ≡ sum_by (λ p. length (names_in p.below)) ps
lists_long [] = refl
lists_long (p ∷ ps) =
    let rest = lists_long ps in
    let both = length-append (names_in p.below) (flat_map names_in (below_each ps)) in
    omega (arith, rest, both, sum_by-cons {X = Part} (λ q. length (names_in q.below)) p ps)

switch_few : (f : Forest) → length (flat_map names_in (each production.NAMES f)) ≤ length (preorder f)
switch_few f =
    let few = weigh 1 (λ p. length (names_in p.below)) (production.NAMES ∷ []) f (λ p. let one = names_few p.below in omega (arith, one)) in
    let same = lists_long (parts (production.NAMES ∷ []) f) in
    omega (arith, few, same)

few_bytes : (p : Part) (c : Bool) → (p.production == production.INSTRUCTION_SWITCH) ≡ c → (if c then 4 + 4 * length (targets p) else 4) ≤ 4 + 4 * length (preorder p.below)
few_bytes p true is =
    let q = (Decides-eqb p.production production.INSTRUCTION_SWITCH).0 is in
    let same : length (targets p) ≡ length (flat_map names_in (each production.NAMES p.below)) = ap (λ r. length (targets (part r p.below))) q in
    let few = switch_few p.below in
    omega (arith, same, few)
few_bytes p false isn't = omega arith

pub targets_few : (p : Part) → targets_bytes p ≤ 4 + 4 * length (preorder p.below)
targets_few p = few_bytes p (p.production == production.INSTRUCTION_SWITCH) refl

pub opcode_small : (op : Op) → opcode_size op ≤ 2
unfolding opcode_size
opcode_small op = go (opcodes.bytes_of op)
  where
    go : (b : ℕ × Option ℕ) → bytes_in b ≤ 2
    go (first, None) = omega arith
    go (first, Some second) = omega arith

pub size_small : (k : OperandKind) (t : ℕ) → size_by k t ≤ 8 + t
size_small kind.Nothing t = omega arith
size_small kind.Var8 t = omega arith
size_small kind.Var16 t = omega arith
size_small kind.Num8 t = omega arith
size_small kind.Num32 t = omega arith
size_small kind.Num64 t = omega arith
size_small kind.Byte t = omega arith
size_small kind.Real4 t = omega arith
size_small kind.Real8 t = omega arith
size_small kind.Branch8 t = omega arith
size_small kind.Branch32 t = omega arith
size_small kind.Switch t = omega arith
size_small kind.Method t = omega arith
size_small kind.Field t = omega arith
size_small kind.Of t = omega arith
size_small kind.Text t = omega arith
size_small kind.Token t = omega arith

-- the bytes of a method's code are at most 14 for each node of it
pub code_small : (s : Source) (a : Around) (f : Forest) → sum_by (λ p. size_of (instruction s a f p)) (instructions_of f) ≤ 14 * length (preorder f)
code_small s a f =
    weigh 14 (λ p. size_of (instruction s a f p)) instruction_forms f
    (λ p.
    let is = size_of_it s a f p in
    let opcode = opcode_small (op_of s p) in
    let operand = size_small (operand_kind (op_of s p)) (targets_bytes p) in
    let few = targets_few p in
    omega (arith, is, opcode, operand, few))

-- ---- offsets

pub offset_read : (at : ℕ) (code : List Ins) (k : ℕ) → k ≤ length code → slice_get (offsets_from at (map size_of code)) k ≡ Some (at + offset_of code k)
offset_read at [] zero less = let same : at ≡ at + 0 = omega arith in ap (λ n. Some n) same
offset_read at [] (suc k) less = absurd (omega (arith, less))
offset_read at (i ∷ is) zero less = let same : at ≡ at + 0 = omega arith in ap (λ n. Some n) same
offset_read at (i ∷ is) (suc k) less =
    let sum = sum_by-cons size_of i (take k is) in
    let same : at + size_of i + offset_of is k ≡ at + offset_of (i ∷ is) (suc k) = omega (arith, sum) in
    offset_read (at + size_of i) is k (omega (arith, less)) ∙ ap (λ n. Some n) same
