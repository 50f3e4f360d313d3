-- Short branches that don't reach, by the offsets of the instructions.
use Rattle.std.proofs.Common.{◌≡◌, ℕ, suc, ◌+◌, ◌≤◌, List, [], ◌∷◌, length, cond, ap, sym, subst, ◌∙◌, refl, arith, slice_get}
use Rattle.std.specs.Prelude.{Bool, true, false, ◌==◌, ◌&&◌, Option, None, Some, option_map, is_some, filter, nat_lt, if◌then◌else◌, slice_index_or}
use Rattle.std.specs.List.{flat_map}
use Rattle.std.proofs.lemmas.Bool.Decides.{Decides-eqb}
use Rattle.std.proofs.lemmas.List.{length-map}
use Rattle.std.proofs.lemmas.Option.{get_or_from_slice_get, slice_get_within}
use Rattle.opcode_table.specs.declared.kind.OperandKind.{OperandKind}
use Rattle.opcode_table.specs.declared.kind.OperandKind.TheVariants as kind
use Rattle.assembly_tree.specs.WellFormedBodies.{is_near, offset_of, operand_kind, reaches_at}
use Rattle.assembly_tree.specs.declared.body.Ins.{Ins}
use Rattle.assembly_tree.specs.declared.body.Operand.{Operand}
use Rattle.assembly_tree.specs.declared.body.Operand.TheVariants as operand
use Rattle.ilasm_grammar.specs.declared.productions.TheConstants as production
use Rattle.source_model.specs.Bodies.{code}
use Rattle.source_model.specs.BodyFaults.{branch_too_far, declared_targets}
use Rattle.il_lexer.specs.declared.types.TokenKind.TheVariants.{Name}
use Rattle.source_model.specs.Forest.{Forest, Part, each, part, leaf_at}
use Rattle.source_model.specs.Instructions.{instructions_of, is_label, label_named, label_number, mnemonic_token, names_in, number_at, number_of_label, op_of}
use Rattle.source_model.specs.Nodes.{Node}
use Rattle.source_model.specs.Operands.{instruction, operand_of}
use Rattle.source_model.specs.Source.{Source}
use Rattle.source_nodes.specs.Derived.{FitsBody, HasBodies}
use Rattle.source_syntax.specs.Methods.{AreNames}
use Rattle.source_nodes.specs.Readers.{IsOf}
use Rattle.source_syntax.proofs.LabelTokens.{targets_are_names}
use Rattle.check_bodies.specs.Sizes.{AreOffsets, far_from, far_target, is_short, short_target}
use Rattle.check_bodies.proofs.SizeLemmas.{offset_read, shown}

-- ---- numbers of instructions

fewer_pass : {X : Type 0} (p : X → Bool) (xs : List X) → length (filter p xs) ≤ length xs
fewer_pass p [] = omega arith
fewer_pass p (x ∷ xs) = go (p x) (fewer_pass p xs)
  where
    go : (c : Bool) → length (filter p xs) ≤ length xs → length (cond c (x ∷ filter p xs) (filter p xs)) ≤ suc (length xs)
    go true rest = omega (arith, rest)
    go false rest = omega (arith, rest)

pub number_within : (f : Forest) (k : ℕ) → number_at f k ≤ length (instructions_of f)
number_within f k = fewer_pass (λ p. nat_lt (mnemonic_token p) k) (instructions_of f)

-- ---- offsets

pub offset_at : (offsets : List ℕ) (code : List Ins) (k : ℕ) → AreOffsets offsets code → k ≤ length code → slice_index_or offsets k 0 ≡ offset_of code k
offset_at offsets code k are less =
    let same : 0 + offset_of code k ≡ offset_of code k = omega arith in
    get_or_from_slice_get offsets k (offset_of code k) 0 (ap (λ xs. slice_get xs k) are ∙ offset_read 0 code k less ∙ ap (λ n. Some n) same)

-- ---- branches

-- an operand that reaches in the short form does so in each
pub reaches_by : (c : List Ins) (k : ℕ) (K : OperandKind) (o : Operand) → reaches_at c k kind.Branch8 o ≡ true → reaches_at c k K o ≡ true
reaches_by c k kind.Branch8 o h = h
reaches_by c k kind.Nothing o h = refl
reaches_by c k kind.Var8 o h = refl
reaches_by c k kind.Var16 o h = refl
reaches_by c k kind.Num8 o h = refl
reaches_by c k kind.Num32 o h = refl
reaches_by c k kind.Num64 o h = refl
reaches_by c k kind.Byte o h = refl
reaches_by c k kind.Real4 o h = refl
reaches_by c k kind.Real8 o h = refl
reaches_by c k kind.Branch32 o h = refl
reaches_by c k kind.Switch o h = refl
reaches_by c k kind.Method o h = refl
reaches_by c k kind.Field o h = refl
reaches_by c k kind.Of o h = refl
reaches_by c k kind.Text o h = refl
reaches_by c k kind.Token o h = refl

same_either : (c : Bool) (xs : List ℕ) → (if c then xs else xs) ≡ xs
same_either true xs = refl
same_either false xs = refl

module _ (s : Source) (n : Node) (offsets : List ℕ) (k : ℕ) where
  abbrev all : List Ins
  all = code s n.around n.below

  -- a label behind a branch of this form, and what the offsets say
  labelled : (K : OperandKind) (t : ℕ) (o : Option ℕ) → label_named s n.below t ≡ o → AreOffsets offsets all → k + 1 ≤ length all
      → ((j : ℕ) → number_at n.below j ≤ length all)
      → far_target s n.below offsets k (if is_short K then Some t else None)
      ≡ (if reaches_at all k K (operand.Target (label_number s n.below t)) then [] else filter (is_label s n.below) (t ∷ []))
  labelled kind.Branch8 t None is are less within =
      ap (λ l. far_from offsets k (option_map (number_at n.below) l) t) is
      ∙ sym (ap (λ l. if reaches_at all k kind.Branch8 (operand.Target (label_number s n.below t)) then [] else cond (is_some l) (t ∷ []) []) is
      ∙ same_either (reaches_at all k kind.Branch8 (operand.Target (label_number s n.below t))) [])
  labelled kind.Branch8 t (Some l) is are less within =
      ap (λ x. far_from offsets k (option_map (number_at n.below) x) t) is
      ∙ ap (λ x. if is_near x (slice_index_or offsets (number_at n.below l) 0) then [] else t ∷ []) (offset_at offsets all (k + 1) are less)
      ∙ ap (λ x. if is_near (offset_of all (k + 1)) x then [] else t ∷ []) (offset_at offsets all (number_at n.below l) are (within l))
      ∙ sym (ap (λ x. if is_near (offset_of all (k + 1)) (offset_of all (number_of_label n.below x)) then [] else cond (is_some x) (t ∷ []) []) is)
  labelled kind.Nothing t o is are less within = refl
  labelled kind.Var8 t o is are less within = refl
  labelled kind.Var16 t o is are less within = refl
  labelled kind.Num8 t o is are less within = refl
  labelled kind.Num32 t o is are less within = refl
  labelled kind.Num64 t o is are less within = refl
  labelled kind.Byte t o is are less within = refl
  labelled kind.Real4 t o is are less within = refl
  labelled kind.Real8 t o is are less within = refl
  labelled kind.Branch32 t o is are less within = refl
  labelled kind.Switch t o is are less within = refl
  labelled kind.Method t o is are less within = refl
  labelled kind.Field t o is are less within = refl
  labelled kind.Of t o is are less within = refl
  labelled kind.Text t o is are less within = refl
  labelled kind.Token t o is are less within = refl

  abbrev a_branch : Part → Part
  a_branch p = part production.INSTRUCTION_OP_BRANCH p.below

  pub far_is : (p : Part) → AreOffsets offsets all → slice_get (instructions_of n.below) k ≡ Some p
      → far_target s n.below offsets k (short_target s p) ≡ branch_too_far s n (k, p)
  unfolding code
  far_is p are at = go (p.production == production.INSTRUCTION_OP_BRANCH) refl
    where
      many : length all ≡ length (instructions_of n.below)
      many = length-map (instructions_of n.below) (instruction s n.around n.below)

      less : k + 1 ≤ length all
      less = let h = slice_get_within (instructions_of n.below) k p at in omega (arith, many, h)

      within : (j : ℕ) → number_at n.below j ≤ length all
      within j = let h = number_within n.below j in omega (arith, many, h)

      op : OperandKind
      op = operand_kind (op_of s p)

      go : (c : Bool) → (p.production == production.INSTRUCTION_OP_BRANCH) ≡ c → far_target s n.below offsets k (short_target s p) ≡ branch_too_far s n (k, p)
      go false isn't =
          ap (λ (c : Bool). far_target s n.below offsets k (if c && is_short op then Some (leaf_at 0 p.below) else None)) isn't
          ∙ sym (ap (λ (c : Bool). if c then [] else declared_targets s n.below p)
          (reaches_by all k op (operand_of s n.around n.below p) ((shown s n.around n.below p).1 isn't all k)))
      go true is =
          let same : p.production ≡ production.INSTRUCTION_OP_BRANCH = (Decides-eqb p.production production.INSTRUCTION_OP_BRANCH).0 is in
          ap (λ (c : Bool). far_target s n.below offsets k (if c && is_short op then Some (leaf_at 0 p.below) else None)) is
          ∙ labelled op (leaf_at 0 p.below) (label_named s n.below (leaf_at 0 p.below)) refl are less within
          ∙ sym (ap (λ (q : ℕ). if reaches_at all k op (operand_of s n.around n.below (part q p.below)) then [] else declared_targets s n.below (part q p.below)) same)

-- ---- the labels behind short branches

pub is_other : (p q k : ℕ) → p ≡ q → (q ≡ k → ⊥) → (p == k) ≡ false
is_other p q k same apart = go (p == k) refl
  where
    go : (c : Bool) → (p == k) ≡ c → c ≡ false
    go false e = refl
    go true e = absurd (apart (sym same ∙ (Decides-eqb p k).0 e))

pub short_name : (s : Source) (p : Part) (token : ℕ) → FitsBody s p.production p.below → HasBodies s p.below → short_target s p ≡ Some token → IsOf s Name token
short_name s p token fits bodies e = go (p.production == production.INSTRUCTION_OP_BRANCH) refl (is_short (operand_kind (op_of s p))) e
  where
    go : (c : Bool) → (p.production == production.INSTRUCTION_OP_BRANCH) ≡ c → (d : Bool) → (if c && d then Some (leaf_at 0 p.below) else None) ≡ Some token → IsOf s Name token
    go false is d e = absurd cc
    go true is false e = absurd cc
    go true is true e =
        let same : leaf_at 0 p.below ≡ token = cc in
        let names = subst (AreNames s) (ap (λ (c : Bool). if c then leaf_at 0 p.below ∷ [] else if p.production == production.INSTRUCTION_SWITCH then flat_map names_in (each production.NAMES p.below) else []) is)
        (targets_are_names s p fits bodies) in
        subst (IsOf s Name) same names.0
