-- Short branches reach their targets, in a source that breaks no rule (ECMA-335 III.1.7.2, III.3.15).
use Rattle.std.proofs.Common.{◌≡◌, ℕ, ◌+◌, inl, inr, List, [], ◌∷◌, map, refl, ap, sym, subst, ◌∙◌}
use Rattle.std.specs.Prelude.{Bool, true, false, cond, if◌then◌else◌}
use Rattle.std.specs.List.{enumerate_from, flat_map, list_all}
use Rattle.std.proofs.lemmas.Bool.{and_from, cases_Bool}
use Rattle.opcode_table.specs.declared.kind.OperandKind.{OperandKind}
use Rattle.opcode_table.specs.declared.kind.OperandKind.TheVariants as takes
use Rattle.assembly_tree.specs.WellFormedBodies.{operand_kind, reaches, reaches_at, short_branches_reach}
use Rattle.assembly_tree.specs.declared.body.Ins.{Ins}
use Rattle.assembly_tree.specs.declared.body.Operand.{Operand}
use Rattle.assembly_tree.specs.declared.body.Operand.TheVariants as operand
use Rattle.ilasm_grammar.specs.declared.productions.TheConstants.{FIELD_REF, INSTRUCTION_LDSTR, INSTRUCTION_LDTOKEN, INSTRUCTION_OP_BRANCH, INSTRUCTION_OP_FIELD, INSTRUCTION_OP_METHOD, INSTRUCTION_OP_NONE, INSTRUCTION_OP_NUM, INSTRUCTION_OP_REAL, INSTRUCTION_OP_TYPE, INSTRUCTION_OP_VAR, INSTRUCTION_SWITCH, METHOD_REF, TOKEN_OPERAND_FIELD, TOKEN_OPERAND_METHOD}
use Rattle.source_model.specs.Bodies.{code}
use Rattle.source_model.specs.BodyFaults.{branch_too_far, declared_targets}
use Rattle.source_model.specs.Forest.{Forest, Part, has, is_among, leaf_at, part, the}
use Rattle.source_model.specs.Instructions.{instruction_forms, instructions_of, is_label, op_of, targets}
use Rattle.source_model.specs.Nodes.{Around, Node}
use Rattle.source_model.specs.Operands.{instruction, operand_of, token_operand}
use Rattle.source_model.specs.References.{field_ref, method_ref}
use Rattle.source_model.specs.Source.{Source}
use Rattle.source_model.specs.Types.{the_owner}
use Rattle.laws_formed_sources.proofs.sources.Members.{In}
use Rattle.laws_formed_sources.proofs.sources.Rules.{for_each}
use Rattle.laws_formed_sources.proofs.sources.Unbroken.{empty_in}

-- ---- what isn't a branch to one label

abbrev is_target : Operand → Bool
is_target operand.Nothing = false
is_target (operand.Var n) = false
is_target (operand.Int n) = false
is_target (operand.Real bits) = false
is_target (operand.Target at) = true
is_target (operand.Targets at) = false
is_target (operand.Method m) = false
is_target (operand.Field f) = false
is_target (operand.Of o) = false
is_target (operand.Text units) = false

short_else : (all : List Ins) (k : ℕ) (o : Operand) → is_target o ≡ false → reaches_at all k takes.Branch8 o ≡ true
short_else all k operand.Nothing e = refl
short_else all k (operand.Var n) e = refl
short_else all k (operand.Int n) e = refl
short_else all k (operand.Real bits) e = refl
short_else all k (operand.Target at) e = absurd cc
short_else all k (operand.Targets at) e = refl
short_else all k (operand.Method m) e = refl
short_else all k (operand.Field f) e = refl
short_else all k (operand.Of o) e = refl
short_else all k (operand.Text units) e = refl

reaches_else : (all : List Ins) (k : ℕ) (form : OperandKind) (o : Operand) → is_target o ≡ false → reaches_at all k form o ≡ true
reaches_else all k takes.Nothing o e = refl
reaches_else all k takes.Var8 o e = refl
reaches_else all k takes.Var16 o e = refl
reaches_else all k takes.Num8 o e = refl
reaches_else all k takes.Num32 o e = refl
reaches_else all k takes.Num64 o e = refl
reaches_else all k takes.Byte o e = refl
reaches_else all k takes.Real4 o e = refl
reaches_else all k takes.Real8 o e = refl
reaches_else all k takes.Branch8 o e = short_else all k o e
reaches_else all k takes.Branch32 o e = refl
reaches_else all k takes.Switch o e = refl
reaches_else all k takes.Method o e = refl
reaches_else all k takes.Field o e = refl
reaches_else all k takes.Of o e = refl
reaches_else all k takes.Text o e = refl
reaches_else all k takes.Token o e = refl

module _ (s : Source) (a : Around) (f : Forest) (all : List Ins) (k : ℕ) where
  -- where a branch doesn't reach, one of its labels is the method's
  abbrev NamesLabel : Part → Type 0
  NamesLabel p = reaches all (k, instruction s a f p) ≡ false → declared_targets s f p ≡ [] → ⊥

  abbrev At : Forest → ℕ → Type 0
  At b q = ((l : ℕ) → In l (targets (part q b)) → is_label s f l ≡ true) → NamesLabel (part q b)

  otherwise : (b : Forest) (q : ℕ) → is_target (operand_of s a f (part q b)) ≡ false → At b q
  otherwise b q other known e empty =
      let yes = reaches_else all k (operand_kind (op_of s (part q b))) (operand_of s a f (part q b)) other in absurd cc

  token_other : (b : Forest) → is_target (token_operand s a b) ≡ false
  token_other b = elim (cases_Bool (has TOKEN_OPERAND_METHOD b)) [
    | inl method ↦ ap (λ (c : Bool). is_target (if c then operand.Method (method_ref s a (the METHOD_REF b)) else if has TOKEN_OPERAND_FIELD b then operand.Field (field_ref s a (the FIELD_REF b)) else operand.Of (the_owner s a b))) method
    | inr other ↦
        ap (λ (c : Bool). is_target (if c then operand.Method (method_ref s a (the METHOD_REF b)) else if has TOKEN_OPERAND_FIELD b then operand.Field (field_ref s a (the FIELD_REF b)) else operand.Of (the_owner s a b))) other
        ∙ elim (cases_Bool (has TOKEN_OPERAND_FIELD b)) [
          | inl field ↦ ap (λ (c : Bool). is_target (if c then operand.Field (field_ref s a (the FIELD_REF b)) else operand.Of (the_owner s a b))) field
          | inr neither ↦ ap (λ (c : Bool). is_target (if c then operand.Field (field_ref s a (the FIELD_REF b)) else operand.Of (the_owner s a b))) neither
        ]
  ]

  branch_at : (b : Forest) → At b INSTRUCTION_OP_BRANCH
  branch_at b known e empty =
      let l = leaf_at 0 b in
      let some : l ∷ [] ≡ [] = sym (ap (λ (c : Bool). cond c (l ∷ []) []) (known l (inl refl))) ∙ empty in absurd cc

  pub names_label : (p : Part) → is_among instruction_forms p.production ≡ true → ((l : ℕ) → In l (targets p) → is_label s f l ≡ true) → NamesLabel p
  names_label p among known =
      let b = p.below in
      for_each (At b) instruction_forms
      (otherwise b INSTRUCTION_OP_NONE refl, (otherwise b INSTRUCTION_OP_VAR refl, (otherwise b INSTRUCTION_OP_NUM refl, (otherwise b INSTRUCTION_OP_REAL refl, (branch_at b, (otherwise b INSTRUCTION_OP_METHOD refl, (otherwise b INSTRUCTION_OP_FIELD refl, (otherwise b INSTRUCTION_OP_TYPE refl, (otherwise b INSTRUCTION_SWITCH refl, (otherwise b INSTRUCTION_LDSTR refl, (otherwise b INSTRUCTION_LDTOKEN (token_other b), tt)))))))))))
      p.production among known

module _ (s : Source) (n : Node) (all : List Ins) (is : code s n.around n.below ≡ all)
    (labelled : (p : Part) (k : ℕ) → In p (instructions_of n.below) → reaches all (k, instruction s n.around n.below p) ≡ false → declared_targets s n.below p ≡ [] → ⊥) where
  all_reach : (k : ℕ) (ps : List Part) → ((p : Part) → In p ps → In p (instructions_of n.below)) → flat_map (branch_too_far s n) (enumerate_from k ps) ≡ []
      → list_all (reaches all) (enumerate_from k (map (instruction s n.around n.below) ps)) ≡ true
  all_reach k [] within e = refl
  all_reach k (p ∷ ps) within e =
      let both = empty_in (branch_too_far s n (k, p)) (flat_map (branch_too_far s n) (enumerate_from (k + 1) ps)) e in
      and_from (reaches all (k, instruction s n.around n.below p)) (list_all (reaches all) (enumerate_from (k + 1) (map (instruction s n.around n.below) ps)))
      (one (subst (λ c. (if reaches c (k, instruction s n.around n.below p) then [] else declared_targets s n.below p) ≡ []) is both.0))
      (all_reach (k + 1) ps (λ q i. within q (inr i)) both.1)
    where
      one : (if reaches all (k, instruction s n.around n.below p) then [] else declared_targets s n.below p) ≡ [] → reaches all (k, instruction s n.around n.below p) ≡ true
      one h = elim (cases_Bool (reaches all (k, instruction s n.around n.below p))) [
        | inl does ↦ does
        | inr misses ↦
            absurd (labelled p k (within p (inl refl)) misses
            (sym (ap (λ (c : Bool). if c then [] else declared_targets s n.below p) misses) ∙ h))
      ]

  pub reach : flat_map (branch_too_far s n) (enumerate_from 0 (instructions_of n.below)) ≡ [] → short_branches_reach all ≡ true
  unfolding short_branches_reach code
  reach e =
      ap (λ c. list_all (reaches all) (enumerate_from 0 c)) (sym is)
      ∙ all_reach 0 (instructions_of n.below) (λ p i. i) e
