-- Numbers of instructions that are out of their ranges, from what was found.
use Rattle.std.proofs.Common.{◌≡◌, ℕ, ◌*◌, List, [], ◌++◌, refl, ap, sym, ◌∙◌, arith, append-nil}
use Rattle.std.specs.Prelude.{Bool, true, false, ◌==◌, if◌then◌else◌, pos}
use Rattle.std.specs.List.{flat_map}
use Rattle.std.proofs.lemmas.Bool.Decides.{Decides-eqb}
use Rattle.opcode_table.specs.declared.kind.OperandKind.{OperandKind}
use Rattle.opcode_table.specs.declared.kind.OperandKind.TheVariants as kind
use Rattle.ilasm_grammar.specs.declared.productions.TheConstants.{INSTRUCTION_OP_NUM, INSTRUCTION_OP_REAL, INSTRUCTION_OP_VAR}
use Rattle.source_model.specs.BodyNumbers.{fits_kind, number_out_of_range, real_out_of_range, real_width, variable_out_of_range}
use Rattle.source_model.specs.Forest.{Forest, Part}
use Rattle.source_model.specs.Instructions.{instructions_of, instructions_with}
use Rattle.source_model.specs.Source.{Source}
use Rattle.source_model.specs.TypeRules.{is_within}
use Rattle.source_nodes.specs.Least.{least, sooner}
use Rattle.source_syntax.proofs.LeastLemmas.{least_of_both}
use Rattle.check_bodies.specs.OperandRanges.{number_at_fault, operand_at_fault, real_at_fault, real_size, variable_at_fault}
use Rattle.check_bodies.proofs.CodeLemmas.{of_one_form}

-- ---- widths of real numbers

width_is : (k : OperandKind) → real_width k ≡ 8 * real_size k
width_is kind.Real4 = refl
width_is k = refl

eight_times : (a n : ℕ) → (a == n) ≡ (8 * a == 8 * n)
eight_times a n = go (a == n) (8 * a == 8 * n) refl refl
  where
    go : (c d : Bool) → (a == n) ≡ c → (8 * a == 8 * n) ≡ d → c ≡ d
    go true true e h = refl
    go false false e h = refl
    go true false e h =
        let same : a ≡ n = (Decides-eqb a n).0 e in
        let also = (Decides-eqb (8 * a) (8 * n)).1 (ap (λ x. 8 * x) same) in
        absurd cc
    go false true e h =
        let eight : 8 * a ≡ 8 * n = (Decides-eqb (8 * a) (8 * n)).0 h in
        let same : a ≡ n = omega (arith, eight) in
        let also = (Decides-eqb a n).1 same in
        absurd cc

-- the bits that are wanted, by bytes
pub width_test : (k : OperandKind) (n : ℕ) → (real_size k == n) ≡ (real_width k == 8 * n)
width_test k n = eight_times (real_size k) n ∙ ap (λ w. w == 8 * n) (sym (width_is k))

-- the numbers that an operand of any other kind holds
pub fits_otherwise : (k : OperandKind) → (k ≡ kind.Num8 → ⊥) → (k ≡ kind.Num32 → ⊥) → (k ≡ kind.Num64 → ⊥) → fits_kind k ≡ is_within (pos 0) (pos 0xFF)
fits_otherwise kind.Num8 a b c = absurd (a refl)
fits_otherwise kind.Num32 a b c = absurd (b refl)
fits_otherwise kind.Num64 a b c = absurd (c refl)
fits_otherwise k a b c = refl

-- ---- the forms of instructions

module _ (s : Source) (f : Forest) where
  pub at_number : (p : Part) → p.production ≡ INSTRUCTION_OP_NUM → operand_at_fault s f p ≡ number_out_of_range s p
  at_number p is =
      let own : (p.production == INSTRUCTION_OP_NUM) ≡ true = (Decides-eqb p.production INSTRUCTION_OP_NUM).1 is in
      ap (λ (b : Bool). (if b then number_out_of_range s p else []) ++ (real_at_fault s p ++ variable_at_fault s f p)) own
      ∙ ap (λ (q : ℕ). number_out_of_range s p ++ ((if q == INSTRUCTION_OP_REAL then real_out_of_range s p else []) ++ (if q == INSTRUCTION_OP_VAR then variable_out_of_range s f p else []))) is
      ∙ append-nil (number_out_of_range s p)

  pub at_real : (p : Part) → p.production ≡ INSTRUCTION_OP_REAL → operand_at_fault s f p ≡ real_out_of_range s p
  at_real p is =
      ap (λ (q : ℕ). (if q == INSTRUCTION_OP_NUM then number_out_of_range s p else []) ++ ((if q == INSTRUCTION_OP_REAL then real_out_of_range s p else []) ++ (if q == INSTRUCTION_OP_VAR then variable_out_of_range s f p else []))) is
      ∙ append-nil (real_out_of_range s p)

  pub at_variable : (p : Part) → p.production ≡ INSTRUCTION_OP_VAR → operand_at_fault s f p ≡ variable_out_of_range s f p
  at_variable p is =
      ap (λ (q : ℕ). (if q == INSTRUCTION_OP_NUM then number_out_of_range s p else []) ++ ((if q == INSTRUCTION_OP_REAL then real_out_of_range s p else []) ++ (if q == INSTRUCTION_OP_VAR then variable_out_of_range s f p else []))) is

  -- the least of all operands
  pub operands_are : (ps : List Part) → least (flat_map (operand_at_fault s f) ps)
      ≡ sooner (least (flat_map (number_at_fault s) ps)) (sooner (least (flat_map (real_at_fault s) ps)) (least (flat_map (variable_at_fault s f) ps)))
  operands_are ps =
      least_of_both (number_at_fault s) (λ p. real_at_fault s p ++ variable_at_fault s f p) ps
      ∙ ap (sooner (least (flat_map (number_at_fault s) ps))) (least_of_both (real_at_fault s) (variable_at_fault s f) ps)

  pub by_forms : least (flat_map (operand_at_fault s f) (instructions_of f))
      ≡ sooner (least (flat_map (number_out_of_range s) (instructions_with INSTRUCTION_OP_NUM f)))
      (sooner (least (flat_map (real_out_of_range s) (instructions_with INSTRUCTION_OP_REAL f))) (least (flat_map (variable_out_of_range s f) (instructions_with INSTRUCTION_OP_VAR f))))
  by_forms =
      let ps = instructions_of f in
      operands_are ps
      ∙ ap (λ ks. sooner (least ks) (sooner (least (flat_map (real_at_fault s) ps)) (least (flat_map (variable_at_fault s f) ps)))) (of_one_form (number_out_of_range s) INSTRUCTION_OP_NUM ps)
      ∙ ap (λ ks. sooner (least (flat_map (number_out_of_range s) (instructions_with INSTRUCTION_OP_NUM f))) (sooner (least ks) (least (flat_map (variable_at_fault s f) ps)))) (of_one_form (real_out_of_range s) INSTRUCTION_OP_REAL ps)
      ∙ ap (λ ks. sooner (least (flat_map (number_out_of_range s) (instructions_with INSTRUCTION_OP_NUM f))) (sooner (least (flat_map (real_out_of_range s) (instructions_with INSTRUCTION_OP_REAL f))) (least ks)))
      (of_one_form (variable_out_of_range s f) INSTRUCTION_OP_VAR ps)
