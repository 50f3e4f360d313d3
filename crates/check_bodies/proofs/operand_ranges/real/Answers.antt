use Rattle.std.proofs.Common.{◌≡◌, ◌*◌, [], ◌∷◌, ◌++◌, length, ap, sym, subst, ◌∙◌, append-nil}
use Rattle.std.specs.Prelude.{Bool, true, false, ◌==◌, if◌then◌else◌}
use Rattle.std.specs.List.{flat_map}
use Rattle.il_lexer.specs.declared.types.TokenKind.TheVariants.{RealBytes}
use Rattle.assembly_tree.specs.WellFormedBodies.{operand_kind}
use Rattle.ilasm_grammar.specs.declared.productions.TheConstants.{REAL_BITS_FLOAT32, REAL_BITS_FLOAT64, REAL_BITS_REAL_BYTES}
use Rattle.source_model.specs.BodyNumbers.{real_bits_out_of_range, real_width}
use Rattle.source_model.specs.Forest.{has, leaf_at, part, the}
use Rattle.source_model.specs.Instructions.{op_of}
use Rattle.source_model.specs.OutOfRange.{fits_width}
use Rattle.source_model.specs.TypeRules.{unless}
use Rattle.source_model.specs.Values.{real_bytes}
use Rattle.source_nodes.specs.Least.{least}
use Rattle.source_nodes.specs.Readers.{IsOf}
use Rattle.check_bodies.specs.OperandRanges.{real_size}
use Rattle.check_bodies.proofs.OffsetLemmas.{kind_is}
use Rattle.check_bodies.proofs.RealParts.{has_real}
use Rattle.check_bodies.proofs.OperandLemmas.{width_test}
use Rattle.check_bodies.proofs.operand_ranges.real.Goals as goal

pub returns-then-has : goal.returns-then-has
returns-then-has c s p r fits bodies e =
    let v = has_real s p.below fits bodies in
    let k = operand_kind (op_of s p) in
    let d = the REAL_BITS_FLOAT32 p.below in
    let on : has REAL_BITS_FLOAT32 p.below ≡ true = sym (c.has.ensures p.below e) ∙ c.if-has.true in
    let size = c.real_size-size.ensures ∙ ap real_size (kind_is c.kind_of.result c.op_of.result (op_of s p) c.kind_of.ensures (c.op_of.ensures s p r e)) in
    c.real_number.ensures s d r (sym (c.the-bits.ensures p.below e))
    ∙ ap (λ (b : Bool). least ((if b then [] else leaf_at 0 d ∷ []) ++ unless (fits_width 32) s (leaf_at 2 d))) (ap (λ x. x == 4) size ∙ width_test k 4)
    ∙ ap least (sym (ap (flat_map (real_bits_out_of_range s (real_width k))) (v.single on) ∙ append-nil (real_bits_out_of_range s (real_width k) (part REAL_BITS_FLOAT32 d))))

pub returns-then-has-2 : goal.returns-then-has-2
returns-then-has-2 c s p r fits bodies e =
    let v = has_real s p.below fits bodies in
    let k = operand_kind (op_of s p) in
    let d = the REAL_BITS_FLOAT64 p.below in
    let off : has REAL_BITS_FLOAT32 p.below ≡ false = sym (c.has.ensures p.below e) ∙ c.if-has.false in
    let on : has REAL_BITS_FLOAT64 p.below ≡ true = sym (c.has-2.ensures p.below e) ∙ c.if-has-2.true in
    let size = c.real_size-size.ensures ∙ ap real_size (kind_is c.kind_of.result c.op_of.result (op_of s p) c.kind_of.ensures (c.op_of.ensures s p r e)) in
    c.real_number-then-has-2.ensures s d r (sym (c.the-bits-then-has-2.ensures p.below e))
    ∙ ap (λ (b : Bool). least ((if b then [] else leaf_at 0 d ∷ []) ++ unless (fits_width 64) s (leaf_at 2 d))) (ap (λ x. x == 8) size ∙ width_test k 8)
    ∙ ap least (sym (ap (flat_map (real_bits_out_of_range s (real_width k))) (v.double off on) ∙ append-nil (real_bits_out_of_range s (real_width k) (part REAL_BITS_FLOAT64 d))))

pub returns : goal.returns
returns c s p r fits bodies e =
    let v = has_real s p.below fits bodies in
    let k = operand_kind (op_of s p) in
    let d = the REAL_BITS_REAL_BYTES p.below in
    let off : has REAL_BITS_FLOAT32 p.below ≡ false = sym (c.has.ensures p.below e) ∙ c.if-has.false in
    let neither : has REAL_BITS_FLOAT64 p.below ≡ false = sym (c.has-2.ensures p.below e) ∙ c.if-has-2.false in
    let size = c.real_size-size.ensures ∙ ap real_size (kind_is c.kind_of.result c.op_of.result (op_of s p) c.kind_of.ensures (c.op_of.ensures s p r e)) in
    let token : c.leaf_at-token.result ≡ leaf_at 0 d = c.leaf_at-token.ensures d (sym (c.the.ensures p.below e)) in
    let bytes = c.in_ok-bytes.ensures s r (subst (IsOf s RealBytes) (sym token) (v.token off neither)) in
    let count = c.len.ensures ∙ ap length bytes ∙ ap (λ t. length (real_bytes s t)) token in
    c.unless.ensures
    ∙ ap (λ (b : Bool). least (if b then [] else c.leaf_at-token.result ∷ []))
    (ap (λ x. x == c.len.result) size ∙ ap (λ x. real_size k == x) count ∙ width_test k (length (real_bytes s (leaf_at 0 d))))
    ∙ ap (λ t. least (if real_width k == 8 * length (real_bytes s (leaf_at 0 d)) then [] else t ∷ [])) token
    ∙ ap least (sym (ap (flat_map (real_bits_out_of_range s (real_width k))) (v.bytes off neither) ∙ append-nil (real_bits_out_of_range s (real_width k) (part REAL_BITS_REAL_BYTES d))))
