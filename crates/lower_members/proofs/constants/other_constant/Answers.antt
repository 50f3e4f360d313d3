use Rattle.std.proofs.Common.{ap, sym, subst, ◌∙◌}
use Rattle.assembly_tree.specs.declared.members.Constant.TheVariants as constant
use Rattle.il_lexer.specs.declared.types.TokenKind.TheVariants.{ByteArray}
use Rattle.ilasm_grammar.specs.declared.productions.TheConstants.{CONST_BYTES, TEXT}
use Rattle.source_flags.proofs.Gathered.{has_bodies}
use Rattle.source_model.specs.Forest.{the}
use Rattle.source_model.specs.Values.{array_bytes, units_of_bytes}
use Rattle.source_nodes.specs.Readers.{IsOf}
use Rattle.lower_manifest.proofs.ConstantLemmas.{bytes_in_constant, text_in_constant}
use Rattle.lower_members.proofs.ConstantChoices.{is_bytes, is_text}
use Rattle.lower_members.proofs.constants.other_constant.Goals as goal

pub returns-then-has-2 : goal.returns-then-has-2
returns-then-has-2 c s f r e h =
    let no_truth = sym (c.has.ensures f e) ∙ c.if-has.false in
    let some = sym (c.has-2.ensures f e) ∙ c.if-has-2.true in
    let text = text_in_constant s f h some in
    ap constant.Str (c.in_ok-units.ensures s (the TEXT f) r (sym (c.the.ensures f e)) text.0.fits (has_bodies s (the TEXT f) text.1))
    ∙ sym (is_text s f no_truth some)

pub returns-then-has-3 : goal.returns-then-has-3
returns-then-has-3 c s f r e h =
    let no_truth = sym (c.has.ensures f e) ∙ c.if-has.false in
    let no_text = sym (c.has-2.ensures f e) ∙ c.if-has-2.false in
    let some = sym (c.has-3.ensures f e) ∙ c.if-has-3.true in
    let token = c.leaf_at.ensures (the CONST_BYTES f) (sym (c.the-then-has-3.ensures f e)) in
    let known : IsOf s ByteArray c.leaf_at.result = subst (IsOf s ByteArray) (sym token) (bytes_in_constant s f h some) in
    ap constant.Str (c.in_ok-units-2.ensures s r known ∙ ap (λ k. units_of_bytes (array_bytes s k)) token)
    ∙ sym (is_bytes s f no_truth no_text some)
