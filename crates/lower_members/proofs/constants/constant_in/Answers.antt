use Rattle.std.proofs.Common.{◌≡◌, ap, sym, ◌∙◌}
use Rattle.std.specs.Prelude.{true}
use Rattle.assembly_tree.specs.declared.members.Constant.TheVariants as constant
use Rattle.ilasm_grammar.specs.declared.productions.TheConstants.{CONST_CHAR}
use Rattle.source_model.specs.Forest.{the}
use Rattle.source_model.specs.OutOfRange.{is_16_bits}
use Rattle.source_model.specs.Shapes.{natural}
use Rattle.source_model.specs.Values.{int_at}
use Rattle.lower_manifest.proofs.ConstantLemmas.{char_in_constant}
use Rattle.lower_members.proofs.ConstantChoices.{is_char}
use Rattle.lower_members.proofs.constants.constant_in.Goals as goal

pub returns-then-has-4 : goal.returns-then-has-4
returns-then-has-4 c s f r e h =
    let some = sym (c.has-4.ensures f e) ∙ c.if-has-4.true in
    let token = c.const_token-token-then-has-4.ensures (the CONST_CHAR f) (sym (c.the-then-has-4.ensures f e)) in
    let fits : is_16_bits (int_at s c.const_token-token-then-has-4.result) ≡ true = ap (λ k. is_16_bits (int_at s k)) token ∙ char_in_constant s f h some in
    ap constant.Char (c.natural_16.ensures s r fits ∙ ap (λ k. natural (int_at s k)) token)
    ∙ sym (is_char s f (sym (c.has.ensures f e) ∙ c.if-has.false) (sym (c.has-2.ensures f e) ∙ c.if-has-2.false) (sym (c.has-3.ensures f e) ∙ c.if-has-3.false) some)
