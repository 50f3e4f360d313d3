use Rattle.std.proofs.Common.{◌≡◌, ap, sym, subst, ◌∙◌}
use Rattle.std.specs.Prelude.{Bool, true, false, IfOk, if◌then◌else◌}
use Rattle.il_lexer.specs.declared.types.TokenKind.TheVariants.{ByteArray}
use Rattle.ilasm_grammar.specs.declared.productions.TheConstants.{STRING_OPERAND_BYTES, STRING_OPERAND_TEXT, TEXT}
use Rattle.source_model.specs.Constants.{units_in}
use Rattle.source_model.specs.Forest.{has, leaf_at, the}
use Rattle.source_model.specs.Values.{array_bytes, units_of_bytes}
use Rattle.source_nodes.specs.Readers.{IsOf}
use Rattle.lower_bodies.proofs.References.{bytes_in_string, text_in_string}
use Rattle.lower_bodies.proofs.strings.string_units.Goals as goal

pub returns-then-has : goal.returns-then-has
returns-then-has c s f r fits bodies e =
    let g = the STRING_OPERAND_TEXT f in
    let on : has STRING_OPERAND_TEXT f ≡ true = sym (c.has.ensures f e) ∙ c.if-has.true in
    let own = text_in_string s f bodies on in
    let below = sym (c.the-then-has.ensures g (sym (c.the.ensures f e))) in
    subst (λ v. IfOk c.units_in.result (λ all. all ≡ v))
    (sym (ap (λ (b : Bool). if b then units_in s (the TEXT g) else units_of_bytes (array_bytes s (leaf_at 0 (the STRING_OPERAND_BYTES f)))) on))
    (c.units_in.ensures s (the TEXT g) r below own.0 own.1)

pub returns-else-has : goal.returns-else-has
returns-else-has c s f r fits bodies e =
    let g = the STRING_OPERAND_BYTES f in
    let off : has STRING_OPERAND_TEXT f ≡ false = sym (c.has.ensures f e) ∙ c.if-has.false in
    let token = c.leaf_at.ensures g (sym (c.the-else-has.ensures f e)) in
    let is : IsOf s ByteArray c.leaf_at.result = subst (IsOf s ByteArray) (sym token) (bytes_in_string s f bodies fits off) in
    subst (λ v. IfOk c.array_units.result (λ all. all ≡ v))
    (ap (λ k. units_of_bytes (array_bytes s k)) token
    ∙ sym (ap (λ (b : Bool). if b then units_in s (the TEXT (the STRING_OPERAND_TEXT f)) else units_of_bytes (array_bytes s (leaf_at 0 g))) off))
    (c.array_units.ensures s r is)
