use Rattle.std.proofs.Common.{◌≡◌, [], ◌∷◌, ap, sym, subst, ◌∙◌}
use Rattle.std.specs.Prelude.{Bool, true, false, pos, if◌then◌else◌}
use Rattle.il_lexer.specs.declared.types.TokenKind.TheVariants.{Name}
use Rattle.ilasm_grammar.specs.declared.productions.TheConstants.{INDEX_INT, INDEX_NAME}
use Rattle.source_model.specs.Forest.{child, has}
use Rattle.source_model.specs.Instructions.{op_of}
use Rattle.source_model.specs.OutOfRange.{is_16_bits}
use Rattle.source_model.specs.Shapes.{natural}
use Rattle.source_model.specs.Values.{int_at, or_zero}
use Rattle.source_model.specs.Variables.{variable_named, variable_number, variable_token}
use Rattle.source_nodes.specs.Readers.{IsOf}
use Rattle.lower_bodies.proofs.NumberLemmas.{short_variable, small_variable}
use Rattle.lower_bodies.proofs.VariableParts.{has_variable}
use Rattle.lower_bodies.proofs.variable_numbers.variable_number.Goals as goal

pub returns-in_ok-number : goal.returns-in_ok-number
returns-in_ok-number c s f p r variables fits bodies e within =
    let v = has_variable s p.below fits bodies in
    let named : has INDEX_NAME p.below ≡ true = sym (c.has.ensures p.below e) ∙ c.if-has.true in
    let below = sym (c.child.ensures p.below e) in
    let token : c.leaf_at-token.result ≡ variable_token p = c.leaf_at-token.ensures (child (INDEX_NAME ∷ []) p.below) below ∙ sym (v.name-token named) in
    let name : IsOf s Name c.leaf_at-token.result = subst (IsOf s Name) (sym (c.leaf_at-token.ensures (child (INDEX_NAME ∷ []) p.below) below)) (v.named named) in
    let number : c.in_ok-number.number ≡ variable_named s f (op_of s p) (variable_token p) =
    c.in_ok-number.ensures s f r variables name ∙ ap (λ o. variable_named s f o c.leaf_at-token.result) (c.op_of.ensures s p r e)
    ∙ ap (variable_named s f (op_of s p)) token in
    let by_name : has INDEX_INT p.below ≡ false = v.either ∙ ap (λ (b : Bool). if b then false else true) named in
    let is : variable_number s f p ≡ pos (or_zero c.in_ok-number.number) =
    ap (λ (b : Bool). if b then int_at s (variable_token p) else pos (or_zero (variable_named s f (op_of s p) (variable_token p)))) by_name
    ∙ ap (λ o. pos (or_zero o)) (sym number) in
    c.short_or_zero.ensures (small_variable s f p (or_zero c.in_ok-number.number) within is) ∙ sym (ap natural is)

pub returns-else-has : goal.returns-else-has
returns-else-has c s f p r variables fits bodies e within =
    let v = has_variable s p.below fits bodies in
    let not_named : has INDEX_NAME p.below ≡ false = sym (c.has.ensures p.below e) ∙ c.if-has.false in
    let below = sym (c.child-else-has.ensures p.below e) in
    let token : c.leaf_at.result ≡ variable_token p = c.leaf_at.ensures (child (INDEX_INT ∷ []) p.below) below ∙ sym (v.number-token not_named) in
    let by_number : has INDEX_INT p.below ≡ true = v.either ∙ ap (λ (b : Bool). if b then false else true) not_named in
    let is : variable_number s f p ≡ int_at s c.leaf_at.result =
    ap (λ (b : Bool). if b then int_at s (variable_token p) else pos (or_zero (variable_named s f (op_of s p) (variable_token p)))) by_number
    ∙ ap (int_at s) (sym token) in
    c.natural_16.ensures s r (ap is_16_bits (sym is) ∙ short_variable s f p within) ∙ sym (ap natural is)
