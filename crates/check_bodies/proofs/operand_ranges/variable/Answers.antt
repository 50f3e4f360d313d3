use Rattle.std.proofs.Common.{◌≡◌, [], ◌∷◌, ap, sym, subst, ◌∙◌}
use Rattle.std.specs.Prelude.{Bool, true, false, pos, if◌then◌else◌}
use Rattle.il_lexer.specs.declared.types.TokenKind.TheVariants.{Name}
use Rattle.assembly_tree.specs.WellFormedBodies.{operand_kind}
use Rattle.ilasm_grammar.specs.declared.productions.TheConstants.{INDEX_INT, INDEX_NAME}
use Rattle.source_model.specs.BodyNumbers.{greatest_variable}
use Rattle.source_model.specs.Forest.{child, has}
use Rattle.source_model.specs.Instructions.{op_of}
use Rattle.source_model.specs.TypeRules.{is_within, unless}
use Rattle.source_model.specs.Values.{int_at, or_zero}
use Rattle.source_model.specs.Variables.{variable_named, variable_token}
use Rattle.source_nodes.specs.Least.{least}
use Rattle.source_nodes.specs.Readers.{IsOf}
use Rattle.check_bodies.proofs.OffsetLemmas.{kind_is}
use Rattle.check_bodies.proofs.VariableParts.{has_variable}
use Rattle.check_bodies.proofs.operand_ranges.variable.Goals as goal

pub returns-in_ok-number : goal.returns-in_ok-number
returns-in_ok-number c s f p r variables fits bodies e =
    let v = has_variable s p.below fits bodies in
    let k = operand_kind (op_of s p) in
    let op = c.op_of-op.ensures s p r e in
    let most = c.greatest_variable-most.ensures ∙ ap greatest_variable (kind_is c.kind_of.result c.op_of-op.result (op_of s p) c.kind_of.ensures op) in
    let named : has INDEX_NAME p.below ≡ true = sym (c.has.ensures p.below e) ∙ c.if-has.true in
    let below = sym (c.child.ensures p.below e) in
    let token : c.leaf_at-token.result ≡ variable_token p = c.leaf_at-token.ensures (child (INDEX_NAME ∷ []) p.below) below ∙ sym (v.name-token named) in
    let name : IsOf s Name c.leaf_at-token.result = subst (IsOf s Name) (sym (c.leaf_at-token.ensures (child (INDEX_NAME ∷ []) p.below) below)) (v.named named) in
    let number : c.in_ok-number.number ≡ variable_named s f (op_of s p) (variable_token p) =
    c.in_ok-number.ensures s f r variables name ∙ ap (λ o. variable_named s f o c.leaf_at-token.result) op ∙ ap (variable_named s f (op_of s p)) token in
    let by_name : has INDEX_INT p.below ≡ false = v.either ∙ ap (λ (b : Bool). if b then false else true) named in
    let within =
    c.is_at_most.ensures
    ∙ ap (λ m. is_within (pos 0) (pos m) (pos (or_zero c.in_ok-number.number))) (c.from.ensures ∙ most)
    ∙ ap (λ o. is_within (pos 0) (pos (greatest_variable k)) (pos (or_zero o))) number in
    c.unless.ensures
    ∙ ap (λ (b : Bool). least (if b then [] else c.leaf_at-token.result ∷ [])) within
    ∙ ap (λ t. least (if is_within (pos 0) (pos (greatest_variable k)) (pos (or_zero (variable_named s f (op_of s p) (variable_token p)))) then [] else t ∷ [])) token
    ∙ sym (ap (λ (b : Bool). least (if is_within (pos 0) (pos (greatest_variable k)) (if b then int_at s (variable_token p) else pos (or_zero (variable_named s f (op_of s p) (variable_token p)))) then [] else variable_token p ∷ [])) by_name)

pub returns-else-has : goal.returns-else-has
returns-else-has c s f p r variables fits bodies e =
    let v = has_variable s p.below fits bodies in
    let k = operand_kind (op_of s p) in
    let op = c.op_of-op.ensures s p r e in
    let most = c.greatest_variable-most.ensures ∙ ap greatest_variable (kind_is c.kind_of.result c.op_of-op.result (op_of s p) c.kind_of.ensures op) in
    let not_named : has INDEX_NAME p.below ≡ false = sym (c.has.ensures p.below e) ∙ c.if-has.false in
    let below = sym (c.child-else-has.ensures p.below e) in
    let token : c.leaf_at-token-else-has.result ≡ variable_token p = c.leaf_at-token-else-has.ensures (child (INDEX_INT ∷ []) p.below) below ∙ sym (v.number-token not_named) in
    let by_number : has INDEX_INT p.below ≡ true = v.either ∙ ap (λ (b : Bool). if b then false else true) not_named in
    c.up_to.ensures s r
    ∙ ap (λ m. least (unless (is_within (pos 0) (pos m)) s c.leaf_at-token-else-has.result)) most
    ∙ ap (λ t. least (unless (is_within (pos 0) (pos (greatest_variable k))) s t)) token
    ∙ sym (ap (λ (b : Bool). least (if is_within (pos 0) (pos (greatest_variable k)) (if b then int_at s (variable_token p) else pos (or_zero (variable_named s f (op_of s p) (variable_token p)))) then [] else variable_token p ∷ [])) by_number)
