use Rattle.std.proofs.Common.{◌≡◌, ℕ, [], ◌∷◌, ap, sym, subst, ◌∙◌, refl}
use Rattle.std.specs.Prelude.{Bool, true, false, not, ◌&&◌, Option, None, Some, is_some, if◌then◌else◌}
use Rattle.il_lexer.specs.declared.types.TokenKind.TheVariants.{Name}
use Rattle.ilasm_grammar.specs.declared.productions.TheConstants.{INDEX_NAME}
use Rattle.source_model.specs.Forest.{child, has}
use Rattle.source_model.specs.Instructions.{op_of}
use Rattle.source_model.specs.Variables.{variable_named, variable_token}
use Rattle.source_nodes.specs.Least.{least}
use Rattle.source_nodes.specs.Readers.{IsOf}
use Rattle.check_bodies.proofs.VariableParts.{has_variable}
use Rattle.check_bodies.proofs.variable_rules.undeclared.Goals as goal

unless_some : (h : Bool) (o : Option ℕ) (token : ℕ) → h ≡ true → (if is_some o then [] else token ∷ []) ≡ (if h && not (is_some o) then token ∷ [] else [])
unless_some true None token e = refl
unless_some true (Some n) token e = refl
unless_some false o token e = absurd cc

pub returns-in_ok-number : goal.returns-in_ok-number
returns-in_ok-number c s f p r variables fits bodies e =
    let v = has_variable s p.below fits bodies in
    let named : has INDEX_NAME p.below ≡ true = sym (c.has.ensures p.below e) ∙ c.if-has.true in
    let below = sym (c.child.ensures p.below e) in
    let token : c.leaf_at-token.result ≡ variable_token p = c.leaf_at-token.ensures (child (INDEX_NAME ∷ []) p.below) below ∙ sym (v.name-token named) in
    let name : IsOf s Name c.leaf_at-token.result = subst (IsOf s Name) (sym (c.leaf_at-token.ensures (child (INDEX_NAME ∷ []) p.below) below)) (v.named named) in
    let number : c.in_ok-number.number ≡ variable_named s f (op_of s p) (variable_token p) =
    c.in_ok-number.ensures s f r variables name ∙ ap (λ op. variable_named s f op c.leaf_at-token.result) (c.op_of.ensures s p r e) ∙ ap (variable_named s f (op_of s p)) token in
    c.unless.ensures
    ∙ ap (λ (b : Bool). least (if b then [] else c.leaf_at-token.result ∷ [])) (c.is_some.ensures ∙ ap is_some number)
    ∙ ap (λ t. least (if is_some (variable_named s f (op_of s p) (variable_token p)) then [] else t ∷ [])) token
    ∙ ap least (unless_some (has INDEX_NAME p.below) (variable_named s f (op_of s p) (variable_token p)) (variable_token p) named)
