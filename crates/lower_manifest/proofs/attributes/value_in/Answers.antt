use Rattle.std.proofs.Common.{◌≡◌, [], ap, sym, subst, ◌∙◌}
use Rattle.std.specs.Prelude.{Bool, IfOk, if◌then◌else◌}
use Rattle.ilasm_grammar.specs.declared.productions.TheConstants.{EQ_BYTES_OPT_SOME}
use Rattle.il_lexer.specs.declared.types.TokenKind.TheVariants as kind
use Rattle.source_model.specs.Forest.{leaf_at, the}
use Rattle.source_model.specs.Values.{equals_bytes}
use Rattle.source_nodes.specs.Readers.{IsOf}
use Rattle.lower_manifest.proofs.CustomLemmas.{value_is_bytes}
use Rattle.lower_manifest.proofs.attributes.value_in.Goals as goal

pub returns-then-has : goal.returns-then-has
returns-then-has c s f r e h =
    let some = sym (c.has.ensures f e) ∙ c.if-has.true in
    let token = c.leaf_at.ensures (the EQ_BYTES_OPT_SOME f) (sym (c.the.ensures f e)) in
    let known : IsOf s kind.EqBytes c.leaf_at.result = subst (IsOf s kind.EqBytes) (sym token) (value_is_bytes s f h some) in
    subst (λ v. IfOk c.equals_bytes.result (λ value. value ≡ v))
    (ap (equals_bytes s) token ∙ sym (ap (λ (b : Bool). if b then equals_bytes s (leaf_at 0 (the EQ_BYTES_OPT_SOME f)) else []) some))
    (c.equals_bytes.ensures s r known)

pub returns-else-has : goal.returns-else-has
returns-else-has c s f r e h =
    let none = sym (c.has.ensures f e) ∙ c.if-has.false in
    c.new.ensures ∙ sym (ap (λ (b : Bool). if b then equals_bytes s (leaf_at 0 (the EQ_BYTES_OPT_SOME f)) else []) none)
