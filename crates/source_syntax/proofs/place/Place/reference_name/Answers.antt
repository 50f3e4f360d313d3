use Rattle.std.proofs.Common.{◌≡◌, [], ◌∷◌, ap, sym, subst, ◌∙◌}
use Rattle.std.specs.Prelude.{Bool, if◌then◌else◌}
use Rattle.std.proofs.lemmas.Result.{IfOk-weaker}
use Rattle.il_lexer.specs.declared.types.TokenKind.TheVariants as kind
use Rattle.ilasm_grammar.specs.declared.productions.TheConstants.{TARGET_END, TARGET_NAME}
use Rattle.source_model.specs.Forest.{child, leaf_at, the}
use Rattle.source_model.specs.References.{method_name, reference_name}
use Rattle.source_model.specs.Values.{name_text}
use Rattle.source_syntax.specs.Places.{IsSound}
use Rattle.source_nodes.specs.Readers.{IsOf}
use Rattle.source_syntax.proofs.ReferenceLemmas.{lone_name, of_the}
use Rattle.source_syntax.proofs.TypeWalks.{has_bodies}
use Rattle.source_syntax.proofs.place.Place.reference_name.Goals as goal

pub returns-then-has : goal.returns-then-has
returns-then-has c s a x f e sound each =
    let some = sym (c.has.ensures f e) ∙ c.if-has.true in
    IfOk-weaker c.method_name.result _ (λ name. name ≡ reference_name s a f)
    (λ name h. h ∙ sym (ap (λ (b : Bool). if b then method_name s (the TARGET_END f) else name_text s (leaf_at 0 (child (TARGET_NAME ∷ []) f))) some))
    (c.method_name.ensures s x.reads (the TARGET_END f) (sym (c.the.ensures f e)) (has_bodies s (the TARGET_END f) (of_the (IsSound s) TARGET_END f each)))

pub returns : goal.returns
returns c s a x f e sound each =
    let none = sym (c.has.ensures f e) ∙ c.if-has.false in
    let at = c.leaf_at.ensures (child (TARGET_NAME ∷ []) f) (sym (c.child.ensures f e)) in
    IfOk-weaker c.name_text.result _ (λ name. name ≡ reference_name s a f)
    (λ name h. h ∙ ap (name_text s) at
    ∙ sym (ap (λ (b : Bool). if b then method_name s (the TARGET_END f) else name_text s (leaf_at 0 (child (TARGET_NAME ∷ []) f))) none))
    (c.name_text.ensures s x.reads (subst (IsOf s kind.Name) (sym at) (lone_name s a f sound each none)))
