use Rattle.std.proofs.Common.{◌≡◌, [], ◌∷◌, ap, sym, subst, ◌∙◌}
use Rattle.std.specs.Prelude.{Bool, true, IfOk, if◌then◌else◌}
use Rattle.il_lexer.specs.declared.types.TokenKind.TheVariants.{Name}
use Rattle.ilasm_grammar.specs.declared.productions.TheConstants.{HANDLER_BLOCK, HANDLER_HANDLER}
use Rattle.source_model.specs.Clauses.{block_in, label_range, scope_range, stands}
use Rattle.source_model.specs.Forest.{child, leaf_at}
use Rattle.source_nodes.specs.Readers.{IsOf}
use Rattle.lower_bodies.specs.Ranges.{range_of}
use Rattle.lower_bodies.proofs.RangeNames.{handler_names}
use Rattle.lower_bodies.proofs.clause_ranges.handler_range.Goals as goal

pub returns-then-stands : goal.returns-then-stands
returns-then-stands c s f x code h e =
    let named = child (HANDLER_HANDLER ∷ []) x in
    let on : stands HANDLER_HANDLER x ≡ true = sym (c.stands.ensures x e) ∙ c.if-stands.true in
    let names = handler_names s x h on in
    let below = sym (c.child-names.ensures x e) in
    let from = c.leaf_at.ensures named below in
    let to = c.leaf_at-then-stands.ensures named below in
    subst (λ w. IfOk c.label_range.result (λ y. range_of y ≡ w))
    (ap (λ k. label_range s f k c.leaf_at-then-stands.result) from ∙ ap (label_range s f (leaf_at 1 named)) to
    ∙ sym (ap (λ (q : Bool). if q then label_range s f (leaf_at 1 named) (leaf_at 3 named) else scope_range f (block_in HANDLER_BLOCK x)) on))
    (c.label_range.ensures s f code (subst (IsOf s Name) (sym from) names.0) (subst (IsOf s Name) (sym to) names.1))
