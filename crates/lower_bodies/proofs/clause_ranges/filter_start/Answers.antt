use Rattle.std.proofs.Common.{◌≡◌, [], ◌∷◌, ap, sym, subst, ◌∙◌}
use Rattle.std.specs.Prelude.{Bool, true, IfOk, if◌then◌else◌}
use Rattle.il_lexer.specs.declared.types.TokenKind.TheVariants.{Name}
use Rattle.ilasm_grammar.specs.declared.productions.TheConstants.{FILTER_START_BLOCK, FILTER_START_NAME}
use Rattle.source_model.specs.Clauses.{block_in, stands}
use Rattle.source_model.specs.Forest.{child, leaf_at}
use Rattle.source_model.specs.Instructions.{label_number, number_at}
use Rattle.source_nodes.specs.Readers.{IsOf}
use Rattle.lower_bodies.proofs.RangeNames.{filter_name}
use Rattle.lower_bodies.proofs.clause_ranges.filter_start.Goals as goal

pub returns-then-stands : goal.returns-then-stands
returns-then-stands c s f x code h e =
    let named = child (FILTER_START_NAME ∷ []) x in
    let on : stands FILTER_START_NAME x ≡ true = sym (c.stands.ensures x e) ∙ c.if-stands.true in
    let at = c.leaf_at-name.ensures named (sym (c.child.ensures x e)) in
    subst (λ w. IfOk c.label_number.result (λ k. k ≡ w))
    (ap (label_number s f) at
    ∙ sym (ap (λ (q : Bool). if q then label_number s f (leaf_at 0 named) else number_at f (leaf_at 0 (block_in FILTER_START_BLOCK x))) on))
    (c.label_number.ensures s f code (subst (IsOf s Name) (sym at) (filter_name s x h on)))
