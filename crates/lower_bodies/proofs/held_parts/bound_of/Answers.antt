use Rattle.std.proofs.Common.{[], ◌∷◌, ap, sym, ◌∙◌}
use Rattle.std.specs.Prelude.{fold}
use Rattle.ilasm_grammar.specs.declared.productions.TheConstants.{ITEM_MAXSTACK}
use Rattle.source_model.specs.Forest.{below_each, leaf_at}
use Rattle.source_model.specs.Shapes.{natural}
use Rattle.source_model.specs.Values.{int_at}
use Rattle.lower_bodies.proofs.HeldLemmas.{not_held}
use Rattle.lower_bodies.proofs.PastLemmas.{bound_unpassed}
use Rattle.lower_bodies.proofs.held_parts.bound_of.Goals as goal

pub returns-else-held : goal.returns-else-held
returns-else-held c s f r e h fits held =
    let none = not_held (ITEM_MAXSTACK ∷ []) bound_unpassed s f h (sym held.bound ∙ c.if-held.false) in
    ap (λ ps. fold (λ n line. natural (int_at s (leaf_at 1 line))) 8 (below_each ps)) (sym none)
