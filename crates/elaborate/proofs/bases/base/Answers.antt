use Rattle.std.proofs.Common.{◌≡◌, [], ◌∷◌, ap, sym, subst, ◌∙◌}
use Rattle.std.specs.Prelude.{IfOk}
use Rattle.ilasm_grammar.specs.declared.productions.TheConstants.{EXTENDS_OPT_SOME}
use Rattle.source_model.specs.Forest.{child}
use Rattle.source_flags.specs.InRange.{IsInRange}
use Rattle.source_flags.proofs.Gathered.{readable}
use Rattle.source_syntax.proofs.ReferenceLemmas.{of_child}
use Rattle.elaborate.proofs.BaseLemmas.{of_interface, of_object, of_written}
use Rattle.elaborate.proofs.bases.base.Goals as goal

pub returns-then-interface : goal.returns-then-interface
returns-then-interface c s a x f e each core root interface =
    of_interface s a f (sym interface ∙ c.if-interface.true)

pub returns-then-has : goal.returns-then-has
returns-then-has c s a x f e each core root interface =
    let written = child (EXTENDS_OPT_SOME ∷ []) f in
    let below = sym (c.child-written.ensures f e) in
    of_written s a f c.in_ok-owner.owner (sym interface ∙ c.if-interface.false) (sym (c.has.ensures written below) ∙ c.if-has.true)
    (c.in_ok-owner.ensures s a x written below (readable s written (of_child (IsInRange s) (EXTENDS_OPT_SOME ∷ []) f each)))

pub returns : goal.returns
returns c s a x f e each core root interface =
    let written = child (EXTENDS_OPT_SOME ∷ []) f in
    let below = sym (c.child-written.ensures f e) in
    subst (λ o. IfOk c.named_object.result (λ owner. owner ≡ o))
    (of_object s a f c.args.core (sym interface ∙ c.if-interface.false) (sym (c.has.ensures written below) ∙ c.if-has.false)
    (sym root ∙ c.if-root.false) core)
    c.named_object.ensures
