use Rattle.std.proofs.Common.{◌≡◌, [], ◌∷◌, ap, subst, sym, ◌∙◌}
use Rattle.std.specs.Prelude.{IfOk}
use Rattle.ilasm_grammar.specs.declared.productions.TheConstants.{IMPLEMENTS_OPT_SOME}
use Rattle.source_model.specs.Classes.{rising}
use Rattle.source_model.specs.Forest.{child, none}
use Rattle.source_model.specs.Types.{owners_in}
use Rattle.source_flags.specs.InRange.{IsInRange}
use Rattle.source_flags.proofs.Gathered.{readable}
use Rattle.source_nodes.proofs.Collecting.{no_forest}
use Rattle.source_syntax.proofs.ReferenceLemmas.{of_child}
use Rattle.source_syntax.proofs.TypeLemmas.{owners_none}
use Rattle.lower_members.proofs.BareParams.{no_nodes}
use Rattle.elaborate.proofs.class_heads.interfaces.Goals as goal

pub returns-then-is_empty : goal.returns-then-is_empty
returns-then-is_empty c s a x f e each =
    let nothing = no_nodes c.child-written.result.now (sym c.is_empty.ensures ∙ c.if-is_empty.true) in
    let empty : child (IMPLEMENTS_OPT_SOME ∷ []) f ≡ none = no_forest (child (IMPLEMENTS_OPT_SOME ∷ []) f) (sym (c.child-written.ensures f e) ∙ nothing) in
    c.new.ensures ∙ sym (ap rising (ap (owners_in s a) empty ∙ owners_none s a))

pub returns : goal.returns
returns c s a x f e each =
    let written = child (IMPLEMENTS_OPT_SOME ∷ []) f in
    let owners = c.in_ok-owners.ensures s a x written (sym (c.child-written.ensures f e)) (readable s written (of_child (IsInRange s) (IMPLEMENTS_OPT_SOME ∷ []) f each)) in
    subst (λ os. IfOk c.rising.result (λ sorted. sorted ≡ rising os)) owners c.rising.ensures
