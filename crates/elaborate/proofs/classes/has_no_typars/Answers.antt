use Rattle.std.proofs.Common.{◌≡◌, [], ◌∷◌, map, ap, sym, ◌∙◌}
use Rattle.ilasm_grammar.specs.declared.productions.TheConstants.{TYPAR, TYPARS_OPT_SOME}
use Rattle.source_model.specs.Forest.{child, each, leaf_at, none}
use Rattle.source_model.specs.Values.{name_text}
use Rattle.source_nodes.proofs.Collecting.{no_forest}
use Rattle.lower_members.proofs.BareParams.{no_nodes}
use Rattle.elaborate.proofs.classes.has_no_typars.Goals as goal

pub returns : goal.returns
returns c empty s f e =
    let nothing = no_nodes c.child.result.now (sym c.is_empty.ensures ∙ empty) in
    let none_is : child (TYPARS_OPT_SOME ∷ []) f ≡ none = no_forest (child (TYPARS_OPT_SOME ∷ []) f) (sym (c.child.ensures f e) ∙ nothing) in
    ap (λ g. map (λ h. name_text s (leaf_at 0 h)) (each TYPAR g)) none_is
