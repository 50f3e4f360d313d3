use Rattle.std.proofs.Common.{◌≡◌, ◌∙◌, List, ◌∷◌, [], length, refl, arith, ap, sym, subst}
use Rattle.std.specs.Prelude.{All, map}
use Rattle.std.proofs.lemmas.Bool.{eqb-true}
use Rattle.il_lexer.specs.declared.types.TokenKind.TheVariants as kind
use Rattle.ilasm_grammar.specs.declared.productions.TheConstants.{TYPAR, TYPARS_OPT_SOME}
use Rattle.source_model.specs.Forest.{child, each, leaf_at}
use Rattle.source_model.specs.Values.{name_text}
use Rattle.source_nodes.specs.Readers.{IsOf}
use Rattle.source_nodes.proofs.Collecting.{no_forest}
use Rattle.source_syntax.proofs.NamingLemmas.{typar_names_are, typars_are_names}
use Rattle.source_syntax.proofs.name_lists.typar_names.Goals as goal

pub returns : goal.returns
returns c s f r e h =
    let slice = c.as_slice.ensures ∙ c.in_ok-tokens.ensures (child (TYPARS_OPT_SOME ∷ []) f) (sym (c.child-typars.ensures f e)) in
    c.in_ok-names.ensures s r (subst (All (IsOf s kind.Name)) (sym slice) (typars_are_names s f h)) ∙ ap (map (name_text s)) slice ∙ typar_names_are s f

no_length : {X : Type 0} (xs : List X) → length xs ≡ 0 → xs ≡ []
no_length [] e = refl
no_length (x ∷ xs) e = absurd (omega (arith, e))

-- without the production there are none
pub returns-then-is_empty : goal.returns-then-is_empty
returns-then-is_empty c s f r e h =
    let below = child (TYPARS_OPT_SOME ∷ []) f in
    let nothing : c.child-typars.result.now ≡ [] = no_length c.child-typars.result.now (eqb-true (length c.child-typars.result.now) 0 (sym c.is_empty.ensures ∙ c.if-is_empty.true)) in
    let none = no_forest below (sym (c.child-typars.ensures f e) ∙ nothing) in
    c.new.ensures ∙ ap (λ g. map (λ p. name_text s (leaf_at 0 p)) (each TYPAR g)) (sym none)
