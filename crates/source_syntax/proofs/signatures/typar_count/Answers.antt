use Rattle.std.proofs.Common.{◌≡◌, [], ◌∷◌, length, ap, sym, ◌∙◌, arith}
use Rattle.std.proofs.lemmas.Bool.{eqb-true}
use Rattle.ilasm_grammar.specs.declared.productions.TheConstants.{TYPAR, TYPARS_OPT_SOME}
use Rattle.source_model.specs.Forest.{child, preorder}
use Rattle.source_model.specs.Nodes.{typars}
use Rattle.source_nodes.proofs.NestingLemmas.{found_length}
use Rattle.source_syntax.proofs.SizeLemmas.{child_smaller, few_each}
use Rattle.source_syntax.proofs.signatures.typar_count.Goals as goal

pub returns-then-is_empty : goal.returns-then-is_empty
returns-then-is_empty c f e =
    let below = child (TYPARS_OPT_SOME ∷ []) f in
    let none : length (preorder below) ≡ 0 =
    ap length (sym (c.child-below.ensures f e)) ∙ eqb-true (length c.child-below.result.now) 0 (sym c.is_empty.ensures ∙ c.if-is_empty.true) in
    omega (arith, none, few_each TYPAR below)

pub returns : goal.returns
returns c f e =
    let below = child (TYPARS_OPT_SOME ∷ []) f in
    let count : c.len.result ≡ length (typars f) =
    c.len.ensures ∙ found_length c.child-below.result.now _ TYPAR below (c.in_ok-typars.ensures below (sym (c.child-below.ensures f e))) in
    c.word_of.ensures (omega (arith, count, few_each TYPAR below, child_smaller (TYPARS_OPT_SOME ∷ []) f, ap length e, c.requires.few)) ∙ count
