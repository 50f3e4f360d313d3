use Rattle.std.proofs.Common.{◌≡◌, ap, sym, ◌∙◌}
use Rattle.std.specs.Prelude.{Bool, true, if◌then◌else◌}
use Rattle.ilasm_grammar.specs.declared.productions.TheConstants.{BRACKETED_INT}
use Rattle.source_model.specs.Forest.{leaf_at, the}
use Rattle.source_model.specs.OutOfRange.{is_32_bits}
use Rattle.source_model.specs.Shapes.{natural}
use Rattle.source_model.specs.Values.{int_at}
use Rattle.lower_members.proofs.DataItemLemmas.{count_fits}
use Rattle.lower_members.proofs.data_items.item_count.Goals as goal

pub returns-then-has : goal.returns-then-has
returns-then-has c s f r e h =
    let some = sym (c.has.ensures f e) ∙ c.if-has.true in
    let token = c.leaf_at.ensures (the BRACKETED_INT f) (sym (c.the.ensures f e)) in
    let fits : is_32_bits (int_at s c.leaf_at.result) ≡ true = ap (λ k. is_32_bits (int_at s k)) token ∙ count_fits s f h some in
    c.natural_32.ensures s r fits ∙ ap (λ k. natural (int_at s k)) token
    ∙ sym (ap (λ (b : Bool). if b then natural (int_at s (leaf_at 1 (the BRACKETED_INT f))) else 1) some)
