use Rattle.std.proofs.Common.{◌%◌, ◌^◌, ap, sym, ◌∙◌}
use Rattle.ilasm_grammar.specs.declared.productions.TheConstants.{FLAGS}
use Rattle.source_model.specs.Forest.{the}
use Rattle.source_model.specs.Shapes.{natural}
use Rattle.source_model.specs.Values.{int_at}
use Rattle.source_flags.proofs.FlagLemmas.{low_of_64}
use Rattle.source_flags.proofs.flag_rows.flags_number.Goals as goal

pub returns : goal.returns
returns c s f r e =
    let token = c.leaf_at.ensures (the FLAGS f) (sym (c.the-flags.ensures f e)) in
    ap (λ n. n % 2 ^ 32) (c.natural.ensures s r) ∙ low_of_64 (natural (int_at s c.leaf_at.result)) ∙ ap (λ k. natural (int_at s k) % 2 ^ 32) token
