use Rattle.std.proofs.Common.{◌≡◌, ◌<◌, ◌^◌, ◌∙◌, ap, sym, subst}
use Rattle.source_model.specs.Constants.{wrapped}
use Rattle.source_nodes.proofs.Numbers.{small_rest}
use Rattle.source_nodes.proofs.reader.Reader.natural.Goals as goal

pub returns : goal.returns
returns c s r n is less =
    let value : c.wrapped_integer.result ≡ n = c.wrapped_integer.ensures s r ∙ ap (wrapped 64) is ∙ small_rest n less in
    c.word_of.ensures (subst (λ m. m < 2 ^ 32) (sym value) less) ∙ value
