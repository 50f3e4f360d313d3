use Rattle.std.proofs.Common.{ap, sym, ◌∙◌}
use Rattle.std.specs.Prelude.{slice_get}
use Rattle.source_model.specs.Source.{word_of_token}
use Rattle.source_nodes.proofs.reader.Reader.word_at.Goals as goal

pub returns : goal.returns
returns c = λ s r. c.word_at.ensures c.args.self.now.source.now ∙ ap (λ ts. word_of_token (slice_get ts c.args.token)) (sym r.tokens)
