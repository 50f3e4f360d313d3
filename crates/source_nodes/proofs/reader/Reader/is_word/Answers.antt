use Rattle.std.proofs.Common.{ap, sym, ◌∙◌}
use Rattle.std.specs.Prelude.{slice_get}
use Rattle.source_model.specs.Source.{is_word_numbered, word_of_token}
use Rattle.source_nodes.proofs.reader.Reader.is_word.Goals as goal

pub returns : goal.returns
returns c = λ s r. c.is_word.ensures c.args.self.now.source.now ∙ ap (λ ts. is_word_numbered c.args.word (word_of_token (slice_get ts c.args.token))) (sym r.tokens)
