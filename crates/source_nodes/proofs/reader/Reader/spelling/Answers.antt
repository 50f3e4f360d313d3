use Rattle.std.proofs.Common.{sym, subst}
use Rattle.il_lexer.specs.Spelled.{IsSpelling}
use Rattle.source_nodes.proofs.ReaderLemmas.{reader_spelling, token_spelled, name_is_utf8}
use Rattle.source_nodes.proofs.reader.Reader.spelling.Goals as goal

pub returns-clause-value : goal.returns-clause-value
returns-clause-value c = λ s r. reader_spelling c.args.self.now s c.args.token c.spelling.result.now r c.spelling.ensures

pub returns-clause-spelled : goal.returns-clause-spelled
returns-clause-spelled c = λ s r kind is.
    subst (IsSpelling kind) (sym (reader_spelling c.args.self.now s c.args.token c.spelling.result.now r c.spelling.ensures))
    (token_spelled c.the_longest_spelling_is_taken.ensures c.tokens_are_spellings.ensures s r.lexes kind c.args.token is)

pub returns-clause-utf8 : goal.returns-clause-utf8
returns-clause-utf8 c = λ s r is.
    name_is_utf8 c.the_longest_spelling_is_taken.ensures c.tokens_are_spellings.ensures s c.args.token c.spelling.result.now
    (reader_spelling c.args.self.now s c.args.token c.spelling.result.now r c.spelling.ensures) r.lexes is
