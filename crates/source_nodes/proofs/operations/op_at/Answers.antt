use Rattle.std.proofs.Common.{ap, ◌∙◌, sym}
use Rattle.std.specs.Prelude.{find, bytes_eq}
use Rattle.il_lexer.specs.declared.types.TokenKind.TheVariants.{Word}
use Rattle.opcode_table.specs.Opcodes.{names}
use Rattle.source_model.specs.Instructions.{op_or_nop}
use Rattle.source_model.specs.Source.{spelling}
use Rattle.source_nodes.proofs.ReaderLemmas.{token_spelled}
use Rattle.source_nodes.proofs.WordOps.{is_of_word}
use Rattle.source_nodes.proofs.operations.op_at.Goals as goal

pub returns-in_default : goal.returns-in_default
returns-in_default c = λ s r. c.op_named.ensures ∙ ap (λ w. op_or_nop (find (λ row. bytes_eq row.0 w) names)) (c.spelling.ensures.value s r)

pub returns-in-None : goal.returns-in-None
returns-in-None c = λ s r.
    c.op_named-in-None.ensures ∙ ap (λ w. op_or_nop (find (λ row. bytes_eq row.0 w) names)) (c.spelling-in-None.ensures.value s r)

pub returns-in-Some-op_numbered : goal.returns-in-Some-op_numbered
returns-in-Some-op_numbered c = λ s r.
    let word = is_of_word s c.args.token c.in-Some.number (sym (c.word_at.ensures s r) ∙ c.in-Some.is) in
    c.in-Some-op_numbered.ensures (spelling s c.args.token)
    (token_spelled c.the_longest_spelling_is_taken.ensures c.tokens_are_spellings.ensures s r.lexes (Word c.in-Some.number) c.args.token word)
