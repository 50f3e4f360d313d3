use Rattle.std.proofs.Common.{ap, ◌∙◌}
use Rattle.std.specs.Prelude.{find, bytes_eq}
use Rattle.opcode_table.specs.Opcodes.{names}
use Rattle.source_model.specs.Instructions.{op_or_nop}
use Rattle.source_nodes.proofs.OpNames.{odd_unnamed, word_named, word_unnamed}
use Rattle.source_nodes.proofs.operations.op_named.Goals as goal

pub returns-in-Some : goal.returns-in-Some
returns-in-Some c =
    word_named c.in-Ok.word.now c.in-Some.op c.op_of_word.result c.op_of_word.ensures.found c.op_of_word.ensures.all c.in-Some.is
    ∙ ap (λ w. op_or_nop (find (λ row. bytes_eq row.0 w) names)) c.in-Ok.ensures.cases.0

pub returns-in-None : goal.returns-in-None
returns-in-None c =
    word_unnamed c.in-Ok.word.now c.op_of_word.result c.op_of_word.ensures.found c.op_of_word.ensures.all c.in-None.is
    ∙ ap (λ w. op_or_nop (find (λ row. bytes_eq row.0 w) names)) c.in-Ok.ensures.cases.0

pub returns-in-Err : goal.returns-in-Err
returns-in-Err c = odd_unnamed c.args.word.now c.in-Err.ensures.cases.0
