use Rattle.std.proofs.Common.{length, refl}
use Rattle.std.proofs.lemmas.Option.{slice_get_read}
use Rattle.source_nodes.specs.declared.word_ops.TheConstants.{WORD_OPS}
use Rattle.source_nodes.proofs.WordOps.{op_numbered}
use Rattle.source_nodes.proofs.operations.op_numbered.Goals as goal

pub returns-in-Some : goal.returns-in-Some
returns-in-Some c =
    let h = c.in-Some.ensures.lookup in
    op_numbered c.args.number c.in-Some.op.now (slice_get_read WORD_OPS (length WORD_OPS) c.args.number c.in-Some.op.now refl h.3.0 h.1)
