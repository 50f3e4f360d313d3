use Rattle.std.proofs.Common.{sym, ◌≡◌, rules}
use Rattle.metadata_tables.specs.Stream.{cell}
use Rattle.image_model.specs.Streams.{tables_of}
use Rattle.image_used.specs.Spreading.{IndexNames, SignatureLeads}
use Rattle.image_used.proofs.Spreading.{on_ok, spreads_none, spreads_as}
use Rattle.image_used.proofs.Telling.{no_signature, index_signature, signature_index}
use Rattle.image_used.proofs.spread.Spread.mark_signature.Goals as goal

pub returns-in-None-clause-marked : goal.returns-in-None-clause-marked
returns-in-None-clause-marked c =
    spreads_none c.args.self.now.marks c.args.self.now.todo (SignatureLeads c.args.image.now c.args.table c.args.row)
    (λ t r n p. absurd (no_signature c.args.image.now c.args.table c.args.row t r (sym c.in-None.ensures.column) n))

pub returns-in-Some-clause-marked : goal.returns-in-Some-clause-marked
returns-in-Some-clause-marked c =
    let index : cell (tables_of c.args.image.now) c.args.table c.args.row c.in-Some.column ≡ c.cell-index.result = sym (search rules) in
    on_ok c.mark_index.result c.mark_index.ensures.marked
    (spreads_as c.args.self.now.marks c.mark_index.new.self.marks c.args.self.now.todo c.mark_index.new.self.todo (IndexNames c.args.image.now c.args.table c.cell-index.result) (SignatureLeads c.args.image.now c.args.table c.args.row)
    (λ t r n. index_signature c.args.image.now c.args.table c.args.row c.in-Some.column c.cell-index.result t r (sym c.in-Some.ensures.column) index n)
    (λ t r n. signature_index c.args.image.now c.args.table c.args.row c.in-Some.column c.cell-index.result t r (sym c.in-Some.ensures.column) index n))
