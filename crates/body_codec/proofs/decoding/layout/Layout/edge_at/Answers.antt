use Rattle.std.proofs.Common.{arith, sym, ◌∙◌}
use Rattle.body_codec.proofs.Places.{count_small, end_is, no_edge_behind, edge_begins}
use Rattle.body_codec.proofs.decoding.layout.Layout.edge_at.Goals as goal

pub overflow_cast-result : goal.overflow_cast-result
overflow_cast-result c =
    let s = c.args.self.now in
    let few = count_small s.code.now s.marks.now c.requires.marked in
    let small = c.requires.marked.small in
    omega arith

pub returns-then-offset-self-clause-found : goal.returns-then-offset-self-clause-found
returns-then-offset-self-clause-found c =
    let s = c.args.self.now in
    end_is s.code.now s.marks.now c.requires.marked ∙ sym c.if-offset-self.true

pub returns-then-offset-self-2-clause-none : goal.returns-then-offset-self-2-clause-none
returns-then-offset-self-2-clause-none c =
    let s = c.args.self.now in
    no_edge_behind s.code.now s.marks.now c.args.offset c.requires.marked c.if-offset-self-2.true

pub returns-clause-none : goal.returns-clause-none
returns-clause-none c =
    let s = c.args.self.now in
    edge_begins s.code.now s.marks.now c.args.offset c.start_at.result c.requires.marked c.if-offset-self.false c.start_at.ensures.none
