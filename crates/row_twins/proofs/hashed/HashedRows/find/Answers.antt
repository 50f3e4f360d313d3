use Rattle.std.proofs.Common.{sym, ◌∙◌, arith, rules}
use Rattle.std.proofs.lemmas.Bool.{false≢true}
use Rattle.std.proofs.lemmas.Option.{slice_get_within}
use Rattle.row_twins.proofs.Finding.{begun, goes_down, goes_on, searched}
use Rattle.row_twins.proofs.hashed.HashedRows.find.Goals as goal

pub loop-at-init : goal.loop-at-init
loop-at-init g c = begun c.args.self.now c.args.hash (g.T.RowTest.holds c.args.test.now) c.get-at.result c.requires.linked c.get-at.ensures

pub at-entry-requires : goal.at-entry-requires
at-entry-requires g c =
    let has = c.loop-at.invariant.hashed c.in-Some.place c.in-Some.is in
    slice_get_within c.args.self.now.rows c.in-Some.place has.0 has.1

pub at-next-requires : goal.at-next-requires
at-next-requires g c =
    let within = slice_get_within c.args.self.now.rows c.in-Some.place c.at-entry.result.now c.at-entry.ensures in
    let p = c.requires.linked.paired in
    omega arith

pub loop-at-smaller : goal.loop-at-smaller
loop-at-smaller g c =
    goes_down c.args.self.now c.args.hash (g.T.RowTest.holds c.args.test.now) c.requires.linked c.loop-at.at c.loop-at.invariant c.in-Some.place c.in-Some.is c.at-entry.result.now c.at-entry.ensures
    c.at-next.result.now c.at-next.ensures

pub loop-at-preserved : goal.loop-at-preserved
loop-at-preserved g c =
    goes_on c.args.self.now c.args.hash (g.T.RowTest.holds c.args.test.now) c.requires.linked c.loop-at.at c.loop-at.invariant c.in-Some.place c.in-Some.is c.at-entry.result.now c.at-entry.ensures
    c.at-next.result.now c.at-next.ensures (λ it_is. false≢true (sym c.if-holds_of.false ∙ c.holds_of.ensures.1 it_is))

pub returns-clause-none : goal.returns-clause-none
returns-clause-none g c =
    searched c.args.self.now.rows c.args.hash (g.T.RowTest.holds c.args.test.now) c.loop-at.at c.loop-at.invariant (search rules)
