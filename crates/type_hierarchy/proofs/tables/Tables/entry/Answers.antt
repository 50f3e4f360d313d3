use Rattle.std.proofs.Common.{sym, ◌∙◌}
use Rattle.type_hierarchy.specs.Names.{full_name}
use Rattle.type_hierarchy.specs.Tables.{entry_of}
use Rattle.type_hierarchy.proofs.TableLemmas.{entry_at, entry_none}
use Rattle.type_hierarchy.proofs.tables.Tables.entry.Goals as goal

pub returns-in-Some : goal.returns-in-Some
unfolding entry_of
returns-in-Some c =
    let t = c.args.self.now in
    sym (entry_at t.names t.entries c.in-Some.place (full_name c.args.scope c.args.path.now) c.in-Some.ensures.found c.in-Some.ensures.only ∙ c.at.ensures)

pub returns-in-None : goal.returns-in-None
unfolding entry_of
returns-in-None c =
    let t = c.args.self.now in
    sym (entry_none t.names t.entries (full_name c.args.scope c.args.path.now) c.in-None.ensures.none)
