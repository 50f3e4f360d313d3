use Rattle.std.proofs.Common.{◌≡◌, ℕ, ◌+◌, ◌≤◌, ◌^◌, List, length}
use Rattle.image_writer.proofs.ContentsLemmas.{code_room, filled_ready, contents_made}
use Rattle.image_writer.proofs.WholeLemmas.{references_lacking}
use Rattle.image_writer.proofs.contents.fill_all.Goals as goal

pub fill-requires-clause-ready : goal.fill-requires-clause-ready
fill-requires-clause-ready c =
    filled_ready c.args.a.now c.args.classes.now (c.weight_is_enough.ensures c.args.a.now c.args.classes.now c.requires.classes) c.requires.weight
    c.args.refs.now c.requires.declared c.args.rows.now c.requires.no_rows (c.rows_are_few.ensures c.args.a.now c.args.classes.now c.requires.weight c.requires.classes)

pub fill-requires-clause-ordered : goal.fill-requires-clause-ordered
fill-requires-clause-ordered c = c.requires.ordered

pub fill-requires-clause-none : goal.fill-requires-clause-none
fill-requires-clause-none c = c.requires.none

pub fill-requires-clause-long : goal.fill-requires-clause-long
fill-requires-clause-long c =
    code_room c.args.a.now c.args.classes.now (c.weight_is_enough.ensures c.args.a.now c.args.classes.now c.requires.classes) c.requires.weight c.args.code.now c.requires.no_code

pub push_references-requires : goal.push_references-requires
push_references-requires c = references_lacking c.fill.new.rows c.in_ok-fill.ensures.full.lacks

pub returns : goal.returns
returns c =
    contents_made c.args.a.now c.args.classes.now (c.weight_is_enough.ensures c.args.a.now c.args.classes.now c.requires.classes) c.requires.weight
    c.args.refs.now c.requires.declared c.fill.new.refs c.fill.new.rows c.push_references.new.rows c.args.code.now c.fill.new.code c.requires.classes
    c.in_ok-fill.ensures.grows c.in_ok-fill.ensures.room c.in_ok-fill.ensures.full c.in_ok-push_references.ensures.holds c.in_ok-push_references.ensures.others c.requires.no_code
    c.in_ok-fill.ensures.lengthens
