use Rattle.std.proofs.Common.{arith}
use Rattle.std.proofs.lemmas.Grind.{common_steps}
use Rattle.assembly_tree.proofs.FormedTypes.{are_types_none, are_types_more}
use Rattle.assembly_tree.proofs.formed.types.+are_types.Goals as goal

pub returns-then-levels-eq0 : goal.returns-then-levels-eq0
returns-then-levels-eq0 t c = grind (arith, common_steps, are_types_none)

pub returns-then-not-are_different : goal.returns-then-not-are_different
returns-then-not-are_different t c =
    rw (are_types_more c.args.a.now c.args.top c.args.levels c.args.types.now (omega arith)) (grind (arith, common_steps))

pub returns-then-not-is_own : goal.returns-then-not-is_own
returns-then-not-is_own t c =
    rw (are_types_more c.args.a.now c.args.top c.args.levels c.args.types.now (omega arith)) (grind (arith, common_steps))

pub returns-then-not-are_types : goal.returns-then-not-are_types
returns-then-not-are_types t c =
    rw (are_types_more c.args.a.now c.args.top c.args.levels c.args.types.now (omega arith)) (grind (arith, common_steps))

pub returns : goal.returns
returns t c =
    rw (are_types_more c.args.a.now c.args.top c.args.levels c.args.types.now (omega arith)) (grind (arith, common_steps))
