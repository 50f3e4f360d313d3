use Rattle.std.proofs.Common.{sym, ◌∙◌}
use Rattle.print_terms.proofs.Twins.{marked_alias, other_alias}
use Rattle.print_terms.proofs.keys.has_alias.Goals as goal

pub returns-then-is_marked : goal.returns-then-is_marked
returns-then-is_marked c =
    marked_alias c.args.externs.now c.args.number c.index-externs-number.result c.requires.within c.index-externs-number.is
    (sym c.is_marked.ensures ∙ c.if-is_marked.true)

pub returns : goal.returns
returns c =
    other_alias c.args.externs.now c.args.number c.index-externs-number.result _ c.requires.within c.index-externs-number.is
    (sym c.is_marked.ensures ∙ c.if-is_marked.false) c.is_repeated-twice.ensures
