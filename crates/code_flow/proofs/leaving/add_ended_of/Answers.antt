use Rattle.std.proofs.Common.{◌∙◌, ◌++◌, sym, ap, map}
use Rattle.std.specs.Option.{option_copied}
use Rattle.code_flow.specs.declared.goings.Carried.TheVariants as carries
use Rattle.code_flow.specs.GoingTests.{going}
use Rattle.code_flow.proofs.ExitLemmas.{adds_ended, adds_unended, has_exits}
use Rattle.code_flow.proofs.leaving.add_ended_of.Goals as goal

pub returns-then-not-is_ended : goal.returns-then-not-is_ended
returns-then-not-is_ended c = λ leaves have at.
    adds_unended c.args.clauses.now leaves c.args.k c.args.clause.now c.args.goings.now (sym c.is_ended.ensures ∙ c.if-not-is_ended.true)

pub returns-in_default : goal.returns-in_default
returns-in_default c = λ leaves have at.
    absurd (has_exits c.args.clauses.now leaves c.args.exits.now c.args.clause.now.place c.args.clause.now.spans have (sym c.get.ensures ∙ ap option_copied c.in_default.is) at)

pub returns : goal.returns
returns c = λ leaves have at.
    let ts = c.in-Some.targets.now in
    adds_ended c.args.clauses.now leaves c.args.k c.args.clause.now c.args.goings.now c.add_targets.new.goings ts (sym c.is_ended.ensures ∙ c.if-not-is_ended.false)
    (have.each c.args.clause.now.place c.args.clause.now.spans ts at (sym c.get.ensures ∙ ap option_copied c.in-Some.is))
    (c.in_ok-add_targets.ensures ∙ ap (λ l. c.args.goings.now ++ map (going carries.Nothing) l) c.as_slice.ensures)
