use Rattle.std.proofs.Common.{ap, sym, ◌∙◌}
use Rattle.assembly_tree.specs.declared.body.ClauseKind.TheVariants as handles
use Rattle.ilasm_grammar.specs.declared.productions.TheConstants.{CLAUSE_CATCH, CLAUSE_FILTER}
use Rattle.source_flags.proofs.Gathered.{has_bodies, readable}
use Rattle.lower_bodies.proofs.ClauseLemmas.{is_kind_at}
use Rattle.lower_bodies.proofs.clauses.clause_kind.Goals as goal

pub returns-in_ok-owner-in-590 : goal.returns-in_ok-owner-in-590
returns-in_ok-owner-in-590 c s a f b x e h =
    ap (λ o. handles.Catch o) (c.in_ok-owner-in-590.ensures s a x.at b e (readable s b h)) ∙ is_kind_at s a f b CLAUSE_CATCH c.args.production (sym c.in-590.is)

pub returns-in_ok-start-in-591 : goal.returns-in_ok-start-in-591
returns-in_ok-start-in-591 c s a f b x e h =
    ap (λ k. handles.Filter k) (c.in_ok-start-in-591.ensures s f b x.code (has_bodies s b h) e) ∙ is_kind_at s a f b CLAUSE_FILTER c.args.production (sym c.in-591.is)
