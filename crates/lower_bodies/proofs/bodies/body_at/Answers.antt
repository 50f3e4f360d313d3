use Rattle.std.proofs.Common.{[], ◌∷◌, ap, ◌∙◌}
use Rattle.ilasm_grammar.specs.declared.productions.TheConstants.{INIT_OPT_SOME}
use Rattle.source_model.specs.Forest.{is_any_part}
use Rattle.lower_bodies.proofs.PastLemmas.{init_unpassed, same_past}
use Rattle.lower_bodies.proofs.bodies.body_at.Goals as goal

pub returns : goal.returns
returns c s a f x e h are locals held = record {
  bound-is = c.in_ok-bound.ensures s f x.at.reads e h.derived.bodies h.bounds held;
  init-is = held.init ∙ ap is_any_part (same_past (INIT_OPT_SOME ∷ []) init_unpassed s f h.derived.bodies);
  locals-are = c.in_ok-locals.ensures s a f x.at h.each locals;
  code-is = c.in_ok-code.ensures s a f x h are;
  clauses-are = c.in_ok-clauses.ensures s a f x e h.each held;
}
