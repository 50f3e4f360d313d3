use Rattle.std.proofs.Common.{map, ap, sym, ◌∙◌}
use Rattle.source_model.specs.Clauses.{clause, clause_forms}
use Rattle.source_model.specs.Forest as tree
use Rattle.source_flags.proofs.Gathered.{has_bodies}
use Rattle.lower_bodies.proofs.ClauseLemmas.{nothing_guarded}
use Rattle.lower_bodies.proofs.HeldLemmas.{not_held}
use Rattle.lower_bodies.proofs.PastLemmas.{clauses_unpassed}
use Rattle.lower_bodies.proofs.held_parts.clauses_of.Goals as goal

pub returns-else-held : goal.returns-else-held
returns-else-held c s a f x e h held =
    let none = not_held clause_forms clauses_unpassed s f (has_bodies s f h) (sym held.clause ∙ c.if-held.false) in
    c.new.ensures ∙ sym (ap (map (clause s a f)) (nothing_guarded tree.none f none))
