use Rattle.std.proofs.Common.{[], ◌∷◌, map, ap, sym, ◌∙◌}
use Rattle.ilasm_grammar.specs.declared.productions.TheConstants.{OVERRIDDEN_METHOD, OVERRIDDEN_SPEC}
use Rattle.source_flags.proofs.Gathered.{has_bodies}
use Rattle.lower_bodies.proofs.PastLemmas.{overrides_unpassed}
use Rattle.source_model.specs.Members.{overridden}
use Rattle.lower_bodies.proofs.HeldLemmas.{not_held}
use Rattle.lower_methods.proofs.method_rows.overrides_of.Goals as goal

pub returns-else-held : goal.returns-else-held
returns-else-held c s a x f e h held =
    let none = not_held (OVERRIDDEN_METHOD ∷ OVERRIDDEN_SPEC ∷ []) overrides_unpassed s f (has_bodies s f h) (sym held.overrides ∙ c.if-held.false) in
    c.new.ensures ∙ sym (ap (map (overridden s a f)) none)
