use Rattle.std.proofs.Common.{◌≡◌, ◌++◌, [], ◌∷◌, ap, ◌∙◌}
use Rattle.ilasm_grammar.specs.declared.productions.TheConstants.{ITEM_ENTRYPOINT}
use Rattle.source_flags.proofs.Gathered.{has_bodies}
use Rattle.source_model.specs.Forest.{is_any_part}
use Rattle.source_model.specs.Members.{method_from}
use Rattle.lower_manifest.proofs.SoundParts.{sound_method}
use Rattle.lower_members.proofs.PropertyLemmas.{went_well}
use Rattle.lower_bodies.proofs.PastLemmas.{entry_unpassed, same_past}
use Rattle.lower_methods.proofs.MethodLemmas.{same_method}
use Rattle.lower_methods.proofs.whole_methods.push_method_at.Goals as goal

pub returns : goal.returns
returns c s a n x in_it e sound =
    let f = n.below in
    let each = sound.each in
    let lines = c.in_ok-lines.ensures.lines s f e sound.derived.bodies in
    let held = lines.held-is in
    let entry = held.entry ∙ ap is_any_part (same_past (ITEM_ENTRYPOINT ∷ []) entry_unpassed s f sound.derived.bodies) in
    let rows = c.in_ok-rows.ensures s a x f in_it e each held in
    let one =
    same_method _ _ _ _ _ _ _ _ _ _ _ _ _ _ _ _ _ _ _ _ (c.in_ok-name.ensures s x.reads f e (has_bodies s f each))
    (c.method_flags.ensures.all s f x.reads e each) (c.implementation_flags.ensures.all s f x.reads e each)
    (c.in_ok-sig.ensures s a x f e (sound_method s f each)) rows.generics-are rows.parameters-are rows.overrides-are entry
    (c.in_ok-code.ensures s a n x sound.derived e each sound.numbers lines) rows.attributes-are in
    went_well c.push.result _ (c.push.new.self ≡ c.args.all.now ++ method_from s a f ∷ []) (λ pushed. pushed ∙ ap (λ o. c.args.all.now ++ o ∷ []) one)
    c.push.ensures.ok
