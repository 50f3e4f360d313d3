use Rattle.std.proofs.Common.{◌≡◌, ◌++◌, [], ◌∷◌, ap, ◌∙◌}
use Rattle.lower_members.proofs.PropertyLemmas.{went_well}
use Rattle.source_model.specs.Classes.{class_from}
use Rattle.elaborate.specs.ClassParts.{inner}
use Rattle.elaborate.proofs.ClassLemmas.{all_ranged}
use Rattle.elaborate.proofs.classes.push_class_at.Goals as goal

pub returns : goal.returns
returns g c s a f knows x outside core e found own whole =
    let one = c.put_together.ensures s (inner s a f) f (c.in_ok-head.ensures s a f x outside core e found own (all_ranged s f whole))
    (c.in_ok-own.ensures s (inner s a f) knows x e found whole) in
    went_well c.push.result (c.push.new.self ≡ c.args.all.now ++ c.put_together.result ∷ [])
    (c.push.new.self ≡ c.args.all.now ++ class_from s (inner s a f) f c.args.nested ∷ []) (λ pushed. pushed ∙ ap (λ o. c.args.all.now ++ o ∷ []) one) c.push.ensures.ok
