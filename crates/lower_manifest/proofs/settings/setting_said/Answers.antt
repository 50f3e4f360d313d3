use Rattle.std.proofs.Common.{◌≡◌, Some, [], ◌∷◌, ap, sym, subst, ◌∙◌}
use Rattle.source_model.specs.Forest.{leaf_at, parts}
use Rattle.source_model.specs.Manifests.{last_said}
use Rattle.source_model.specs.Shapes.{natural}
use Rattle.source_model.specs.Values.{int_at}
use Rattle.source_flags.specs.InRange.{IsInRange}
use Rattle.source_flags.specs.Lines.{IsLast, last_part}
use Rattle.source_flags.specs.declared.outside.Shut.TheVariants.{Types}
use Rattle.lower_manifest.specs.Settings.{default_of, place_of, production_of}
use Rattle.source_flags.proofs.Apart.{is_past, same_outside}
use Rattle.source_flags.proofs.Gathered.{has_bodies, nothing_said, said, said_last}
use Rattle.lower_manifest.proofs.KeyLemmas.{only}
use Rattle.lower_manifest.proofs.SettingLemmas.{setting_fits, setting_past}
use Rattle.lower_manifest.proofs.settings.setting_said.Goals as goal

pub returns-in-Some : goal.returns-in-Some
returns-in-Some c s f r e h =
    let x = c.args.setting in
    let past = ap (λ q. is_past Types (q ∷ [])) c.production.ensures ∙ setting_past x in
    let last = subst (IsLast c.in_ok-said.said) (same_outside Types (c.production.result ∷ []) past s f (has_bodies s f h)) (c.in_ok-said.ensures f e) in
    let l = said (IsInRange s) (c.production.result ∷ []) f c.in_ok-said.said c.in-Some.line h c.in-Some.is last in
    let is = only c.production.result l.of.production l.sought-is ∙ c.production.ensures in
    let n = setting_fits x s l.of.below (subst (λ q. IsInRange s q l.of.below) is l.own) in
    let token : c.leaf_at.result ≡ leaf_at (place_of x) l.of.below = c.leaf_at.ensures l.of.below l.below ∙ ap (λ k. leaf_at k l.of.below) c.place.ensures in
    let last : last_part (parts (production_of x ∷ []) f) ≡ Some l.of = subst (λ q. last_part (parts (q ∷ []) f) ≡ Some l.of) c.production.ensures l.last in
    c.natural.ensures s r n.0 (ap (int_at s) token ∙ n.1) n.2 ∙ sym (ap natural n.1)
    ∙ sym (said_last (λ q. natural (int_at s (leaf_at (place_of x) q.below))) (default_of x) (parts (production_of x ∷ []) f) l.of last)

pub returns-in-None : goal.returns-in-None
returns-in-None c s f r e h =
    let x = c.args.setting in
    let past = ap (λ q. is_past Types (q ∷ [])) c.production.ensures ∙ setting_past x in
    let last = subst (IsLast c.in_ok-said.said) (same_outside Types (c.production.result ∷ []) past s f (has_bodies s f h)) (c.in_ok-said.ensures f e) in
    let none = subst (λ q. parts (q ∷ []) f ≡ []) c.production.ensures (nothing_said (parts (c.production.result ∷ []) f) c.in_ok-said.said c.in-None.is last) in
    c.default.ensures ∙ sym (ap (last_said (λ q. natural (int_at s (leaf_at (place_of x) q.below))) (default_of x)) none)
