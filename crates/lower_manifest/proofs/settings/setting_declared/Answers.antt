use Rattle.std.proofs.Common.{◌≡◌, Some, [], ◌∷◌, ap, sym, subst, ◌∙◌}
use Rattle.source_model.specs.Forest.{leaf_at, parts}
use Rattle.source_model.specs.Items.{declarations}
use Rattle.source_model.specs.Manifests.{last_said}
use Rattle.source_model.specs.Shapes.{natural}
use Rattle.source_model.specs.Values.{int_at}
use Rattle.source_flags.specs.InRange.{IsInRange}
use Rattle.source_flags.specs.Lines.{IsLast, last_part}
use Rattle.lower_manifest.specs.Chosen.{are_of}
use Rattle.source_flags.specs.declared.gathering.Kind.TheVariants.{One}
use Rattle.lower_manifest.proofs.Among.{declared_ones, is_declaration}
use Rattle.source_flags.proofs.Gathered.{has_bodies, nothing_said, said, said_last}
use Rattle.source_nodes.specs.Pieces.{ArePieces}
use Rattle.lower_manifest.specs.Settings.{default_of, place_of, production_of}
use Rattle.lower_manifest.proofs.KeyLemmas.{only}
use Rattle.lower_manifest.proofs.SettingLemmas.{setting_declaration, setting_fits}
use Rattle.lower_manifest.proofs.settings.setting_declared.Goals as goal

pub leaf_at-requires : goal.leaf_at-requires
leaf_at-requires c =
    let ps = are_of (One c.production.result) c.requires.0 in
    let found = c.in_ok-lines.ensures c.args.nodes.now c.requires.0 c.requires.1 in
    let last = subst (λ o. IsLast o ps) c.in-Some.is (c.last_of.ensures ps (subst (λ xs. ArePieces c.args.nodes.now xs ps) (sym c.as_slice.ensures) found)) in
    (last.0.below, last.2.below)

pub returns-in-Some : goal.returns-in-Some
returns-in-Some c s f r declared are h =
    let x = c.args.setting in
    let nodes = c.args.nodes.now in
    let same = declared_ones c.production.result (ap is_declaration c.production.ensures ∙ setting_declaration x declared) s f (has_bodies s f h) in
    let found = subst (ArePieces nodes c.as_slice.result.now) same (subst (λ xs. ArePieces nodes xs (are_of (One c.production.result) (declarations f))) (sym c.as_slice.ensures) (c.in_ok-lines.ensures nodes (declarations f) are)) in
    let last = c.last_of.ensures (parts (c.production.result ∷ []) f) found in
    let l = said (IsInRange s) (c.production.result ∷ []) f c.last_of.result c.in-Some.line h c.in-Some.is last in
    let is = only c.production.result l.of.production l.sought-is ∙ c.production.ensures in
    let n = setting_fits x s l.of.below (subst (λ q. IsInRange s q l.of.below) is l.own) in
    let token : c.leaf_at.result ≡ leaf_at (place_of x) l.of.below = c.leaf_at.ensures l.of.below l.below ∙ ap (λ k. leaf_at k l.of.below) c.place.ensures in
    let last : last_part (parts (production_of x ∷ []) f) ≡ Some l.of = subst (λ q. last_part (parts (q ∷ []) f) ≡ Some l.of) c.production.ensures l.last in
    c.natural.ensures s r n.0 (ap (int_at s) token ∙ n.1) n.2 ∙ sym (ap natural n.1)
    ∙ sym (said_last (λ q. natural (int_at s (leaf_at (place_of x) q.below))) (default_of x) (parts (production_of x ∷ []) f) l.of last)

pub returns : goal.returns
returns c s f r declared are h =
    let x = c.args.setting in
    let nodes = c.args.nodes.now in
    let same = declared_ones c.production.result (ap is_declaration c.production.ensures ∙ setting_declaration x declared) s f (has_bodies s f h) in
    let found = subst (ArePieces nodes c.as_slice.result.now) same (subst (λ xs. ArePieces nodes xs (are_of (One c.production.result) (declarations f))) (sym c.as_slice.ensures) (c.in_ok-lines.ensures nodes (declarations f) are)) in
    let last = c.last_of.ensures (parts (c.production.result ∷ []) f) found in
    let none = subst (λ q. parts (q ∷ []) f ≡ []) c.production.ensures (nothing_said (parts (c.production.result ∷ []) f) c.last_of.result c.in-None.is last) in
    c.default.ensures ∙ sym (ap (last_said (λ q. natural (int_at s (leaf_at (place_of x) q.below))) (default_of x)) none)
