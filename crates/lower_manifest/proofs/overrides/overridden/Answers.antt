use Rattle.std.proofs.Common.{◌≡◌, length, ap, sym, subst, ◌∙◌, arith}
use Rattle.std.specs.Prelude.{IfOk, true, false, ◌==◌}
use Rattle.ilasm_grammar.specs.declared.productions.TheConstants.{METHOD_REF, OVERRIDDEN_METHOD}
use Rattle.source_model.specs.Forest.{preorder, the}
use Rattle.source_syntax.proofs.ReferenceLemmas.{sound_part}
use Rattle.source_syntax.proofs.SizeLemmas.{the_smaller}
use Rattle.source_flags.specs.InRange.{IsInRange}
use Rattle.lower_manifest.proofs.CustomLemmas.{overridden_has}
use Rattle.source_flags.proofs.Gathered.{has_bodies, readable}
use Rattle.lower_manifest.proofs.OverrideLemmas.{is_named, is_whole}
use Rattle.lower_manifest.proofs.SoundParts.{sound_method}
use Rattle.lower_manifest.proofs.overrides.overridden.Goals as goal

pub method_ref-requires-clause-few : goal.method_ref-requires-clause-few
method_ref-requires-clause-few c =
    let f = c.requires.forest in
    let below : length c.the.result.now ≡ length (preorder (the METHOD_REF f.0)) = ap length (c.the.ensures f.0 f.1) in
    omega (arith, below, the_smaller METHOD_REF f.0, ap length f.1, c.requires.fewer)

pub returns-then-is_whole : goal.returns-then-is_whole
returns-then-is_whole c s a x f p e h made below among own each =
    let chosen : (c.args.production == OVERRIDDEN_METHOD) ≡ true = sym c.is_whole.ensures ∙ c.if-is_whole.true in
    let is : (p.production == OVERRIDDEN_METHOD) ≡ true = ap (λ q. q == OVERRIDDEN_METHOD) (sym made) ∙ chosen in
    let part = sound_part (IsInRange s) METHOD_REF p.below each (overridden_has s p.production p.below is own.fits) in
    subst (λ v. IfOk c.method_ref.result (λ one. one ≡ v)) (is_whole s a f p is)
    (c.method_ref.ensures s a x (the METHOD_REF p.below) (sym (c.the.ensures p.below below)) (part.0.fits, part.0.types) (readable s (the METHOD_REF p.below) part.1))

pub returns : goal.returns
returns c s a x f p e h made below among own each =
    let chosen : (c.args.production == OVERRIDDEN_METHOD) ≡ false = sym c.is_whole.ensures ∙ c.if-is_whole.false in
    let other : (p.production == OVERRIDDEN_METHOD) ≡ false = ap (λ q. q == OVERRIDDEN_METHOD) (sym made) ∙ chosen in
    is_named s a f p other c.in_ok-owner.owner c.in_ok-name.name c.in_ok-sig.sig
    (c.in_ok-owner.ensures s a x p.below below (readable s p.below each))
    (c.in_ok-name.ensures s x.reads p.below below (has_bodies s p.below each))
    (c.in_ok-sig.ensures s a x f e (sound_method s f h))
