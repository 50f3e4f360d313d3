use Rattle.std.proofs.Common.{◌≡◌, length, ap, sym, arith}
use Rattle.ilasm_grammar.specs.declared.productions.TheConstants.{METHOD_REF}
use Rattle.source_model.specs.Forest.{preorder, the}
use Rattle.source_syntax.proofs.ReferenceLemmas.{sound_part}
use Rattle.source_syntax.proofs.SizeLemmas.{the_smaller}
use Rattle.source_flags.specs.InRange.{IsInRange}
use Rattle.lower_manifest.proofs.CustomLemmas.{same_attribute}
use Rattle.source_flags.proofs.Gathered.{readable}
use Rattle.lower_manifest.proofs.attributes.attribute.Goals as goal

pub method_ref-requires-clause-few : goal.method_ref-requires-clause-few
method_ref-requires-clause-few c =
    let f = c.requires.forest in
    let below : length c.the.result.now ≡ length (preorder (the METHOD_REF f.0)) = ap length (c.the.ensures f.0 f.1) in
    omega (arith, below, the_smaller METHOD_REF f.0, ap length f.1, c.requires.few)

pub returns : goal.returns
returns c s a x f e h =
    let own = sound_part (IsInRange s) METHOD_REF f h.1 h.0 in
    same_attribute s a f c.in_ok-constructor.constructor c.in_ok-value.value
    (c.in_ok-constructor.ensures s a x (the METHOD_REF f) (sym (c.the.ensures f e)) (own.0.fits, own.0.types) (readable s (the METHOD_REF f) own.1))
    (c.in_ok-value.ensures s f x.reads e h.1)
