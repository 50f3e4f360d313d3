use Rattle.source_syntax.proofs.ReferenceLemmas.{same_reference, sound_reference}
use Rattle.source_syntax.proofs.place.Place.method_ref.Goals as goal

pub returns : goal.returns
returns c s a x f e sound each =
    let parts = sound_reference s a f sound each in
    let found = c.in_ok-number.ensures s a x f e parts.generics in
    same_reference _ _ _ _ _ _ _ _ (c.in_ok-owner.ensures s a x f e sound each) (c.in_ok-name.ensures s a x f e sound each)
    (c.in_ok-sig.ensures s a x f e parts found.0) found.1
