use Rattle.std.proofs.Common.{◌≡◌, ◌<◌, ◌^◌, ℕ, Some, length, ap, sym, ◌∙◌, arith}
use Rattle.std.specs.Prelude.{position}
use Rattle.std.proofs.lemmas.List.{length-map}
use Rattle.ilasm_grammar.specs.declared.productions.TheConstants.{METHOD_REF}
use Rattle.source_model.specs.Forest.{preorder, the}
use Rattle.source_model.specs.Members.{accessor_kind}
use Rattle.source_syntax.proofs.ReferenceLemmas.{sound_part}
use Rattle.source_syntax.proofs.SizeLemmas.{the_smaller}
use Rattle.source_flags.specs.InRange.{IsInRange}
use Rattle.source_flags.proofs.Gathered.{readable}
use Rattle.lower_members.specs.SignedMethods.{declared, is_signed}
use Rattle.lower_members.proofs.AccessorLemmas.{meant, same_accessor}
use Rattle.lower_members.proofs.FirstSigned.{place_within}
use Rattle.lower_members.proofs.HeldParts.{reference_in}
use Rattle.lower_members.proofs.accessors.accessor.Goals as goal

pub method_ref-requires-clause-few : goal.method_ref-requires-clause-few
method_ref-requires-clause-few c =
    let f = c.requires.forest in
    let below : length c.the.result.now ≡ length (preorder (the METHOD_REF f.0)) = ap length (c.the.ensures f.0 f.1) in
    omega (arith, below, the_smaller METHOD_REF f.0, ap length f.1, c.requires.few)

pub returns : goal.returns
returns c s a x p ms e below among own each methods few =
    let part = sound_part (IsInRange s) METHOD_REF p.below each (reference_in s p.below p.production among own.fits) in
    let read = c.in_ok-reference.ensures s a x (the METHOD_REF p.below) (sym (c.the.ensures p.below below)) (part.0.fits, part.0.types)
    (readable s (the METHOD_REF p.below) part.1) in
    let reference = c.in_ok-reference.reference in
    let found : c.find-found.result ≡ position (is_signed reference.name reference.sig) c.args.methods.now =
    c.find-found.ensures ∙ ap (λ name. position (is_signed name reference.sig) c.args.methods.now) c.as_bytes.ensures in
    let countable : (k : ℕ) → c.find-found.result ≡ Some k → k < 2 ^ 32 = λ k is.
    let within = place_within (is_signed reference.name reference.sig) c.args.methods.now k (sym found ∙ is) in
    omega (arith, within, ap length methods, length-map ms (declared s a), few) in
    same_accessor s a ms p c.accessor_kind.result c.or_first.result c.find-found.result (c.accessor_kind.ensures ∙ ap accessor_kind e) (c.or_first.ensures countable)
    (meant s a ms (the METHOD_REF p.below) reference c.args.methods.now c.find-found.result read methods found)
