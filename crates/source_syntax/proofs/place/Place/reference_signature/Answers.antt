use Rattle.std.proofs.Common.{◌≡◌, [], ◌∷◌, ◌<◌, ◌^◌, length, ap, sym, ◌∙◌, arith}
use Rattle.std.proofs.lemmas.List.{length-map}
use Rattle.ilasm_grammar.specs.declared.productions.TheConstants.{CALL_CONV, DEF_ARG, SIGNATURE}
use Rattle.source_model.specs.Forest.{child, each, the}
use Rattle.source_model.specs.Types.{the_type}
use Rattle.source_syntax.proofs.SignatureLemmas.{same_signature}
use Rattle.source_syntax.proofs.SizeLemmas.{few_each, the_smaller}
use Rattle.source_syntax.proofs.place.Place.reference_signature.Goals as goal

pub returns : goal.returns
returns c s a x f e sound number =
    let conv = child (CALL_CONV ∷ []) f in
    let called = sym (c.child-conv.ensures f e) in
    let signed = sym (c.the-signature.ensures f e) in
    let params = c.in_ok-params.ensures s a x (the SIGNATURE f) signed sound.arguments in
    let count : c.len.result ≡ length (each DEF_ARG (the SIGNATURE f)) =
    c.len.ensures ∙ ap length params ∙ length-map (each DEF_ARG (the SIGNATURE f)) (λ d. the_type s a d) in
    let few : c.len.result < 2 ^ 32 = omega (arith, count, few_each DEF_ARG (the SIGNATURE f), the_smaller SIGNATURE f, ap length e, c.requires.few) in
    same_signature _ _ _ _ _ _ _ _ _ _ _ _ _ _ (c.has.ensures conv called) (c.has-2.ensures conv called) (c.has-3.ensures conv called) number
    (c.in_ok-ret.ensures s a x f e sound.ret) params (c.sentinel-sentinel.ensures (the SIGNATURE f) signed count few)
