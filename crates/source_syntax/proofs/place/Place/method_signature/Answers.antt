use Rattle.std.proofs.Common.{[], ◌∷◌, refl, sym}
use Rattle.ilasm_grammar.specs.declared.productions.TheConstants.{CALL_CONV, DEF_ARGS_OPT_SOME}
use Rattle.source_model.specs.Forest.{child}
use Rattle.source_syntax.proofs.SignatureLemmas.{same_signature}
use Rattle.source_syntax.proofs.place.Place.method_signature.Goals as goal

pub returns : goal.returns
returns c s a x f e sound =
    let conv = child (CALL_CONV ∷ []) f in
    let called = sym (c.child-conv.ensures f e) in
    same_signature _ _ _ _ _ _ _ _ _ _ _ _ _ _ (c.has.ensures conv called) (c.has-2.ensures conv called) (c.has-3.ensures conv called) (c.in_ok-generic.ensures f e)
    (c.in_ok-ret.ensures s a x f e sound.ret)
    (c.in_ok-params.ensures s a x (child (DEF_ARGS_OPT_SOME ∷ []) f) (sym (c.child.ensures f e)) sound.parameters) refl
