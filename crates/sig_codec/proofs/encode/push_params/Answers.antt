use Rattle.std.proofs.Common.{◌∙◌, ap, sym, subst, List, take, drop}
use Rattle.type_terms.specs.declared.term.SigType.{SigType}
use Rattle.sig_codec.specs.Spellable.{HaveSpellings}
use Rattle.sig_codec.proofs.Written.{take_spellings, drop_spellings}
use Rattle.sig_codec.proofs.encode.push_params.Goals as goal

pub push_each-requires-in-Some : goal.push_each-requires-in-Some
push_each-requires-in-Some g c =
    let tokens = g.N.Numberer.owner_tokens c.args.map.now in
    let is = c.split_at.ensures.front ∙ ap (λ (x : List SigType). take c.in-Some.fixed x) c.as_slice-params.ensures in
    subst (λ (x : List SigType). HaveSpellings tokens x) (sym is) (take_spellings tokens c.in-Some.fixed c.args.params.now c.requires.each)

pub push_each-requires-in-Some-2 : goal.push_each-requires-in-Some-2
push_each-requires-in-Some-2 g c =
    let tokens = g.N.Numberer.owner_tokens c.args.map.now in
    let is = c.split_at.ensures.back ∙ ap (λ (x : List SigType). drop c.in-Some.fixed x) c.as_slice-params.ensures in
    subst (λ (x : List SigType). HaveSpellings tokens x) (sym is) (drop_spellings tokens c.in-Some.fixed c.args.params.now c.requires.each)
