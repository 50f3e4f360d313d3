use Rattle.std.proofs.Common.{◌≡◌, ◌<◌, ◌^◌, None, Some, length, ap, sym, ◌∙◌, arith}
use Rattle.std.specs.Prelude.{Bool, if◌then◌else◌}
use Rattle.ilasm_grammar.specs.declared.productions.TheConstants.{GEN_ARGS_BRACKET, METHOD_GENERICS}
use Rattle.source_model.specs.Forest.{has, the}
use Rattle.source_model.specs.Shapes.{natural}
use Rattle.source_model.specs.Types.{types_in}
use Rattle.source_model.specs.Values.{int_at}
use Rattle.source_syntax.proofs.ReferenceLemmas.{bracket_number, numbered_generics, written_generics}
use Rattle.source_syntax.proofs.SizeLemmas.{few_types, the_smaller}
use Rattle.source_syntax.proofs.place.Place.generics.Goals as goal

pub returns-then-has : goal.returns-then-has
returns-then-has c s a x f e each =
    let g = the METHOD_GENERICS f in
    let written = sym (c.the-written.ensures f e) in
    let some = sym (c.has.ensures g written) ∙ c.if-has.true in
    let n = bracket_number s g each some in
    let at = c.leaf_at-token.ensures (the GEN_ARGS_BRACKET g) (sym (c.the.ensures g written)) in
    let found = numbered_generics s a f some in
    (c.natural.ensures s x.reads n.0 (ap (int_at s) at ∙ n.1) n.2 ∙ sym (found.0 ∙ ap natural n.1), found.1)

pub returns : goal.returns
returns c s a x f e each =
    let g = the METHOD_GENERICS f in
    let written = sym (c.the-written.ensures f e) in
    let none = sym (c.has.ensures g written) ∙ c.if-has.false in
    let args = c.in_ok-args.ensures s a x g written each in
    let found = written_generics s a f none in
    let count : c.len.result ≡ length (types_in s a g) = c.len.ensures ∙ ap length args in
    let few : c.len.result < 2 ^ 32 = omega (arith, count, few_types s a g, the_smaller METHOD_GENERICS f, ap length e, c.requires.few) in (
      c.word_of.ensures few ∙ count ∙ sym found.0,
      c.kept.ensures ∙ ap (λ (b : Bool). if b then Some c.in_ok-args.args else None) (c.has-2.ensures f e)
          ∙ ap (λ ts. if has METHOD_GENERICS f then Some ts else None) args ∙ found.1,
    )
