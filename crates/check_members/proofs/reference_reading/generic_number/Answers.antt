use Rattle.std.proofs.Common.{◌≡◌, ◌<◌, ◌^◌, length, ap, sym, ◌∙◌, arith}
use Rattle.ilasm_grammar.specs.declared.productions.TheConstants.{GEN_ARGS_BRACKET, METHOD_GENERICS}
use Rattle.source_model.specs.Forest.{the}
use Rattle.source_model.specs.Shapes.{natural}
use Rattle.source_model.specs.Types.{types_in}
use Rattle.source_model.specs.Values.{int_at}
use Rattle.source_syntax.proofs.ReferenceLemmas.{bracket_number, numbered_generics, written_generics}
use Rattle.source_syntax.proofs.SizeLemmas.{few_types, the_smaller}
use Rattle.check_members.proofs.reference_reading.generic_number.Goals as goal

pub returns-then-has : goal.returns-then-has
returns-then-has c s a f x e each =
    let g = the METHOD_GENERICS f in
    let written = sym (c.the-written.ensures f e) in
    let some = sym (c.has.ensures g written) ∙ c.if-has.true in
    let n = bracket_number s g each some in
    let at = c.leaf_at-token.ensures (the GEN_ARGS_BRACKET g) (sym (c.the.ensures g written)) in
    let found = numbered_generics s a f some in
    c.natural.ensures s x.reads n.0 (ap (int_at s) at ∙ n.1) n.2 ∙ sym (found.0 ∙ ap natural n.1)

pub returns : goal.returns
returns c s a f x e each =
    let g = the METHOD_GENERICS f in
    let written = sym (c.the-written.ensures f e) in
    let none = sym (c.has.ensures g written) ∙ c.if-has.false in
    let args = c.in_ok-args.ensures s a x g written each in
    let found = written_generics s a f none in
    let count : c.len.result ≡ length (types_in s a g) = c.len.ensures ∙ ap length args in
    let few : c.len.result < 2 ^ 32 = omega (arith, count, few_types s a g, the_smaller METHOD_GENERICS f, ap length e, c.requires.few) in
    c.word_of.ensures few ∙ count ∙ sym found.0
