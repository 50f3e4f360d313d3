use Rattle.std.proofs.Common.{◌≡◌, ◌<◌, ◌^◌, map, length, sym, subst, ap, ◌∙◌, arith}
use Rattle.std.proofs.lemmas.Result.{IfOk-weaker}
use Rattle.source_model.specs.Types.{array}
use Rattle.source_nodes.specs.Dimensions.{AreInRange, bound_of}
use Rattle.source_nodes.proofs.ShapeLemmas.{few_dimensions}
use Rattle.source_syntax.proofs.SuffixLemmas.{bounds_in_range, shape_is, vector_is}
use Rattle.source_syntax.proofs.place.Place.array.Goals as goal

pub returns-then-has : goal.returns-then-has
returns-then-has c s a x f e sound = vector_is s f c.args.of (sym (c.has.ensures f e) ∙ c.if-has.true)

pub returns : goal.returns
returns c s a x f e sound =
    let open_shape = sym (c.has.ensures f e) ∙ c.if-has.false in
    let same = ap (map bound_of) c.as_slice.ensures ∙ c.in_ok-dimensions.ensures f e in
    let few : length c.as_slice.result.now < 2 ^ 32 = omega (arith, few_dimensions s f c.as_slice.result.now sound.0 same, ap length e, c.requires.few) in
    IfOk-weaker c.shaped.result _ (λ with. with ≡ array s f c.args.of)
    (λ with h. h s x.reads few (subst (AreInRange s) (sym same) (bounds_in_range s f sound open_shape)) ∙ shape_is s f c.args.of c.as_slice.result.now open_shape same)
    c.shaped.ensures
