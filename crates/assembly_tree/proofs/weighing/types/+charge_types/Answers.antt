use Rattle.std.proofs.Common.{◌∙◌, ap, sym, ◌+◌, ◌||◌, List, drop, arith}
use Rattle.std.proofs.Math.Bool.{or_assoc}
use Rattle.std.specs.List.{flat_map}
use Rattle.assembly_tree.specs.Loading.{has_text}
use Rattle.assembly_tree.specs.Room.{method_texts, typedef_texts}
use Rattle.assembly_tree.specs.Weight.{typedef_weight}
use Rattle.assembly_tree.specs.declared.members.Method.{Method}
use Rattle.assembly_tree.specs.declared.typedef.TypeDef.{TypeDef}
use Rattle.assembly_tree.specs.declared.typedef.TypeDef.TheViews.{out-TypeDef}
use Rattle.assembly_tree.proofs.Prefixes.{sum_with_next}
use Rattle.assembly_tree.proofs.TextLists.{in_rest, in_type}
use Rattle.assembly_tree.proofs.TypeWeights.{typedef_weight_out}
use Rattle.assembly_tree.proofs.weighing.types.+charge_types.Goals as goal

pub loop-of-preserved : goal.loop-of-preserved
loop-of-preserved t c =
    let inner = rw c.inner.ensures at c.charge_types-left.ensures.left in
    let before = c.loop-of.invariant.0 in
    let xs = c.args.types.now in
    let i = c.loop-of.of-index in
    let x = c.of-item.result in
    let known = c.loop-of.loads in
    let own = has_text (flat_map method_texts (out-TypeDef x).methods) in
    let nested = has_text (flat_map typedef_texts (out-TypeDef x).nested) in
    let rest = has_text (flat_map typedef_texts (drop (i + 1) xs)) in
    let more = c.load_more.ensures ∙ ap (λ (ms : List Method). known || has_text (flat_map method_texts ms)) c.as_slice.ensures in
    let below = ap (λ (ts : List TypeDef). c.load_more.result || has_text (flat_map typedef_texts ts)) c.inner.ensures in
    let new = c.charge_types-left.ensures.loads ∙ below ∙ ap (λ b. b || nested) more in (
      omega (
        arith,
        c.charge_own-left.ensures,
        inner,
        before,
        typedef_weight_out x,
        sum_with_next typedef_weight xs i x c.loop-of-test.true c.of-item.is,
      ),
      c.loop-of.invariant.1
          ∙ ap (λ b. known || b) (in_rest typedef_texts xs i x c.loop-of-test.true c.of-item.is)
          ∙ ap (λ b. known || (b || rest)) (in_type x)
          ∙ sym (or_assoc known (own || nested) rest)
          ∙ ap (λ b. b || rest) (sym (or_assoc known own nested) ∙ sym new),
    )
