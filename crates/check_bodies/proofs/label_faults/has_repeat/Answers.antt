use Rattle.std.proofs.Common.{◌<◌, ◌≤◌, length, ap, sym, ◌∙◌, arith}
use Rattle.std.specs.Prelude.{None, take}
use Rattle.std.proofs.lemmas.List.{drop_all, length-map}
use Rattle.source_model.specs.DeclaredTwice.{repeats_after}
use Rattle.source_nodes.specs.Least.{least}
use Rattle.source_syntax.proofs.NamingLemmas.{found_other, same_text}
use Rattle.check_bodies.proofs.label_faults.has_repeat.Goals as goal

pub loop-k-preserved : goal.loop-k-preserved
loop-k-preserved c text tokens e =
    let many = ap length e ∙ length-map tokens text in
    let within : c.loop-k.k < length tokens = omega (arith, many, c.len.ensures, c.loop-k-test.true) in
    found_other text tokens c.args.names.now c.loop-k.k None within e (sym c.is_repeat.ensures ∙ c.if-is_repeat.false) (c.loop-k.invariant text tokens e)

pub returns : goal.returns
returns c quiet text tokens e =
    let many = ap length e ∙ length-map tokens text in
    let over : length tokens ≤ c.loop-k.k = omega (arith, many, c.len.ensures, c.loop-k-test.false) in
    ap (λ ks. least (repeats_after (same_text text) (take c.loop-k.k tokens) ks)) (sym (drop_all c.loop-k.k tokens over)) ∙ c.loop-k.invariant text tokens e
