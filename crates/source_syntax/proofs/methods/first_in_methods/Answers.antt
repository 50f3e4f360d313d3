use Rattle.std.proofs.Common.{◌+◌, ◌≤◌, drop, length, sym, subst, ◌∙◌, ap, arith}
use Rattle.std.specs.List.{flat_map}
use Rattle.std.proofs.lemmas.Option.{slice_get-get_or}
use Rattle.ilasm_grammar.specs.declared.productions.TheConstants.{METHOD}
use Rattle.source_model.specs.BodyFaults.{all_methods}
use Rattle.source_nodes.specs.Least.{least, sooner}
use Rattle.source_syntax.specs.Methods.{all_below, AreBelow, IsMethod}
use Rattle.source_syntax.proofs.MethodLemmas.{all_at, as_many, forest_at, method_at, methods_derived, nothing_left, one_more}
use Rattle.source_syntax.proofs.methods.first_in_methods.Goals as goal

pub first-requires : goal.first-requires
first-requires g c =
    let found = c.as_slice-method-items.result.now in
    let f = c.requires in
    let are : AreBelow c.args.reader.now.nodes.now found (all_below METHOD f.0) =
    subst (λ xs. AreBelow c.args.reader.now.nodes.now xs (all_below METHOD f.0)) (sym c.as_slice-method-items.ensures) (c.in_ok-methods.ensures f.0 f.1) in
    let m = forest_at c.args.reader.now.nodes.now found (all_below METHOD f.0) c.loop-method.method-index _ are (slice_get-get_or found c.loop-method.method-index _ c.loop-method-test.true) in
    (m.of, m.below ∙ sym c.nodes_of.ensures)

pub loop-method-preserved : goal.loop-method-preserved
loop-method-preserved g c s r =
    let broken = g.R.MethodRule.broken c.args.rule.now s in
    let found = c.as_slice-method-items.result.now in
    let i = c.loop-method.method-index in
    let are : AreBelow c.args.reader.now.nodes.now found (all_below METHOD s.tree) =
    subst (λ xs. AreBelow c.args.reader.now.nodes.now xs (all_below METHOD s.tree)) (sym c.as_slice-method-items.ensures) (c.in_ok-methods.ensures s.tree r.nodes) in
    let m = method_at c.args.reader.now.nodes.now found s i _ are (slice_get-get_or found i _ c.loop-method-test.true) in
    let own : IsMethod s m.of =
    all_at (IsMethod s) (all_methods s) i m.of (methods_derived c.derivations_have_bodies.ensures c.tokens_stand_in_order.ensures c.args.reader.now s r) m.at in
    ap (λ o. sooner o (least (flat_map broken (drop (i + 1) (all_methods s))))) c.sooner-found.ensures
    ∙ one_more broken (all_methods s) i m.of c.loop-method.found c.in_ok-here.here m.at (c.in_ok-here.ensures s m.of r own (m.below ∙ sym c.nodes_of.ensures))
    ∙ c.loop-method.invariant s r

pub returns : goal.returns
returns g c s r =
    let broken = g.R.MethodRule.broken c.args.rule.now s in
    let found = c.as_slice-method-items.result.now in
    let are : AreBelow c.args.reader.now.nodes.now found (all_below METHOD s.tree) =
    subst (λ xs. AreBelow c.args.reader.now.nodes.now xs (all_below METHOD s.tree)) (sym c.as_slice-method-items.ensures) (c.in_ok-methods.ensures s.tree r.nodes) in
    let many = as_many c.args.reader.now.nodes.now found s are in
    let over : length (all_methods s) ≤ c.loop-method.method-index = omega (arith, many, c.loop-method-test.false) in
    nothing_left broken (all_methods s) c.loop-method.method-index c.loop-method.found over ∙ c.loop-method.invariant s r
