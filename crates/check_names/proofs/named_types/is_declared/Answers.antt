use Rattle.std.proofs.Common.{◌∙◌, arith, get_or, map, refl, sym}
use Rattle.source_model.specs.Nodes.{type_id}
use Rattle.source_syntax.specs.ClassNumbers.{class_numbered}
use Rattle.check_names.proofs.NamedTypeLemmas.{arrives, goes_on, stops}
use Rattle.check_names.proofs.named_types.is_declared.Goals as goal

pub loop-k-preserved : goal.loop-k-preserved
loop-k-preserved c = record {
  within = omega (arith, c.loop-k-test.true);
  so_far = λ s r all.
      goes_on s c.args.classes.now c.args.path.now c.loop-k.k c.loop-k.at c.in-Some.number (type_id s (get_or c.args.path.now c.loop-k.k 0))
      (class_numbered c.args.classes.now (map (type_id s) c.args.path.now)) c.loop-k-test.true refl
      (sym (c.in_ok-number.ensures s r (all c.loop-k.k 0 c.loop-k-test.true)) ∙ c.in-Some.is) (c.loop-k.invariant.so_far s r all);
}

pub returns-in-None : goal.returns-in-None
returns-in-None c s r all =
    stops s c.args.classes.now c.args.path.now c.loop-k.k c.loop-k.at (type_id s (get_or c.args.path.now c.loop-k.k 0))
    (class_numbered c.args.classes.now (map (type_id s) c.args.path.now)) c.loop-k-test.true refl
    (sym (c.in_ok-number.ensures s r (all c.loop-k.k 0 c.loop-k-test.true)) ∙ c.in-None.is) (c.loop-k.invariant.so_far s r all)

pub returns : goal.returns
returns c s r all =
    arrives s c.args.classes.now c.args.path.now c.loop-k.k c.loop-k.at (class_numbered c.args.classes.now (map (type_id s) c.args.path.now)) c.loop-k-test.false
    (c.loop-k.invariant.so_far s r all)
