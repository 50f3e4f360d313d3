use Rattle.std.proofs.Common.{◌++◌, ap, sym, subst, ◌∙◌}
use Rattle.std.specs.Prelude.{IsUtf8}
use Rattle.std.specs.Str.Iter.{encode_utf16_pending, encode_utf16_rest}
use Rattle.source_model.specs.Values.{units}
use Rattle.lower_members.proofs.UnitLemmas.{later_utf8, unit_next, units_start, units_end}
use Rattle.lower_members.proofs.units.units.Goals as goal

pub loop-unit-init : goal.loop-unit-init
loop-unit-init c =
    let same = c.into_iter-unit-iterator.ensures.into_iter_gives in
    record {
      utf8 = subst (λ i. IsUtf8 (encode_utf16_rest i)) (sym same) (subst IsUtf8 (sym c.encode_utf16-unit-items.ensures.text) c.utf8.text);
      so_far = units_start _ _ c.new-all.result c.args.text.now c.new-all.ensures
          (ap encode_utf16_pending same ∙ c.encode_utf16-unit-items.ensures.pending) (ap encode_utf16_rest same ∙ c.encode_utf16-unit-items.ensures.text);
    }

pub loop-unit-preserved : goal.loop-unit-preserved
loop-unit-preserved c = record {
  utf8 = later_utf8 _ _ _ _ c.in-Some.unit c.loop-unit.invariant.utf8 c.in-Some.ensures.steps;
  so_far = ap (λ ys. ys ++ (encode_utf16_pending c.next.new.self ++ units (encode_utf16_rest c.next.new.self))) c.in_ok-push.ensures.ok
      ∙ unit_next _ _ _ _ c.loop-unit.all (units c.args.text.now) c.in-Some.unit c.loop-unit.invariant.utf8 c.in-Some.ensures.steps c.loop-unit.invariant.so_far;
}

pub returns : goal.returns
returns c = units_end _ _ c.loop-unit.all (units c.args.text.now) c.in-None.ensures.steps c.loop-unit.invariant.so_far
