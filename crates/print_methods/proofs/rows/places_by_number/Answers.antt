use Rattle.std.proofs.Common.{◌+◌, ◌-◌, length, ap, sym, ◌∙◌, arith}
use Rattle.assembly_tree.specs.declared.members.Param.{Param}
use Rattle.print_methods.proofs.Tables.{begins, ends, one_row, set_count}
use Rattle.print_methods.proofs.rows.places_by_number.Goals as goal

pub loop-done-init : goal.loop-done-init
loop-done-init c = record {
  counted = c.in_ok-places.ensures.counted;
  leads = begins c.args.rows.now c.in_ok-places.places (length c.args.rows.now - 0) (omega arith) c.in_ok-places.ensures.empty;
}

pub loop-done-preserved : goal.loop-done-preserved
loop-done-preserved c =
    let rows = c.args.rows.now in
    let done = c.loop-done.done in
    record {
      counted = ap length c.lead_to.ensures ∙ (set_count c.loop-done.places _ _ ∙ c.loop-done.invariant.counted);
      leads =
          one_row rows c.loop-done.places _ (length rows - done) (length rows - 1 - done) (length rows - (done + 1)) _ c.index-rows-place.result
          (ap (λ (r : Param). r.number) (sym c.index-rows-place.is)) (omega arith) (omega arith) (omega arith) c.index-rows-place.is c.lead_to.ensures
          c.loop-done.invariant.leads;
    }

pub returns : goal.returns
returns c = record {
  counted = c.loop-done.invariant.counted;
  table = ends c.args.rows.now c.loop-done.places (length c.args.rows.now - c.loop-done.done) (omega arith) c.loop-done.invariant.leads;
}
