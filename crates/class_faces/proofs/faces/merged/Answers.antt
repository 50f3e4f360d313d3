use Rattle.class_faces.proofs.Walking.{union_same}
use Rattle.class_faces.proofs.faces.merged.Goals as goal

pub returns : goal.returns
returns c = record {
  all = union_same c.args.above.now.all c.args.own.now.all c.as_slice.result.now c.as_slice-2.result.now c.in_ok-all.all c.as_slice.ensures c.as_slice-2.ensures c.in_ok-all.ensures;
  overriding = union_same c.args.above.now.overriding c.args.own.now.overriding c.as_slice-3.result.now c.as_slice-4.result.now c.in_ok-overriding.overriding c.as_slice-3.ensures
      c.as_slice-4.ensures c.in_ok-overriding.ensures;
}
