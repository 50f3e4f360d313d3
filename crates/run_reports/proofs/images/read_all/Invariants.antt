use Rattle.std.proofs.Common.{take}
use Rattle.std.specs.List.{All, AllZip}
use Rattle.image_model.specs.Faults.{Reads}
use Rattle.type_order.specs.Worlds.{IsFit}
use Rattle.run_reports.proofs.images.read_all.Given as goal

abbrev pub invariant-loop-number : goal.invariant-loop-number
invariant-loop-number l = record {
  read : AllZip Reads (take l.number l.images) l.assemblies;
  fit : All IsFit l.assemblies;
}
