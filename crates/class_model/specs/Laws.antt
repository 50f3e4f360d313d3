-- What holds of reports.
use Rattle.std.specs.Prelude.{◌≡◌}
use Rattle.assembly_tree.specs.declared.assembly.Assembly.{Assembly}
use Rattle.type_hierarchy.specs.Hierarchy.{Hierarchy}
use Rattle.class_model.specs.declared.report.ClassReport.{ClassReport}
use Rattle.class_model.specs.Missing.{IsReport}

-- an assembly has at most one report
abbrev pub OneReport : Type 0
OneReport = (a : Assembly) (w : Hierarchy) (r s : ClassReport) → IsReport a w r → IsReport a w s → r ≡ s
