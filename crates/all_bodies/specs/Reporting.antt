-- The failures of some methods, on the way through all of them.
use Rattle.std.specs.Prelude.{◌≡◌, List, []}
use Rattle.std.specs.List.{Contains}
use Rattle.assembly_tree.specs.declared.assembly.Assembly.{Assembly}
use Rattle.assembly_tree.specs.declared.body.Body.{Body}
use Rattle.assembly_tree.specs.declared.typedef.MethodPath.{MethodPath}
use Rattle.type_hierarchy.specs.Hierarchy.{Hierarchy}
use Rattle.code_flow.specs.Frames.{frame}
use Rattle.code_flow.specs.Methods.{Declared}
use Rattle.code_flow.specs.Paths.{NeverWrong}
use Rattle.body_verifier.specs.Checking.{HasBody}
use Rattle.body_verifier.specs.Reports.{ReportsEach}
use Rattle.body_verifier.specs.declared.report.Failure.{Failure}

-- these failures and no others are those of the methods at these places; where there are none, no path of one goes wrong
pub record AreFailures (a : Assembly) (w : Hierarchy) (paths : List MethodPath) (failures : List Failure) : Type 0 where
  pub each : ReportsEach a w paths failures
  pub alone : (others : List Failure) → ReportsEach a w paths others → failures ≡ others
  pub right : failures ≡ [] → (path : MethodPath) (d : Declared) (b : Body) → Contains paths path → HasBody a path d b → NeverWrong (frame a w d b)
