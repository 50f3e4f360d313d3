use Rattle.std.proofs.Common.{drop}
use Rattle.image_rows.specs.ParamRows.{IsParamRow, param_bytes}
use Rattle.image_members.specs.Places.{lent}
use Rattle.image_rows.proofs.ParamLemmas.{param_kept, CanPushParam, param_can}
use Rattle.image_members.proofs.PushLemmas.{PushesTo}
use Rattle.image_rows.proofs.param_rows.push_params.Given as goal

abbrev pub invariant-loop-param : goal.invariant-loop-param
invariant-loop-param l = PushesTo 0x08 IsParamRow param_bytes param_kept CanPushParam param_can l.initial.refs l.refs l.initial.rows l.rows (lent l.params) (lent (drop l.param-index l.params))
