use Rattle.std.proofs.Common.{◌≡◌, ◌+◌, ◌*◌, ◌≤◌, take, get_or, arith}
use Rattle.source_model.specs.Values.{digit_value, number_by}
use Rattle.source_nodes.proofs.Numbers.{too_great}
use Rattle.source_nodes.proofs.values.integers.number_by.Goals as goal

pub returns-in_default : goal.returns-in_default
returns-in_default c =
    let base = c.args.base in
    let digits = c.args.digits.now in
    let at = c.loop-digit.digit-index in
    let is : c.loop-digit.value ≡ number_by base (take at digits) = c.loop-digit.invariant in
    let over : 18446744073709551616 ≤ c.loop-digit.value * base + digit_value (get_or digits at 0) = c.in_default.ensures in
    too_great base 18446744073709551616 c.requires digits at (omega arith) (rw (← is) over)
