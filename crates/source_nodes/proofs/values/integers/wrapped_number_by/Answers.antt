use Rattle.std.proofs.Common.{◌≡◌, ◌+◌, ◌*◌, ◌%◌, take, get_or, ap, sym, ◌∙◌, arith}
use Rattle.source_model.specs.Values.{digit_value, number_by}
use Rattle.source_nodes.proofs.Numbers.{number_by-more, wrapped_more}
use Rattle.source_nodes.proofs.values.integers.wrapped_number_by.Goals as goal

pub loop-digit-preserved : goal.loop-digit-preserved
loop-digit-preserved c =
    let base = c.args.base in
    let digits = c.args.digits.now in
    let at = c.loop-digit.digit-index in
    let before = number_by base (take at digits) in
    let digit = c.digit_value.result in
    let next : number_by base (take (at + 1) digits) ≡ before * base + digit_value (get_or digits at 0) = number_by-more base digits at (omega arith) in
    let is : digit ≡ digit_value (get_or digits at 0) = c.digit_value.ensures in
    ap (λ v. (v * base % 18446744073709551616 + digit) % 18446744073709551616) c.loop-digit.invariant
    ∙ wrapped_more before base digit 18446744073709551616
    ∙ ap (λ d. (before * base + d) % 18446744073709551616) is
    ∙ ap (λ n. n % 18446744073709551616) (sym next)
