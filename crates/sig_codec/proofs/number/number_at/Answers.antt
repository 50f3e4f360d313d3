use Rattle.std.proofs.Common.{sym}
use Rattle.sig_codec.proofs.Numbers.{number_found, number_lacks, all_behind}
use Rattle.sig_codec.proofs.number.number_at.Goals as goal

pub returns-in_err-number : goal.returns-in_err-number
returns-in_err-number c =
    rw c.from_residual.ensures (sym (number_lacks c.args.bytes.now (λ n count s. let e = c.in_err-number.ensures.only n count s in cc)))

pub returns : goal.returns
returns c =
    rw (all_behind c.in_ok-number.count c.args.bytes.now)
    (sym (number_found c.args.bytes.now c.in_ok-number.number c.in_ok-number.count c.in_ok-number.ensures.found))
