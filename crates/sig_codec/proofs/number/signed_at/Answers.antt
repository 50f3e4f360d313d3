use Rattle.std.proofs.Common.{◌≡◌, sym, rules, SFits, w32, to_z, of_z}
use Rattle.std.proofs.lemmas.Int.{to_z-of_z}
use Rattle.sig_codec.proofs.Numbers.{signed_found, signed_lacks, all_behind}
use Rattle.sig_codec.proofs.number.signed_at.Goals as goal

pub returns-in_err-number : goal.returns-in_err-number
returns-in_err-number c =
    rw c.from_residual.ensures (sym (signed_lacks c.args.bytes.now (λ z count s. let e = c.in_err-number.ensures.only z count s in cc)))

pub returns : goal.returns
returns c =
    let fits : SFits w32 c.in_ok-number.number = search rules in
    let is : to_z w32 (of_z w32 c.in_ok-number.number) ≡ c.in_ok-number.number = simp to_z-of_z in
    rw (is, all_behind c.in_ok-number.count c.args.bytes.now)
    (sym (signed_found c.args.bytes.now c.in_ok-number.number c.in_ok-number.count c.in_ok-number.ensures.found))
