use Rattle.std.proofs.Common.{◌≡◌, true, false, refl, arith}
use Rattle.pe_layout.specs.Faults.{has_headers, is_in_profile, has_cli_header}
use Rattle.pe_layout.proofs.FirstFault.{fault_headers, fault_profile, fault_cli, faultless, not_true}
use Rattle.pe_layout.proofs.view.open.Goals as goal

pub returns-then-not-has_headers : goal.returns-then-not-has_headers
returns-then-not-has_headers c = fault_headers c.args.file.now cc

pub returns-then-not-is_in_profile : goal.returns-then-not-is_in_profile
returns-then-not-is_in_profile c =
    let headers : has_headers c.args.file.now ≡ true = cc in
    let profile : is_in_profile c.args.file.now ≡ false = cc in
    rw c.u32_at-signature.ensures (fault_profile c.args.file.now headers profile)

pub returns-in_default : goal.returns-in_default
returns-in_default c =
    let headers : has_headers c.args.file.now ≡ true = cc in
    let profile : is_in_profile c.args.file.now ≡ true = cc in
    fault_cli c.args.file.now headers profile (not_true (has_cli_header c.args.file.now) c.in_default.ensures.found.1)

pub invariant_of-result : goal.invariant_of-result
invariant_of-result c =
    let headers : has_headers c.args.file.now ≡ true = cc in
    let profile : is_in_profile c.args.file.now ≡ true = cc in
    record {
      faultless = faultless c.args.file.now headers profile (c.in-Some.ensures.found.0 refl);
      optional_is = omega arith;
      optional_in = grind arith;
      sections_is = grind arith;
      count_is = grind arith;
      sections_in = grind arith;
      cli_is = c.in-Some.ensures.bytes;
      cli_len = c.in-Some.ensures.len;
    }

pub returns : goal.returns
returns c =
    let headers : has_headers c.args.file.now ≡ true = cc in
    let profile : is_in_profile c.args.file.now ≡ true = cc in
    (refl, faultless c.args.file.now headers profile (c.in-Some.ensures.found.0 refl))
