use Rattle.std.proofs.Common.{◌≡◌, ◌+◌, ◌-◌, ◌≤◌, length, take, refl, ap, arith}
use Rattle.il_lexer.proofs.KeyLemmas.{key-tells, long-tells}
use Rattle.il_lexer.proofs.keys.is_same_keyed.Goals as goal

pub returns-then-text-le8 : goal.returns-then-text-le8
returns-then-text-le8 c =
    let long : length c.args.known.now ≡ length c.args.text.now = omega (arith, c.if-known-text.false) in
    let short : length c.args.known.now ≤ 8 = omega arith in (
      (λ h. key-tells c.args.known.now c.args.text.now 0 0 (λ i. omega (arith, c.type_inv.known i)) (λ i. omega (arith, c.type_inv.text i))
          long short c.requires),
      (λ same. refl),
    )

pub returns : goal.returns
returns c =
    let m = length c.args.text.now - 8 in
    let known : length c.args.known.now ≡ m + 8 = omega (arith, c.if-known-text.false, c.if-text-le8.false) in
    let text : length c.args.text.now ≡ m + 8 = omega (arith, c.if-text-le8.false) in (
      (λ h. long-tells m c.args.known.now c.args.text.now (λ i. omega (arith, c.type_inv.known i)) (λ i. omega (arith, c.type_inv.text i))
          known text c.requires (c.is_same.ensures.0 h)),
      (λ same. c.is_same.ensures.1 (ap (take m) same)),
    )
