use Rattle.std.proofs.Common.{◌≡◌, ◌-◌, ◌/◌, ◌%◌, ◌<◌, ◌≤◌, ◌⊎◌, inl, inr, [], ◌∷◌, ap, ◌∙◌, arith}
use Rattle.std.specs.Fmt.{digits, digit_glyph}
use Rattle.listing_leaves.specs.Numbers.{at_least}
use Rattle.print_leaves.specs.Page.{added}
use Rattle.print_leaves.proofs.Numbered.{hex_one, hex_more}
use Rattle.print_leaves.proofs.paper.Paper.+add_hex.Goals as goal
use Rattle.print_leaves.proofs.paper.Paper.+add_hex.Goals.{else-width-le1-via-then-width-le1+else-number-lt16, else-width-le1-via-else-width-le1}

pub returns-then-number-lt16 : goal.returns-then-number-lt16
returns-then-number-lt16 t c =
    c.in_ok-add_ascii.ensures
    ∙ (ap (λ d. added c.args.self.now (d ∷ [])) c.glyph.ensures.digit
    ∙ hex_one c.args.self.now c.args.upper c.args.width c.args.number c.if-width-le1.true c.if-number-lt16.true)

pub returns : goal.returns
returns t c =
    let long : (1 < c.args.width) ⊎ (16 ≤ c.args.number) = elim c.else-width-le1.branch [
      | else-width-le1-via-then-width-le1+else-number-lt16 w ↦ inr w.if-number-lt16.false
      | else-width-le1-via-else-width-le1 w ↦ inl w.if-width-le1.false
    ] in
    let less : c.saturating_sub.result ≡ c.args.width - 1 = omega arith in
    c.in_ok-add_ascii-2.ensures
    ∙ (ap (λ d. added c.add_hex.new.self (d ∷ [])) c.glyph-2.ensures.digit
    ∙ (ap (λ q. added q (digit_glyph c.args.upper (c.args.number % 16) ∷ [])) c.in_ok-add_hex.ensures
    ∙ (ap (λ k. added (added c.args.self.now (at_least k (digits 16 c.args.upper (c.args.number / 16)))) (digit_glyph c.args.upper (c.args.number % 16) ∷ [])) less
    ∙ hex_more c.args.self.now c.args.upper c.args.width c.args.number long (omega arith))))
