use Rattle.std.proofs.Common.{◌≡◌, ℕ, ◌<◌, Bool, true, List, ◌∷◌, drop, length, ap, sym, ◌∙◌, drop-cons, arith}
use Rattle.std.proofs.Math.ListN.{drop_of_length-le}
use Rattle.print_leaves.specs.Parts.{any_empty}
use Rattle.print_leaves.proofs.Empties.{empties}
use Rattle.print_leaves.proofs.names.has_empty_piece.Goals as goal

new_dot : (is_new : Bool) (bs : List ℕ) (b : ℕ) (rest : List ℕ) → is_new ≡ true → bs ≡ b ∷ rest → b ≡ 46 → any_empty is_new bs ≡ true
new_dot is_new bs b rest e f g = ap (λ t. any_empty t bs) e ∙ (ap (any_empty true) f ∙ ap (λ x. any_empty true (x ∷ rest)) g)

pub returns-then-is_new : goal.returns-then-is_new
returns-then-is_new c =
    let here : c.loop-byte.byte-index < length c.args.text.now = c.loop-byte-test.true in
    sym (empties c.args.text.now
    ∙ (sym c.loop-byte.invariant
    ∙ new_dot c.loop-byte.is_new (drop c.loop-byte.byte-index c.args.text.now) _ _ c.if-is_new.true
    (drop-cons c.args.text.now c.loop-byte.byte-index 0 here) c.if-byte-ne46.false))

pub returns : goal.returns
returns c =
    ap (any_empty c.loop-byte.is_new) (sym (drop_of_length-le c.args.text.now (omega (arith, c.loop-byte-test.false))))
    ∙ (c.loop-byte.invariant ∙ sym (empties c.args.text.now))
