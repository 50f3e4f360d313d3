use Rattle.std.proofs.Common.{◌≡◌, ℕ, ◌<◌, ◌≤◌, ◌==◌, length, get_or, true, false, sym, arith, refl, zero, suc}
use Rattle.std.proofs.lemmas.Bool.{ne_eqb}
use Rattle.std.proofs.lemmas.List.Sums.{position_or_len_is}
use Rattle.image_streams.proofs.streams.name_len.Goals as goal

not_zero : (b : ℕ) → (b ≡ 0 → ⊥) → (b == 0) ≡ false
not_zero b h = ne_eqb b 0 h

is_zero : (b : ℕ) → b ≡ 0 → (b == 0) ≡ true
is_zero b e = rw e refl

pub returns-then-byte-eq0 : goal.returns-then-byte-eq0
returns-then-byte-eq0 c =
    sym (position_or_len_is (λ byte. byte == 0) c.args.bytes.now c.loop-k.k 0 (omega arith) (λ k less. not_zero (get_or c.args.bytes.now k 0) (c.loop-k.invariant k less)) (λ less. is_zero (get_or c.args.bytes.now c.loop-k.k 0) c.if-byte-eq0.true))

pub returns : goal.returns
returns c =
    sym (position_or_len_is (λ byte. byte == 0) c.args.bytes.now (length c.args.bytes.now) 0 (omega arith) (λ k less. not_zero (get_or c.args.bytes.now k 0) (c.loop-k.invariant k (omega arith))) (λ less. absurd (omega arith)))
