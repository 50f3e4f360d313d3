-- What is left of a limit, layer by layer.
use Rattle.std.proofs.Common.{◌≡◌, ◌≢◌, ℕ, ◌+◌, ◌-◌, max, Some, arith}
use Rattle.std.proofs.lemmas.Grind.{common_steps}
use Rattle.sig_codec.specs.Reading.{after}

-- one more level and one more node
pub after_more : (deep many limit nodes : ℕ) → limit ≢ 0 → nodes ≢ 0 → after deep many (limit - 1) (nodes - 1) ≡ after (deep + 1) (many + 1) limit nodes
after_more deep many limit nodes l n = grind (arith, common_steps)

-- one after the other
pub after_both : (deep many deep' many' limit nodes left : ℕ) → Some left ≡ after deep many limit nodes → after deep' many' limit left ≡ after (max deep deep') (many + many') limit nodes
after_both deep many deep' many' limit nodes left e = grind (arith, common_steps)
