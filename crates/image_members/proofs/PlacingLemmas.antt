-- Bytes that stand in the code.
use Rattle.std.proofs.Common.{◌≡◌, ap, ◌∙◌, ℕ, ◌+◌, ◌<◌, List, ◌++◌, length, arith}
use Rattle.std.proofs.lemmas.List.{append_assoc, length-append}
use Rattle.image_members.specs.Placing.{StandsIn, Puts}

pub stands_later : (code more bytes : List ℕ) (rva : ℕ) → StandsIn code rva bytes → StandsIn (code ++ more) rva bytes
stands_later code more bytes rva h = record {
  before = h.before;
  after = h.after ++ more;
  is = ap (λ xs. xs ++ more) h.is ∙ append_assoc (h.before ++ bytes) h.after more;
  at = h.at;
}

pub puts_long : (multiple rva : ℕ) (bytes from to : List ℕ) → Puts multiple bytes from to rva → length to < length from + multiple + length bytes
puts_long multiple rva bytes from to p = let few = p.few in let long = ap (length {A = ℕ}) p.is ∙ length-append from p.more in omega arith
