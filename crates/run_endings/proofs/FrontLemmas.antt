-- The front of a list that is written or read, piece by piece.
use Rattle.std.proofs.Common.{◌≡◌, ℕ, ◌+◌, ◌≤◌, List, [], ◌++◌, Option, Some, take, drop, length, sym, ◌∙◌, ap, arith}
use Rattle.std.specs.Prelude.{unwrap_or}
use Rattle.std.proofs.Math.Seq.{take-add}
use Rattle.std.proofs.lemmas.List.{length-append, length-take, take-append-le}
use Rattle.il_base.specs.Outside.{ReadsAt}

pub front_grows : (before : Option (List ℕ)) (bytes rest : List ℕ) (done count : ℕ) → before ≡ Some (take done bytes) → rest ≡ drop done bytes
    → unwrap_or before [] ++ take count rest ≡ take (done + count) bytes
front_grows before bytes rest done count e f = rw (e, f) (sym (take-add done count bytes))

-- what was read of a file so far, and then a piece more
module _ (file got tail whole : List ℕ) (at count : ℕ) (front : file ≡ take (length file) whole) (within : length file ≤ length whole)
    (at_end : at ≡ length file) (read : ReadsAt whole at count got) (fits : count ≤ length got) where
  piece_is : take count (got ++ tail) ≡ take count (drop (length file) whole)
  piece_is = take-append-le count got tail fits ∙ read.bytes ∙ ap (λ n. take count (drop n whole)) at_end

  front_more : file ++ take count (got ++ tail) ≡ take (length file + count) whole
  front_more = ap (λ xs. file ++ xs) piece_is ∙ ap (λ xs. xs ++ take count (drop (length file) whole)) front ∙ sym (take-add (length file) count whole)

  length_more : length (file ++ take count (got ++ tail)) ≡ length file + count
  length_more = rw (length-append, length-take, length-append) (omega (arith, fits))

  pub read_grows : (next : List ℕ) → next ≡ file ++ take count (got ++ tail) → (next ≡ take (length next) whole) × (length next ≤ length whole)
  read_grows next e =
      let len : length next ≡ length file + count = ap length e ∙ length_more in
      let inside = read.inside in
      (e ∙ front_more ∙ ap (λ n. take n whole) (sym len), omega arith)
