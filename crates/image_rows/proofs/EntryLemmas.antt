-- The first entry point among methods.
use Rattle.std.proofs.Common.{◌≡◌, ap, ◌∙◌, true, false, Bool, ℕ, ◌+◌, ◌<◌, ◌^◌, List, ◌∷◌, length, if◌then◌else◌, arith}
use Rattle.image_rows.specs.Filled.{entry_from}
use Rattle.assembly_tree.specs.declared.members.Method.{Method}

-- none of the methods before `rest`, whose first has this row, is the entry point
pub record SoughtTo (row : ℕ) (all rest : List Method) : Type 0 where
  pub is : entry_from 1 all ≡ entry_from row rest
  pub row_is : row + length rest ≡ 1 + length all

module _ (row : ℕ) (all rest more : List Method) (m : Method) (e : rest ≡ m ∷ more) (d : SoughtTo row all rest) where
  choose : (b : Bool) → m.entry ≡ b → entry_from row (m ∷ more) ≡ (if b then 0x06000000 + row else entry_from (row + 1) more)
  choose b h = ap (λ (x : Bool). if x then 0x06000000 + row else entry_from (row + 1) more) h

  pub found : m.entry ≡ true → entry_from 1 all ≡ 0x06000000 + row
  found h = d.is ∙ ap (entry_from row) e ∙ choose true h

  pub sought_on : m.entry ≡ false → SoughtTo (row + 1) all more
  sought_on h = record { is = d.is ∙ ap (entry_from row) e ∙ choose false h; row_is = (let at = d.row_is in let long = ap (length {A = Method}) e in omega arith) }

  pub row_few : length all < 2 ^ 24 → row < 2 ^ 24
  row_few few = let at = d.row_is in let long = ap (length {A = Method}) e in omega arith
