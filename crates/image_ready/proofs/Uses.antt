-- A TypeSpec that is named is in use.
use Rattle.std.proofs.Common.{◌≡◌, ℕ, inl, inr, List, Option, refl, subst, arith}
use Rattle.type_terms.specs.declared.term.Owner.{Owner}
use Rattle.image_model.specs.Naming.{RowOwner, IsToken}
use Rattle.image_model.specs.Rows.{HasRow}
use Rattle.image_model.specs.Used.{IsUsed, RowNames}
use Rattle.image_ready.specs.Keeping.{IsNamed}

module _ (image : List ℕ) where
  pub spec_used : (table row : ℕ) → table ≡ 0x1B → HasRow image 0x1B row → IsNamed image table row → IsUsed image 0x1B row
  spec_used table row e there (IsNamed.by_row {from_table = ft} {from = fr} n from r) = IsUsed.by_row n from (subst (λ (t : ℕ). RowNames image ft fr t row) e r) (inr (inr (inr (inl refl)))) there
  spec_used table row e there (IsNamed.by_reference {from_table = ft} {from = fr} u r) = IsUsed.by_reference u (subst (λ (t : ℕ). RowNames image ft fr t row) e r) (inr (inr (inr (inl refl)))) there
  spec_used table row e there (IsNamed.by_body {token = token} m b k) = IsUsed.by_body m b (subst (λ (t : ℕ). IsToken token t row) e k) (inr (inr (inr (inl refl)))) there

  -- so is the TypeSpec of a type that is named
  pub owner_used : (owners : ℕ → Option Owner) (table row : ℕ) (o : Owner) → RowOwner image owners table row o → IsNamed image table row → table ≡ 0x1B → IsUsed image 0x1B row
  owner_used owners table row o (RowOwner.defined e there path) n f = absurd (omega arith)
  owner_used owners table row o (RowOwner.referred e there path) n f = absurd (omega arith)
  owner_used owners table row o (RowOwner.specified e there blob is) n f = spec_used table row f there n
