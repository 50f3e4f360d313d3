-- What is asked of bases, apart.
use Rattle.std.proofs.Common.{◌≡◌, ◌≢◌, ℕ, ◌⊎◌, List, refl, sym, subst}
use Rattle.std.specs.Prelude.{◌↔◌}
use Rattle.image_model.specs.Columns.{type_extends}
use Rattle.image_model.specs.Members.{HasBase, IsInterface, MayLackBase}
use Rattle.image_model.specs.Rows.{HasRow}

pub base_of_interface : (image : List ℕ) (row : ℕ) → HasRow image 0x02 row → IsInterface image row → (type_extends image row ≡ 0) ↔ HasBase image 0x02 row
base_of_interface image row there is = (
  λ none. record { interface = λ e t i. none; other = λ e t not. absurd (not is) },
  λ h. h.interface refl there is,
)

pub base_of_others : (image : List ℕ) (row : ℕ) → HasRow image 0x02 row → (IsInterface image row → ⊥) → ((type_extends image row ≢ 0) ⊎ MayLackBase image row) ↔ HasBase image 0x02 row
base_of_others image row there not = (
  λ b. record { interface = λ e t is. absurd (not is); other = λ e t n. b },
  λ h. h.other refl there not,
)

pub base_of_none : (image : List ℕ) (table row : ℕ) → (HasRow image table row → ⊥) → HasBase image table row
base_of_none image table row none =
    record {
      interface = λ e t. absurd (none (subst (λ z. HasRow image z row) (sym e) t));
      other = λ e t. absurd (none (subst (λ z. HasRow image z row) (sym e) t));
    }

pub base_of_tables : (image : List ℕ) (table row : ℕ) → (table ≡ 0x02 → ⊥) → HasBase image table row
base_of_tables image table row n = record { interface = λ e t. absurd (n e); other = λ e t. absurd (n e) }
