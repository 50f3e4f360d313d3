-- The demand on values by the names of an image, for each table.
use Rattle.std.proofs.Common.{◌≡◌, ℕ, ◌<◌, inl, Bool, List, refl, sym, subst}
use Rattle.std.specs.Prelude.{◌↔◌, IsTrue}
use Rattle.body_codec.specs.Names.{NameMap}
use Rattle.metadata_tables.specs.Faults.{IsEarlier}
use Rattle.image_model.specs.Members.{HasValues}
use Rattle.image_model.specs.Namings.{AreNamings}
use Rattle.image_model.specs.Rows.{HasRow}
use Rattle.image_model.specs.Used.{IsUsed}
use Rattle.value_demands.specs.Valued.{HasValuesByNames}
use Rattle.data_demands.specs.Measured.{HaveOneLayout}

-- what holds by any names holds by those of the image
pub by_any : (image : List ℕ) (table row : ℕ) (r : Bool) → (names : NameMap) × AreNamings image names → ((names : NameMap) → IsTrue r ↔ HasValues image names table row) → IsTrue r ↔ HasValuesByNames image table row
by_any image table row r named h = (λ t names told. (h names).0 t, λ v. (h named.0).1 (v named.0 named.1))

-- types stand before fields, and have one layout each
pub one_layout : (image now : List ℕ) → image ≡ now → (names : NameMap) × AreNamings image names → (table row : ℕ) → 0x02 < table
    → ((t r : ℕ) → IsEarlier t r table row → HasValuesByNames now t r) → HaveOneLayout image
one_layout image now e named table row behind before type there =
    let v : HasValuesByNames image 0x02 type = subst (λ (i : List ℕ). HasValuesByNames i 0x02 type) (sym e) (before 0x02 type (inl behind)) in
    ((v named.0 named.1).layout refl there).one

-- the same by an equal image and an equal table
pub moved : (image now : List ℕ) → image ≡ now → (table n row : ℕ) → table ≡ n → (r : Bool) → IsTrue r ↔ HasValuesByNames image n row → IsTrue r ↔ HasValuesByNames now table row
moved image now e table n row t r h =
    subst (λ (i : List ℕ). IsTrue r ↔ HasValuesByNames i table row) e (subst (λ (k : ℕ). IsTrue r ↔ HasValuesByNames image k row) (sym t) h)

used_there : {image : List ℕ} {table row : ℕ} → IsUsed image table row → HasRow image table row
used_there (IsUsed.by_row other from names is there) = there
used_there (IsUsed.by_reference used names is there) = there
used_there (IsUsed.by_body from names is at there) = there

pub none_valued : (image : List ℕ) (table row : ℕ) → (HasRow image table row → ⊥) → HasValuesByNames image table row
none_valued image table row none =
    let no : (t : ℕ) → table ≡ t → HasRow image t row → ⊥ = λ t e there. none (subst (λ (z : ℕ). HasRow image z row) (sym e) there) in
    λ names told. record {
      type_generics = λ e t. absurd (no 0x02 e t);
      layout = λ e t. absurd (no 0x02 e t);
      field = λ e t. absurd (no 0x04 e t);
      method_generics = λ e t. absurd (no 0x06 e t);
      method = λ e t. absurd (no 0x06 e t);
      param = λ e t. absurd (no 0x08 e t);
      event_of = λ e t. absurd (no 0x14 e t);
      event_kinds_are = λ e t. absurd (no 0x14 e t);
      property = λ e t. absurd (no 0x17 e t);
      property_kinds_are = λ e t. absurd (no 0x17 e t);
      override = λ e t. absurd (no 0x19 e t);
      instance = λ e used. absurd (no 0x2B e (used_there used));
    }
