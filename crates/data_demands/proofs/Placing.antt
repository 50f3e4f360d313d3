-- The values of fields: data at its places, and the other parts of the demand.
use Rattle.std.proofs.Common.{◌≡◌, ℕ, ◌+◌, ◌<◌, ◌≤◌, Bool, true, false, List, length, refl, sym, ◌∙◌, ap, subst, arith}
use Rattle.std.specs.Prelude.{◌↔◌, IsTrue, All}
use Rattle.std.specs.List.{range_with_len}
use Rattle.std.proofs.lemmas.List.FromFn.{length-range_with_len, get_or-range_with_len}
use Rattle.pe_layout.specs.FileMap.{readable}
use Rattle.body_codec.specs.Names.{NameMap}
use Rattle.image_model.specs.Columns.{data_rva}
use Rattle.image_model.specs.Members.{HasConstants, HasData, HasFieldValues, HasValues, data_of, offsets_of}
use Rattle.image_model.specs.Rows.{HasRow}
use Rattle.attribute_demands.specs.Judging.{ByNames}
use Rattle.data_demands.specs.Measured.{CanMeasure, IsFieldSize, HasDataByNames}

all_none : (P : ℕ → Type 0) (first count : ℕ) → count ≡ 0 → All P (range_with_len first count)
all_none P first count none k d less = absurd (let long = length-range_with_len first count in omega arith)

all_one : (P : ℕ → Type 0) (first count : ℕ) → count ≡ 1 → P first → All P (range_with_len first count)
all_one P first count one p k d less =
    let long = length-range_with_len first count in
    let at : k < count = omega arith in
    let is : first ≡ first + k = omega arith in
    subst P (is ∙ sym (get_or-range_with_len first count k d at)) p

one_of_all : (P : ℕ → Type 0) (first count : ℕ) → count ≡ 1 → All P (range_with_len first count) → P first
one_of_all P first count one all =
    let long = length-range_with_len first count in
    let at : 0 < count = omega arith in
    let is : first + 0 ≡ first = omega arith in
    subst P (get_or-range_with_len first count 0 0 at ∙ is) (all 0 0 (omega arith))

module _ (image : List ℕ) (can : CanMeasure image) (field : ℕ) (there : HasRow image 0x04 field) where
  -- ---- data, whose places stand side by side

  module _ (first count : ℕ) (rows : data_of image field ≡ range_with_len first count) where
    pub none_placed : count ≡ 0 → IsTrue true ↔ HasDataByNames image field
    none_placed none = (λ t names named. subst (All (HasData image names field)) (sym rows) (all_none (HasData image names field) first count none), λ h. refl)

    pub one_placed : (found : ℕ) (r : Bool) → length (data_of image field) ≤ 1 → (count ≡ 0 → ⊥) → ByNames image (λ names. IsFieldSize image names field found)
        → IsTrue r ↔ ((0 < found) × (found ≤ length (readable image (data_rva image first)))) → IsTrue r ↔ HasDataByNames image field
    one_placed found r few some sized h =
        let long = ap length rows ∙ length-range_with_len first count in
        let one : count ≡ 1 = omega arith in (
          λ t names named.
              let s = (can.signatures names named 0x04 field).field refl there in
              let p = h.0 t in
              let d : HasData image names field first = (s.0, found, s.1, (sized names named s.0 s.1 found).1 (refl, p.0), p.1) in
              subst (All (HasData image names field)) (sym rows) (all_one (HasData image names field) first count one d),
          λ v.
              let names = can.named.0 in
              let named = can.named.1 in
              let d = one_of_all (HasData image names field) first count one (subst (All (HasData image names field)) rows (v names named)) in
              let e = (sized names named d.0 d.2 d.1).0 d.3 in
              h.1 (subst (λ (n : ℕ). 0 < n) e.0 e.1, subst (λ (n : ℕ). n ≤ length (readable image (data_rva image first))) e.0 d.4),
        )

  -- ---- all parts

  parts : (names : NameMap) → HasFieldValues image names field → HasValues image names 0x04 field
  parts names h = record {
    type_generics = λ e k. absurd (omega arith);
    layout = λ e k. absurd (omega arith);
    field = λ e k. h;
    method_generics = λ e k. absurd (omega arith);
    method = λ e k. absurd (omega arith);
    param = λ e k. absurd (omega arith);
    event_of = λ e k. absurd (omega arith);
    event_kinds_are = λ e k. absurd (omega arith);
    property = λ e k. absurd (omega arith);
    property_kinds_are = λ e k. absurd (omega arith);
    override = λ e k. absurd (omega arith);
    instance = λ e k. absurd (omega arith);
  }

  abbrev pub FieldByNames : Type 0
  FieldByNames = ByNames image (λ names. HasValues image names 0x04 field)

  pub all_parts : (r : Bool) → HasConstants image 0x04 field → length (offsets_of image field) ≤ 1 → length (data_of image field) ≤ 1 → IsTrue r ↔ HasDataByNames image field → IsTrue r ↔ FieldByNames
  all_parts r constants offset one h = (
    λ t names named. parts names (record { constants = constants; offset = offset; one_data = one; data_there = h.0 t names named }),
    λ v. h.1 (λ names named. ((v names named).field refl there).data_there),
  )

  pub lacks_part : (Part : Type 0) → ((names : NameMap) → HasFieldValues image names field → Part) → (Part → ⊥) → IsTrue false ↔ FieldByNames
  lacks_part Part of lacks = (λ t. absurd cc, λ v. absurd (lacks (of can.named.0 ((v can.named.0 can.named.1).field refl there))))
