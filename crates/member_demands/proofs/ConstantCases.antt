-- Which element types and values make a constant (II.22.9).
use Rattle.std.proofs.Common.{◌≡◌, ℕ, zero, suc, ◌+◌, ◌*◌, ◌<◌, ◌≤◌, inl, inr, List, [], ◌∷◌, Option, Some, None, length, get_or, refl, sym, ◌∙◌, ap, subst, arith}
use Rattle.std.specs.Prelude.{◌↔◌, ◌==◌, ◌%◌, All, option_map}
use Rattle.std.specs.List.{range_with_len}
use Rattle.std.proofs.lemmas.Bool.{cases_eq, cases_lt, eq-eqb, ne_eqb, cond-true, cond-false}
use Rattle.std.proofs.lemmas.List.{get_or_past}
use Rattle.std.proofs.lemmas.List.FromFn.{length-range_with_len, get_or-range_with_len}
use Rattle.std.proofs.lemmas.Option.{none-some}
use Rattle.assembly_tree.specs.declared.members.Constant.{Constant}
use Rattle.assembly_tree.specs.declared.members.Constant.TheVariants as constant
use Rattle.metadata_tables.specs.CodedIndex.{tag_of}
use Rattle.metadata_tables.specs.declared.coded.Coded.TheVariants as coded
use Rattle.image_model.specs.Constants.{constant_of, of_width}
use Rattle.image_model.specs.Members.{HasConstants, ConstantIs, constants_of}
use Rattle.image_model.specs.Rows.{index_of}
use Rattle.image_model.specs.Units.{units_of}
use Rattle.member_demands.specs.Groups.{widths, width_of, AreConstants}

abbrev Makes : ℕ → List ℕ → Type 0
Makes element value = (c : Constant) × (constant_of element value ≡ Some c)

of_width_told : (bytes : ℕ) (value : List ℕ) (c : Constant) → ((d : Constant) × (of_width bytes value c ≡ Some d)) ↔ (length value ≡ bytes)
of_width_told bytes value c = (
  λ h. elim (cases_eq (length value) bytes) [
    | inl e ↦ e
    | inr n ↦ absurd (none-some h.0 (sym (cond-false (length value == bytes) (Some c) None (ne_eqb (length value) bytes n)) ∙ h.1))
  ],
  λ e. (c, cond-true (length value == bytes) (Some c) None (eq-eqb (length value) bytes e)),
)

-- the value of an element type has its width
abbrev HasWidth : ℕ → List ℕ → Type 0
HasWidth element value = Makes element value ↔ ((0 < width_of element) × (length value ≡ width_of element))

wide : (element bytes : ℕ) (value : List ℕ) (c : Constant) → constant_of element value ≡ of_width bytes value c → width_of element ≡ bytes → 0 < bytes → HasWidth element value
wide element bytes value c is width some =
    let o = of_width_told bytes value c in (
      λ h. (omega arith, o.0 (h.0, sym is ∙ h.1) ∙ sym width),
      λ w. let d = o.1 (w.1 ∙ width) in (d.0, is ∙ d.1),
    )

-- an element type that has no values of a width
none : (element : ℕ) (value : List ℕ) → constant_of element value ≡ None → width_of element ≡ 0 → HasWidth element value
none element value is width = (λ h. absurd (none-some h.0 (sym is ∙ h.1)), λ w. let some = w.0 in absurd (omega arith))

at_00 : (value : List ℕ) → HasWidth 0x00 value
unfolding constant_of
at_00 value = none 0x00 value refl refl

at_01 : (value : List ℕ) → HasWidth 0x01 value
unfolding constant_of
at_01 value = none 0x01 value refl refl

at_02 : (value : List ℕ) → HasWidth 0x02 value
unfolding constant_of
at_02 value = wide 0x02 1 value _ refl refl (omega arith)

at_03 : (value : List ℕ) → HasWidth 0x03 value
unfolding constant_of
at_03 value = wide 0x03 2 value _ refl refl (omega arith)

at_04 : (value : List ℕ) → HasWidth 0x04 value
unfolding constant_of
at_04 value = wide 0x04 1 value _ refl refl (omega arith)

at_05 : (value : List ℕ) → HasWidth 0x05 value
unfolding constant_of
at_05 value = wide 0x05 1 value _ refl refl (omega arith)

at_06 : (value : List ℕ) → HasWidth 0x06 value
unfolding constant_of
at_06 value = wide 0x06 2 value _ refl refl (omega arith)

at_07 : (value : List ℕ) → HasWidth 0x07 value
unfolding constant_of
at_07 value = wide 0x07 2 value _ refl refl (omega arith)

at_08 : (value : List ℕ) → HasWidth 0x08 value
unfolding constant_of
at_08 value = wide 0x08 4 value _ refl refl (omega arith)

at_09 : (value : List ℕ) → HasWidth 0x09 value
unfolding constant_of
at_09 value = wide 0x09 4 value _ refl refl (omega arith)

at_0A : (value : List ℕ) → HasWidth 0x0A value
unfolding constant_of
at_0A value = wide 0x0A 8 value _ refl refl (omega arith)

at_0B : (value : List ℕ) → HasWidth 0x0B value
unfolding constant_of
at_0B value = wide 0x0B 8 value _ refl refl (omega arith)

at_0C : (value : List ℕ) → HasWidth 0x0C value
unfolding constant_of
at_0C value = wide 0x0C 4 value _ refl refl (omega arith)

at_0D : (value : List ℕ) → HasWidth 0x0D value
unfolding constant_of
at_0D value = wide 0x0D 8 value _ refl refl (omega arith)

at_0F : (value : List ℕ) → HasWidth 0x0F value
unfolding constant_of
at_0F value = none 0x0F value refl refl

at_10 : (value : List ℕ) → HasWidth 0x10 value
unfolding constant_of
at_10 value = none 0x10 value refl refl

at_11 : (value : List ℕ) → HasWidth 0x11 value
unfolding constant_of
at_11 value = none 0x11 value refl refl

at_12 : (value : List ℕ) → HasWidth 0x12 value
unfolding constant_of
at_12 value = wide 0x12 4 value _ refl refl (omega arith)

-- past the last element type there is none
past : (element : ℕ) (value : List ℕ) → 0x12 < element → constant_of element value ≡ None
unfolding constant_of
past element value far =
    rw (ne_eqb element 0x02 (λ e. absurd (omega arith))) (rw (ne_eqb element 0x03 (λ e. absurd (omega arith))) (rw (ne_eqb element 0x0C (λ e. absurd (omega arith)))
    (rw (ne_eqb element 0x0D (λ e. absurd (omega arith))) (rw (ne_eqb element 0x0E (λ e. absurd (omega arith))) (rw (ne_eqb element 0x12 (λ e. absurd (omega arith)))
    (rw (ne_eqb 0x04 element (λ e. absurd (omega arith))) (rw (ne_eqb 0x05 element (λ e. absurd (omega arith))) (rw (ne_eqb 0x06 element (λ e. absurd (omega arith)))
    (rw (ne_eqb 0x07 element (λ e. absurd (omega arith))) (rw (ne_eqb 0x08 element (λ e. absurd (omega arith))) (rw (ne_eqb 0x09 element (λ e. absurd (omega arith)))
    (rw (ne_eqb 0x0A element (λ e. absurd (omega arith))) (rw (ne_eqb 0x0B element (λ e. absurd (omega arith))) refl)))))))))))))

pub width_told : (element : ℕ) (value : List ℕ) → (element ≡ 0x0E → ⊥) → HasWidth element value
width_told element value n = elim (cases_lt 0x12 element) [
  | inl far ↦ none element value (past element value far) (get_or_past widths element 0 (omega arith))
  | inr near ↦ elim (cases_eq element 0x00) [
    | inl e ↦ subst (λ z. HasWidth z value) (sym e) (at_00 value)
    | inr n00 ↦ elim (cases_eq element 0x01) [
      | inl e ↦ subst (λ z. HasWidth z value) (sym e) (at_01 value)
      | inr n01 ↦ elim (cases_eq element 0x02) [
        | inl e ↦ subst (λ z. HasWidth z value) (sym e) (at_02 value)
        | inr n02 ↦ elim (cases_eq element 0x03) [
          | inl e ↦ subst (λ z. HasWidth z value) (sym e) (at_03 value)
          | inr n03 ↦ elim (cases_eq element 0x04) [
            | inl e ↦ subst (λ z. HasWidth z value) (sym e) (at_04 value)
            | inr n04 ↦ elim (cases_eq element 0x05) [
              | inl e ↦ subst (λ z. HasWidth z value) (sym e) (at_05 value)
              | inr n05 ↦ elim (cases_eq element 0x06) [
                | inl e ↦ subst (λ z. HasWidth z value) (sym e) (at_06 value)
                | inr n06 ↦ elim (cases_eq element 0x07) [
                  | inl e ↦ subst (λ z. HasWidth z value) (sym e) (at_07 value)
                  | inr n07 ↦ elim (cases_eq element 0x08) [
                    | inl e ↦ subst (λ z. HasWidth z value) (sym e) (at_08 value)
                    | inr n08 ↦ elim (cases_eq element 0x09) [
                      | inl e ↦ subst (λ z. HasWidth z value) (sym e) (at_09 value)
                      | inr n09 ↦ elim (cases_eq element 0x0A) [
                        | inl e ↦ subst (λ z. HasWidth z value) (sym e) (at_0A value)
                        | inr n0A ↦ elim (cases_eq element 0x0B) [
                          | inl e ↦ subst (λ z. HasWidth z value) (sym e) (at_0B value)
                          | inr n0B ↦ elim (cases_eq element 0x0C) [
                            | inl e ↦ subst (λ z. HasWidth z value) (sym e) (at_0C value)
                            | inr n0C ↦ elim (cases_eq element 0x0D) [
                              | inl e ↦ subst (λ z. HasWidth z value) (sym e) (at_0D value)
                              | inr n0D ↦ elim (cases_eq element 0x0F) [
                                | inl e ↦ subst (λ z. HasWidth z value) (sym e) (at_0F value)
                                | inr n0F ↦ elim (cases_eq element 0x10) [
                                  | inl e ↦ subst (λ z. HasWidth z value) (sym e) (at_10 value)
                                  | inr n10 ↦ elim (cases_eq element 0x11) [
                                    | inl e ↦ subst (λ z. HasWidth z value) (sym e) (at_11 value)
                                    | inr n11 ↦ elim (cases_eq element 0x12) [
                                      | inl e ↦ subst (λ z. HasWidth z value) (sym e) (at_12 value)
                                      | inr n12 ↦ absurd (n (omega arith))
                                    ]
                                  ]
                                ]
                              ]
                            ]
                          ]
                        ]
                      ]
                    ]
                  ]
                ]
              ]
            ]
          ]
        ]
      ]
    ]
  ]
]

-- ---- strings

units_whole : (value : List ℕ) → ((units : List ℕ) × (units_of value ≡ Some units)) ↔ (length value % 2 ≡ 0)
units_whole [] = (λ h. refl, λ e. ([], refl))
units_whole (low ∷ []) = (λ h. absurd (none-some h.0 h.1), λ e. absurd (omega arith))
units_whole (low ∷ high ∷ more) =
    let r = units_whole more in (
      λ h. let m = r.0 (mapped low high (units_of more) h.0 h.1) in omega arith,
      λ e. let m = r.1 (omega arith) in ((low + 256 * high) ∷ m.0, ap (option_map (λ units. (low + 256 * high) ∷ units)) m.1),
    ) where
      mapped : (low high : ℕ) (o : Option (List ℕ)) (units : List ℕ) → option_map (λ us. (low + 256 * high) ∷ us) o ≡ Some units → (us : List ℕ) × (o ≡ Some us)
      mapped low high None units e = absurd (none-some units e)
      mapped low high (Some us) units e = (us, refl)

string_is : (value : List ℕ) → constant_of 0x0E value ≡ option_map constant.Str (units_of value)
unfolding constant_of
string_is value = refl

string_made : (o : Option (List ℕ)) (c : Constant) → option_map constant.Str o ≡ Some c → (units : List ℕ) × (o ≡ Some units)
string_made None c e = absurd (none-some c e)
string_made (Some units) c e = (units, refl)

pub string_told : (element : ℕ) (value : List ℕ) → element ≡ 0x0E → ((c : Constant) × (constant_of element value ≡ Some c)) ↔ (length value % 2 ≡ 0)
string_told element value e =
    let u = units_whole value in
    let is : constant_of element value ≡ option_map constant.Str (units_of value) = ap (λ z. constant_of z value) e ∙ string_is value in (
      λ h. u.0 (string_made (units_of value) h.0 (sym is ∙ h.1)),
      λ w. let m = u.1 w in (constant.Str m.0, is ∙ ap (option_map constant.Str) m.1),
    )

-- ---- the constants of an owner

pub field_index : (row : ℕ) → index_of coded.HasConstant 0x04 row ≡ row * 4
unfolding tag_of
field_index row = omega arith

pub param_index : (row : ℕ) → index_of coded.HasConstant 0x08 row ≡ row * 4 + 1
unfolding tag_of
param_index row = refl

pub property_index : (row : ℕ) → index_of coded.HasConstant 0x17 row ≡ row * 4 + 2
unfolding tag_of
property_index row = refl

abbrev IsConstant : List ℕ → ℕ → Type 0
IsConstant image row = (c : Constant) × ConstantIs image row c

pub constants_told : (image : List ℕ) (table row first count : ℕ) → constants_of image table row ≡ range_with_len first count → AreConstants image first count ↔ HasConstants image table row
constants_told image table row first count rows =
    let long : length (constants_of image table row) ≡ count = ap length rows ∙ length-range_with_len first count in (
      λ h. record {
        one = let o = h.0 in omega arith;
        each = subst (All (IsConstant image)) (sym rows) (all_of first count h.0 h.1);
      },
      λ h. (let o = h.one in omega arith, λ one. subst (λ k. IsConstant image k) (get_or-range_with_len first count 0 0 (omega arith) ∙ omega arith) (subst (All (IsConstant image)) rows h.each 0 0 (let l = length-range_with_len first count in omega arith))),
    ) where
      all_of : (first count : ℕ) → count ≤ 1 → (count ≡ 1 → IsConstant image first) → All (IsConstant image) (range_with_len first count)
      all_of first zero few is k d less = absurd (omega arith)
      all_of first (suc n) few is k d less =
          let l = length-range_with_len first (suc n) in
          let z : k ≡ 0 = omega arith in
          subst (λ i. IsConstant image (get_or (range_with_len first (suc n)) i d)) (sym z) (is (omega arith))
