-- The constants of a faultless source are well formed (ECMA-335 II.16.2, II.22.9).
use Rattle.std.proofs.Common.{◌≡◌, ℕ, suc, ◌+◌, ◌-◌, ◌<◌, ◌≤◌, ◌^◌, inl, inr, None, Some, refl, ap, ◌∙◌, arith, nat_lt}
use Rattle.std.specs.Prelude.{Bool, true, false, ◌&&◌, ◌||◌, if◌then◌else◌, ℤ, pos, negsuc, int_le, ◌-ℤ◌}
use Rattle.std.proofs.lemmas.Bool.{cases_Bool, ltb-true, ltb-false}
use Rattle.std.proofs.lemmas.Int.{ints}
use Rattle.std.proofs.lemmas.Nat.{mod_below}
use Rattle.type_terms.specs.declared.term.Primitive.{Primitive}
use Rattle.type_terms.specs.declared.term.Primitive.TheVariants as prim
use Rattle.assembly_tree.specs.declared.members.Constant.{Constant}
use Rattle.assembly_tree.specs.declared.members.Constant.TheVariants as constant
use Rattle.assembly_tree.specs.WellFormedMembers.{is_constant, is_integer}
use Rattle.assembly_tree.specs.WellFormedNames.{option_all}
use Rattle.ilasm_grammar.specs.declared.productions.TheConstants.{CONST_BOOL, CONST_BYTES, CONST_CHAR, CONST_FLOAT32, CONST_FLOAT64, CONST_INT_TYPE, CONST_TEXT, EQ_CONST, INT_TYPE_INT16, INT_TYPE_INT32, INT_TYPE_INT64, INT_TYPE_INT8, INT_TYPE_UINT16, INT_TYPE_UINT32, INT_TYPE_UINT8, TEXT, TRUTH_TRUE, UNSIGNED_INT_INT16, UNSIGNED_INT_INT32, UNSIGNED_INT_INT8}
use Rattle.source_model.specs.Constants.{const_token, constant_in, constant_of, integer_of, units_in, wrapped}
use Rattle.source_model.specs.Forest.{Forest, has, leaf_at, the}
use Rattle.source_model.specs.Shapes.{natural}
use Rattle.source_model.specs.Source.{Source}
use Rattle.source_model.specs.Types.{int_type}
use Rattle.source_model.specs.Values.{array_bytes, int_at, units_of_bytes}

-- ---- numbers in the width of their type

wrapped_below : (k : ℕ) (z : ℤ) → 0 < 2 ^ k → wrapped k z < 2 ^ k
wrapped_below k (pos m) some = mod_below m (2 ^ k) some
wrapped_below k (negsuc m) some = omega (arith, some)

unsigned : (m high : ℕ) → m < suc high → (int_le (pos 0) (pos m) && int_le (pos m) (pos high)) ≡ true
unsigned m high h = grind (arith, ints)

signed : (half m : ℕ) → m < half + half → 0 < half
    → (int_le (negsuc (half - 1)) (if nat_lt m half then pos m else pos m -ℤ pos (half + half)) && int_le (if nat_lt m half then pos m else pos m -ℤ pos (half + half)) (pos (half - 1))) ≡ true
signed half m h some = elim (cases_Bool (nat_lt m half)) [
  | inl low ↦
      ap (λ (c : Bool). int_le (negsuc (half - 1)) (if c then pos m else pos m -ℤ pos (half + half)) && int_le (if c then pos m else pos m -ℤ pos (half + half)) (pos (half - 1))) low
      ∙ front (ltb-true m half low)
  | inr high ↦
      ap (λ (c : Bool). int_le (negsuc (half - 1)) (if c then pos m else pos m -ℤ pos (half + half)) && int_le (if c then pos m else pos m -ℤ pos (half + half)) (pos (half - 1))) high
      ∙ back (ltb-false m half high)
]
  where
    front : m < half → (int_le (negsuc (half - 1)) (pos m) && int_le (pos m) (pos (half - 1))) ≡ true
    front low = grind (arith, ints)

    back : half ≤ m → (int_le (negsuc (half - 1)) (pos m -ℤ pos (half + half)) && int_le (pos m -ℤ pos (half + half)) (pos (half - 1))) ≡ true
    back high = grind (arith, ints)

module _ (z : ℤ) where
  abbrev Fits : Primitive → Type 0
  Fits p = is_integer p (integer_of p z) ≡ true

  i1 : Fits prim.I1
  i1 = signed 0x80 (wrapped 8 z) (wrapped_below 8 z (omega arith)) (omega arith)

  u1 : Fits prim.U1
  u1 = unsigned (wrapped 8 z) 0xFF (wrapped_below 8 z (omega arith))

  i2 : Fits prim.I2
  i2 = signed 0x8000 (wrapped 16 z) (wrapped_below 16 z (omega arith)) (omega arith)

  u2 : Fits prim.U2
  u2 = unsigned (wrapped 16 z) 0xFFFF (wrapped_below 16 z (omega arith))

  i4 : Fits prim.I4
  i4 = signed 0x80000000 (wrapped 32 z) (wrapped_below 32 z (omega arith)) (omega arith)

  u4 : Fits prim.U4
  u4 = unsigned (wrapped 32 z) 0xFFFFFFFF (wrapped_below 32 z (omega arith))

  i8 : Fits prim.I8
  i8 = signed 0x8000000000000000 (wrapped 64 z) (wrapped_below 64 z (omega arith)) (omega arith)

  u8 : Fits prim.U8
  u8 = unsigned (wrapped 64 z) 0xFFFFFFFFFFFFFFFF (wrapped_below 64 z (omega arith))

  either : (c : Bool) (x y : Primitive) → Fits x → Fits y → Fits (if c then x else y)
  either true x y h i = h
  either false x y h i = i

  integer_fits : (f : Forest) → Fits (int_type f)
  integer_fits f =
      let p6 : Primitive = if has INT_TYPE_UINT32 f || has UNSIGNED_INT_INT32 f then prim.U4 else prim.U8 in
      let p5 : Primitive = if has INT_TYPE_UINT16 f || has UNSIGNED_INT_INT16 f then prim.U2 else p6 in
      let p4 : Primitive = if has INT_TYPE_UINT8 f || has UNSIGNED_INT_INT8 f then prim.U1 else p5 in
      let p3 : Primitive = if has INT_TYPE_INT64 f then prim.I8 else p4 in
      let p2 : Primitive = if has INT_TYPE_INT32 f then prim.I4 else p3 in
      let p1 : Primitive = if has INT_TYPE_INT16 f then prim.I2 else p2 in
      either (has INT_TYPE_INT8 f) prim.I1 p1 i1 (either (has INT_TYPE_INT16 f) prim.I2 p2 i2 (either (has INT_TYPE_INT32 f) prim.I4 p3 i4 (either (has INT_TYPE_INT64 f) prim.I8 p4 i8
      (either (has INT_TYPE_UINT8 f || has UNSIGNED_INT_INT8 f) prim.U1 p5 u1 (either (has INT_TYPE_UINT16 f || has UNSIGNED_INT_INT16 f) prim.U2 p6 u2
      (either (has INT_TYPE_UINT32 f || has UNSIGNED_INT_INT32 f) prim.U4 prim.U8 u4 u8))))))

-- ---- constants

chosen : (c : Bool) (x y : Constant) → is_constant x ≡ true → is_constant y ≡ true → is_constant (if c then x else y) ≡ true
chosen true x y h i = h
chosen false x y h i = i

module _ (s : Source) (f : Forest) where
  abbrev v6 : Constant
  v6 = if has CONST_BYTES f then constant.Str (units_of_bytes (array_bytes s (leaf_at 0 (the CONST_BYTES f)))) else constant.Null

  abbrev v5 : Constant
  v5 = if has CONST_TEXT f then constant.Str (units_in s (the TEXT f)) else v6

  abbrev v4 : Constant
  v4 = if has CONST_BOOL f then constant.Bool (has TRUTH_TRUE f) else v5

  abbrev v3 : Constant
  v3 = if has CONST_CHAR f then constant.Char (natural (int_at s (const_token (the CONST_CHAR f)))) else v4

  abbrev v2 : Constant
  v2 = if has CONST_FLOAT64 f then constant.Real8 (wrapped 64 (int_at s (const_token (the CONST_FLOAT64 f)))) else v3

  abbrev v1 : Constant
  v1 = if has CONST_FLOAT32 f then constant.Real4 (wrapped 32 (int_at s (const_token (the CONST_FLOAT32 f)))) else v2

  pub constant_formed : is_constant (constant_in s f) ≡ true
  constant_formed =
      let z = int_at s (const_token (the CONST_INT_TYPE f)) in
      let c6 = chosen (has CONST_BYTES f) (constant.Str (units_of_bytes (array_bytes s (leaf_at 0 (the CONST_BYTES f))))) constant.Null refl refl in
      let c5 = chosen (has CONST_TEXT f) (constant.Str (units_in s (the TEXT f))) v6 refl c6 in
      let c4 = chosen (has CONST_BOOL f) (constant.Bool (has TRUTH_TRUE f)) v5 refl c5 in
      let c3 = chosen (has CONST_CHAR f) (constant.Char (natural (int_at s (const_token (the CONST_CHAR f))))) v4 refl c4 in
      let c2 = chosen (has CONST_FLOAT64 f) (constant.Real8 (wrapped 64 (int_at s (const_token (the CONST_FLOAT64 f))))) v3 refl c3 in
      let c1 = chosen (has CONST_FLOAT32 f) (constant.Real4 (wrapped 32 (int_at s (const_token (the CONST_FLOAT32 f))))) v2 refl c2 in
      chosen (has CONST_INT_TYPE f) (constant.Int (int_type (the CONST_INT_TYPE f)) (integer_of (int_type (the CONST_INT_TYPE f)) z)) v1 (integer_fits z (the CONST_INT_TYPE f)) c1

pub constant_of_formed : (s : Source) (f : Forest) → option_all is_constant (constant_of s f) ≡ true
constant_of_formed s f = elim (cases_Bool (has EQ_CONST f)) [
  | inl some ↦ ap (λ (c : Bool). option_all is_constant (if c then Some (constant_in s (the EQ_CONST f)) else None)) some ∙ constant_formed s (the EQ_CONST f)
  | inr none_there ↦ ap (λ (c : Bool). option_all is_constant (if c then Some (constant_in s (the EQ_CONST f)) else None)) none_there
]
