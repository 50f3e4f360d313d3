-- Constants are read as they were written.
use Rattle.std.proofs.Common.{◌≡◌, ap, refl, sym, ◌∙◌, subst, ℕ, suc, ◌+◌, ◌-◌, ◌*◌, ◌%◌, ◌^◌, ◌<◌, ◌≤◌, ◌&&◌, Bool, true, false, cond, ltb, ℤ, pos, negsuc, List, [], ◌∷◌, Option, Some, None, arith}
use Rattle.std.specs.Prelude.{int_le, nat_le, slice_index, option_map}
use Rattle.std.specs.Int.{bytes_low_first, byte_at, cast_unsigned, w128}
use Rattle.std.specs.List.{AllByRecursion, AllZip}
use Rattle.std.proofs.lemmas.Bool.{and_parts, lt-ltb, le-ltb, leb-true}
use Rattle.std.proofs.lemmas.List.{append-nil}
use Rattle.byteorder.specs.Endian.{little_number}
use Rattle.byteorder.specs.Numbers.{little_from-bytes, little_number-reads_back}
use Rattle.heaps.specs.Content.{HasBlob}
use Rattle.metadata_tables.specs.declared.coded.Coded.TheVariants.{HasConstant}
use Rattle.image_tokens.specs.Indexes.{index_of}
use Rattle.type_terms.specs.declared.term.Primitive.{Primitive}
use Rattle.type_terms.specs.declared.term.Primitive.TheVariants as prim
use Rattle.assembly_tree.specs.WellFormedMembers.{is_integer}
use Rattle.assembly_tree.specs.declared.members.Constant.{Constant}
use Rattle.assembly_tree.specs.declared.members.Constant.TheVariants as constant
use Rattle.image_tokens.specs.Units.{bytes_of_units}
use Rattle.image_tokens.specs.declared.references.References.{References}
use Rattle.image_members.specs.ConstantRows.{IsConstantRow, stated_constant}
use Rattle.image_members.specs.Constants.{element_of, value_of}
use Rattle.image_layout.specs.Laws.{ReadsHeaps}
use Rattle.image_model.specs.Constants.{constant_of}
use Rattle.image_model.specs.Members.{constants_of, ConstantIs}
use Rattle.image_model.specs.Reading.{IsGiven}
use Rattle.image_model.specs.Streams.{blobs_of}
use Rattle.image_model.specs.Units.{units_of}
use Rattle.laws_image_parts.specs.ConstantsRead.{HasRange, ConstantsAreRead}
use Rattle.laws_image_parts.specs.OwnedRows.{ConstantOf}
use Rattle.laws_image_parts.specs.RowCells.{constant_cells}

-- ---- numbers

-- a number is read from its bytes
bytes_back : (size n : ℕ) → n < 256 ^ size → little_number size (bytes_low_first 0 size n) ≡ n
bytes_back size n low = ap (little_number size) (sym (append-nil (bytes_low_first 0 size n))) ∙ little_number-reads_back size n [] low

unit_back : (u : ℕ) → u < 2 ^ 16 → byte_at 0 u + 256 * byte_at 1 u ≡ u
unit_back u low = omega arith

units_back : (units : List ℕ) → AllByRecursion (λ unit. unit < 2 ^ 16) units → units_of (bytes_of_units units) ≡ Some units
units_back [] h = refl
units_back (u ∷ units) h =
    ap (option_map (λ (us : List ℕ). (byte_at 0 u + 256 * byte_at 1 u) ∷ us)) (units_back units h.1) ∙ ap (λ n. Some (n ∷ units)) (unit_back u h.0)

char_back : (u : ℕ) → u < 2 ^ 16 → constant_of (element_of (constant.Char u)) (value_of (constant.Char u)) ≡ Some (constant.Char u)
unfolding constant_of element_of value_of
char_back u low = ap (λ n. Some (constant.Char n)) (bytes_back 2 u low)

real4_back : (bits : ℕ) → bits < 2 ^ 32 → constant_of (element_of (constant.Real4 bits)) (value_of (constant.Real4 bits)) ≡ Some (constant.Real4 bits)
unfolding constant_of element_of value_of
real4_back bits low = ap (λ n. Some (constant.Real4 n)) (bytes_back 4 bits low)

real8_back : (bits : ℕ) → bits < 2 ^ 64 → constant_of (element_of (constant.Real8 bits)) (value_of (constant.Real8 bits)) ≡ Some (constant.Real8 bits)
unfolding constant_of element_of value_of
real8_back bits low = ap (λ n. Some (constant.Real8 n)) (bytes_back 8 bits low)

text_back : (units : List ℕ) → AllByRecursion (λ unit. unit < 2 ^ 16) units → constant_of (element_of (constant.Str units)) (value_of (constant.Str units)) ≡ Some (constant.Str units)
unfolding constant_of element_of value_of
text_back units h = ap (option_map constant.Str) (units_back units h)

bool_back : (b : Bool) → constant_of (element_of (constant.Bool b)) (value_of (constant.Bool b)) ≡ Some (constant.Bool b)
unfolding constant_of element_of value_of
bool_back true = refl
bool_back false = refl

null_back : constant_of (element_of constant.Null) (value_of constant.Null) ≡ Some constant.Null
unfolding constant_of element_of value_of
null_back = refl

-- ---- integers

low_bytes : (k x : ℕ) → little_number k (bytes_low_first 0 k x) ≡ x % 256 ^ k
low_bytes k x =
    ap (little_number k) (sym (append-nil (bytes_low_first 0 k x))) ∙ little_from-bytes k 0 x [] ∙ ap (λ m. m % 256 ^ k) (omega arith)

pos_is : (v m H F : ℕ) → v ≡ m → m < H → cond (ltb v H) (pos v) (negsuc (F - 1 - v)) ≡ pos m
pos_is v m H F e low = ap (λ n. cond (ltb n H) (pos n) (negsuc (F - 1 - n))) e ∙ ap (λ b. cond b (pos m) (negsuc (F - 1 - m))) (lt-ltb m H low)

neg_is : (v m H F : ℕ) → v ≡ F - suc m → suc m ≤ H → F ≡ H + H → cond (ltb v H) (pos v) (negsuc (F - 1 - v)) ≡ negsuc m
neg_is v m H F e low f =
    let high : H ≤ v = omega arith in
    let back : F - 1 - v ≡ m = omega arith in
    ap (λ b. cond b (pos v) (negsuc (F - 1 - v))) (le-ltb v H high) ∙ ap negsuc back

module _ (k H F : ℕ) (half : F ≡ H + H) (whole : F ≡ 256 ^ k) where
  abbrev signed_number : ℕ → ℤ
  signed_number x = cond (ltb (little_number k (bytes_low_first 0 k x)) H) (pos (little_number k (bytes_low_first 0 k x))) (negsuc (F - 1 - little_number k (bytes_low_first 0 k x)))

  pos_back : (m : ℕ) → m < H → signed_number m ≡ pos m
  pos_back m low = pos_is (little_number k (bytes_low_first 0 k m)) m H F (bytes_back k m (omega arith)) low

  neg_back : (m x : ℕ) → x % F ≡ F - suc m → suc m ≤ H → signed_number x ≡ negsuc m
  neg_back m x e low =
      neg_is (little_number k (bytes_low_first 0 k x)) m H F (low_bytes k x ∙ ap (λ n. x % n) (sym whole) ∙ e) low half

at_most : (b : Bool) (m n : ℕ) → (b && nat_le m n) ≡ true → m ≤ n
at_most b m n e = leb-true m n (and_parts b (nat_le m n) e).1

at_least : (b : Bool) (m n : ℕ) → (nat_le m n && b) ≡ true → m ≤ n
at_least b m n e = leb-true m n (and_parts (nat_le m n) b e).0

i1_back : (n : ℤ) → is_integer prim.I1 n ≡ true → constant_of (element_of (constant.Int prim.I1 n)) (value_of (constant.Int prim.I1 n)) ≡ Some (constant.Int prim.I1 n)
unfolding constant_of element_of value_of
i1_back (pos m) h = let low = at_most (int_le (negsuc 0x7F) (pos m)) m 0x7F h in ap (λ z. Some (constant.Int prim.I1 z)) (pos_back 1 0x80 0x100 refl refl m (omega arith))
i1_back (negsuc m) h =
    let low = at_least (int_le (negsuc m) (pos 0x7F)) m 0x7F h in
    ap (λ z. Some (constant.Int prim.I1 z)) (neg_back 1 0x80 0x100 refl refl m (cast_unsigned w128 (negsuc m)) (omega arith) (omega arith))

i2_back : (n : ℤ) → is_integer prim.I2 n ≡ true → constant_of (element_of (constant.Int prim.I2 n)) (value_of (constant.Int prim.I2 n)) ≡ Some (constant.Int prim.I2 n)
unfolding constant_of element_of value_of
i2_back (pos m) h = let low = at_most (int_le (negsuc 0x7FFF) (pos m)) m 0x7FFF h in ap (λ z. Some (constant.Int prim.I2 z)) (pos_back 2 0x8000 0x10000 refl refl m (omega arith))
i2_back (negsuc m) h =
    let low = at_least (int_le (negsuc m) (pos 0x7FFF)) m 0x7FFF h in
    ap (λ z. Some (constant.Int prim.I2 z)) (neg_back 2 0x8000 0x10000 refl refl m (cast_unsigned w128 (negsuc m)) (omega arith) (omega arith))

i4_back : (n : ℤ) → is_integer prim.I4 n ≡ true → constant_of (element_of (constant.Int prim.I4 n)) (value_of (constant.Int prim.I4 n)) ≡ Some (constant.Int prim.I4 n)
unfolding constant_of element_of value_of
i4_back (pos m) h = let low = at_most (int_le (negsuc 0x7FFFFFFF) (pos m)) m 0x7FFFFFFF h in ap (λ z. Some (constant.Int prim.I4 z)) (pos_back 4 0x80000000 0x100000000 refl refl m (omega arith))
i4_back (negsuc m) h =
    let low = at_least (int_le (negsuc m) (pos 0x7FFFFFFF)) m 0x7FFFFFFF h in
    ap (λ z. Some (constant.Int prim.I4 z)) (neg_back 4 0x80000000 0x100000000 refl refl m (cast_unsigned w128 (negsuc m)) (omega arith) (omega arith))

i8_back : (n : ℤ) → is_integer prim.I8 n ≡ true → constant_of (element_of (constant.Int prim.I8 n)) (value_of (constant.Int prim.I8 n)) ≡ Some (constant.Int prim.I8 n)
unfolding constant_of element_of value_of
i8_back (pos m) h =
    let low = at_most (int_le (negsuc 0x7FFFFFFFFFFFFFFF) (pos m)) m 0x7FFFFFFFFFFFFFFF h in
    ap (λ z. Some (constant.Int prim.I8 z)) (pos_back 8 0x8000000000000000 0x10000000000000000 refl refl m (omega arith))
i8_back (negsuc m) h =
    let low = at_least (int_le (negsuc m) (pos 0x7FFFFFFFFFFFFFFF)) m 0x7FFFFFFFFFFFFFFF h in
    ap (λ z. Some (constant.Int prim.I8 z)) (neg_back 8 0x8000000000000000 0x10000000000000000 refl refl m (cast_unsigned w128 (negsuc m)) (omega arith) (omega arith))

u1_back : (n : ℤ) → is_integer prim.U1 n ≡ true → constant_of (element_of (constant.Int prim.U1 n)) (value_of (constant.Int prim.U1 n)) ≡ Some (constant.Int prim.U1 n)
unfolding constant_of element_of value_of
u1_back (pos m) h = let low = at_most (int_le (pos 0) (pos m)) m 0xFF h in ap (λ x. Some (constant.Int prim.U1 (pos x))) (bytes_back 1 m (omega arith))
u1_back (negsuc m) h = absurd cc

u2_back : (n : ℤ) → is_integer prim.U2 n ≡ true → constant_of (element_of (constant.Int prim.U2 n)) (value_of (constant.Int prim.U2 n)) ≡ Some (constant.Int prim.U2 n)
unfolding constant_of element_of value_of
u2_back (pos m) h = let low = at_most (int_le (pos 0) (pos m)) m 0xFFFF h in ap (λ x. Some (constant.Int prim.U2 (pos x))) (bytes_back 2 m (omega arith))
u2_back (negsuc m) h = absurd cc

u4_back : (n : ℤ) → is_integer prim.U4 n ≡ true → constant_of (element_of (constant.Int prim.U4 n)) (value_of (constant.Int prim.U4 n)) ≡ Some (constant.Int prim.U4 n)
unfolding constant_of element_of value_of
u4_back (pos m) h = let low = at_most (int_le (pos 0) (pos m)) m 0xFFFFFFFF h in ap (λ x. Some (constant.Int prim.U4 (pos x))) (bytes_back 4 m (omega arith))
u4_back (negsuc m) h = absurd cc

u8_back : (n : ℤ) → is_integer prim.U8 n ≡ true → constant_of (element_of (constant.Int prim.U8 n)) (value_of (constant.Int prim.U8 n)) ≡ Some (constant.Int prim.U8 n)
unfolding constant_of element_of value_of
u8_back (pos m) h = let low = at_most (int_le (pos 0) (pos m)) m 0xFFFFFFFFFFFFFFFF h in ap (λ x. Some (constant.Int prim.U8 (pos x))) (bytes_back 8 m (omega arith))
u8_back (negsuc m) h = absurd cc

integer_back : (of : Primitive) (n : ℤ) → is_integer of n ≡ true → constant_of (element_of (constant.Int of n)) (value_of (constant.Int of n)) ≡ Some (constant.Int of n)
integer_back prim.I1 n h = i1_back n h
integer_back prim.U1 n h = u1_back n h
integer_back prim.I2 n h = i2_back n h
integer_back prim.U2 n h = u2_back n h
integer_back prim.I4 n h = i4_back n h
integer_back prim.U4 n h = u4_back n h
integer_back prim.I8 n h = i8_back n h
integer_back prim.U8 n h = u8_back n h
integer_back prim.Void n h = absurd cc
integer_back prim.Bool n h = absurd cc
integer_back prim.Char n h = absurd cc
integer_back prim.R4 n h = absurd cc
integer_back prim.R8 n h = absurd cc
integer_back prim.Str n h = absurd cc
integer_back prim.Object n h = absurd cc
integer_back prim.TypedRef n h = absurd cc
integer_back prim.NInt n h = absurd cc
integer_back prim.NUint n h = absurd cc

-- ---- all constants

pub constant_back : (c : Constant) → HasRange c → constant_of (element_of c) (value_of c) ≡ Some c
constant_back (constant.Bool b) h = bool_back b
constant_back (constant.Char unit) h = char_back unit h
constant_back (constant.Int of n) h = integer_back of n h
constant_back (constant.Real4 bits) h = real4_back bits h
constant_back (constant.Real8 bits) h = real8_back bits h
constant_back (constant.Str units) h = text_back units h
constant_back constant.Null h = null_back

constant_given : (r : References) (image : List ℕ) (table row : ℕ) (c : Option Constant) → ReadsHeaps r image → AllByRecursion HasRange (stated_constant c)
    → ConstantOf r image table row (stated_constant c) → IsGiven (ConstantIs image) (constants_of image table row) c
constant_given r image table row c heaps range h = by_rows (constants_of image table row) c range h
  where
    by_rows : (rows : List ℕ) (o : Option Constant) → AllByRecursion HasRange (stated_constant o)
        → AllZip (λ k x. IsConstantRow r (constant_cells image k) (index_of HasConstant table row, x)) rows (stated_constant o) → IsGiven (ConstantIs image) rows o
    by_rows [] None range p = tt
    by_rows (k ∷ ks) None range p = absurd p
    by_rows [] (Some x) range p = absurd p
    by_rows (k ∷ ks) (Some x) range p =
        let at = ap (λ (cs : List ℕ). slice_index cs 3) p.0.are in
        let typed = ap (λ (cs : List ℕ). slice_index cs 0) p.0.are in (
          value_of x,
          subst (λ n. HasBlob (blobs_of image) n (value_of x)) (sym at) (heaps.blobs p.0.value (value_of x) p.0.value_is.there),
          ap (λ e. constant_of e (value_of x)) typed ∙ constant_back x range.0,
        )

-- both laws
pub constants_are_read : ConstantsAreRead
constants_are_read = record { back = constant_back; given = constant_given }
