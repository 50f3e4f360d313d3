-- A number that an integer type holds is that number in its width.
use Rattle.std.proofs.Common.{◌≡◌, ℕ, suc, ◌+◌, ◌-◌, ◌^◌, ◌<◌, ◌≤◌, nat_lt, Bool, true, false, if◌then◌else◌, ℤ, pos, negsuc, ◌-ℤ◌, refl, ap, ◌∙◌, arith}
use Rattle.std.proofs.Math.Nat.{mod-eq_of_lt}
use Rattle.std.proofs.lemmas.Bool.{false≢true}
use Rattle.std.proofs.lemmas.Int.{ints}
use lib.Signed.{mag}
use Rattle.type_terms.specs.declared.term.Primitive.{Primitive}
use Rattle.type_terms.specs.declared.term.Primitive.TheVariants as prim
use Rattle.assembly_tree.specs.WellFormedMembers.{is_integer}
use Rattle.source_model.specs.Constants.{wrapped, signed_of, signed_wrapped, integer_of}

below_test : (m k : ℕ) → m < k → nat_lt m k ≡ true
below_test m k h = grind (arith, h)

above_test : (m k : ℕ) → k ≤ m → nat_lt m k ≡ false
above_test m k h = grind (arith, h)

-- ---- signed numbers

positive : (width m : ℕ) → m < 2 ^ (width - 1) → 2 ^ (width - 1) ≤ 2 ^ width → signed_wrapped width (pos m) ≡ pos m
positive width m h w =
    let low : m < 2 ^ width = omega arith in
    ap (signed_of width) (mod-eq_of_lt low) ∙ ap (λ c. if c then pos m else pos m -ℤ pos (2 ^ width)) (below_test m (2 ^ (width - 1)) h)

less : (k m : ℕ) → suc m ≤ k → pos ((k - 1) - m) -ℤ pos k ≡ negsuc m
less k m h = omega (arith, ints, h)

negative : (width m : ℕ) → suc m ≤ 2 ^ (width - 1) → 2 ^ (width - 1) + 2 ^ (width - 1) ≡ 2 ^ width → signed_wrapped width (negsuc m) ≡ negsuc m
negative width m h w =
    let low : m < 2 ^ width = omega arith in
    let most : 2 ^ (width - 1) ≤ (2 ^ width - 1) - m = omega arith in
    let all : suc m ≤ 2 ^ width = omega arith in
    ap (λ k. signed_of width ((2 ^ width - 1) - k)) (mod-eq_of_lt low)
    ∙ (ap (λ c. if c then pos ((2 ^ width - 1) - m) else pos ((2 ^ width - 1) - m) -ℤ pos (2 ^ width)) (above_test ((2 ^ width - 1) - m) (2 ^ (width - 1)) most)
    ∙ less (2 ^ width) m all)

-- ---- each type

i8 : (n : ℤ) → is_integer prim.I1 n ≡ true → signed_wrapped 8 n ≡ n
i8 (pos m) h = positive 8 m (grind (arith, h)) (omega arith)
i8 (negsuc m) h = negative 8 m (grind (arith, h)) refl

i16 : (n : ℤ) → is_integer prim.I2 n ≡ true → signed_wrapped 16 n ≡ n
i16 (pos m) h = positive 16 m (grind (arith, h)) (omega arith)
i16 (negsuc m) h = negative 16 m (grind (arith, h)) refl

pub i32 : (n : ℤ) → is_integer prim.I4 n ≡ true → signed_wrapped 32 n ≡ n
i32 (pos m) h = positive 32 m (grind (arith, h)) (omega arith)
i32 (negsuc m) h = negative 32 m (grind (arith, h)) refl

pub i64 : (n : ℤ) → is_integer prim.I8 n ≡ true → signed_wrapped 64 n ≡ n
i64 (pos m) h = positive 64 m (grind (arith, h)) (omega arith)
i64 (negsuc m) h = negative 64 m (grind (arith, h)) refl

u8 : (n : ℤ) → is_integer prim.U1 n ≡ true → pos (wrapped 8 n) ≡ n
u8 (pos m) h = let low : m < 2 ^ 8 = grind (arith, h) in ap (λ k. pos k) (mod-eq_of_lt low)
u8 (negsuc m) h = absurd (grind (arith, h))

u16 : (n : ℤ) → is_integer prim.U2 n ≡ true → pos (wrapped 16 n) ≡ n
u16 (pos m) h = let low : m < 2 ^ 16 = grind (arith, h) in ap (λ k. pos k) (mod-eq_of_lt low)
u16 (negsuc m) h = absurd (grind (arith, h))

u32 : (n : ℤ) → is_integer prim.U4 n ≡ true → pos (wrapped 32 n) ≡ n
u32 (pos m) h = let low : m < 2 ^ 32 = grind (arith, h) in ap (λ k. pos k) (mod-eq_of_lt low)
u32 (negsuc m) h = absurd (grind (arith, h))

u64 : (n : ℤ) → is_integer prim.U8 n ≡ true → pos (wrapped 64 n) ≡ n
u64 (pos m) h = let low : m < 2 ^ 64 = grind (arith, h) in ap (λ k. pos k) (mod-eq_of_lt low)
u64 (negsuc m) h = absurd (grind (arith, h))

pub integer_is : (of : Primitive) (n : ℤ) → is_integer of n ≡ true → integer_of of n ≡ n
integer_is prim.I1 n h = i8 n h
integer_is prim.U1 n h = u8 n h
integer_is prim.I2 n h = i16 n h
integer_is prim.U2 n h = u16 n h
integer_is prim.I4 n h = i32 n h
integer_is prim.U4 n h = u32 n h
integer_is prim.I8 n h = i64 n h
integer_is prim.U8 n h = u64 n h
integer_is prim.Void n h = absurd (false≢true h)
integer_is prim.Bool n h = absurd (false≢true h)
integer_is prim.Char n h = absurd (false≢true h)
integer_is prim.R4 n h = absurd (false≢true h)
integer_is prim.R8 n h = absurd (false≢true h)
integer_is prim.Str n h = absurd (false≢true h)
integer_is prim.Object n h = absurd (false≢true h)
integer_is prim.TypedRef n h = absurd (false≢true h)
integer_is prim.NInt n h = absurd (false≢true h)
integer_is prim.NUint n h = absurd (false≢true h)

pub small_integer : (of : Primitive) (n : ℤ) → is_integer of n ≡ true → mag n < 2 ^ 127
small_integer prim.I1 n h = grind (arith, h)
small_integer prim.U1 n h = grind (arith, h)
small_integer prim.I2 n h = grind (arith, h)
small_integer prim.U2 n h = grind (arith, h)
small_integer prim.I4 n h = grind (arith, h)
small_integer prim.U4 n h = grind (arith, h)
small_integer prim.I8 n h = grind (arith, h)
small_integer prim.U8 n h = grind (arith, h)
small_integer prim.Void n h = absurd (false≢true h)
small_integer prim.Bool n h = absurd (false≢true h)
small_integer prim.Char n h = absurd (false≢true h)
small_integer prim.R4 n h = absurd (false≢true h)
small_integer prim.R8 n h = absurd (false≢true h)
small_integer prim.Str n h = absurd (false≢true h)
small_integer prim.Object n h = absurd (false≢true h)
small_integer prim.TypedRef n h = absurd (false≢true h)
small_integer prim.NInt n h = absurd (false≢true h)
small_integer prim.NUint n h = absurd (false≢true h)
