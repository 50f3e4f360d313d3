-- The index of the body of a row of MethodImpl (II.22.27, II.24.2.6).
use Rattle.std.proofs.Common.{◌≡◌, ℕ, ◌+◌, ◌*◌, Option, Some, None, sym, ◌∙◌, ap, arith}
use Rattle.metadata_tables.specs.CodedIndex.{packed, unpacked, tag_of}
use Rattle.metadata_tables.specs.declared.coded.Coded.TheVariants.{MethodDefOrRef}

abbrev value_or : {X : Type 0} → X → Option X → X
value_or d None = d
value_or d (Some x) = x

some_same : {X : Type 0} (x y : X) → Some x ≡ Some y → x ≡ y
some_same x y s = ap (value_or x) s

abbrev pair : ℕ → ℕ → ℕ × ℕ
pair a b = (a, b)

packed_is : (method : ℕ) → packed MethodDefOrRef 0x06 method ≡ Some (method * 2)
unfolding tag_of
packed_is method = let e : method * 2 + 0 ≡ method * 2 = omega arith in ap Some e

-- the index of a method is twice its row
pub own_body : (value method table row : ℕ) → unpacked MethodDefOrRef value ≡ Some (0x06, method) → unpacked MethodDefOrRef value ≡ Some (table, row) → packed MethodDefOrRef table row ≡ Some value → value ≡ row * 2
own_body value method table row own u back =
    let e = some_same (pair 0x06 method) (pair table row) (sym own ∙ u) in
    let t : 0x06 ≡ table = ap (λ (p : ℕ × ℕ). p.0) e in
    some_same value (row * 2) (sym back ∙ ap (λ (t : ℕ). packed MethodDefOrRef t row) (sym t) ∙ packed_is row)
