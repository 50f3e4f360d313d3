-- The size of a type's values in data, by what decides it.
use Rattle.std.proofs.Common.{◌≡◌, ℕ, ◌<◌, List, Option, Some, refl, subst, arith}
use Rattle.std.specs.Prelude.{◌↔◌}
use Rattle.type_terms.specs.declared.name.TypeName.{TypeName}
use Rattle.type_terms.specs.declared.term.Owner.{Owner}
use Rattle.type_terms.specs.declared.term.Owner.TheVariants as owner
use Rattle.type_terms.specs.declared.term.Primitive.{Primitive}
use Rattle.type_terms.specs.declared.term.Primitive.TheVariants as prim
use Rattle.type_terms.specs.declared.term.SigType.{SigType}
use Rattle.assembly_tree.specs.DataSize.{primitive_size}
use Rattle.image_model.specs.Members.{HasDataSize}
use Rattle.sig_codec.proofs.Numbers.{some_is}
use Rattle.field_data.specs.declared.kinds.DataKind.TheVariants as kind
use Rattle.field_data.specs.Kinds.{IsOfKind, HasClassSize}
use Rattle.data_demands.specs.Measured.{IsOneCalled, IsSize}

-- ---- sizes are above 0

width : (n size : ℕ) → 0 < n → Some n ≡ Some size → 0 < size
width n size some e = let same = some_is n size e in omega arith

width_some : (p : Primitive) (size : ℕ) → primitive_size p ≡ Some size → 0 < size
width_some prim.Bool size e = width 1 size (omega arith) e
width_some prim.I1 size e = width 1 size (omega arith) e
width_some prim.U1 size e = width 1 size (omega arith) e
width_some prim.Char size e = width 2 size (omega arith) e
width_some prim.I2 size e = width 2 size (omega arith) e
width_some prim.U2 size e = width 2 size (omega arith) e
width_some prim.I4 size e = width 4 size (omega arith) e
width_some prim.U4 size e = width 4 size (omega arith) e
width_some prim.R4 size e = width 4 size (omega arith) e
width_some prim.I8 size e = width 8 size (omega arith) e
width_some prim.U8 size e = width 8 size (omega arith) e
width_some prim.R8 size e = width 8 size (omega arith) e
width_some prim.Void size e = absurd cc
width_some prim.Str size e = absurd cc
width_some prim.Object size e = absurd cc
width_some prim.TypedRef size e = absurd cc
width_some prim.NInt size e = absurd cc
width_some prim.NUint size e = absurd cc

pub size_some : {image : List ℕ} {t : SigType} {size : ℕ} → HasDataSize image t size → 0 < size
size_some (HasDataSize.primitive {p = p} {size = size} o e) = width_some p size e
size_some (HasDataSize.value o there named has is some) = some
size_some (HasDataSize.modified o h) = size_some h

-- ---- by kinds

module _ (image : List ℕ) (owners : ℕ → Option Owner) (t : SigType) where
  pub of_width : (bytes : ℕ) → IsOfKind image owners t (kind.Bytes bytes) → IsSize image t bytes
  of_width bytes is size = (λ h. ((is size).0 h, size_some h), λ s. (is size).1 s.0)

  pub of_none : IsOfKind image owners t kind.Sizeless → IsSize image t 0
  of_none is size = (λ h. absurd (is size h), λ s. let zero = s.0 in let some = s.1 in absurd (omega arith))

  -- by the one type with the name, and its one class size
  pub of_layout : (token row found : ℕ) → IsOfKind image owners t (kind.Value token) → ((name : TypeName) → owners token ≡ Some (owner.Name name) → IsOneCalled image name row)
      → ((size : ℕ) → ((0 < row) × HasClassSize image row size) ↔ ((size ≡ found) × (0 < size))) → IsSize image t found
  of_layout token row found is one sized size = (
    λ h.
        let l = (is.2 size).0 h in
        let c = (one is.0 is.1 l.type).0 (record { path = l.path; is = l.is; there = l.there; named = l.named }) in
        (sized size).0 (subst (λ (r : ℕ). 0 < r) c.0 c.1, subst (λ (r : ℕ). HasClassSize image r size) c.0 (l.layout, l.has, l.size_is, l.some)),
    λ s.
        let r = (sized size).1 s in
        let c = (one is.0 is.1 row).1 (refl, r.0) in
        (is.2 size).1 (record { path = c.path; type = row; layout = r.1.0; is = c.is; there = c.there; named = c.named; has = r.1.1; size_is = r.1.2; some = r.1.3 }),
  )
