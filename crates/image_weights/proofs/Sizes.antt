-- A type has one size in data, where no two types have one path and each has one layout.
use Rattle.std.proofs.Common.{◌≡◌, ℕ, zero, suc, ◌<◌, ◌≤◌, ◌⊎◌, inl, inr, List, [], ◌∷◌, Contains, length, slice_index_or, Some, sym, ◌∙◌, ap, subst, arith}
use Rattle.type_terms.specs.Order.{place}
use Rattle.type_terms.specs.declared.name.Scope.TheVariants.{Here}
use Rattle.type_terms.specs.declared.name.TypeId.{TypeId}
use Rattle.type_terms.specs.declared.name.TypeName.{TypeName}
use Rattle.type_terms.specs.declared.term.Primitive.{Primitive}
use Rattle.type_terms.specs.declared.term.Owner.{Owner}
use Rattle.type_terms.specs.declared.term.Owner.TheOpen.{SigType-F, Prim, Value, Mod}
use Rattle.type_terms.specs.declared.term.SigType.{SigType}
use Rattle.assembly_tree.specs.DataSize.{primitive_size}
use Rattle.image_model.specs.Columns.{layout_size}
use Rattle.image_model.specs.Rows.{HasRow}
use Rattle.image_model.specs.Naming.{HasPath}
use Rattle.image_model.specs.Members.{HaveOnePath, layouts_of, HasDataSize}
use Rattle.image_namings.proofs.General.{some_one}

abbrev Layer : Type 0
Layer = SigType-F Owner SigType

abbrev prim_or : Primitive → Layer → Primitive
prim_or d (Prim p) = p
prim_or d l = d

abbrev name_or : TypeName → Layer → TypeName
name_or d (Value n) = n
name_or d l = d

abbrev of_or : SigType → Layer → SigType
of_or d (Mod required by of) = of
of_or d l = d

first_of : (x : ℕ) (a k : ℕ) → k < length (x ∷ []) → slice_index_or (x ∷ []) k a ≡ a → x ≡ a
first_of x a zero lt e = e
first_of x a (suc k) lt e = absurd (omega arith)

-- a list of one has one member
only_one : (xs : List ℕ) (a b : ℕ) → length xs ≤ 1 → Contains xs a → Contains xs b → a ≡ b
only_one [] a b few h k = absurd (omega (arith, h.1))
only_one (x ∷ []) a b few h k = sym (first_of x a h.0 h.1 h.2) ∙ first_of x b k.0 k.1 k.2
only_one (x ∷ y ∷ xs) a b few h k = absurd (omega arith)

compare : (m n : ℕ) → (m < n) ⊎ ((n < m) ⊎ (m ≡ n))
compare m n = grind arith

module _ (image : List ℕ) (distinct : (early late : ℕ) → 0 < early → early < late → HasRow image 0x02 late → HaveOnePath image early late → ⊥) (one_layout : (type : ℕ) → HasRow image 0x02 type → length (layouts_of image type) ≤ 1) where
  types_one : (a b : ℕ) (p q : List TypeId) → p ≡ q → HasRow image 0x02 a → HasRow image 0x02 b → HasPath image a p → HasPath image b q → a ≡ b
  types_one a b p q e ra rb h k =
      let there : HasPath image b p = subst (HasPath image b) (sym e) k in
      elim (compare a b) [
        | inl lt ↦ absurd (distinct a b ra.0 lt rb (p, h, there))
        | inr (inl gt) ↦ absurd (distinct b a rb.0 gt ra (p, there, h))
        | inr (inr f) ↦ f
      ]

  pub size_one : {t : SigType} {m n : ℕ} → HasDataSize image t m → HasDataSize image t n → m ≡ n
  size_one (HasDataSize.primitive {p = p} {size = m} e h) (HasDataSize.primitive {p = q} {size = n} f k) =
      some_one (primitive_size q) m n (subst (λ x. primitive_size x ≡ Some m) (ap (prim_or p) (sym e ∙ f)) h) k
  size_one (HasDataSize.primitive e h) (HasDataSize.value f row path has is some) = absurd (omega (arith, ap place (sym e ∙ f)))
  size_one (HasDataSize.primitive e h) (HasDataSize.modified f k) = absurd (omega (arith, ap place (sym e ∙ f)))
  size_one (HasDataSize.value e row path has is some) (HasDataSize.primitive f k) = absurd (omega (arith, ap place (sym e ∙ f)))
  size_one (HasDataSize.value {path = p} {type = a} {layout = l} {size = m} e ra h has is some) (HasDataSize.value {path = q} {type = b} {layout = u} {size = n} f rb k have are more) =
      let same = types_one a b p q (ap (λ x. x.path) (ap (name_or (record { scope = Here; path = p })) (sym e ∙ f))) ra rb h k in
      let layouts = only_one (layouts_of image b) l u (one_layout b rb) (subst (λ x. Contains (layouts_of image x) l) same has) have in
      sym is ∙ ap (layout_size image) layouts ∙ are
  size_one (HasDataSize.value e row path has is some) (HasDataSize.modified f k) = absurd (omega (arith, ap place (sym e ∙ f)))
  size_one (HasDataSize.modified e h) (HasDataSize.primitive f k) = absurd (omega (arith, ap place (sym e ∙ f)))
  size_one (HasDataSize.modified e h) (HasDataSize.value f row path has is some) = absurd (omega (arith, ap place (sym e ∙ f)))
  size_one (HasDataSize.modified {of = s} e h) (HasDataSize.modified {of = u} {size = n} f k) =
      size_one h (subst (λ x. HasDataSize image x n) (ap (of_or s) (sym f ∙ e)) k)
