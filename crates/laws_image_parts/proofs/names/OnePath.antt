-- A type has one path and a reference one.
use Rattle.std.proofs.Common.{◌≡◌, ℕ, List, [], ◌∷◌, ◌++◌, refl, sym, ◌∙◌, ap, subst, Option, None, Some, arith}
use Rattle.heaps.specs.Content.{HasText}
use Rattle.metadata_tables.specs.declared.coded.Coded.{Coded}
use Rattle.metadata_tables.specs.declared.coded.Coded.TheVariants.{ResolutionScope}
use Rattle.type_terms.specs.declared.name.Scope.{Scope}
use Rattle.type_terms.specs.declared.name.Scope.TheVariants.{Extern}
use Rattle.type_terms.specs.declared.name.TypeId.{TypeId}
use Rattle.image_model.specs.Rows.{Names}
use Rattle.image_model.specs.Streams.{strings_of}
use Rattle.image_model.specs.Naming.{HasId, HasRefId, HasPath, HasRefPath}

abbrev value_or : {X : Type 0} → X → Option X → X
value_or d None = d
value_or d (Some x) = x

pub one_value : {X : Type 0} (o : Option X) (x y : X) → o ≡ Some x → o ≡ Some y → x ≡ y
one_value o x y h k = ap (value_or x) (sym h ∙ k)

names_one : (kind : Coded) (value t r u s : ℕ) → Names kind value t r → Names kind value u s → (t ≡ u) × (r ≡ s)
names_one kind value t r u s h k =
    let e = one_value _ (t, r) (u, s) h k in
    (ap (λ p. p.0) e, ap (λ p. p.1) e)

module _ (image : List ℕ) (text : (index : ℕ) (a b : List ℕ) → HasText (strings_of image) index a → HasText (strings_of image) index b → a ≡ b) where
  id_one : (row : ℕ) (a b : TypeId) → HasId image row a → HasId image row b → a ≡ b
  id_one row a b h k =
      let s = text _ a.space b.space h.space k.space in
      let n = text _ a.name b.name h.name k.name in
      λ i. record { space = s i; name = n i }

  ref_id_one : (row : ℕ) (a b : TypeId) → HasRefId image row a → HasRefId image row b → a ≡ b
  ref_id_one row a b h k =
      let s = text _ a.space b.space h.space k.space in
      let n = text _ a.name b.name h.name k.name in
      λ i. record { space = s i; name = n i }

  pub path_one : {type : ℕ} {a b : List TypeId} → HasPath image type a → HasPath image type b → a ≡ b
  path_one (HasPath.top {type = t} {id = x} e h) (HasPath.top {id = y} f k) = ap (λ id. id ∷ []) (id_one t x y h k)
  path_one (HasPath.top e h) (HasPath.nested f some p k s) = absurd (omega arith)
  path_one (HasPath.nested f some p k s) (HasPath.top e h) = absurd (omega arith)
  path_one (HasPath.nested {type = t} {outer = o} {id = x} {before = u} e m p h s) (HasPath.nested {outer = v} {id = y} {before = w} f n q k r) =
      let same : v ≡ o = sym f ∙ e in
      let front = path_one p (subst (λ z. HasPath image z w) same q) in
      let last = id_one t x y h k in
      s ∙ (λ i. front i ++ last i ∷ []) ∙ sym r

  pub ref_path_one : {row : ℕ} {a b : Scope} {p q : List TypeId} → HasRefPath image row a p → HasRefPath image row b q → (a ≡ b) × (p ≡ q)
  ref_path_one (HasRefPath.in_module {row = t} {m = m} {id = x} e h) (HasRefPath.in_module {id = y} f k) = (refl, ap (λ id. id ∷ []) (ref_id_one t x y h k))
  ref_path_one (HasRefPath.in_module {row = t} {m = m} e h) (HasRefPath.in_assembly {assembly = a} f g k) = absurd (omega (arith, (names_one ResolutionScope _ 0x00 m 0x23 a e f).0))
  ref_path_one (HasRefPath.in_module {row = t} {m = m} e h) (HasRefPath.in_type {outer = o} f q k r) = absurd (omega (arith, (names_one ResolutionScope _ 0x00 m 0x01 o e f).0))
  ref_path_one (HasRefPath.in_assembly {assembly = a} e g h) (HasRefPath.in_module {m = m} f k) = absurd (omega (arith, (names_one ResolutionScope _ 0x23 a 0x00 m e f).0))
  ref_path_one (HasRefPath.in_assembly {row = t} {assembly = a} {k = j} {id = x} e g h) (HasRefPath.in_assembly {assembly = b} {k = k} {id = y} f d l) =
      let same = (names_one ResolutionScope _ 0x23 a 0x23 b e f).1 in
      let number : j ≡ k = omega arith in
      (ap Extern number, ap (λ id. id ∷ []) (ref_id_one t x y h l))
  ref_path_one (HasRefPath.in_assembly {assembly = a} e g h) (HasRefPath.in_type {outer = o} f q k r) = absurd (omega (arith, (names_one ResolutionScope _ 0x23 a 0x01 o e f).0))
  ref_path_one (HasRefPath.in_type {outer = o} e p h s) (HasRefPath.in_module {m = m} f k) = absurd (omega (arith, (names_one ResolutionScope _ 0x01 o 0x00 m e f).0))
  ref_path_one (HasRefPath.in_type {outer = o} e p h s) (HasRefPath.in_assembly {assembly = a} f g k) = absurd (omega (arith, (names_one ResolutionScope _ 0x01 o 0x23 a e f).0))
  ref_path_one (HasRefPath.in_type {row = t} {outer = o} {id = x} {before = u} e p h s) (HasRefPath.in_type {outer = v} {scope = c} {id = y} {before = w} f q k r) =
      let same = (names_one ResolutionScope _ 0x01 v 0x01 o f e).1 in
      let front = ref_path_one p (subst (λ z. HasRefPath image z c w) same q) in
      let paths = front.1 in
      let last = ref_id_one t x y h k in
      (front.0, s ∙ (λ i. paths i ++ last i ∷ []) ∙ sym r)
