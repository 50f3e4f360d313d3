-- A type has one path and a reference one, and a row of either is one owner.
use Rattle.std.proofs.Common.{◌≡◌, ℕ, List, [], ◌∷◌, ◌++◌, Option, refl, sym, ◌∙◌, ap, subst, arith}
use Rattle.heaps.specs.Content.{HasText, HasBlob}
use Rattle.metadata_tables.specs.declared.coded.Coded.TheVariants.{ResolutionScope}
use Rattle.sig_codec.specs.Signature.{IsType}
use Rattle.type_terms.specs.declared.name.Scope.{Scope}
use Rattle.type_terms.specs.declared.name.Scope.TheVariants.{Extern}
use Rattle.type_terms.specs.declared.name.TypeId.{TypeId}
use Rattle.type_terms.specs.declared.term.Owner.{Owner}
use Rattle.type_terms.specs.declared.term.Owner.TheVariants.{Name, Spec}
use Rattle.type_terms.specs.declared.term.SigType.{SigType}
use Rattle.image_model.specs.Streams.{strings_of, blobs_of}
use Rattle.image_model.specs.Naming.{HasId, HasRefId, HasPath, HasRefPath, RowOwner, here}
use Rattle.image_namings.proofs.General.{One, names_one}

module _ (image : List ℕ) (text : (index : ℕ) (a b : List ℕ) → HasText (strings_of image) index a → HasText (strings_of image) index b → a ≡ b) where
  pub id_one : One (HasId image)
  id_one row a b h k =
      let s = text _ a.space b.space h.space k.space in
      let n = text _ a.name b.name h.name k.name in
      λ i. record { space = s i; name = n i }

  ref_id_one : One (HasRefId image)
  ref_id_one row a b h k =
      let s = text _ a.space b.space h.space k.space in
      let n = text _ a.name b.name h.name k.name in
      λ i. record { space = s i; name = n i }

  pub path_one : {type : ℕ} {a b : List TypeId} → HasPath image type a → HasPath image type b → a ≡ b
  path_one (HasPath.top {type = t} {id = x} e h) (HasPath.top {id = y} f k) = ap (λ id. id ∷ []) (id_one t x y h k)
  path_one (HasPath.top e h) (HasPath.nested f some p k s) = absurd (omega arith)
  path_one (HasPath.nested f some p k s) (HasPath.top e h) = absurd (omega arith)
  path_one (HasPath.nested {type = t} {outer = o} {id = x} {before = u} e m p h s) (HasPath.nested {outer = v} {id = y} {before = w} f n q k r) =
      let same : v ≡ o = sym f ∙ e in
      let front = path_one p (subst (λ z. HasPath image z w) same q) in
      let last = id_one t x y h k in
      s ∙ (λ i. front i ++ last i ∷ []) ∙ sym r

  pub ref_path_one : {row : ℕ} {a b : Scope} {p q : List TypeId} → HasRefPath image row a p → HasRefPath image row b q → (a ≡ b) × (p ≡ q)
  ref_path_one (HasRefPath.in_module {row = t} {m = m} {id = x} e h) (HasRefPath.in_module {id = y} f k) = (refl, ap (λ id. id ∷ []) (ref_id_one t x y h k))
  ref_path_one (HasRefPath.in_module {row = t} {m = m} e h) (HasRefPath.in_assembly {assembly = a} f g k) = absurd (omega (arith, (names_one ResolutionScope _ 0x00 m 0x23 a e f).0))
  ref_path_one (HasRefPath.in_module {row = t} {m = m} e h) (HasRefPath.in_type {outer = o} f q k r) = absurd (omega (arith, (names_one ResolutionScope _ 0x00 m 0x01 o e f).0))
  ref_path_one (HasRefPath.in_assembly {assembly = a} e g h) (HasRefPath.in_module {m = m} f k) = absurd (omega (arith, (names_one ResolutionScope _ 0x23 a 0x00 m e f).0))
  ref_path_one (HasRefPath.in_assembly {row = t} {assembly = a} {k = j} {id = x} e g h) (HasRefPath.in_assembly {assembly = b} {k = k} {id = y} f d l) =
      let same = (names_one ResolutionScope _ 0x23 a 0x23 b e f).1 in
      let number : j ≡ k = omega arith in
      (ap Extern number, ap (λ id. id ∷ []) (ref_id_one t x y h l))
  ref_path_one (HasRefPath.in_assembly {assembly = a} e g h) (HasRefPath.in_type {outer = o} f q k r) = absurd (omega (arith, (names_one ResolutionScope _ 0x23 a 0x01 o e f).0))
  ref_path_one (HasRefPath.in_type {outer = o} e p h s) (HasRefPath.in_module {m = m} f k) = absurd (omega (arith, (names_one ResolutionScope _ 0x01 o 0x00 m e f).0))
  ref_path_one (HasRefPath.in_type {outer = o} e p h s) (HasRefPath.in_assembly {assembly = a} f g k) = absurd (omega (arith, (names_one ResolutionScope _ 0x01 o 0x23 a e f).0))
  ref_path_one (HasRefPath.in_type {row = t} {outer = o} {id = x} {before = u} e p h s) (HasRefPath.in_type {outer = v} {scope = c} {id = y} {before = w} f q k r) =
      let same = (names_one ResolutionScope _ 0x01 v 0x01 o f e).1 in
      let front = ref_path_one p (subst (λ z. HasRefPath image z c w) same q) in
      let paths = front.1 in
      let last = ref_id_one t x y h k in
      (front.0, s ∙ (λ i. paths i ++ last i ∷ []) ∙ sym r)

  module _ (owners : ℕ → Option Owner) (blob : (index : ℕ) (a b : List ℕ) → HasBlob (blobs_of image) index a → HasBlob (blobs_of image) index b → a ≡ b) (one_type : (bytes : List ℕ) (s t : SigType) → IsType owners bytes s → IsType owners bytes t → s ≡ t) where
    pub row_owner_one : {t r : ℕ} {a b : Owner} → RowOwner image owners t r a → RowOwner image owners t r b → a ≡ b
    row_owner_one (RowOwner.defined e there h) (RowOwner.defined f and k) = ap here (path_one h k)
    row_owner_one (RowOwner.defined e there h) (RowOwner.referred f and k) = absurd (omega arith)
    row_owner_one (RowOwner.defined e there h) (RowOwner.specified f and b k) = absurd (omega arith)
    row_owner_one (RowOwner.referred e there h) (RowOwner.defined f and k) = absurd (omega arith)
    row_owner_one (RowOwner.referred e there h) (RowOwner.referred f and k) =
        let p = ref_path_one h k in
        let scope = p.0 in
        let path = p.1 in
        λ i. Name (record { scope = scope i; path = path i })
    row_owner_one (RowOwner.referred e there h) (RowOwner.specified f and b k) = absurd (omega arith)
    row_owner_one (RowOwner.specified e there b h) (RowOwner.defined f and k) = absurd (omega arith)
    row_owner_one (RowOwner.specified e there b h) (RowOwner.referred f and k) = absurd (omega arith)
    row_owner_one (RowOwner.specified {bytes = x} {term = s} e there b h) (RowOwner.specified {bytes = y} {term = t} f and c k) =
        ap Spec (one_type y s t (subst (λ z. IsType owners z s) (blob _ x y b c) h) k)
