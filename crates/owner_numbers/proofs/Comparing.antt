-- Two rows of TypeSpec that may be compared have one type where a walk along their signatures says so.
use Rattle.std.proofs.Common.{◌≡◌, ℕ, ◌≤◌, Bool, List, Option, Some, None, refl, sym, ap, ◌∙◌}
use Rattle.std.specs.Prelude.{◌↔◌, IsTrue}
use Rattle.std.proofs.lemmas.Option.{same_Some}
use Rattle.heaps.specs.Content.{HasBlob}
use Rattle.heaps.specs.LookUp.{blob_in}
use Rattle.heaps.proofs.Computed.{blob_is_computed}
use Rattle.type_terms.specs.declared.term.Owner.{Owner}
use Rattle.type_terms.specs.declared.term.SigType.{SigType}
use Rattle.image_model.specs.Columns.{type_spec_signature}
use Rattle.image_model.specs.Naming.{TellsOwners}
use Rattle.image_model.specs.Streams.{blobs_of}
use Rattle.sig_codec.specs.Reading.{whole_type}
use Rattle.signature_equality.specs.Numbering.{IsCanon}
use Rattle.owner_numbers.specs.Canon.{Classes, canon, below, MayCompare}
use Rattle.owner_numbers.specs.Terms.{term_of, HaveOneTerm}
use Rattle.owner_numbers.proofs.Narrow.{narrowed}
use Rattle.owner_numbers.proofs.Told.{spelled}

module _ (it : Classes) (row other : ℕ) (may : MayCompare it row other) (a b : List ℕ) (r : Bool)
    (first : (bytes : List ℕ) → blob_in (blobs_of it.image) (type_spec_signature it.image other) ≡ Some bytes → a ≡ bytes)
    (second : (bytes : List ℕ) → blob_in (blobs_of it.image) (type_spec_signature it.image row) ≡ Some bytes → b ≡ bytes)
    (same : (owners : ℕ → Option Owner) (s t : SigType) → IsCanon owners (canon it) → whole_type owners a ≡ Some s → whole_type owners b ≡ Some t → IsTrue r ↔ (s ≡ t)) where
  decides : (owners : ℕ → Option Owner) → TellsOwners it.image owners → IsTrue r ↔ (term_of it.image owners other ≡ term_of it.image owners row)
  decides owners tells =
      let c = may.comparable owners tells in
      let x = spelled it.image owners (type_spec_signature it.image other) c.one c.one_is in
      let y = spelled it.image owners (type_spec_signature it.image row) c.two c.two_is in
      let p = ap (whole_type (below c.limit owners)) (first x.bytes x.blob) ∙ narrowed c.limit owners x.bytes c.one x.whole c.one_deep in
      let q = ap (whole_type (below c.limit owners)) (second y.bytes y.blob) ∙ narrowed c.limit owners y.bytes c.two y.whole c.two_deep in
      let k = same (below c.limit owners) c.one c.two c.canon p q in (
        λ is. c.one_is ∙ ap (λ (t : SigType). Some t) (k.0 is) ∙ sym c.two_is,
        λ e. k.1 (same_Some c.one c.two (sym c.one_is ∙ e ∙ c.two_is)),
      )

  pub equal_told : IsTrue r ↔ HaveOneTerm it.image other row
  equal_told = (λ is owners tells. (decides owners tells).0 is, λ h. (decides may.told.0 may.told.1).1 (h may.told.0 may.told.1))

-- where no blob stands at an index none is computed
pub no_blob : (heap : List ℕ) (index : ℕ) → ((b : List ℕ) → HasBlob heap index b → ⊥) → blob_in heap index ≡ None
no_blob heap index lacks = go (blob_in heap index) refl
  where
    go : (r : Option (List ℕ)) → blob_in heap index ≡ r → r ≡ None
    go None e = refl
    go (Some b) e = absurd (lacks b ((blob_is_computed heap index b).1 e))
