-- The interfaces of a type as a set: those of its rows, in order and each once (II.22.23).
use Rattle.std.proofs.Common.{◌≡◌, ℕ, inl, inr, List, [], ◌∷◌, refl, subst}
use Rattle.std.specs.Cmp.{IsTotalOrder}
use Rattle.std.specs.List.{AllZip}
use Rattle.metadata_tables.specs.declared.coded.Coded.TheVariants.{TypeDefOrRef}
use Rattle.type_terms.specs.Order.{owner_order}
use Rattle.type_terms.specs.declared.term.Owner.{Owner}
use Rattle.sorted_owners.specs.Rising.{rising}
use Rattle.body_codec.specs.Names.{NameMap}
use Rattle.image_model.specs.Columns.{interface_class, interface_type}
use Rattle.image_model.specs.Reading.{OwnerIs, AreInterfaces}
use Rattle.image_model.specs.Rows.{rows_with}
use Rattle.image_model.specs.Naming.{RowOwner}
use Rattle.image_model.specs.Streams.{strings_of, blobs_of}
use Rattle.image_namings.proofs.Among.{Among, from_among}
use Rattle.image_namings.proofs.Decided.{OneBlob}
use Rattle.image_namings.proofs.General.{names_one}
use Rattle.image_namings.proofs.Owners.{OneText, ReadsTypes, owner_one}
use Rattle.formed_references.proofs.Words.{to_among}
use Rattle.image_assemblies.proofs.Ties.{IsIn, is_in, contained, rising_keeps, rising_only, rising_rises}

zip_has : (Is : ℕ → Owner → Type 0) (rows : List ℕ) (os : List Owner) (r : ℕ) → AllZip Is rows os → Among r rows → (o : Owner) × Is r o × IsIn o os
zip_has Is [] [] r z m = absurd m
zip_has Is [] (o ∷ os) r z m = absurd z
zip_has Is (s ∷ rows) [] r z m = absurd z
zip_has Is (s ∷ rows) (o ∷ os) r z (inl e) = (o, subst (λ (k : ℕ). Is k o) e z.0, inl refl)
zip_has Is (s ∷ rows) (o ∷ os) r z (inr m) = let h = zip_has Is rows os r z.1 m in (h.0, h.1, inr h.2)

zip_from : (Is : ℕ → Owner → Type 0) (rows : List ℕ) (os : List Owner) (o : Owner) → AllZip Is rows os → IsIn o os → (r : ℕ) × Among r rows × Is r o
zip_from Is [] [] o z m = absurd m
zip_from Is [] (p ∷ os) o z m = absurd z
zip_from Is (s ∷ rows) [] o z m = absurd z
zip_from Is (s ∷ rows) (p ∷ os) o z (inl e) = (s, inl refl, subst (Is s) e z.0)
zip_from Is (s ∷ rows) (p ∷ os) o z (inr m) = let h = zip_from Is rows os o z.1 m in (h.0, inr h.1, h.2)

module _ (image : List ℕ) (names : NameMap) (text : OneText (strings_of image)) (blob : OneBlob (blobs_of image)) (reads : ReadsTypes) (total : IsTotalOrder owner_order) where
  -- an index names one owner
  same_owner : (value : ℕ) (o p : Owner) → OwnerIs image names value o → OwnerIs image names value p → o ≡ p
  same_owner value o p h k =
      let e = names_one TypeDefOrRef value k.0 k.1 h.0 h.1 k.2 h.2 in
      owner_one image reads text blob names.owners h.0 h.1 o p h.3 (subst (λ (r : ℕ). RowOwner image names.owners h.0 r p) e.1 (subst (λ (t : ℕ). RowOwner image names.owners t k.1 p) e.0 k.3))

  pub interfaces_are : (row : ℕ) (os : List Owner) → AllZip (λ r. OwnerIs image names (interface_type image r)) (rows_with image 0x09 interface_class row) os → AreInterfaces image names row (rising os)
  interfaces_are row os zip =
      let all = rows_with image 0x09 interface_class row in
      record {
        rising = rising_rises total os;
        each = λ o. (
          λ c.
              let r = zip_from (λ r. OwnerIs image names (interface_type image r)) all os o zip (rising_only o os (is_in o (rising os) c.0 c.1 c.2)) in
              (r.0, from_among r.0 all r.1, r.2),
          λ h.
              let z = zip_has (λ r. OwnerIs image names (interface_type image r)) all os h.0 zip (to_among h.0 all h.1) in
              let e = same_owner (interface_type image h.0) z.0 o z.1 h.2 in
              contained o (rising os) (rising_keeps o os (subst (λ (x : Owner). IsIn x os) e z.2)),
        );
      }
