-- The chains with one place more.
use Rattle.std.proofs.Common.{◌≡◌, ℕ, suc, ◌+◌, ◌<◌, ◌≤◌, List, ◌∷◌, ◌++◌, [], Option, Some, cond, length, map, take, drop, sym, ◌∙◌, ap, refl, inl, inr, arith}
use Rattle.std.specs.Prelude.{slice_get, nat_eq}
use Rattle.std.proofs.lemmas.List.{length-append, length-map, map-append, length-drop, drop-append-le, take-append-le}
use Rattle.std.proofs.Math.Seq.{drop-append-add, drop-append_seam, take-append_seam}
use Rattle.std.proofs.lemmas.Bool.{eq-eqb, eqb-true, cases_Bool}
use Rattle.hash_places.specs.Slots.{place_of}
use Rattle.heaps.specs.Chains.{IsChained}
use Rattle.heaps.specs.Hash.{hash_of}
use Rattle.heaps.specs.Finds.{Finds, Lacks, content_of}
use Rattle.heaps.specs.declared.chains.Chains.{Chains}
use Rattle.heaps.specs.declared.chains.Place.{Place}
use Rattle.heaps.proofs.ChainLemmas.{IsChained-push, snoc_cases}

cond_other : (h q : ℕ) (x y : Option ℕ) → (q ≡ h → ⊥) → cond (nat_eq h q) x y ≡ y
cond_other h q x y n = elim (cases_Bool (nat_eq h q)) [
  | inl e ↦ absurd (n (sym (eqb-true h q e)))
  | inr e ↦ ap (λ b. cond b x y) e
]

module _ (old new : Chains) (bytes : List ℕ) (p : Place) (ok : Finds old bytes)
    (lacks : Lacks old bytes (content_of bytes p))
    (fits : p.start + p.len ≤ length bytes)
    (room : length old.places < length bytes)
    (places : new.places ≡ old.places ++ p ∷ [])
    (next : p.next ≡ place_of old.newest (hash_of (content_of bytes p)))
    (newest : (q : ℕ) → place_of new.newest q ≡ cond (nat_eq (hash_of (content_of bytes p)) q) (Some (length old.places)) (place_of old.newest q)) where
  noted_within : (k : ℕ) (q : Place) → slice_get new.places k ≡ Some q → q.start + q.len ≤ length bytes
  noted_within k q at = elim (snoc_cases old.places p q k (sym (ap (λ ps. slice_get ps k) places) ∙ at)) [
    | inl was ↦ ok.within k q was
    | inr e ↦ rw e.1 fits
  ]

  noted_chained : IsChained hash_of (place_of new.newest) (map (content_of bytes) old.places ++ content_of bytes p ∷ []) (map (λ q. q.next) old.places ++ p.next ∷ [])
  noted_chained =
      let h = hash_of (content_of bytes p) in
      rw next (IsChained-push hash_of (place_of old.newest) (place_of new.newest) (map (content_of bytes) old.places) (map (λ q. q.next) old.places) (content_of bytes p)
      ok.chained lacks
      (newest h ∙ ap (λ b. cond b (Some (length old.places)) (place_of old.newest h)) (eq-eqb h h refl) ∙ ap Some (sym (length-map old.places (content_of bytes))))
      (λ q n. newest q ∙ cond_other h q _ _ n))

  pub Finds-note : Finds new bytes
  Finds-note = record {
    within = noted_within;
    fewer = rw (places, length-append) (omega arith);
    chained = rw (places, map-append (content_of bytes) old.places (p ∷ []), map-append (λ q. q.next) old.places (p ∷ [])) noted_chained;
  }

-- a content stays where the bytes grow at their end
pub content_of-append : (bytes more : List ℕ) (p : Place) → p.start + p.len ≤ length bytes → content_of (bytes ++ more) p ≡ content_of bytes p
content_of-append bytes more p h =
    let starts : p.start ≤ length bytes = omega arith in
    let ends : p.len ≤ length (drop p.start bytes) = rw length-drop (omega arith) in
    ap (take p.len) (drop-append-le p.start bytes more starts) ∙ take-append-le p.len (drop p.start bytes) more ends

contents_stay : (bytes more : List ℕ) (places : List Place) → ((k : ℕ) (p : Place) → slice_get places k ≡ Some p → p.start + p.len ≤ length bytes)
    → map (content_of (bytes ++ more)) places ≡ map (content_of bytes) places
contents_stay bytes more [] h = refl
contents_stay bytes more (p ∷ ps) h =
    let e = content_of-append bytes more p (h 0 p refl) in
    let es = contents_stay bytes more ps (λ k q at. h (suc k) q at) in
    cc

pub Finds-grow : (chains : Chains) (bytes more : List ℕ) → Finds chains bytes → Finds chains (bytes ++ more)
Finds-grow chains bytes more ok = record {
  within = λ k p at. rw length-append (let w = ok.within k p at in omega arith);
  fewer = rw length-append (let f = ok.fewer in omega arith);
  chained = rw (contents_stay bytes more chains.places ok.within) ok.chained;
}

pub Lacks-grow : (chains : Chains) (bytes more content : List ℕ) → Finds chains bytes → Lacks chains bytes content → Lacks chains (bytes ++ more) content
Lacks-grow chains bytes more content ok lacks k at =
    lacks k (ap (λ cs. slice_get cs k) (sym (contents_stay bytes more chains.places ok.within)) ∙ at)

-- and where they shrink again, before a place was added
pub Finds-shrink : (old new : Chains) (bytes more : List ℕ) → Finds old bytes → new.places ≡ old.places → Finds new (bytes ++ more) → Finds new bytes
Finds-shrink old new bytes more was same ok =
    let within : (k : ℕ) (p : Place) → slice_get new.places k ≡ Some p → p.start + p.len ≤ length bytes
    = λ k p at. was.within k p (ap (λ ps. slice_get ps k) (sym same) ∙ at) in
    record {
      within = within;
      fewer = rw same was.fewer;
      chained = rw (← contents_stay bytes more new.places within) ok.chained;
    }

-- the middle of three pieces behind a list
pub middle : (bytes lead content tail : List ℕ) (n : ℕ) → n ≡ length bytes
    → content ≡ take (length content) (drop (n + length lead) (bytes ++ (lead ++ (content ++ tail))))
middle bytes lead content tail n e =
    rw (e, drop-append-add bytes (lead ++ (content ++ tail)) (length lead), drop-append_seam lead (content ++ tail)) (sym (take-append_seam content tail))

pub Finds-undo : (old new : Chains) (bytes more grown : List ℕ) (n : ℕ) → Finds old bytes → new.places ≡ old.places
    → grown ≡ bytes ++ more → n ≡ length bytes → Finds new grown → Finds new (take n grown)
Finds-undo old new bytes more grown n was same e len ok =
    rw (e, len, take-append_seam bytes more) (Finds-shrink old new bytes more was same (rw e at ok))
