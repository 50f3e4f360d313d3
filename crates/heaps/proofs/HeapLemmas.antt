-- A heap keeps its contents, each at one index, when an entry is added at its end.
use Rattle.std.proofs.Common.{◌≡◌, ℕ, zero, suc, ◌⊎◌, inl, inr, List, ◌∷◌, ◌++◌, [], Some, length, map, sym, ◌∙◌, ap, refl, arith}
use Rattle.std.specs.Prelude.{slice_get, Contains, ◌≢◌, ◌==◌, Bool, true, false}
use Rattle.std.proofs.lemmas.Option.{slice_get-map, same_Some, slice_get_within, get_or_from_slice_get}
use Rattle.std.specs.Option.{option_map}
use Rattle.std.proofs.lemmas.Bool.{eqb-true}
use Rattle.heaps.specs.Filled.{IsFilled, IsProper, indexes}
use Rattle.heaps.specs.Heap.{HoldsEach, HoldsOnce}
use Rattle.heaps.specs.Finds.{Finds, Lacks, IsPlaceOf, AddsPlace, content_of}
use Rattle.heaps.specs.declared.chains.Chains.{Chains}
use Rattle.heaps.specs.declared.chains.Place.{Place}
use Rattle.heaps.proofs.ChainLemmas.{snoc_cases, snoc_new}
use Rattle.heaps.proofs.FindsLemmas.{content_of-append}

-- the place of an index in use
place_of_index : (places : List Place) (j : ℕ) → Contains (indexes places) j → (k : ℕ) × (p : Place) × (slice_get places k ≡ Some p) × (p.index ≡ j)
place_of_index [] j (k, less, is) = absurd (omega arith)
place_of_index (p ∷ ps) j (zero, less, is) = (0, p, refl, is)
place_of_index (p ∷ ps) j (suc k, less, is) = let r = place_of_index ps j (k, omega arith, is) in (suc r.0, r.1, r.2, r.3)

pub index_of_place : (places : List Place) (k : ℕ) (p : Place) → slice_get places k ≡ Some p → Contains (indexes places) p.index
index_of_place places k p at =
    let is = slice_get-map (λ (q : Place). q.index) places k ∙ ap (option_map (λ (q : Place). q.index)) at in
    (k, slice_get_within (indexes places) k p.index is, get_or_from_slice_get (indexes places) k p.index p.index is)

pub index_of_added : (old new : Chains) (bytes : List ℕ) (index : ℕ) (content : List ℕ) → AddsPlace old new bytes index content
    → Contains (indexes new.places) index
index_of_added old new bytes index content (place, places, at_index, is) =
    rw (places, ← at_index) (index_of_place (old.places ++ place ∷ []) (length old.places) place (snoc_new old.places place (length old.places) refl))

module _ (Has : List ℕ → ℕ → List ℕ → Type 0)
    (stays : (bytes more : List ℕ) (k : ℕ) (c : List ℕ) → Has bytes k c → Has (bytes ++ more) k c)
    (unique : (bytes : List ℕ) (k : ℕ) (c d : List ℕ) → Has bytes k c → Has bytes k d → c ≡ d) where
  pub Has-found : (bytes : List ℕ) (chains : Chains) (content : List ℕ) (index : ℕ) → IsFilled Has bytes chains
      → IsPlaceOf chains bytes content index → Has bytes index content × Contains (indexes chains.places) index
  Has-found bytes chains content index ok (k, p, at, is, at_index) =
      (rw (← is, ← at_index) (ok.holds k p at), rw (← at_index) (index_of_place chains.places k p at))

  pub IsFilled-add : (bytes more : List ℕ) (old new : Chains) (index : ℕ) (content : List ℕ) → IsFilled Has bytes old → Finds new (bytes ++ more)
      → AddsPlace old new (bytes ++ more) index content → Has (bytes ++ more) index content → IsFilled Has (bytes ++ more) new
  IsFilled-add bytes more old new index content ok finds (place, places, at_index, is) has = record {
    finds = finds;
    holds = λ k p at. elim (snoc_cases old.places place p k (sym (ap (λ ps. slice_get ps k) places) ∙ at)) [
      | inl was ↦ rw (content_of-append bytes more p (ok.finds.within k p was)) (stays bytes more p.index (content_of bytes p) (ok.holds k p was))
      | inr e ↦ rw (e.1, at_index, is) has
    ];
  }

  -- two indexes in use with one content are one index
  pub same_index : (bytes : List ℕ) (chains : Chains) → IsFilled Has bytes chains → (j k : ℕ) (content : List ℕ)
      → Contains (indexes chains.places) j → Contains (indexes chains.places) k → Has bytes j content → Has bytes k content → j ≡ k
  same_index bytes chains ok j k content used also here there =
      let a = place_of_index chains.places j used in
      let b = place_of_index chains.places k also in
      let at_a : slice_get (map (content_of bytes) chains.places) a.0 ≡ Some content
      = slice_get-map (content_of bytes) chains.places a.0 ∙ ap (option_map (content_of bytes)) a.2
      ∙ ap Some (unique bytes j (content_of bytes a.1) content (rw a.3 at (ok.holds a.0 a.1 a.2)) here) in
      let at_b : slice_get (map (content_of bytes) chains.places) b.0 ≡ Some content
      = slice_get-map (content_of bytes) chains.places b.0 ∙ ap (option_map (content_of bytes)) b.2
      ∙ ap Some (unique bytes k (content_of bytes b.1) content (rw b.3 at (ok.holds b.0 b.1 b.2)) there) in
      let e : a.0 ≡ b.0 = ok.finds.chained.distinct a.0 b.0 content at_a at_b in
      let same : a.1 ≡ b.1 = same_Some a.1 b.1 (sym a.2 ∙ ap (slice_get chains.places) e ∙ b.2) in
      sym a.3 ∙ ap (λ (p : Place). p.index) same ∙ b.3

  -- so an index in use that has the content is that of its place, and a content without a place has no index
  pub known_found : (bytes : List ℕ) (chains : Chains) (content : List ℕ) (j index : ℕ) → IsFilled Has bytes chains
      → IsPlaceOf chains bytes content j → Contains (indexes chains.places) index → Has bytes index content → j ≡ index
  known_found bytes chains content j index ok place used here =
      let found = Has-found bytes chains content j ok place in same_index bytes chains ok j index content found.1 used found.0 here

  pub known_lacks : (bytes : List ℕ) (chains : Chains) (content : List ℕ) (index : ℕ) → IsFilled Has bytes chains → Lacks chains bytes content
      → Contains (indexes chains.places) index → Has bytes index content → ⊥
  known_lacks bytes chains content index ok lacks used here =
      let a = place_of_index chains.places index used in
      lacks a.0 (slice_get-map (content_of bytes) chains.places a.0 ∙ ap (option_map (content_of bytes)) a.2
      ∙ ap Some (unique bytes index (content_of bytes a.1) content (rw a.3 at (ok.holds a.0 a.1 a.2)) here))

-- what an index says of its content, it says with less
pub IsFilled-weaker : (Has Weaker : List ℕ → ℕ → List ℕ → Type 0) → ((bytes : List ℕ) (k : ℕ) (c : List ℕ) → Has bytes k c → Weaker bytes k c)
    → (bytes : List ℕ) (chains : Chains) → IsFilled Has bytes chains → IsFilled Weaker bytes chains
IsFilled-weaker Has Weaker weaker bytes chains ok = record {
  finds = ok.finds;
  holds = λ k p at. weaker bytes p.index (content_of bytes p) (ok.holds k p at);
}

-- a heap whose bytes and places are as they were
pub IsFilled-kept : (Has : List ℕ → ℕ → List ℕ → Type 0) (bytes now : List ℕ) (old new : Chains) → IsFilled Has bytes old → Finds new now
    → now ≡ bytes → new.places ≡ old.places → IsFilled Has now new
IsFilled-kept Has bytes now old new ok finds same places = record {
  finds = finds;
  holds = λ k p at. rw same (ok.holds k p (ap (λ ps. slice_get ps k) (sym places) ∙ at));
}

-- each index in use holds a content
pub HoldsEach-filled : (Has : List ℕ → ℕ → List ℕ → Type 0) (bytes : List ℕ) (chains : Chains) → IsFilled Has bytes chains
    → HoldsEach Has (record { bytes = bytes; used = indexes chains.places })
HoldsEach-filled Has bytes chains ok index used =
    let a = place_of_index chains.places index used in (content_of bytes a.1, rw a.3 at (ok.holds a.0 a.1 a.2))

Contains-cons_cases : (x : ℕ) (xs : List ℕ) (y : ℕ) → Contains (x ∷ xs) y → (x ≡ y) ⊎ Contains xs y
Contains-cons_cases x xs y (zero, less, is) = inl is
Contains-cons_cases x xs y (suc k, less, is) = inr (k, omega arith, is)

pub Contains-cons : (x : ℕ) (xs : List ℕ) (y : ℕ) → Contains xs y → Contains (x ∷ xs) y
Contains-cons x xs y (k, less, is) = (suc k, omega arith, is)

pub Contains-first : (x : ℕ) (xs : List ℕ) → Contains (x ∷ xs) x
Contains-first x xs = (0, omega arith, refl)

-- a heap whose index 0 is the empty content
module _ (Has : List ℕ → ℕ → List ℕ → Type 0)
    (stays : (bytes more : List ℕ) (k : ℕ) (c : List ℕ) → Has bytes k c → Has (bytes ++ more) k c)
    (unique : (bytes : List ℕ) (k : ℕ) (c d : List ℕ) → Has bytes k c → Has bytes k d → c ≡ d)
    (empty : (bytes : List ℕ) → Has bytes 0 []) where
  full_at : (bytes : List ℕ) (chains : Chains) (k : ℕ) → IsFilled Has bytes chains → IsProper bytes chains
      → Contains (indexes chains.places) k → Has bytes k [] → ⊥
  full_at bytes chains k ok proper used here =
      let a = place_of_index chains.places k used in
      proper a.0 a.1 a.2 (unique bytes k (content_of bytes a.1) [] (rw a.3 at (ok.holds a.0 a.1 a.2)) here)

  pub HoldsOnce-zero : (bytes : List ℕ) (chains : Chains) → IsFilled Has bytes chains → IsProper bytes chains
      → HoldsOnce Has (record { bytes = bytes; used = 0 ∷ indexes chains.places })
  HoldsOnce-zero bytes chains ok proper j k content first second here there =
      elim (Contains-cons_cases 0 (indexes chains.places) j first) [
        | inl a ↦ elim (Contains-cons_cases 0 (indexes chains.places) k second) [
          | inl b ↦ sym a ∙ b
          | inr b ↦ let none : content ≡ [] = unique bytes 0 content [] (rw (← a) at here) (empty bytes) in
              absurd (full_at bytes chains k ok proper b (rw none at there))
        ]
        | inr a ↦ elim (Contains-cons_cases 0 (indexes chains.places) k second) [
          | inl b ↦ let none : content ≡ [] = unique bytes 0 content [] (rw (← b) at there) (empty bytes) in
              absurd (full_at bytes chains j ok proper a (rw none at here))
          | inr b ↦ same_index Has stays unique bytes chains ok j k content a b here there
        ]
      ]

  pub HoldsEach-zero : (bytes : List ℕ) (chains : Chains) → IsFilled Has bytes chains
      → HoldsEach Has (record { bytes = bytes; used = 0 ∷ indexes chains.places })
  HoldsEach-zero bytes chains ok index used = elim (Contains-cons_cases 0 (indexes chains.places) index used) [
    | inl e ↦ ([], rw (← e) (empty bytes))
    | inr more ↦ HoldsEach-filled Has bytes chains ok index more
  ]

  pub known_empty : (bytes : List ℕ) (chains : Chains) (content : List ℕ) (index : ℕ) → IsFilled Has bytes chains → IsProper bytes chains
      → content ≡ [] → Contains (0 ∷ indexes chains.places) index → Has bytes index content → 0 ≡ index
  known_empty bytes chains content index ok proper none used here =
      HoldsOnce-zero bytes chains ok proper 0 index [] (Contains-first 0 (indexes chains.places)) used (empty bytes) (rw none at here)

  pub known_found-zero : (bytes : List ℕ) (chains : Chains) (content : List ℕ) (j index : ℕ) → IsFilled Has bytes chains → IsProper bytes chains
      → IsPlaceOf chains bytes content j → Contains (0 ∷ indexes chains.places) index → Has bytes index content → j ≡ index
  known_found-zero bytes chains content j index ok proper place used here =
      let found = Has-found Has stays unique bytes chains content j ok place in
      HoldsOnce-zero bytes chains ok proper j index content (Contains-cons 0 (indexes chains.places) j found.1) used found.0 here

  pub known_lacks-zero : (bytes : List ℕ) (chains : Chains) (content : List ℕ) (index : ℕ) → IsFilled Has bytes chains → Lacks chains bytes content
      → content ≢ [] → Contains (0 ∷ indexes chains.places) index → Has bytes index content → ⊥
  known_lacks-zero bytes chains content index ok lacks full used here = elim (Contains-cons_cases 0 (indexes chains.places) index used) [
    | inl e ↦ full (unique bytes 0 content [] (rw (← e) at here) (empty bytes))
    | inr more ↦ known_lacks Has stays unique bytes chains content index ok lacks more here
  ]

pub IsProper-add : (bytes more : List ℕ) (old new : Chains) (index : ℕ) (content : List ℕ) → Finds old bytes → IsProper bytes old
    → AddsPlace old new (bytes ++ more) index content → content ≢ [] → IsProper (bytes ++ more) new
IsProper-add bytes more old new index content finds proper (place, places, at_index, is) full k p at e =
    elim (snoc_cases old.places place p k (sym (ap (λ ps. slice_get ps k) places) ∙ at)) [
      | inl was ↦ proper k p was (sym (content_of-append bytes more p (finds.within k p was)) ∙ e)
      | inr new_one ↦ full (sym is ∙ ap (content_of (bytes ++ more)) (sym new_one.1) ∙ e)
    ]

-- what a test of emptiness says
pub from_empty : (xs : List ℕ) (b : Bool) → b ≡ true → b ≡ (length xs == 0) → xs ≡ []
from_empty [] b on is = refl
from_empty (x ∷ xs) b on is = let e = eqb-true (length (x ∷ xs)) 0 (sym is ∙ on) in absurd (omega arith)

pub from_full : (xs : List ℕ) (b : Bool) → b ≡ false → b ≡ (length xs == 0) → xs ≢ []
from_full [] b off is e = absurd cc
from_full (x ∷ xs) b off is e = absurd cc

-- what holds after an entry was added, whose bytes are now here
module _ (Has : List ℕ → ℕ → List ℕ → Type 0)
    (stays : (bytes more : List ℕ) (k : ℕ) (c : List ℕ) → Has bytes k c → Has (bytes ++ more) k c)
    (unique : (bytes : List ℕ) (k : ℕ) (c d : List ℕ) → Has bytes k c → Has bytes k d → c ≡ d)
    (bytes more now : List ℕ) (old new : Chains) (index : ℕ) (content : List ℕ)
    (grown : now ≡ bytes ++ more) (ok : IsFilled Has bytes old) (finds : Finds new now) (place : AddsPlace old new now index content) where
  pub IsFilled-grown : Has now index content → IsFilled Has now new
  IsFilled-grown has =
      rw grown (IsFilled-add Has stays unique bytes more old new index content ok (rw grown at finds) (rw grown at place) (rw grown at has))

  pub IsProper-grown : IsProper bytes old → content ≢ [] → IsProper now new
  IsProper-grown proper full =
      rw grown (IsProper-add bytes more old new index content ok.finds proper (rw grown at place) full)
