-- The length of the text that stands at an index (II.24.2.3), and of the blob (II.24.2.4).
use Rattle.std.proofs.Common.{◌≡◌, ◌≢◌, ℕ, zero, suc, ◌+◌, ◌≤◌, ◌<◌, List, [], ◌∷◌, ◌++◌, drop, length, Option, Some, None, refl, sym, ◌∙◌, ap, arith}
use Rattle.std.specs.Prelude.{slice_index}
use Rattle.std.specs.List.{AllByRecursion}
use Rattle.std.specs.Option.{option_map_or}
use Rattle.std.proofs.lemmas.List.Elements.{recursion_from_All}
use Rattle.heaps.specs.Content.{BeginsText, HasText, HasBlob}
use Rattle.heaps.specs.LookUp.{BlobIsComputed, blob_in}
use Rattle.image_weights.specs.RowWeights.{text_length, text_weight, blob_weight}

front : (text rest : List ℕ) → AllByRecursion (λ byte. byte ≢ 0) text → text_length (text ++ 0 ∷ rest) ≡ length text
front [] rest h = refl
front (zero ∷ text) rest h = absurd (h.0 refl)
front (suc byte ∷ text) rest h = ap suc (front text rest h.1)

begun : (bytes text : List ℕ) → BeginsText bytes text → text_length bytes ≡ length text
begun bytes text h = ap text_length h.1 ∙ front text h.0 (recursion_from_All (λ byte. byte ≢ 0) text h.2)

pub text_at : (heap : List ℕ) (index : ℕ) (t : List ℕ) → HasText heap index t → text_weight heap index ≡ length t
unfolding text_weight
text_at heap zero t h = sym (ap length h)
text_at heap (suc k) t h = begun _ t h

-- ---- byte by byte

pub at_index : (heap : List ℕ) (index : ℕ) → index ≢ 0 → text_weight heap index ≡ text_length (drop index heap)
unfolding text_weight
at_index heap zero n = absurd (n refl)
at_index heap (suc k) n = refl

pub at_zero : (heap : List ℕ) (index : ℕ) → index ≡ 0 → text_weight heap index ≡ 0
unfolding text_weight
at_zero heap index e = ap (text_weight heap) e

pub one_more : (heap : List ℕ) (at : ℕ) → at < length heap → slice_index heap at ≢ 0 → text_length (drop at heap) ≡ text_length (drop (at + 1) heap) + 1
one_more [] at less n = absurd (omega arith)
one_more (zero ∷ heap) zero less n = absurd (n refl)
one_more (suc byte ∷ heap) zero less n = omega arith
one_more (byte ∷ heap) (suc at) less n =
    let e : suc at + 1 ≡ suc (at + 1) = omega arith in
    one_more heap at (omega arith) n ∙ ap (λ (k : ℕ). text_length (drop k (byte ∷ heap)) + 1) (sym e)

pub at_end : (heap : List ℕ) (at : ℕ) → length heap ≤ at → text_length (drop at heap) ≡ 0
at_end [] zero le = refl
at_end [] (suc at) le = refl
at_end (byte ∷ heap) zero le = absurd (omega arith)
at_end (byte ∷ heap) (suc at) le = at_end heap at (omega arith)

pub at_zero_byte : (heap : List ℕ) (at : ℕ) → slice_index heap at ≡ 0 → text_length (drop at heap) ≡ 0
at_zero_byte [] zero e = refl
at_zero_byte [] (suc at) e = refl
at_zero_byte (zero ∷ heap) zero e = refl
at_zero_byte (suc byte ∷ heap) zero e = absurd (omega arith)
at_zero_byte (byte ∷ heap) (suc at) e = at_zero_byte heap at e

-- ---- blobs

pub blob_found : BlobIsComputed → (heap : List ℕ) (index : ℕ) (blob : List ℕ) → HasBlob heap index blob → blob_weight heap index ≡ length blob
unfolding blob_weight
blob_found law heap index blob h = ap (λ (o : Option (List ℕ)). option_map_or length o 0) ((law heap index blob).0 h)

none_there : BlobIsComputed → (heap : List ℕ) (index : ℕ) → ((blob : List ℕ) → HasBlob heap index blob → ⊥) → (o : Option (List ℕ)) → blob_in heap index ≡ o → option_map_or length o 0 ≡ 0
none_there law heap index none None e = refl
none_there law heap index none (Some blob) e = absurd (none blob ((law heap index blob).1 e))

pub blob_missing : BlobIsComputed → (heap : List ℕ) (index : ℕ) → ((blob : List ℕ) → HasBlob heap index blob → ⊥) → blob_weight heap index ≡ 0
unfolding blob_weight
blob_missing law heap index none = none_there law heap index none (blob_in heap index) refl
