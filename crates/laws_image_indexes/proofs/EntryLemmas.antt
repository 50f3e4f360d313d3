-- Entries of heaps that are there, by what stands at them.
use Rattle.std.proofs.Common.{◌≡◌, ◌⊎◌, inl, inr, refl, sym, ◌∙◌, ap, ℕ, zero, suc, ◌+◌, ◌-◌, ◌<◌, ◌≤◌, List, [], ◌∷◌, ◌++◌, length, drop, arith}
use Rattle.std.proofs.lemmas.List.{length-append, length-drop}
use Rattle.heaps.specs.Content.{HasText, HasBlob}
use Rattle.il_base.specs.Numbers.{Packed}
use Rattle.sig_codec.specs.Spelling.{Notation}
use Rattle.image_layout.specs.Indexes.{IsHeapIndex}
use Rattle.image_tokens.specs.Blobs.{HoldsBlob}
use Rattle.image_tokens.specs.References.{HasSignature}
use Rattle.image_tokens.specs.Texts.{HoldsText}
use Rattle.image_tokens.specs.declared.references.References.{References}

text_at : (heap : List ℕ) (index : ℕ) (text : List ℕ) → HasText heap index text → IsHeapIndex heap index
text_at heap zero text h = inl refl
text_at heap (suc k) text h =
    let long : length heap - suc k ≡ length text + suc (length h.0) = sym (length-drop (suc k) heap) ∙ ap length h.1 ∙ length-append text (0 ∷ h.0) in
    inr (omega arith)

packed_some : (bytes : List ℕ) (n : ℕ) → Packed bytes n → 0 < length bytes
packed_some [] n h = absurd h
packed_some (b ∷ bytes) n h = omega arith

blob_at : (heap : List ℕ) (index : ℕ) (blob : List ℕ) → HasBlob heap index blob → IsHeapIndex heap index
blob_at heap zero blob h = inl refl
blob_at heap (suc k) blob h =
    let some = packed_some h.0 (length blob) h.3 in
    let long : length heap - suc k ≡ length h.0 + length (blob ++ h.1) = sym (length-drop (suc k) heap) ∙ ap length h.2 ∙ length-append h.0 (blob ++ h.1) in
    inr (omega arith)

module _ (r : References) where
  pub text_in : (text : List ℕ) (index : ℕ) → HoldsText r.heaps.strings text index → IsHeapIndex r.heaps.strings.bytes index
  text_in text index h = text_at r.heaps.strings.bytes index text h.there

  pub blob_in : (blob : List ℕ) (index : ℕ) → HoldsBlob r.heaps.blobs blob index → IsHeapIndex r.heaps.blobs.bytes index
  blob_in blob index h = blob_at r.heaps.blobs.bytes index blob h.there

  pub signature_in : {X : Type 0} (Spells : Notation → X → List ℕ → Type 0) (x : X) (index : ℕ) → HasSignature Spells r x index → IsHeapIndex r.heaps.blobs.bytes index
  signature_in Spells x index h = blob_in h.bytes index h.holds
