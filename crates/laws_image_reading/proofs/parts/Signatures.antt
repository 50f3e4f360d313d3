-- The signatures of members are read as they were written (ECMA-335 II.23.2).
use Rattle.std.proofs.Common.{◌≡◌, sym, subst, ℕ, ◌^◌, ◌≤◌, List, Option}
use Rattle.std.specs.Prelude.{IsTrue}
use Rattle.heaps.specs.Content.{HasBlob}
use Rattle.assembly_tree.specs.Weight.{type_weight, signature_weight}
use Rattle.assembly_tree.specs.WellFormedTerms.{is_type, is_signature}
use Rattle.assembly_tree.specs.declared.assembly.Assembly.{Assembly}
use Rattle.sig_codec.specs.Signature.{SpellsField, SpellsMethod, SpellsProperty, IsField, IsMethod, IsProperty}
use Rattle.sig_codec.specs.Spelling.{Notation, reading, shortest, writing}
use Rattle.sig_codec.specs.Tokens.{GivesBack}
use Rattle.type_terms.specs.declared.reference.MethodSig.{MethodSig}
use Rattle.type_terms.specs.declared.term.Owner.{Owner}
use Rattle.type_terms.specs.declared.term.SigType.{SigType}
use Rattle.image_tokens.specs.References.{HasSignature}
use Rattle.image_tokens.specs.declared.references.References.{References}
use Rattle.body_codec.specs.Names.{NameMap}
use Rattle.image_model.specs.Streams.{blobs_of}
use Rattle.laws_image_reading.proofs.parts.Sizes.{type_taken, sig_taken}
use Rattle.laws_image_reading.proofs.parts.Tokens.{IsReader}

-- what is spelled with tokens reads with the owners that these give back
abbrev pub Rereads : {X : Type 0} → (Notation → X → List ℕ → Type 0) → Type 0
Rereads {X} Spells =
    (tokens : Owner → Option ℕ) (owners : ℕ → Option Owner) → GivesBack tokens owners → (x : X) (bytes : List ℕ) → Spells (writing tokens) x bytes → Spells (reading owners) x bytes

-- so do the signatures of members
pub record RereadsMembers : Type 0 where
  pub field : Rereads SpellsField
  pub method : Rereads SpellsMethod
  pub property : Rereads SpellsProperty

-- what is spelled with tokens is spelled in shortest form with the owners that these give back
abbrev pub Shortens : {X : Type 0} → (Notation → X → List ℕ → Type 0) → Type 0
Shortens {X} Spells =
    (tokens : Owner → Option ℕ) (owners : ℕ → Option Owner) → GivesBack tokens owners → (x : X) (bytes : List ℕ) → Spells (writing tokens) x bytes → Spells (shortest owners) x bytes

abbrev pub Lengthens : {X : Type 0} → (Notation → X → List ℕ → Type 0) → Type 0
Lengthens {X} Spells = (owners : ℕ → Option Owner) (x : X) (bytes : List ℕ) → Spells (shortest owners) x bytes → Spells (reading owners) x bytes

rereads : {X : Type 0} (Spells : Notation → X → List ℕ → Type 0) → Shortens Spells → Lengthens Spells → Rereads Spells
rereads Spells short long tokens owners back x bytes h = long owners x bytes (short tokens owners back x bytes h)

pub rereads_members : Shortens SpellsField → Lengthens SpellsField → Shortens SpellsMethod → Lengthens SpellsMethod → Shortens SpellsProperty → Lengthens SpellsProperty → RereadsMembers
rereads_members field long_field method long_method property long_property = record {
  field = rereads SpellsField field long_field;
  method = rereads SpellsMethod method long_method;
  property = rereads SpellsProperty property long_property;
}

module _ (a : Assembly) (again : RereadsMembers) (r : References) (image : List ℕ) (names : NameMap) (s : IsReader r image names) where
  spelled : {X : Type 0} (Spells : Notation → X → List ℕ → Type 0) → Rereads Spells → (x : X) (at : ℕ) (h : HasSignature Spells r x at) → Spells (reading names.owners) x h.bytes
  spelled Spells rereads x at h = rereads h.earlier names.owners (λ o token given. s.back.owners o token (h.within o token given)) x h.bytes h.spells

  held : {X : Type 0} (Spells : Notation → X → List ℕ → Type 0) (x : X) (at cell : ℕ) (h : HasSignature Spells r x at) → cell ≡ at → HasBlob (blobs_of image) cell h.bytes
  held Spells x at cell h is = subst (λ n. HasBlob (blobs_of image) n h.bytes) (sym is) (s.heaps.blobs at h.bytes h.holds.there)

  pub field_has : (t : SigType) (at cell : ℕ) → HasSignature SpellsField r t at → cell ≡ at → IsTrue (is_type a t) → type_weight t ≤ 2 ^ 26
      → (bytes : List ℕ) × HasBlob (blobs_of image) cell bytes × IsField names.owners bytes t
  field_has t at cell h is formed light =
      let taken = type_taken a t formed light in
      (h.bytes, held SpellsField t at cell h is, (spelled SpellsField again.field t at h, taken.0, taken.1))

  pub method_has : (m : MethodSig) (at cell : ℕ) → HasSignature SpellsMethod r m at → cell ≡ at → IsTrue (is_signature a m) → signature_weight m ≤ 2 ^ 26
      → (bytes : List ℕ) × HasBlob (blobs_of image) cell bytes × IsMethod names.owners bytes m
  method_has m at cell h is formed light =
      let taken = sig_taken a m formed light in
      (h.bytes, held SpellsMethod m at cell h is, (spelled SpellsMethod again.method m at h, taken.0, taken.1))

  pub property_has : (p : MethodSig) (at cell : ℕ) → HasSignature SpellsProperty r p at → cell ≡ at → IsTrue (is_signature a p) → signature_weight p ≤ 2 ^ 26
      → (bytes : List ℕ) × HasBlob (blobs_of image) cell bytes × IsProperty names.owners bytes p
  property_has p at cell h is formed light =
      let taken = sig_taken a p formed light in
      (h.bytes, held SpellsProperty p at cell h is, (spelled SpellsProperty again.property p at h, taken.0, taken.1))
