-- The user strings that bodies load are those that were given tokens.
use Rattle.std.proofs.Common.{◌≡◌, subst, ℕ, ◌+◌, ◌*◌, ◌^◌, ◌<◌, List, Some, Contains, arith}
use Rattle.laws_image_parts.specs.in_code.Given.{IsGiven, of_type, of_method, of_field, of_locals, of_text}
use Rattle.heaps.specs.Content.{HasUnits}
use Rattle.heaps.specs.Heap.{HoldsEach}
use Rattle.heaps.specs.Written.{HasWrittenUnits}
use Rattle.sig_codec.specs.Spelling.{Notation}
use Rattle.type_terms.specs.declared.reference.MethodRef.{MethodRef}
use Rattle.type_terms.specs.declared.term.Owner.{Owner, out-Owner}
use Rattle.type_terms.specs.declared.term.Owner.TheOpen.{Owner-F, Name, Spec}
use Rattle.type_terms.specs.declared.term.SigType.{SigType}
use Rattle.image_tokens.specs.KnownTokens.{names_apart, types_apart, methods_apart, fields_apart, locals_apart, texts_apart, layer_token}
use Rattle.image_tokens.specs.NameTokens as names
use Rattle.image_tokens.specs.NameTokens.{HasNameToken}
use Rattle.image_tokens.specs.References.{AreKnown, IsSpecToken, HasMemberToken, of_declared, of_referred, IsMethodToken, plain, instance, IsFieldToken, IsLocalsToken, IsTextToken}
use Rattle.image_tokens.specs.declared.references.References.{References}
use Rattle.image_tokens.specs.declared.row_set.Cells.{Cells}
use Rattle.image_tokens.proofs.NameLemmas.{holds_of_found}
use Rattle.image_members.specs.CodeBytes.{all_tokens}
use Rattle.image_layout.specs.Laws.{ReadsHeaps}
use Rattle.image_model.specs.Naming.{IsToken}
use Rattle.image_model.specs.Streams.{user_of}
use Rattle.image_model.specs.Rows.{HasRow}
use Rattle.image_model.specs.Bodies.{BodyNames}
use Rattle.image_model.specs.Tidy.{IsLoaded}
use Rattle.laws_image_parts.specs.tidiness.Distinct.{HasDistinctContents}
use Rattle.laws_image_parts.proofs.tidiness.ContentLemmas.{One, once_read, fewer}
use Rattle.laws_image_parts.specs.bodies.Loaded.{LoadsTidily}

-- a token that isn't one of a user string
abbrev IsOther : ℕ → Type 0
IsOther token = (index : ℕ) → IsToken token 0x70 index → ⊥

other_table : (token table row : ℕ) → table < 0x70 → token ≡ table * 2 ^ 24 + row → row < 2 ^ 24 → IsOther token
other_table token table row low is fits index i = let at = i.is in let small = i.fits in omega arith

module _ (r : References) (known : AreKnown r) where
  other_name : (name : _) (token : ℕ) → HasNameToken r.heaps.strings r.declared.types r.referred.names name token → IsOther token
  other_name name token (names.of_declared {row = row} here f is) = other_table token 0x02 row (omega arith) is.is is.fits
  other_name name token (names.of_referred {row = row} scope f is) = other_table token 0x01 row (omega arith) is.is is.fits

  other_layer : (l : Owner-F Owner SigType) (token : ℕ) → layer_token r.known.names r.known.specs l ≡ Some token → IsOther token
  other_layer (Name name) token at =
      other_name name token (holds_of_found names_apart (λ e. HasNameToken r.heaps.strings r.declared.types r.referred.names e.0 e.1) r.known.names name token known.names.each at)
  other_layer (Spec of) token at =
      let h : IsSpecToken r of token = holds_of_found types_apart (λ e. IsSpecToken r e.0 e.1) r.known.specs of token known.specs at in
      other_table token 0x1B h.row (omega arith) h.is.is h.is.fits

  other_member : {X : Type 0} (Spells : Notation → X → List ℕ → Type 0) (table : ℕ) (declared : List Cells) (owner : Owner) (name : List ℕ) (x : X) (token : ℕ) → table < 0x70
      → HasMemberToken Spells r table declared owner name x token → IsOther token
  other_member Spells table declared owner name x token low (of_declared {row = row} has high h is) = other_table token table row low is.is is.fits
  other_member Spells table declared owner name x token low (of_referred {row = row} has h is) = other_table token 0x0A row (omega arith) is.is is.fits

  other_method : (m : MethodRef) (token : ℕ) → IsMethodToken r m token → IsOther token
  other_method m token (plain none h) = other_member _ 0x06 r.declared.methods m.owner m.name m.sig token (omega arith) h
  other_method m token (instance {row = row} some h at signature is) = other_table token 0x2B row (omega arith) is.is is.fits

  -- the index of a user string that was given a token is in use
  index_used : (token index : ℕ) → IsGiven (all_tokens r) token → IsToken token 0x70 index → Contains r.heaps.user.used index
  index_used token index (of_type {owner = o} at) i = absurd (other_layer (out-Owner o) token at index i)
  index_used token index (of_method {method = m} at) i =
      absurd (other_method m token (holds_of_found methods_apart (λ e. IsMethodToken r e.0 e.1) r.known.methods m token known.methods at) index i)
  index_used token index (of_field {field = f} at) i =
      let h : IsFieldToken r f token = holds_of_found fields_apart (λ e. IsFieldToken r e.0 e.1) r.known.fields f token known.fields at in
      absurd (other_member _ 0x04 r.declared.fields f.owner f.name f.of token (omega arith) h index i)
  index_used token index (of_locals {types = ts} at) i =
      let h : IsLocalsToken r ts token = holds_of_found locals_apart (λ e. IsLocalsToken r e.0 e.1) r.known.locals ts token known.locals at in
      absurd (other_table token 0x11 h.row (omega arith) h.is.is h.is.fits index i)
  index_used token index (of_text {units = units} at) i =
      let h : IsTextToken r units token = holds_of_found texts_apart (λ e. IsTextToken r e.0 e.1) r.known.texts units token known.texts at in
      let same : h.index ≡ index = (let x = h.is.is in let y = i.is in omega arith) in
      subst (Contains r.heaps.user.used) same h.holds.used

  module _ (image : List ℕ) (heaps : ReadsHeaps r image) (given : (method token : ℕ) → HasRow image 0x06 method → BodyNames image method token → IsGiven (all_tokens r) token)
      (one : One HasUnits) (weaken : (bytes : List ℕ) (index : ℕ) (units : List ℕ) → HasWrittenUnits bytes index units → HasUnits bytes index units) (d : HasDistinctContents r) where
    loaded_used : (index : ℕ) → IsLoaded image index → Contains r.heaps.user.used index
    loaded_used index h = index_used h.1 index (given h.0 h.1 h.2 h.3) h.4

    each : HoldsEach HasUnits r.heaps.user
    each index used = let x = d.user index used in (x.0, weaken r.heaps.user.bytes index x.0 x.1)

    pub loads_tidily : LoadsTidily image
    loads_tidily = record {
      once = fewer (IsLoaded image) (Contains r.heaps.user.used) (HasUnits (user_of image)) loaded_used (once_read HasUnits r.heaps.user (user_of image) one each d.user_once heaps.units);
      short = λ index h. let x = d.user index (loaded_used index h) in (x.0, heaps.written index x.0 x.1);
    }
