-- An image reads as one assembly at most, and then has no fault.
use Rattle.std.proofs.Common.{◌≡◌, ℕ, ◌+◌, List, [], ◌++◌, Option, refl, ap, subst, arith}
use Rattle.std.specs.Cmp.{IsTotalOrder}
use Rattle.heaps.specs.Content.{HasText, HasBlob}
use Rattle.pe_layout.specs.Faults.{pe_fault}
use Rattle.metadata_tables.specs.Laws.{OneFault as TablesLaw}
use Rattle.sig_codec.specs.Spelling.{reading, SpellsType}
use Rattle.sig_codec.specs.Signature as signature
use Rattle.type_terms.specs.Order.{owner_order}
use Rattle.type_terms.specs.declared.reference.MethodSig.{MethodSig}
use Rattle.type_terms.specs.declared.term.Owner.{Owner}
use Rattle.type_terms.specs.declared.term.SigType.{SigType}
use Rattle.assembly_tree.specs.Weight.{weight_of}
use Rattle.assembly_tree.specs.declared.assembly.Assembly.{Assembly}
use Rattle.assembly_tree.specs.declared.body.Body.{Body}
use Rattle.image_model.specs.declared.place.Place.{Place}
use Rattle.body_codec.specs.Names.{NameMap, reading as by_names}
use Rattle.body_codec.specs.Bodies.{Spells}
use Rattle.image_model.specs.Streams.{tables_of, strings_of, blobs_of}
use Rattle.image_model.specs.Namings.{AreNamings}
use Rattle.image_model.specs.Reading.{IsField, IsMethod, IsExtern, IsAssembly}
use Rattle.image_model.specs.Faults.{RowRule, indexes, distinct, values, Holds, Reads, IsImageFault}
use Rattle.image_model.proofs.General.{zip_one}
use Rattle.image_model.proofs.OneNaming.{one_naming}
use Rattle.image_model.proofs.OneFault.{clash, all_hold}
use Rattle.image_model.proofs.OnePart.{Facts, manifest_one, extern_one, field_one, method_one}
use Rattle.image_model.proofs.OneSize.{size_one}
use Rattle.image_model.proofs.OneType.{types_one}

-- the laws of the layers below
pub record Given : Type 0 where
  pub text : (heap : List ℕ) (index : ℕ) (text other : List ℕ) → HasText heap index text → HasText heap index other → text ≡ other
  pub blob : (heap : List ℕ) (index : ℕ) (blob other : List ℕ) → HasBlob heap index blob → HasBlob heap index other → blob ≡ other
  pub begins : (owners : ℕ → Option Owner) (s t : SigType) (front other after beyond : List ℕ) → SpellsType (reading owners) s front → SpellsType (reading owners) t other
      → front ++ after ≡ other ++ beyond → (front ≡ other) × (s ≡ t) × (after ≡ beyond)
  pub method : (owners : ℕ → Option Owner) (bytes : List ℕ) (s t : MethodSig) → signature.IsMethod owners bytes s → signature.IsMethod owners bytes t → s ≡ t
  pub field : (owners : ℕ → Option Owner) (bytes : List ℕ) (s t : SigType) → signature.IsField owners bytes s → signature.IsField owners bytes t → s ≡ t
  pub property : (owners : ℕ → Option Owner) (bytes : List ℕ) (s t : MethodSig) → signature.IsProperty owners bytes s → signature.IsProperty owners bytes t → s ≡ t
  pub body : (names : NameMap) (bytes : List ℕ) (a b : Body) (m n : ℕ) → Spells (by_names names) bytes a m → Spells (by_names names) bytes b n → (a ≡ b) × (m ≡ n)
  pub total : IsTotalOrder owner_order
  pub tables : TablesLaw

module _ (given : Given) (image : List ℕ) where
  type_law : (owners : ℕ → Option Owner) (bytes : List ℕ) (s t : SigType) → signature.IsType owners bytes s → signature.IsType owners bytes t → s ≡ t
  type_law owners bytes s t h k = (given.begins owners s t bytes bytes [] [] h.0 k.0 refl).1

  facts_of : (names : NameMap) → ((rule : RowRule) → Holds image names rule) → Facts image names
  facts_of names rows = record {
    text = given.text (strings_of image);
    blob = given.blob (blobs_of image);
    type = type_law names.owners;
    field = given.field names.owners;
    method = given.method names.owners;
    property = given.property names.owners;
    body = λ bytes a b h k. (given.body names bytes a b h.0 k.0 h.1 k.1).0;
    size = λ t m n h k. size_one image (λ early late some lt there alike. (rows distinct 0x02 late).type refl there early some lt alike) (λ type there. ((rows values 0x02 type).layout refl there).one) h k;
  }

  assembly_one : (names : NameMap) → ((rule : RowRule) → Holds image names rule) → (a b : Assembly) → IsAssembly image names a → IsAssembly image names b → a ≡ b
  assembly_one names rows a b h k =
      let facts = facts_of names rows in
      let m = manifest_one image names facts a.manifest b.manifest h.manifest k.manifest in
      let e = zip_one (IsExtern image) (extern_one image names facts) _ a.externs b.externs h.externs k.externs in
      let f = zip_one (IsField image names) (field_one image names facts) _ a.fields b.fields h.fields k.fields in
      let d = zip_one (IsMethod image names) (method_one image names facts) _ a.methods b.methods h.methods k.methods in
      let t = types_one image names facts given.total h.types k.types in
      λ i. record { manifest = m i; externs = e i; fields = f i; methods = d i; types = t i }

  -- two assemblies that are read by names of the image are one
  parts_one : (names others : NameMap) → AreNamings image names → AreNamings image others → ((rule : RowRule) → Holds image others rule) → (a b : Assembly)
      → IsAssembly image names a → IsAssembly image others b → a ≡ b
  parts_one names others n m rows a b h k = assembly_one others rows a b (subst (λ x. IsAssembly image x a) (one_naming image names others n m) h) k

  pub one_reading : (a b : Assembly) → Reads image a → Reads image b → a ≡ b
  one_reading a b h k = parts_one h.names k.names h.named k.named k.rows a b h.parts k.parts

  pub faultless : (a : Assembly) (rule : ℕ) (at : Place) → Reads image a → IsImageFault image rule at → ⊥
  faultless a rule at h (IsImageFault.in_headers {fault = g} e k) = clash (pe_fault image) g e h.tables.headers
  faultless a rule at h (IsImageFault.no_cli_header {fault = g} e k) = clash (pe_fault image) g e h.tables.headers
  faultless a rule at h (IsImageFault.in_cli_header n k) = k h.tables.cli
  faultless a rule at h (IsImageFault.in_root n c k) = k h.tables.root
  faultless a rule at h (IsImageFault.in_tables {fault = g} n c r k) = given.tables.none (tables_of image) g h.tables.whole k
  faultless a rule at h (IsImageFault.in_row names {rule = o} {table = t} {row = r} q d c k e) = all_hold image given.tables names h.names o t r d h.named h.rows k
  faultless a rule at h (IsImageFault.in_entry q all k) = k (h.rows indexes).1
  faultless a rule at h (IsImageFault.too_large {names = n} {a = b} q m all p k) =
      let same = parts_one n h.names m h.named h.rows b a p h.parts in
      let low = h.weight in
      omega (arith, ap weight_of same, k, low)
