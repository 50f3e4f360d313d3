-- The tokens of an image that holds an assembly name the types that they were given to.
use Rattle.std.proofs.Common.{◌≡◌, refl, sym, subst, ℕ, ◌^◌, ◌<◌, List, arith}
use Rattle.assembly_tree.specs.declared.assembly.Assembly.{Assembly}
use Rattle.type_terms.specs.declared.name.Scope.TheVariants.{Here}
use Rattle.type_terms.specs.declared.name.TypeName.{TypeName}
use Rattle.image_tokens.specs.NameTokens.{HasNameToken, of_declared, of_referred}
use Rattle.sig_codec.specs.Spelling.{SpellsType}
use Rattle.type_terms.specs.declared.term.SigType.{SigType}
use Rattle.image_tokens.specs.References.{HasSignature}
use Rattle.image_tokens.specs.declared.references.References.{References}
use Rattle.image_members.specs.Declaring.{class_place}
use Rattle.image_members.specs.Pushing.{Tables}
use Rattle.image_members.specs.declared.classes.Class.{Class}
use Rattle.image_model.specs.Naming.{HasPath, HasRefPath}
use Rattle.image_model.specs.Rows.{HasRow, token_of}
use Rattle.laws_image_parts.specs.RowsRead.{RowsAreRead, ReadsRows}
use Rattle.laws_image_parts.proofs.TypeRuns.{length_map}
use Rattle.laws_image_parts.specs.names.Owners.{SpecsAreReadable, OwnersRead}
use Rattle.laws_image_parts.specs.names.Paths.{PathsAreRead, PathsRead}
use Rattle.laws_image_parts.specs.names.Written.{IsWritten}
use Rattle.laws_image_parts.proofs.names.OneToken.{OneText, OneBlob, OneType, NamesLead, one_term}
use Rattle.laws_image_parts.proofs.names.OwnerLemmas.{owners_read}
use Rattle.laws_image_parts.proofs.names.PlaceLemmas.{leads_to, leads_in}
use Rattle.laws_image_parts.proofs.names.ReferenceLemmas.{refers_to, refers_in}

module _ (rows_read : RowsAreRead) (paths_read : PathsAreRead) (text : (image : List ℕ) → OneText image) (blob : OneBlob) (one_type : OneType)
    (a : Assembly) (classes : List Class) (r : References) (tables : Tables) (code image : List ℕ) (w : IsWritten a classes r tables code image) where
  rows : ReadsRows a classes r code image
  rows = rows_read a classes r tables code image w.filled w.reads

  paths : PathsRead classes r image
  paths = paths_read a classes r tables code image w

  abbrev Given : TypeName → ℕ → Type 0
  Given name token = HasNameToken r.heaps.strings r.declared.types r.referred.names name token

  in_defined : (row : ℕ) (name : TypeName) (token : ℕ) → Given name token → token ≡ token_of 0x02 row → (name.scope ≡ Here) × HasPath image row name.path × HasRow image 0x02 row
  in_defined row name token (of_declared {row = own} scope f is) e =
      let same : own ≡ row = (let t = is.is in omega arith) in
      let high = leads_in classes r image paths.places_are w.filled.declared.types w.heaps (text image) f in
      let count = rows.types.types.count in
      let places = length_map class_place classes in (
        scope,
        subst (λ z. HasPath image z name.path) same (leads_to classes r image paths.places_are w.filled.declared.types w.heaps (text image) f),
        (let low = high.0 in omega arith, let top = high.1 in omega arith),
      )
  in_defined row name token (of_referred scope f is) e = absurd (let t = is.is in let low = is.fits in omega arith)

  in_referred : (row : ℕ) (name : TypeName) (token : ℕ) → Given name token → token ≡ token_of 0x01 row → row < 2 ^ 24 → HasRefPath image row name.scope name.path × HasRow image 0x01 row
  in_referred row name token (of_declared scope f is) e fits = absurd (let t = is.is in let low = is.fits in omega arith)
  in_referred row name token (of_referred {number = number} {row = own} scope f is) e fits =
      let same : own ≡ row = (let t = is.is in omega arith) in
      let high = refers_in r image rows.references.names w.heaps f in (
        subst (λ z. HasRefPath image z name.scope name.path) same
            (subst (λ s. HasRefPath image own s name.path) (sym scope) (refers_to r image rows.references.names w.heaps number refl f)),
        (let low = high.0 in omega arith, let top = high.1 in omega arith),
      )

  lead : NamesLead r image
  lead = record {
    defined = λ row name token h e. let p = in_defined row name token h e in (p.0, p.1);
    referred = λ row name token h e fits. (in_referred row name token h e fits).0;
  }

  pub owners_are_read : SpecsAreReadable r → OwnersRead r image
  owners_are_read readable =
      owners_read r image (text image) blob one_type lead w.filled.known paths.types paths.references
      (λ row name token h. (λ e. (in_defined row name token h e).2, λ e fits. (in_referred row name token h e fits).1)) rows.references.specs w.heaps readable

  pub types_are_one : (t u : SigType) (at : ℕ) → HasSignature SpellsType r t at → HasSignature SpellsType r u at → t ≡ u
  types_are_one = one_term r image (text image) blob one_type lead w.filled.known
