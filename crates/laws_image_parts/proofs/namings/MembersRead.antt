-- What the tokens of fields and methods name in an image that holds an assembly.
use Rattle.std.proofs.Common.{◌≡◌, subst, ℕ, List, Some, arith}
use Rattle.heaps.specs.Content.{HasBlob}
use Rattle.metadata_tables.specs.Indexes.{IndexesFit}
use Rattle.assembly_tree.specs.declared.assembly.Assembly.{Assembly}
use Rattle.sig_codec.specs.Signature.{SpellsField, SpellsMethod, SpellsInstantiation}
use Rattle.sig_codec.specs.Spelling.{reading}
use Rattle.type_terms.specs.declared.reference.FieldRef.{FieldRef}
use Rattle.type_terms.specs.declared.reference.MethodRef.{MethodRef}
use Rattle.type_terms.specs.declared.reference.MethodSig.{MethodSig}
use Rattle.type_terms.specs.declared.term.SigType.{SigType}
use Rattle.image_tokens.specs.Found.{token_in}
use Rattle.image_tokens.specs.KnownTokens.{fields_apart}
use Rattle.image_tokens.specs.declared.references.References.{References}
use Rattle.image_members.specs.Pushing.{Tables}
use Rattle.image_members.specs.declared.classes.Class.{Class}
use Rattle.image_model.specs.Columns.{field_name, field_signature, member_signature, method_name, method_signature}
use Rattle.image_model.specs.Naming.{IsToken, NamesMethod}
use Rattle.image_model.specs.Rows.{fields_of, methods_of}
use Rattle.image_model.specs.Streams.{blobs_of}
use Rattle.laws_image_parts.specs.RowsRead.{RowsAreRead, ReadsRows}
use Rattle.laws_image_parts.specs.RunsRead.{RunsAreRead, RunsRead}
use Rattle.laws_image_parts.specs.names.Locals.{AreTaken}
use Rattle.laws_image_parts.specs.names.MemberOwners.{MembersAreOwned, MembersOwned}
use Rattle.laws_image_parts.specs.names.Owners.{OwnersRead}
use Rattle.laws_image_parts.specs.names.Parents.{ParentsAreRead}
use Rattle.laws_image_parts.specs.names.Paths.{PathsAreRead}
use Rattle.laws_image_parts.specs.names.Written.{IsWritten}
use Rattle.laws_image_parts.proofs.names.OneToken.{OneText, OneBlob}
use Rattle.laws_image_parts.specs.namings.Members.{FieldsRead, MethodsRead}
use Rattle.laws_image_parts.specs.namings.Readable.{IsTypeTaken, IsMethodTaken, MembersAreReadable}
use Rattle.laws_image_parts.proofs.namings.DeclaredRows.{fields_declared, fields_count, field_there, methods_declared, declared_count}
use Rattle.laws_image_parts.proofs.namings.FieldNames.{IsField, field_given, fields_read}
use Rattle.laws_image_parts.proofs.namings.MemberKinds.{field_kinds, method_kinds, no_both}
use Rattle.laws_image_parts.proofs.namings.MemberRows.{Setting, IsCodec, Member}
use Rattle.laws_image_parts.proofs.namings.MemberTokens.{Declares, defined, referred}
use Rattle.laws_image_parts.proofs.namings.MethodNames.{IsPlain, methods_read, no_method}

-- what the laws of crates below say
pub record BelowSays : Type 0 where
  pub law : IndexesFit
  pub text : (image : List ℕ) → OneText image
  pub blob : OneBlob
  pub rows : RowsAreRead
  pub runs : RunsAreRead
  pub paths : PathsAreRead
  pub owned : MembersAreOwned
  pub parents : ParentsAreRead
  pub fields : IsCodec SpellsField IsTypeTaken
  pub methods : IsCodec SpellsMethod IsMethodTaken
  pub arguments : IsCodec SpellsInstantiation AreTaken

module _ (below : BelowSays) (a : Assembly) (classes : List Class) (r : References) (tables : Tables) (code image : List ℕ) (w : IsWritten a classes r tables code image)
    (readable : MembersAreReadable r) (o : OwnersRead r image) where
  rows : ReadsRows a classes r code image
  rows = below.rows a classes r tables code image w.filled w.reads

  runs : RunsRead a classes r code image
  runs = below.runs a classes r code image rows

  own : MembersOwned image
  own = below.owned a classes r tables code image w

  setting : Setting r image o.owners
  setting = record {
    text = below.text image;
    blob = below.blob;
    heaps = w.heaps;
    back = o.back;
    tells = o.tells;
    paths = (below.paths a classes r tables code image w).types;
    parents = below.parents a classes r tables code image w o;
    known = w.filled.known;
    reads = rows.references.members;
  }

  field_facts : Declares SpellsField IsTypeTaken r image o.owners 0x04 (field_name image) (field_signature image) (fields_of image) r.declared.fields
  field_facts = record {
    codec = below.fields;
    own = own.fields;
    other = λ e. omega arith;
    count = fields_count below.law a classes r code image rows runs w.heaps own w.filled.declared;
    made = fields_declared below.law a classes r code image rows runs w.heaps own w.filled.declared;
    kinds = field_kinds r o.owners w.filled.known;
    readable = readable.fields;
    readable_members = readable.member_fields;
  }

  method_facts : Declares SpellsMethod IsMethodTaken r image o.owners 0x06 (method_name image) (method_signature image) (methods_of image) r.declared.methods
  method_facts = record {
    codec = below.methods;
    own = own.methods;
    other = λ e. omega arith;
    count = declared_count below.law a classes r code image rows runs w.heaps own w.filled.declared;
    made = methods_declared below.law a classes r code image rows runs w.heaps own w.filled.declared;
    kinds = method_kinds r o.owners w.filled.known;
    readable = readable.methods;
    readable_members = readable.member_methods;
  }

  pub fields_are_read : FieldsRead r image o.owners
  fields_are_read = fields_read r image o.owners setting field_facts (field_there below.law a classes r code image rows runs w.heaps own w.filled.declared)

  -- a token is that of a field, and not of a method

  abbrev Plain : ℕ → Member MethodSig → Type 0
  Plain = IsPlain r image o.owners setting method_facts below.arguments rows.references.instances readable.arguments

  abbrev Field : ℕ → Member SigType → Type 0
  Field = IsField r image o.owners setting field_facts (field_there below.law a classes r code image rows runs w.heaps own w.filled.declared)

  not_plain : (token : ℕ) (f : Member SigType) (m : Member MethodSig) → Field token f → Plain token m → ⊥
  not_plain token f m (defined i h) (defined j k) = (let x = i.is in let y = j.is in let u = i.fits in let v = j.fits in omega arith)
  not_plain token f m (defined i h) (referred j k) = (let x = i.is in let y = j.is in let u = i.fits in let v = j.fits in omega arith)
  not_plain token f m (referred i h) (defined j k) = (let x = i.is in let y = j.is in let u = i.fits in let v = j.fits in omega arith)
  not_plain token f m (referred {row = row} i h) (referred {row = other} j k) =
      let rows : other ≡ row = (let x = i.is in let y = j.is in omega arith) in
      let there : HasBlob (blobs_of image) (member_signature image row) k.sig_is.bytes = subst (λ n. HasBlob (blobs_of image) (member_signature image n) k.sig_is.bytes) rows k.sig_is.held in
      let same : h.sig_is.bytes ≡ k.sig_is.bytes = below.blob (blobs_of image) (member_signature image row) h.sig_is.bytes k.sig_is.bytes h.sig_is.held there in
      no_both (reading o.owners) (reading o.owners) f.sig m.sig k.sig_is.bytes (subst (SpellsField (reading o.owners) f.sig) same h.sig_is.spelled) k.sig_is.spelled

  not_instance : (token : ℕ) (f : Member SigType) (row : ℕ) → Field token f → IsToken token 0x2B row → ⊥
  not_instance token f row (defined i h) j = (let x = i.is in let y = j.is in let u = i.fits in let v = j.fits in omega arith)
  not_instance token f row (referred i h) j = (let x = i.is in let y = j.is in let u = i.fits in let v = j.fits in omega arith)

  no_field_method : (f : FieldRef) (token : ℕ) → token_in fields_apart r.known.fields f ≡ Some token → (m : MethodRef) → NamesMethod image o.owners token m → ⊥
  no_field_method f token at =
      let x = field_given r image o.owners setting field_facts (field_there below.law a classes r code image rows runs w.heaps own w.filled.declared) f token at in
      no_method r image o.owners setting method_facts below.arguments rows.references.instances readable.arguments token (λ m h. not_plain token x.0 m x.2 h) (λ row j. not_instance token x.0 row x.2 j)

  pub methods_are_read : MethodsRead r image o.owners
  methods_are_read = methods_read r image o.owners setting method_facts below.arguments rows.references.instances readable.arguments no_field_method
