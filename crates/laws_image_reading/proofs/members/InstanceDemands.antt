-- A row of MethodSpec has as many arguments as its method has generic parameters.
use Rattle.std.proofs.Common.{◌≡◌, ap, refl, sym, ◌∙◌, subst, ℕ, ◌+◌, List, Some, None, arith}
use Rattle.std.specs.Prelude.{slice_get, slice_index}
use Rattle.metadata_tables.specs.declared.coded.Coded.TheVariants.{MethodDefOrRef}
use Rattle.assembly_tree.specs.declared.assembly.Assembly.{Assembly}
use Rattle.body_codec.specs.Back.{NamesBack}
use Rattle.body_codec.specs.Names.{NameMap}
use Rattle.sig_codec.specs.Signature.{SpellsMethod}
use Rattle.type_terms.specs.declared.reference.MethodRef.{MethodRef}
use Rattle.type_terms.specs.declared.reference.MethodSig.{MethodSig}
use Rattle.image_tokens.specs.Indexes.{index_of_token}
use Rattle.image_tokens.specs.References.{HasGenericToken, of_declared, of_referred}
use Rattle.image_tokens.specs.declared.references.References.{References}
use Rattle.image_tokens.specs.declared.row_set.Cells.{Cells}
use Rattle.image_members.specs.CodeBytes.{all_tokens}
use Rattle.image_members.specs.Pushing.{Tables}
use Rattle.image_members.specs.declared.classes.Class.{Class}
use Rattle.image_model.specs.Columns.{instance_method, method_name, method_signature}
use Rattle.image_model.specs.Members.{FitsInstance}
use Rattle.image_model.specs.Naming.{NamesMethod, OwnsMethod}
use Rattle.image_model.specs.Namings.{AreNamings}
use Rattle.image_model.specs.Rows.{Names, methods_of, token_of}
use Rattle.image_model.specs.Terms.{InstanceHas}
use Rattle.laws_image_parts.specs.RowsRead.{ReadsRows}
use Rattle.laws_image_parts.specs.RunsRead.{RunsRead}
use Rattle.laws_image_parts.specs.names.MemberOwners.{MembersOwned}
use Rattle.laws_image_parts.specs.names.Owners.{OwnersRead}
use Rattle.laws_image_parts.specs.names.Written.{IsWritten}
use Rattle.laws_image_parts.specs.namings.Readable.{IsMethodTaken, MembersAreReadable}
use Rattle.laws_image_parts.proofs.namings.DeclaredRows.{methods_declared, declared_count}
use Rattle.laws_image_parts.proofs.namings.MemberKinds.{method_kinds}
use Rattle.laws_image_parts.proofs.namings.MemberRows.{Setting, Member}
use Rattle.laws_image_parts.proofs.namings.MemberTokens.{Declares, IsMember, defined, referred, member_given}
use Rattle.laws_image_parts.proofs.namings.MembersRead.{BelowSays}
use Rattle.laws_image_reading.specs.members.Bounded.{IsBoundedInstance}
use Rattle.laws_image_reading.proofs.members.SignatureDemands.{names_method_row, names_member_row}

module _ (below : BelowSays) (a : Assembly) (classes : List Class) (r : References) (tables : Tables) (code image : List ℕ) (w : IsWritten a classes r tables code image)
    (readable : MembersAreReadable r) (names : NameMap) (namings : AreNamings image names) (back : NamesBack (all_tokens r) names) where
  rows : ReadsRows a classes r code image
  rows = below.rows a classes r tables code image w.filled w.reads

  runs : RunsRead a classes r code image
  runs = below.runs a classes r code image rows

  own : MembersOwned image
  own = below.owned a classes r tables code image w

  owners : OwnersRead r image
  owners = record { owners = names.owners; tells = namings.owners; back = back.owners }

  setting : Setting r image names.owners
  unfolding owners
  setting = record {
    text = below.text image;
    blob = below.blob;
    heaps = w.heaps;
    back = back.owners;
    tells = namings.owners;
    paths = (below.paths a classes r tables code image w).types;
    parents = below.parents a classes r tables code image w owners;
    known = w.filled.known;
    reads = rows.references.members;
  }

  facts : Declares SpellsMethod IsMethodTaken r image names.owners 0x06 (method_name image) (method_signature image) (methods_of image) r.declared.methods
  facts = record {
    codec = below.methods;
    own = own.methods;
    other = λ e. omega arith;
    count = declared_count below.law a classes r code image rows runs w.heaps own w.filled.declared;
    made = methods_declared below.law a classes r code image rows runs w.heaps own w.filled.declared;
    kinds = method_kinds r names.owners w.filled.known;
    readable = readable.methods;
    readable_members = readable.member_methods;
  }

  -- a method without arguments
  plain_of : Member MethodSig → MethodRef
  plain_of m = record { owner = m.owner; name = m.name; sig = m.sig; args = None }

  plain_named : (token : ℕ) (m : Member MethodSig)
      → IsMember SpellsMethod IsMethodTaken r image names.owners setting 0x06 (method_name image) (method_signature image) (methods_of image) r.declared.methods facts token m
      → NamesMethod image names.owners token (plain_of m)
  unfolding plain_of
  plain_named token m (defined i h) =
      subst (λ o. NamesMethod image names.owners token (record { owner = o; name = m.name; sig = m.sig; args = None })) (sym h.owner_is)
      (NamesMethod.defined i h.there (OwnsMethod.owns h.type_there h.within h.leads) h.name_is h.sig_is.held (h.sig_is.spelled, h.sig_is.taken.0, h.sig_is.taken.1))
  plain_named token m (referred i h) = NamesMethod.referred i h.there h.owns h.name_is h.sig_is.held (h.sig_is.spelled, h.sig_is.taken.0, h.sig_is.taken.1)

  generic_named : (m : MethodRef) (token : ℕ) → HasGenericToken r m token → (n : MethodRef) × (names.methods token ≡ Some n) × (n.sig.generic ≡ m.sig.generic)
  unfolding plain_of
  generic_named m token h =
      let x : Member MethodSig = record { owner = m.owner; name = m.name; sig = m.sig } in
      let is = member_given SpellsMethod IsMethodTaken r image names.owners setting 0x06 (method_name image) (method_signature image) (methods_of image) r.declared.methods facts
      m.owner m.name m.sig token h in
      (plain_of x, (namings.methods token (plain_of x)).1 (plain_named token x is), refl)

  -- the row with a method's token
  token_row : (m : MethodRef) (token : ℕ) → HasGenericToken r m token → (table row : ℕ) × Names MethodDefOrRef (index_of_token MethodDefOrRef token) table row × (token ≡ token_of table row)
  token_row m token (of_declared {row = row} has high h is) = (0x06, row, names_method_row token row (record { is = is.is; fits = is.fits }), is.is)
  token_row m token (of_referred {row = row} has h is) = (0x0A, row, names_member_row token row (record { is = is.is; fits = is.fits }), is.is)

  pub instance_fits : (k : ℕ) (cells : Cells) (h : IsBoundedInstance r cells) → slice_get r.referred.instances k ≡ Some cells → InstanceHas image names (1 + k) h.arguments
      → FitsInstance image names (1 + k)
  instance_fits k cells h at has =
      let coded : instance_method image (1 + k) ≡ index_of_token MethodDefOrRef h.generic = ap (λ (cs : List ℕ). slice_index cs 0) (rows.references.instances.each k cells at) ∙ h.first_is in
      let t = token_row h.method h.generic h.generic_is in
      let n = generic_named h.method h.generic h.generic_is in (
        t.0,
        t.1,
        n.0,
        h.arguments,
        subst (λ v. Names MethodDefOrRef v t.0 t.1) (sym coded) t.2,
        subst (λ token. names.methods token ≡ Some n.0) t.3 n.1,
        has,
        h.count ∙ sym n.2,
      )
