-- What the rows of members are, by their owners, names and signatures: those that a type declares, and those of MemberRef.
use Rattle.std.proofs.Common.{◌≡◌, ap, sym, ◌∙◌, subst, ℕ, ◌+◌, List, Option, Some, Contains, arith}
use Rattle.std.specs.Prelude.{slice_get, slice_index}
use Rattle.heaps.specs.Content.{HasText, HasBlob}
use Rattle.metadata_tables.specs.declared.coded.Coded.TheVariants.{MemberRefParent}
use Rattle.sig_codec.specs.Spelling.{Notation, reading}
use Rattle.sig_codec.specs.Tokens.{GivesBack}
use Rattle.type_terms.specs.declared.name.TypeId.{TypeId}
use Rattle.type_terms.specs.declared.term.Owner.{Owner}
use Rattle.image_tokens.specs.Indexes.{index_of_token}
use Rattle.image_tokens.specs.References.{AreKnown, HasSignature, tokens_of}
use Rattle.image_tokens.specs.Texts.{HoldsText}
use Rattle.image_tokens.specs.declared.references.References.{References}
use Rattle.image_tokens.specs.declared.row_set.Cells.{Cells}
use Rattle.image_rows.specs.Filled.{three_cells}
use Rattle.image_layout.specs.Laws.{ReadsHeaps}
use Rattle.image_model.specs.Columns.{member_name, member_signature}
use Rattle.image_model.specs.Naming.{HasPath, OwnsMember, TellsOwners, here}
use Rattle.image_model.specs.Rows.{HasRow}
use Rattle.image_model.specs.Streams.{strings_of, blobs_of}
use Rattle.laws_image_parts.specs.AtRows.{Reads}
use Rattle.laws_image_parts.specs.RowCells.{member_cells}
use Rattle.laws_image_parts.specs.RowsRead.{IsMade}
use Rattle.laws_image_parts.proofs.CellLemmas.{get_low}
use Rattle.laws_image_parts.specs.names.MemberOwners.{HaveOneOwner}
use Rattle.laws_image_parts.specs.names.Parents.{ParentsRead}
use Rattle.laws_image_parts.specs.names.Paths.{TypesHavePaths}
use Rattle.laws_image_parts.proofs.names.OnePath.{path_one}
use Rattle.laws_image_parts.proofs.names.OneToken.{OneText, OneBlob}
use Rattle.laws_image_parts.proofs.names.SignatureLemmas.{Rereads, SpellsOne, reads_back, one_signature, in_image}

-- what is known of an image and of what its tokens name as types
pub record Setting (r : References) (image : List ℕ) (owners : ℕ → Option Owner) : Type 0 where
  pub text : OneText image
  pub blob : OneBlob
  pub heaps : ReadsHeaps r image
  pub back : GivesBack (tokens_of r) owners
  pub tells : TellsOwners image owners
  pub paths : TypesHavePaths image
  pub parents : ParentsRead r image owners
  pub known : AreKnown r
  pub reads : Reads 0x0A member_cells (IsMade three_cells) r.referred.members image

-- what is known of a kind of signatures
pub record IsCodec {Y : Type 0} (Spells : Notation → Y → List ℕ → Type 0) (Taken : Y → Type 0) : Type 0 where
  pub rereads : Rereads Spells
  pub one : SpellsOne Spells Taken

-- a signature stands at a blob's index
pub record ReadsAs {Y : Type 0} (Spells : Notation → Y → List ℕ → Type 0) (Taken : Y → Type 0) (image : List ℕ) (owners : ℕ → Option Owner) (index : ℕ) (y : Y) : Type 0 where
  pub bytes : List ℕ
  pub held : HasBlob (blobs_of image) index bytes
  pub spelled : Spells (reading owners) y bytes
  pub taken : Taken y

-- a member by its parts
pub record Member (Y : Type 0) : Type 0 where
  pub owner : Owner
  pub name : List ℕ
  pub sig : Y

pub same_member : {Y : Type 0} (m n : Member Y) → m.owner ≡ n.owner → m.name ≡ n.name → m.sig ≡ n.sig → m ≡ n
same_member m n o t s = λ i. record { owner = o i; name = t i; sig = s i }

module _ {Y : Type 0} (Spells : Notation → Y → List ℕ → Type 0) (Taken : Y → Type 0) (codec : IsCodec Spells Taken) (r : References) (image : List ℕ)
    (owners : ℕ → Option Owner) (s : Setting r image owners) where
  abbrev At : ℕ → Y → Type 0
  At = ReadsAs Spells Taken image owners

  pub at_one : (index : ℕ) (y z : Y) → At index y → At index z → y ≡ z
  at_one index y z h k =
      let same : h.bytes ≡ k.bytes = s.blob (blobs_of image) index h.bytes k.bytes h.held k.held in
      codec.one owners k.bytes y z (subst (Spells (reading owners) y) same h.spelled) h.taken k.spelled k.taken

  pub at_written : (y : Y) (at index : ℕ) → HasSignature Spells r y at → index ≡ at → Taken y → At index y
  at_written y at index h is taken = record {
    bytes = h.bytes;
    held = in_image Spells Taken codec.rereads codec.one r image s.blob s.heaps owners s.back y at index h is;
    spelled = reads_back Spells Taken codec.rereads codec.one r image s.blob s.heaps owners s.back y at h;
    taken = taken;
  }

  pub written_one : (y z : Y) (at : ℕ) → HasSignature Spells r y at → HasSignature Spells r z at → Taken y → Taken z → y ≡ z
  written_one y z at h k t u = one_signature Spells Taken codec.rereads codec.one r image s.blob s.heaps owners s.back y z at h k t u

  pub text_one : (index : ℕ) (t u : List ℕ) → HoldsText r.heaps.strings t index → HoldsText r.heaps.strings u index → t ≡ u
  text_one index t u h k = s.text index t u (s.heaps.texts index t h.there) (s.heaps.texts index u k.there)

  -- ---- rows of MemberRef

  pub record Refers (row : ℕ) (m : Member Y) : Type 0 where
    pub there : HasRow image 0x0A row
    pub owns : OwnsMember image owners row m.owner
    pub name_is : HasText (strings_of image) (member_name image row) m.name
    pub sig_is : At (member_signature image row) m.sig

  pub refers_one : (row : ℕ) (m n : Member Y) → Refers row m → Refers row n → m ≡ n
  refers_one row m n h k =
      same_member m n (s.parents.one row m.owner n.owner h.owns k.owns) (s.text (member_name image row) m.name n.name h.name_is k.name_is)
      (at_one (member_signature image row) m.sig n.sig h.sig_is k.sig_is)

  pub refers_made : (k : ℕ) (cells : Cells) (m : Member Y) (token : ℕ) → slice_get r.referred.members k ≡ Some cells → tokens_of r m.owner ≡ Some token
      → cells.first ≡ index_of_token MemberRefParent token → HoldsText r.heaps.strings m.name cells.second → HasSignature Spells r m.sig cells.third → Taken m.sig
      → Refers (1 + k) m
  refers_made k cells m token at has is name sig taken =
      let row = s.reads.each k cells at in
      let count = s.reads.count in
      let low = get_low r.referred.members k cells at in
      let text : member_name image (1 + k) ≡ cells.second = ap (λ (cs : List ℕ). slice_index cs 1) row in
      let blob : member_signature image (1 + k) ≡ cells.third = ap (λ (cs : List ℕ). slice_index cs 2) row in
      record {
        there = (omega arith, omega arith);
        owns = s.parents.made k cells m.owner token at has is;
        name_is = subst (λ n. HasText (strings_of image) n m.name) (sym text) (s.heaps.texts cells.second m.name name.there);
        sig_is = at_written m.sig cells.third (member_signature image (1 + k)) sig blob taken;
      }

  -- ---- rows of what types declare

  module _ (table : ℕ) (name_at sig_at : ℕ → ℕ) (members_of : ℕ → List ℕ) (own : HaveOneOwner image table members_of) where
    pub record Defines (row : ℕ) (m : Member Y) : Type 0 where
      pub there : HasRow image table row
      pub type : ℕ
      pub type_there : HasRow image 0x02 type
      pub within : Contains (members_of type) row
      pub path : List TypeId
      pub leads : HasPath image type path
      pub owner_is : m.owner ≡ here path
      pub name_is : HasText (strings_of image) (name_at row) m.name
      pub sig_is : At (sig_at row) m.sig

    pub defines_one : (row : ℕ) (m n : Member Y) → Defines row m → Defines row n → m ≡ n
    defines_one row m n h k =
        let types : k.type ≡ h.type = own.one row k.type h.type k.type_there h.type_there k.within h.within in
        let paths : h.path ≡ k.path = path_one image s.text h.leads (subst (λ t. HasPath image t k.path) types k.leads) in
        same_member m n (h.owner_is ∙ ap here paths ∙ sym k.owner_is) (s.text (name_at row) m.name n.name h.name_is k.name_is)
        (at_one (sig_at row) m.sig n.sig h.sig_is k.sig_is)
