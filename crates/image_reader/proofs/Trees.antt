-- What is read of what is kept is what the image gives.
use Rattle.std.proofs.Common.{ℕ, ◌≤◌, ◌^◌, List, Option, length, refl}
use Rattle.std.specs.Prelude.{IfOk, Result, Ok, Err, codes}
use Rattle.type_terms.specs.declared.term.Owner.{Owner}
use Rattle.assembly_tree.specs.declared.assembly.Assembly.{Assembly}
use Rattle.body_codec.specs.Names.{NameMap}
use Rattle.data_demands.specs.Measured.{CanMeasure}
use Rattle.formed_images.specs.Laws as formed
use Rattle.formed_images.proofs.Bytes.{stream_bytes}
use Rattle.image_demands.specs.Meeting.{MeetDemands}
use Rattle.image_model.specs.Faults.{HasTables, signatures, distinct, values}
use Rattle.image_model.specs.Members.{HasValues, OverridesInClass}
use Rattle.image_model.specs.Naming.{TellsOwners}
use Rattle.image_model.specs.Namings.{AreNamings}
use Rattle.image_model.specs.Reading.{IsAssembly}
use Rattle.image_model.specs.Rows.{HasRow}
use Rattle.image_model.specs.Streams.{tables_of}
use Rattle.image_names.specs.Named.{CanName}
use Rattle.image_ready.specs.Keeping.{Keeps}
use Rattle.image_ready.specs.Laws.{MeetsAll, ImagesAreReady, ReadIsTrue}
use Rattle.image_source.specs.Names.{names_of}
use Rattle.image_source.specs.Ready.{IsReady}
use Rattle.kept_names.specs.declared.names.KeptNames.{KeptNames}
use Rattle.kept_owners.specs.Owners.{KeepsOwners}
use Rattle.row_parts.specs.Kinds.{AreBytes}
use Rattle.image_reader.specs.Outcome.{IsTreeOf, AreKept, AreSizes}

module _ (image : List ℕ) (small : length image ≤ 2 ^ 26) (has : HasTables image) (meets : MeetDemands image) where
  pub values_hold : (table row : ℕ) (names : NameMap) → AreNamings image names → HasValues image names table row
  values_hold table row names are = meets.rows names are values table row

  pub can_measure : CanMeasure image
  can_measure = record {
    meets = meets.structure;
    scopes = meets.scopes;
    named = meets.named;
    signatures = λ names are. meets.rows names are signatures;
    distinct = λ names are. meets.rows names are distinct;
  }

  pub overrides : (row : ℕ) → HasRow image 0x19 row → OverridesInClass image row
  overrides row there = (values_hold 0x19 row meets.named.0 meets.named.1).override refl there

  -- ---- names

  -- the types that rows name are kept, so all else can be
  pub can_name : (known : KeptNames) → ((owners : ℕ → Option Owner) → TellsOwners image owners → KeepsOwners image owners known) → (names : NameMap) → AreNamings image names → CanName image names known
  can_name known keeps names are = record {
    short = small;
    tables = has;
    named = are;
    before = λ rule less. meets.rows names are rule;
    owners = keeps names.owners are.owners;
  }

  pub all_kept : {E : Type 0} (known : KeptNames) → ((owners : ℕ → Option Owner) → TellsOwners image owners → KeepsOwners image owners known)
      → (r : Result KeptNames E) → IfOk r (λ kept. (names : NameMap) → CanName image names known → Keeps image names kept) → IfOk r (AreKept image)
  all_kept known keeps (Ok kept) h = λ names are. h names (can_name known keeps names are)
  all_kept known keeps (Err e) h = tt

  -- ---- trees

  module _ (bytes : formed.AreBytes image) (kept : KeptNames) (sizes : List ℕ) (kept_are : AreKept image kept) (sizes_are : AreSizes image sizes) where
    table_bytes : AreBytes (tables_of image)
    table_bytes = stream_bytes image (codes "#~") bytes

    all : (names : NameMap) → AreNamings image names → MeetsAll image names kept sizes
    all names are = record {
      short = small;
      bytes = table_bytes;
      tables = has;
      named = are;
      rows = meets.rows names are;
      kept_are = kept_are names are;
      sizes_are = sizes_are names are;
    }

    pub ready : ImagesAreReady → IsReady image kept sizes
    ready law = law image meets.named.0 kept sizes (all meets.named.0 meets.named.1)

    is_tree : ReadIsTrue → (a : Assembly) → IsAssembly image (names_of kept) a → IsTreeOf image a
    is_tree law a h names are = law image names kept sizes a (all names are) h

    pub tree_read : {E : Type 0} → ReadIsTrue → (r : Result Assembly E) → IfOk r (IsAssembly image (names_of kept)) → IfOk r (IsTreeOf image)
    tree_read law (Ok a) h = is_tree law a h
    tree_read law (Err e) h = tt
