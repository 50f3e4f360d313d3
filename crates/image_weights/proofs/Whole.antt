-- The rows of an image weigh what the assembly weighs as which it reads.
use Rattle.std.proofs.Common.{◌≡◌, ℕ, ◌≤◌, Bool, false, List, length, take, Option, refl, sym, ◌∙◌, ap, subst, arith}
use Rattle.std.specs.Prelude.{slice_index}
use Rattle.std.specs.Cmp.{IsTotalOrder}
use Rattle.std.proofs.lemmas.List.{length-take-le}
use Rattle.heaps.specs.Content.{HasText, HasBlob}
use Rattle.heaps.specs.LookUp.{BlobIsComputed}
use Rattle.pe_layout.specs.FileMap.{readable}
use Rattle.metadata_tables.specs.Schema.{schema}
use Rattle.metadata_tables.specs.declared.coded.Coded.TheVariants.{TypeDefOrRef}
use Rattle.sig_codec.specs.Signature.{IsField}
use Rattle.type_terms.specs.Order.{owner_order}
use Rattle.type_terms.specs.declared.term.Owner.{Owner}
use Rattle.type_terms.specs.declared.term.SigType.{SigType}
use Rattle.assembly_tree.specs.Weight.{owner_weight, extern_weight, field_weight, method_weight, weight_of}
use Rattle.assembly_tree.specs.declared.assembly.Assembly.{Assembly}
use Rattle.body_codec.specs.Names.{NameMap}
use Rattle.image_model.specs.Columns.{data_field, data_rva, field_signature, interface_type}
use Rattle.image_model.specs.Faults.{indexes, entries, manifest, runs, order, scopes, distinct, values}
use Rattle.image_model.specs.Members.{HasDataSize}
use Rattle.image_model.specs.Naming.{RowOwner}
use Rattle.image_model.specs.Reading.{OwnerIs, IsExtern, IsField as ReadsField, IsMethod as ReadsMethod, IsAssembly}
use Rattle.image_model.specs.Rows.{HasRow, rows_of, fields_of, methods_of, events_of, properties_of}
use Rattle.image_model.specs.Streams.{strings_of, blobs_of}
use Rattle.image_model.specs.Terms.{FieldHas}
use Rattle.image_weights.proofs.Sizes.{size_one}
use Rattle.image_namings.proofs.General.{names_one}
use Rattle.image_namings.proofs.Indexes.{named_row}
use Rattle.image_namings.proofs.Owners.{ReadsTypes, owner_one}
use Rattle.formed_references.proofs.Words.{to_among}
use Rattle.image_assemblies.proofs.Parts.{owner_is, stood}
use Rattle.image_ready.specs.Laws.{AreDataSizes}
use Rattle.row_demands.specs.Structured.{MeetStructure}
use Rattle.row_parts.proofs.OwnedRows.{owned_among}
use Rattle.told_weights.specs.Told.{Told, TellWeights}
use Rattle.told_weights.specs.Fresh.{AreFreshBy}
use Rattle.image_weights.specs.RowWeights.{owner, extern_row, field_row, method_row, image_weight}
use Rattle.image_weights.specs.Standing.{MeetsRules, Stands}
use Rattle.image_weights.proofs.Alike.{Alike, plus, exactly}
use Rattle.image_weights.proofs.Firsts.{first_type}
use Rattle.image_weights.proofs.Interfaces.{interfaces_weigh}
use Rattle.image_weights.proofs.Parts.{SizesAre, owner_told, field_weighs, method_weighs, extern_weighs, manifest_weighs}
use Rattle.image_weights.proofs.Sums.{zip_sums, contained}
use Rattle.image_weights.proofs.Types.{all_weigh, enclosed_later, not_under_module}

-- the laws of the layers below
pub record Laws : Type 0 where
  pub text : (heap : List ℕ) (index : ℕ) (text other : List ℕ) → HasText heap index text → HasText heap index other → text ≡ other
  pub blob : (heap : List ℕ) (index : ℕ) (blob other : List ℕ) → HasBlob heap index blob → HasBlob heap index other → blob ≡ other
  pub field : (owners : ℕ → Option Owner) (bytes : List ℕ) (s t : SigType) → IsField owners bytes s → IsField owners bytes t → s ≡ t
  pub reads : ReadsTypes
  pub total : IsTotalOrder owner_order
  pub computed : BlobIsComputed

module _ (image : List ℕ) (names : NameMap) (meets : MeetsRules image names) where
  pub structure_is : MeetStructure image
  structure_is = record {
    indexes = (meets.rows indexes).0;
    entry = (meets.rows indexes).1;
    entries = meets.rows entries;
    manifest = meets.rows manifest;
    runs = meets.rows runs;
    order = meets.rows order;
  }

  pub stands_are : Stands image
  stands_are =
      let s = stood image names meets.short meets.tables meets.named meets.rows in
      record {
        structure = structure_is;
        fields = λ type row there has. s.field_there row type there has;
        methods = λ type row there has. s.method_there row type there has;
        params = λ method row there has. s.param_there row method there has;
        events = λ type row there has. s.event_there row type (to_among row (events_of image type) has);
        properties = λ type row there has. s.property_there row type (to_among row (properties_of image type) has);
      }

  first_row : HasRow image 0x02 1
  first_row = first_type image structure_is

  module _ (laws : Laws) (told : Told) (tell : TellWeights image told) (sizes : List ℕ) (sizes_are : AreDataSizes image names sizes) (fresh : List Bool) (are : AreFreshBy image names fresh) where
    one_owner : (value : ℕ) (o p : Owner) → OwnerIs image names value o → OwnerIs image names value p → o ≡ p
    one_owner value o p h k =
        let e = names_one TypeDefOrRef value k.0 k.1 h.0 h.1 k.2 h.2 in
        owner_one image laws.reads (laws.text (strings_of image)) (laws.blob (blobs_of image)) names.owners h.0 h.1 o p h.3
        (subst (λ (r : ℕ). RowOwner image names.owners h.0 r p) e.1 (subst (λ (t : ℕ). RowOwner image names.owners t k.1 p) e.0 k.3))

    has_owner : (row : ℕ) → HasRow image 0x09 row → (o : Owner) × OwnerIs image names (interface_type image row) o
    unfolding schema
    has_owner row there =
        owner_is image names meets.short meets.tables meets.named meets.rows 0x09 row 1 false refl there (omega arith) refl
        (named_row image TypeDefOrRef (interface_type image row) ((meets.rows indexes).0 0x09 row there 1 (omega arith)))

    interface_told : (row : ℕ) (o : Owner) → HasRow image 0x09 row → OwnerIs image names (interface_type image row) o → Alike (owner told (interface_type image row)) (owner_weight o)
    unfolding schema
    interface_told row o there h = owner_told image names told meets.named tell laws.computed 0x09 row 1 false refl there (omega arith) refl o h

    -- the size of data is that of the type of its field
    size_is : SizesAre image names told meets.named tell laws.computed sizes
    size_is row k of bytes there m has is =
        let r = owned_among image 0x1D data_field row k m in
        let z = sizes_are k r.0 in
        let has_too = subst (λ (f : ℕ). FieldHas image names f z.0) r.1 z.1 in
        let bytes_same = laws.blob (blobs_of image) (field_signature image row) has_too.0 has.0 has_too.1 has.1 in
        let type_same : z.0 ≡ of = laws.field names.owners has.0 z.0 of (subst (λ (l : List ℕ). IsField names.owners l z.0) bytes_same has_too.2) has.2 in
        let size_same : slice_index sizes k ≡ is.size
        = size_one image (λ early late some lt late_there alike. (meets.rows distinct 0x02 late).type refl late_there early some lt alike) (λ type type_there. ((meets.rows values 0x02 type).layout refl type_there).one)
        (subst (λ (t : SigType). HasDataSize image t (slice_index sizes k)) type_same z.2) is.has_size in
        let long : length (take is.size (readable image (data_rva image k))) ≡ is.size
        = length-take-le is.size (readable image (data_rva image k)) (subst (λ (s : ℕ). s ≤ length (readable image (data_rva image k))) size_same z.3) in
        size_same ∙ sym long ∙ sym (ap length is.bytes_are)

    pub assembly_weighs : (a : Assembly) → IsAssembly image names a → Alike (image_weight image told sizes fresh) (weight_of a)
    unfolding image_weight weight_of
    assembly_weighs a h =
        plus (plus (plus (plus (plus (exactly 32768)
        (manifest_weighs image names told meets.named tell laws.computed a.manifest h.manifest))
        (zip_sums (IsExtern image) (extern_row image) extern_weight (rows_of image 0x23) a.externs h.externs (λ r e m is. extern_weighs image names told meets.named tell laws.computed r e is)))
        (zip_sums (ReadsField image names) (field_row image told sizes) field_weight (fields_of image 1) a.fields h.fields
        (λ r f m is. field_weighs image names told meets.named tell laws.computed sizes size_is r f (stands_are.fields 1 r first_row (contained r (fields_of image 1) m)) is)))
        (zip_sums (ReadsMethod image names) (method_row image told) method_weight (methods_of image 1) a.methods h.methods
        (λ r f m is. method_weighs image names told meets.named tell laws.computed r f (stands_are.methods 1 r first_row (contained r (methods_of image 1) m)) is)))
        (all_weigh image names told meets.named tell laws.computed stands_are sizes size_is fresh
        (interfaces_weigh image names told fresh laws.total one_owner has_owner interface_told are)
        (enclosed_later image (meets.rows scopes))
        (let t = first_row in t.1)
        (not_under_module image ((meets.rows manifest 0x02 1).module_type refl refl).not_enclosing)
        a.types h.types)
