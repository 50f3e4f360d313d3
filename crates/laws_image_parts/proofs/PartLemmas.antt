-- Parts of an assembly as its image gives them, as far as no token is asked for its name.
use Rattle.std.proofs.Common.{◌≡◌, ap, refl, sym, ◌∙◌, subst, ℕ, zero, suc, ◌+◌, true, List, [], ◌∷◌, length, Option, Some, None, arith}
use Rattle.std.specs.Prelude.{slice_get, slice_index}
use Rattle.std.specs.List.{AllByRecursion, AllZip, range_with_len}
use Rattle.assembly_tree.specs.WellFormedMembers.{is_clear}
use Rattle.assembly_tree.specs.declared.assembly.Assembly.{Assembly}
use Rattle.assembly_tree.specs.declared.assembly.ExternAssembly.{ExternAssembly}
use Rattle.assembly_tree.specs.declared.members.Accessor.{Accessor}
use Rattle.assembly_tree.specs.declared.members.Event.{Event}
use Rattle.assembly_tree.specs.declared.members.Field.{Field}
use Rattle.assembly_tree.specs.declared.members.Generic.{Generic}
use Rattle.assembly_tree.specs.declared.members.Method.{Method}
use Rattle.assembly_tree.specs.declared.members.Param.{Param}
use Rattle.assembly_tree.specs.declared.members.Property.{Property}
use Rattle.assembly_tree.specs.declared.typedef.TypeDef.TheViews.{out-TypeDef}
use Rattle.image_tokens.specs.Blobs.{HoldsBlob}
use Rattle.image_tokens.specs.Texts.{HoldsText}
use Rattle.image_tokens.specs.declared.references.References.{References}
use Rattle.image_rows.specs.EventRows.{IsEventRow}
use Rattle.image_rows.specs.FieldRows.{IsFieldRow}
use Rattle.image_members.specs.GenericRows.{IsGenericRow}
use Rattle.image_members.specs.Lists.{access_of}
use Rattle.image_members.specs.ManifestRows.{IsExternRow}
use Rattle.image_members.specs.ManifestRows.{extern_cells as extern_made}
use Rattle.image_rows.specs.ParamRows.{IsParamRow}
use Rattle.image_rows.specs.PropertyRows.{IsPropertyRow}
use Rattle.image_members.specs.declared.classes.Class.{Class}
use Rattle.image_layout.specs.Laws.{ReadsHeaps}
use Rattle.image_model.specs.Columns.{field_flags, field_name, param_name, property_flags, property_name, extern_major, extern_minor, extern_build, extern_revision, extern_name, extern_key, extern_culture, extern_hash, type_name, type_space, method_name, event_name, generic_name, offset_of_row}
use Rattle.image_model.specs.Members.{layouts_of, offsets_of, semantics_of}
use Rattle.image_model.specs.Reading.{TextIs, BlobIs, IsGiven, without, IsExtern, IsLayout, IsAccessor}
use Rattle.image_model.specs.Rows.{rows_of, first_method}
use Rattle.laws_image_parts.specs.ItemRows.{stated, LayoutOf, OffsetOf}
use Rattle.laws_image_parts.specs.OwnedRows.{AccessorsOf}
use Rattle.laws_image_parts.specs.PartsRead.{HasHead, HasClassHead, HasMethodHead, HasParamHead, HasEventHead, HasGenericHead, PartsAreRead}
use Rattle.laws_image_parts.specs.RowCells.{field_cells, param_cells, property_cells, event_cells, generic_cells, extern_cells}
use Rattle.laws_image_parts.specs.RowsRead.{ReadsManifest}
use Rattle.laws_image_parts.specs.RunsRead.{ClassRowIs, MethodRowIs}
use Rattle.laws_image_parts.proofs.FlagLemmas.{one_off, two_off}
use Rattle.laws_image_parts.proofs.ItemLemmas.{zip_map}
use Rattle.laws_image_parts.proofs.OwnedLemmas.{zip_later}
use Rattle.laws_image_parts.proofs.RowLists.{zip_each}

pub text_is : (r : References) (image : List ℕ) (text : List ℕ) (index cell : ℕ) → ReadsHeaps r image → HoldsText r.heaps.strings text index → cell ≡ index → TextIs image cell text
text_is r image text index cell heaps h e = subst (λ n. TextIs image n text) (sym e) (heaps.texts index text h.there)

pub blob_is : (r : References) (image : List ℕ) (blob : List ℕ) (index cell : ℕ) → ReadsHeaps r image → HoldsBlob r.heaps.blobs blob index → cell ≡ index → BlobIs image cell blob
blob_is r image blob index cell heaps h e = subst (λ n. BlobIs image n blob) (sym e) (heaps.blobs index blob h.there)

-- four numbers
four : (v : List ℕ) → length v ≡ 4 → v ≡ slice_index v 0 ∷ slice_index v 1 ∷ slice_index v 2 ∷ slice_index v 3 ∷ []
four [] e = absurd (omega arith)
four (a ∷ []) e = absurd (omega arith)
four (a ∷ (b ∷ [])) e = absurd (omega arith)
four (a ∷ (b ∷ (c ∷ []))) e = absurd (omega arith)
four (a ∷ (b ∷ (c ∷ (d ∷ [])))) e = refl
four (a ∷ (b ∷ (c ∷ (d ∷ (f ∷ v))))) e = absurd (omega arith)

pub four_cells : (v : List ℕ) (a b c d : ℕ) → length v ≡ 4 → a ≡ slice_index v 0 → b ≡ slice_index v 1 → c ≡ slice_index v 2 → d ≡ slice_index v 3 → v ≡ a ∷ b ∷ c ∷ d ∷ []
four_cells v a b c d long e f g h =
    four v long
    ∙ ap (λ n. n ∷ slice_index v 1 ∷ slice_index v 2 ∷ slice_index v 3 ∷ []) (sym e)
    ∙ ap (λ n. a ∷ n ∷ slice_index v 2 ∷ slice_index v 3 ∷ []) (sym f)
    ∙ ap (λ n. a ∷ b ∷ n ∷ slice_index v 3 ∷ []) (sym g)
    ∙ ap (λ n. a ∷ b ∷ c ∷ n ∷ []) (sym h)

all_get : {X : Type 0} (P : X → Type 0) (xs : List X) (k : ℕ) (x : X) → AllByRecursion P xs → slice_get xs k ≡ Some x → P x
all_get P [] k x p at = absurd cc
all_get P (y ∷ xs) zero x p at = let same : y ≡ x = cc in subst P same p.0
all_get P (y ∷ xs) (suc k) x p at = all_get P xs k x p.1 at

extern_is : (r : References) (image : List ℕ) (row : ℕ) (e : ExternAssembly) → ReadsHeaps r image → length e.version ≡ 4 → IsExternRow r (extern_cells image row) e → IsExtern image row e
extern_is r image row e heaps long h =
    let at : (c : ℕ) → slice_index (extern_cells image row) c ≡ slice_index (extern_made e.version e.flags h.key h.name h.culture h.hash) c = (λ c. ap (λ (cs : List ℕ). slice_index cs c) h.are) in
    record {
      name = text_is r image e.name h.name (extern_name image row) heaps h.name_is (at 6);
      version = four_cells e.version (extern_major image row) (extern_minor image row) (extern_build image row) (extern_revision image row) long (at 0) (at 1) (at 2) (at 3);
      flags = sym (at 4);
      key = blob_is r image e.key h.key (extern_key image row) heaps h.key_is (at 5);
      culture = text_is r image e.culture h.culture (extern_culture image row) heaps h.culture_is (at 7);
      hash = blob_is r image e.hash h.hash (extern_hash image row) heaps h.hash_is (at 8);
    }

externs_are : (a : Assembly) (r : References) (image : List ℕ) → ReadsHeaps r image → ReadsManifest a r image → AllByRecursion (λ (e : ExternAssembly). length e.version ≡ 4) a.externs
    → AllZip (IsExtern image) (rows_of image 0x23) a.externs
unfolding rows_of
externs_are a r image heaps h long =
    subst (λ n. AllZip (IsExtern image) (range_with_len 1 n) a.externs) (sym h.externs.count)
    (zip_each (IsExtern image) 1 a.externs (λ k e at.
    extern_is r image (1 + k) e heaps (all_get (λ (x : ExternAssembly). length x.version ≡ 4) a.externs k e long at) (h.externs.each k e at)))

-- ---- heads

class_is : (a : Assembly) (classes : List Class) (r : References) (image : List ℕ) (type : ℕ) (c : Class) → ReadsHeaps r image → ClassRowIs a classes r image type c → HasClassHead image type c
class_is a classes r image type c heaps h =
    let row = h.2 in
    record {
      id = record {
        space = text_is r image (out-TypeDef c.of.now).id.space row.space (type_space image type) heaps row.id_is.space_is (ap (λ (cs : List ℕ). slice_index cs 2) row.are);
        name = text_is r image (out-TypeDef c.of.now).id.name row.name (type_name image type) heaps row.id_is.name_is (ap (λ (cs : List ℕ). slice_index cs 1) row.are);
      };
      flags = sym (ap (λ (cs : List ℕ). slice_index cs 0) row.are);
    }

field_is : (r : References) (image : List ℕ) (row : ℕ) (f : Field) → ReadsHeaps r image → IsFieldRow r (field_cells image row) f
    → is_clear 0x8100 f.flags ≡ true → HasHead image (field_name image row) (field_flags image row) 0x8100 f.name f.flags
field_is r image row f heaps h clear = record {
  name_is = text_is r image f.name h.name (field_name image row) heaps h.name_is (ap (λ (cs : List ℕ). slice_index cs 1) h.are);
  flags_are = two_off f.flags f.constant f.content clear ∙ ap (λ n. without n 0x8100) (sym (ap (λ (cs : List ℕ). slice_index cs 0) h.are));
}

method_is : (a : Assembly) (classes : List Class) (r : References) (code image : List ℕ) (row : ℕ) (m : Method) → ReadsHeaps r image
    → MethodRowIs a classes r code image row m → HasMethodHead image row m
method_is a classes r code image row m heaps h =
    let is = h.2 in
    record {
      name = text_is r image m.name is.name (method_name image row) heaps is.name_is (ap (λ (cs : List ℕ). slice_index cs 3) is.are);
      flags = sym (ap (λ (cs : List ℕ). slice_index cs 2) is.are);
      impl_flags = sym (ap (λ (cs : List ℕ). slice_index cs 1) is.are);
    }

param_is : (r : References) (image : List ℕ) (row : ℕ) (p : Param) → ReadsHeaps r image → IsParamRow r (param_cells image row) p → is_clear 0x1000 p.flags ≡ true → HasParamHead image row p
param_is r image row p heaps h clear = record {
  number = sym (ap (λ (cs : List ℕ). slice_index cs 1) h.are);
  name_is = text_is r image p.name h.name (param_name image row) heaps h.name_is (ap (λ (cs : List ℕ). slice_index cs 2) h.are);
  flags = one_off p.flags p.constant clear ∙ ap (λ n. without n 0x1000) (sym (ap (λ (cs : List ℕ). slice_index cs 0) h.are));
}

property_is : (r : References) (image : List ℕ) (row : ℕ) (p : Property) → ReadsHeaps r image → IsPropertyRow r (property_cells image row) p
    → is_clear 0x1000 p.flags ≡ true → HasHead image (property_name image row) (property_flags image row) 0x1000 p.name p.flags
property_is r image row p heaps h clear = record {
  name_is = text_is r image p.name h.name (property_name image row) heaps h.name_is (ap (λ (cs : List ℕ). slice_index cs 1) h.are);
  flags_are = one_off p.flags p.constant clear ∙ ap (λ n. without n 0x1000) (sym (ap (λ (cs : List ℕ). slice_index cs 0) h.are));
}

event_is : (r : References) (image : List ℕ) (row : ℕ) (e : Event) → ReadsHeaps r image → IsEventRow r (event_cells image row) e → HasEventHead image row e
event_is r image row e heaps h = record {
  name = text_is r image e.name h.name (event_name image row) heaps h.name_is (ap (λ (cs : List ℕ). slice_index cs 1) h.are);
  flags = sym (ap (λ (cs : List ℕ). slice_index cs 0) h.are);
}

generic_is : (r : References) (image : List ℕ) (row : ℕ) (g : ℕ × (ℕ × Generic)) → ReadsHeaps r image → IsGenericRow r (generic_cells image row) g → HasGenericHead image row g.1.1
generic_is r image row g heaps h = record {
  name = text_is r image g.1.1.name h.name (generic_name image row) heaps h.name_is (ap (λ (cs : List ℕ). slice_index cs 3) h.are);
  flags = sym (ap (λ (cs : List ℕ). slice_index cs 1) h.are);
}

-- ---- rows that belong to one

given : {X : Type 0} (P : ℕ → X → Type 0) (rows : List ℕ) (o : Option X) → AllZip P rows (stated o) → IsGiven P rows o
given P [] None h = tt
given P (k ∷ ks) None h = absurd h
given P [] (Some x) h = absurd h
given P (k ∷ ks) (Some x) h = h.0

layout_is : (image : List ℕ) (type : ℕ) (c : Class) → LayoutOf image type (out-TypeDef c.of.now).layout → IsGiven (IsLayout image) (layouts_of image type) (out-TypeDef c.of.now).layout
layout_is image type c h =
    given (IsLayout image) (layouts_of image type) (out-TypeDef c.of.now).layout
    (zip_later _ (IsLayout image) (layouts_of image type) (stated (out-TypeDef c.of.now).layout)
    (λ k l is. record { pack = sym (ap (λ (cs : List ℕ). slice_index cs 0) is); size = sym (ap (λ (cs : List ℕ). slice_index cs 1) is) }) h)

offset_is : (image : List ℕ) (row : ℕ) (f : Field) → OffsetOf image row f.offset → IsGiven (λ k offset. offset ≡ offset_of_row image k) (offsets_of image row) f.offset
offset_is image row f h =
    given (λ k offset. offset ≡ offset_of_row image k) (offsets_of image row) f.offset
    (zip_later _ (λ k offset. offset ≡ offset_of_row image k) (offsets_of image row) (stated f.offset)
    (λ k o is. sym (ap (λ (cs : List ℕ). slice_index cs 0) is)) h)

accessors_are : (image : List ℕ) (table type row : ℕ) (accessors : List Accessor) → AccessorsOf image table row (access_of (first_method image type) accessors)
    → AllZip (IsAccessor image type) (semantics_of image table row) accessors
accessors_are image table type row accessors h =
    zip_later _ (IsAccessor image type) (semantics_of image table row) accessors
    (λ k x is. record { kind = sym (ap (λ (cs : List ℕ). slice_index cs 0) is); method = sym (ap (λ (cs : List ℕ). slice_index cs 1) is) })
    (zip_map _ (λ (x : Accessor). (x.kind, first_method image type + x.method)) (semantics_of image table row) accessors h)

-- all of them
pub parts_are_read : PartsAreRead
parts_are_read = record {
  externs = externs_are;
  class = class_is;
  layout = layout_is;
  field = field_is;
  offset = offset_is;
  method = method_is;
  param = param_is;
  property = property_is;
  event = event_is;
  generic = generic_is;
  accessors = accessors_are;
}
