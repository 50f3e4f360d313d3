-- All that is known of the rows and heaps of an image that holds an assembly (ECMA-335 II.22).
use Rattle.std.specs.Prelude.{ℕ, ◌^◌, ◌<◌, List}
use Rattle.assembly_tree.specs.declared.assembly.Assembly.{Assembly}
use Rattle.assembly_tree.specs.declared.members.Generic.{Generic}
use Rattle.assembly_tree.specs.declared.members.Method.{Method}
use Rattle.pe_layout.specs.declared.parts.Kind.{Kind}
use Rattle.image_tokens.specs.declared.references.References.{References}
use Rattle.image_rows.specs.Filled.{IsFilled}
use Rattle.image_members.specs.Lists.{generics_in}
use Rattle.image_members.specs.Places.{all_methods}
use Rattle.image_members.specs.Pushing.{Tables}
use Rattle.image_members.specs.declared.classes.Class.{Class}
use Rattle.image_layout.specs.LaidOut.{IsLaidOut}
use Rattle.image_layout.specs.Laws.{ReadsHeaps}
use Rattle.image_model.specs.Rows.{count_of}
use Rattle.laws_image_parts.specs.AtRows.{AtEach}
use Rattle.laws_image_parts.specs.ItemRows.{BoundsOf, OverridesOf, TypeItemsRead, FieldItemsRead}
use Rattle.laws_image_parts.specs.NestingRead.{AreEnclosed}
use Rattle.laws_image_parts.specs.OwnedRows.{AttributesRead, ConstantsRead, GenericsRead, AccessorsRead}
use Rattle.laws_image_parts.specs.RowsRead.{ReadsRows}
use Rattle.laws_image_parts.specs.RunsRead.{RunsRead}

-- no table has 2 ^ 24 rows
pub record KnowsRows (a : Assembly) (classes : List Class) (r : References) (code image : List ℕ) : Type 0 where
  pub heaps : ReadsHeaps r image
  pub few : (table : ℕ) → count_of image table < 2 ^ 24
  pub rows : ReadsRows a classes r code image
  pub runs : RunsRead a classes r code image
  pub attributes : AttributesRead a classes r image
  pub constants : ConstantsRead a classes r image
  pub generics : GenericsRead a classes r image
  pub accessors : AccessorsRead a classes image
  pub types : TypeItemsRead classes r image
  pub fields : FieldItemsRead a classes code image
  pub bounds : AtEach (λ row (g : Generic). BoundsOf r image row g.bounds) 1 (generics_in a classes)
  pub overrides : AtEach (λ row (m : Method). (type : ℕ) × OverridesOf r image type row m.overrides) 1 (all_methods a classes)
  pub enclosed : AreEnclosed classes image

-- ---- the law

abbrev pub RowsAreKnown : Type 0
RowsAreKnown =
    (a : Assembly) (classes : List Class) (r : References) (tables : Tables) (code : List ℕ) (entry : ℕ) (id : List ℕ) (kind : Kind) (image : List ℕ)
    → IsFilled a classes r tables code → IsLaidOut a.manifest r tables code entry id kind image → KnowsRows a classes r code image
