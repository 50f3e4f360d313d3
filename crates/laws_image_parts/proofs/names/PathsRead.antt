-- Each type that an image defines or refers to has a path.
use Rattle.std.proofs.Common.{◌≡◌, ap, sym, subst, ℕ, ◌+◌, List, map, arith}
use Rattle.std.specs.Prelude.{slice_index}
use Rattle.heaps.specs.Content.{HasText}
use Rattle.assembly_tree.specs.declared.assembly.Assembly.{Assembly}
use Rattle.image_tokens.specs.declared.references.References.{References}
use Rattle.image_members.specs.Declaring.{places, class_place, module_place, module_id}
use Rattle.image_members.specs.Pushing.{Tables}
use Rattle.image_members.specs.declared.classes.Class.{Class}
use Rattle.image_model.specs.Columns.{type_name, type_space}
use Rattle.image_model.specs.Streams.{strings_of}
use Rattle.laws_image_parts.specs.AtRows.{AtEach}
use Rattle.laws_image_parts.specs.NestingRead.{AreEnclosed, EnclosersAreRead}
use Rattle.laws_image_parts.specs.PartsRead.{PartsAreRead}
use Rattle.laws_image_parts.specs.RowsRead.{RowsAreRead, ReadsRows}
use Rattle.laws_image_parts.specs.RunsRead.{RunsAreRead}
use Rattle.laws_image_parts.proofs.TypeRuns.{length_map}
use Rattle.laws_image_parts.specs.names.Written.{IsWritten}
use Rattle.laws_image_parts.specs.names.Paths.{HasPlace, PathsRead}
use Rattle.laws_image_parts.proofs.names.General.{each_one, each_map}
use Rattle.laws_image_parts.proofs.names.OnePath.{path_one, ref_path_one}
use Rattle.laws_image_parts.proofs.names.OneToken.{OneText}
use Rattle.laws_image_parts.proofs.names.PlaceLemmas.{enclosers_low, has_path}
use Rattle.laws_image_parts.proofs.names.ReferenceLemmas.{has_ref_path}

module _ (rows_read : RowsAreRead) (enclosers_read : EnclosersAreRead) (runs_read : RunsAreRead) (parts : PartsAreRead) (text : (image : List ℕ) → OneText image)
    (a : Assembly) (classes : List Class) (r : References) (tables : Tables) (code image : List ℕ) (w : IsWritten a classes r tables code image) where
  pub rows : ReadsRows a classes r code image
  rows = rows_read a classes r tables code image w.filled w.reads

  enclosed : AreEnclosed classes image
  enclosed = enclosers_read a classes r image rows.types

  module_has : HasPlace image 1 module_place
  module_has =
      let m = rows.types.types.module_is in
      let name : type_name image 1 ≡ m.name = ap (λ (cs : List ℕ). slice_index cs 1) m.are in
      let space : type_space image 1 ≡ m.space = ap (λ (cs : List ℕ). slice_index cs 2) m.are in
      record {
        encloser = enclosed.module_row;
        id = record {
          space = subst (λ n. HasText (strings_of image) n module_id.space) (sym space) (w.heaps.texts m.space module_id.space m.id_is.space_is.there);
          name = subst (λ n. HasText (strings_of image) n module_id.name) (sym name) (w.heaps.texts m.name module_id.name m.id_is.name_is.there);
        };
      }

  class_has : AtEach (λ row c. HasPlace image row (class_place c)) 2 classes
  class_has k c at = record {
    encloser = enclosed.each k c at;
    id = (parts.class a classes r image (2 + k) c w.heaps ((runs_read a classes r code image rows).type_rows k c at)).id;
  }

  pub places_read : AtEach (HasPlace image) 1 (places classes)
  places_read = each_one (HasPlace image) 1 module_place (map class_place classes) module_has (each_map (HasPlace image) class_place 2 classes class_has)

  pub paths_read : PathsRead classes r image
  paths_read = record {
    places_are = places_read;
    types = λ row there. has_path classes image places_read (enclosers_low w.filled.classes_are (omega arith)) row there.0 (omega (arith, there.1, rows.types.types.count, length_map class_place classes));
    references = λ row there. has_ref_path r image rows.references.names w.heaps w.filled.known.rows.names row there.0 there.1;
    one_path = λ row path other h k. path_one image (text image) h k;
    one_reference = λ row scope other path way h k. ref_path_one image (text image) h k;
  }
