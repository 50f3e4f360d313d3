-- The numbers of a method's generic parameters and parameters are those of its signature.
use Rattle.std.proofs.Common.{◌≡◌, ap, sym, ◌∙◌, ℕ, ◌≤◌, nat_le, List, length, arith}
use Rattle.std.specs.Prelude.{IsTrue, slice_index}
use Rattle.std.specs.List.{AllZip, list_all}
use Rattle.std.proofs.lemmas.Bool.{and_parts, leb-true}
use Rattle.std.proofs.lemmas.List.Elements.{All-from_recursion}
use Rattle.assembly_tree.specs.Weight.{method_weight}
use Rattle.assembly_tree.specs.WellFormedMembers.{is_method, is_param_before}
use Rattle.assembly_tree.specs.WellFormedNames.{rises}
use Rattle.assembly_tree.specs.declared.assembly.Assembly.{Assembly}
use Rattle.assembly_tree.specs.declared.members.Method.{Method}
use Rattle.assembly_tree.specs.declared.members.Param.{Param}
use Rattle.assembly_tree.proofs.FormedFacts.{methods_named}
use Rattle.image_tokens.specs.declared.references.References.{References}
use Rattle.image_members.specs.Lists.{params_in}
use Rattle.image_rows.specs.ParamRows.{IsParamRow}
use Rattle.image_members.specs.declared.classes.Class.{Class}
use Rattle.image_model.specs.Columns.{param_sequence}
use Rattle.image_model.specs.Members.{FitsSignature}
use Rattle.image_model.specs.Rows.{params_of}
use Rattle.laws_image_parts.specs.AtRows.{IsItem, Reads}
use Rattle.laws_image_parts.specs.OwnedRows.{GenericsOf}
use Rattle.laws_image_parts.specs.RowCells.{param_cells}
use Rattle.laws_writable_trees.proofs.Each.{each_true}
use Rattle.laws_writable_trees.proofs.Members.{IsFine}
use Rattle.laws_image_reading.proofs.members.FormedMembers.{method_generic}
use Rattle.laws_image_reading.proofs.members.Lists.{zip_left}
use Rattle.laws_image_reading.proofs.members.TypeDemands.{generics_count}

module _ (a : Assembly) (classes : List Class) (r : References) (image : List ℕ) (params : Reads 0x08 param_cells (IsParamRow r) (params_in a classes) image) where
  number_low : (count row : ℕ) (p : Param) → IsItem (params_in a classes) row p → IsTrue (nat_le p.number count) → param_sequence image row ≤ count
  number_low count row p item low =
      let number : param_sequence image row ≡ p.number = ap (param_sequence image) item.1 ∙ ap (λ (cs : List ℕ). slice_index cs 1) (params.each item.0 p item.2).are in
      let few = leb-true p.number count low in
      omega arith

  pub signature_fits : (row : ℕ) (m : Method) → IsFine (is_method a) method_weight m → GenericsOf a classes r image 0x06 row m.generics
      → AllZip (IsItem (params_in a classes)) (params_of image row) m.params → FitsSignature image row m.sig
  signature_fits row m fine generics run =
      let count = length m.sig.params in
      let low = (and_parts (rises is_param_before m.params) (list_all (λ (p : Param). nat_le p.number count) m.params) ((methods_named a m).0 fine.formed).numbers).1 in
      record {
        generic = method_generic a m fine ∙ sym (generics_count a classes r image 0x06 row m.generics generics);
        params = All-from_recursion (λ k. param_sequence image k ≤ count) (params_of image row)
            (zip_left (IsItem (params_in a classes)) (λ (p : Param). IsTrue (nat_le p.number count)) (λ k. param_sequence image k ≤ count) (number_low count) (params_of image row) m.params run
            (each_true (λ (p : Param). nat_le p.number count) m.params low));
      }
