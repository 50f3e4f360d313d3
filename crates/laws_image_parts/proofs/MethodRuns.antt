-- The rows of methods with their bodies, and the runs of their parameters.
use Rattle.std.proofs.Common.{◌≡◌, ap, refl, ◌∙◌, ℕ, zero, suc, ◌+◌, ◌≤◌, List, [], ◌∷◌, map, length, Option, Some, arith}
use Rattle.std.specs.Prelude.{slice_get, slice_index}
use Rattle.std.specs.List.{AllZip}
use Rattle.metadata_tables.specs.Indexes.{IndexesFit}
use Rattle.assembly_tree.specs.declared.assembly.Assembly.{Assembly}
use Rattle.assembly_tree.specs.declared.members.Method.{Method}
use Rattle.assembly_tree.specs.declared.members.Param.{Param}
use Rattle.image_tokens.specs.declared.references.References.{References}
use Rattle.image_members.specs.CodeBytes.{body_of, HasBody}
use Rattle.image_members.specs.Lists.{params_in}
use Rattle.image_rows.specs.MethodRows.{PlacedMethod, placed_methods}
use Rattle.image_members.specs.Places as rows
use Rattle.image_members.specs.Places.{all_methods}
use Rattle.image_members.specs.declared.classes.Class.{Class}
use Rattle.image_model.specs.Columns.{method_params}
use Rattle.image_model.specs.Rows.{count_of, first_param, params_of}
use Rattle.laws_image_parts.specs.AtRows.{AtEach, IsItem}
use Rattle.laws_image_parts.specs.RowsRead.{ReadsMethods}
use Rattle.laws_image_parts.specs.RunsRead.{MethodRowIs}
use Rattle.laws_image_parts.proofs.CellLemmas.{zip_get, zip_long}
use Rattle.laws_image_parts.proofs.GroupLemmas.{joined}
use Rattle.laws_image_parts.proofs.OwnedLemmas.{get_map}
use Rattle.laws_image_parts.proofs.RunLemmas.{AreStarts, run_at}
use Rattle.laws_image_parts.proofs.TypeRuns.{joined_map, length_map, items_each, start_of}

placed_long : (param : ℕ) (rvas : List ℕ) (ms : List Method) → length rvas ≡ length ms → length (placed_methods param rvas ms) ≡ length ms
placed_long param rvas [] e = refl
placed_long param [] (m ∷ ms) e = absurd (omega arith)
placed_long param (rva ∷ rvas) (m ∷ ms) e = ap suc (placed_long (param + length m.params) rvas ms (omega arith))

same_placed : (param v rva : ℕ) (n m : Method) → v ≡ rva → n ≡ m
    → ◌≡◌ {A = Option PlacedMethod} (Some (record { method = n; rva = v; param = param })) (Some (record { method = m; rva = rva; param = param }))
same_placed param v rva n m e f = λ i. Some (record { method = f i; rva = e i; param = param })

placed_get : (param : ℕ) (rvas : List ℕ) (ms : List Method) (k rva : ℕ) (m : Method) → slice_get rvas k ≡ Some rva → slice_get ms k ≡ Some m
    → (p : ℕ) × (slice_get (placed_methods param rvas ms) k ≡ Some (record { method = m; rva = rva; param = p }))
placed_get param rvas [] k rva m at_rva at = absurd cc
placed_get param [] (n ∷ ms) k rva m at_rva at = absurd cc
placed_get param (v ∷ rvas) (n ∷ ms) zero rva m at_rva at =
    let one : v ≡ rva = cc in
    let two : n ≡ m = cc in
    (param, same_placed param v rva n m one two)
placed_get param (v ∷ rvas) (n ∷ ms) (suc k) rva m at_rva at = placed_get (param + length n.params) rvas ms k rva m at_rva at

placed_low : (param : ℕ) (rvas : List ℕ) (ms : List Method) (k : ℕ) (p : PlacedMethod) → slice_get (placed_methods param rvas ms) k ≡ Some p → param ≤ p.param
placed_low param rvas [] k p at = absurd cc
placed_low param [] (m ∷ ms) k p at = absurd cc
placed_low param (rva ∷ rvas) (m ∷ ms) zero p at =
    let head : record { method = m; rva = rva; param = param } ≡ p = cc in
    let one = ap (λ (x : PlacedMethod). x.param) head in
    omega arith
placed_low param (rva ∷ rvas) (m ∷ ms) (suc k) p at = let rest = placed_low (param + length m.params) rvas ms k p at in omega arith

param_starts : (image : List ℕ) (owners : ℕ) (start : ℕ → ℕ) (table row param : ℕ) (rvas : List ℕ) (ms : List Method) → length rvas ≡ length ms
    → AtEach (λ k (p : PlacedMethod). start k ≡ p.param) row (placed_methods param rvas ms) → AreStarts image owners start table row param (map rows.params_of ms)
param_starts image owners start table row param rvas [] long h = tt
param_starts image owners start table row param [] (m ∷ ms) long h = absurd (omega arith)
param_starts image owners start table row param (rva ∷ rvas) (m ∷ ms) long h =
    let here : row ≡ row + 0 = omega arith in (
      ap start here ∙ h 0 (record { method = m; rva = rva; param = param }) refl,
      param_starts image owners start table (row + 1) (param + length m.params) rvas ms (omega arith)
          (λ k p at. let there : row + 1 + k ≡ row + suc k = omega arith in ap start there ∙ h (suc k) p at),
    )

module _ (law : IndexesFit) (a : Assembly) (classes : List Class) (r : References) (code image : List ℕ) (h : ReadsMethods a classes r code image) where
  abbrev ms : List Method
  ms = all_methods a classes

  rvas_long : length h.rvas ≡ length ms
  rvas_long = zip_long (HasBody r code) h.rvas (map body_of ms) h.bodies ∙ length_map body_of ms

  pub methods_count : count_of image 0x06 ≡ length ms
  methods_count = h.methods.count ∙ placed_long 1 h.rvas ms rvas_long

  pub method_row_is : AtEach (MethodRowIs a classes r code image) 1 ms
  method_row_is k m at =
      let body = zip_get (HasBody r code) h.rvas (map body_of ms) k (body_of m) h.bodies (get_map body_of ms k m at) in
      let placed = placed_get 1 h.rvas ms k body.0 m body.1 at in
      (body.0, placed.0, h.methods.each k (record { method = m; rva = body.0; param = placed.0 }) placed.1, body.2)

  params_begin : AtEach (λ row (p : PlacedMethod). first_param image row ≡ p.param) 1 (placed_methods 1 h.rvas ms)
  params_begin k p at =
      let row = h.methods.each k p at in
      let low = placed_low 1 h.rvas ms k p at in
      start_of law image 0x08 (method_params image (1 + k)) (length (params_in a classes)) p.param h.params.count (ap (λ (cs : List ℕ). slice_index cs 5) row.are) (omega arith)

  pub params_run : AtEach (λ row (m : Method). AllZip (IsItem (params_in a classes)) (params_of image row) m.params) 1 ms
  unfolding params_of
  params_run k m at =
      let lists = map rows.params_of ms in
      let all : joined lists ≡ params_in a classes = joined_map rows.params_of ms in
      let owners = length_map rows.params_of ms in
      let long = ap (length {A = Param}) all in
      let count = h.params.count in
      let own = methods_count in
      run_at image 0x06 (first_param image) 0x08 (IsItem (params_in a classes)) 1 1 k lists m.params
      (param_starts image 0x06 (first_param image) 0x08 1 1 h.rvas ms rvas_long params_begin) (omega arith) (omega arith)
      (items_each (params_in a classes) (joined lists) all) (get_map rows.params_of ms k m at)
