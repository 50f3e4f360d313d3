-- The rows of MethodDef, one for each declared method.
use Rattle.std.proofs.Common.{◌≡◌, ap, refl, sym, ◌∙◌, subst, ℕ, suc, ◌+◌, ◌-◌, ◌<◌, ◌≤◌, ◌^◌, List, [], ◌∷◌, ◌++◌, drop, length, Some, arith}
use Rattle.std.specs.Borrow.{Bor}
use Rattle.std.specs.Prelude.{slice_get, slice_index, sum_by}
use Rattle.std.specs.List.{AllZip}
use Rattle.std.proofs.lemmas.List.{drop_more, length-append}
use Rattle.std.proofs.lemmas.List.Sums.{sum_by-cons}
use Rattle.metadata_tables.specs.Encoding.{rows_of, rows_in, IsRowOf}
use Rattle.metadata_tables.specs.Laws.{RowOfColumns}
use Rattle.metadata_tables.specs.Schema.{schema}
use Rattle.assembly_tree.specs.declared.members.Method.{Method}
use Rattle.image_rows.specs.FieldRows.{AddsItems}
use Rattle.image_rows.specs.MethodRows.{PlacedMethod, placed_methods, method_cells, IsMethodRow, IsMethodAt}
use Rattle.image_members.specs.Places.{lent, params_of}
use Rattle.image_members.specs.Pushing.{Tables, AddsRows}
use Rattle.image_tokens.specs.declared.references.References.{References}
use Rattle.image_tokens.specs.declared.row_set.Cells.{Cells}
use Rattle.image_rows.proofs.FieldLemmas.{drop_at, lent_long, items_none, items_both}
use Rattle.image_members.proofs.ZipLemmas.{zip_long}

pub method_row : RowOfColumns → (rva impl flags name signature run : ℕ) → rva < 2 ^ 32 → impl < 2 ^ 16 → flags < 2 ^ 16 → IsRowOf 0x06 (rva ∷ impl ∷ flags ∷ name ∷ signature ∷ run ∷ [])
unfolding schema
method_row law rva impl flags name signature run r i f = law 0x06 (rva ∷ impl ∷ flags ∷ name ∷ signature ∷ run ∷ []) (omega arith) (r, (i, (f, (tt, (tt, (tt, tt))))))

module _ (params : ℕ) (r : References) where
  abbrev Adds : List PlacedMethod → Tables → Tables → Type 0
  Adds = AddsItems 0x06 (IsMethodRow params r)

  -- the row of a method by its declared row
  method_added : (cells : Cells) (p : PlacedMethod) (from to : Tables) → IsMethodAt r cells p.method → AddsRows 0x06 (method_cells params p cells.second cells.third ∷ []) from to → Adds (p ∷ []) from to
  method_added cells p from to at h = record {
    rows = method_cells params p cells.second cells.third ∷ [];
    adds = h;
    each = (record { name = cells.second; signature = cells.third; are = refl; name_is = at.1.name_is; signature_is = at.1.signature }, tt);
  }

  -- the methods before `rest` have their rows, and the declared rows and the bodies of the others follow from this place on
  pub record MethodsTo (from to : Tables) (place param : ℕ) (bodies : List ℕ) (xs rest : List (Bor Method)) : Type 0 where
    pub on : (end : Tables) → Adds (placed_methods param (drop place bodies) (lent rest)) to end → Adds (placed_methods 1 bodies (lent xs)) from end
    pub declared : AllZip (IsMethodAt r) (drop place r.declared.methods) (lent rest)
    pub few : rows_in to 0x06 + length rest < 2 ^ 24
    pub within : place + length rest ≡ length r.declared.methods
    pub bodies_within : place + length rest ≡ length bodies
    pub bound : length r.declared.methods < 2 ^ 24
    pub runs : param + sum_by (λ m. length (params_of m)) (lent rest) ≤ 2 ^ 24

  pub methods_begin : (from : Tables) (bodies : List ℕ) (xs : List (Bor Method)) → AllZip (IsMethodAt r) r.declared.methods (lent xs) → length bodies ≡ length xs → rows_in from 0x06 + length xs < 2 ^ 24
      → sum_by (λ m. length (params_of m)) (lent xs) < 2 ^ 24 → MethodsTo from from 0 1 bodies xs xs
  methods_begin from bodies xs declared same few runs =
      let long = zip_long (IsMethodAt r) r.declared.methods (lent xs) declared in
      let lent_same = lent_long xs in
      record {
        on = λ end h. h;
        declared = declared;
        few = few;
        within = omega arith;
        bodies_within = omega arith;
        bound = omega arith;
        runs = omega arith;
      }

  module _ (from to : Tables) (place param : ℕ) (bodies : List ℕ) (xs rest more : List (Bor Method)) (x : Bor Method) (e : rest ≡ x ∷ more) (d : MethodsTo from to place param bodies xs rest) where
    pub methods_within : place < length r.declared.methods
    methods_within = let within = d.within in let long = ap (length {A = Bor Method}) e in omega arith

    pub bodies_within : place < length bodies
    bodies_within = let within = d.bodies_within in let long = ap (length {A = Bor Method}) e in omega arith

    pub methods_few : rows_in to 0x06 < 2 ^ 24 - 1
    methods_few = let few = d.few in let long = ap (length {A = Bor Method}) e in omega arith

    heavy : sum_by (λ m. length (params_of m)) (lent rest) ≡ length (params_of x.now) + sum_by (λ m. length (params_of m)) (lent more)
    heavy = ap (λ (ms : List (Bor Method)). sum_by (λ m. length (params_of m)) (lent ms)) e ∙ sum_by-cons (λ m. length (params_of m)) x.now (lent more)

    pub params_few : param + length (params_of x.now) ≤ 2 ^ 24
    params_few = let runs = d.runs in let sum = heavy in omega arith

    pub methods_on : (cells : Cells) (end : Tables) → slice_get r.declared.methods place ≡ Some cells
        → AddsRows 0x06 (method_cells params (record { method = x.now; rva = slice_index bodies place; param = param }) cells.second cells.third ∷ []) to end
        → MethodsTo from end (place + 1) (param + length (params_of x.now)) bodies xs more
    methods_on cells end at h =
        let p : PlacedMethod = record { method = x.now; rva = slice_index bodies place; param = param } in
        let here : drop place r.declared.methods ≡ cells ∷ drop (place + 1) r.declared.methods = drop_at r.declared.methods place cells at in
        let body : drop place bodies ≡ slice_index bodies place ∷ drop (place + 1) bodies = drop_more bodies place 0 bodies_within in
        let both : AllZip (IsMethodAt r) (cells ∷ drop (place + 1) r.declared.methods) (x.now ∷ lent more) =
        subst (λ ys. AllZip (IsMethodAt r) ys (x.now ∷ lent more)) here (subst (λ ys. AllZip (IsMethodAt r) (drop place r.declared.methods) (lent ys)) e d.declared) in
        let items : placed_methods param (drop place bodies) (lent rest) ≡ p ∷ placed_methods (param + length (params_of x.now)) (drop (place + 1) bodies) (lent more) =
        ap (λ (ms : List (Bor Method)). placed_methods param (drop place bodies) (lent ms)) e ∙ ap (λ bs. placed_methods param bs (x.now ∷ lent more)) body in
        let long = ap (length {A = Bor Method}) e in
        let counted = ap (length {A = List ℕ}) h.added ∙ length-append (rows_of to 0x06) (method_cells params p cells.second cells.third ∷ []) in
        record {
          on = λ last k. d.on last (subst (λ ys. Adds ys to last) (sym items)
              (items_both 0x06 (IsMethodRow params r) (p ∷ []) (placed_methods (param + length (params_of x.now)) (drop (place + 1) bodies) (lent more)) to end last (method_added cells p to end both.0 h) k));
          declared = both.1;
          few = (let few = d.few in omega arith);
          within = (let within = d.within in omega arith);
          bodies_within = (let within = d.bodies_within in omega arith);
          bound = d.bound;
          runs = (let runs = d.runs in let sum = heavy in omega arith);
        }

  pub methods_end : (from to : Tables) (place param : ℕ) (bodies : List ℕ) (xs rest : List (Bor Method)) → rest ≡ [] → MethodsTo from to place param bodies xs rest → Adds (placed_methods 1 bodies (lent xs)) from to
  methods_end from to place param bodies xs rest e d =
      d.on to (subst (λ ys. Adds (placed_methods param (drop place bodies) (lent ys)) to to) (sym e) (items_none 0x06 (IsMethodRow params r) to))
