-- The whole listing by its parts.
use Rattle.std.proofs.Common.{◌≡◌, ℕ, ◌+◌, List, [], ◌∷◌, ◌++◌, length, map, fold, refl, ap, sym, ◌∙◌, arith}
use Rattle.ilasm_grammar.specs.declared.productions.TheConstants as p
use Rattle.type_terms.specs.declared.name.TypeId.{TypeId}
use Rattle.assembly_tree.specs.declared.assembly.Assembly.{Assembly}
use Rattle.assembly_tree.specs.declared.assembly.ExternAssembly.{ExternAssembly}
use Rattle.assembly_tree.specs.declared.members.Field.{Field}
use Rattle.assembly_tree.specs.declared.members.Method.{Method}
use Rattle.assembly_tree.specs.declared.typedef.TypeDef.{TypeDef}
use Rattle.listing_model.specs.Canon.{data_lines, declarations, source_of, canon, listing}
use Rattle.listing_model.specs.Classes.{class, classes_from, all_contents}
use Rattle.listing_model.specs.Manifests.{extern_lines, manifest_lines}
use Rattle.listing_model.specs.Members.{fields, field_contents}
use Rattle.listing_model.specs.Methods.{method}
use Rattle.listing_model.specs.Shown.{none, Item, item, put}
use Rattle.listing_model.specs.Text.{text}
use Rattle.print_leaves.specs.Page.{Page, blank, added, drawn}
use Rattle.print_leaves.specs.Laws.{DrawnIsText}
use Rattle.print_terms.specs.Rows.{under, in_row}
use Rattle.print_terms.proofs.Rows.{star_row, row_append, row_map}
use Rattle.print_members.specs.Rows.{fields_drawn}
use Rattle.print_members.proofs.Rows.{fields_are}
use Rattle.print_types.proofs.ClassRows.{classes_alike}
use Rattle.print_types.proofs.DataRows.{lines_append}

-- what is drawn of the declarations is drawn of the source that has them
source_is : (a : Assembly) (q : Page) (ds : List Item) → drawn q (source_of a ds) ≡ in_row q ds
source_is a q [] = refl
source_is a q (d ∷ ds) = star_row p.DECL_STAR_MORE p.DECL_STAR_END (under q d) ds

module _ (a : Assembly) where
  abbrev cs : List (List ℕ)
  cs = all_contents (map (class a.externs) a.types)

  abbrev externs_row : List Item
  externs_row = extern_lines a.externs 0 a.externs

  abbrev manifest_row : List Item
  manifest_row = manifest_lines a.externs a.manifest

  abbrev classes_row : List Item
  classes_row = classes_from p.DECL_CLASS [] 0 (map (class a.externs) a.types)

  abbrev fields_row : List Item
  fields_row = fields a.externs p.DECL_FIELD p.DECL_CUSTOM (length cs) a.fields

  abbrev methods_row : List Item
  methods_row = map (λ m. item p.DECL_METHOD (put (method a.externs m) none)) a.methods

  -- the parts in order
  declarations_are : (q : Page) →
      in_row q (declarations a)
      ≡ in_row
      (in_row
      (fold (λ r m. under r (method a.externs m))
      (fields_drawn a.externs
      (in_row (in_row (in_row q externs_row) manifest_row) (classes_from 0 [] 0 (map (class a.externs) a.types))) (length cs) a.fields)
      a.methods)
      (data_lines 0 cs))
      (data_lines (length cs) (field_contents a.fields))
  declarations_are q =
      let d5 = data_lines 0 (cs ++ field_contents a.fields) in
      let d4 = methods_row ++ d5 in
      let d3 = fields_row ++ d4 in
      let d2 = classes_row ++ d3 in
      let q1 = in_row q externs_row in
      let q2 = in_row q1 manifest_row in
      let q3 = in_row q2 (classes_from 0 [] 0 (map (class a.externs) a.types)) in
      let q4 = fields_drawn a.externs q3 (length cs) a.fields in
      let q5 = fold (λ r m. under r (method a.externs m)) q4 a.methods in
      row_append q externs_row (manifest_row ++ d2)
      ∙ (row_append q1 manifest_row d2
      ∙ (row_append q2 classes_row d3
      ∙ (ap (λ r. in_row r d3) (classes_alike a.externs p.DECL_CLASS q2 [] 0 (map (class a.externs) a.types))
      ∙ (row_append q3 fields_row d4
      ∙ (ap (λ r. in_row r d4) (fields_are a.externs p.DECL_FIELD p.DECL_CUSTOM (length cs) q3 a.fields)
      ∙ (row_append q4 methods_row d5
      ∙ (ap (λ r. in_row r d5) (row_map (λ m. item p.DECL_METHOD (put (method a.externs m) none)) q4 a.methods)
      ∙ (lines_append q5 0 cs (field_contents a.fields)
      ∙ ap (λ n. in_row (in_row q5 (data_lines 0 cs)) (data_lines n (field_contents a.fields))) {x = 0 + length cs} {y = length cs} (omega arith)))))))))

  pub declarations_done : (q p1 p2 p3 p4 p5 p6 new : Page) (externs given : List ExternAssembly) (types types' : List TypeDef) (fs fs' : List Field) (ms : List Method)
      (outer : List TypeId) (k j : ℕ) → outer ≡ [] → externs ≡ a.externs → given ≡ a.externs → types ≡ a.types → types' ≡ a.types → fs ≡ a.fields → fs' ≡ a.fields → ms ≡ a.methods →
      p1 ≡ in_row q (extern_lines given 0 given) → p2 ≡ in_row p1 (manifest_lines externs a.manifest) →
      p3 ≡ in_row p2 (classes_from 0 outer 0 (map (class externs) types)) → k ≡ 0 + length (all_contents (map (class externs) types)) →
      p4 ≡ fields_drawn externs p3 k fs → p5 ≡ fold (λ r m. under r (method externs m)) p4 ms →
      p6 ≡ in_row p5 (data_lines 0 (all_contents (map (class externs) types'))) → j ≡ 0 + length (all_contents (map (class externs) types')) →
      new ≡ in_row p6 (data_lines j (field_contents fs')) → new ≡ in_row q (declarations a)
  declarations_done q p1 p2 p3 p4 p5 p6 new externs given types types' fs fs' ms outer k j eo ee ei et eu ef eg em h1 h2 h3 hk h4 h5 h6 hj hn =
      let zero_more : 0 + length cs ≡ length cs = omega arith in
      let q1 = in_row q externs_row in
      let q2 = in_row q1 manifest_row in
      let q3 = in_row q2 (classes_from 0 [] 0 (map (class a.externs) a.types)) in
      let q4 = fields_drawn a.externs q3 (length cs) a.fields in
      let q5 = fold (λ r m. under r (method a.externs m)) q4 a.methods in
      let nk : k ≡ length cs = (hk ∙ (ap (λ es. 0 + length (all_contents (map (class es) types))) ee ∙ ap (λ ts. 0 + length (all_contents (map (class a.externs) ts))) et)) ∙ zero_more in
      let nj : j ≡ length cs = (hj ∙ (ap (λ es. 0 + length (all_contents (map (class es) types'))) ee ∙ ap (λ ts. 0 + length (all_contents (map (class a.externs) ts))) eu)) ∙ zero_more in
      let f1 : p1 ≡ q1 = h1 ∙ ap (λ es. in_row q (extern_lines es 0 es)) ei in
      let f2 : p2 ≡ q2 = h2 ∙ (ap (λ es. in_row p1 (manifest_lines es a.manifest)) ee ∙ ap (λ r. in_row r manifest_row) f1) in
      let f3 : p3 ≡ q3 =
      h3 ∙ (ap (λ o. in_row p2 (classes_from 0 o 0 (map (class externs) types))) eo ∙ (ap (λ es. in_row p2 (classes_from 0 [] 0 (map (class es) types))) ee
      ∙ (ap (λ ts. in_row p2 (classes_from 0 [] 0 (map (class a.externs) ts))) et
      ∙ ap (λ r. in_row r (classes_from 0 [] 0 (map (class a.externs) a.types))) f2))) in
      let f4 : p4 ≡ q4 =
      h4 ∙ (ap (λ es. fields_drawn es p3 k fs) ee
      ∙ (ap (λ r. fields_drawn a.externs r k fs) f3 ∙ (ap (λ n. fields_drawn a.externs q3 n fs) nk ∙ ap (λ xs. fields_drawn a.externs q3 (length cs) xs) ef))) in
      let f5 : p5 ≡ q5 =
      h5 ∙ (ap (λ es. fold (λ r m. under r (method es m)) p4 ms) ee
      ∙ (ap (λ r. fold (λ r m. under r (method a.externs m)) r ms) f4 ∙ ap (λ xs. fold (λ r m. under r (method a.externs m)) q4 xs) em)) in
      let f6 : p6 ≡ in_row q5 (data_lines 0 cs) =
      h6 ∙ (ap (λ es. in_row p5 (data_lines 0 (all_contents (map (class es) types')))) ee
      ∙ (ap (λ ts. in_row p5 (data_lines 0 (all_contents (map (class a.externs) ts)))) eu ∙ ap (λ r. in_row r (data_lines 0 cs)) f5)) in
      hn
      ∙ (ap (λ r. in_row r (data_lines j (field_contents fs'))) f6
      ∙ (ap (λ n. in_row (in_row q5 (data_lines 0 cs)) (data_lines n (field_contents fs'))) nj
      ∙ (ap (λ xs. in_row (in_row q5 (data_lines 0 cs)) (data_lines (length cs) (field_contents xs))) eg ∙ sym (declarations_are q))))

pub listed : DrawnIsText → (a : Assembly) (p ended : Page) → p ≡ in_row blank (declarations a) → ended ≡ added p (10 ∷ []) → ended.text ≡ listing a
unfolding listing text canon
listed law a p ended hp he =
    ap (λ (q : Page). q.text) he
    ∙ ap (λ (q : Page). q.text ++ 10 ∷ []) (hp ∙ (sym (source_is a blank (declarations a)) ∙ law blank (source_of a (declarations a))))
