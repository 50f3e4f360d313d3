-- The classes among types, one more type at a time.
use Rattle.std.proofs.Common.{◌≡◌, ◌∙◌, refl, sym, ap, ℕ, ◌+◌, ◌<◌, List, [], ◌∷◌, ◌++◌, length, get_or, map, take}
use Rattle.std.specs.List.{flat_map, filter}
use Rattle.std.proofs.lemmas.Grind.{flat_map-append}
use Rattle.std.proofs.lemmas.List.{append_assoc, append-nil, take_more}
use Rattle.std.proofs.lemmas.List.Elements.{filter-append}
use Rattle.type_terms.specs.declared.name.TypeId.{TypeId}
use Rattle.assembly_tree.specs.declared.typedef.TypeDef.{TypeDef}
use Rattle.assembly_tree.specs.declared.typedef.TypeDef.TheFolds.{fold-TypeDef, fold_out-TypeDef}
use Rattle.assembly_tree.specs.declared.typedef.TypeDef.TheViews.{out-TypeDef}
use Rattle.class_model.specs.declared.row.Row.{Row}
use Rattle.class_model.specs.Classes.{is_class, rows_from, rows_step, typedef_rows}
use Rattle.class_faces.specs.Paths.{row_at, classes_in}

abbrev rows_by : TypeDef → List TypeId → List Row
rows_by t = fold-TypeDef (List TypeId → List Row) rows_step t

nested_rows : (ts : List TypeDef) (path : List TypeId) → flat_map (λ (rows : List TypeId → List Row). rows path) (map rows_by ts) ≡ rows_from path ts
nested_rows [] path = refl
nested_rows (t ∷ ts) path = ap (λ (l : List Row). rows_by t path ++ l) (nested_rows ts path)

rows_out : (outer : List TypeId) (t : TypeDef) →
    typedef_rows outer t ≡ row_at (outer ++ (out-TypeDef t).id ∷ []) t ∷ rows_from (outer ++ (out-TypeDef t).id ∷ []) (out-TypeDef t).nested
rows_out outer t =
    ap (λ (rows : List TypeId → List Row). rows outer) (fold_out-TypeDef (List TypeId → List Row) rows_step t)
    ∙ ap (λ (l : List Row). row_at (outer ++ (out-TypeDef t).id ∷ []) t ∷ l) (nested_rows (out-TypeDef t).nested (outer ++ (out-TypeDef t).id ∷ []))

-- those of one more type
abbrev pub one_more : List TypeId → TypeDef → List Row
one_more outer t =
    filter is_class (row_at (outer ++ (out-TypeDef t).id ∷ []) t ∷ []) ++ classes_in (outer ++ (out-TypeDef t).id ∷ []) (out-TypeDef t).nested

one_is : (outer : List TypeId) (t : TypeDef) → filter is_class (rows_from outer (t ∷ [])) ≡ one_more outer t
one_is outer t =
    let path : List TypeId = outer ++ (out-TypeDef t).id ∷ [] in
    ap (filter is_class) (append-nil (typedef_rows outer t) ∙ rows_out outer t)
    ∙ filter-append is_class (row_at path t ∷ []) (rows_from path (out-TypeDef t).nested)

pub classes_more : (outer : List TypeId) (ts : List TypeDef) (k : ℕ) (t : TypeDef) → k < length ts → t ≡ get_or ts k t →
    classes_in outer (take (k + 1) ts) ≡ classes_in outer (take k ts) ++ one_more outer t
classes_more outer ts k t low is =
    ap (classes_in outer) (take_more ts k t low ∙ ap (λ (x : TypeDef). take k ts ++ x ∷ []) (sym is))
    ∙ ap (filter is_class) (flat_map-append (typedef_rows outer) (take k ts) (t ∷ []))
    ∙ filter-append is_class (rows_from outer (take k ts)) (rows_from outer (t ∷ []))
    ∙ ap (λ (l : List Row). classes_in outer (take k ts) ++ l) (one_is outer t)

pub joined : {X : Type 0} (all first own inner middle now last : List X) → now ≡ all ++ first → middle ≡ now ++ own → last ≡ middle ++ inner →
    last ≡ all ++ (first ++ (own ++ inner))
joined all first own inner middle now last a b c =
    c ∙ ap (λ l. l ++ inner) (b ∙ ap (λ l. l ++ own) a) ∙ append_assoc (all ++ first) own inner ∙ append_assoc all first (own ++ inner)
