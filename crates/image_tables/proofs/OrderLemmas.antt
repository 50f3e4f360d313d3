-- What is declared, in the order of its rows.
use Rattle.std.proofs.Common.{◌≡◌, ap, refl, sym, ◌∙◌, subst, ℕ, ◌+◌, List, [], ◌∷◌, ◌++◌, length, map}
use Rattle.std.specs.Borrow.{Bor}
use Rattle.std.specs.List.{AllZip, flat_map}
use Rattle.std.proofs.lemmas.List.{map-append}
use Rattle.std.proofs.lemmas.Grind.{flat_map-append}
use Rattle.assembly_tree.specs.declared.assembly.Assembly.{Assembly}
use Rattle.assembly_tree.specs.declared.members.Field.{Field}
use Rattle.assembly_tree.specs.declared.members.Method.{Method}
use Rattle.assembly_tree.specs.declared.members.Param.{Param}
use Rattle.image_tokens.specs.declared.references.References.{References}
use Rattle.image_tokens.specs.declared.row_set.Cells.{Cells}
use Rattle.image_members.specs.DeclaredMembers.{owned, class_fields, class_methods, IsFieldOf, IsMethodOf}
use Rattle.image_rows.specs.FieldRows.{IsFieldAt}
use Rattle.image_rows.specs.Filled.{HasDeclared}
use Rattle.image_members.specs.Lists.{params_in}
use Rattle.image_rows.specs.MethodRows.{IsMethodAt}
use Rattle.image_rows.specs.ParamRows.{class_params, all_params}
use Rattle.image_members.specs.Places.{all_fields, all_methods, params_of}
use Rattle.image_members.specs.declared.classes.Class.{Class}

-- ---- members with the rows of their types, without these

abbrev item_of : {X : Type 0} → ℕ × X → X
item_of m = m.1

items_in : {X : Type 0} (row : ℕ) (xs : List X) → map item_of (map (λ (x : X). (row, x)) xs) ≡ xs
items_in row [] = refl
items_in row (x ∷ xs) = ap (λ ys. x ∷ ys) (items_in row xs)

items_owned : {X : Type 0} (of : Class → List X) (row : ℕ) (cs : List Class) → map item_of (owned row (map of cs)) ≡ flat_map of cs
items_owned of row [] = refl
items_owned {X = X} of row (c ∷ cs) =
    map-append item_of (map (λ (x : X). (row, x)) (of c)) (owned (row + 1) (map of cs)) ∙ ap (λ ys. ys ++ map item_of (owned (row + 1) (map of cs))) (items_in row (of c))
    ∙ ap (λ ys. of c ++ ys) (items_owned of (row + 1) cs)

items_all : {X : Type 0} (of : Class → List X) (xs : List X) (cs : List Class) → map item_of (owned 1 (xs ∷ map of cs)) ≡ xs ++ flat_map of cs
items_all {X = X} of xs cs =
    map-append item_of (map (λ (x : X). (1, x)) xs) (owned 2 (map of cs)) ∙ ap (λ ys. ys ++ map item_of (owned 2 (map of cs))) (items_in 1 xs)
    ∙ ap (λ ys. xs ++ ys) (items_owned of 2 cs)

-- what belongs to an item with its row belongs to the item with some row
zip_items : {X : Type 0} (R : Cells → ℕ × X → Type 0) (rows : List Cells) (ms : List (ℕ × X)) → AllZip R rows ms
    → AllZip (λ cells x. (type : ℕ) × R cells (type, x)) rows (map item_of ms)
zip_items R [] [] h = tt
zip_items R [] (m ∷ ms) h = absurd h
zip_items R (row ∷ rows) [] h = absurd h
zip_items R (row ∷ rows) ((type, x) ∷ ms) h = ((type, h.0), zip_items R rows ms h.1)

pub fields_declared : (a : Assembly) (classes : List Class) (r : References) → HasDeclared a classes r → AllZip (IsFieldAt r) r.declared.fields (all_fields a classes)
fields_declared a classes r h =
    subst (λ (fs : List Field). AllZip (IsFieldAt r) r.declared.fields fs) (items_all class_fields a.fields classes)
    (zip_items (IsFieldOf r) r.declared.fields (owned 1 (a.fields ∷ map class_fields classes)) h.fields)

pub methods_declared : (a : Assembly) (classes : List Class) (r : References) → HasDeclared a classes r → AllZip (IsMethodAt r) r.declared.methods (all_methods a classes)
methods_declared a classes r h =
    subst (λ (ms : List Method). AllZip (IsMethodAt r) r.declared.methods ms) (items_all class_methods a.methods classes)
    (zip_items (IsMethodOf r) r.declared.methods (owned 1 (a.methods ∷ map class_methods classes)) h.methods)

-- ---- parameters

params_in_classes : (cs : List Class) → flat_map params_of (flat_map class_methods cs) ≡ flat_map class_params cs
params_in_classes [] = refl
params_in_classes (c ∷ cs) = flat_map-append params_of (class_methods c) (flat_map class_methods cs) ∙ ap (λ (ys : List Param). class_params c ++ ys) (params_in_classes cs)

-- those of all methods are those of each type in turn
pub params_same : (a : Assembly) (classes : List Class) → params_in a classes ≡ all_params a.methods classes
params_same a classes =
    flat_map-append params_of a.methods (flat_map class_methods classes) ∙ ap (λ (ys : List Param). flat_map params_of a.methods ++ ys) (params_in_classes classes)
