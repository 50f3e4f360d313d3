-- The members of types and the parameters of methods are the runs of their rows (ECMA-335 II.22.12, II.22.26, II.22.35, II.22.37).
use Rattle.std.specs.Prelude.{ℕ, ◌+◌, List, length}
use Rattle.std.specs.List.{AllZip}
use Rattle.assembly_tree.specs.declared.assembly.Assembly.{Assembly}
use Rattle.assembly_tree.specs.declared.members.Event.{Event}
use Rattle.assembly_tree.specs.declared.members.Method.{Method}
use Rattle.assembly_tree.specs.declared.members.Property.{Property}
use Rattle.image_tokens.specs.declared.references.References.{References}
use Rattle.image_members.specs.CodeBytes.{HasBody}
use Rattle.image_members.specs.DeclaredMembers.{class_fields, class_methods}
use Rattle.image_members.specs.Lists.{params_in, properties_in, events_in, access_of, access_from, event_access, property_access}
use Rattle.image_rows.specs.MethodRows.{IsMethodRow}
use Rattle.image_members.specs.Places.{all_fields, all_methods, class_properties, class_events}
use Rattle.image_rows.specs.TypeRows.{IsTypeDefRow}
use Rattle.image_members.specs.declared.classes.Class.{Class}
use Rattle.image_model.specs.Rows.{first_method, fields_of, methods_of, params_of, events_of, properties_of}
use Rattle.laws_image_parts.specs.AtRows.{AtEach, IsItem}
use Rattle.laws_image_parts.specs.RowCells.{type_cells, method_cells}
use Rattle.laws_image_parts.specs.RowsRead.{ReadsRows}

-- the row of a class, with the runs of its fields and methods
abbrev pub ClassRowIs : Assembly → List Class → References → List ℕ → ℕ → Class → Type 0
ClassRowIs a classes r image type c =
    (field method : ℕ) × IsTypeDefRow (length (all_fields a classes)) (length (all_methods a classes)) r (type_cells image type)
    (record { class = c; field = field; method = method })

-- the row of a method, with its body and the run of its parameters
abbrev pub MethodRowIs : Assembly → List Class → References → (code image : List ℕ) → ℕ → Method → Type 0
MethodRowIs a classes r code image row m =
    (rva param : ℕ) × IsMethodRow (length (params_in a classes)) r (method_cells image row) (record { method = m; rva = rva; param = param }) × HasBody r code rva m.body

-- The row of a property or an event of a type is its row among all of them, and so are its accessors, whose methods are
-- counted from the type's first.
abbrev pub IsPropertyAt : Assembly → List Class → List ℕ → (type row : ℕ) → Property → Type 0
IsPropertyAt a classes image type row p =
    IsItem (properties_in classes) row p × IsItem (access_from property_access (1 + length a.methods) classes) row (access_of (first_method image type) p.accessors)

abbrev pub IsEventAt : Assembly → List Class → List ℕ → (type row : ℕ) → Event → Type 0
IsEventAt a classes image type row e =
    IsItem (events_in classes) row e × IsItem (access_from event_access (1 + length a.methods) classes) row (access_of (first_method image type) e.accessors)

-- the rows of types and methods, and the runs of all that they have, `<Module>` in row 1
pub record RunsRead (a : Assembly) (classes : List Class) (r : References) (code image : List ℕ) : Type 0 where
  pub type_rows : AtEach (ClassRowIs a classes r image) 2 classes
  pub method_rows : AtEach (MethodRowIs a classes r code image) 1 (all_methods a classes)
  pub module_fields : AllZip (IsItem (all_fields a classes)) (fields_of image 1) a.fields
  pub fields : AtEach (λ type c. AllZip (IsItem (all_fields a classes)) (fields_of image type) (class_fields c)) 2 classes
  pub module_methods : AllZip (IsItem (all_methods a classes)) (methods_of image 1) a.methods
  pub methods : AtEach (λ type c. AllZip (IsItem (all_methods a classes)) (methods_of image type) (class_methods c)) 2 classes
  pub params : AtEach (λ row (m : Method). AllZip (IsItem (params_in a classes)) (params_of image row) m.params) 1 (all_methods a classes)
  pub properties : AtEach (λ type c. AllZip (IsPropertyAt a classes image type) (properties_of image type) (class_properties c)) 2 classes
  pub events : AtEach (λ type c. AllZip (IsEventAt a classes image type) (events_of image type) (class_events c)) 2 classes

-- ---- the law

abbrev pub RunsAreRead : Type 0
RunsAreRead = (a : Assembly) (classes : List Class) (r : References) (code image : List ℕ) → ReadsRows a classes r code image → RunsRead a classes r code image
