-- Single references and names as a listing spells them, by the assemblies that are named.
use Rattle.std.specs.Prelude.{ℕ, List, map}
use Rattle.type_terms.specs.declared.name.TypeName.{TypeName}
use Rattle.type_terms.specs.declared.reference.MethodRef.{MethodRef}
use Rattle.assembly_tree.specs.declared.assembly.ExternAssembly.{ExternAssembly}
use Rattle.listing_model.specs.References.{method_ref}
use Rattle.listing_model.specs.Shown.{none, put}
use Rattle.listing_model.specs.Text.{line_text}
use Rattle.listing_model.specs.Types.{type_name}

abbrev pub reference_text : List ExternAssembly → MethodRef → List ℕ
reference_text externs r = line_text (put (method_ref externs r) none)

abbrev pub type_text : List ExternAssembly → TypeName → List ℕ
type_text externs t = line_text (put (type_name externs t) none)
