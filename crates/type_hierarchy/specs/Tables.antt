-- The tables of a world: which names are value types, what scopes mean, and what is known of each name that is declared.
use Rattle.std.specs.Prelude.{cond, List, [], ◌∷◌, Option, None, Some}
use Rattle.type_terms.specs.declared.name.TypeName.{TypeName}
use Rattle.type_hierarchy.specs.Gathered.{scope_by}
use Rattle.type_hierarchy.specs.Names.{same_name}
use Rattle.type_hierarchy.specs.Hierarchy.{Hierarchy, Declaration}
use Rattle.type_hierarchy.specs.Reading.{value_by}
use Rattle.type_hierarchy.specs.declared.tables.Declared.{Declared}
use Rattle.type_hierarchy.specs.declared.tables.Tables.{Tables}

-- the entry of a name: that at the place of the first name that equals it
abbrev pub entry_in : List TypeName → List Declared → TypeName → Option Declared
entry_in [] entries name = None
entry_in (n ∷ names) [] name = None
entry_in (n ∷ names) (e ∷ entries) name = cond (same_name name n) (Some e) (entry_in names entries name)

unfoldable pub entry_of : Tables → TypeName → Option Declared
entry_of t name = entry_in t.names t.entries name

abbrev pub declaration : Declared → Declaration
declaration d = record { base = d.base; interfaces = d.interfaces; underlying = d.underlying }

abbrev pub declaration_in : Option Declared → Option Declaration
declaration_in None = None
declaration_in (Some d) = Some (declaration d)

-- what the tables say of types
unfoldable pub hierarchy_in : Tables → Hierarchy
hierarchy_in t = record {
  core = t.values.core;
  scope = scope_by t.means;
  is_value = value_by t.values;
  declared = λ name. declaration_in (entry_of t name);
}
