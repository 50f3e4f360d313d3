use Rattle.std.proofs.Common.{◌≡◌, false, map, take}
use Rattle.std.specs.List.{list_any}
use Rattle.type_tables.specs.Members.{assembly_of}
use Rattle.type_hierarchy.specs.Scopes.{sources, name_of}
use Rattle.type_hierarchy.specs.Names.{same_text}
use Rattle.type_tables.proofs.members.has_name.Given as goal

abbrev pub invariant-loop-number : goal.invariant-loop-number
invariant-loop-number l =
    list_any (same_text l.name) (map (λ n. name_of (assembly_of (sources l.image l.references) n)) (take l.number-index l.numbers)) ≡ false
