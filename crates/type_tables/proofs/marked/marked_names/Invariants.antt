use Rattle.std.proofs.Common.{◌≡◌, take}
use Rattle.std.specs.List.{flat_map}
use Rattle.type_terms.specs.declared.name.TypeName.{TypeName}
use Rattle.type_hierarchy.specs.Scopes.{sources, members}
use Rattle.type_hierarchy.specs.Names.{is_among}
use Rattle.type_tables.proofs.MarkLemmas.{marked_in}
use Rattle.type_tables.proofs.marked.marked_names.Given as goal

abbrev pub invariant-loop-k : goal.invariant-loop-k
invariant-loop-k l =
    let s = sources l.image l.references in
    (name : TypeName) → is_among l.names name ≡ is_among (flat_map (marked_in s) (take l.k (members s))) name
