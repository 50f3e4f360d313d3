use Rattle.std.proofs.Common.{ℕ, List, take}
use Rattle.type_tables.specs.Entries.{IsEntries, extended}
use Rattle.type_hierarchy.specs.Scopes.{extern_names}
use Rattle.type_tables.proofs.naming.add_names.Given as goal

abbrev pub invariant-loop-other : goal.invariant-loop-other
invariant-loop-other l =
    (all : List (List ℕ)) → IsEntries l.initial.entries all → IsEntries l.entries (extended l.image all (take l.other-index (extern_names l.reference)))
