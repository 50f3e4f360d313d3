use Rattle.std.proofs.Common.{◌≡◌, take, map}
use Rattle.std.specs.List.{flat_map}
use Rattle.type_tables.specs.Entries.{IsEntries, extended}
use Rattle.type_hierarchy.specs.Scopes.{sources, Member, extern_names, name_of, given, names_in}
use Rattle.type_tables.proofs.naming.read_names.Given as goal

abbrev pub invariant-loop-other : goal.invariant-loop-other
invariant-loop-other l = IsEntries l.entries (take l.other-index (extern_names l.image))

abbrev pub invariant-loop-number : goal.invariant-loop-number
invariant-loop-number l =
    let s = sources l.image l.references in
    let so_far = take l.number-index (given s) in
    record {
      given : l.given ≡ map (λ (m : Member). name_of m.assembly) so_far;
      entries : IsEntries l.entries (extended (name_of l.image) (extern_names l.image) (flat_map names_in so_far));
    }
