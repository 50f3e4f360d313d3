use Rattle.std.proofs.Common.{◌≡◌, ◌+◌, ◌++◌, drop, map}
use Rattle.type_tables.specs.Members.{member, assembly_of}
use Rattle.type_hierarchy.specs.Scopes.{sources, members, members_from, name_of}
use Rattle.type_tables.proofs.members.member_numbers.Given as goal

abbrev pub invariant-loop-k : goal.invariant-loop-k
invariant-loop-k l =
    let s = sources l.image l.references in
    map (member s) l.numbers ++ members_from (l.k + 1) (map (λ n. name_of (assembly_of s n)) l.numbers) (drop l.k l.references) ≡ members s
