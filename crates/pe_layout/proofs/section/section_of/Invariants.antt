use Rattle.std.proofs.Common.{◌≡◌, ◌+◌, ◌-◌, ◌*◌}
use Rattle.std.specs.List.{find}
use Rattle.pe_layout.specs.FileMap.{sections_from, holds}
use Rattle.pe_layout.proofs.section.section_of.Given as goal

-- the first section that holds the RVA is that of the headers that are left
abbrev pub invariant-loop-k : goal.invariant-loop-k
invariant-loop-k l =
    find (holds l.rva) (sections_from l.file (l.sections + 40 * l.k) (l.count - l.k)) ≡ find (holds l.rva) (sections_from l.file l.sections l.count)
