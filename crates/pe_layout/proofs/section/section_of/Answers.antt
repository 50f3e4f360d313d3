use Rattle.std.proofs.Common.{◌≡◌, ◌+◌, ◌*◌, false, sym, ◌∙◌, arith}
use Rattle.pe_layout.specs.FileMap.{section_at, holds}
use Rattle.pe_layout.proofs.Sections.{find_more}
use Rattle.pe_layout.proofs.section.section_of.Goals as goal

pub loop-k-preserved : goal.loop-k-preserved
loop-k-preserved c =
    let more = find_more c.args.rva c.args.file.now c.args.sections c.args.count c.loop-k.k (omega arith) in
    let past : holds c.args.rva (section_at c.args.file.now (c.args.sections + 40 * c.loop-k.k)) ≡ false = cc in
    sym (rw past at more) ∙ c.loop-k.invariant
