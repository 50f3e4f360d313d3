-- The section that is found is the first that holds the RVA.
use Rattle.std.proofs.Common.{refl}
use Rattle.pe_layout.proofs.Readable.{readable_found, readable_none}
use Rattle.pe_layout.proofs.section.readable_at.Goals as goal

pub returns-in-Some-clause-none : goal.returns-in-Some-clause-none
returns-in-Some-clause-none c =
    let e = readable_found c.args.file.now c.args.rva _ _ c.in-Some.section c.requires.sections c.requires.count c.in-Some.ensures.first in
    rw e c.readable.ensures.none

pub returns-in-Some-clause-bytes : goal.returns-in-Some-clause-bytes
returns-in-Some-clause-bytes c =
    let e = readable_found c.args.file.now c.args.rva _ _ c.in-Some.section c.requires.sections c.requires.count c.in-Some.ensures.first in
    rw e c.readable.ensures.bytes

pub returns-in-None-clause-none : goal.returns-in-None-clause-none
returns-in-None-clause-none c =
    let e = readable_none c.args.file.now c.args.rva _ _ c.requires.sections c.requires.count c.in-None.ensures.first in
    (λ _. e, λ _. refl)
