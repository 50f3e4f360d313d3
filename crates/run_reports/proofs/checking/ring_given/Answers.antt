use Rattle.std.proofs.Common.{ℕ, List, [], ◌∷◌, ap, ◌∙◌}
use Rattle.std.specs.Prelude.{slice_index_or}
use Rattle.assembly_tree.specs.declared.assembly.Assembly.{Assembly}
use Rattle.run_endings.specs.Ends.{says_only}
use Rattle.run_endings.specs.declared.ending.Ending.{Ending}
use Rattle.listing_model.specs.Canon.{type_line}
use Rattle.run_reports.specs.Reports.GivesFailures.{cyclic}
use Rattle.run_reports.specs.Texts.{cyclic_text}
use Rattle.type_hierarchy.specs.Scopes.{sources}
use Rattle.run_reports.proofs.Merited.{due_of_ring}
use Rattle.run_reports.proofs.checking.ring_given.Goals as goal

pub returns-clause-gives : goal.returns-clause-gives
returns-clause-gives c =
    let k = c.args.number in
    let at = c.args.at.now in
    let name = slice_index_or (c.args.file.now ∷ c.args.names.now) k [] in
    cyclic k at c.requires
    (c.in_ok-ending.ensures ∙ ap (λ (file : List ℕ). says_only 1 (cyclic_text file (type_line c.assembly_by-of.result.now at))) c.name_by-file.ensures
    ∙ ap (λ (of : Assembly). says_only 1 (cyclic_text name (type_line of at))) c.assembly_by-of.ensures)

pub returns-clause-merits : goal.returns-clause-merits
returns-clause-merits c m due =
    ap (λ (x : Ending). x.number) c.in_ok-ending.ensures
    ∙ due_of_ring (sources c.args.a.now c.args.references.now) c.args.number c.args.at.now c.requires m due
