use Rattle.std.proofs.Common.{◌≡◌, ◌⊎◌, List, None, take}
use Rattle.std.specs.Prelude.{fold}
use Rattle.std.specs.List.{AllByRecursion}
use Rattle.ilasm_grammar.specs.declared.productions.TheConstants.{MEMBER_PACK, MEMBER_SIZE}
use Rattle.source_model.specs.Forest.{Part}
use Rattle.source_model.specs.Source.{Source}
use Rattle.source_nodes.specs.Pieces.{ArePieces}
use Rattle.source_nodes.specs.Readers.{Reads}
use Rattle.lower_members.specs.Layouts.{number_or}
use Rattle.param_lines.specs.Ranged.{IsRanged}
use Rattle.lower_members.proofs.layouts.last_number.Given as goal

abbrev pub invariant-loop-member : goal.invariant-loop-member
invariant-loop-member l = (s : Source) (ps : List Part) → Reads l.reader s → ArePieces l.nodes l.members ps → AllByRecursion (IsRanged s) ps
    → (l.production ≡ MEMBER_PACK) ⊎ (l.production ≡ MEMBER_SIZE) → l.last ≡ fold (number_or s l.production) None (take l.member-index ps)
