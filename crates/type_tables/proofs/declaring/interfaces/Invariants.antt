use Rattle.std.proofs.Common.{◌≡◌, take}
use Rattle.type_hierarchy.specs.Declarations.{interfaces_in}
use Rattle.type_hierarchy.specs.Reading.{reading_by}
use Rattle.type_tables.proofs.declaring.interfaces.Given as goal

abbrev pub invariant-loop-owner : goal.invariant-loop-owner
invariant-loop-owner l = l.all ≡ interfaces_in (reading_by l.values l.means) (take l.owner-index l.implements)
