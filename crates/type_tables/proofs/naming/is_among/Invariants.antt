use Rattle.std.proofs.Common.{◌≡◌, false, take}
use Rattle.std.specs.List.{list_any}
use Rattle.type_hierarchy.specs.Names.{same_text}
use Rattle.type_tables.proofs.naming.is_among.Given as goal

abbrev pub invariant-loop-other : goal.invariant-loop-other
invariant-loop-other l = list_any (same_text l.text) (take l.other-index l.texts) ≡ false
