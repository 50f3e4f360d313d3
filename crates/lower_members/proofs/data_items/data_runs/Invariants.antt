use Rattle.std.proofs.Common.{◌≡◌, take}
use Rattle.std.specs.List.{flat_map}
use Rattle.source_flags.specs.InRange.{AllInRange}
use Rattle.source_model.specs.Data.{data_items, item_bytes}
use Rattle.source_model.specs.Forest.{Forest, preorder}
use Rattle.source_model.specs.Source.{Source}
use Rattle.source_nodes.specs.Readers.{Reads}
use Rattle.lower_members.specs.Runs.{bytes_of_runs}
use Rattle.lower_members.proofs.data_items.data_runs.Given as goal

abbrev pub invariant-loop-piece : goal.invariant-loop-piece
invariant-loop-piece l = (s : Source) (f : Forest) → Reads l.reader s → preorder f ≡ l.nodes → AllInRange s f → bytes_of_runs l.runs ≡ flat_map (item_bytes s) (take l.piece-index (data_items f))
