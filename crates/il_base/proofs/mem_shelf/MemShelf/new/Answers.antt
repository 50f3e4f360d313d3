use Rattle.std.proofs.Common.{ap}
use Rattle.il_base.specs.Stock.{bytes_of}
use Rattle.il_base.proofs.mem_shelf.MemShelf.new.Goals as goal

pub returns-clause-files : goal.returns-clause-files
returns-clause-files c = ap bytes_of c.new.ensures
