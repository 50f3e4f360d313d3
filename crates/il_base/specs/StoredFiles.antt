-- What the files in memory are.
use Rattle.std.specs.BTreeMap.{get_by_text}
use Rattle.il_base.specs.Stock.{Stock}
use Rattle.il_base.specs.declared.stored_files.StoredFiles.{StoredFiles}

-- what is stored under each name
abbrev pub stock_of : StoredFiles → Stock
stock_of all name = get_by_text all.files name
