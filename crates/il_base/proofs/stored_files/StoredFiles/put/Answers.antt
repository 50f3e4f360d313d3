use Rattle.std.proofs.Common.{subst, List, ℕ}
use Rattle.il_base.specs.Stock.{Puts}
use Rattle.il_base.specs.StoredFiles.{stock_of}
use Rattle.il_base.specs.declared.stored_files.StoredFiles.{StoredFiles}
use Rattle.il_base.proofs.Stores.{puts}
use Rattle.il_base.proofs.stored_files.StoredFiles.put.Goals as goal

pub returns-clause-ok : goal.returns-clause-ok
returns-clause-ok c =
    let old = c.args.self.now in
    let now : StoredFiles = record { alloc = old.alloc; files = c.insert.new.self } in
    let P : List ℕ → Type 0 = λ name. Puts (stock_of old) (stock_of now) name c.args.stored in
    subst P c.in_ok-key.ensures.ok (puts old now _ _ c.in_ok-insert.ensures.updates)
