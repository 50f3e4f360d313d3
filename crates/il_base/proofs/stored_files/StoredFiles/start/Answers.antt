use Rattle.std.proofs.Common.{subst, sym, rules}
use Rattle.il_base.specs.Stock.{Held, Puts}
use Rattle.il_base.specs.StoredFiles.{stock_of}
use Rattle.il_base.specs.declared.stored_files.StoredFiles.{StoredFiles}
use Rattle.il_base.proofs.Stores.{puts, held_at-some}
use Rattle.il_base.proofs.stored_files.StoredFiles.start.Goals as goal

pub returns-in-Some-clause-ok : goal.returns-in-Some-clause-ok
returns-in-Some-clause-ok c =
    let old = c.args.self.now in
    let now : StoredFiles = record { alloc = old.alloc; files = c.get_mut.follows.lender c.clear.new.self } in
    let P : Held → Type 0 = λ held. Puts (stock_of old) (stock_of now) c.args.name.now held in
    let updates = (c.get_mut.follows.holds c.clear.new.self).3 (search rules) in
    rw (held_at-some (stock_of old) c.args.name.now c.in-Some.stored.now (sym c.in-Some.ensures.value)) (subst P c.clear.ensures (puts old now _ _ updates))
