use Rattle.std.proofs.Common.{subst, sym, rules, ◌≡◌, Some}
use Rattle.std.proofs.lemmas.Result.{on_ok_weaker, on_err_weaker}
use Rattle.il_base.specs.Stock.{Held, Puts}
use Rattle.il_base.specs.StoredFiles.{stock_of}
use Rattle.il_base.specs.declared.stored_files.StoredFiles.{StoredFiles}
use Rattle.il_base.proofs.Stores.{puts, puts_same, held_at-some}
use Rattle.il_base.proofs.stored_files.StoredFiles.append.Goals as goal

pub returns-in-Some-clause-ok : goal.returns-in-Some-clause-ok
returns-in-Some-clause-ok c =
    let old = c.args.self.now in
    let now : StoredFiles = record { alloc = old.alloc; files = c.get_mut.follows.lender c.append.new.self } in
    let P : Held → Type 0 = λ held. Puts (stock_of old) (stock_of now) c.args.name.now held in
    let updates = (c.get_mut.follows.holds c.append.new.self).3 (search rules) in
    rw (held_at-some (stock_of old) c.args.name.now c.in-Some.stored.now (sym c.in-Some.ensures.value)) (on_ok_weaker _ (λ e. subst P e (puts old now _ _ updates)) c.append.ensures.ok)

pub returns-in-Some-clause-err : goal.returns-in-Some-clause-err
returns-in-Some-clause-err c =
    let old = c.args.self.now in
    let now : StoredFiles = record { alloc = old.alloc; files = c.get_mut.follows.lender c.append.new.self } in
    let updates = (c.get_mut.follows.holds c.append.new.self).3 (search rules) in
    let P : Held → Type 0 = λ held. stock_of old c.args.name.now ≡ Some held in
    on_err_weaker _ (λ e. puts_same (stock_of old) (stock_of now) c.args.name.now c.append.new.self (subst P (sym e) (sym c.in-Some.ensures.value)) (puts old now c.args.name.now c.append.new.self updates)) c.append.ensures.err
