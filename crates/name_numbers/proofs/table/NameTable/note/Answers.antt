use Rattle.std.proofs.Common.{◌≡◌, ℕ, Some, cond, length, rules}
use Rattle.std.specs.Prelude.{nat_eq}
use Rattle.hash_places.specs.Slots.{place_of}
use Rattle.name_numbers.specs.Table.{told, told_hash}
use Rattle.name_numbers.specs.declared.table.NameTable.{NameTable}
use Rattle.name_numbers.specs.declared.table.Entry.{Entry}
use Rattle.name_numbers.proofs.Noting.{Finds-note}
use Rattle.name_numbers.proofs.table.NameTable.note.Goals as goal

pub returns-clause-finds : goal.returns-clause-finds
returns-clause-finds c =
    let old = c.args.self.now in
    let new : NameTable = record { newest = c.insert.new.self; entries = c.push.new.self } in
    let entry : Entry = record { key = c.args.key; number = c.args.number; next = c.get-next.result } in
    let next : entry.next ≡ place_of old.newest (told_hash (told c.args.texts.now c.args.key)) = search rules in
    let newest : (q : ℕ) → place_of new.newest q ≡ cond (nat_eq (told_hash (told c.args.texts.now c.args.key)) q) (Some (length old.entries)) (place_of old.newest q) = search rules in
    Finds-note old new c.args.texts.now entry c.requires.finds c.requires.lacks (search rules) next newest
