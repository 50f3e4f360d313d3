use Rattle.std.proofs.Common.{rules, ◌≡◌, sym, subst, ℕ, ◌+◌, ◌^◌, ◌<◌, List, [], ◌∷◌, map, length}
use Rattle.std.proofs.lemmas.List.{nil_from_length}
use Rattle.std.proofs.lemmas.Result.{on_ok_weaker}
use Rattle.metadata_tables.specs.Encoding.{rows_in}
use Rattle.image_rows.specs.InterfaceRows.{IsRising}
use Rattle.image_members.specs.Pushing.{AddsRows}
use Rattle.image_rows.proofs.InterfaceLemmas.{nothing_pushed, interfaces_room, interfaces_few, interfaces_pushed}
use Rattle.image_rows.proofs.interface_rows.push_interfaces.Goals as goal

pub indexes_of-requires-clause-known : goal.indexes_of-requires-clause-known
indexes_of-requires-clause-known c = c.requires.known

pub indexes_of-requires-clause-writable : goal.indexes_of-requires-clause-writable
indexes_of-requires-clause-writable c = c.requires.each.0

pub indexes_of-requires-clause-room : goal.indexes_of-requires-clause-room
indexes_of-requires-clause-room c = interfaces_room c.args.refs.now c.args.rows.now c.args.row c.args.interfaces.now c.requires

pub push_indexes-requires : goal.push_indexes-requires
push_indexes-requires c =
    let found = c.in_ok-found.found in
    let sorted = c.in_ok-indexes.indexes.items in
    let rises : IsRising found sorted = subst (λ (xs : List ℕ). IsRising xs sorted) c.as_slice.ensures c.in_ok-indexes.ensures in
    subst (λ (xs : List ℕ). rows_in c.args.rows.now 0x09 + length xs < 2 ^ 24) (sym c.as_slice-2.ensures.value)
    (interfaces_few c.args.refs.now c.indexes_of.new.refs c.args.rows.now c.args.row c.args.interfaces.now found sorted c.requires c.in_ok-found.ensures rises)

pub returns : goal.returns
returns c =
    let found = c.in_ok-found.found in
    let sorted = c.in_ok-indexes.indexes.items in
    let rises : IsRising found sorted = subst (λ (xs : List ℕ). IsRising xs sorted) c.as_slice.ensures c.in_ok-indexes.ensures in
    let from = c.args.rows.now in
    let to = c.push_indexes.new.rows in
    on_ok_weaker c.push_indexes.result
    (λ h. interfaces_pushed c.args.refs.now c.indexes_of.new.refs from to c.args.row c.args.interfaces.now found sorted c.in_ok-found.ensures rises
    (subst (λ (xs : List ℕ). AddsRows 0x09 (map (λ (index : ℕ). c.args.row ∷ index ∷ []) xs) from to) c.as_slice-2.ensures.value h))
    c.push_indexes.ensures

pub returns-then-is_empty : goal.returns-then-is_empty
returns-then-is_empty c =
    let long : length c.args.interfaces.now ≡ 0 = search rules in
    nothing_pushed c.args.refs.now c.args.rows.now c.args.row c.args.interfaces.now (nil_from_length c.args.interfaces.now long) c.requires.known
