use Rattle.std.proofs.Common.{nat_lt, arith}
use Rattle.std.proofs.lemmas.Bool.{ltb-true, leb-true, le-leb}
use Rattle.data_demands.proofs.Placing.{none_placed, one_placed}
use Rattle.data_demands.proofs.fields.has_data.Goals as goal

pub data_of-places-requires : goal.data_of-places-requires
data_of-places-requires c = record { meets = c.requires.can.meets }

pub returns-then-places-eq0 : goal.returns-then-places-eq0
returns-then-places-eq0 c =
    let rows = c.data_of-places.result in
    none_placed c.args.image.now c.requires.can c.args.row c.requires.there rows.first rows.count c.data_of-places.ensures.rows c.if-places-eq0.true

pub returns-then-size-gt0 : goal.returns-then-size-gt0
returns-then-size-gt0 c =
    let rows = c.data_of-places.result in
    let some = c.if-size-gt0.true in
    let is = c.readable.ensures in
    one_placed c.args.image.now c.requires.can c.args.row c.requires.there rows.first rows.count c.data_of-places.ensures.rows c.data_size-size.result _ c.requires.one c.if-places-eq0.false
    c.data_size-size.ensures (λ t. (omega arith, let l = leb-true c.data_size-size.result c.readable.result t in omega arith), λ p. le-leb c.data_size-size.result c.readable.result (let l = p.1 in omega arith))

pub returns-else-size-gt0 : goal.returns-else-size-gt0
returns-else-size-gt0 c =
    let rows = c.data_of-places.result in
    let none = c.if-size-gt0.false in
    one_placed c.args.image.now c.requires.can c.args.row c.requires.there rows.first rows.count c.data_of-places.ensures.rows c.data_size-size.result (nat_lt 0 c.data_size-size.result) c.requires.one c.if-places-eq0.false
    c.data_size-size.ensures (λ t. let some = ltb-true 0 c.data_size-size.result t in absurd (omega arith), λ p. absurd (let some = p.0 in omega arith))
