use Rattle.distinct_members.proofs.Deciding.{within_moved, before_moved, meets_moved, by_types, by_fields, by_methods, by_events, by_properties}
use Rattle.distinct_members.proofs.distinct.DistinctMembersDemand.row_meets.Goals as goal

pub returns-in-2 : goal.returns-in-2
returns-in-2 c =
    let image = c.self.inside.image.now in
    let r = c.is_other.result in
    meets_moved image c.args.self.now c.self.view_is c.args.table 2 c.args.row c.in-2.is r
    (by_types image c.self.inside.twins c.self.invariant c.args.row r (within_moved image c.args.self.now c.self.view_is c.args.table 2 c.args.row c.in-2.is r c.requires.there)
    (before_moved image c.args.self.now c.self.view_is c.args.table 2 c.args.row c.in-2.is r c.requires.before) c.is_other.ensures)

pub returns-in-4 : goal.returns-in-4
returns-in-4 c =
    let image = c.self.inside.image.now in
    let r = c.is_other-in-4.result in
    meets_moved image c.args.self.now c.self.view_is c.args.table 4 c.args.row c.in-4.is r
    (by_fields image c.self.inside.twins c.self.invariant c.args.row r (within_moved image c.args.self.now c.self.view_is c.args.table 4 c.args.row c.in-4.is r c.requires.there)
    (before_moved image c.args.self.now c.self.view_is c.args.table 4 c.args.row c.in-4.is r c.requires.before) c.is_other-in-4.ensures)

pub returns-in-6 : goal.returns-in-6
returns-in-6 c =
    let image = c.self.inside.image.now in
    let r = c.is_other-in-6.result in
    meets_moved image c.args.self.now c.self.view_is c.args.table 6 c.args.row c.in-6.is r
    (by_methods image c.self.inside.twins c.self.invariant c.args.row r (within_moved image c.args.self.now c.self.view_is c.args.table 6 c.args.row c.in-6.is r c.requires.there)
    (before_moved image c.args.self.now c.self.view_is c.args.table 6 c.args.row c.in-6.is r c.requires.before) c.is_other-in-6.ensures)

pub returns-in-20 : goal.returns-in-20
returns-in-20 c =
    let image = c.self.inside.image.now in
    let r = c.is_other-in-20.result in
    meets_moved image c.args.self.now c.self.view_is c.args.table 20 c.args.row c.in-20.is r
    (by_events image c.self.inside.twins c.self.invariant c.args.row r (within_moved image c.args.self.now c.self.view_is c.args.table 20 c.args.row c.in-20.is r c.requires.there)
    (before_moved image c.args.self.now c.self.view_is c.args.table 20 c.args.row c.in-20.is r c.requires.before) c.is_other-in-20.ensures)

pub returns-in-23 : goal.returns-in-23
returns-in-23 c =
    let image = c.self.inside.image.now in
    let r = c.is_other-in-23.result in
    meets_moved image c.args.self.now c.self.view_is c.args.table 23 c.args.row c.in-23.is r
    (by_properties image c.self.inside.twins c.self.invariant c.args.row r (within_moved image c.args.self.now c.self.view_is c.args.table 23 c.args.row c.in-23.is r c.requires.there)
    (before_moved image c.args.self.now c.self.view_is c.args.table 23 c.args.row c.in-23.is r c.requires.before) c.is_other-in-23.ensures)
