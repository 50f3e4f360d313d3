use Rattle.std.proofs.Common.{◌≡◌, ℕ, ◌+◌, List, [], sym, ◌∙◌, subst, IfOk, arith}
use Rattle.std.specs.List.{AllZip, range_with_len}
use Rattle.std.specs.Prelude.{Contains}
use Rattle.image_model.specs.Reading.{IsEvent}
use Rattle.image_model.specs.Rows.{events_of}
use Rattle.image_source.specs.Names.{names_of}
use Rattle.row_parts.proofs.OwnedRows.{range_contains}
use Rattle.image_types.proofs.MemberRuns.{events_none, events_some, map_there}
use Rattle.image_types.proofs.members.type_events.Goals as goal

pub bounds-maps-row : goal.bounds-maps-row
bounds-maps-row c = let long = c.requires.maps.long in let upto = c.requires.there.1 in omega (arith, long, upto)

pub returns-then-map-eq0 : goal.returns-then-map-eq0
returns-then-map-eq0 c =
    let image = c.args.source.now.image.now in
    subst (λ (all : List ℕ). AllZip (IsEvent image (names_of c.args.source.now.kept.now) c.args.row) all c.new.result) (sym (events_none image c.args.maps.now c.args.row c.requires.maps c.if-map-eq0.true))
    (subst (AllZip (IsEvent image (names_of c.args.source.now.kept.now) c.args.row) []) (sym c.new.ensures) tt)

pub run_rows-rows-requires-clause-there : goal.run_rows-rows-requires-clause-there
run_rows-rows-requires-clause-there c = map_there c.args.source.now.image.now 0x12 c.args.maps.now c.requires.maps c.args.row (let n = c.if-map-eq0.false in omega arith)

pub events-requires-clause-there : goal.events-requires-clause-there
events-requires-clause-there c = λ k less.
    let image = c.args.source.now.image.now in
    let rows = c.run_rows-rows.result in
    let are : events_of image c.args.row ≡ range_with_len rows.first rows.count = events_some image c.args.maps.now c.args.row c.requires.maps (let n = c.if-map-eq0.false in omega arith) ∙ c.run_rows-rows.ensures.rows in
    let has = subst (λ (all : List ℕ). Contains all (rows.first + k)) (sym are) (range_contains rows.first rows.count k less) in
    (c.requires.ready.owned.events c.args.row (rows.first + k) c.requires.there has, has)

pub returns : goal.returns
returns c =
    let image = c.args.source.now.image.now in
    let rows = c.run_rows-rows.result in
    let are : events_of image c.args.row ≡ range_with_len rows.first rows.count = events_some image c.args.maps.now c.args.row c.requires.maps (let n = c.if-map-eq0.false in omega arith) ∙ c.run_rows-rows.ensures.rows in
    subst (λ (all : List ℕ). IfOk c.events.result (AllZip (IsEvent image (names_of c.args.source.now.kept.now) c.args.row) all)) (sym are) c.events.ensures
