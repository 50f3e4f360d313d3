use Rattle.std.proofs.Common.{◌≡◌, ℕ, ◌≤◌, ◌<◌, IsTrue, true, false, arith, refl, sym, subst, ◌∙◌, ap}
use Rattle.metadata_tables.specs.Stream.{row_count}
use Rattle.image_model.specs.Rows.{count_of}
use Rattle.row_demands.proofs.Tiles.{leb_is}
use Rattle.row_demands.proofs.Holding.{holds_behind}
use Rattle.row_demands.proofs.owners.Owners.hold.Goals as goal

pub returns-then-rows-gt0 : goal.returns-then-rows-gt0
returns-then-rows-gt0 c =
    let o = c.args.self.now in
    let t = c.if-rows-gt0.true in
    let r : c.rows.result ≡ count_of c.args.image.now o.table = c.rows.ensures.rows ∙ ap (λ stream. row_count stream o.table) c.tables.ensures.tables in
    let some : 0 < count_of c.args.image.now o.table = omega arith in
    let h = holds_behind c.args.image.now o.table o.column o.members c.args.member c.requires.rise c.requires.there some in
    let l = leb_is c.begin.result c.args.member in
    let b = c.begin.ensures in
    (λ yes. h.0 (subst (λ k. k ≤ c.args.member) b (l.0 yes)), λ lies. l.1 (subst (λ k. k ≤ c.args.member) (sym b) (h.1 lies)))
