use Rattle.std.proofs.Common.{◌≡◌, List, ℕ, sym, ◌∙◌, ap, subst}
use Rattle.metadata_tables.specs.Stream.{cell}
use Rattle.image_model.specs.Columns.{type_name, type_space}
use Rattle.image_model.specs.Rows.{HasRow, enclosing}
use Rattle.image_model.specs.Streams.{strings_of}
use Rattle.type_names.specs.Numbers.{TypeNumbers}
use Rattle.name_weights.specs.Weights.{IsPart}
use Rattle.name_weights.proofs.Made.{own_by, type_part}
use Rattle.name_weights.proofs.parts.type_part.Goals as goal

pub returns : goal.returns
returns c =
    let seen : c.given.inside.image.now ≡ c.args.given.now.image = ap (λ (v : TypeNumbers). v.image) c.given.view_is in
    let image : List ℕ = c.given.inside.image.now in
    let there : HasRow image 0x02 c.args.row = subst (λ (x : List ℕ). HasRow x 0x02 c.args.row) (sym seen) c.requires in
    let space : c.cell-space.result ≡ type_space image c.args.row = c.cell-space.ensures ∙ ap (λ (s : List ℕ). cell s 0x02 c.args.row 2) c.tables-tables.ensures.tables in
    let name : c.cell-name.result ≡ type_name image c.args.row = c.cell-name.ensures ∙ ap (λ (s : List ℕ). cell s 0x02 c.args.row 1) c.tables-tables.ensures.tables in
    let outer : c.of.result ≡ enclosing image c.args.row = c.of.ensures ∙ ap (λ (x : List ℕ). enclosing x c.args.row) c.given.invariant.0 in
    subst (λ (x : List ℕ). IsPart x c.args.row (record { outer = c.of.result; own = c.own_weight.result })) seen
    (type_part image c.given.invariant.3.indexes c.args.row there (record { outer = c.of.result; own = c.own_weight.result }) outer
    (own_by (strings_of image) c.given.inside.lengths.now (type_space image c.args.row) (type_name image c.args.row) c.cell-space.result c.cell-name.result c.own_weight.result
    c.given.invariant.2 space name c.own_weight.ensures))
