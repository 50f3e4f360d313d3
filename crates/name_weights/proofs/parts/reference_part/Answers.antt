use Rattle.std.proofs.Common.{◌≡◌, List, ℕ, sym, ◌∙◌, ap, subst}
use Rattle.metadata_tables.specs.Stream.{cell}
use Rattle.image_model.specs.Columns.{type_ref_name, type_ref_space, type_ref_scope}
use Rattle.image_model.specs.Rows.{HasRow}
use Rattle.image_model.specs.Streams.{strings_of}
use Rattle.type_names.specs.Forest.{ref_node}
use Rattle.type_names.specs.Numbers.{TypeNumbers}
use Rattle.name_weights.specs.Weights.{IsPart, scope_outer}
use Rattle.name_weights.proofs.Made.{own_by, ref_part}
use Rattle.name_weights.proofs.parts.reference_part.Goals as goal

pub returns : goal.returns
returns c =
    let seen : c.given.inside.image.now ≡ c.args.given.now.image = ap (λ (v : TypeNumbers). v.image) c.given.view_is in
    let image : List ℕ = c.given.inside.image.now in
    let there : HasRow image 0x01 c.args.row = subst (λ (x : List ℕ). HasRow x 0x01 c.args.row) (sym seen) c.requires in
    let space : c.cell-space.result ≡ type_ref_space image c.args.row = c.cell-space.ensures ∙ ap (λ (s : List ℕ). cell s 0x01 c.args.row 2) c.tables-tables.ensures.tables in
    let name : c.cell-name.result ≡ type_ref_name image c.args.row = c.cell-name.ensures ∙ ap (λ (s : List ℕ). cell s 0x01 c.args.row 1) c.tables-tables.ensures.tables in
    let scope : c.cell-scope.result ≡ type_ref_scope image c.args.row = c.cell-scope.ensures ∙ ap (λ (s : List ℕ). cell s 0x01 c.args.row 0) c.tables-tables.ensures.tables in
    let outer : c.scope_outer.result ≡ scope_outer image (type_ref_scope image c.args.row) = c.scope_outer.ensures ∙ ap (scope_outer image) scope in
    subst (λ (x : List ℕ). IsPart x (ref_node x c.args.row) (record { outer = c.scope_outer.result; own = c.own_weight.result })) seen
    (ref_part image c.given.invariant.3.indexes c.args.row there (record { outer = c.scope_outer.result; own = c.own_weight.result }) outer
    (own_by (strings_of image) c.given.inside.lengths.now (type_ref_space image c.args.row) (type_ref_name image c.args.row) c.cell-space.result c.cell-name.result c.own_weight.result
    c.given.invariant.2 space name c.own_weight.ensures))
