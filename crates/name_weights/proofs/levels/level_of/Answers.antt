use Rattle.std.proofs.Common.{◌≡◌, ◌≤◌, List, ℕ, sym, ◌∙◌, ap, subst, arith}
use Rattle.metadata_tables.specs.Stream.{row_count}
use Rattle.image_model.specs.Rows.{count_of}
use Rattle.type_names.specs.Numbers.{TypeNumbers}
use Rattle.name_weights.specs.Weights.{named_count}
use Rattle.name_weights.proofs.Made.{ref_small}
use Rattle.name_weights.proofs.levels.level_of.Goals as goal

pub overflow_cast-k-else-k-types : goal.overflow_cast-k-else-k-types
overflow_cast-k-else-k-types c =
    let seen : c.given.inside.image.now ≡ c.args.given.now.image = ap (λ (v : TypeNumbers). v.image) c.given.view_is in
    let image : List ℕ = c.given.inside.image.now in
    let types : c.rows-types.result ≡ count_of image 0x02 = c.rows-types.ensures.rows ∙ ap (λ (s : List ℕ). row_count s 0x02) c.tables.ensures.tables in
    let upto : c.args.k ≤ named_count image = subst (λ (x : List ℕ). c.args.k ≤ named_count x) (sym seen) c.requires.1 in
    let small = ref_small image c.args.k c.rows-types.result c.tables.ensures.meets c.given.invariant.4 types upto in
    omega arith
