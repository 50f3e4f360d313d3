use Rattle.std.proofs.Common.{◌≡◌, ◌+◌, ◌≤◌, ℕ, List, ap, subst, ◌∙◌, arith}
use Rattle.image_model.specs.Rows.{count_of}
use Rattle.metadata_tables.specs.Stream.{row_count}
use Rattle.interface_numbers.specs.Places.{ArePlaced}
use Rattle.interface_numbers.proofs.Placing.{found_none, placed_none, placed_more}
use Rattle.interface_numbers.proofs.places.placed_rows.Goals as goal

pub loop-k-init : goal.loop-k-init
loop-k-init c = (
  found_none c.args.image.now c.new-newest.result c.in_ok-heads.heads c.new-newest.ensures c.in_ok-heads.ensures,
  placed_none c.args.image.now c.in_ok-places.places c.in_ok-heads.heads c.in_ok-places.ensures c.in_ok-heads.ensures,
)

pub loop-k-preserved : goal.loop-k-preserved
loop-k-preserved c = (
  c.in_ok-place.ensures.found,
  rw c.in_ok-push.ensures.ok
      (placed_more c.args.image.now c.place_of.new.newest c.loop-k.places c.loop-k.heads c.place_of.new.heads c.loop-k.k c.in_ok-place.place c.loop-k.invariant.1 c.in_ok-place.ensures.found
      c.in_ok-place.ensures.more c.in_ok-place.ensures.one c.in_ok-place.ensures.stay c.in_ok-place.ensures.place),
)

pub returns-clause-placed : goal.returns-clause-placed
returns-clause-placed c =
    let end : c.rows-k-end.result ≡ count_of c.args.image.now 0x09 = c.rows-k-end.ensures.rows ∙ ap (λ (stream : List ℕ). row_count stream 0x09) c.tables.ensures.tables in
    let all : c.loop-k.k ≡ count_of c.args.image.now 0x09 = (let t = c.loop-k-test.false in let a = c.loop-k.auto.k-end in omega (arith, t, a, end)) in
    subst (λ (upto : ℕ). ArePlaced c.args.image.now upto c.loop-k.places c.loop-k.heads) all c.loop-k.invariant.1
