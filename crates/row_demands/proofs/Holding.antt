-- Which members lie in a run, and which stand in one with the member before them.
use Rattle.std.proofs.Common.{◌≡◌, ℕ, ◌+◌, ◌-◌, ◌<◌, ◌≤◌, List, arith, refl, sym, ◌∙◌, ap, subst}
use Rattle.std.specs.Prelude.{◌↔◌, Contains}
use Rattle.image_model.specs.Rows.{count_of, HasRow}
use Rattle.image_model.specs.Structure.{Rises, LiesIn}
use Rattle.row_demands.specs.Members.{run_begin, run_of}
use Rattle.row_demands.proofs.Tiles.{AllRise, tiled, first_begins, parted, joined}

module _ (image : List ℕ) (table column members member : ℕ)
    (rise : (row : ℕ) → HasRow image table row → Rises (run_begin image table column members) row) where
  abbrev f : ℕ → ℕ
  f = run_begin image table column members

  all_rise : AllRise f (count_of image table)
  all_rise k from upto more = rise k (from, upto) more

  pub holds_behind : HasRow image members member → 0 < count_of image table → (f 1 ≤ member) ↔ LiesIn image table (run_of image table column members) member
  holds_behind there some = (
    λ le. let (k, from, upto, has) = tiled f (count_of image table) (count_of image members) member some le there.1 in (k, (from, upto), has),
    λ lies. let (k, (from, upto), has) = lies in first_begins f (count_of image table) (count_of image members) member k all_rise from upto has,
  )

  -- the run of an owner that has the member before
  pub goes_on : HasRow image members member → ((row : ℕ) → HasRow image table row → f row ≡ member → ⊥) → (row : ℕ) → HasRow image table row
      → Contains (run_of image table column members row) (member - 1) → Contains (run_of image table column members row) member
  goes_on there none row owner before =
      joined f (count_of image table) (count_of image members) member row (λ j some upto e. none j (some, upto) e) there.0 there.1 owner.0 owner.1 before

  pub breaks_off : HasRow image members member → (first : ℕ) → HasRow image table first → f first ≡ member → (row : ℕ) → HasRow image table row
      → Contains (run_of image table column members row) (member - 1) → Contains (run_of image table column members row) member → ⊥
  breaks_off there first owns begins row owner before here =
      parted f (count_of image table) (count_of image members) member first row all_rise owns.0 owns.1 begins there.0 owner.0 owner.1 before here
