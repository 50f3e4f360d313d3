-- Rows segment by segment.
use Rattle.std.proofs.Common.{◌≡◌, ℕ, ◌+◌, false, if◌then◌else◌, List, [], ◌∷◌, ◌++◌, map, refl, ap, ◌∙◌, append-nil}
use Rattle.source_model.specs.Forest as f
use Rattle.source_model.specs.Source.{Source}
use Rattle.listing_model.specs.Shown.{Shown, Item, size, star_production, star_below, behind_comma, commas}
use Rattle.listing_reading.specs.Laws.{CommasAreRead}
use Rattle.listing_reading.specs.Numbered.{numbered, Agrees}
use Rattle.listing_reading.specs.Rows.{AreAmong, parts_at, parts_behind}
use Rattle.listing_rows.specs.Laws.{SegmentsAreRead}
use Rattle.listing_rows.specs.Segments.{end_of, ItemsAgree, BehindAgree, CommasAgree, comma_parts}

row_agrees : (s : Source) (more end : ℕ) (items : List Item) (at : ℕ) → Agrees s at (star_below more end items) → ItemsAgree s at items
row_agrees s more end [] at ag = tt
row_agrees s more end (i ∷ is) at ag = (ag.0, row_agrees s more end is (at + size i.below) ag.1.0)

split : (s : Source) (at : ℕ) (xs ys : List Item) → ItemsAgree s at (xs ++ ys) → ItemsAgree s at xs × ItemsAgree s (end_of at xs) ys
split s at [] ys ag = (tt, ag)
split s at (x ∷ xs) ys ag = let more = split s (at + size x.below) xs ys ag.1 in ((ag.0, more.0), more.1)

parts_split : (at : ℕ) (xs ys : List Item) → parts_at at (xs ++ ys) ≡ parts_at at xs ++ parts_at (end_of at xs) ys
parts_split at [] ys = refl
parts_split at (x ∷ xs) ys = ap (λ ps. f.part x.production (numbered at x.below) ∷ ps) (parts_split (at + size x.below) xs ys)

both_among : (sought : List ℕ) (xs ys : List Item) → AreAmong sought xs → AreAmong sought ys → AreAmong sought (xs ++ ys)
both_among sought [] ys h k = k
both_among sought (x ∷ xs) ys h k = (h.0, both_among sought xs ys h.1 k)

behind_agrees : (s : Source) (more end comma : ℕ) (items : List Item) (at : ℕ) → Agrees s at (star_below more end (map (behind_comma comma) items)) → BehindAgree s at items
behind_agrees s more end comma [] at ag = tt
behind_agrees s more end comma (i ∷ is) at ag = (ag.0.1.0, behind_agrees s more end comma is (at + size (behind_comma 0 i).below) ag.1.0)

commas_agree : (s : Source) (more end comma : ℕ) (items : List Item) (at : ℕ) (after : Shown) → Agrees s at (commas more end comma items after) → CommasAgree s at items
commas_agree s more end comma [] at after ag = tt
commas_agree s more end comma (i ∷ is) at after ag = (ag.0, behind_agrees s more end comma is (at + size i.below) ag.1.0)

module _ (laws : CommasAreRead) where
  comma_row : (sought : List ℕ) (more end comma : ℕ) → f.is_among sought more ≡ false → f.is_among sought end ≡ false → f.is_among sought comma ≡ false →
      (items : List Item) → AreAmong sought items → (at : ℕ) (after : Shown) → ((k : ℕ) → f.parts sought (numbered k after) ≡ []) →
      f.parts sought (numbered at (commas more end comma items after)) ≡ comma_parts at items
  comma_row sought more end comma m e c [] h at after none = none at
  comma_row sought more end comma m e c (i ∷ is) h at after none =
      let from = at + size i.below in
      let js = map (behind_comma comma) is in
      let past = from + size (star_below more end js) in
      let row = f.branch (star_production more end js) (numbered from (star_below more end js)) (numbered past after) in
      let own = numbered at i.below in
      ap (λ b. (if b then f.part i.production own ∷ [] else f.parts sought own) ++ f.parts sought row) h.0
      ∙ (ap (λ ps. f.part i.production own ∷ ps) (laws sought more end comma m e c is h.1 from (numbered past after))
      ∙ (ap (λ ps. f.part i.production own ∷ (parts_behind from is ++ ps)) (none past) ∙ ap (λ ps. f.part i.production own ∷ ps) (append-nil (parts_behind from is))))

  segments : SegmentsAreRead
  segments = record { row = row_agrees; agree = split; parts = parts_split; among = both_among; commas_agree = commas_agree; commas = comma_row }

pub segments_are_read : CommasAreRead → SegmentsAreRead
segments_are_read laws = segments laws
