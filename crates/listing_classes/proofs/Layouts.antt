-- The lines of a layout are read back.
use Rattle.std.proofs.Common.{◌≡◌, ℕ, ◌<◌, ◌^◌, Bool, true, cond, List, [], ◌∷◌, ◌++◌, filter, Option, None, Some, refl, ap, ◌∙◌, arith}
use Rattle.std.proofs.lemmas.Bool.{and_parts, ltb-true}
use Rattle.ilasm_grammar.specs.declared.productions.TheConstants as p
use Rattle.assembly_tree.specs.WellFormedNames.{option_all}
use Rattle.assembly_tree.specs.declared.typedef.Layout.{Layout}
use Rattle.source_model.specs.Data.{layout_from}
use Rattle.source_model.specs.Forest as f
use Rattle.source_model.specs.Shapes.{natural}
use Rattle.source_model.specs.Source.{Source}
use Rattle.source_model.specs.Values.{integer}
use Rattle.listing_growth.specs.Held.{is_u16, is_u32, is_layout_held}
use Rattle.listing_model.specs.Classes.{layout_lines}
use Rattle.listing_reading.specs.Rows.{parts_at}
use Rattle.listing_rows.specs.Laws.{NonePass}
use Rattle.listing_rows.specs.Segments.{ItemsAgree}
use Rattle.listing_values.specs.Laws.{NumbersAreRead}
use Rattle.listing_classes.specs.Laws.{is_line, layout_in, LayoutsAreRead}

-- ---- parts that pass a test

module _ (test : f.Part → Bool) where
  pub filter_past : (xs ys : List f.Part) → NonePass test xs → filter test (xs ++ ys) ≡ filter test ys
  filter_past [] ys h = refl
  filter_past (x ∷ xs) ys h = ap (λ c. cond c (x ∷ filter test (xs ++ ys)) (filter test (xs ++ ys))) h.0 ∙ filter_past xs ys h.1

  pub filter_none : (xs : List f.Part) → NonePass test xs → filter test xs ≡ []
  filter_none [] h = refl
  filter_none (x ∷ xs) h = ap (λ c. cond c (x ∷ filter test xs) (filter test xs)) h.0 ∙ filter_none xs h.1

  pub filter_front : (xs ys : List f.Part) → NonePass test ys → filter test (xs ++ ys) ≡ filter test xs
  filter_front [] ys h = filter_none ys h
  filter_front (x ∷ xs) ys h = ap (λ ps. cond (test x) (x ∷ ps) ps) (filter_front xs ys h)

-- ---- layouts

small_32 : (k : ℕ) → is_u32 k ≡ true → k < 2 ^ 128
small_32 k h = let low = ltb-true k 0x100000000 h in omega arith

small_16 : (k : ℕ) → is_u16 k ≡ true → k < 2 ^ 128
small_16 k h = let low = ltb-true k 0x10000 h in omega arith

module _ (numbers_read : NumbersAreRead) (s : Source) where
  layout_is : (l : Option Layout) → option_all is_layout_held l ≡ true → (at : ℕ) → ItemsAgree s at (layout_lines l) → (after : List f.Part) →
      filter (is_line p.MEMBER_PACK) after ≡ [] → filter (is_line p.MEMBER_SIZE) after ≡ [] → layout_in s (parts_at at (layout_lines l) ++ after) ≡ l
  layout_is None h at ag after no_pack no_size =
      ap (λ ps. layout_from s ps (filter (is_line p.MEMBER_SIZE) after)) no_pack ∙ ap (λ ps. layout_from s [] ps) no_size
  layout_is (Some l) h at ag after no_pack no_size =
      let held = and_parts (is_u16 l.pack) (is_u32 l.size) h in
      let lines = parts_at at (layout_lines (Some l)) in
      let pack_is = ap (λ t. natural (integer t)) ag.0.1.0.text ∙ ap natural (numbers_read.natural l.pack (small_16 l.pack held.0)) in
      let size_is = ap (λ t. natural (integer t)) ag.1.0.1.0.text ∙ ap natural (numbers_read.natural l.size (small_32 l.size held.1)) in
      ap (λ ps. layout_from s (filter (is_line p.MEMBER_PACK) lines ++ ps) (filter (is_line p.MEMBER_SIZE) lines ++ filter (is_line p.MEMBER_SIZE) after)) no_pack
      ∙ (ap (λ ps. layout_from s (filter (is_line p.MEMBER_PACK) lines) (filter (is_line p.MEMBER_SIZE) lines ++ ps)) no_size
      ∙ (λ i. Some (record { pack = pack_is i; size = size_is i })))

pub layouts_are_read : NumbersAreRead → LayoutsAreRead
layouts_are_read numbers_read s l h at ag after no_pack no_size =
    layout_is numbers_read s l h at ag after (filter_none (is_line p.MEMBER_PACK) after no_pack) (filter_none (is_line p.MEMBER_SIZE) after no_size)
