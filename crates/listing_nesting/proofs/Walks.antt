-- The types in a row.
use Rattle.std.proofs.Common.{◌≡◌, ℕ, ◌+◌, nat_eq, false, if◌then◌else◌, List, [], ◌∷◌, ◌++◌, refl, ap, sym, ◌∙◌, append-nil, append_assoc}
use Rattle.ilasm_grammar.specs.declared.productions.TheConstants as p
use Rattle.source_model.specs.Classes.{classes_in, class_from}
use Rattle.source_model.specs.Forest as f
use Rattle.source_model.specs.Nodes.{Around, entered}
use Rattle.source_model.specs.Source.{Source}
use Rattle.listing_model.specs.Grown.{body_of}
use Rattle.listing_model.specs.Shown.{Item, size, star_production, star_below}
use Rattle.listing_reading.specs.Laws.{SearchesPass}
use Rattle.listing_reading.specs.Numbered.{numbered}
use Rattle.listing_rows.specs.Laws.{class_parts, WalksPass}
use Rattle.listing_rows.specs.Segments.{end_of, EachGrown, EachLacks}
use Rattle.listing_nesting.specs.Laws.{AreOther, types_at, TypeRowsAreRead}

module _ (s : Source) (around : Around) where
  nothing : classes_in s around f.none ≡ []
  unfolding classes_in
  nothing = refl

  other : (q : ℕ) (b after : f.Forest) → nat_eq q p.CLASS ≡ false → classes_in s around (f.branch q b after) ≡ classes_in s around b ++ classes_in s around after
  unfolding classes_in
  other q b after e =
      ap (λ c. (if c then class_from s (entered s around q b) b (classes_in s (entered s around q b) b) ∷ [] else classes_in s around b) ++ classes_in s around after) e

  row : (more end : ℕ) → nat_eq more p.CLASS ≡ false → nat_eq end p.CLASS ≡ false → (items : List Item) → AreOther items → (at : ℕ) (after : f.Forest) →
      classes_in s around (f.branch (star_production more end items) (numbered at (star_below more end items)) after) ≡ types_at s around at items ++ classes_in s around after
  row more end m e [] o at after = other end f.none after e ∙ ap (λ ts. ts ++ classes_in s around after) nothing
  row more end m e (i ∷ is) o at after =
      let next = at + size i.below in
      let own = numbered at i.below in
      let others = f.branch (star_production more end is) (numbered next (star_below more end is)) f.none in
      let later : classes_in s around others ≡ types_at s around next is =
      row more end m e is o.1 next f.none ∙ (ap (λ ts. types_at s around next is ++ ts) nothing ∙ append-nil (types_at s around next is)) in
      other more (f.branch i.production own others) after m
      ∙ ap (λ ts. ts ++ classes_in s around after) (other i.production own others o.0 ∙ ap (λ ts. classes_in s around own ++ ts) later)

  joined : (at : ℕ) (xs ys : List Item) → types_at s around at (xs ++ ys) ≡ types_at s around at xs ++ types_at s around (end_of at xs) ys
  joined at [] ys = refl
  joined at (x ∷ xs) ys =
      let next = at + size x.below in
      let own = classes_in s around (numbered at x.below) in
      ap (λ ts. own ++ ts) (joined next xs ys) ∙ sym (append_assoc own (types_at s around next xs) (types_at s around (end_of next xs) ys))

  module _ (searches : SearchesPass) (walks : WalksPass) where
    none_there : (x at : ℕ) (xs : List Item) → EachGrown x xs → EachLacks class_parts xs → types_at s around at xs ≡ []
    none_there x at [] g h = refl
    none_there x at (i ∷ is) g h =
        let next = at + size i.below in
        ap (λ ts. ts ++ types_at s around next is) (walks.no_classes s around (numbered at i.below) (searches.nothing class_parts (body_of i.production) h.1 i.below g.1 at))
        ∙ none_there x next is g.2 h.2

pub type_rows_are_read : SearchesPass → WalksPass → TypeRowsAreRead
type_rows_are_read searches walks = record {
  other = λ s around q b after e. other s around q b after e;
  row = λ s around more end m e items o at after. row s around more end m e items o at after;
  joined = λ s around at xs ys. joined s around at xs ys;
  none = λ s around x at xs g h. none_there s around searches walks x at xs g h;
}
