-- Steps of loops over generic parameters and fields, and the ends of rows with commas.
use Rattle.std.proofs.Common.{◌≡◌, ℕ, zero, suc, ◌+◌, ◌<◌, nat_eq, false, List, [], ◌∷◌, length, drop, get_or, map, Option, None, Some, refl, ap, sym, ◌∙◌, arith}
use Rattle.il_lexer.specs.declared.word.TheConstants as word
use Rattle.ilasm_grammar.specs.declared.nonterminals.TheConstants as n
use Rattle.ilasm_grammar.specs.declared.productions.TheConstants as p
use Rattle.type_terms.specs.declared.term.Owner.{Owner}
use Rattle.assembly_tree.specs.declared.assembly.ExternAssembly.{ExternAssembly}
use Rattle.assembly_tree.specs.declared.members.Attribute.{Attribute}
use Rattle.assembly_tree.specs.declared.members.Field.{Field}
use Rattle.assembly_tree.specs.declared.members.Generic.{Generic}
use Rattle.listing_model.specs.Flags.{flag_items, field_words}
use Rattle.listing_model.specs.Members.{bounds, typar, typars, field, offset_opt, at_data, field_contents, contents_then, behind_field}
use Rattle.listing_model.specs.Shown.{none, w, line, opt_below}
use Rattle.listing_model.specs.Types.{owner, name, type_below}
use Rattle.listing_model.specs.Values.{equals_constant}
use Rattle.print_leaves.specs.Page.{Page, drawn}
use Rattle.print_terms.specs.Rows.{under, in_row, between}
use Rattle.print_terms.proofs.Rows.{star_row, commas_between}
use Rattle.print_members.specs.Rows.{customs_drawn, typar_drawn, typars_drawn, field_drawn, fields_drawn}

-- the items from a place on
drop_from : {X : Type 0} (xs : List X) (k : ℕ) (x : X) → k < length xs → x ≡ get_or xs k x → drop k xs ≡ x ∷ drop (suc k) xs
drop_from [] k x h e = absurd (omega arith)
drop_from (y ∷ ys) zero x h e = ap (λ z. z ∷ ys) (sym e)
drop_from (y ∷ ys) (suc k) x h e = drop_from ys k x (omega arith) e

pub drop_at : {X : Type 0} (xs : List X) (k : ℕ) (x : X) → k < length xs → x ≡ get_or xs k x → drop k xs ≡ x ∷ drop (k + 1) xs
drop_at xs k x h e = drop_from xs k x h e ∙ ap (λ n. x ∷ drop n xs) {x = suc k} {y = k + 1} (omega arith)

module _ (externs : List ExternAssembly) where
  -- ---- generic parameters

  pub typars_step : (q a init : Page) (k : ℕ) (g : Generic) (gs : List Generic) → k < length gs → g ≡ get_or gs k g →
      a ≡ typar_drawn externs q (k + 1) g → typars_drawn externs q (suc k) (drop k gs) ≡ typars_drawn externs init 1 gs →
      typars_drawn externs a (suc (k + 1)) (drop (k + 1) gs) ≡ typars_drawn externs init 1 gs
  typars_step q a init k g gs h e ha so =
      ap (λ r. typars_drawn externs r (suc (k + 1)) (drop (k + 1) gs)) ha
      ∙ (ap (λ n. typars_drawn externs (typar_drawn externs q n g) (suc n) (drop (k + 1) gs)) {x = k + 1} {y = suc k} (omega arith)
      ∙ (sym (ap (λ xs. typars_drawn externs q (suc k) xs) (drop_at gs k g h e)) ∙ so))

  pub typars_done : (q a b new : Page) (gs : List Generic) → nat_eq (length gs) 0 ≡ false → a ≡ drawn q (w word.LESS none) →
      b ≡ between a (map (typar externs) gs) → new ≡ drawn b (w word.GREATER none) → new ≡ drawn q (opt_below (typars externs gs))
  typars_done q a b new [] some ha hb hn = absurd cc
  typars_done q a b new (g ∷ gs) some ha hb hn =
      let is = map (typar externs) (g ∷ gs) in
      hn
      ∙ (ap (λ r. drawn r (w word.GREATER none)) (hb ∙ ap (λ r. between r is) ha)
      ∙ sym (commas_between p.COMMA_TYPAR_STAR_MORE p.COMMA_TYPAR_STAR_END p.COMMA_TYPAR (drawn q (w word.LESS none)) is (w word.GREATER none)))

  pub bounds_done : (q a b new : Page) (os : List Owner) → nat_eq (length os) 0 ≡ false → a ≡ drawn q (w word.OPEN_PAREN none) →
      b ≡ between a (map (owner externs) os) → new ≡ drawn b (w word.CLOSE_PAREN none) → new ≡ drawn q (opt_below (bounds externs os))
  bounds_done q a b new [] some ha hb hn = absurd cc
  bounds_done q a b new (o ∷ os) some ha hb hn =
      let is = map (owner externs) (o ∷ os) in
      hn
      ∙ (ap (λ r. drawn r (w word.CLOSE_PAREN none)) (hb ∙ ap (λ r. between r is) ha)
      ∙ sym (commas_between p.COMMA_SPEC_STAR_MORE p.COMMA_SPEC_STAR_END p.COMMA_SPEC (drawn q (w word.OPEN_PAREN none)) is (w word.CLOSE_PAREN none)))

  -- ---- fields

  pub fields_step : (q a b init : Page) (k j n i : ℕ) (f : Field) (fs : List Field) (attributes : List Attribute) → i < length fs →
      f ≡ get_or fs i f → attributes ≡ f.attributes → a ≡ under q (field externs k f) → b ≡ customs_drawn externs a attributes →
      j ≡ behind_field k f.content → fields_drawn externs q k (drop i fs) ≡ fields_drawn externs init n fs →
      fields_drawn externs b j (drop (i + 1) fs) ≡ fields_drawn externs init n fs
  fields_step q a b init k j n i f fs attributes h e ea ha hb hj so =
      let page : b ≡ field_drawn externs q k f =
      hb ∙ (ap (λ r. customs_drawn externs r attributes) ha ∙ ap (λ xs. customs_drawn externs (under q (field externs k f)) xs) ea) in
      ap (λ r. fields_drawn externs r j (drop (i + 1) fs)) page
      ∙ (ap (λ m. fields_drawn externs (field_drawn externs q k f) m (drop (i + 1) fs)) hj
      ∙ (sym (ap (λ xs. fields_drawn externs q k xs) (drop_at fs i f h e)) ∙ so))

  pub field_done : (q a b d e f g new : Page) (k flags : ℕ) (x : Field) (text : List ℕ) → flags ≡ x.flags → text ≡ x.name → a ≡ drawn q (line word.DOT_FIELD none) →
      b ≡ drawn a (offset_opt [] x.offset none) → d ≡ in_row b (flag_items n.FIELD_ATTR p.FIELD_ATTR_FLAGS field_words flags) →
      e ≡ drawn d (type_below externs x.of) → f ≡ drawn e (name text none) → g ≡ drawn f (opt_below (equals_constant x.constant)) →
      new ≡ drawn g (at_data [] k x.content none) → new ≡ under q (field externs k x)
  unfolding field
  field_done q a b d e f g new k flags x text ef et ha hb hd he hf hg hn =
      let front = drawn (drawn q (line word.DOT_FIELD none)) (offset_opt [] x.offset none) in
      let words = flag_items n.FIELD_ATTR p.FIELD_ATTR_FLAGS field_words x.flags in
      hn
      ∙ ap (λ r. drawn r (at_data [] k x.content none))
      (hg ∙ ap (λ r. drawn r (opt_below (equals_constant x.constant)))
      (hf ∙ (ap (λ t. drawn e (name t none)) et ∙ ap (λ r. drawn r (name x.name none))
      (he ∙ ap (λ r. drawn r (type_below externs x.of))
      (hd ∙ (ap (λ m. in_row b (flag_items n.FIELD_ATTR p.FIELD_ATTR_FLAGS field_words m)) ef
      ∙ (ap (λ r. in_row r words) (hb ∙ ap (λ r. drawn r (offset_opt [] x.offset none)) ha)
      ∙ sym (star_row p.FIELD_ATTR_STAR_MORE p.FIELD_ATTR_STAR_END front words))))))))

-- the data of a field and of those behind it
pub behind_count : (k : ℕ) (c : Option (List ℕ)) (more : List (List ℕ)) → behind_field k c + length more ≡ k + length (contents_then c more)
behind_count k None more = refl
behind_count k (Some bytes) more = omega arith

pub count_step : (k j n i : ℕ) (f : Field) (fs : List Field) → i < length fs → f ≡ get_or fs i f → j ≡ behind_field k f.content →
    k + length (field_contents (drop i fs)) ≡ n + length (field_contents fs) →
    j + length (field_contents (drop (i + 1) fs)) ≡ n + length (field_contents fs)
count_step k j n i f fs h e hj so =
    ap (λ m. m + length (field_contents (drop (i + 1) fs))) hj
    ∙ (behind_count k f.content (field_contents (drop (i + 1) fs))
    ∙ (sym (ap (λ xs. k + length (field_contents xs)) (drop_at fs i f h e)) ∙ so))
