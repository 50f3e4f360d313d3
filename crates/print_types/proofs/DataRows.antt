-- What is drawn of the data of fields and types.
use Rattle.std.proofs.Common.{◌≡◌, ℕ, suc, ◌+◌, ◌<◌, List, [], ◌∷◌, ◌++◌, length, map, drop, get_or, Option, None, Some, refl, ap, sym, ◌∙◌, arith}
use Rattle.std.proofs.lemmas.List.{length-append}
use Rattle.assembly_tree.specs.declared.assembly.ExternAssembly.{ExternAssembly}
use Rattle.assembly_tree.specs.declared.members.Field.{Field}
use Rattle.assembly_tree.specs.declared.typedef.TypeDef.{TypeDef}
use Rattle.assembly_tree.specs.declared.typedef.TypeDef.TheViews.{out-TypeDef}
use Rattle.listing_model.specs.Canon.{data_lines}
use Rattle.listing_model.specs.Classes.{all_contents, class}
use Rattle.listing_model.specs.Members.{field_contents, contents_then, behind_field}
use Rattle.listing_model.specs.Values.{data_line}
use Rattle.print_leaves.specs.Page.{Page}
use Rattle.print_terms.specs.Rows.{under, in_row}
use Rattle.print_members.proofs.Steps.{drop_at}
use Rattle.print_types.specs.Pieces.{content_drawn}
use Rattle.print_types.proofs.ClassRows.{contents_out}

-- ---- lines

pub lines_append : (q : Page) (k : ℕ) (xs ys : List (List ℕ)) →
    in_row q (data_lines k (xs ++ ys)) ≡ in_row (in_row q (data_lines k xs)) (data_lines (k + length xs) ys)
lines_append q k [] ys = ap (λ n. in_row q (data_lines n ys)) {x = k} {y = k + 0} (omega arith)
lines_append q k (x ∷ xs) ys =
    lines_append (under q (data_line k x)) (suc k) xs ys
    ∙ ap (λ n. in_row (in_row (under q (data_line k x)) (data_lines (suc k) xs)) (data_lines n ys)) {x = suc k + length xs} {y = k + suc (length xs)} (omega arith)

-- ---- fields

then_is : (q : Page) (k : ℕ) (c : Option (List ℕ)) (more : List (List ℕ)) →
    in_row q (data_lines k (contents_then c more)) ≡ in_row (content_drawn q k c) (data_lines (behind_field k c) more)
then_is q k None more = refl
then_is q k (Some bytes) more = refl

pub field_step : (q new goal : Page) (k next i : ℕ) (f : Field) (fs : List Field) → i < length fs → f ≡ get_or fs i f → new ≡ content_drawn q k f.content →
    next ≡ behind_field k f.content → in_row q (data_lines k (field_contents (drop i fs))) ≡ goal →
    in_row new (data_lines next (field_contents (drop (i + 1) fs))) ≡ goal
field_step q new goal k next i f fs h e hn hk so =
    let rest = field_contents (drop (i + 1) fs) in
    ap (λ r. in_row r (data_lines next rest)) hn
    ∙ (ap (λ n. in_row (content_drawn q k f.content) (data_lines n rest)) hk
    ∙ (sym (ap (λ xs. in_row q (data_lines k (field_contents xs))) (drop_at fs i f h e) ∙ then_is q k f.content rest) ∙ so))

-- ---- types

module _ (externs : List ExternAssembly) where
  pub class_step_done : (q a new goal : Page) (k m next i : ℕ) (t : TypeDef) (ts : List TypeDef) (own : List Field) (nested : List TypeDef) → i < length ts →
      t ≡ get_or ts i t → own ≡ (out-TypeDef t).fields → nested ≡ (out-TypeDef t).nested → a ≡ in_row q (data_lines k (field_contents own)) →
      m ≡ k + length (field_contents own) → new ≡ in_row a (data_lines m (all_contents (map (class externs) nested))) →
      next ≡ m + length (all_contents (map (class externs) nested)) →
      in_row q (data_lines k (all_contents (map (class externs) (drop i ts)))) ≡ goal →
      in_row new (data_lines next (all_contents (map (class externs) (drop (i + 1) ts)))) ≡ goal
  class_step_done q a new goal k m next i t ts own nested h e eo en ha hm hn hk so =
      let fs = field_contents own in
      let ns = all_contents (map (class externs) nested) in
      let rest = all_contents (map (class externs) (drop (i + 1) ts)) in
      let own_is : (class externs t).contents ≡ fs ++ ns =
      contents_out externs t
      ∙ (ap (λ xs. field_contents xs ++ all_contents (map (class externs) (out-TypeDef t).nested)) (sym eo)
      ∙ ap (λ xs. fs ++ all_contents (map (class externs) xs)) (sym en)) in
      let whole : in_row q (data_lines k (all_contents (map (class externs) (drop i ts)))) ≡ in_row q (data_lines k ((fs ++ ns) ++ rest)) =
      ap (λ xs. in_row q (data_lines k (all_contents (map (class externs) xs)))) (drop_at ts i t h e)
      ∙ ap (λ xs. in_row q (data_lines k (xs ++ rest))) own_is in
      let first : in_row q (data_lines k (fs ++ ns)) ≡ new =
      lines_append q k fs ns
      ∙ (ap (λ r. in_row r (data_lines (k + length fs) ns)) (sym ha)
      ∙ (ap (λ n. in_row a (data_lines n ns)) (sym hm) ∙ sym hn)) in
      let count = length-append fs ns in
      sym (whole
      ∙ (lines_append q k (fs ++ ns) rest
      ∙ (ap (λ r. in_row r (data_lines (k + length (fs ++ ns)) rest)) first
      ∙ ap (λ n. in_row new (data_lines n rest)) {x = k + length (fs ++ ns)} {y = next} (omega (arith, count)))))
      ∙ so

  pub count_step_done : (k m next goal i : ℕ) (t : TypeDef) (ts : List TypeDef) (own : List Field) (nested : List TypeDef) → i < length ts → t ≡ get_or ts i t →
      own ≡ (out-TypeDef t).fields → nested ≡ (out-TypeDef t).nested → m ≡ k + length (field_contents own) →
      next ≡ m + length (all_contents (map (class externs) nested)) → k + length (all_contents (map (class externs) (drop i ts))) ≡ goal →
      next + length (all_contents (map (class externs) (drop (i + 1) ts))) ≡ goal
  count_step_done k m next goal i t ts own nested h e eo en hm hk so =
      let fs = field_contents own in
      let ns = all_contents (map (class externs) nested) in
      let rest = all_contents (map (class externs) (drop (i + 1) ts)) in
      let own_is : (class externs t).contents ≡ fs ++ ns =
      contents_out externs t
      ∙ (ap (λ xs. field_contents xs ++ all_contents (map (class externs) (out-TypeDef t).nested)) (sym eo)
      ∙ ap (λ xs. fs ++ all_contents (map (class externs) xs)) (sym en)) in
      let whole : length (all_contents (map (class externs) (drop i ts))) ≡ (length fs + length ns) + length rest =
      ap (λ xs. length (all_contents (map (class externs) xs))) (drop_at ts i t h e)
      ∙ (ap (λ xs. length (xs ++ rest)) own_is ∙ (length-append (fs ++ ns) rest ∙ ap (λ n. n + length rest) (length-append fs ns))) in
      omega (arith, whole)
