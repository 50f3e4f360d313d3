-- Fields one after another are read back.
use Rattle.std.proofs.Common.{◌≡◌, ℕ, ◌+◌, ◌&&◌, Bool, true, false, List, [], ◌∷◌, ◌++◌, map, refl, ap, sym, subst, ◌∙◌, append_assoc}
use Rattle.std.proofs.lemmas.Bool.{and_parts}
use Rattle.std.specs.List.{list_all}
use Rattle.assembly_tree.specs.WellFormedMembers.{is_field}
use Rattle.assembly_tree.specs.declared.assembly.Assembly.{Assembly}
use Rattle.assembly_tree.specs.declared.assembly.ExternAssembly.{ExternAssembly}
use Rattle.assembly_tree.specs.declared.members.Attribute.{Attribute}
use Rattle.assembly_tree.specs.declared.members.Field.{Field}
use Rattle.assembly_tree.proofs.FormedFacts.{fields_named}
use Rattle.source_model.specs.Forest as f
use Rattle.source_model.specs.Items.{is_custom}
use Rattle.source_model.specs.Members as read
use Rattle.source_model.specs.Nodes.{Around}
use Rattle.source_model.specs.Source.{Source}
use Rattle.listing_constants.specs.Laws.{AttributesAreRead}
use Rattle.listing_formed.specs.Laws.{Knows}
use Rattle.listing_growth.specs.Held.{are_attributes_held, is_field_held}
use Rattle.listing_members.specs.Laws.{FieldsAreRead}
use Rattle.listing_model.specs.Members as written
use Rattle.listing_model.specs.Shown.{none, put, Item, size}
use Rattle.listing_model.specs.Values.{custom, customs}
use Rattle.listing_reading.specs.Numbered.{numbered}
use Rattle.listing_reading.specs.Rows.{parts_at, IsEndOfRun}
use Rattle.listing_rows.specs.Laws.{SegmentsAreRead, RunsAreFiltered, runs_of, NonePass, AllOwned}
use Rattle.listing_rows.specs.Segments.{end_of, ItemsAgree}
use Rattle.listing_groups.specs.Laws.{IsFieldHead, field_run, field_runs, HaveContents, FieldRowsAreRead}

customs_pass : (externs : List ExternAssembly) (test : f.Part → Bool) (production : ℕ) → ((g : f.Forest) → test (f.part production g) ≡ true) →
    (xs : List Attribute) (at : ℕ) → list_all test (parts_at at (customs externs production xs)) ≡ true
customs_pass externs test production h [] at = refl
customs_pass externs test production h (x ∷ xs) at =
    let from = at + size (put (custom externs x) none) in
    ap (λ c. c && list_all test (parts_at from (customs externs production xs))) (h (numbered at (put (custom externs x) none))) ∙ customs_pass externs test production h xs from

customs_fail : (externs : List ExternAssembly) (test : f.Part → Bool) (production : ℕ) → ((g : f.Forest) → test (f.part production g) ≡ false) →
    (xs : List Attribute) (at : ℕ) → NonePass test (parts_at at (customs externs production xs))
customs_fail externs test production h [] at = tt
customs_fail externs test production h (x ∷ xs) at =
    (h (numbered at (put (custom externs x) none)), customs_fail externs test production h xs (at + size (put (custom externs x) none)))

none_both : (test : f.Part → Bool) (ps qs : List f.Part) → NonePass test ps → NonePass test qs → NonePass test (ps ++ qs)
none_both test [] qs h k = k
none_both test (p ∷ ps) qs h k = (h.0, none_both test ps qs h.1 k)

-- ---- among others

module _ (segments : SegmentsAreRead) (filtered : RunsAreFiltered) (externs : List ExternAssembly) (production other : ℕ) where
  abbrev all : ℕ → List Field → List Item
  all k xs = written.fields externs production other k xs

  abbrev head_part : ℕ → ℕ → Field → f.Part
  head_part at k x = f.part production (numbered at (put (written.field externs k x) none))

  -- where its attributes begin
  abbrev from : ℕ → ℕ → Field → ℕ
  from at k x = at + size (put (written.field externs k x) none)

  abbrev own : Field → List Item
  own x = customs externs other x.attributes

  abbrev next : ℕ → ℕ → Field → ℕ
  next at k x = end_of (from at k x) (own x)

  abbrev more : ℕ → Field → List Field → List Item
  more k x xs = all (written.behind_field k x.content) xs

  -- the parts of one, and then those of the others
  parts_are : (x : Field) (xs : List Field) (at k : ℕ) (after : List f.Part) →
      parts_at at (all k (x ∷ xs)) ++ after ≡ head_part at k x ∷ (parts_at (from at k x) (own x) ++ (parts_at (next at k x) (more k x xs) ++ after))
  parts_are x xs at k after =
      ap (λ ps. head_part at k x ∷ (ps ++ after)) (segments.parts (from at k x) (own x) (more k x xs))
      ∙ ap (λ ps. head_part at k x ∷ ps) (append_assoc (parts_at (from at k x) (own x)) (parts_at (next at k x) (more k x xs)) after)

  no_others : (test : f.Part → Bool) → ((g : f.Forest) → test (f.part production g) ≡ false) → ((g : f.Forest) → test (f.part other g) ≡ false) →
      (xs : List Field) (at k : ℕ) → NonePass test (parts_at at (all k xs))
  no_others test h c [] at k = tt
  no_others test h c (x ∷ xs) at k = (
    h (numbered at (put (written.field externs k x) none)),
    subst (NonePass test) (sym (segments.parts (from at k x) (own x) (more k x xs)))
        (none_both test (parts_at (from at k x) (own x)) (parts_at (next at k x) (more k x xs)) (customs_fail externs test other c x.attributes (from at k x))
        (no_others test h c xs (next at k x) (written.behind_field k x.content))),
  )

  module _ (is_head : IsFieldHead production other) where
    ends : (xs : List Field) (at k : ℕ) (after : List f.Part) → IsEndOfRun after → IsEndOfRun (parts_at at (all k xs) ++ after)
    ends [] at k after end = end
    ends (x ∷ xs) at k after end = is_head.plain (numbered at (put (written.field externs k x) none))

    runs_are : (xs : List Field) (at k : ℕ) (after : List f.Part) → IsEndOfRun after →
        runs_of read.is_field_part (parts_at at (all k xs) ++ after) ≡ field_runs externs production other at k xs ++ runs_of read.is_field_part after
    runs_are [] at k after end = refl
    runs_are (x ∷ xs) at k after end =
        let k2 = written.behind_field k x.content in
        ap (runs_of read.is_field_part) (parts_are x xs at k after)
        ∙ (filtered.run read.is_field_part (head_part at k x) (parts_at (from at k x) (own x)) (parts_at (next at k x) (more k x xs) ++ after)
        (is_head.is_field (numbered at (put (written.field externs k x) none))) (customs_pass externs is_custom other is_head.custom x.attributes (from at k x))
        (customs_fail externs read.is_field_part other is_head.no_field x.attributes (from at k x)) (ends xs (next at k x) k2 after end)
        ∙ ap (λ rs. field_run externs production other at k x ∷ rs) (runs_are xs (next at k x) k2 after end))

    owned : (xs : List Field) (at k : ℕ) (after : List f.Part) → AllOwned after → AllOwned (parts_at at (all k xs) ++ after)
    owned [] at k after h = h
    owned (x ∷ xs) at k after h =
        subst AllOwned (sym (parts_are x xs at k after))
        (filtered.owned (head_part at k x) (parts_at (from at k x) (own x)) (parts_at (next at k x) (more k x xs) ++ after)
        (is_head.plain (numbered at (put (written.field externs k x) none))) (is_head.begins (numbered at (put (written.field externs k x) none)))
        (customs_pass externs is_custom other is_head.custom x.attributes (from at k x)) (owned xs (next at k x) (written.behind_field k x.content) after h))

-- ---- read

module _ (segments : SegmentsAreRead) (attribute_laws : AttributesAreRead) (field_laws : FieldsAreRead) (s : Source) (around : Around) (a : Assembly) (knows : Knows s a) (production other : ℕ) where
  attributes_held : (x : Field) → is_field_held x ≡ true → are_attributes_held x.attributes ≡ true
  unfolding is_field_held
  attributes_held x h = (and_parts _ _ h).1

  one_is : (x : Field) → is_field a x ≡ true → is_field_held x ≡ true → (at k : ℕ) → HaveContents s k (x ∷ []) →
      ItemsAgree s at (written.field_items a.externs production other k x) → read.field s around (field_run a.externs production other at k x) ≡ x
  unfolding written.field
  one_is x m h at k c ag =
      let start = at + size (put (written.field a.externs k x) none) in
      field_laws s around a knows x m h k at c.0 ag.0.0 (parts_at start (customs a.externs other x.attributes))
      (attribute_laws s around a knows x.attributes ((fields_named a x).0 m).attributes (attributes_held x h) other start ag.1)

  fields_are : (xs : List Field) → list_all (is_field a) xs ≡ true → list_all is_field_held xs ≡ true → (at k : ℕ) → HaveContents s k xs →
      ItemsAgree s at (written.fields a.externs production other k xs) → map (read.field s around) (field_runs a.externs production other at k xs) ≡ xs
  fields_are [] m h at k c ag = refl
  fields_are (x ∷ xs) m h at k c ag =
      let ms = and_parts (is_field a x) (list_all (is_field a) xs) m in
      let hs = and_parts (is_field_held x) (list_all is_field_held xs) h in
      let k2 = written.behind_field k x.content in
      let start = at + size (put (written.field a.externs k x) none) in
      let behind = end_of start (customs a.externs other x.attributes) in
      let ags = segments.agree s start (customs a.externs other x.attributes) (written.fields a.externs production other k2 xs) ag.1 in
      ap (λ y. y ∷ map (read.field s around) (field_runs a.externs production other behind k2 xs)) (one_is x ms.0 hs.0 at k (c.0, tt) (ag.0, ags.0))
      ∙ ap (λ ys. x ∷ ys) (fields_are xs ms.1 hs.1 behind k2 c.1 ags.1)

pub field_rows_are_read : SegmentsAreRead → AttributesAreRead → FieldsAreRead → RunsAreFiltered → FieldRowsAreRead
field_rows_are_read segments attribute_laws field_laws filtered = record {
  all = λ s around a knows production other xs m h at k c ag. fields_are segments attribute_laws field_laws s around a knows production other xs m h at k c ag;
  runs = λ externs production other h xs at k after e. runs_are segments filtered externs production other h xs at k after e;
  ends = λ externs production other h xs at k after e. ends segments filtered externs production other h xs at k after e;
  owned = λ externs production other h xs at k after e. owned segments filtered externs production other h xs at k after e;
  others = λ externs production other test h c xs at k. no_others segments filtered externs production other test h c xs at k;
}
