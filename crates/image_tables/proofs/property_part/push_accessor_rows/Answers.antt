use Rattle.std.proofs.Common.{◌≡◌, ap, sym, ◌∙◌, subst, ℕ, ◌<◌, ◌^◌, List, [], map}
use Rattle.metadata_tables.specs.declared.coded.Coded.TheVariants.{HasSemantics}
use Rattle.image_members.specs.ByNumber.{by_number}
use Rattle.image_members.specs.Lists.{Owned, longest_of, accessor_lists, accessor_items}
use Rattle.image_members.specs.Pushing.{AddsRows}
use Rattle.image_rows.specs.SemanticsRows.{semantics_row, with_methods, CanAddAccessors}
use Rattle.image_members.proofs.EmptinessLemmas.{no_accessors}
use Rattle.image_members.proofs.PushLemmas.{rows_none}
use Rattle.image_tables.proofs.property_part.push_accessor_rows.Goals as goal

pub longest_accessing-count-requires : goal.longest_accessing-count-requires
longest_accessing-count-requires c =
    subst (λ (lists : List (Owned (ℕ × ℕ))). longest_of lists < 2 ^ 24) (sym (ap (map with_methods) c.as_slice.ensures ∙ c.in_ok-tables.ensures)) c.requires.owners

pub push_all_accessors-requires-clause-can : goal.push_all_accessors-requires-clause-can
push_all_accessors-requires-clause-can c =
    let lists : map with_methods c.as_slice-2.result.now ≡ accessor_lists c.args.a.now c.args.classes.now = ap (map with_methods) c.as_slice-2.ensures ∙ c.in_ok-tables.ensures in
    let count : c.longest_accessing-count.result ≡ longest_of (accessor_lists c.args.a.now c.args.classes.now) =
    c.longest_accessing-count.ensures ∙ ap longest_of (ap (map with_methods) c.as_slice.ensures ∙ c.in_ok-tables.ensures) in
    subst (λ (n : ℕ). CanAddAccessors (by_number HasSemantics (map with_methods c.as_slice-2.result.now) n) c.args.rows.now) (sym count)
    (subst (λ (ls : List (Owned (ℕ × ℕ))). CanAddAccessors (by_number HasSemantics ls (longest_of (accessor_lists c.args.a.now c.args.classes.now))) c.args.rows.now) (sym lists) c.requires.can)

pub push_all_accessors-requires-clause-count : goal.push_all_accessors-requires-clause-count
push_all_accessors-requires-clause-count c =
    let count : c.longest_accessing-count.result ≡ longest_of (accessor_lists c.args.a.now c.args.classes.now) =
    c.longest_accessing-count.ensures ∙ ap longest_of (ap (map with_methods) c.as_slice.ensures ∙ c.in_ok-tables.ensures) in
    subst (λ (n : ℕ). n < 2 ^ 24) (sym count) c.requires.owners

pub returns : goal.returns
returns c =
    let lists : map with_methods c.as_slice-2.result.now ≡ accessor_lists c.args.a.now c.args.classes.now = ap (map with_methods) c.as_slice-2.ensures ∙ c.in_ok-tables.ensures in
    let count : c.longest_accessing-count.result ≡ longest_of (accessor_lists c.args.a.now c.args.classes.now) =
    c.longest_accessing-count.ensures ∙ ap longest_of (ap (map with_methods) c.as_slice.ensures ∙ c.in_ok-tables.ensures) in
    subst (λ (ls : List (Owned (ℕ × ℕ))). AddsRows 0x18 (map semantics_row (by_number HasSemantics ls (longest_of (accessor_lists c.args.a.now c.args.classes.now)))) c.args.rows.now c.push_all_accessors.new.rows) lists
    (subst (λ (n : ℕ). AddsRows 0x18 (map semantics_row (by_number HasSemantics (map with_methods c.as_slice-2.result.now) n)) c.args.rows.now c.push_all_accessors.new.rows) count
    c.in_ok-push_all_accessors.ensures)

pub returns-then-have_no_accessors : goal.returns-then-have_no_accessors
returns-then-have_no_accessors c =
    let none = c.have_no_accessors.ensures.0 c.if-have_no_accessors.true in
    let nothing : accessor_items c.args.a.now c.args.classes.now ≡ [] =
    no_accessors c.args.a.now c.args.classes.now (sym c.requires.ordered.events ∙ none.0) (sym c.requires.ordered.properties ∙ none.1) in
    subst (λ (xs : List (ℕ × (ℕ × ℕ))). AddsRows 0x18 (map semantics_row xs) c.args.rows.now c.args.rows.now) (sym nothing) (rows_none 0x18 c.args.rows.now)
