-- Rows of one part of the tables, some after others.
use Rattle.std.proofs.Common.{◌≡◌, ap, refl, sym, ◌∙◌, subst, ℕ, ◌+◌, ◌<◌, ◌≤◌, ◌^◌, List, [], ◌++◌, length, arith}
use Rattle.std.specs.Prelude.{◌≢◌, sum_by}
use Rattle.std.specs.List.{AllByRecursion, AllZip}
use Rattle.metadata_tables.specs.Encoding.{rows_of, rows_in}
use Rattle.image_tokens.specs.References.{size, Grows, AreKnown}
use Rattle.image_tokens.specs.declared.references.References.{References}
use Rattle.image_rows.specs.Filled.{HoldsItems}
use Rattle.image_members.specs.Pushing.{Tables, AddsRows, Pushes, CanPush}
use Rattle.image_members.proofs.ZipLemmas.{zip_later}
use Rattle.image_tables.specs.Parts.{part_of, KeepsOtherParts, LacksFrom}

-- ---- which tables change

pub none_at : (part table k : ℕ) (t : Tables) → LacksFrom part t → part_of table ≡ k → part ≤ k → rows_of t table ≡ []
none_at part table k t lacks here le = lacks table (subst (λ (n : ℕ). part ≤ n) (sym here) le)

-- no rows, still
pub still_none : (table other : ℕ) (rows : List (List ℕ)) (from to : Tables) → AddsRows table rows from to → other ≢ table → rows_of from other ≡ [] → rows_of to other ≡ []
still_none table other rows from to h differs none = h.others other differs ∙ none

pub adds_part : (part table : ℕ) (rows : List (List ℕ)) (from to : Tables) → part_of table ≡ part → AddsRows table rows from to → KeepsOtherParts part from to
adds_part part table rows from to here h = λ other n. h.others other (λ e. n (ap part_of e ∙ here))

pub others_trans : (part : ℕ) (a b c : Tables) → KeepsOtherParts part a b → KeepsOtherParts part b c → KeepsOtherParts part a c
others_trans part a b c p q = λ table n. q table n ∙ p table n

-- what has been added to a table without rows is all that it has
pub all_rows : (table : ℕ) (rows : List (List ℕ)) (from to : Tables) → rows_of from table ≡ [] → AddsRows table rows from to → rows_of to table ≡ rows
all_rows table rows from to none h = h.added ∙ ap (λ (xs : List (List ℕ)). xs ++ rows) none

-- ---- items of one kind

module _ {X : Type 0} (table : ℕ) (IsRow : References → List ℕ → X → Type 0)
    (kept : (a b : References) → Grows a b → (cells : List ℕ) (x : X) → IsRow a cells x → IsRow b cells x) where
  pub held : (weigh : X → ℕ) (items : List X) (a b : References) (from to : Tables) → rows_of from table ≡ [] → Pushes table IsRow weigh items a b from to
      → HoldsItems table IsRow items b to
  held weigh items a b from to none p = subst (λ (rows : List (List ℕ)). AllZip (IsRow b) rows items) (sym (all_rows table p.rows from to none p.adds)) p.each

  pub held_later : (items : List X) (a b : References) (from to : Tables) → Grows a b → rows_of to table ≡ rows_of from table → HoldsItems table IsRow items a from
      → HoldsItems table IsRow items b to
  held_later items a b from to g same h =
      subst (λ (rows : List (List ℕ)). AllZip (IsRow b) rows items) (sym same)
      (zip_later (IsRow a) (IsRow b) (rows_of from table) items (λ cells x i. kept a b g cells x i) h)

pub can_push : {X : Type 0} (table : ℕ) (Can : References → X → Type 0) (weigh : X → ℕ) (items : List X) (r : References) (t : Tables) → AreKnown r
    → AllByRecursion (Can r) items → rows_of t table ≡ [] → length items < 2 ^ 23 → size r + sum_by weigh items ≤ 2 ^ 26 → CanPush table Can weigh items r t
can_push table Can weigh items r t known each none few room = record {
  known = known;
  each = each;
  few = (let no_rows = ap (length {A = List ℕ}) none in omega arith);
  room = room;
}
