-- The clauses with a block near an instruction: for each region of sixteen instructions those with a block in it, in order.
use Rattle.std.specs.Prelude.{◌≡◌, ◌⊎◌, ℕ, ◌+◌, ◌*◌, ◌<◌, ◌≤◌, Bool, false, IsTrue, nat_le, List, [], ◌∷◌, ◌++◌, length, map, get_or, slice_get, Some}
use Rattle.std.specs.List.{flat_map}
use Rattle.code_flow.specs.declared.blocks.Span.{Span}
use Rattle.code_flow.specs.declared.blocks.Spans.{Spans}
use Rattle.code_flow.specs.declared.goings.Going.{Going}
use Rattle.code_flow.specs.declared.clauses.Placed.{Placed}
use Rattle.code_flow.specs.declared.clauses.Region.{Region}
use Rattle.code_flow.specs.BlockTests.{blocks_all}
use Rattle.code_flow.specs.CodeTests.{has_inside}
use Rattle.code_flow.specs.GoingTests.{guarded_by}

abbrev pub placed_at : ℕ → Spans → Placed
placed_at place s = record { place = place; spans = s }

-- each block of the clause begins at an instruction or later
abbrev pub starts_from : ℕ → Span → Bool
starts_from n b = nat_le n b.start

abbrev pub StartFrom : ℕ → Spans → Type 0
StartFrom n s = IsTrue (blocks_all (starts_from n) s)

-- each block of the clause ends at an instruction or earlier
abbrev pub ends_by : ℕ → Span → Bool
ends_by n b = nat_le b.end n

abbrev pub EndBy : ℕ → Spans → Type 0
EndBy n s = IsTrue (blocks_all (ends_by n) s)

-- for each clause where its blocks and those of the later ones begin, or earlier
abbrev pub AreLowest : List Spans → List ℕ → Type 0
AreLowest clauses lowest = (k n j : ℕ) (s : Spans) → slice_get lowest k ≡ Some n → k ≤ j → slice_get clauses j ≡ Some s → StartFrom n s

-- some of the clauses from a place on, in order: all but those that are idle, and maybe some of these
pub data Picks (Idle : Spans → Type 0) : ℕ → List Spans → List Placed → Type 0 where
  none_left : {place : ℕ} → Picks Idle place [] []
  picked : {place : ℕ} {s : Spans} {ss : List Spans} {ps : List Placed} → Picks Idle (place + 1) ss ps → Picks Idle place (s ∷ ss) (placed_at place s ∷ ps)
  passed : {place : ℕ} {s : Spans} {ss : List Spans} {ps : List Placed} → Idle s → Picks Idle (place + 1) ss ps → Picks Idle place (s ∷ ss) ps

-- no block of the clause holds the instruction
abbrev pub IsAway : ℕ → Spans → Type 0
IsAway k s = has_inside k s ≡ false

-- no block of the clause holds an instruction of the region
abbrev pub IsIdle : ℕ → Spans → Type 0
IsIdle region s = (k : ℕ) → 16 * region ≤ k → k < 16 * region + 16 → IsAway k s

-- the clauses that hold an instruction, with their places, and maybe others
pub record AreNear (k : ℕ) (clauses : List Spans) (r : Region) : Type 0 where
  pub picks : Picks (IsAway k) 0 clauses r.placed
  pub spans : r.spans ≡ map (λ (p : Placed). p.spans) r.placed

abbrev pub no_region : Region
no_region = record { placed = []; spans = [] }

abbrev pub with_placed : Region → ℕ → Spans → Region
with_placed r place s = record { placed = r.placed ++ placed_at place s ∷ []; spans = r.spans ++ s ∷ [] }

-- the clauses of a region
pub record IsRegion (region : ℕ) (clauses : List Spans) (r : Region) : Type 0 where
  pub picks : Picks (IsIdle region) 0 clauses r.placed
  pub spans : r.spans ≡ map (λ (p : Placed). p.spans) r.placed

-- those of each; where there is none, each clause is idle
abbrev pub HaveRegions : List Spans → List Region → Type 0
HaveRegions clauses regions = (region : ℕ) → IsRegion region clauses (get_or regions region no_region)

-- a clause more in the regions from `first` on that lie before `end`
pub record AddsTo (first end place : ℕ) (s : Spans) (old new : List Region) : Type 0 where
  pub inside : (r : ℕ) → first ≤ r → r < end → get_or new r no_region ≡ with_placed (get_or old r no_region) place s
  pub outside : (r : ℕ) → ((r < first) ⊎ (end ≤ r)) → get_or new r no_region ≡ get_or old r no_region

-- a clause more in each region but for those in which it is idle
abbrev pub AddsClause : ℕ → Spans → List Region → List Region → Type 0
AddsClause place s old new =
    (r : ℕ) → (get_or new r no_region ≡ with_placed (get_or old r no_region) place s) ⊎ ((get_or new r no_region ≡ get_or old r no_region) × IsIdle r s)

-- at least so many regions, and no clause more
pub record GrowsTo (count : ℕ) (old new : List Region) : Type 0 where
  pub many : count ≤ length new
  pub same : (r : ℕ) → get_or new r no_region ≡ get_or old r no_region

-- the edges from an instruction to handlers and filters
abbrev pub guards_among : ℕ → List Placed → List Going
guards_among k ps = flat_map (λ (p : Placed). guarded_by k p.place p.spans) ps
