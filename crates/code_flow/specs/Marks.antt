-- Marks at the instructions to which control may come from elsewhere, and what follows a prefix.
use Rattle.std.specs.Prelude.{◌≡◌, ℕ, ◌+◌, ◌<◌, Bool, true, false, not, ◌&&◌, nat_lt, if◌then◌else◌, List, [], ◌∷◌, length, replicate, slice_get, slice_index_or, slice_set, Option, None, Some, IsTrue, ◌↔◌}
use Rattle.assembly_tree.specs.declared.body.Ins.{Ins}
use Rattle.code_flow.specs.declared.blocks.Span.{Span}
use Rattle.code_flow.specs.declared.blocks.Spans.{Spans}
use Rattle.code_flow.specs.declared.operation.Operation.{Operation}
use Rattle.code_flow.specs.declared.operation.Operation.TheVariants as does
use Rattle.code_flow.specs.declared.operation.Prefix.{Prefix}
use Rattle.code_flow.specs.declared.operation.Prefix.TheVariants.{Constrained, Tail, Readonly, Unaligned, Volatile}
use Rattle.code_flow.specs.Operations.{operation}
use Rattle.code_flow.specs.Frames.{Frame}
use Rattle.code_flow.specs.Edges.{Does, targets}
use Rattle.code_flow.specs.CodeTests.{is_return}
use Rattle.code_flow.specs.Prefixes.{is_prefix, goes_with, IsTarget, IsBoundary, Fits}

-- a target, or where a block starts or ends
pub data IsMarked (f : Frame) (t : ℕ) : Type 0 where
  target : IsTarget f t → IsMarked f t
  boundary : IsBoundary f t → IsMarked f t

-- a mark for each instruction, true where control may come from elsewhere
pub record HaveMarks (f : Frame) (marks : List Bool) : Type 0 where
  pub count : length marks ≡ length f.code
  pub are : (t : ℕ) → t < length f.code → IsTrue (slice_index_or marks t false) ↔ IsMarked f t

-- ---- as they are set

abbrev pub set_mark : List Bool → ℕ → List Bool
set_mark m p = if nat_lt p (length m) then slice_set m p true else m

abbrev pub marked : List Bool → List ℕ → List Bool
marked m [] = m
marked m (p ∷ ps) = marked (set_mark m p) ps

abbrev pub filter_places : Option Span → List ℕ
filter_places None = []
filter_places (Some s) = s.start ∷ []

-- where the blocks of a clause start and end
abbrev pub span_places : Spans → List ℕ
span_places s = s.guarded.start ∷ s.guarded.end ∷ s.handler.start ∷ s.handler.end ∷ filter_places s.filter

abbrev pub marked_code : List Bool → List Ins → List Bool
marked_code m [] = m
marked_code m (i ∷ is) = marked_code (marked m (targets i.operand)) is

abbrev pub marked_clauses : List Bool → List Spans → List Bool
marked_clauses m [] = m
marked_clauses m (s ∷ ss) = marked_clauses (marked m (span_places s)) ss

-- where tries begin and end
abbrev pub marked_bounds : List Bool → List Spans → List Bool
marked_bounds m [] = m
marked_bounds m (s ∷ ss) = marked_bounds (set_mark (set_mark m s.guarded.start) s.guarded.end) ss

abbrev pub all_marks : List Ins → List Spans → List Bool
all_marks code clauses = marked_clauses (marked_code (replicate (length code) false) code) clauses

-- ---- what follows a prefix

-- all instructions between are prefixes, and that at `j`, where there is one, is none
pub record IsPast (code : List Ins) (k j : ℕ) : Type 0 where
  pub later : k < j
  pub prefixes : (m : ℕ) (i : Ins) → k < m → m < j → slice_get code m ≡ Some i → IsTrue (is_prefix (operation i.op))
  pub other : (i : Ins) → slice_get code j ≡ Some i → is_prefix (operation i.op) ≡ false

-- a place for each instruction
pub record HavePasts (code : List Ins) (places : List ℕ) : Type 0 where
  pub count : length places ≡ length code
  pub each : (k : ℕ) (i : Ins) (j : ℕ) → slice_get code k ≡ Some i → slice_get places k ≡ Some j → IsPast code k j

-- a prefix that doesn't fit what follows (V17)
pub record IsStray (f : Frame) (k : ℕ) : Type 0 where
  pub ins : Ins
  pub prefix : Prefix
  pub does : Does f k (does.Prefix prefix) ins
  pub stray : Fits f k prefix → ⊥

-- ---- as it is tested

abbrev pub returns_at : Option Ins → Bool
returns_at None = false
returns_at (Some i) = is_return (operation i.op)

abbrev pub returns_after : Prefix → Option Ins → Bool
returns_after Tail i = returns_at i
returns_after Constrained i = true
returns_after Readonly i = true
returns_after Unaligned i = true
returns_after Volatile i = true

abbrev pub fits_at : List Ins → List Bool → Prefix → ℕ → Option Ins → Bool
fits_at code marks p j None = false
fits_at code marks p j (Some i) = goes_with p (operation i.op) && returns_after p (slice_get code (j + 1)) && not (slice_index_or marks j false)

abbrev pub is_stray_by : List Ins → List Bool → ℕ → Operation → Bool
is_stray_by code marks j (does.Prefix p) = not (fits_at code marks p j (slice_get code j))
is_stray_by code marks j o = false

abbrev pub prefix_at : Option Ins → Bool
prefix_at None = false
prefix_at (Some i) = is_prefix (operation i.op)
