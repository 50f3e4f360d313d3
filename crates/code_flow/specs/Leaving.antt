-- The leaves of a body and where they go on from its clauses, as they are found.
use Rattle.std.specs.Prelude.{◌≡◌, ℕ, ◌<◌, ◌≤◌, ◌&&◌, nat_lt, if◌then◌else◌, List, [], ◌∷◌, map, length, take, drop, slice_get, Some}
use Rattle.std.specs.List.{Contains, flat_map}
use Rattle.code_flow.specs.declared.blocks.Spans.{Spans}
use Rattle.code_flow.specs.declared.clauses.Placed.{Placed}
use Rattle.code_flow.specs.declared.goings.Carried.TheVariants as carries
use Rattle.code_flow.specs.declared.goings.Going.{Going}
use Rattle.code_flow.specs.declared.leaving.Leave.{Leave}
use Rattle.code_flow.specs.GoingTests.{AreExits, going, is_crossed, is_ended, on_behind}

-- the first `count` leaves stand before instruction `k`, and the others not
pub record IsSplit (leaves : List Leave) (k count : ℕ) : Type 0 where
  pub within : count ≤ length leaves
  pub before : (l : Leave) → Contains (take count leaves) l → l.at < k
  pub behind : (l : Leave) → Contains (drop count leaves) l → k ≤ l.at

-- how many leaves stand before each instruction
abbrev pub AreStarts : List Leave → List ℕ → Type 0
AreStarts leaves starts = (k count : ℕ) → slice_get starts k ≡ Some count → IsSplit leaves k count

-- where a `leave` goes on from the handler of the clause at a place, by some of the clauses
abbrev pub goes_behind : ℕ → Leave → List Placed → ℕ
goes_behind place l [] = l.to
goes_behind place l (p ∷ ps) = if nat_lt place p.place && is_crossed l.at l.to p.spans then p.spans.handler.start else goes_behind place l ps

-- for each clause the targets to which leaves go on from it
pub record HaveExits (all : List Spans) (leaves : List Leave) (exits : List (List ℕ)) : Type 0 where
  pub count : length exits ≡ length all
  pub each : (place : ℕ) (s : Spans) (e : List ℕ) → slice_get all place ≡ Some s → slice_get exits place ≡ Some e → AreExits all leaves place s e

-- where the leaves that cross a clause go on from it, if the instruction ends its handler
abbrev pub ended_by : List Spans → List Leave → ℕ → Placed → List Going
ended_by all leaves k p = if is_ended all k p.spans then map (going carries.Nothing) (flat_map (on_behind all p.place p.spans) leaves) else []
