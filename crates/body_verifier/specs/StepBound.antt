-- How many joins and parents a check of a body takes at most.
use Rattle.std.specs.Prelude.{◌≡◌, ℕ, ◌+◌, ◌*◌, ◌<◌, List, length}
use Rattle.std.specs.List.{Contains, AllPairs}
use Rattle.type_hierarchy.specs.Scopes.{Sources}
use Rattle.type_hierarchy.specs.Ancestors.{all_declared}
use Rattle.code_flow.specs.Frames.{Frame}
use Rattle.code_flow.specs.Edges.{Carries, Edge}

-- two instructions with an edge from one to the other
pub record Joined (f : Frame) (e : ℕ × ℕ) : Type 0 where
  pub from : e.0 < length f.code
  pub to : e.1 < length f.code
  pub carries : Carries
  pub edge : Edge f e.0 e.1 carries

-- each pair with an edge, once
pub record AreEdges (f : Frame) (pairs : List (ℕ × ℕ)) : Type 0 where
  pub each : (e : ℕ × ℕ) → Contains pairs e → Joined f e
  pub all : (e : ℕ × ℕ) → Joined f e → Contains pairs e
  pub once : AllPairs (λ (d e : ℕ × ℕ). d ≡ e → ⊥) pairs

-- the types that the world declares, and those of the longest chain of the core
abbrev pub height : Sources → ℕ
height s = length (all_declared s) + 6

abbrev pub step_bound : ℕ → ℕ → ℕ → ℕ
step_bound edges depth height = edges * depth * (2 + depth * height)
