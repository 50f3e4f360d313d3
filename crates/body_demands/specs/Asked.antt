-- What is known where the demands on bodies are asked: what is said of each method, and that the demands before hold (II.25.4).
use Rattle.std.specs.Prelude.{ℕ, List, Bool, true, false}
use Rattle.image_model.specs.Bodies.{HasHeader, HasInstructions}
use Rattle.method_states.specs.States.{AreStates}
use Rattle.method_states.specs.declared.state.BodyState.{BodyState}
use Rattle.method_states.specs.declared.state.BodyState.TheVariants as states

pub record AskHeaders (image : List ℕ) (states : List BodyState) : Type 0 where
  pub said : AreStates image states

pub record AskInstructions (image : List ℕ) (states : List BodyState) : Type 0 where
  pub said : AreStates image states
  pub headers : (table row : ℕ) → HasHeader image table row

pub record AskClauses (image : List ℕ) (states : List BodyState) : Type 0 where
  pub said : AreStates image states
  pub headers : (table row : ℕ) → HasHeader image table row
  pub instructions : (table row : ℕ) → HasInstructions image table row

-- what is said of a method where it fails one of the demands
abbrev pub fails_header : BodyState → Bool
fails_header states.Header = true
fails_header _ = false

abbrev pub fails_instructions : BodyState → Bool
fails_instructions states.Instructions = true
fails_instructions _ = false

abbrev pub fails_clauses : BodyState → Bool
fails_clauses states.Clauses = true
fails_clauses _ = false
