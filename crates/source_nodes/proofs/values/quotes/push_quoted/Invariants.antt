use Rattle.std.proofs.Common.{◌≡◌, ◌≤◌, ℕ, List, ◌∷◌, ◌++◌, length}
use Rattle.il_lexer.specs.Spelled.{IsText}
use Rattle.source_model.specs.Values.{unescaped}
use Rattle.source_nodes.proofs.Texts.{Rest}
use Rattle.source_nodes.proofs.values.quotes.push_quoted.Given as goal

abbrev pub invariant-loop-rest : goal.invariant-loop-rest
invariant-loop-rest l = record {
  passed :
      (inner after : List ℕ) → IsText l.quote inner → l.fn.text ≡ inner ++ l.quote ∷ after →
      Rest l.quote l.rest after l.bytes (l.initial.bytes ++ unescaped inner);
  shorter : length l.rest ≤ length l.fn.text;
}

abbrev pub decreases-loop-rest : goal.decreases-loop-rest
decreases-loop-rest l = length l.rest
