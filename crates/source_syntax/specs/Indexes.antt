-- The numbers and names of generic parameters (ECMA-335 II.7.1).
use Rattle.std.specs.Prelude.{◌≡◌, ℕ, ◌<◌, ◌^◌, pos, true, false}
use Rattle.il_lexer.specs.declared.types.TokenKind.TheVariants.{Name}
use Rattle.ilasm_grammar.specs.declared.productions.TheConstants.{INDEX_INT, INDEX_NAME}
use Rattle.source_model.specs.Forest.{Forest, has, the, leaf_at}
use Rattle.source_model.specs.Source.{Source}
use Rattle.source_model.specs.Values.{int_at}
use Rattle.source_nodes.specs.Readers.{IsOf}

-- in a forest a generic parameter is written as a number of 32 bits, or as a name
pub record HasIndex (s : Source) (f : Forest) : Type 0 where
  pub numbered : has INDEX_INT f ≡ true → (n : ℕ) × (int_at s (leaf_at 0 (the INDEX_INT f)) ≡ pos n) × (n < 2 ^ 32)
  pub named : has INDEX_INT f ≡ false → IsOf s Name (leaf_at 0 (the INDEX_NAME f))
