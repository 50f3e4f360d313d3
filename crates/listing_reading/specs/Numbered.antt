-- A piece of a listing as a forest whose leaves are the tokens of a source from one on (ECMA-335 II.5.1).
use Rattle.std.specs.Prelude.{ℕ, zero, suc, ◌+◌, ◌≡◌, option_map, slice_get, Option, Some, ⊤}
use Rattle.il_lexer.specs.Unplaced.{Spelling}
use Rattle.il_lexer.specs.declared.types.Token.{Token}
use Rattle.il_lexer.specs.declared.types.TokenKind.{TokenKind}
use Rattle.source_model.specs.Forest as f
use Rattle.source_model.specs.Source.{Source, spelling}
use Rattle.listing_model.specs.Shown.{Leaf, Shown, none, leaf, branch, size}

-- its forest, whose first leaf is the token with this number
abbrev pub numbered : ℕ → Shown → f.Forest
numbered at none = f.none
numbered at (leaf l after) = f.leaf at (numbered (suc at) after)
numbered at (branch p below after) = f.branch p (numbered at below) (numbered (at + size below) after)

-- the kind of the token with this number
abbrev pub kind_at : Source → ℕ → Option TokenKind
kind_at s k = option_map (λ (t : Token). t.kind) (slice_get s.tokens k)

-- the token is that leaf
pub record Is (s : Source) (k : ℕ) (l : Leaf) : Type 0 where
  pub kind : kind_at s k ≡ Some l.kind
  pub text : spelling s k ≡ l.text

-- its kind and bytes
abbrev pub leaf_spelling : Leaf → Spelling
leaf_spelling l = record { kind = l.kind; text = l.text }

-- the tokens from this one on are the leaves
abbrev pub Agrees : Source → ℕ → Shown → Type 0
Agrees s at none = ⊤
Agrees s at (leaf l after) = Is s at l × Agrees s (suc at) after
Agrees s at (branch p below after) = Agrees s at below × Agrees s (at + size below) after

-- ---- what stands behind the first trees

-- the trees behind so many
abbrev pub rest : ℕ → Shown → Shown
rest zero g = g
rest (suc k) none = none
rest (suc k) (leaf l after) = rest k after
rest (suc k) (branch p below after) = rest k after

-- and the number of their first token
abbrev pub place : ℕ → ℕ → Shown → ℕ
place zero at g = at
place (suc k) at none = at
place (suc k) at (leaf l after) = place k (suc at) after
place (suc k) at (branch p below after) = place k (at + size below) after
