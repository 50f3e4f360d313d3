-- Each demand holds where all of them do.
use Rattle.std.proofs.Common.{ℕ, List}
use Rattle.body_codec.specs.Names.{NameMap}
use Rattle.image_model.specs.Faults.{Holds, RowRule}
use Rattle.image_model.specs.Faults as rule

-- all of them
pub record AllHold (image : List ℕ) (names : NameMap) : Type 0 where
  pub indexes : Holds image names rule.indexes
  pub entries : Holds image names rule.entries
  pub manifest : Holds image names rule.manifest
  pub runs : Holds image names rule.runs
  pub order : Holds image names rule.order
  pub scopes : Holds image names rule.scopes
  pub signatures : Holds image names rule.signatures
  pub distinct : Holds image names rule.distinct
  pub values : Holds image names rule.values
  pub header : Holds image names rule.header
  pub instructions : Holds image names rule.instructions
  pub clauses : Holds image names rule.clauses
  pub tokens : Holds image names rule.tokens
  pub attributes : Holds image names rule.attributes
  pub bases : Holds image names rule.bases
  pub accessors : Holds image names rule.accessors

pub each_holds : (image : List ℕ) (names : NameMap) → AllHold image names → (of : RowRule) → Holds image names of
each_holds image names h rule.indexes = h.indexes
each_holds image names h rule.entries = h.entries
each_holds image names h rule.manifest = h.manifest
each_holds image names h rule.runs = h.runs
each_holds image names h rule.order = h.order
each_holds image names h rule.scopes = h.scopes
each_holds image names h rule.signatures = h.signatures
each_holds image names h rule.distinct = h.distinct
each_holds image names h rule.values = h.values
each_holds image names h rule.header = h.header
each_holds image names h rule.instructions = h.instructions
each_holds image names h rule.clauses = h.clauses
each_holds image names h rule.tokens = h.tokens
each_holds image names h rule.attributes = h.attributes
each_holds image names h rule.bases = h.bases
each_holds image names h rule.accessors = h.accessors
