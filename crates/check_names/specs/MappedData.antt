-- The lengths of data with labels, counted up to 2^32, which no value has (ECMA-335 II.16.3).
use Rattle.std.specs.Prelude.{ℕ, min, if◌then◌else◌, List, [], ◌∷◌, Option, None, Some}
use Rattle.ilasm_grammar.specs.declared.productions.TheConstants.{DATA_LABEL}
use Rattle.source_model.specs.Forest.{Forest, has}
use Rattle.source_model.specs.OutOfRange.{asked_length}
use Rattle.source_model.specs.Source.{Source}

-- a length as it is counted; one that isn't asked is enough for all
abbrev pub counted_by : Option ℕ → ℕ
counted_by None = 0x100000000
counted_by (Some n) = min n 0x100000000

abbrev pub counted_length : Source → Forest → ℕ
counted_length s f = counted_by (asked_length s f)

-- that of data which has a label
abbrev pub length_labelled : Source → Forest → List ℕ
length_labelled s f = if has DATA_LABEL f then counted_length s f ∷ [] else []
