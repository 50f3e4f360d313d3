-- The signatures of a laid-out image have each number in its shortest form (ECMA-335 II.23.2).
use Rattle.std.specs.Prelude.{ℕ, List}
use Rattle.assembly_tree.specs.declared.assembly.Assembly.{Assembly}
use Rattle.body_codec.specs.Names.{NameMap}
use Rattle.sig_codec.specs.Tokens.{GivesBack}
use Rattle.image_tokens.specs.References.{tokens_of}
use Rattle.image_tokens.specs.declared.references.References.{References}
use Rattle.image_members.specs.Pushing.{Tables}
use Rattle.image_members.specs.declared.classes.Class.{Class}
use Rattle.image_model.specs.Tidy.{HasShortSignatures}
use Rattle.laws_image_parts.specs.names.Written.{IsWritten}

-- ---- the law

abbrev pub SignaturesAreShort : Type 0
SignaturesAreShort =
    (a : Assembly) (classes : List Class) (r : References) (tables : Tables) (code image : List ℕ) → IsWritten a classes r tables code image
    → (names : NameMap) → GivesBack (tokens_of r) names.owners → HasShortSignatures image names
