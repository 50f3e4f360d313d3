-- The tokens of user strings name the texts that they were given to (ECMA-335 II.24.2.4, III.1.9).
use Rattle.std.specs.Prelude.{◌≡◌, ℕ, ◌↔◌, List, Option, Some}
use Rattle.assembly_tree.specs.declared.assembly.Assembly.{Assembly}
use Rattle.sig_codec.specs.Tokens.{GivesBack}
use Rattle.image_tokens.specs.Found.{token_in}
use Rattle.image_tokens.specs.KnownTokens.{texts_apart}
use Rattle.image_tokens.specs.declared.references.References.{References}
use Rattle.image_members.specs.Pushing.{Tables}
use Rattle.image_members.specs.declared.classes.Class.{Class}
use Rattle.image_model.specs.Naming.{NamesText}
use Rattle.laws_image_parts.specs.names.Written.{IsWritten}
use Rattle.laws_image_parts.specs.namings.Readable.{TextsAreUnits}

-- a map tells what the tokens name, and gives back each text that was given a token
pub record TextsRead (r : References) (image : List ℕ) : Type 0 where
  pub texts : ℕ → Option (List ℕ)
  pub tells : (token : ℕ) (units : List ℕ) → (texts token ≡ Some units) ↔ NamesText image token units
  pub back : GivesBack (token_in texts_apart r.known.texts) texts

-- ---- the law

abbrev pub TextsAreRead : Type 0
TextsAreRead =
    (a : Assembly) (classes : List Class) (r : References) (tables : Tables) (code image : List ℕ) → IsWritten a classes r tables code image
    → TextsAreUnits r → TextsRead r image
