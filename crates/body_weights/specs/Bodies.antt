-- What is told of the weights of bodies (II.25.4), and with them of all that the rows of an image name (II.22).
use Rattle.std.specs.Prelude.{◌≡◌, ℕ, ◌<◌, ◌≤◌, List, Option, Some, slice_index}
use Rattle.assembly_tree.specs.Weight.{optional, body_weight}
use Rattle.assembly_tree.specs.declared.body.Body.{Body}
use Rattle.body_codec.specs.Names.{NameMap}
use Rattle.hash_places.specs.Slots.{place_of}
use Rattle.hash_places.specs.declared.slots.Slot.{Slot}
use Rattle.image_model.specs.Bodies.{IsBody}
use Rattle.image_model.specs.Columns.{method_rva}
use Rattle.image_model.specs.Namings.{AreNamings}
use Rattle.image_model.specs.Reading.{BodyIs}
use Rattle.image_model.specs.Rows.{HasRow, token_of}
use Rattle.row_weights.specs.Rows.{cell_weighed, owner_weighed, method_told}
use Rattle.row_weights.specs.declared.kind.Kind.TheVariants as kind
use Rattle.told_weights.specs.Told.{Told, Tells}
use Rattle.body_weights.specs.Tokens.{Tokens}

-- a number tells what the body weighs at the front of bytes, whatever tells what tokens name
abbrev pub BodyTold : (image bytes : List ℕ) → ℕ → Type 0
BodyTold image bytes told = (names : NameMap) (body : Body) → AreNamings image names → IsBody names bytes body → Tells told (body_weight body)

-- and what that of a method does
abbrev pub BodyAtTold : List ℕ → (row told : ℕ) → Type 0
BodyAtTold image row told =
    (names : NameMap) (body : Option Body) → AreNamings image names → BodyIs image names (method_rva image row) body → Tells told (optional body_weight body)

-- the numbers of the first so many methods do
abbrev pub TellTo : List ℕ → ℕ → List ℕ → Type 0
TellTo image upto weights = (row : ℕ) → HasRow image 0x06 row → row ≤ upto → BodyAtTold image row (slice_index weights row)

-- the place of each RVA is one of the first so many methods, which has it
abbrev pub AreSeen : List ℕ → ℕ → List Slot → Type 0
AreSeen image upto seen = (rva row : ℕ) → place_of seen rva ≡ Some row → HasRow image 0x06 row × (row ≤ upto) × (method_rva image row ≡ rva)

-- ---- all that rows name

-- by what the rows weigh that tokens name, and by bodies by rows of MethodDef
abbrev pub bodies_told : Tokens → List ℕ → Told
bodies_told it bodies = record {
  owner = λ table row. owner_weighed it.known table row;
  method = λ table row. method_told it.methods (token_of table row);
  field = λ row. cell_weighed it.known kind.Field 0x04 row 2;
  signature = λ row. cell_weighed it.known kind.Method 0x06 row 4;
  property = λ row. cell_weighed it.known kind.Property 0x17 row 2;
  body = λ row. slice_index bodies row;
}
