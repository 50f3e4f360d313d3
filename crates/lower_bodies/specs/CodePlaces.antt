-- What is known of the code of a method (ECMA-335 II.5.4).
use Rattle.std.specs.Prelude.{◌≡◌, ℕ, ◌<◌, ◌^◌, List, length, map, ⊤}
use Rattle.std.specs.List.Sorted.{IsNonDecreasing}
use Rattle.source_model.specs.Forest.{Forest}
use Rattle.source_model.specs.Instructions.{instructions_of, labels, mnemonic_token}
use Rattle.source_model.specs.Source.{Source}
use Rattle.source_model.specs.Values.{name_text}
use Rattle.source_syntax.specs.Methods.{AreNames}
use Rattle.source_nodes.specs.Pieces.{ArePieces}
use Rattle.source_nodes.specs.Readers.{Reads}
use Rattle.lower_bodies.specs.LabelSlots.{HaveSlots}
use Rattle.lower_bodies.specs.declared.code_places.Code.{Code}
use Rattle.lower_bodies.specs.declared.code_places.Names.{Names}
use Rattle.lower_bodies.specs.declared.code_places.Names.TheVariants.{All, Each, Slots}

-- a label with any name is found among these
abbrev pub HaveNames : Names → Source → List ℕ → Type 0
HaveNames Each s labels = ⊤
HaveNames (Slots slots) s labels = HaveSlots slots.now s labels
HaveNames (All names) s labels = names.now ≡ map (name_text s) labels

-- these are the labels and the instructions of a method, which is given by what stands below its production
pub record IsCode (x : Code) (s : Source) (f : Forest) : Type 0 where
  pub reads : Reads x.reader s
  pub labels-are : x.labels.now ≡ labels f
  pub labelled : AreNames s x.labels.now
  pub names-are : HaveNames x.names s x.labels.now
  pub instructions-are : ArePieces x.nodes.now x.instructions.now (instructions_of f)
  pub rising : IsNonDecreasing (map mnemonic_token (instructions_of f))
  pub few : length x.instructions.now < 2 ^ 32
