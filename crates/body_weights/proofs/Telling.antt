-- What is told of rows is what that weighs which they name and have.
use Rattle.std.proofs.Common.{◌≡◌, ℕ, List, ◌∙◌, subst}
use Rattle.body_codec.specs.Names.{NameMap}
use Rattle.image_model.specs.Columns.{field_signature, method_signature, property_signature}
use Rattle.image_model.specs.Namings.{AreNamings}
use Rattle.image_model.specs.Rows.{token_of}
use Rattle.assembly_tree.specs.Weight.{type_weight, signature_weight}
use Rattle.name_weights.specs.Weights.{weighing}
use Rattle.row_weights.specs.declared.kind.Kind.TheVariants as kind
use Rattle.row_weights.specs.Rows.{TellRows, cell_weighed}
use Rattle.row_weights.proofs.Telling.{cell_is}
use Rattle.row_weights.proofs.Weighing.{field_weighs, method_weighs, property_weighs}
use Rattle.signature_facts.specs.Owners.{AreFacts, AreBounded}
use Rattle.spec_facts.proofs.Owned.{bounded}
use Rattle.told_weights.specs.Told.{TellWeights}
use Rattle.body_weights.specs.Bodies.{BodyAtTold, bodies_told}
use Rattle.body_weights.specs.Tokens.{Tokens, AreTokens}
use Rattle.body_weights.proofs.Naming.{capped_tells, type_tells, method_tells}

module _ (it : Tokens) (are : AreTokens it) where
  facts : (names : NameMap) → AreNamings it.known.image names → AreFacts weighing names.owners it.known.facts
  facts names tell = are.known_are.facts_are names tell

  bounds : (names : NameMap) → AreNamings it.known.image names → AreBounded names.owners
  bounds names tell = bounded it.known.image weighing names.owners tell.owners

  told_here : (bodies : List ℕ) → TellRows it.known.image 0x06 (BodyAtTold it.known.image) bodies → TellWeights it.known.image (bodies_told it bodies)
  told_here bodies bodies_are = record {
    owners = λ names table row owner tell cell is. type_tells it are names tell table row owner is;
    methods = λ names table row method tell cell is. method_tells it are names tell (token_of table row) method is;
    fields = λ names row of tell there has.
        capped_tells (cell_weighed it.known kind.Field 0x04 row 2) (type_weight of)
        (cell_is it.known are.known_are kind.Field 0x04 row 2 there
        ∙ field_weighs it.known.image names.owners it.known.facts (facts names tell) (bounds names tell) (field_signature it.known.image row) has.0 of has.1 has.2);
    signatures = λ names row sig tell there has.
        capped_tells (cell_weighed it.known kind.Method 0x06 row 4) (signature_weight sig)
        (cell_is it.known are.known_are kind.Method 0x06 row 4 there
        ∙ method_weighs it.known.image names.owners it.known.facts (facts names tell) (bounds names tell) (method_signature it.known.image row) has.0 sig has.1 has.2);
    properties = λ names row sig tell there has.
        capped_tells (cell_weighed it.known kind.Property 0x17 row 2) (signature_weight sig)
        (cell_is it.known are.known_are kind.Property 0x17 row 2 there
        ∙ property_weighs it.known.image names.owners it.known.facts (facts names tell) (bounds names tell) (property_signature it.known.image row) has.0 sig has.1 has.2);
    bodies = λ names row body tell there is. bodies_are row there names body tell is;
  }

  pub all_tell : (image bodies : List ℕ) → it.known.image ≡ image → TellRows it.known.image 0x06 (BodyAtTold it.known.image) bodies → TellWeights image (bodies_told it bodies)
  all_tell image bodies e h = subst (λ (i : List ℕ). TellWeights i (bodies_told it bodies)) e (told_here bodies h)
