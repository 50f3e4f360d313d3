-- What is told of a plain name of which nothing more is known.
use Rattle.std.specs.Prelude.{true}
use Rattle.signature_facts.specs.declared.facts.OwnerFacts.{OwnerFacts}

abbrev pub named : OwnerFacts
named = record { is_name = true; facts = record { depth = 0; nodes = 0; rank = 0; weight = 0; hash = 0 } }
