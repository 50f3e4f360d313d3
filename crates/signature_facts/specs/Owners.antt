-- What is known of a map that tells the facts of what tokens name.
use Rattle.std.specs.Prelude.{◌≡◌, ℕ, ◌≤◌, Option, Some}
use Rattle.std.specs.Option.{option_map}
use Rattle.type_terms.specs.Depth.{owner_depth}
use Rattle.type_terms.specs.Nodes.{owner_nodes}
use Rattle.type_terms.specs.declared.term.Owner.{Owner}
use Rattle.sig_codec.specs.Signature.{max_depth, max_nodes}
use Rattle.signature_facts.specs.declared.facts.OwnerFacts.{OwnerFacts}
use Rattle.signature_facts.specs.Facts.{Naming, owner_facts}

-- a map tells, of each token, the facts of what it names, and knows the tokens that name something alone
abbrev pub AreFacts : Naming → (ℕ → Option Owner) → (ℕ → Option OwnerFacts) → Type 0
AreFacts naming owners facts = (token : ℕ) → facts token ≡ option_map (owner_facts naming) (owners token)

-- what tokens name is no deeper and has no more nodes than what a signature may spell
abbrev pub AreBounded : (ℕ → Option Owner) → Type 0
AreBounded owners = (token : ℕ) (o : Owner) → owners token ≡ Some o → (owner_depth o ≤ max_depth) × (owner_nodes o ≤ max_nodes)
