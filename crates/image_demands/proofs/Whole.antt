-- What is known of an image whose tokens are told of, and all demands on its rows.
use Rattle.std.proofs.Common.{ℕ, ◌<◌, ◌≤◌, ◌^◌, Bool, List, Option, Some, None, length, arith}
use Rattle.distinct_members.specs.Signed.{CanTell}
use Rattle.body_codec.specs.Names.{NameMap}
use Rattle.type_terms.specs.declared.term.Owner.{Owner}
use Rattle.image_model.specs.Faults.{RowRule, indexes, entries, manifest, runs, order, scopes, signatures, distinct, values, header, instructions, clauses, tokens, attributes, bases, accessors, number_of, Holds, HasTables}
use Rattle.image_model.specs.Naming.{TellsOwners}
use Rattle.image_model.specs.Namings.{AreNamings}
use Rattle.image_model.specs.Structure.{HasScopes}
use Rattle.image_namings.specs.Laws.{NamingExists}
use Rattle.image_streams.specs.declared.opened.Unmet.{Unmet}
use Rattle.row_demands.specs.Structured.{MeetStructure}
use Rattle.row_demands.proofs.Faulted.{no_names}
use Rattle.signature_demands.specs.Named.{AreSigned}
use Rattle.signature_demands.proofs.Finding.{before}
use Rattle.signature_equality.specs.Numbering.{IsCanon}
use Rattle.signature_facts.specs.Facts.{Naming}
use Rattle.signature_facts.specs.Owners.{AreFacts}
use Rattle.signature_facts.specs.Scanning.{OwnersFacts}
use Rattle.owner_numbers.specs.Terms.{IsTold}
use Rattle.image_demands.specs.Meeting.{MeetBelow, MeetDemands, FailsOr, AreTold}
use Rattle.image_demands.proofs.Steps.{below_24}

-- ---- names and facts

pub are_told : (image : List ℕ) (facts : OwnersFacts) → NamingExists → length image ≤ 2 ^ 26 → HasTables image → MeetStructure image → ((table row : ℕ) → HasScopes image table row) → AreSigned image
    → ((owners : ℕ → Option Owner) → TellsOwners image owners → (naming : Naming) × AreFacts naming owners facts) → AreTold image facts
are_told image facts exists small has meets nested signed told = record {
  can = record {
    small = small;
    tables = has;
    meets = meets;
    scopes = nested;
    named = exists image no_names small has (before image no_names meets nested);
    signatures = signed;
    facts_are = λ names are. told names.owners are.owners;
  };
  told = told;
}

module _ (image : List ℕ) (facts : OwnersFacts) (told : AreTold image facts) where
  below_14 : (names : NameMap) → AreNamings image names → (rule : RowRule) → number_of rule < 15 → Holds image names rule
  below_14 names are indexes less = (told.can.meets.indexes, told.can.meets.entry)
  below_14 names are entries less = told.can.meets.entries
  below_14 names are manifest less = told.can.meets.manifest
  below_14 names are runs less = told.can.meets.runs
  below_14 names are order less = told.can.meets.order
  below_14 names are scopes less = told.can.scopes
  below_14 names are signatures less = told.can.signatures names are
  below_14 names are distinct less = absurd (omega arith)
  below_14 names are values less = absurd (omega arith)
  below_14 names are header less = absurd (omega arith)
  below_14 names are instructions less = absurd (omega arith)
  below_14 names are clauses less = absurd (omega arith)
  below_14 names are tokens less = absurd (omega arith)
  below_14 names are attributes less = absurd (omega arith)
  below_14 names are bases less = absurd (omega arith)
  below_14 names are accessors less = absurd (omega arith)

  pub signed_below : MeetBelow image 15
  signed_below = record { named = told.can.named; held = below_14 }

  pub is_told : IsTold image
  is_told = (told.can.named.0.owners, told.can.named.1.owners)

  pub can_tell : (canon : ℕ → ℕ → Bool) → ((owners : ℕ → Option Owner) → TellsOwners image owners → IsCanon owners canon) → CanTell image canon
  can_tell canon tells = record { named = told.can.named; signatures = told.can.signatures; canon_is = λ names are. tells names.owners are.owners }

  -- ---- all demands

  pub all_met : MeetBelow image 24 → MeetDemands image
  all_met below = record {
    structure = told.can.meets;
    scopes = told.can.scopes;
    named = below.named;
    rows = λ names are rule. below.held names are rule (below_24 rule);
  }

  pub all_or : (r : Option Unmet) → FailsOr image (MeetBelow image 24) r → FailsOr image (MeetDemands image) r
  all_or None h = all_met h
  all_or (Some u) h = h
