-- The first rule that a source breaks, as the code says it.
use Rattle.std.specs.Prelude.{◌≡◌, ℕ, Option, None, Some}
use Rattle.source_model.specs.Denotes.{broken}
use Rattle.source_model.specs.Faults.{IsFaultless, IsFirstFault}
use Rattle.source_model.specs.Source.{Source, place_at}
use Rattle.source_model.specs.declared.fault.NameClass.{NameClass}
use Rattle.check_names.specs.Breaches.{broken_of}
use Rattle.check_source.specs.declared.faults.Classed.{Classed}
use Rattle.check_source.specs.declared.faults.Fault.{Fault}
use Rattle.check_names.specs.declared.merging.Breach.{Breach}

abbrev pub classed : NameClass → Breach → Classed
classed class breach = record { class = class; breach = breach }

-- None where no rule is broken, or else the first that is, with its class
abbrev pub IsFirst : Source → Option Classed → Type 0
IsFirst s None = IsFaultless (broken s)
IsFirst s (Some f) = IsFirstFault (broken s) f.class (broken_of f.breach)

-- the first rule of a source that is broken, and where
pub record BreaksFirst (s : Source) (f : Fault) : Type 0 where
  pub token : ℕ
  pub first : IsFirstFault (broken s) f.class (record { token = token; rule = f.rule })
  pub place : f.pos ≡ place_at s token

-- None where no rule is broken, or else the first that is
abbrev pub IsFault : Source → Option Fault → Type 0
IsFault s None = IsFaultless (broken s)
IsFault s (Some f) = BreaksFirst s f
