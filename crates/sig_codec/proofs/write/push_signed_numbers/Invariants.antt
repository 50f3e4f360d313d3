use Rattle.std.proofs.Common.{◌≡◌, ℕ, List, ◌++◌, drop, Option}
use Rattle.std.specs.List.{AllByRecursion}
use Rattle.type_terms.specs.declared.term.Owner.{Owner}
use Rattle.sig_codec.specs.Spelling.{writing, SpellsEachBy}
use Rattle.sig_codec.specs.Spellable.{CanBePackedSigned}
use Rattle.sig_codec.proofs.write.push_signed_numbers.Given as goal

abbrev pub invariant-loop-number : goal.invariant-loop-number
invariant-loop-number l =
    AllByRecursion CanBePackedSigned (drop l.number-index l.numbers)
    × ((tokens : Owner → Option ℕ) (b : List ℕ) → SpellsEachBy (writing tokens).signed (drop l.number-index l.numbers) b → (a : List ℕ) × (l.initial.out ++ a ≡ l.out ++ b) × SpellsEachBy (writing tokens).signed l.numbers a)
