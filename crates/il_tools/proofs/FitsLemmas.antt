-- An assembly that has an image fits.
use Rattle.std.proofs.Common.{◌≡◌, ℕ, ◌<◌, ◌≤◌, ◌^◌, ◌⊎◌, inl, inr, min, List, Result, Ok, Err}
use Rattle.std.proofs.lemmas.Bool.{cases_lt}
use Rattle.assembly_tree.specs.Room.{room}
use Rattle.assembly_tree.specs.Weight.{weight_of}
use Rattle.assembly_tree.specs.declared.assembly.Assembly.{Assembly}
use Rattle.image_writer.specs.declared.fault.WriteFault.{WriteFault}
use Rattle.image_writer.specs.declared.fault.WriteFault.TheVariants.{TooLarge, StringsFull, NoMemory}
use Rattle.assembly_tree.specs.Fits.{Fits}

at_most : (limit n : ℕ) → (limit < n → ⊥) → n ≤ limit
at_most limit n never = elim (cases_lt limit n) [ inl more ↦ absurd (never more) | inr fits ↦ fits ]

not_both : (r : Result (List ℕ) WriteFault) (image : List ℕ) (fault : WriteFault) → r ≡ Ok image → r ≡ Err fault → ⊥
not_both r image fault ok err = absurd cc

pub fits_made : (a : Assembly) (r : Result (List ℕ) WriteFault) (image : List ℕ) → r ≡ Ok image → (2 ^ 26 < weight_of a → r ≡ Err (TooLarge (min (weight_of a) (2 ^ 63))))
    → (weight_of a ≤ 2 ^ 26 → 2 ^ 24 < room a → (r ≡ Err (StringsFull (room a))) ⊎ (r ≡ Err NoMemory)) → Fits a
fits_made a r image ok large full = record {
  weight = small;
  room = at_most (2 ^ 24) (room a) (λ more. elim (full small more) [ inl e ↦ not_both r image (StringsFull (room a)) ok e | inr e ↦ not_both r image NoMemory ok e ]);
}
  where
    small : weight_of a ≤ 2 ^ 26
    small = at_most (2 ^ 26) (weight_of a) (λ more. not_both r image (TooLarge (min (weight_of a) (2 ^ 63))) ok (large more))
