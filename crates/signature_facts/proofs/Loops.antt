-- Reading one after the other, as a loop does.
use Rattle.std.proofs.Common.{◌≡◌, ℕ, suc, ◌-◌, ◌+◌, ◌<◌, List, false, Option, Some, refl, sym, ◌∙◌, arith}
use Rattle.sig_codec.specs.Reading.{◌>>=◌, Step, is_at_sentinel}
use Rattle.signature_facts.specs.declared.facts.Facts.{Facts}
use Rattle.signature_facts.specs.Facts.{joined}
use Rattle.signature_facts.specs.Scanning.{FactsStep, mixed_at, types_at}

pub mixing_goes_on : {X : Type 0} (step : List ℕ → Step X) (into : ℕ → X → ℕ) (hash count i : ℕ) (bytes : List ℕ) (x : X) (after : List ℕ) (total : Step ℕ) → i < count → step bytes ≡ Some (x, after)
    → mixed_at step into hash (count - i) bytes ≡ total → mixed_at step into (into hash x) (count - (i + 1)) after ≡ total
mixing_goes_on step into hash count i bytes x after total lt h so_far =
    let k : count - i ≡ suc (count - (i + 1)) = omega arith in
    let one : mixed_at step into hash (count - i) bytes ≡ mixed_at step into (into hash x) (count - (i + 1)) after = rw (k, h) refl in
    sym one ∙ so_far

pub types_go_on : (sub : FactsStep) (front : Facts) (count i : ℕ) (bytes : List ℕ) (nodes : ℕ) (t : Facts) (after : List ℕ) (left : ℕ) (total : Option (Facts × ℕ × List ℕ × ℕ)) → i < count
    → is_at_sentinel bytes ≡ false → sub bytes nodes ≡ Some (t, after, left)
    → types_at sub front (count - i) bytes nodes ≡ total → types_at sub (joined front t) (count - (i + 1)) after left ≡ total
types_go_on sub front count i bytes nodes t after left total lt at_type h so_far =
    let k : count - i ≡ suc (count - (i + 1)) = omega arith in
    let one : types_at sub front (count - i) bytes nodes ≡ types_at sub (joined front t) (count - (i + 1)) after left = rw (k, at_type, h) refl in
    sym one ∙ so_far
