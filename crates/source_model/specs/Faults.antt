-- The faults of a source that has a derivation: for each rule the tokens at which it is broken, and the first of them.
use Rattle.std.specs.Prelude.{◌≡◌, ℕ, ◌==◌, ◌&&◌, ◌||◌, nat_lt, Bool, if◌then◌else◌, List, [], ◌∷◌, map, Option, None, Some}
use Rattle.source_model.specs.declared.fault.NameClass.{NameClass}
use Rattle.source_model.specs.declared.fault.NameClass.TheVariants.{D, N, B}

-- a rule, by its number in its class, is broken at this token
pub record Broken : Type 0 where
  pub token : ℕ
  pub rule : ℕ

-- the rule is broken at these tokens
abbrev pub rule_at : ℕ → List ℕ → List Broken
rule_at rule tokens = map (λ k. record { token = k; rule = rule }) tokens

-- it stands before another one, or at the same token and before it in the table of rules
abbrev pub is_before : Broken → Broken → Bool
is_before x y = nat_lt x.token y.token || (x.token == y.token && nat_lt x.rule y.rule)

-- the first of two, where there are any
abbrev pub earlier : Option Broken → Option Broken → Option Broken
earlier None y = y
earlier (Some x) None = Some x
earlier (Some x) (Some y) = Some (if is_before y x then y else x)

-- the first of a list: the one at the least token, and of several there the first in the table of rules
abbrev pub earliest : List Broken → Option Broken
earliest [] = None
earliest (x ∷ xs) = earlier (Some x) (earliest xs)

-- all that is broken, by classes
pub record AllBroken : Type 0 where
  pub d : List Broken
  pub n : List Broken
  pub b : List Broken

-- The fault: the first of class D, or of class N where none of D is broken, or of class B where none of either is.
abbrev pub IsFirstFault : AllBroken → NameClass → Broken → Type 0
IsFirstFault all D x = earliest all.d ≡ Some x
IsFirstFault all N x = (all.d ≡ []) × (earliest all.n ≡ Some x)
IsFirstFault all B x = (all.d ≡ []) × (all.n ≡ []) × (earliest all.b ≡ Some x)

abbrev pub IsFaultless : AllBroken → Type 0
IsFaultless all = (all.d ≡ []) × (all.n ≡ []) × (all.b ≡ [])
