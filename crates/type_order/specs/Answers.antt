-- What is known of two references after one comparison.
use Rattle.std.specs.Prelude.{◌↔◌, ℕ, ◌<◌, Bool, true, false, List, IsTrue}
use Rattle.sig_pool.specs.declared.node.Node.{Node}
use Rattle.sig_pool.specs.Terms.{term_of}
use Rattle.type_order.specs.declared.fits.Answer.{Answer}
use Rattle.type_order.specs.declared.fits.Answer.TheVariants.{Known, AsElements}
use Rattle.type_hierarchy.specs.declared.stack_type.StackType.{StackType}
use Rattle.type_hierarchy.specs.declared.stack_type.StackType.TheVariants.{I4, I8, N, F, Null, Ref, Boxed, Val, Ptr, Bad}
use Rattle.type_hierarchy.specs.Hierarchy.{Hierarchy}
use Rattle.type_hierarchy.specs.Relations.{Assignable}
use Rattle.type_hierarchy.specs.Stack.{ref}

-- a reference to the type of one id may stand for one to that of another
abbrev pub RefersTo : Hierarchy → List Node → ℕ → ℕ → Type 0
RefersTo w ns a b = Assignable w (ref (term_of ns a)) (ref (term_of ns b))

-- it may as the elements may, whose ids are lower
pub record IsAsElements (w : Hierarchy) (ns : List Node) (a b from to : ℕ) : Type 0 where
  pub left : from < a
  pub right : to < b
  pub same : RefersTo w ns a b ↔ RefersTo w ns from to

abbrev pub Answers : Hierarchy → List Node → ℕ → ℕ → Answer → Type 0
Answers w ns a b (Known r) = IsTrue r ↔ RefersTo w ns a b
Answers w ns a b (AsElements e) = IsAsElements w ns a b e.from e.to

abbrev pub is_bad : StackType → Bool
is_bad Bad = true
is_bad I4 = false
is_bad I8 = false
is_bad N = false
is_bad F = false
is_bad Null = false
is_bad (Ref k) = false
is_bad (Boxed k) = false
is_bad (Val k) = false
is_bad (Ptr k) = false
