-- The class sizes of the classes of a source, by the numbers of their paths, as they are asked of data (ECMA-335 II.10.7, II.22.8).
use Rattle.std.specs.Prelude.{◌≡◌, ℕ, suc, ◌≤◌, ◌==◌, Bool, true, false, if◌then◌else◌, List, [], ◌∷◌, ◌++◌, length, slice_get, slice_set, Option, None, Some, ⊤}
use Rattle.type_terms.specs.declared.name.TypeId.{TypeId}
use Rattle.ilasm_grammar.specs.declared.productions.TheConstants.{CLASS}
use Rattle.source_model.specs.Forest.{Forest, none, leaf, branch}
use Rattle.source_model.specs.Names.{class_at, is_path}
use Rattle.source_model.specs.OutOfRange.{asked_class_size, asked_size_at}
use Rattle.source_model.specs.Source.{Source}
use Rattle.source_syntax.specs.ClassNumbers.{class_numbered}
use Rattle.source_syntax.specs.declared.class_paths.ClassName.{ClassName}
use Rattle.check_names.specs.DeclaredClasses.{inner_path}

-- ---- the classes of a source

-- a class: its path, and its class size where its layout states one
pub record ClassSize : Type 0 where
  pub path : List TypeId
  pub size : Option ℕ

-- the classes of a forest that stands in a class, in preorder
abbrev pub size_list : Source → List TypeId → Forest → List ClassSize
size_list s path none = []
size_list s path (leaf token after) = size_list s path after
size_list s path (branch p below after) =
    (if p == CLASS
    then record { path = inner_path s path below; size = asked_class_size s below } ∷ size_list s (inner_path s path below) below
    else size_list s path below)
    ++ size_list s path after

-- what the first of these with a path states
abbrev pub first_size : List TypeId → List ClassSize → Option (Option ℕ)
first_size path [] = None
first_size path (c ∷ cs) = if is_path c.path path then Some c.size else first_size path cs

-- ---- by their numbers

-- the paths of these classes have numbers
abbrev pub AreKnown : List ClassName → List ClassSize → Type 0
AreKnown cs [] = ⊤
AreKnown cs (c ∷ more) = ((n : ℕ) × (class_numbered cs c.path ≡ Some n)) × AreKnown cs more

-- no size is known of so many classes, nor of the outside of all classes
pub record AreUnknown (classes : ℕ) (sizes : List (Option (Option ℕ))) : Type 0 where
  pub count : length sizes ≡ suc classes
  pub each : (n : ℕ) → n ≤ classes → slice_get sizes n ≡ Some None

abbrev pub is_unknown : Option (Option (Option ℕ)) → Bool
is_unknown None = false
is_unknown (Some None) = true
is_unknown (Some (Some size)) = false

-- the sizes with that of one more class, unless one is there
abbrev pub filled : List (Option (Option ℕ)) → ℕ → Option ℕ → List (Option (Option ℕ))
filled sizes n size = if is_unknown (slice_get sizes n) then slice_set sizes n (Some size) else sizes

-- the number of each path leads to what the first of these classes with it states
abbrev pub AreFilled : List ClassName → List (Option (Option ℕ)) → List ClassSize → Type 0
AreFilled cs sizes seen = (path : List TypeId) (n : ℕ) → class_numbered cs path ≡ Some n → slice_get sizes n ≡ Some (first_size path seen)

abbrev pub flat : {X : Type 0} → Option (Option X) → Option X
flat None = None
flat (Some o) = o

-- the size that a number leads to
abbrev pub size_numbered : List (Option (Option ℕ)) → Option ℕ → Option ℕ
size_numbered sizes None = None
size_numbered sizes (Some n) = flat (flat (slice_get sizes n))

-- each path leads to the class size of the first class of the source with it
abbrev pub AreSizes : Source → List ClassName → List (Option (Option ℕ)) → Type 0
AreSizes s cs sizes =
    (path : List TypeId) → size_numbered sizes (class_numbered cs path) ≡ asked_size_at s (class_at s path)
