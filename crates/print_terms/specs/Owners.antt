-- The owners of members that are referred to.
use Rattle.std.specs.Prelude.{ℕ, nat_lt, not, Bool, true, false, if◌then◌else◌, List, [], ◌∷◌, None}
use Rattle.il_lexer.specs.declared.types.TokenKind.TheVariants.{Int}
use Rattle.il_lexer.specs.declared.word.TheConstants.{DOUBLE_COLON, LESS, GREATER, OPEN_BRACKET, CLOSE_BRACKET}
use Rattle.listing_leaves.specs.Numbers.{natural}
use Rattle.type_terms.specs.declared.name.Scope as scope
use Rattle.type_terms.specs.declared.name.TypeId.{TypeId}
use Rattle.type_terms.specs.declared.reference.MethodRef.{MethodRef}
use Rattle.type_terms.specs.declared.reference.MethodSig.{MethodSig}
use Rattle.type_terms.specs.declared.term.Owner.{Owner}
use Rattle.type_terms.specs.declared.term.Owner.TheVariants as owner
use Rattle.type_terms.specs.declared.term.SigType.{SigType}
use Rattle.type_terms.specs.declared.term.Owner.TheOpen.{Owner-F, Name, Spec}
use Rattle.assembly_tree.specs.WellFormedNames.{is_module}
use Rattle.assembly_tree.specs.declared.assembly.ExternAssembly.{ExternAssembly}
use Rattle.listing_model.specs.References.{method_name}
use Rattle.listing_model.specs.Shown.{none, put, token, w}
use Rattle.listing_model.specs.Types.{name, path_below, extern_scope, type_below}
use Rattle.print_leaves.specs.Page.{Page, drawn}

-- A path of this assembly is written but for `<Module>`.
abbrev pub is_written : List TypeId → Bool
is_written [] = false
is_written (id ∷ []) = not (is_module id)
is_written (id ∷ next ∷ more) = true

abbrev pub is_written_in : scope.Scope → List TypeId → Bool
is_written_in scope.TheVariants.Here ids = is_written ids
is_written_in (scope.TheVariants.Extern k) ids = true

abbrev pub is_owned : Owner-F Owner SigType → Bool
is_owned (Name t) = is_written_in t.scope t.path
is_owned (Spec t) = true

abbrev pub colons : Page → Page
colons p = drawn p (w DOUBLE_COLON none)

-- the page behind the owner and its `::`, or as it was where none is written
abbrev pub behind_path : Page → List TypeId → Page
behind_path p [] = p
behind_path p (id ∷ []) = if is_module id then p else colons (drawn p (path_below (id ∷ [])))
behind_path p (id ∷ next ∷ more) = colons (drawn p (path_below (id ∷ next ∷ more)))

module _ (externs : List ExternAssembly) where
  abbrev pub behind_name : Page → scope.Scope → List TypeId → Page
  behind_name p scope.TheVariants.Here ids = behind_path p ids
  behind_name p (scope.TheVariants.Extern k) ids = colons (drawn (drawn p (extern_scope externs k none)) (path_below ids))

  abbrev pub behind_owner : Page → Owner-F Owner SigType → Page
  behind_owner p (Name t) = behind_name p t.scope t.path
  behind_owner p (Spec t) = colons (drawn p (type_below externs t))

-- ---- the name of a method

-- behind an owner `.ctor` and `.cctor` stand as words
abbrev pub member_drawn : Page → Bool → List ℕ → Page
member_drawn p true text = drawn p (put (method_name text) none)
member_drawn p false text = drawn p (name text none)

-- `<[n]>`, where there are generic parameters
abbrev pub count_drawn : Page → ℕ → Page
count_drawn p n =
    if nat_lt 0 n then drawn p (w LESS (w OPEN_BRACKET (token Int (natural n) (w CLOSE_BRACKET (w GREATER none))))) else p

-- a method of a class, as its own class names it
abbrev pub reference_of : List TypeId → List ℕ → MethodSig → MethodRef
reference_of path text sig =
    record { owner = owner.Name (record { scope = scope.TheVariants.Here; path = path }); name = text; sig = sig; args = None }
