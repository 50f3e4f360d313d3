-- Parameters of which none has a name.
use Rattle.std.proofs.Common.{◌≡◌, ℕ, ◌+◌, List, [], ◌∷◌, ◌++◌, length, refl, ap, ◌∙◌, arith}
use Rattle.std.specs.Prelude.{Bool, true, false, ◌==◌, if◌then◌else◌}
use Rattle.std.specs.List.{AllByRecursion}
use Rattle.std.proofs.lemmas.Bool.Decides.{Decides-eqb}
use Rattle.ilasm_grammar.specs.declared.productions.TheConstants.{DEF_ARG, DEF_ARGS_OPT_SOME, NAME_OPT_SOME}
use Rattle.lower_manifest.proofs.Absent.{none_in_parts, nothing_of}
use Rattle.source_model.specs.Forest.{Forest, child, has, is_any_part, leaf_at, parts}
use Rattle.source_model.specs.Parameters.{parameters}
use Rattle.source_nodes.specs.declared.pieces.Piece.{Piece}
use Rattle.lower_bodies.specs.NamedVariables.{names_of, numbers_from}

pub no_pieces : (xs : List Piece) → (length xs == 0) ≡ true → xs ≡ []
no_pieces [] e = refl
no_pieces (x ∷ xs) e = let none = (Decides-eqb (length (x ∷ xs)) 0).0 e in absurd (omega (arith, none))

abbrev pub IsNameless : Forest → Type 0
IsNameless f = parts (NAME_OPT_SOME ∷ []) f ≡ []

pub nameless_parameters : (f : Forest) → has NAME_OPT_SOME (child (DEF_ARGS_OPT_SOME ∷ []) f) ≡ false → AllByRecursion IsNameless (parameters f)
nameless_parameters f e =
    let g = child (DEF_ARGS_OPT_SOME ∷ []) f in
    none_in_parts (NAME_OPT_SOME ∷ []) (DEF_ARG ∷ []) g (nothing_of (parts (NAME_OPT_SOME ∷ []) g) e)

pub nameless_texts : (fs : List Forest) → AllByRecursion IsNameless fs → names_of fs ≡ []
nameless_texts [] h = refl
nameless_texts (f ∷ fs) h =
    ap (λ (b : Bool). (if b then leaf_at 0 (child (NAME_OPT_SOME ∷ []) f) ∷ [] else []) ++ names_of fs) (ap is_any_part h.0) ∙ nameless_texts fs h.1

pub nameless_numbers : (first at : ℕ) (fs : List Forest) → AllByRecursion IsNameless fs → numbers_from first at fs ≡ []
nameless_numbers first at [] h = refl
nameless_numbers first at (f ∷ fs) h =
    ap (λ (b : Bool). (if b then (first + at) ∷ [] else []) ++ numbers_from first (at + 1) fs) (ap is_any_part h.0) ∙ nameless_numbers first (at + 1) fs h.1
