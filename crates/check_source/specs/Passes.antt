-- The rules that are asked in one pass over a source: those of its methods' bodies, those of its productions, and that of members
-- that are declared twice.
use Rattle.std.specs.Prelude.{◌≡◌, ℕ, ◌==◌, ◌||◌, Bool, List, [], ◌∷◌, ◌++◌, None}
use Rattle.ilasm_grammar.specs.declared.productions.TheConstants.{DECL_FIELD, DECL_METHOD, DECL_STAR_MORE, SOURCE}
use Rattle.source_model.specs.BodyFaults.{body_numbers_out_of_range, branches_to_the_end, branches_too_far, clauses_backwards, labels_twice, labels_undeclared, variables_undeclared}
use Rattle.source_model.specs.DeclaredTwice.{members_twice}
use Rattle.source_model.specs.Forest.{Forest}
use Rattle.source_model.specs.Nodes.{nothing_around}
use Rattle.source_model.specs.OutOfRange.{nestings_too_deep, numbers_out_of_range}
use Rattle.source_model.specs.Source.{Source}
use Rattle.source_model.specs.Undeclared.{data_undeclared, scopes_undeclared, types_undeclared, typars_undeclared}
use Rattle.source_nodes.specs.Least.{least}
use Rattle.check_visitor.specs.Surroundings.{found_in}
use Rattle.check_bodies.specs.AllOfBodies.{body_broken, broken_in_bodies}
use Rattle.check_members.specs.MemberKinds.{twice_within}
use Rattle.check_names.specs.AllOfParts.{broken_at, broken_in_parts}
use Rattle.check_source.specs.declared.all_declared.Declarations.{Declarations}

-- the tokens at which these rules are broken
abbrev pub broken_in_passes : Source → List ℕ
broken_in_passes s = broken_in_bodies s ++ broken_in_parts s ++ members_twice s

-- none of them is broken
pub record KeepsPasses (s : Source) : Type 0 where
  pub labels-once : None ≡ least (labels_twice s)
  pub labels : None ≡ least (labels_undeclared s)
  pub variables : None ≡ least (variables_undeclared s)
  pub branches : None ≡ least (branches_too_far s)
  pub clauses : None ≡ least (clauses_backwards s)
  pub ends : None ≡ least (branches_to_the_end s)
  pub types : None ≡ least (types_undeclared s)
  pub scopes : None ≡ least (scopes_undeclared s)
  pub typars : None ≡ least (typars_undeclared s)
  pub data-labels : None ≡ least (data_undeclared s)
  pub numbers : None ≡ least (numbers_out_of_range s ++ body_numbers_out_of_range s)
  pub nestings : None ≡ least (nestings_too_deep s)
  pub members : None ≡ least (members_twice s)

-- ---- in a part of a source, by what the code knows of its declarations

-- but for members of no class that are declared twice
abbrev pub broken_among : Source → Declarations → Forest → List ℕ
broken_among s d f =
    (found_in body_broken s nothing_around f
    ++ found_in (broken_at d.externs.names d.own.names d.classes.paths d.labels.names) s nothing_around f)
    ++ twice_within s [] f

-- the production of a source, or of a list of declarations: what stands below it stands in nothing else
abbrev pub is_outer : ℕ → Bool
is_outer p = p == SOURCE || p == DECL_STAR_MORE

-- a field or a method outside of any class
abbrev pub outer_members : List ℕ
outer_members = DECL_FIELD ∷ DECL_METHOD ∷ []
