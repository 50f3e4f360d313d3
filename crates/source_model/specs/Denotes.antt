-- What a source denotes, and its fault where it denotes nothing (ECMA-335 II.5 to II.19, II.21).
use Rattle.std.specs.Prelude.{◌≡◌, ℕ, List, ◌++◌}
use Rattle.il_base.specs.declared.pos.Pos.{Pos}
use Rattle.il_lexer.specs.Lexing.{Lexes}
use Rattle.ilasm_grammar.specs.Parsing.{IsTreeOf}
use Rattle.assembly_tree.specs.declared.assembly.Assembly.{Assembly}
use Rattle.source_model.specs.declared.fault.NameClass.{NameClass}
use Rattle.source_model.specs.BodyFaults.{labels_twice, labels_undeclared, variables_undeclared, branches_too_far, clauses_backwards, branches_to_the_end, body_numbers_out_of_range}
use Rattle.source_model.specs.Classes.{assembly}
use Rattle.source_model.specs.DeclaredTwice.{types_twice, members_twice, externs_twice, entries_twice, manifests_twice, data_twice}
use Rattle.source_model.specs.Faults.{Broken, rule_at, AllBroken, IsFirstFault, IsFaultless}
use Rattle.source_model.specs.Forest.{preorder}
use Rattle.source_model.specs.OutOfRange.{numbers_out_of_range, types_too_deep, nestings_too_deep, data_too_short, data_unsized}
use Rattle.source_model.specs.Source.{Source, place_at}
use Rattle.source_model.specs.Undeclared.{types_undeclared, scopes_undeclared, objects_undeclared, typars_undeclared, accessors_undeclared, assembly_undeclared, data_undeclared}

-- ---- all rules, each with the tokens at which it is broken

-- what is declared twice: types, members, assemblies, labels, entry points, the manifest, data
unfoldable pub broken_d : Source → List Broken
broken_d s =
    rule_at 1 (types_twice s) ++ rule_at 2 (members_twice s) ++ rule_at 3 (externs_twice s) ++ rule_at 4 (labels_twice s)
    ++ rule_at 5 (entries_twice s) ++ rule_at 6 (manifests_twice s) ++ rule_at 7 (data_twice s)

-- what isn't declared: types, assemblies, labels, locals and arguments, generic parameters, accessors, the assembly, data
unfoldable pub broken_n : Source → List Broken
broken_n s =
    rule_at 1 (types_undeclared s) ++ rule_at 2 (scopes_undeclared s ++ objects_undeclared s) ++ rule_at 3 (labels_undeclared s)
    ++ rule_at 4 (variables_undeclared s) ++ rule_at 5 (typars_undeclared s) ++ rule_at 6 (accessors_undeclared s)
    ++ rule_at 7 (assembly_undeclared s) ++ rule_at 8 (data_undeclared s)

-- what is out of its bounds: numbers and counts, short branches, ranges of clauses, depths of types, targets, nestings, data
unfoldable pub broken_b : Source → List Broken
broken_b s =
    rule_at 1 (numbers_out_of_range s ++ body_numbers_out_of_range s) ++ rule_at 2 (branches_too_far s)
    ++ rule_at 3 (clauses_backwards s) ++ rule_at 4 (types_too_deep s) ++ rule_at 5 (branches_to_the_end s)
    ++ rule_at 6 (nestings_too_deep s) ++ rule_at 7 (data_too_short s) ++ rule_at 8 (data_unsized s)

abbrev pub broken : Source → AllBroken
broken s = record { d = broken_d s; n = broken_n s; b = broken_b s }

-- ---- the source

-- a source with its tokens and the derivation that they have
pub record IsRead (bytes : List ℕ) (s : Source) : Type 0 where
  pub bytes-are : s.bytes ≡ bytes
  pub lexes : Lexes bytes s.tokens
  pub derived : IsTreeOf s.tokens (preorder s.tree)

-- The source lexes, has a derivation and breaks no rule, and this is what it says.
pub record Denotes (bytes : List ℕ) (a : Assembly) : Type 0 where
  pub source : Source
  pub read : IsRead bytes source
  pub faultless : IsFaultless (broken source)
  pub is : a ≡ assembly source

-- The source lexes, has a derivation and breaks a rule; this is the first that it breaks, and where.
pub record HasNameFault (bytes : List ℕ) (pos : Pos) (class : NameClass) (rule : ℕ) : Type 0 where
  pub source : Source
  pub read : IsRead bytes source
  pub token : ℕ
  pub first : IsFirstFault (broken source) class (record { token = token; rule = rule })
  pub place : pos ≡ place_at source token
