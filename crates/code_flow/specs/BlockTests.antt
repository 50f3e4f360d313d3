-- Tests of blocks, which tell whether a step is level and whether clauses nest.
use Rattle.std.specs.Prelude.{ℕ, Bool, true, false, not, ◌&&◌, ◌||◌, nat_eq, nat_lt, nat_le, if◌then◌else◌, List, [], ◌∷◌, Option, None, Some}
use Rattle.std.specs.List.{list_all}
use Rattle.assembly_tree.specs.declared.body.Clause.{Clause}
use Rattle.assembly_tree.specs.declared.body.ClauseKind.{ClauseKind}
use Rattle.assembly_tree.specs.declared.body.ClauseKind.TheVariants.{Catch, Filter, Finally, Fault}
use Rattle.code_flow.specs.declared.blocks.Handling.{Handling}
use Rattle.code_flow.specs.declared.blocks.Handling.TheVariants as handles
use Rattle.code_flow.specs.declared.blocks.Span.{Span}
use Rattle.code_flow.specs.declared.blocks.Spans.{Spans}

-- ---- the ranges of a clause's blocks

abbrev pub span : ℕ → ℕ → Span
span start end = record { start = start; end = end }

abbrev pub filter_span : ℕ → ClauseKind → Option Span
filter_span handler_start (Filter at) = Some (span at handler_start)
filter_span handler_start (Catch o) = None
filter_span handler_start Finally = None
filter_span handler_start Fault = None

abbrev pub handling_of : ClauseKind → Handling
handling_of (Catch o) = handles.Catch
handling_of (Filter at) = handles.Filter
handling_of Finally = handles.Finally
handling_of Fault = handles.Fault

abbrev pub spans_of : Clause → Spans
spans_of c = record {
  handling = handling_of c.kind;
  guarded = span c.try_start c.try_end;
  handler = span c.handler_start c.handler_end;
  filter = filter_span c.handler_start c.kind;
}

-- ---- a test of all blocks of a clause, or of its handler and filter

abbrev pub filter_all : (Span → Bool) → Option Span → Bool
filter_all test None = true
filter_all test (Some s) = test s

abbrev pub filter_any : (Span → Bool) → Option Span → Bool
filter_any test None = false
filter_any test (Some s) = test s

abbrev pub handling_all : (Span → Bool) → Spans → Bool
handling_all test c = test c.handler && filter_all test c.filter

abbrev pub handling_any : (Span → Bool) → Spans → Bool
handling_any test c = test c.handler || filter_any test c.filter

abbrev pub blocks_all : (Span → Bool) → Spans → Bool
blocks_all test c = test c.guarded && handling_all test c

abbrev pub blocks_any : (Span → Bool) → Spans → Bool
blocks_any test c = test c.guarded || handling_any test c

-- ---- level steps

abbrev pub is_held : Span → ℕ → Bool
is_held s k = nat_le s.start k && nat_lt k s.end

-- a range that is left by no step from `k` to `t`, and entered by none
abbrev pub keeps : ℕ → ℕ → Span → Bool
keeps k t s = if is_held s k then is_held s t else not (is_held s t)

-- that of a try, which may be entered at its first instruction
abbrev pub admits : ℕ → ℕ → Span → Bool
admits k t s = if is_held s k then is_held s t else (not (is_held s t) || nat_eq s.start t)

abbrev pub is_clause_level : ℕ → ℕ → Spans → Bool
is_clause_level k t c = admits k t c.guarded && handling_all (keeps k t) c

abbrev pub is_level_test : List Spans → ℕ → ℕ → Bool
is_level_test clauses k t = list_all (is_clause_level k t) clauses

-- ---- nesting

-- two ranges that aren't empty have no instruction in common
abbrev pub are_apart : Span → Span → Bool
are_apart a b = nat_le a.end b.start || nat_le b.end a.start

-- the second lies in the first
abbrev pub is_within : Span → Span → Bool
is_within b a = nat_le b.start a.start && nat_le a.end b.end

-- all blocks of a clause lie in a range
abbrev pub lie_in : Spans → Span → Bool
lie_in c b = blocks_all (is_within b) c

abbrev pub is_handling_apart : Spans → Spans → Bool
is_handling_apart c d = handling_all (λ s. handling_all (are_apart s) d) c

abbrev pub is_all_apart : Spans → Spans → Bool
is_all_apart c d = blocks_all (λ s. blocks_all (are_apart s) d) c

abbrev pub has_same_try : Spans → Spans → Bool
has_same_try c d = nat_eq c.guarded.start d.guarded.start && nat_eq c.guarded.end d.guarded.end

-- the blocks of one clause are apart
abbrev pub is_apart : Spans → Bool
is_apart c = handling_all (are_apart c.guarded) c && filter_all (are_apart c.handler) c.filter

-- two clauses in order nest
abbrev pub is_nested : Spans → Spans → Bool
is_nested c d =
    if has_same_try c d then is_handling_apart c d
    else (is_all_apart c d || blocks_any (lie_in c) d || handling_any (lie_in d) c)

-- each clause, and each two
abbrev pub are_nested : List Spans → Bool
are_nested [] = true
are_nested (c ∷ cs) = is_apart c && list_all (is_nested c) cs && are_nested cs
