-- Tests of where `leave`, `rethrow`, `endfinally` and `endfilter` may stand.
use Rattle.std.specs.Prelude.{ℕ, ◌+◌, Bool, true, false, not, ◌&&◌, ◌||◌, nat_eq, if◌then◌else◌, List}
use Rattle.std.specs.List.{list_all, list_any}
use Rattle.code_flow.specs.declared.blocks.Handling.{Handling}
use Rattle.code_flow.specs.declared.blocks.Handling.TheVariants.{Catch, Filter, Finally, Fault}
use Rattle.code_flow.specs.declared.blocks.Span.{Span}
use Rattle.code_flow.specs.declared.blocks.Spans.{Spans}
use Rattle.code_flow.specs.BlockTests.{is_held, keeps, is_within, filter_all, filter_any, handling_all, blocks_all}

-- the handler of a catch or filter clause
abbrev pub catches : Handling → Bool
catches Catch = true
catches Filter = true
catches Finally = false
catches Fault = false

-- ---- leave

-- a range that may be left, and entered at its start
abbrev pub opens : ℕ → ℕ → Span → Bool
opens k t s = is_held s k || not (is_held s t) || nat_eq s.start t

-- a range that may be left, and isn't entered
abbrev pub releases : ℕ → ℕ → Span → Bool
releases k t s = is_held s k || not (is_held s t)

abbrev pub handler_releases : ℕ → ℕ → Spans → Bool
handler_releases k t c = if catches c.handling then releases k t c.handler else keeps k t c.handler

abbrev pub clause_releases : ℕ → ℕ → Spans → Bool
clause_releases k t c = opens k t c.guarded && handler_releases k t c && filter_all (keeps k t) c.filter

abbrev pub may_leave_test : List Spans → ℕ → ℕ → Bool
may_leave_test clauses k t = list_all (clause_releases k t) clauses

-- ---- innermost blocks

-- where a range holds the instruction, the block lies in it
abbrev pub encloses : ℕ → Span → Span → Bool
encloses k s other = not (is_held other k) || is_within other s

-- no block that holds the instruction is inside the range
abbrev pub is_innermost_range : List Spans → ℕ → Span → Bool
is_innermost_range clauses k s = is_held s k && list_all (blocks_all (encloses k s)) clauses

-- the same of handlers and filters
abbrev pub is_innermost_handling : List Spans → ℕ → Span → Bool
is_innermost_handling clauses k s = is_held s k && list_all (handling_all (encloses k s)) clauses

abbrev pub rethrows_in : List Spans → ℕ → Spans → Bool
rethrows_in clauses k c = catches c.handling && is_innermost_handling clauses k c.handler

abbrev pub may_rethrow_test : List Spans → ℕ → Bool
may_rethrow_test clauses k = list_any (rethrows_in clauses k) clauses

abbrev pub ends_finally_in : List Spans → ℕ → Spans → Bool
ends_finally_in clauses k c = not (catches c.handling) && is_innermost_range clauses k c.handler

abbrev pub may_end_finally_test : List Spans → ℕ → Bool
may_end_finally_test clauses k = list_any (ends_finally_in clauses k) clauses

abbrev pub is_last_of : List Spans → ℕ → Span → Bool
is_last_of clauses k s = nat_eq s.end (k + 1) && is_innermost_range clauses k s

abbrev pub ends_filter_in : List Spans → ℕ → Spans → Bool
ends_filter_in clauses k c = filter_any (is_last_of clauses k) c.filter

abbrev pub may_end_filter_test : List Spans → ℕ → Bool
may_end_filter_test clauses k = list_any (ends_filter_in clauses k) clauses
