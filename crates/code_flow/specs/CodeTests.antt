-- Tests of the rules that an instruction breaks whatever the stack is.
use Rattle.std.specs.Prelude.{ℕ, nat_le, ◌+◌, Bool, true, false, not, ◌&&◌, ◌||◌, nat_eq, slice_index_or, List}
use Rattle.std.specs.List.{list_any}
use Rattle.assembly_tree.specs.declared.body.Ins.{Ins}
use Rattle.assembly_tree.specs.declared.body.Operand as operand
use Rattle.code_flow.specs.declared.blocks.Span.{Span}
use Rattle.code_flow.specs.declared.blocks.Spans.{Spans}
use Rattle.code_flow.specs.declared.operation.Operation.{Operation}
use Rattle.code_flow.specs.declared.operation.Operation.TheVariants as does
use Rattle.code_flow.specs.Operations.{operation}
use Rattle.code_flow.specs.BlockTests.{is_held, blocks_any, is_level_test}
use Rattle.code_flow.specs.PlaceTests.{may_leave_test, may_rethrow_test, may_end_finally_test, may_end_filter_test}
use Rattle.code_flow.specs.Edges.{falls, branches, targets}
use Rattle.code_flow.specs.Rules.{calls, states_this}

abbrev pub runs_off_by : ℕ → ℕ → Operation → Bool
runs_off_by count k o = falls o && nat_eq (k + 1) count

-- some block of a clause holds the instruction
abbrev pub has_inside : ℕ → Spans → Bool
has_inside k c = blocks_any (λ (s : Span). is_held s k) c

abbrev pub is_inside : List Spans → ℕ → Bool
is_inside clauses k = list_any (has_inside k) clauses

abbrev pub is_return : Operation → Bool
is_return does.Return = true
is_return o = false

abbrev pub returns_inside_by : List Spans → ℕ → Operation → Bool
returns_inside_by clauses k o = is_return o && is_inside clauses k

abbrev pub goes_across : List Spans → ℕ → ℕ → Bool
goes_across clauses k t = not (is_level_test clauses k t)

abbrev pub any_across : List Spans → ℕ → List ℕ → Bool
any_across clauses k ts = list_any (goes_across clauses k) ts

abbrev pub branches_across_by : List Spans → ℕ → Ins → Bool
branches_across_by clauses k i = branches (operation i.op) && any_across clauses k (targets i.operand)

abbrev pub falls_across_by : List Spans → List Bool → ℕ → Operation → Bool
falls_across_by clauses marks k o = falls o && slice_index_or marks (k + 1) false && goes_across clauses k (k + 1)

abbrev pub leaves_badly : List Spans → ℕ → ℕ → Bool
leaves_badly clauses k t = not (may_leave_test clauses k t)

abbrev pub misplaced_by : List Spans → ℕ → List ℕ → Operation → Bool
misplaced_by clauses k ts does.Leave = list_any (leaves_badly clauses k) ts
misplaced_by clauses k ts does.Rethrow = not (may_rethrow_test clauses k)
misplaced_by clauses k ts does.EndFinally = not (may_end_finally_test clauses k)
misplaced_by clauses k ts does.EndFilter = not (may_end_filter_test clauses k)
misplaced_by clauses k ts o = false

abbrev pub is_unlisted : Operation → Bool
is_unlisted does.Unlisted = true
is_unlisted o = false

abbrev pub unverified_by : Operation → operand.Operand → Bool
unverified_by o x = is_unlisted o || (calls o && states_this x)

-- a variable's number that isn't below their count
abbrev pub lacks_by : ℕ → ℕ → Bool → Bool
lacks_by count number loads = loads && nat_le count number
