-- The lists of a body's edges as they are found from its instructions and the blocks of its clauses.
use Rattle.std.specs.Prelude.{◌≡◌, ℕ, ◌+◌, Bool, true, false, not, ◌&&◌, nat_lt, if◌then◌else◌, List, [], ◌∷◌, ◌++◌, drop, map, length, slice_get, Option, None, Some, ◌↔◌}
use Rattle.std.specs.List.{Contains, AllPairs, flat_map}
use Rattle.assembly_tree.specs.declared.body.Ins.{Ins}
use Rattle.code_flow.specs.declared.blocks.Handling.{Handling}
use Rattle.code_flow.specs.declared.blocks.Handling.TheVariants.{Catch, Filter, Finally, Fault}
use Rattle.code_flow.specs.declared.blocks.Span.{Span}
use Rattle.code_flow.specs.declared.blocks.Spans.{Spans}
use Rattle.code_flow.specs.declared.goings.Carried.{Carried}
use Rattle.code_flow.specs.declared.goings.Carried.TheVariants as carries
use Rattle.code_flow.specs.declared.goings.Going.{Going}
use Rattle.code_flow.specs.declared.leaving.Leave.{Leave}
use Rattle.code_flow.specs.declared.operation.Operation.{Operation}
use Rattle.code_flow.specs.declared.operation.Operation.TheVariants as does
use Rattle.code_flow.specs.Operations.{operation}
use Rattle.code_flow.specs.Edges.{falls, branches, targets}
use Rattle.code_flow.specs.BlockTests.{is_held}
use Rattle.code_flow.specs.PlaceTests.{is_innermost_range}

abbrev pub going : Carried → ℕ → Going
going c t = record { to = t; carries = c }

-- ---- what flows

abbrev pub fallen : ℕ → ℕ → Bool → List ℕ
fallen count k b = if b && nat_lt (k + 1) count then (k + 1) ∷ [] else []

abbrev pub branched : Bool → List ℕ → List ℕ
branched b ts = if b then ts else []

-- where what an instruction leaves on the stack goes
abbrev pub flow_targets : ℕ → ℕ → Ins → List ℕ
flow_targets count k i = branched (branches (operation i.op)) (targets i.operand) ++ fallen count k (falls (operation i.op))

-- each once
pub record AreFlows (count k : ℕ) (i : Ins) (ts : List ℕ) : Type 0 where
  pub same : (t : ℕ) → Contains ts t ↔ Contains (flow_targets count k i) t
  pub once : AllPairs (λ (s t : ℕ). s ≡ t → ⊥) ts

-- edges added to others: those along which what the instruction leaves goes
pub record AddsFlows (count k : ℕ) (i : Ins) (old new : List Going) : Type 0 where
  pub flows : List ℕ
  pub are : AreFlows count k i flows
  pub is : new ≡ old ++ map (going carries.Flowing) flows

-- ---- leaving through finally clauses

abbrev pub is_finally : Handling → Bool
is_finally Catch = false
is_finally Filter = false
is_finally Finally = true
is_finally Fault = false

-- a finally clause whose try a `leave` leaves
abbrev pub is_crossed : ℕ → ℕ → Spans → Bool
is_crossed l t s = is_finally s.handling && is_held s.guarded l && not (is_held s.guarded t)

-- to the handler of the first clause that the `leave` crosses, and else to its target
abbrev pub goes_through : ℕ → ℕ → List Spans → ℕ
goes_through l t [] = t
goes_through l t (s ∷ ss) = if is_crossed l t s then s.handler.start else goes_through l t ss

abbrev pub is_leave : Operation → Bool
is_leave does.Leave = true
is_leave o = false

abbrev pub leave_to : ℕ → ℕ → Leave
leave_to k t = record { at = k; to = t }

abbrev pub leaves_at : ℕ → Ins → List Leave
leaves_at k i = if is_leave (operation i.op) then map (leave_to k) (targets i.operand) else []

-- each `leave` with its target, from instruction `k` on
abbrev pub leaves_from : ℕ → List Ins → List Leave
leaves_from k [] = []
leaves_from k (i ∷ is) = leaves_at k i ++ leaves_from (k + 1) is

-- ---- the end of a finally

-- where a `leave` goes on from a clause, through those outside
abbrev pub on_from : Spans → List Spans → Leave → List Going
on_from s outer l = if is_crossed l.at l.to s then going carries.Nothing (goes_through l.at l.to outer) ∷ [] else []

abbrev pub is_ended : List Spans → ℕ → Spans → Bool
is_ended all k s = is_finally s.handling && is_innermost_range all k s.handler

-- where the leaves that cross a clause go on from it, if the instruction ends its handler
abbrev pub ended_of : List Spans → List Leave → ℕ → Spans → List Spans → List Going
ended_of all leaves k s outer = if is_ended all k s then flat_map (on_from s outer) leaves else []

abbrev pub ends_from : List Spans → List Leave → ℕ → List Spans → List Going
ends_from all leaves k [] = []
ends_from all leaves k (s ∷ ss) = ended_of all leaves k s ss ++ ends_from all leaves k ss

-- the targets to which the leaves that cross a clause, which stands at a place, go on from it
abbrev pub on_behind : List Spans → ℕ → Spans → Leave → List ℕ
on_behind all place s l = if is_crossed l.at l.to s then goes_through l.at l.to (drop (place + 1) all) ∷ [] else []

-- those to which each of the leaves goes on, in any number
abbrev pub AreExits : List Spans → List Leave → ℕ → Spans → List ℕ → Type 0
AreExits all leaves place s ts = (t : ℕ) → Contains ts t ↔ Contains (flat_map (on_behind all place s) leaves) t

-- edges added to others, which are those of a list
pub record AddsSame (old new gs : List Going) : Type 0 where
  pub more : List Going
  pub is : new ≡ old ++ more
  pub same : (g : Going) → Contains more g ↔ Contains gs g

-- ---- handlers

abbrev pub filter_going : Option Span → List Going
filter_going None = []
filter_going (Some s) = going carries.Object s.start ∷ []

abbrev pub handled_by : ℕ → ℕ → Option Span → Handling → List Going
handled_by place start f Catch = going (carries.Caught place) start ∷ []
handled_by place start f Filter = going carries.Object start ∷ filter_going f
handled_by place start f Finally = going carries.Nothing start ∷ []
handled_by place start f Fault = going carries.Nothing start ∷ []

-- from each instruction of a clause's try
abbrev pub handled : ℕ → Spans → List Going
handled place s = handled_by place s.handler.start s.filter s.handling

abbrev pub guarded_by : ℕ → ℕ → Spans → List Going
guarded_by k place s = if is_held s.guarded k then handled place s else []

abbrev pub guards_from : ℕ → ℕ → List Spans → List Going
guards_from k place [] = []
guards_from k place (s ∷ ss) = guarded_by k place s ++ guards_from k (place + 1) ss

-- ---- an instruction

-- those that the instruction itself states
abbrev pub own_goings : List Spans → List Leave → ℕ → List ℕ → Operation → List Going
own_goings all leaves k ts does.Leave = map (λ t. going carries.Nothing (goes_through k t all)) ts
own_goings all leaves k ts does.EndFinally = ends_from all leaves k all
own_goings all leaves k ts o = []

-- the same edges
abbrev pub HaveSame : List Going → List Going → Type 0
HaveSame gs hs = (g : Going) → Contains gs g ↔ Contains hs g

pub record HasGoings (count : ℕ) (all : List Spans) (leaves : List Leave) (k : ℕ) (i : Ins) (goings : List Going) : Type 0 where
  pub flows : List ℕ
  pub are : AreFlows count k i flows
  pub own : List Going
  pub same : HaveSame own (own_goings all leaves k (targets i.operand) (operation i.op))
  pub is : goings ≡ map (going carries.Flowing) flows ++ (own ++ guards_from k 0 all)

-- of each instruction of the code
pub record HaveGoings (code : List Ins) (all : List Spans) (goings : List (List Going)) : Type 0 where
  pub count : length goings ≡ length code
  pub each : (k : ℕ) (i : Ins) (g : List Going) → slice_get code k ≡ Some i → slice_get goings k ≡ Some g →
      HasGoings (length code) all (leaves_from 0 code) k i g
