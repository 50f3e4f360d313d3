-- The ranges of clauses as the code holds them (ECMA-335 II.19).
use Rattle.std.specs.Prelude.{ℕ, Bool, nat_lt, ◌==◌, ◌&&◌, Option, None, Some, true, if◌then◌else◌, List, []}
use Rattle.ilasm_grammar.specs.declared.productions.TheConstants.{CLAUSE_FILTER}
use Rattle.source_model.specs.BodyFaults.{clause_backwards}
use Rattle.source_model.specs.Clauses.{clause_forms, filter_start, Range}
use Rattle.source_model.specs.Forest.{Forest, is_among, part}
use Rattle.source_model.specs.Nodes.{Node}
use Rattle.source_model.specs.Source.{Source}
use Rattle.check_bodies.specs.declared.clause_ranges.CodeRange.{CodeRange}

abbrev pub range_of : CodeRange → Range
range_of r = record { start = r.start; end = r.end }

-- a filter that starts here, where there is one, starts before its handler
abbrev pub starts_before : Option ℕ → ℕ → Bool
starts_before None handler = true
starts_before (Some filter) handler = nat_lt filter handler

-- neither range is empty or backwards, and the filter starts before the handler
abbrev pub is_forward_in : CodeRange → CodeRange → Option ℕ → Bool
is_forward_in tried handler filter =
    nat_lt tried.start tried.end && nat_lt handler.start handler.end && starts_before filter handler.start

-- what a production breaks, if it is a clause
abbrev pub backwards_at : Source → Node → Forest → ℕ → Forest → List ℕ
backwards_at s n tried p b = if is_among clause_forms p then clause_backwards s n (record { tried = tried; clause = part p b }) else []

-- where the filter of a clause starts, which has one by its production
abbrev pub filter_of : Source → Forest → ℕ → Forest → Option ℕ
filter_of s f p b = if p == CLAUSE_FILTER then Some (filter_start s f b) else None
