-- Pieces of the lines of a body, drawn one after the other.
use Rattle.std.specs.Prelude.{ℕ, ◌==◌, ◌||◌, Bool, if◌then◌else◌, List, length, fold}
use Rattle.std.specs.List.{list_any}
use Rattle.il_lexer.specs.declared.word.TheConstants as word
use Rattle.ilasm_grammar.specs.declared.productions.TheConstants as productions
use Rattle.type_terms.specs.declared.term.SigType.{SigType}
use Rattle.assembly_tree.specs.WellFormedBodies.{offset_of}
use Rattle.assembly_tree.specs.declared.assembly.ExternAssembly.{ExternAssembly}
use Rattle.assembly_tree.specs.declared.body.Clause.{Clause}
use Rattle.assembly_tree.specs.declared.body.ClauseKind as handles
use Rattle.assembly_tree.specs.declared.body.Ins.{Ins}
use Rattle.assembly_tree.specs.declared.body.Operand as operand
use Rattle.listing_model.specs.Bodies.{to_label, label_line, instructions, clause, ends_last, locals_between, locals_from}
use Rattle.listing_model.specs.References.{method_ref, field_ref}
use Rattle.listing_model.specs.Shown.{Shown, none, put, w, line, optional, when}
use Rattle.listing_model.specs.Types.{owner}
use Rattle.print_leaves.specs.Page.{Page, drawn}
use Rattle.print_terms.specs.Rows.{under, in_row}

-- `A to B`
abbrev pub range_drawn : List Ins → Page → ℕ → ℕ → Page
range_drawn code p start end = drawn p (to_label code start (w word.TO (to_label code end none)))

-- what a clause handles
abbrev pub kind_drawn : List ExternAssembly → List Ins → Page → handles.ClauseKind → Page
kind_drawn externs code p (handles.TheVariants.Catch o) = drawn p (w word.CATCH (put (owner externs o) none))
kind_drawn externs code p (handles.TheVariants.Filter k) = drawn p (w word.FILTER (to_label code k none))
kind_drawn externs code p handles.TheVariants.Finally = drawn p (w word.FINALLY none)
kind_drawn externs code p handles.TheVariants.Fault = drawn p (w word.FAULT none)

-- a clause ends at this place
abbrev pub ends_at : ℕ → Clause → Bool
ends_at end c = c.try_end == end || c.handler_end == end

-- a label alone, where a clause ends at it
abbrev pub end_drawn : Page → Bool → ℕ → Page
end_drawn p ends offset = if ends then under p (label_line offset) else p

-- instructions, the end's label and clauses
abbrev pub code_drawn : List ExternAssembly → Page → List Ins → List Clause → Page
code_drawn externs p code clauses =
    fold (λ q c. under q (clause externs code c))
    (end_drawn (in_row p (instructions externs code 0 code)) (list_any (ends_last code) clauses) (offset_of code (length code))) clauses

-- `init`, where locals are set to zero
abbrev pub init_opt : Bool → Shown → Shown
init_opt init after = optional productions.INIT_OPT_SOME productions.INIT_OPT_NONE (when init (w word.INIT none)) after

-- the line of locals
abbrev pub locals_line : List ExternAssembly → Bool → List SigType → Shown
locals_line externs init ts =
    line word.DOT_LOCALS
    (init_opt init
    (w word.OPEN_PAREN
    (optional productions.LOCALS_OPT_SOME productions.LOCALS_OPT_NONE (locals_between externs (locals_from externs 0 ts)) (w word.CLOSE_PAREN none))))

-- the token that `ldtoken` takes
abbrev pub token_drawn : List ExternAssembly → Page → operand.Operand → Page
token_drawn externs p (operand.TheVariants.Method m) = drawn p (w word.METHOD (put (method_ref externs m) none))
token_drawn externs p (operand.TheVariants.Field f) = drawn p (w word.FIELD (put (field_ref externs f) none))
token_drawn externs p (operand.TheVariants.Of o) = drawn p (put (owner externs o) none)
token_drawn externs p _ = p
