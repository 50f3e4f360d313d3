-- The types' names that references begin with.
use Rattle.std.proofs.Common.{◌≡◌, ℕ, List, [], ◌∷◌, ◌++◌, None, Some, map, ap, sym, subst, ◌∙◌}
use Rattle.std.specs.Prelude.{Bool, true, if◌then◌else◌}
use Rattle.il_lexer.specs.declared.types.TokenKind.TheVariants as kind
use Rattle.type_terms.specs.declared.name.TypeId.{TypeId}
use Rattle.ilasm_grammar.specs.declared.productions.TheConstants.{PATH}
use Rattle.source_model.specs.Forest.{Forest, child, has, leaf_at}
use Rattle.source_model.specs.Names.{Written, name_and_tail, or_module, path_tokens, type_named}
use Rattle.source_model.specs.Nodes.{type_id}
use Rattle.source_model.specs.Source.{Source}
use Rattle.source_nodes.specs.Derived.{FitsBody}
use Rattle.source_nodes.specs.Readers.{IsOf}
use Rattle.source_syntax.proofs.ScopeLemmas.{later_ids}
use Rattle.source_nodes.proofs.WrittenNames.{path_begins}

pub longer_path : (s : Source) (f : Forest) (outer inner : TypeId) (path pushed longer : List TypeId) (first token : ℕ) → FitsBody s PATH f → path ≡ outer ∷ []
    → pushed ≡ path ++ inner ∷ [] → longer ≡ pushed ++ later_ids s f → outer ≡ type_id s first → (IsOf s kind.Name token → inner ≡ type_id s token)
    → token ≡ leaf_at 0 f → longer ≡ map (type_id s) (first ∷ path_tokens f)
longer_path s f outer inner path pushed longer first token fits begun more all out within at =
    let named : IsOf s kind.Name token = subst (IsOf s kind.Name) (sym at) (path_begins s f fits) in
    all ∙ ap (λ p. p ++ later_ids s f) (more ∙ ap (λ p. p ++ inner ∷ []) begun) ∙ ap (λ o. o ∷ inner ∷ later_ids s f) out
    ∙ ap (λ i. type_id s first ∷ i ∷ later_ids s f) (within named ∙ ap (type_id s) at)

-- a name with more names behind it
abbrev pub longer_name : ℕ → ℕ → Forest → Written
longer_name slash token f = record { scope = None; path = token ∷ path_tokens (child (PATH ∷ []) (child (slash ∷ []) f)) }

pub before_slash : (s : Source) (slash double_colon : ℕ) (f : Forest) (token : ℕ) → token ≡ leaf_at 0 f → has slash f ≡ true
    → type_named s (longer_name slash token f) ≡ or_module s (name_and_tail slash double_colon f)
before_slash s slash double_colon f token at e =
    ap (λ k. type_named s (longer_name slash k f)) at
    ∙ sym (ap (λ (b : Bool). or_module s (if b then Some (longer_name slash (leaf_at 0 f) f) else if has double_colon f then Some (record { scope = None; path = leaf_at 0 f ∷ [] }) else None)) e)
