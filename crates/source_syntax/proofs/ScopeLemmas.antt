-- The assembly that a key stands for, and the walk along a path.
use Rattle.std.proofs.Common.{◌≡◌, ℕ, suc, ◌+◌, ◌<◌, ◌^◌, inl, inr, List, [], ◌∷◌, Option, None, Some, map, length, cond, refl, ap, sym, ◌∙◌, arith}
use Rattle.std.specs.Prelude.{Bool, true, false, not, position, bytes_eq, nat_lt, ◌==◌}
use Rattle.std.specs.List.{position_or_len}
use Rattle.std.proofs.lemmas.Bool.{cases_Bool}
use Rattle.std.proofs.lemmas.List.Quantifiers.{position-Some}
use Rattle.std.proofs.lemmas.Slice.Eq.{bytes_eq-Decides}
use Rattle.type_terms.specs.declared.name.Scope.{Scope}
use Rattle.type_terms.specs.declared.name.Scope.TheVariants.{Here, Extern}
use Rattle.type_terms.specs.declared.name.TypeId.{TypeId}
use Rattle.ilasm_grammar.specs.declared.productions.TheConstants.{SLASH_NAME}
use Rattle.source_model.specs.Forest.{Forest, none, each, leaf_at}
use Rattle.source_model.specs.Names.{externs, extern_key, assemblies, is_own_name_of, or_here, scope_named, or_scope}
use Rattle.source_model.specs.Nodes.{type_id}
use Rattle.source_model.specs.Source.{Source}

pub either_way : (x y : List ℕ) → bytes_eq x y ≡ bytes_eq y x
either_way x y = elim (cases_Bool (bytes_eq y x)) [
  | inl same ↦ (bytes_eq-Decides x y).1 (sym ((bytes_eq-Decides y x).0 same)) ∙ sym same
  | inr apart ↦ elim (cases_Bool (bytes_eq x y)) [
    | inl same ↦ let also = (bytes_eq-Decides y x).1 (sym ((bytes_eq-Decides x y).0 same)) in absurd cc
    | inr also ↦ also ∙ sym apart
  ]
]

keyed : (s : Source) (key : List ℕ) (fs : List Forest)
    → position_or_len (bytes_eq key) (map (extern_key s) fs) ≡ position_or_len (λ f. bytes_eq (extern_key s f) key) fs
keyed s key [] = refl
keyed s key (f ∷ fs) =
    ap (λ b. cond (not b) (1 + position_or_len (bytes_eq key) (map (extern_key s) fs)) 0) (either_way key (extern_key s f))
    ∙ ap (λ m. cond (not (bytes_eq (extern_key s f) key)) (1 + m) 0) (keyed s key fs)

long : (s : Source) (fs : List Forest) → length (map (extern_key s) fs) ≡ length fs
long s [] = refl
long s (f ∷ fs) = ap suc (long s fs)

pub key_position : (s : Source) (key : List ℕ) → position (bytes_eq key) (map (extern_key s) (externs s)) ≡ position (λ f. bytes_eq (extern_key s f) key) (externs s)
key_position s key =
    ap (λ m. cond (nat_lt m (length (map (extern_key s) (externs s)))) (Some m) None) (keyed s key (externs s))
    ∙ ap (λ n. cond (nat_lt (position_or_len (λ f. bytes_eq (extern_key s f) key) (externs s)) n) (Some (position_or_len (λ f. bytes_eq (extern_key s f) key) (externs s))) None) (long s (externs s))

pub found_scope : (s : Source) (key : List ℕ) (k n : ℕ) → position (λ f. bytes_eq (extern_key s f) key) (externs s) ≡ Some k → (k < 2 ^ 32 → n ≡ k)
    → length (externs s) < 2 ^ 32 → Extern n ≡ or_scope (scope_named s key)
found_scope s key k n at same few =
    let less = (position-Some (λ f. bytes_eq (extern_key s f) key) (externs s) k none at).0 in
    ap Extern (same (omega (arith, less, few))) ∙ sym (ap (λ o. or_scope (or_here (is_own_name_of s (assemblies s) key) o)) at)

pub own_scope : (s : Source) (key : List ℕ) → position (λ f. bytes_eq (extern_key s f) key) (externs s) ≡ None → Here ≡ or_scope (scope_named s key)
own_scope s key at =
    sym (ap (λ o. or_scope (or_here (is_own_name_of s (assemblies s) key) o)) at ∙ here (is_own_name_of s (assemblies s) key))
  where
    here : (own : Bool) → or_scope (or_here own None) ≡ Here
    here true = refl
    here false = refl

-- the ids of the names of a path behind its first
abbrev pub later_ids : Source → Forest → List TypeId
later_ids s f = map (type_id s) (map (λ g. leaf_at 1 g) (each SLASH_NAME f))
