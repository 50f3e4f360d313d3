-- A name's entry is that at its place.
use Rattle.std.proofs.Common.{◌≡◌, ℕ, zero, suc, false, List, [], ◌∷◌, None, Some, cond, sym, ◌∙◌, ap, refl, inl, inr, arith}
use Rattle.std.specs.Prelude.{slice_get, nat_eq}
use Rattle.std.specs.Bool.{Decides}
use Rattle.std.proofs.lemmas.Bool.{cases_Bool}
use Rattle.std.proofs.lemmas.Bool.Decides.{Decides-eqb, Decides-and, Decides-like}
use Rattle.std.proofs.lemmas.Option.{same_Some}
use lib.Pointwise.{pointwise_decides, bytes_decides}
use Rattle.type_terms.specs.declared.name.Scope.{Scope}
use Rattle.type_terms.specs.declared.name.Scope.TheVariants.{Here, Extern}
use Rattle.type_terms.specs.declared.name.TypeId.{TypeId}
use Rattle.type_terms.specs.declared.name.TypeName.{TypeName}
use Rattle.type_hierarchy.specs.Names.{same_text, same_id, same_path, same_scope, same_name}
use Rattle.type_hierarchy.specs.Tables.{entry_in}
use Rattle.type_hierarchy.specs.declared.tables.Declared.{Declared}

-- ---- the tests of names

pub id_decides : (a b : TypeId) → Decides (same_id a b) (a ≡ b)
id_decides a b = Decides-like (same_id a b)
    (λ (h : (a.space ≡ b.space) × (a.name ≡ b.name)). λ i. record { space = h.0 i; name = h.1 i })
    (λ e. (ap (λ (x : TypeId). x.space) e, ap (λ (x : TypeId). x.name) e))
    (Decides-and (same_text a.space b.space) (same_text a.name b.name) (bytes_decides a.space b.space) (bytes_decides a.name b.name))

pub path_decides : (a b : List TypeId) → Decides (same_path a b) (a ≡ b)
path_decides a b = pointwise_decides id_decides a b

pub scope_decides : (a b : Scope) → Decides (same_scope a b) (a ≡ b)
scope_decides Here Here = (λ h. refl, λ e. refl)
scope_decides Here (Extern k) = (λ h. cc, λ e. cc)
scope_decides (Extern j) Here = (λ h. cc, λ e. cc)
scope_decides (Extern j) (Extern k) = Decides-like (nat_eq j k) (λ (h : j ≡ k). ap Extern h) (λ e. cc) (Decides-eqb j k)

pub name_decides : (a b : TypeName) → Decides (same_name a b) (a ≡ b)
name_decides a b = Decides-like (same_name a b)
    (λ (h : (a.scope ≡ b.scope) × (a.path ≡ b.path)). λ i. record { scope = h.0 i; path = h.1 i })
    (λ e. (ap (λ (x : TypeName). x.scope) e, ap (λ (x : TypeName). x.path) e))
    (Decides-and (same_scope a.scope b.scope) (same_path a.path b.path) (scope_decides a.scope b.scope) (path_decides a.path b.path))

-- ---- look-up

pub test_false : (a b : TypeName) → (a ≡ b → ⊥) → same_name a b ≡ false
test_false a b n = elim (cases_Bool (same_name a b)) [
  | inl e ↦ absurd (n ((name_decides a b).0 e))
  | inr e ↦ e
]

pub entry_at : (names : List TypeName) (entries : List Declared) (k : ℕ) (name : TypeName) → slice_get names k ≡ Some name
    → ((j : ℕ) → slice_get names j ≡ Some name → j ≡ k) → entry_in names entries name ≡ slice_get entries k
entry_at [] entries k name at only = absurd (let f : ⊥ = cc in f)
entry_at (n ∷ names) [] zero name at only = refl
entry_at (n ∷ names) [] (suc k) name at only = refl
entry_at (n ∷ names) (e ∷ entries) zero name at only =
    ap (λ t. cond t (Some e) (entry_in names entries name)) ((name_decides name n).1 (sym (same_Some n name at)))
entry_at (n ∷ names) (e ∷ entries) (suc k) name at only =
    let other : name ≡ n → ⊥ = λ h. absurd (let z : 0 ≡ suc k = only 0 (ap Some (sym h)) in omega arith) in
    ap (λ t. cond t (Some e) (entry_in names entries name)) (test_false name n other)
    ∙ entry_at names entries k name at (λ j h. let s : suc j ≡ suc k = only (suc j) h in omega arith)

pub entry_none : (names : List TypeName) (entries : List Declared) (name : TypeName) → ((k : ℕ) → slice_get names k ≡ Some name → ⊥) → entry_in names entries name ≡ None
entry_none [] entries name lacks = refl
entry_none (n ∷ names) [] name lacks = refl
entry_none (n ∷ names) (e ∷ entries) name lacks =
    ap (λ t. cond t (Some e) (entry_in names entries name)) (test_false name n (λ h. lacks 0 (ap Some (sym h))))
    ∙ entry_none names entries name (λ k h. lacks (suc k) h)
