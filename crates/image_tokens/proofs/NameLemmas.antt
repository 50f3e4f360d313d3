-- Names with tokens: one found, one more, and all of them as texts and rows are added.
use base.Stored.{Coded}
use Rattle.std.proofs.Common.{◌≡◌, ap, refl, sym, ◌∙◌, subst, ℕ, cond, List, [], ◌∷◌, ◌++◌, Some, None, inl, inr}
use Rattle.std.specs.List.{AllByRecursion}
use Rattle.std.proofs.lemmas.Bool.{cases_Bool}
use Rattle.std.proofs.lemmas.List.{append-nil}
use Rattle.heaps.specs.Heap.{Heap}
use Rattle.type_terms.specs.declared.name.Scope.{Scope}
use Rattle.type_terms.specs.declared.name.Scope.TheVariants.{Here}
use Rattle.type_terms.specs.declared.name.TypeId.{TypeId}
use Rattle.type_terms.specs.declared.name.TypeName.{TypeName}
use Rattle.image_tokens.specs.Found.{same_term, token_in}
use Rattle.image_tokens.specs.NameTokens.{HasNameToken, of_declared, of_referred, NameableIn, AreNames, in_extern}
use Rattle.image_tokens.specs.Texts.{KeepsTexts}
use Rattle.image_tokens.specs.TypePaths.{Follows, GoesOn, in_declared, in_reference}
use Rattle.image_tokens.specs.declared.row_set.Cells.{Cells}
use Rattle.image_tokens.proofs.FoundLemmas.{exact, itself}
use Rattle.image_tokens.proofs.PathLemmas.{follows_kept}

module _ {T : Type 0} (coded : Coded T) where
  -- what holds of each entry holds of one that is found
  pub holds_of_found : (P : T × ℕ → Type 0) (es : List (T × ℕ)) (x : T) (t : ℕ) → AllByRecursion P es → token_in coded es x ≡ Some t → P (x, t)
  holds_of_found P [] x t all at = absurd cc
  holds_of_found P (e ∷ es) x t all at = elim (cases_Bool (same_term coded e.0 x)) [
    | inl is_so ↦
        let term : e.0 ≡ x = exact coded e.0 x is_so in
        let some : Some e.1 ≡ Some t = sym (ap (λ b. cond b (Some e.1) (token_in coded es x)) is_so) ∙ at in
        let token : e.1 ≡ t = cc in
        subst P (λ i. (term i, token i)) all.0
    | inr not_so ↦ holds_of_found P es x t all.1 (sym (ap (λ b. cond b (Some e.1) (token_in coded es x)) not_so) ∙ at)
  ]

  -- an entry that has been added is found
  pub found_last : (es : List (T × ℕ)) (x : T) (t : ℕ) → token_in coded es x ≡ None → token_in coded (es ++ (x, t) ∷ []) x ≡ Some t
  found_last [] x t none = ap (λ b. cond b (Some t) None) (itself coded x x refl)
  found_last (e ∷ es) x t none = elim (cases_Bool (same_term coded e.0 x)) [
    | inl is_so ↦
        let some : Some e.1 ≡ None = sym (ap (λ b. cond b (Some e.1) (token_in coded es x)) is_so) ∙ none in
        absurd cc
    | inr not_so ↦
        ap (λ b. cond b (Some e.1) (token_in coded (es ++ (x, t) ∷ []) x)) not_so
        ∙ found_last es x t (sym (ap (λ b. cond b (Some e.1) (token_in coded es x)) not_so) ∙ none)
  ]

pub all_more : {X : Type 0} (P : X → Type 0) (xs : List X) (x : X) → AllByRecursion P xs → P x → AllByRecursion P (xs ++ x ∷ [])
all_more P [] x all p = (p, tt)
all_more P (y ∷ xs) x all p = (all.0, all_more P xs x all.1 p)

pub all_weaker : {X : Type 0} (P Q : X → Type 0) (xs : List X) → ((x : X) → P x → Q x) → AllByRecursion P xs → AllByRecursion Q xs
all_weaker P Q [] f all = tt
all_weaker P Q (x ∷ xs) f all = (f x all.0, all_weaker P Q xs f all.1)

name_kept : (old new : Heap) (declared rows more : List Cells) (name : TypeName) (token : ℕ) → KeepsTexts old new → GoesOn rows more
    → HasNameToken old declared rows name token → HasNameToken new declared more name token
name_kept old new declared rows more name token k g (of_declared {row = row} here f is) =
    of_declared here (follows_kept old new declared declared in_declared 0 row name.path k (record { more = []; is = sym (append-nil declared) }) f) is
name_kept old new declared rows more name token k g (of_referred {number = number} {row = row} there f is) =
    of_referred there (follows_kept old new rows more in_reference (in_extern number) row name.path k g f) is

pub names_kept : (old new : Heap) (declared rows more : List Cells) (known : List (TypeName × ℕ)) → KeepsTexts old new → GoesOn rows more
    → AreNames old declared rows known → AreNames new declared more known
names_kept old new declared rows more known k g all = record {
  each = all_weaker (λ e. HasNameToken old declared rows e.0 e.1) (λ e. HasNameToken new declared more e.0 e.1) known (λ e h. name_kept old new declared rows more e.0 e.1 k g h) all.each;
}

pub names_more : (strings : Heap) (declared referred : List Cells) (known : List (TypeName × ℕ)) (name : TypeName) (token : ℕ)
    → AreNames strings declared referred known → HasNameToken strings declared referred name token → AreNames strings declared referred (known ++ (name, token) ∷ [])
names_more strings declared referred known name token all h = record { each = all_more (λ e. HasNameToken strings declared referred e.0 e.1) known (name, token) all.each h }

pub name_found : (coded : Coded TypeName) (strings : Heap) (declared referred : List Cells) (known : List (TypeName × ℕ)) (name : TypeName) (token : ℕ)
    → AreNames strings declared referred known → token_in coded known name ≡ Some token → HasNameToken strings declared referred name token
name_found coded strings declared referred known name token all at = holds_of_found coded (λ e. HasNameToken strings declared referred e.0 e.1) known name token all.each at

pub declared_end : (strings : Heap) (declared : List Cells) (path : List TypeId) (scope : Scope) → scope ≡ Here → NameableIn strings declared path scope
    → (end : ℕ) × Follows strings declared in_declared 0 path end
declared_end strings declared path scope is h = subst (NameableIn strings declared path) is h
