-- General words: two lists of parts of the same rows are one, where each row has one part.
use Rattle.std.proofs.Common.{◌≡◌, ℕ, ◌↔◌, Bool, true, List, [], ◌∷◌, Option, Some, None, refl, sym, ◌∙◌, ap, subst}
use Rattle.std.specs.List.{AllZip}
use Rattle.std.specs.Cmp.{both_ways}
use Rattle.heaps.specs.Content.{HasBlob}
use Rattle.metadata_tables.specs.declared.coded.Coded.{Coded}
use Rattle.image_model.specs.Rows.{Names}
use Rattle.image_model.specs.Reading.{IsGiven}

-- each row has one part
abbrev pub One : {R X : Type 0} → (R → X → Type 0) → Type 0
One {R = R} {X = X} Is = (row : R) (x y : X) → Is row x → Is row y → x ≡ y

pub zip_one : {X : Type 0} (Is : ℕ → X → Type 0) → One Is → (rows : List ℕ) (xs ys : List X) → AllZip Is rows xs → AllZip Is rows ys → xs ≡ ys
zip_one Is one [] [] [] h k = refl
zip_one Is one [] [] (y ∷ ys) h k = absurd k
zip_one Is one [] (x ∷ xs) ys h k = absurd h
zip_one Is one (r ∷ rs) [] ys h k = absurd h
zip_one Is one (r ∷ rs) (x ∷ xs) [] h k = absurd k
zip_one Is one (r ∷ rs) (x ∷ xs) (y ∷ ys) h k =
    let p = one r x y h.0 k.0 in
    let q = zip_one Is one rs xs ys h.1 k.1 in
    λ i. p i ∷ q i

pub given_one : {X : Type 0} (Is : ℕ → X → Type 0) → One Is → (rows : List ℕ) (x y : Option X) → IsGiven Is rows x → IsGiven Is rows y → x ≡ y
given_one Is one [] None None h k = refl
given_one Is one [] None (Some y) h k = absurd k
given_one Is one [] (Some x) y h k = absurd h
given_one Is one (r ∷ rs) None y h k = absurd h
given_one Is one (r ∷ rs) (Some x) None h k = absurd k
given_one Is one (r ∷ rs) (Some x) (Some y) h k = ap Some (one r x y h k)

abbrev value_or : {X : Type 0} → X → Option X → X
value_or d None = d
value_or d (Some x) = x

pub some_one : {X : Type 0} (o : Option X) (x y : X) → o ≡ Some x → o ≡ Some y → x ≡ y
some_one o x y h k = ap (value_or x) (sym h ∙ k)

pub names_one : (kind : Coded) (value t r u s : ℕ) → Names kind value t r → Names kind value u s → (t ≡ u) × (r ≡ s)
names_one kind value t r u s h k =
    let e = some_one _ (t, r) (u, s) h k in
    (ap (λ p. p.0) e, ap (λ p. p.1) e)

pub names_same : (kind : Coded) (value t r u s : ℕ) → Names kind value t r → Names kind value u s → ◌≡◌ {A = ℕ × ℕ} (t, r) (u, s)
names_same kind value t r u s h k = some_one _ (t, r) (u, s) h k

-- a value that is spelled in the blob at an index
abbrev pub InBlob : {X : Type 0} → List ℕ → (List ℕ → X → Type 0) → ℕ → X → Type 0
InBlob heap Spells index x = (bytes : List ℕ) × HasBlob heap index bytes × Spells bytes x

pub in_blob_one : {X : Type 0} (heap : List ℕ) (Spells : List ℕ → X → Type 0) → ((i : ℕ) (a b : List ℕ) → HasBlob heap i a → HasBlob heap i b → a ≡ b) → One Spells → One (InBlob heap Spells)
in_blob_one heap Spells blob one index x y h k =
    let p = blob index h.0 k.0 h.1 k.1 in
    one k.0 x y (subst (λ b. Spells b x) p h.2) k.2

pub same_bool : (x y : Bool) {E : Type 0} → (x ≡ true) ↔ E → (y ≡ true) ↔ E → x ≡ y
same_bool x y h k = both_ways x y (λ e. k.1 (h.0 e)) (λ e. h.1 (k.0 e))
