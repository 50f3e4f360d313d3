-- Types with the tokens that they were given, and the type that has a token among them.
use base.Stored.{Coded}
use Rattle.std.proofs.Common.{◌≡◌, ap, refl, sym, ◌∙◌, subst, ℕ, ◌<◌, ◌&&◌, Bool, true, false, cond, eqb, ltb, List, [], ◌∷◌, ◌++◌, map, Option, Some, None, inl, inr, arith}
use Rattle.std.specs.Prelude.{◌⊎◌}
use Rattle.std.specs.Cmp.{first_so, second_so}
use Rattle.std.specs.List.{AllByRecursion}
use Rattle.std.proofs.lemmas.Bool.{cases_Bool, eqb-true, eq-eqb, ltb-true}
use Rattle.type_terms.specs.declared.name.TypeName.{TypeName}
use Rattle.type_terms.specs.declared.term.Owner.{Owner, out-Owner, roll-Owner, roll-out-Owner}
use Rattle.type_terms.specs.declared.term.Owner.TheVariants as owner
use Rattle.type_terms.specs.declared.term.Owner.TheOpen as layer
use Rattle.type_terms.specs.declared.term.SigType.{SigType}
use Rattle.type_terms.specs.Depth.{owner_depth}
use Rattle.image_tokens.specs.Found.{same_term, token_in}
use Rattle.image_tokens.specs.KnownTokens.{names_apart, types_apart, layer_token}
use Rattle.image_tokens.specs.NameTokens.{HasNameToken}
use Rattle.image_tokens.specs.References.{AreKnown, IsSpecToken, tokens_of}
use Rattle.image_tokens.specs.declared.references.References.{References}
use Rattle.image_tokens.proofs.FoundLemmas.{exact}
use Rattle.laws_image_parts.proofs.CellLemmas.{all_both}

-- a token is that of a name or of a type
pub data IsOwnerToken (r : References) : Owner → ℕ → Type 0 where
  of_name : {o : Owner} {token : ℕ} {name : TypeName} → o ≡ owner.Name name → HasNameToken r.heaps.strings r.declared.types r.referred.names name token → IsOwnerToken r o token
  of_spec : {o : Owner} {token : ℕ} {t : SigType} → o ≡ owner.Spec t → IsSpecToken r t token → IsOwnerToken r o token

abbrev pub name_entry : TypeName × ℕ → Owner × ℕ
name_entry e = (owner.Name e.0, e.1)

abbrev pub spec_entry : SigType × ℕ → Owner × ℕ
spec_entry e = (owner.Spec e.0, e.1)

-- all that were given tokens
unfoldable pub entries : References → List (Owner × ℕ)
entries r = map name_entry r.known.names ++ map spec_entry r.known.specs

abbrev pub Has : List (Owner × ℕ) → Owner → ℕ → Type 0
Has [] o token = ⊥
Has (e ∷ es) o token = ((e.0 ≡ o) × (e.1 ≡ token)) ⊎ Has es o token

all_mapped : {X Y : Type 0} (P : Y → Type 0) (f : X → Y) (xs : List X) → AllByRecursion (λ x. P (f x)) xs → AllByRecursion P (map f xs)
all_mapped P f [] h = tt
all_mapped P f (x ∷ xs) h = (h.0, all_mapped P f xs h.1)

all_later : {X : Type 0} (P Q : X → Type 0) → ((x : X) → P x → Q x) → (xs : List X) → AllByRecursion P xs → AllByRecursion Q xs
all_later P Q f [] h = tt
all_later P Q f (x ∷ xs) h = (f x h.0, all_later P Q f xs h.1)

abbrev pub IsEntry : References → Owner × ℕ → Type 0
IsEntry r e = IsOwnerToken r e.0 e.1

pub entries_known : (r : References) → AreKnown r → AllByRecursion (IsEntry r) (entries r)
unfolding entries
entries_known r known =
    all_both (IsEntry r) (map name_entry r.known.names) (map spec_entry r.known.specs)
    (all_mapped (IsEntry r) name_entry r.known.names (all_later _ _ (λ e h. of_name refl h) r.known.names known.names.each))
    (all_mapped (IsEntry r) spec_entry r.known.specs (all_later _ _ (λ e h. of_spec refl h) r.known.specs known.specs))

-- ---- what has a token is among them

has_front : (es fs : List (Owner × ℕ)) (o : Owner) (token : ℕ) → Has es o token → Has (es ++ fs) o token
has_front [] fs o token h = absurd h
has_front (e ∷ es) fs o token (inl h) = inl h
has_front (e ∷ es) fs o token (inr h) = inr (has_front es fs o token h)

has_back : (es fs : List (Owner × ℕ)) (o : Owner) (token : ℕ) → Has fs o token → Has (es ++ fs) o token
has_back [] fs o token h = h
has_back (e ∷ es) fs o token h = inr (has_back es fs o token h)

has_found : {T : Type 0} (coded : Coded T) (make : T → Owner) (es : List (T × ℕ)) (x : T) (token : ℕ) → token_in coded es x ≡ Some token
    → Has (map (λ e. (make e.0, e.1)) es) (make x) token
has_found coded make [] x token at = cc
has_found coded make (e ∷ es) x token at = elim (cases_Bool (same_term coded e.0 x)) [
  | inl is_so ↦
      let term : e.0 ≡ x = exact coded e.0 x is_so in
      let some : Some e.1 ≡ Some token = sym (ap (λ b. cond b (Some e.1) (token_in coded es x)) is_so) ∙ at in
      let same : e.1 ≡ token = cc in
      inl (ap make term, same)
  | inr not_so ↦ inr (has_found coded make es x token (sym (ap (λ b. cond b (Some e.1) (token_in coded es x)) not_so) ∙ at))
]

has_layer : (r : References) (o : Owner) (l : layer.Owner-F Owner SigType) (token : ℕ) → o ≡ roll-Owner l → layer_token r.known.names r.known.specs l ≡ Some token
    → Has (map name_entry r.known.names ++ map spec_entry r.known.specs) o token
has_layer r o (layer.Name name) token e at =
    subst (λ p. Has (map name_entry r.known.names ++ map spec_entry r.known.specs) p token) (sym (e ∙ owner.rolls-Name name))
    (has_front (map name_entry r.known.names) (map spec_entry r.known.specs) (owner.Name name) token (has_found names_apart owner.Name r.known.names name token at))
has_layer r o (layer.Spec t) token e at =
    subst (λ p. Has (map name_entry r.known.names ++ map spec_entry r.known.specs) p token) (sym (e ∙ owner.rolls-Spec t))
    (has_back (map name_entry r.known.names) (map spec_entry r.known.specs) (owner.Spec t) token (has_found types_apart owner.Spec r.known.specs t token at))

pub has_entry : (r : References) (o : Owner) (token : ℕ) → tokens_of r o ≡ Some token → Has (entries r) o token
unfolding entries
has_entry r o token at = has_layer r o (out-Owner o) token (sym (roll-out-Owner o)) at

all_has : (P : Owner × ℕ → Type 0) (es : List (Owner × ℕ)) (o : Owner) (token : ℕ) → AllByRecursion P es → Has es o token → P (o, token)
all_has P [] o token all h = absurd h
all_has P (e ∷ es) o token all (inl h) = let first = h.0 in let second = h.1 in subst P (λ i. (first i, second i)) all.0
all_has P (e ∷ es) o token all (inr h) = all_has P es o token all.1 h

pub known_token : (r : References) → AreKnown r → (o : Owner) (token : ℕ) → tokens_of r o ≡ Some token → IsOwnerToken r o token
known_token r known o token at = all_has (IsEntry r) (entries r) o token (entries_known r known) (has_entry r o token at)

-- ---- the first below a depth that has a token

abbrev is_it : ℕ → ℕ → Owner × ℕ → Bool
is_it n token e = eqb e.1 token && ltb (owner_depth e.0) n

unfoldable pub found : ℕ → List (Owner × ℕ) → ℕ → Option Owner
found n [] token = None
found n (e ∷ es) token = cond (is_it n token e) (Some e.0) (found n es token)

test_so : (n : ℕ) (o : Owner) (token : ℕ) (e : Owner × ℕ) → e.0 ≡ o → e.1 ≡ token → owner_depth o < n → is_it n token e ≡ true
test_so n o token e first second low =
    let here : eqb e.1 token ≡ true = eq-eqb e.1 token second in
    let below : ltb (owner_depth e.0) n ≡ true = grind (arith, low, ap owner_depth first) in
    (λ i. here i && below i)

pub found_is : (r : References) (n : ℕ) (es : List (Owner × ℕ)) (o : Owner) (token : ℕ) → AllByRecursion (IsEntry r) es → Has es o token → owner_depth o < n
    → ((p : Owner) → owner_depth p < n → IsOwnerToken r p token → p ≡ o) → found n es token ≡ Some o
unfolding found
found_is r n [] o token all has low one = absurd has
found_is r n (e ∷ es) o token all has low one = elim (cases_Bool (is_it n token e)) [
  | inl passes ↦
      let same : e.1 ≡ token = eqb-true e.1 token (first_so (eqb e.1 token) (ltb (owner_depth e.0) n) passes) in
      let below : owner_depth e.0 < n = ltb-true (owner_depth e.0) n (second_so (eqb e.1 token) (ltb (owner_depth e.0) n) passes) in
      ap (λ b. cond b (Some e.0) (found n es token)) passes ∙ ap Some (one e.0 below (subst (IsOwnerToken r e.0) same all.0))
  | inr fails ↦
      let later : Has es o token = by_has (is_it n token e) fails has (λ h. test_so n o token e h.0 h.1 low) in
      ap (λ b. cond b (Some e.0) (found n es token)) fails ∙ found_is r n es o token all.1 later low one
]
  where
    by_has : (b : Bool) → b ≡ false → {A B : Type 0} → A ⊎ B → (A → b ≡ true) → B
    by_has b fails (inl h) f = absurd (let passes = f h in cc)
    by_has b fails (inr h) f = h
