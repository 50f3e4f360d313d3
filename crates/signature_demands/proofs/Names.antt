-- The rows of TypeDef and TypeRef are told of as plain names.
use Rattle.std.proofs.Common.{◌≡◌, ◌∙◌, sym, ap, subst, refl, ℕ, ◌/◌, ◌%◌, ◌^◌, ◌<◌, ◌≤◌, ◌⊎◌, inl, inr, Bool, true, false, cond, nat_eq, List, Option, Some, None, arith}
use Rattle.std.specs.Prelude.{◌==◌, ◌&&◌, ◌||◌, nat_lt, nat_le}
use Rattle.std.specs.Option.{option_map}
use Rattle.std.proofs.lemmas.Bool.{eq-eqb, false≢true}
use Rattle.std.proofs.lemmas.Bool.Decides.{nat_tests}
use Rattle.std.proofs.lemmas.Grind.{common_steps}
use Rattle.type_terms.specs.declared.name.TypeName.{TypeName}
use Rattle.type_terms.specs.declared.name.Scope.TheVariants.{Here}
use Rattle.type_terms.specs.declared.term.Owner.{Owner, Name}
use Rattle.type_terms.proofs.Layers.{fold-Name}
use Rattle.image_model.specs.Naming.{RowOwner, defined, referred, specified, IsToken, NamesOwner, by_row, TellsOwners, here}
use Rattle.image_model.specs.Rows.{count_of, HasRow}
use Rattle.signature_facts.specs.declared.facts.Facts.{Facts}
use Rattle.signature_facts.specs.declared.facts.OwnerFacts.{OwnerFacts}
use Rattle.signature_facts.specs.Facts.{owner_step, type_step, owner_facts}
use Rattle.spec_facts.specs.SpecMap.{AreNameFacts}
use Rattle.method_states.proofs.Marking.{token_parts, token_is}
use Rattle.image_namings.proofs.Standing.{Stands}
use Rattle.signature_demands.specs.Named.{names_type, nameless, plain_name, names_told}

-- ---- the test

apart : (a b c d : Bool) → ((a || b) && c && d) ≡ true → ((a ≡ true) ⊎ (b ≡ true)) × (c ≡ true) × (d ≡ true)
apart true b true true e = (inl refl, refl, refl)
apart true b true false e = absurd (false≢true e)
apart true b false d e = absurd (false≢true e)
apart false true true true e = (inr refl, refl, refl)
apart false true true false e = absurd (false≢true e)
apart false true false d e = absurd (false≢true e)
apart false false c d e = absurd (false≢true e)

together : (a b c d : Bool) → (a ≡ true) ⊎ (b ≡ true) → c ≡ true → d ≡ true → ((a || b) && c && d) ≡ true
together true b true true e f g = refl
together true b true false e f g = g
together true b false d e f g = f
together false true true true e f g = refl
together false true true false e f g = g
together false true false d e f g = f
together false false c d (inl e) f g = absurd (false≢true e)
together false false c d (inr e) f g = absurd (false≢true e)

equal : (n m : ℕ) → (n == m) ≡ true → n ≡ m
equal n m e = grind (arith, nat_tests)

less : (n m : ℕ) → nat_lt n m ≡ true → n < m
less n m e = grind (arith, common_steps)

at_most : (n m : ℕ) → nat_le n m ≡ true → n ≤ m
at_most n m e = grind (arith, common_steps)

is_less : (n m : ℕ) → n < m → nat_lt n m ≡ true
is_less n m e = grind (arith, common_steps)

is_at_most : (n m : ℕ) → n ≤ m → nat_le n m ≡ true
is_at_most n m e = grind (arith, common_steps)

module _ (image : List ℕ) where
  type_row : (token : ℕ) → names_type image token ≡ true → ((token / 2 ^ 24 ≡ 0x01) ⊎ (token / 2 ^ 24 ≡ 0x02)) × HasRow image (token / 2 ^ 24) (token % 2 ^ 24)
  type_row token e =
      let t = token / 2 ^ 24 in
      let r = token % 2 ^ 24 in
      let p = apart (t == 0x01) (t == 0x02) (nat_lt 0 r) (nat_le r (count_of image t)) e in
      (elim p.0 [ inl x ↦ inl (equal t 0x01 x) | inr x ↦ inr (equal t 0x02 x) ], (less 0 r p.1, at_most r (count_of image t) p.2))

  row_type : (token : ℕ) → (token / 2 ^ 24 ≡ 0x01) ⊎ (token / 2 ^ 24 ≡ 0x02) → HasRow image (token / 2 ^ 24) (token % 2 ^ 24) → names_type image token ≡ true
  row_type token k there =
      let t = token / 2 ^ 24 in
      let r = token % 2 ^ 24 in
      together (t == 0x01) (t == 0x02) (nat_lt 0 r) (nat_le r (count_of image t)) (elim k [ inl x ↦ inl (eq-eqb t 0x01 x) | inr x ↦ inr (eq-eqb t 0x02 x) ])
      (is_less 0 r there.0) (is_at_most r (count_of image t) there.1)

  -- a plain name has these facts
  name_is : (n : TypeName) → owner_facts nameless (Name n) ≡ plain_name
  name_is n = fold-Name OwnerFacts Facts (owner_step nameless) (type_step nameless) n

  module _ (stands : Stands image) (owners : ℕ → Option Owner) (tells : TellsOwners image owners) where
    abbrev Named : ℕ → Type 0
    Named token = (n : TypeName) × NamesOwner image owners token (Name n)

    by_type : (token : ℕ) → (token / 2 ^ 24 ≡ 0x01) ⊎ (token / 2 ^ 24 ≡ 0x02) → HasRow image (token / 2 ^ 24) (token % 2 ^ 24) → Named token
    by_type token (inl e) there =
        let row : HasRow image 0x01 (token % 2 ^ 24) = subst (λ (t : ℕ). HasRow image t (token % 2 ^ 24)) e there in
        let s = stands.reference (token % 2 ^ 24) row in
        (record { scope = s.0; path = s.1 }, by_row (token_is token (token / 2 ^ 24) (token % 2 ^ 24) refl refl) (referred e row s.2))
    by_type token (inr e) there =
        let row : HasRow image 0x02 (token % 2 ^ 24) = subst (λ (t : ℕ). HasRow image t (token % 2 ^ 24)) e there in
        let s = stands.path (token % 2 ^ 24) row in
        (record { scope = Here; path = s.0 }, by_row (token_is token (token / 2 ^ 24) (token % 2 ^ 24) refl refl) (defined e row s.1))

    row_known : {table row : ℕ} {o : Owner} → (token : ℕ) → table ≡ token / 2 ^ 24 → row ≡ token % 2 ^ 24 → (token / 2 ^ 24 ≡ 0x1B → ⊥) → RowOwner image owners table row o → names_type image token ≡ true
    row_known token t r other (defined {type = type} e there p) =
        row_type token (inr (sym t ∙ e)) (subst (λ (x : ℕ). HasRow image x (token % 2 ^ 24)) (sym (sym t ∙ e)) (subst (λ (y : ℕ). HasRow image 0x02 y) r there))
    row_known token t r other (referred {row = row} e there p) =
        row_type token (inl (sym t ∙ e)) (subst (λ (x : ℕ). HasRow image x (token % 2 ^ 24)) (sym (sym t ∙ e)) (subst (λ (y : ℕ). HasRow image 0x01 y) r there))
    row_known token t r other (specified e there b s) = absurd (other (sym t ∙ e))

    known : {token : ℕ} {o : Owner} → (token / 2 ^ 24 ≡ 0x1B → ⊥) → NamesOwner image owners token o → names_type image token ≡ true
    known {token = token} other (by_row {table = table} {row = row} is h) =
        let parts = token_parts token table row is in
        row_known token parts.0 parts.1 other h

    told : (token : ℕ) → (token / 2 ^ 24 ≡ 0x1B → ⊥) → (b : Bool) → names_type image token ≡ b → (o : Option Owner) → owners token ≡ o → cond b (Some plain_name) None ≡ option_map (owner_facts nameless) o
    told token other true e o f =
        let row = type_row token e in
        let n = by_type token row.0 row.1 in
        let is : o ≡ Some (Name n.0) = sym f ∙ (tells token (Name n.0)).1 n.1 in
        sym (ap (option_map (owner_facts nameless)) is ∙ ap (λ (x : OwnerFacts). Some x) (name_is n.0))
    told token other false e None f = refl
    told token other false e (Some o) f = absurd (false≢true (sym e ∙ known other ((tells token o).0 f)))

    pub names_are : AreNameFacts nameless owners (names_told image)
    names_are token other = told token other (names_type image token) refl (owners token) refl
