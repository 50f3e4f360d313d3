-- A coded index names the row that it was made of (ECMA-335 II.24.2.6).
use Rattle.std.proofs.Common.{◌≡◌, ℕ, ◌+◌, ◌*◌, ◌^◌, ◌<◌, List, [], ◌∷◌, Option, Some, refl, ap, sym, ◌∙◌, Bool, true, false, ⊎_elim, not, eqb, ltb, ◌&&◌}
use Rattle.std.specs.List.{list_all, find}
use Rattle.std.specs.Option.{option_map, option_map_or}
use Rattle.std.proofs.lemmas.Bool.{ltb-true, eqb-true, eq-eqb, and_parts, cases_Bool, not-true}
use Rattle.std.proofs.lemmas.Nat.{shr_high, mod_low}
use Rattle.metadata_tables.specs.CodedIndex.{tags, tag_bits, tag_of, table_of, unpacked}
use Rattle.metadata_tables.specs.declared.coded.Coded.{Coded}
use Rattle.metadata_tables.specs.declared.coded.Coded.TheVariants.{TypeDefOrRef, HasConstant, HasCustomAttribute, MemberRefParent, HasSemantics, MethodDefOrRef, CustomAttributeType, ResolutionScope, TypeOrMethodDef}
use Rattle.image_tokens.specs.Indexes.{index_of}

-- ---- each table has one tag, and each tag one table

abbrev tagged : List (ℕ × ℕ) → ℕ → Option ℕ
tagged ps t = option_map (λ p. p.1) (find (λ p. eqb p.0 t) ps)

abbrev tabled : List (ℕ × ℕ) → ℕ → Option ℕ
tabled ps v = option_map (λ p. p.0) (find (λ p. eqb p.1 v) ps)

tag_passes : (test : ℕ → Bool) (ps : List (ℕ × ℕ)) (t v : ℕ) → list_all (λ q. test q.1) ps ≡ true → tagged ps t ≡ Some v → test v ≡ true
tag_passes test [] t v all e = cc
tag_passes test (p ∷ ps) t v all e =
    let both : (test p.1 ≡ true) × (list_all (λ q. test q.1) ps ≡ true) = and_parts _ _ all in
    ⊎_elim
    (λ h. let here : Some p.1 ≡ Some v = rw h at e in let same : p.1 ≡ v = cc in rw same at both.0)
    (λ h. tag_passes test ps t v both.1 (rw h at e))
    (cases_Bool (eqb p.0 t))

abbrev tags_apart : List (ℕ × ℕ) → Bool
tags_apart [] = true
tags_apart (p ∷ ps) = list_all (λ q. not (eqb p.1 q.1)) ps && tags_apart ps

table_back : (ps : List (ℕ × ℕ)) (t v : ℕ) → tags_apart ps ≡ true → tagged ps t ≡ Some v → tabled ps v ≡ Some t
table_back [] t v d e = cc
table_back (p ∷ ps) t v d e =
    let both : (list_all (λ q. not (eqb p.1 q.1)) ps ≡ true) × (tags_apart ps ≡ true) = and_parts _ _ d in
    ⊎_elim
    (λ h. let here : Some p.1 ≡ Some v = rw h at e in
    let same : p.1 ≡ v = cc in
    let found : eqb p.1 v ≡ true = eq-eqb p.1 v same in
    let which : p.0 ≡ t = eqb-true p.0 t h in
    rw found (ap Some which))
    (λ h. let rest : tagged ps t ≡ Some v = rw h at e in
    let other : eqb p.1 v ≡ false = not-true _ (tag_passes (λ x. not (eqb p.1 x)) ps t v both.0 rest) in
    rw other (table_back ps t v both.1 rest))
    (cases_Bool (eqb p.0 t))

kinds_apart : (kind : Coded) → tags_apart (tags kind) ≡ true
kinds_apart TypeDefOrRef = refl
kinds_apart HasConstant = refl
kinds_apart HasCustomAttribute = refl
kinds_apart MemberRefParent = refl
kinds_apart HasSemantics = refl
kinds_apart MethodDefOrRef = refl
kinds_apart CustomAttributeType = refl
kinds_apart ResolutionScope = refl
kinds_apart TypeOrMethodDef = refl

tags_small : (kind : Coded) → list_all (λ p. ltb p.1 (2 ^ tag_bits kind)) (tags kind) ≡ true
tags_small TypeDefOrRef = refl
tags_small HasConstant = refl
tags_small HasCustomAttribute = refl
tags_small MemberRefParent = refl
tags_small HasSemantics = refl
tags_small MethodDefOrRef = refl
tags_small CustomAttributeType = refl
tags_small ResolutionScope = refl
tags_small TypeOrMethodDef = refl

-- ---- there and back

pub index_is : (kind : Coded) (table row tag : ℕ) → tag_of kind table ≡ Some tag → index_of kind table row ≡ row * 2 ^ tag_bits kind + tag
index_is kind table row tag e = ap (λ (o : Option ℕ). option_map_or (λ value. value) (option_map (λ t. row * 2 ^ tag_bits kind + t) o) 0) e

pub index_names : (kind : Coded) (table row tag : ℕ) → tag_of kind table ≡ Some tag → unpacked kind (index_of kind table row) ≡ Some (table, row)
unfolding tag_of table_of
index_names kind table row tag e =
    let fits : tag < 2 ^ tag_bits kind = ltb-true _ _ (tag_passes (λ x. ltb x (2 ^ tag_bits kind)) (tags kind) table tag (tags_small kind) e) in
    let high = shr_high row (tag_bits kind) tag fits in
    let low = mod_low row (tag_bits kind) tag fits in
    let back = table_back (tags kind) table tag (kinds_apart kind) e in
    let is = index_is kind table row tag e in
    rw (is, high, low, back) refl

-- so two are equal only where table and row are
pub index_apart : (kind : Coded) (table row tag other at label : ℕ) → tag_of kind table ≡ Some tag → tag_of kind other ≡ Some label
    → index_of kind table row ≡ index_of kind other at → (table ≡ other) × (row ≡ at)
index_apart kind table row tag other at label e f same =
    let names : ◌≡◌ {A = Option (ℕ × ℕ)} (Some (table, row)) (Some (other, at)) = sym (index_names kind table row tag e) ∙ ap (unpacked kind) same ∙ index_names kind other at label f in
    let both : ◌≡◌ {A = ℕ × ℕ} (table, row) (other, at) = cc in
    (ap (λ p. p.0) both, ap (λ p. p.1) both)
