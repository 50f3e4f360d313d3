-- Each table of a coded index has one tag, and each tag one table.
use Rattle.std.proofs.Common.{◌≡◌, ℕ, ◌+◌, ◌*◌, ◌/◌, ◌%◌, ◌^◌, ◌<◌, ◌≤◌, List, [], ◌∷◌, Option, Some, refl, ap, arith, Bool, true, false, ⊎_elim, not, eqb, ltb, ◌&&◌}
use Rattle.std.specs.List.{list_all, find}
use Rattle.std.specs.Option.{option_map}
use Rattle.std.proofs.lemmas.Bool.{ltb-true, eqb-true, eq-eqb, and_parts, cases_Bool, not-true}
use Rattle.std.proofs.lemmas.Nat.{shr_high, mod_low, div-add-mod', shl_whole, one_shl}
use Rattle.metadata_tables.specs.CodedIndex.{tags, tag_bits, tag_of, table_of, packed, unpacked}
use Rattle.metadata_tables.specs.declared.coded.Coded.{Coded}
use Rattle.metadata_tables.specs.declared.coded.Coded.TheVariants.{TypeDefOrRef, HasConstant, HasCustomAttribute, MemberRefParent, HasSemantics, MethodDefOrRef, CustomAttributeType, ResolutionScope, TypeOrMethodDef}

module _ (a b : ℕ × ℕ → ℕ) where
  -- the b of the first pair whose a is t
  abbrev look : List (ℕ × ℕ) → ℕ → Option ℕ
  look ps t = option_map b (find (λ p. eqb (a p) t) ps)

  -- what is true of each b is true of one that is found
  look_all : (test : ℕ → Bool) (ps : List (ℕ × ℕ)) (t v : ℕ) → list_all (λ q. test (b q)) ps ≡ true → look ps t ≡ Some v → test v ≡ true
  look_all test [] t v all e = cc
  look_all test (p ∷ ps) t v all e =
      let both : (test (b p) ≡ true) × (list_all (λ q. test (b q)) ps ≡ true) = and_parts _ _ all in
      ⊎_elim
      (λ h. let here : Some (b p) ≡ Some v = rw h at e in let same : b p ≡ v = cc in rw same at both.0)
      (λ h. look_all test ps t v both.1 (rw h at e))
      (cases_Bool (eqb (a p) t))

-- no two pairs have one b
abbrev differ : (ℕ × ℕ → ℕ) → List (ℕ × ℕ) → Bool
differ b [] = true
differ b (p ∷ ps) = list_all (λ q. not (eqb (b p) (b q))) ps && differ b ps

-- so a look-up the other way leads back
look_back : (a b : ℕ × ℕ → ℕ) (ps : List (ℕ × ℕ)) (t v : ℕ) → differ b ps ≡ true → look a b ps t ≡ Some v → look b a ps v ≡ Some t
look_back a b [] t v d e = cc
look_back a b (p ∷ ps) t v d e =
    let both : (list_all (λ q. not (eqb (b p) (b q))) ps ≡ true) × (differ b ps ≡ true) = and_parts _ _ d in
    ⊎_elim
    (λ h. let here : Some (b p) ≡ Some v = rw h at e in
    let same : b p ≡ v = cc in
    let found : eqb (b p) v ≡ true = eq-eqb (b p) v same in
    let which : a p ≡ t = eqb-true (a p) t h in
    rw found (ap Some which))
    (λ h. let rest : look a b ps t ≡ Some v = rw h at e in
    let other : eqb (b p) v ≡ false = not-true _ (look_all a b (λ x. not (eqb (b p) x)) ps t v both.0 rest) in
    rw other (look_back a b ps t v both.1 rest))
    (cases_Bool (eqb (a p) t))

tags_differ : (kind : Coded) → differ (λ p. p.1) (tags kind) ≡ true
tags_differ TypeDefOrRef = refl
tags_differ HasConstant = refl
tags_differ HasCustomAttribute = refl
tags_differ MemberRefParent = refl
tags_differ HasSemantics = refl
tags_differ MethodDefOrRef = refl
tags_differ CustomAttributeType = refl
tags_differ ResolutionScope = refl
tags_differ TypeOrMethodDef = refl

tables_differ : (kind : Coded) → differ (λ p. p.0) (tags kind) ≡ true
tables_differ TypeDefOrRef = refl
tables_differ HasConstant = refl
tables_differ HasCustomAttribute = refl
tables_differ MemberRefParent = refl
tables_differ HasSemantics = refl
tables_differ MethodDefOrRef = refl
tables_differ CustomAttributeType = refl
tables_differ ResolutionScope = refl
tables_differ TypeOrMethodDef = refl

tags_fit : (kind : Coded) → list_all (λ p. ltb p.1 (2 ^ tag_bits kind)) (tags kind) ≡ true
tags_fit TypeDefOrRef = refl
tags_fit HasConstant = refl
tags_fit HasCustomAttribute = refl
tags_fit MemberRefParent = refl
tags_fit HasSemantics = refl
tags_fit MethodDefOrRef = refl
tags_fit CustomAttributeType = refl
tags_fit ResolutionScope = refl
tags_fit TypeOrMethodDef = refl

-- a tag fits its bits
pub tag_fits : (kind : Coded) (table tag : ℕ) → tag_of kind table ≡ Some tag → tag < 2 ^ tag_bits kind
unfolding tag_of
tag_fits kind table tag e =
    ltb-true _ _ (look_all (λ p. p.0) (λ p. p.1) (λ x. ltb x (2 ^ tag_bits kind)) (tags kind) table tag (tags_fit kind) e)

-- what is packed is unpacked
pub unpacked-packed : (kind : Coded) (table row tag bits low : ℕ) → tag_of kind table ≡ Some tag → bits ≡ tag_bits kind → bits ≤ 5 → row < 2 ^ 24 → low ≡ tag → unpacked kind (row * 2 ^ bits % 4294967296 + low) ≡ Some (table, row)
unfolding tag_of table_of
unpacked-packed kind table row tag bits low e b few r l =
    let whole : row * 2 ^ bits % 2 ^ 32 ≡ row * 2 ^ bits = shl_whole row 24 bits 32 r (omega arith) in
    let fits : tag < 2 ^ bits = rw b (tag_fits kind table tag e) in
    let value : row * 2 ^ bits % 4294967296 + low ≡ row * 2 ^ bits + tag = omega (arith, whole, l) in
    let high = shr_high row bits tag fits in
    let low = mod_low row bits tag fits in
    let back = look_back (λ p. p.0) (λ p. p.1) (tags kind) table tag (tags_differ kind) e in
    rw (value, ← b, high, low, back) refl

-- what is unpacked is packed
pub packed-unpacked : (kind : Coded) (value table bits : ℕ) → table_of kind (value % (1 * 2 ^ bits % 4294967296)) ≡ Some table → bits ≡ tag_bits kind → bits ≤ 5 → packed kind table (value / 2 ^ bits) ≡ Some value
unfolding tag_of table_of
packed-unpacked kind value table bits e b few =
    let one : 1 * 2 ^ bits % 2 ^ 32 ≡ 2 ^ bits = one_shl bits 32 (omega arith) in
    let found : table_of kind (value % 2 ^ bits) ≡ Some table = rw one at e in
    let back = look_back (λ p. p.1) (λ p. p.0) (tags kind) (value % 2 ^ bits) table (tables_differ kind) found in
    rw (back, ← b, div-add-mod' value (2 ^ bits)) refl
