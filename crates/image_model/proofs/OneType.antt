-- Each type of an assembly is told by its row, with those that it nests.
use Rattle.std.proofs.Common.{◌≡◌, ℕ, zero, suc, ◌<◌, ◌⊎◌, inl, inr, List, [], ◌∷◌, Contains, length, slice_index_or, refl, sym, ◌∙◌, ap, subst, arith}
use Rattle.std.specs.Cmp.{IsTotalOrder}
use Rattle.std.specs.declared.cmp.Ordering.TheVariants.{Less}
use Rattle.std.specs.Ordering.{ordering_index}
use Rattle.std.proofs.lemmas.Cmp.{tied_itself}
use Rattle.type_terms.specs.Order.{owner_order}
use Rattle.type_terms.specs.declared.term.Owner.{Owner}
use Rattle.assembly_tree.specs.declared.typedef.TypeDef.{TypeDef}
use Rattle.assembly_tree.specs.declared.typedef.TypeDef.TheOpen.{TypeDef-F}
use Rattle.assembly_tree.specs.declared.typedef.TypeDef.TheViews.{out-TypeDef, roll-TypeDef, roll-out-TypeDef}
use Rattle.body_codec.specs.Names.{NameMap}
use Rattle.image_model.specs.Naming.{HasId}
use Rattle.image_model.specs.Reading.{IsField, IsMethod, IsProperty, IsEvent, Rising, AreInterfaces, IsLayout, IsTypeButNested, IsType, AreTypes}
use Rattle.image_model.proofs.General.{One, zip_one, given_one}
use Rattle.image_model.proofs.OnePath.{id_one}
use Rattle.image_model.proofs.OnePart.{Facts, attributes_one, generics_one, field_one, method_one, property_one, event_one, extends_one, layout_one}

-- ---- two rising lists with the same members are one list

-- members by recursion
abbrev Among : Owner → List Owner → Type 0
Among x [] = ⊥
Among x (y ∷ ys) = (y ≡ x) ⊎ Among x ys

among_at : (x : Owner) (ys : List Owner) (k : ℕ) → k < length ys → slice_index_or ys k x ≡ x → Among x ys
among_at x [] k lt e = absurd (omega arith)
among_at x (y ∷ ys) zero lt e = inl e
among_at x (y ∷ ys) (suc k) lt e = inr (among_at x ys k (omega arith) e)

to_among : (x : Owner) (ys : List Owner) → Contains ys x → Among x ys
to_among x ys h = among_at x ys h.0 h.1 h.2

from_among : (x : Owner) (ys : List Owner) → Among x ys → Contains ys x
from_among x [] h = absurd h
from_among x (y ∷ ys) (inl e) = (0, omega arith, e)
from_among x (y ∷ ys) (inr h) = let c = from_among x ys h in (suc c.0, omega (arith, c.1), c.2)

-- the first of a rising list is before the others
before_all : IsTotalOrder owner_order → (x : Owner) (ys : List Owner) → Rising (x ∷ ys) → (z : Owner) → Among z ys → owner_order x z ≡ Less
before_all o x [] r z h = absurd h
before_all o x (y ∷ ys) r z (inl e) = subst (λ w. owner_order x w ≡ Less) e r.0
before_all o x (y ∷ ys) r z (inr h) = o.trans x y z r.0 (before_all o y ys r.1 z h)

rising_tail : (x : Owner) (ys : List Owner) → Rising (x ∷ ys) → Rising ys
rising_tail x [] r = tt
rising_tail x (y ∷ ys) r = r.1

not_before_itself : IsTotalOrder owner_order → (x : Owner) → owner_order x x ≡ Less → ⊥
not_before_itself o x h = let e = tied_itself o x in omega (arith, ap ordering_index (sym h ∙ e))

heads_one : IsTotalOrder owner_order → (x y : Owner) (xs ys : List Owner) → Rising (x ∷ xs) → Rising (y ∷ ys) → Among x (y ∷ ys) → Among y (x ∷ xs) → x ≡ y
heads_one o x y xs ys rx ry (inl e) k = sym e
heads_one o x y xs ys rx ry (inr h) (inl e) = e
heads_one o x y xs ys rx ry (inr h) (inr k) =
    absurd (not_before_itself o x (o.trans x y x (before_all o x xs rx y k) (before_all o y ys ry x h)))

-- what is behind the first of one list is behind the first of the other
tail_to : IsTotalOrder owner_order → (x y : Owner) (xs ys : List Owner) → Rising (x ∷ xs) → x ≡ y → (z : Owner) → Among z xs → Among z (y ∷ ys) → Among z ys
tail_to o x y xs ys rx e z h (inl f) =
    absurd (not_before_itself o x (subst (λ w. owner_order x w ≡ Less) (sym (e ∙ f)) (before_all o x xs rx z h)))
tail_to o x y xs ys rx e z h (inr k) = k

rising_one : IsTotalOrder owner_order → (xs ys : List Owner) → Rising xs → Rising ys → ((z : Owner) → Among z xs → Among z ys) → ((z : Owner) → Among z ys → Among z xs) → xs ≡ ys
rising_one o [] [] rx ry f g = refl
rising_one o [] (y ∷ ys) rx ry f g = absurd (g y (inl refl))
rising_one o (x ∷ xs) [] rx ry f g = absurd (f x (inl refl))
rising_one o (x ∷ xs) (y ∷ ys) rx ry f g =
    let e = heads_one o x y xs ys rx ry (f x (inl refl)) (g y (inl refl)) in
    let t = rising_one o xs ys (rising_tail x xs rx) (rising_tail y ys ry) (λ z h. tail_to o x y xs ys rx e z h (f z (inr h))) (λ z h. tail_to o y x ys xs ry (sym e) z h (g z (inr h))) in
    λ i. e i ∷ t i

-- ---- types

types_are : (t u : TypeDef) → out-TypeDef t ≡ out-TypeDef u → t ≡ u
types_are t u e = sym (roll-out-TypeDef t) ∙ ap roll-TypeDef e ∙ roll-out-TypeDef u

module _ (image : List ℕ) (names : NameMap) (facts : Facts image names) (total : IsTotalOrder owner_order) where
  interfaces_one : (type : ℕ) (xs ys : List Owner) → AreInterfaces image names type xs → AreInterfaces image names type ys → xs ≡ ys
  interfaces_one type xs ys h k =
      rising_one total xs ys h.rising k.rising (λ z m. to_among z ys ((k.each z).1 ((h.each z).0 (from_among z xs m)))) (λ z m. to_among z xs ((h.each z).1 ((k.each z).0 (from_among z ys m))))

  id_of_type : One (HasId image)
  id_of_type = id_one image facts.text

  layer_one : (row : ℕ) (t u : TypeDef-F TypeDef) → IsTypeButNested image names row t → IsTypeButNested image names row u → t.nested ≡ u.nested → t ≡ u
  layer_one row t u h k nested =
      let d = id_of_type row t.id u.id h.id k.id in
      let f = h.flags ∙ sym k.flags in
      let l = given_one (IsLayout image) (layout_one image names facts) _ t.layout u.layout h.layout k.layout in
      let g = generics_one image names facts _ _ t.generics u.generics h.generics k.generics in
      let x = extends_one image names facts _ t.extends u.extends h.extends k.extends in
      let n = interfaces_one row t.implements u.implements h.implements k.implements in
      let a = zip_one (IsField image names) (field_one image names facts) _ t.fields u.fields h.fields k.fields in
      let m = zip_one (IsMethod image names) (method_one image names facts) _ t.methods u.methods h.methods k.methods in
      let p = zip_one (IsProperty image names row) (property_one image names facts row) _ t.properties u.properties h.properties k.properties in
      let e = zip_one (IsEvent image names row) (event_one image names facts row) _ t.events u.events h.events k.events in
      let c = attributes_one image names facts _ _ t.attributes u.attributes h.attributes k.attributes in
      λ i. record { id = d i; flags = f i; layout = l i; generics = g i; extends = x i; implements = n i; fields = a i; methods = m i; properties = p i; events = e i; nested = nested i; attributes = c i }

  mutual
    pub type_one : {row : ℕ} {t u : TypeDef} → IsType image names row t → IsType image names row u → t ≡ u
    type_one {row = row} {t = t} {u = u} (IsType.made h p) (IsType.made k q) = types_are t u (layer_one row (out-TypeDef t) (out-TypeDef u) h k (types_one p q))

    pub types_one : {rows : List ℕ} {ts us : List TypeDef} → AreTypes image names rows ts → AreTypes image names rows us → ts ≡ us
    types_one AreTypes.none AreTypes.none = refl
    types_one (AreTypes.more h p) (AreTypes.more k q) =
        let e = type_one h k in
        let f = types_one p q in
        λ i. e i ∷ f i
