-- A called type has the names that those in the type are called; its interfaces are in order again.
use Rattle.std.proofs.Common.{◌≡◌, ◌∙◌, ap, sym, subst, refl, ◌⊎◌, inl, inr, ◌↔◌, List, [], ◌∷◌, ◌++◌, map}
use Rattle.std.specs.Prelude.{option_map}
use Rattle.std.specs.List.{Contains, flat_map}
use Rattle.std.proofs.lemmas.List.{map-append}
use Rattle.std.proofs.lemmas.List.Elements.{Contains-append_left, Contains-append_right, Contains-append_cases}
use Rattle.std.specs.declared.cmp.Ordering.{Ordering}
use Rattle.std.specs.declared.cmp.Ordering.TheVariants.{Less, Equal, Greater}
use Rattle.type_terms.specs.Order.{owner_order}
use Rattle.type_terms.specs.declared.name.TypeName.{TypeName}
use Rattle.type_terms.specs.declared.term.Owner.{Owner}
use Rattle.sorted_owners.specs.Rising.{put_before, put, rising}
use Rattle.assembly_tree.specs.declared.typedef.TypeDef.{TypeDef}
use Rattle.assembly_tree.specs.declared.typedef.TypeDef.TheFolds.{ind-TypeDef}
use Rattle.assembly_tree.specs.declared.typedef.TypeDef.TheOpen.{TypeDef-F}
use Rattle.assembly_tree.specs.declared.typedef.TypeDef.TheViews.{out-TypeDef, roll-TypeDef, out-roll-TypeDef}
use Rattle.tree_names.specs.Called.{Call, called_attribute, called_event, called_field, called_generic, called_interfaces, called_method, called_own, called_owner, called_property, called_typedef}
use Rattle.tree_names.specs.Laws.{NamesOfTypedefs, SameNames}
use Rattle.tree_names.specs.Named.{Names, optional, names_in_attribute, names_in_event, names_in_field, names_in_generic, names_in_method, names_in_own, names_in_owner, names_in_property, names_in_typedef}
use Rattle.tree_names.proofs.CalledNames.{all, may, names_of_attributes, names_of_events, names_of_fields, names_of_generics, names_of_methods, names_of_owners, names_of_properties}
use Rattle.tree_names.proofs.CalledTypes.{called_out}
use Rattle.tree_names.proofs.Seeing.{in_typedef_out}
use Rattle.tree_names.proofs.Ties.{owner_tie}

-- ---- lists with the same names

equal : (a b : Names) → a ≡ b → SameNames a b
equal a b e n = (subst (λ ns. Contains ns n) e, subst (λ ns. Contains ns n) (sym e))

then : (a b c : Names) → SameNames a b → SameNames b c → SameNames a c
then a b c p q n = (λ h. (q n).0 ((p n).0 h), λ h. (p n).1 ((q n).1 h))

one_side : (a b x y : Names) → ((n : TypeName) → Contains a n → Contains x n) → ((n : TypeName) → Contains b n → Contains y n)
    → (n : TypeName) → Contains (a ++ b) n → Contains (x ++ y) n
one_side a b x y f g n h = elim (Contains-append_cases a b n h) [
  | inl k ↦ Contains-append_left x y n (f n k)
  | inr k ↦ Contains-append_right x y n (g n k)
]

both : (a b x y : Names) → SameNames a x → SameNames b y → SameNames (a ++ b) (x ++ y)
both a b x y p q n = (one_side a b x y (λ m. (p m).0) (λ m. (q m).0) n, one_side x y a b (λ m. (p m).1) (λ m. (q m).1) n)

turned : (a b c : Names) → (n : TypeName) → Contains (a ++ (b ++ c)) n → Contains (b ++ (a ++ c)) n
turned a b c n h = elim (Contains-append_cases a (b ++ c) n h) [
  | inl k ↦ Contains-append_right b (a ++ c) n (Contains-append_left a c n k)
  | inr k ↦ one_side b c b (a ++ c) (λ m j. j) (λ m j. Contains-append_right a c m j) n k
]

swap : (a b c : Names) → SameNames (a ++ (b ++ c)) (b ++ (a ++ c))
swap a b c n = (turned a b c n, turned b a c n)

twice : (a b : Names) → SameNames (a ++ b) (a ++ (a ++ b))
twice a b n = (
  λ h. Contains-append_right a (a ++ b) n h,
  λ h. elim (Contains-append_cases a (a ++ b) n h) [
    | inl k ↦ Contains-append_left a b n k
    | inr k ↦ k
  ],
)

same : (a : Names) → SameNames a a
same a n = (λ h. h, λ h. h)

-- ---- interfaces in order

abbrev all_in : List Owner → Names
all_in os = flat_map names_in_owner os

put_same : (o : Owner) (xs : List Owner) → SameNames (all_in (put o xs)) (names_in_owner o ++ all_in xs)
put_same o [] = same _
put_same o (p ∷ rest) = go (owner_order o p) refl (put_same o rest)
  where
    go : (r : Ordering) → owner_order o p ≡ r → SameNames (all_in (put o rest)) (names_in_owner o ++ all_in rest)
        → SameNames (all_in (put_before r o p rest (put o rest))) (names_in_owner o ++ (names_in_owner p ++ all_in rest))
    go Less e k = same _
    go Equal e k = then _ _ _ (twice (names_in_owner p) (all_in rest)) (equal _ _ (ap (λ q. names_in_owner q ++ (names_in_owner p ++ all_in rest)) (sym (owner_tie o p e))))
    go Greater e k = then _ _ _ (both _ _ _ _ (same (names_in_owner p)) k) (swap (names_in_owner p) (names_in_owner o) (all_in rest))

rising_same : (os : List Owner) → SameNames (all_in (rising os)) (all_in os)
rising_same [] = same []
rising_same (o ∷ os) = then _ _ _ (put_same o (rising os)) (both _ _ _ _ (same (names_in_owner o)) (rising_same os))

-- ---- a type

joined : (f : Call) (a b x y : Names) → SameNames x (map f a) → SameNames y (map f b) → SameNames (x ++ y) (map f (a ++ b))
joined f a b x y p q = then _ _ _ (both _ _ _ _ p q) (equal _ _ (sym (map-append f a b)))

own_names : (f : Call) (t : TypeDef-F TypeDef) → SameNames (names_in_own (called_own f t)) (map f (names_in_own t))
unfolding names_in_own called_own
own_names f t =
    joined f _ _ _ _ (joined f _ _ _ _ (joined f _ _ _ _ (joined f _ _ _ _ (joined f _ _ _ _ (joined f _ _ _ _ (joined f _ _ _ _
    (equal _ _ (all f names_in_generic (called_generic f) (names_of_generics f) t.generics))
    (equal _ _ (may f names_in_owner (called_owner f) (names_of_owners f) t.extends)))
    (then _ _ _ (rising_same (map (called_owner f) t.implements)) (equal _ _ (all f names_in_owner (called_owner f) (names_of_owners f) t.implements))))
    (equal _ _ (all f names_in_field (called_field f) (names_of_fields f) t.fields)))
    (equal _ _ (all f names_in_method (called_method f) (names_of_methods f) t.methods)))
    (equal _ _ (all f names_in_property (called_property f) (names_of_properties f) t.properties)))
    (equal _ _ (all f names_in_event (called_event f) (names_of_events f) t.events)))
    (equal _ _ (all f names_in_attribute (called_attribute f) (names_of_attributes f) t.attributes))

module _ (f : Call) where
  abbrev Q : TypeDef → Type 0
  Q t = SameNames (names_in_typedef (called_typedef f t)) (map f (names_in_typedef t))

  each : (ts : List ((t : TypeDef) × Q t)) →
      SameNames (flat_map names_in_typedef (map (called_typedef f) (map (λ e. e.0) ts))) (map f (flat_map names_in_typedef (map (λ e. e.0) ts)))
  each [] = same []
  each (e ∷ ts) = joined f _ _ _ _ e.1 (each ts)

  layer : (x : TypeDef-F TypeDef) → SameNames (flat_map names_in_typedef (map (called_typedef f) x.nested)) (map f (flat_map names_in_typedef x.nested)) → Q (roll-TypeDef x)
  unfolding called_own names_in_own
  layer x h =
      let t = roll-TypeDef x in
      let out = out-roll-TypeDef x in
      let inner : out-TypeDef (called_typedef f t) ≡ called_own f (record x { nested = map (called_typedef f) x.nested }) =
      ap out-TypeDef (called_out f t) ∙ out-roll-TypeDef _ ∙ ap (λ u. called_own f (record u { nested = map (called_typedef f) u.nested })) out in
      then _ _ _ (equal _ _ (in_typedef_out (called_typedef f t) ∙ ap (λ u. names_in_own u ++ flat_map names_in_typedef u.nested) inner))
      (then _ _ _ (joined f _ _ _ _ (own_names f x) h) (equal _ _ (ap (map f) (sym (in_typedef_out t ∙ ap (λ u. names_in_own u ++ flat_map names_in_typedef u.nested) out)))))

  typedefs : (t : TypeDef) → Q t
  typedefs = ind-TypeDef Q (λ x y is. layer x (subst (λ z. SameNames (flat_map names_in_typedef (map (called_typedef f) z.nested)) (map f (flat_map names_in_typedef z.nested))) is (each y.nested)))

pub names_of_typedefs : NamesOfTypedefs
names_of_typedefs f t = typedefs f t
