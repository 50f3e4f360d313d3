-- The order of owners is total, as that of types is. A type is written out as one list of numbers, so that its order is that of the
-- lists, whose laws std has.
use Rattle.std.proofs.Common.{◌≡◌, ap, refl, sym, ◌∙◌, subst, ℕ, ◌<◌, ℤ, pos, ◌<ℤ◌, arith, get_or, Bool, true, false, List, [], ◌∷◌, ◌++◌, map, append_assoc, ◌↔◌, true≢false}
use Rattle.std.proofs.lemmas.List.{append-nil}
use Rattle.std.proofs.lemmas.Int.{ints}
use Rattle.std.specs.declared.cmp.Ordering.{Ordering}
use Rattle.std.specs.declared.cmp.Ordering.TheVariants.{Less, Equal, Greater}
use Rattle.std.specs.Ordering.{ordering_then, nat_cmp, int_cmp, bool_cmp, is_eq, MatchOrdering}
use Rattle.std.specs.Cmp.{IsTotalOrder, int_cmp_total, on_total, tied_itself, ranks, int_cmp_is, ranked, int_ranked}
use Rattle.std.specs.Cmp.Lexicographic.{slice_cmp, lists_total}
use Rattle.type_terms.specs.declared.name.Scope.{Scope}
use Rattle.type_terms.specs.declared.name.Scope.TheVariants.{Here, Extern}
use Rattle.type_terms.specs.declared.name.TypeId.{TypeId}
use Rattle.type_terms.specs.declared.name.TypeName.{TypeName}
use Rattle.type_terms.specs.declared.term.Primitive as prim
use Rattle.type_terms.specs.declared.term.Primitive.TheVariants as prim_is
use Rattle.type_terms.specs.declared.term.Owner.{Owner, fold-Owner, out-Owner, roll-Owner, roll-out-Owner, map-Owner, fold-roll-Owner, fold_out-Owner}
use Rattle.type_terms.specs.declared.term.SigType.{SigType, fold-SigType, out-SigType, roll-SigType, roll-out-SigType, map-SigType, fold-roll-SigType, fold_out-SigType}
use Rattle.type_terms.specs.declared.term.Owner.TheOpen.{Owner-F, SigType-F, Name, Spec, Prim, Class, Value, Inst, Var, MVar, SzArray, Array, ByRef, Pointer, Mod, Pinned}
use Rattle.type_terms.proofs.Layers.{OwnerWith, TypeWith, owner_values, type_values, by_layers, owner_by_layers}
use Rattle.type_terms.specs.Order.{scope_order, text_order, id_order, name_order, prim_place, place, fields_order, term_step, owner_layers, owner_step, term_order, owner_order}

abbrev lists_order : List ℤ → List ℤ → Ordering
lists_order = slice_cmp int_cmp

-- `u` and `v` decide by `r`, and leave what follows them to decide where they tie
record Splits (u v : List ℤ) (r : Ordering) : Type 0 where
  tells : (x y : List ℤ) → lists_order (u ++ x) (v ++ y) ≡ ordering_then r (lists_order x y)

splits : {u v : List ℤ} {r : Ordering} → ((x y : List ℤ) → lists_order (u ++ x) (v ++ y) ≡ ordering_then r (lists_order x y)) → Splits u v r
splits p = record { tells = p }

then_assoc : (r s u : Ordering) → ordering_then (ordering_then r s) u ≡ ordering_then r (ordering_then s u)
then_assoc Less s u = refl
then_assoc Equal s u = refl
then_assoc Greater s u = refl

then_equal : (r : Ordering) → ordering_then r Equal ≡ r
then_equal Less = refl
then_equal Equal = refl
then_equal Greater = refl

both : {u v u' v' : List ℤ} {r r' : Ordering} → Splits u v r → Splits u' v' r' → Splits (u ++ u') (v ++ v') (ordering_then r r')
both {u} {v} {u'} {v'} {r} {r'} p q = record {
  tells = λ x y. rw (append_assoc u u' x, append_assoc v v' y)
      (p.tells (u' ++ x) (v' ++ y) ∙ ap (ordering_then r) (q.tells x y) ∙ sym (then_assoc r r' (lists_order x y)));
}

ranked_z : (n m : ℕ) (r : Ordering) → MatchOrdering r (n < m) (n ≡ m) (m < n) → MatchOrdering r (pos n <ℤ pos m) (pos n ≡ pos m) (pos m <ℤ pos n)
ranked_z n m Less h = omega (arith, ints)
ranked_z n m Equal h = ap pos h
ranked_z n m Greater h = omega (arith, ints)

number_cmp : (n m : ℕ) → int_cmp (pos n) (pos m) ≡ nat_cmp n m
number_cmp n m = sym (int_cmp_is (pos n) (pos m) (nat_cmp n m) (ranked_z n m (nat_cmp n m) (ranks n m)))

number : (n m : ℕ) → Splits (pos n ∷ []) (pos m ∷ []) (nat_cmp n m)
number n m = splits (λ x y. ap (λ r. ordering_then r (lists_order x y)) (number_cmp n m))

signed : (i j : ℤ) → Splits (i ∷ []) (j ∷ []) (int_cmp i j)
signed i j = splits (λ x y. refl)

-- one more number in front of both
after : (i : ℤ) {u v : List ℤ} {r : Ordering} → Splits u v r → Splits (i ∷ u) (i ∷ v) r
after i {u} {v} p = splits (λ x y. ap (λ s. ordering_then s (lists_order (u ++ x) (v ++ y))) (tied_itself int_cmp_total i) ∙ p.tells x y)

abbrev flag : Bool → ℕ
flag false = 0
flag true = 1

flags : (v w : Bool) → Splits (pos (flag v) ∷ []) (pos (flag w) ∷ []) (bool_cmp v w)
flags false false = splits (λ x y. refl)
flags false true = splits (λ x y. refl)
flags true false = splits (λ x y. refl)
flags true true = splits (λ x y. refl)

-- each item after a 1, and a 0 at the end
abbrev listed : {A : Type 0} → (A → List ℤ) → List A → List ℤ
listed c [] = pos 0 ∷ []
listed c (x ∷ xs) = pos 1 ∷ (c x ++ listed c xs)

lists : {A B : Type 0} (R : A → B → Ordering) (c : A → List ℤ) (d : B → List ℤ) → ((a : A) (b : B) → Splits (c a) (d b) (R a b)) → (xs : List A) (ys : List B) → Splits (listed c xs) (listed d ys) (slice_cmp R xs ys)
lists R c d p [] [] = splits (λ x y. refl)
lists R c d p [] (b ∷ ys) = splits (λ x y. refl)
lists R c d p (a ∷ xs) [] = splits (λ x y. refl)
lists R c d p (a ∷ xs) (b ∷ ys) = after (pos 1) (both (p a b) (lists R c d p xs ys))

abbrev number_code : ℕ → List ℤ
number_code n = pos n ∷ []

abbrev signed_code : ℤ → List ℤ
signed_code i = i ∷ []

abbrev scope_code : Scope → List ℤ
scope_code Here = pos 0 ∷ []
scope_code (Extern n) = pos 1 ∷ pos n ∷ []

abbrev text_code : List ℕ → List ℤ
text_code = listed number_code

abbrev id_code : TypeId → List ℤ
id_code a = text_code a.space ++ text_code a.name

abbrev name_code : TypeName → List ℤ
name_code a = scope_code a.scope ++ listed id_code a.path

scopes : (a b : Scope) → Splits (scope_code a) (scope_code b) (scope_order a b)
scopes Here Here = splits (λ x y. refl)
scopes Here (Extern m) = splits (λ x y. refl)
scopes (Extern n) Here = splits (λ x y. refl)
scopes (Extern n) (Extern m) = after (pos 1) (number n m)

texts : (a b : List ℕ) → Splits (text_code a) (text_code b) (text_order a b)
texts = lists nat_cmp number_code number_code number

ids : (a b : TypeId) → Splits (id_code a) (id_code b) (id_order a b)
ids a b = both (texts a.space b.space) (texts a.name b.name)

names : (a b : TypeName) → Splits (name_code a) (name_code b) (name_order a b)
names a b = both (scopes a.scope b.scope) (lists id_order id_code id_code ids a.path b.path)

abbrev owner_code : Owner-F (List ℤ) (List ℤ) → List ℤ
owner_code (Name n) = pos 0 ∷ name_code n
owner_code (Spec c) = pos 1 ∷ c

abbrev fields_code : SigType-F (List ℤ) (List ℤ) → List ℤ
fields_code (Prim p) = pos (prim_place p) ∷ []
fields_code (Class n) = name_code n
fields_code (Value n) = name_code n
fields_code (Inst v n args) = (pos (flag v) ∷ []) ++ (name_code n ++ listed (λ c. c) args)
fields_code (Var n) = pos n ∷ []
fields_code (MVar n) = pos n ∷ []
fields_code (SzArray c) = c
fields_code (Array c r s l) = c ++ ((pos r ∷ []) ++ (listed number_code s ++ listed signed_code l))
fields_code (ByRef c) = c
fields_code (Pointer c) = c
fields_code (Mod r o c) = (pos (flag r) ∷ []) ++ (o ++ c)
fields_code (Pinned c) = c

abbrev type_code : SigType-F (List ℤ) (List ℤ) → List ℤ
type_code x = pos (place x) ∷ fields_code x

abbrev written : SigType → List ℤ
written = fold-SigType (List ℤ) (List ℤ) owner_code type_code

abbrev owner_written : Owner → List ℤ
owner_written = fold-Owner (List ℤ) (List ℤ) owner_code type_code

abbrev TypeSplits : SigType → Type 0
TypeSplits a = (b : SigType) → Splits (written a) (written b) (term_order a b)

abbrev OwnerSplits : Owner → Type 0
OwnerSplits a = (b : Owner) → Splits (owner_written a) (owner_written b) (owner_order a b)

abbrev Types : Type 0
Types = TypeWith OwnerSplits TypeSplits

abbrev Owners : Type 0
Owners = OwnerWith OwnerSplits TypeSplits

abbrev values : SigType-F Owners Types → SigType-F Owner SigType
values = type_values OwnerSplits TypeSplits

abbrev named : Owner-F Owners Types → Owner-F Owner SigType
named = owner_values OwnerSplits TypeSplits

-- one layer written out, and as orders
abbrev written_layer : SigType-F Owner SigType → SigType-F (List ℤ) (List ℤ)
written_layer = map-SigType Owner SigType (List ℤ) (List ℤ) owner_written written

abbrev order_layer : SigType-F Owner SigType → SigType-F (Owner → Ordering) (SigType → Ordering)
order_layer = map-SigType Owner SigType (Owner → Ordering) (SigType → Ordering) owner_order term_order

abbrev written_owner : Owner-F Owner SigType → Owner-F (List ℤ) (List ℤ)
written_owner = map-Owner Owner SigType (List ℤ) (List ℤ) owner_written written

abbrev order_owner : Owner-F Owner SigType → Owner-F (Owner → Ordering) (SigType → Ordering)
order_owner = map-Owner Owner SigType (Owner → Ordering) (SigType → Ordering) owner_order term_order

args_split : (xs : List Types) (ys : List SigType) → Splits (listed (λ c. c) (map written (map (λ (a : Types). a.0) xs))) (listed (λ c. c) (map written ys)) (slice_cmp (λ f y. f y) (map term_order (map (λ (a : Types). a.0) xs)) ys)
args_split [] [] = splits (λ x y. refl)
args_split [] (b ∷ ys) = splits (λ x y. refl)
args_split (a ∷ xs) [] = splits (λ x y. refl)
args_split (a ∷ xs) (b ∷ ys) = after (pos 1) (both (a.1 b) (args_split xs ys))

layers : (a : SigType-F Owners Types) (b : SigType-F Owner SigType) → Splits (type_code (written_layer (values a))) (type_code (written_layer b)) (ordering_then (nat_cmp (place (order_layer (values a))) (place b)) (fields_order (order_layer (values a)) b))
layers (Prim p) (Prim q) = after (pos 0) (number (prim_place p) (prim_place q))
layers (Class n) (Class m) = after (pos 1) (names n m)
layers (Value n) (Value m) = after (pos 2) (names n m)
layers (Inst v n xs) (Inst w m ys) = after (pos 3) (both (flags v w) (both (names n m) (args_split xs ys)))
layers (Var n) (Var m) = after (pos 4) (number n m)
layers (MVar n) (MVar m) = after (pos 5) (number n m)
layers (SzArray a) (SzArray b) = after (pos 6) (a.1 b)
layers (Array a r s l) (Array b q z w) = after (pos 7) (both (a.1 b) (both (number r q) (both (lists nat_cmp number_code number_code number s z) (lists int_cmp signed_code signed_code signed l w))))
layers (ByRef a) (ByRef b) = after (pos 8) (a.1 b)
layers (Pointer a) (Pointer b) = after (pos 9) (a.1 b)
layers (Mod r o a) (Mod q p b) = after (pos 10) (both (flags r q) (both (o.1 p) (a.1 b)))
layers (Pinned a) (Pinned b) = after (pos 11) (a.1 b)
layers a b = splits (λ x y. refl)

owner_pairs : (a : Owner-F Owners Types) (b : Owner-F Owner SigType) → Splits (owner_code (written_owner (named a))) (owner_code (written_owner b)) (owner_layers (order_owner (named a)) b)
owner_pairs (Name n) (Name m) = after (pos 0) (names n m)
owner_pairs (Name n) (Spec b) = splits (λ x y. refl)
owner_pairs (Spec a) (Name m) = splits (λ x y. refl)
owner_pairs (Spec a) (Spec b) = after (pos 1) (a.1 b)

-- two spelled lists and an order that are equal to those that split
along : {u u' v v' : List ℤ} {r r' : Ordering} → u ≡ u' → v ≡ v' → r ≡ r' → Splits u' v' r' → Splits u v r
along p q e h = rw (p, q, e) h

type_made : (a : SigType-F Owners Types) → TypeSplits (roll-SigType (values a))
type_made a b =
    along
    (fold-roll-SigType (List ℤ) (List ℤ) owner_code type_code (values a))
    (fold_out-SigType (List ℤ) (List ℤ) owner_code type_code b)
    (ap (λ f. f b) (fold-roll-SigType (Owner → Ordering) (SigType → Ordering) owner_step term_step (values a)))
    (layers a (out-SigType b))

owner_made : (a : Owner-F Owners Types) → OwnerSplits (roll-Owner (named a))
owner_made a b =
    along
    (fold-roll-Owner (List ℤ) (List ℤ) owner_code type_code (named a))
    (fold_out-Owner (List ℤ) (List ℤ) owner_code type_code b)
    (ap (λ f. f b) (fold-roll-Owner (Owner → Ordering) (SigType → Ordering) owner_step term_step (named a)))
    (owner_pairs a (out-Owner b))

terms_split : (a : SigType) → TypeSplits a
terms_split = by_layers OwnerSplits TypeSplits owner_made type_made

owners_split : (a : Owner) → OwnerSplits a
owners_split = owner_by_layers OwnerSplits TypeSplits owner_made type_made

as_written : {u v : List ℤ} {r : Ordering} → Splits u v r → lists_order u v ≡ r
as_written {u} {v} {r} p =
    let e : lists_order (u ++ []) (v ++ []) ≡ ordering_then r Equal = p.tells [] [] in
    rw (append-nil u, append-nil v) at e ∙ then_equal r

terms_total : IsTotalOrder term_order
terms_total = subst IsTotalOrder (λ i a b. as_written (terms_split a b) i) (on_total written (lists_total int_cmp_total))

pub owners_total : IsTotalOrder owner_order
owners_total = subst IsTotalOrder (λ i a b. as_written (owners_split a b) i) (on_total owner_written (lists_total int_cmp_total))
