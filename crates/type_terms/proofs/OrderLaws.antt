-- The order of types and owners is total, and ties only equal ones. A type is written out as one list of numbers, so
-- that its order is that of the lists, whose laws std has.
use Rattle.std.proofs.Common.{◌≡◌, ap, refl, sym, ◌∙◌, subst, ℕ, ◌<◌, ℤ, pos, ◌<ℤ◌, arith, get_or, Bool, true, false, List, [], ◌∷◌, ◌++◌, map, append_assoc, ◌↔◌, true≢false}
use Rattle.std.proofs.lemmas.List.{append-nil}
use Rattle.std.proofs.lemmas.Int.{ints}
use Rattle.std.specs.declared.cmp.Ordering.{Ordering}
use Rattle.std.specs.declared.cmp.Ordering.TheVariants.{Less, Equal, Greater}
use Rattle.std.specs.Ordering.{ordering_then, nat_cmp, int_cmp, bool_cmp, is_eq, MatchOrdering}
use Rattle.std.specs.Cmp.{IsTotalOrder, int_cmp_total, on_total, tied_itself, ranks, int_cmp_is, ranked, int_ranked}
use Rattle.std.specs.Cmp.Lexicographic.{slice_cmp, lists_total}
use Rattle.type_terms.specs.declared.name.Scope.{Scope}
use Rattle.type_terms.specs.declared.name.Scope.TheVariants.{Here, Extern}
use Rattle.type_terms.specs.declared.name.TypeId.{TypeId}
use Rattle.type_terms.specs.declared.name.TypeName.{TypeName}
use Rattle.type_terms.specs.declared.term.Primitive as prim
use Rattle.type_terms.specs.declared.term.Primitive.TheVariants as prim_is
use Rattle.type_terms.specs.declared.term.Owner.{Owner, fold-Owner, out-Owner, roll-Owner, roll-out-Owner, map-Owner, fold-roll-Owner, fold_out-Owner}
use Rattle.type_terms.specs.declared.term.SigType.{SigType, fold-SigType, out-SigType, roll-SigType, roll-out-SigType, map-SigType, fold-roll-SigType, fold_out-SigType}
use Rattle.type_terms.specs.declared.term.Owner.TheOpen.{Owner-F, SigType-F, Name, Spec, Prim, Class, Value, Inst, Var, MVar, SzArray, Array, ByRef, Pointer, Mod, Pinned}
use Rattle.type_terms.proofs.Layers.{OwnerWith, TypeWith, owner_values, type_values, by_layers, owner_by_layers}
use Rattle.type_terms.specs.Order.{scope_order, text_order, id_order, name_order, prim_place, place, fields_order, term_step, owner_layers, owner_step, term_order, owner_order}

abbrev lists_order : List ℤ → List ℤ → Ordering
lists_order = slice_cmp int_cmp

-- `u` and `v` decide by `r`, and leave what follows them to decide where they tie
record Splits (u v : List ℤ) (r : Ordering) : Type 0 where
  tells : (x y : List ℤ) → lists_order (u ++ x) (v ++ y) ≡ ordering_then r (lists_order x y)

splits : {u v : List ℤ} {r : Ordering} → ((x y : List ℤ) → lists_order (u ++ x) (v ++ y) ≡ ordering_then r (lists_order x y)) → Splits u v r
splits p = record { tells = p }

then_assoc : (r s u : Ordering) → ordering_then (ordering_then r s) u ≡ ordering_then r (ordering_then s u)
then_assoc Less s u = refl
then_assoc Equal s u = refl
then_assoc Greater s u = refl

then_equal : (r : Ordering) → ordering_then r Equal ≡ r
then_equal Less = refl
then_equal Equal = refl
then_equal Greater = refl

both : {u v u' v' : List ℤ} {r r' : Ordering} → Splits u v r → Splits u' v' r' → Splits (u ++ u') (v ++ v') (ordering_then r r')
both {u} {v} {u'} {v'} {r} {r'} p q = record {
  tells = λ x y. rw (append_assoc u u' x, append_assoc v v' y)
      (p.tells (u' ++ x) (v' ++ y) ∙ ap (ordering_then r) (q.tells x y) ∙ sym (then_assoc r r' (lists_order x y)));
}

ranked_z : (n m : ℕ) (r : Ordering) → MatchOrdering r (n < m) (n ≡ m) (m < n) → MatchOrdering r (pos n <ℤ pos m) (pos n ≡ pos m) (pos m <ℤ pos n)
ranked_z n m Less h = omega (arith, ints)
ranked_z n m Equal h = ap pos h
ranked_z n m Greater h = omega (arith, ints)

number_cmp : (n m : ℕ) → int_cmp (pos n) (pos m) ≡ nat_cmp n m
number_cmp n m = sym (int_cmp_is (pos n) (pos m) (nat_cmp n m) (ranked_z n m (nat_cmp n m) (ranks n m)))

number : (n m : ℕ) → Splits (pos n ∷ []) (pos m ∷ []) (nat_cmp n m)
number n m = splits (λ x y. ap (λ r. ordering_then r (lists_order x y)) (number_cmp n m))

signed : (i j : ℤ) → Splits (i ∷ []) (j ∷ []) (int_cmp i j)
signed i j = splits (λ x y. refl)

-- one more number in front of both
after : (i : ℤ) {u v : List ℤ} {r : Ordering} → Splits u v r → Splits (i ∷ u) (i ∷ v) r
after i {u} {v} p = splits (λ x y. ap (λ s. ordering_then s (lists_order (u ++ x) (v ++ y))) (tied_itself int_cmp_total i) ∙ p.tells x y)

abbrev flag : Bool → ℕ
flag false = 0
flag true = 1

flags : (v w : Bool) → Splits (pos (flag v) ∷ []) (pos (flag w) ∷ []) (bool_cmp v w)
flags false false = splits (λ x y. refl)
flags false true = splits (λ x y. refl)
flags true false = splits (λ x y. refl)
flags true true = splits (λ x y. refl)

-- each item after a 1, and a 0 at the end
abbrev listed : {A : Type 0} → (A → List ℤ) → List A → List ℤ
listed c [] = pos 0 ∷ []
listed c (x ∷ xs) = pos 1 ∷ (c x ++ listed c xs)

lists : {A B : Type 0} (R : A → B → Ordering) (c : A → List ℤ) (d : B → List ℤ) → ((a : A) (b : B) → Splits (c a) (d b) (R a b)) → (xs : List A) (ys : List B) → Splits (listed c xs) (listed d ys) (slice_cmp R xs ys)
lists R c d p [] [] = splits (λ x y. refl)
lists R c d p [] (b ∷ ys) = splits (λ x y. refl)
lists R c d p (a ∷ xs) [] = splits (λ x y. refl)
lists R c d p (a ∷ xs) (b ∷ ys) = after (pos 1) (both (p a b) (lists R c d p xs ys))

abbrev number_code : ℕ → List ℤ
number_code n = pos n ∷ []

abbrev signed_code : ℤ → List ℤ
signed_code i = i ∷ []

abbrev scope_code : Scope → List ℤ
scope_code Here = pos 0 ∷ []
scope_code (Extern n) = pos 1 ∷ pos n ∷ []

abbrev text_code : List ℕ → List ℤ
text_code = listed number_code

abbrev id_code : TypeId → List ℤ
id_code a = text_code a.space ++ text_code a.name

abbrev name_code : TypeName → List ℤ
name_code a = scope_code a.scope ++ listed id_code a.path

scopes : (a b : Scope) → Splits (scope_code a) (scope_code b) (scope_order a b)
scopes Here Here = splits (λ x y. refl)
scopes Here (Extern m) = splits (λ x y. refl)
scopes (Extern n) Here = splits (λ x y. refl)
scopes (Extern n) (Extern m) = after (pos 1) (number n m)

texts : (a b : List ℕ) → Splits (text_code a) (text_code b) (text_order a b)
texts = lists nat_cmp number_code number_code number

ids : (a b : TypeId) → Splits (id_code a) (id_code b) (id_order a b)
ids a b = both (texts a.space b.space) (texts a.name b.name)

names : (a b : TypeName) → Splits (name_code a) (name_code b) (name_order a b)
names a b = both (scopes a.scope b.scope) (lists id_order id_code id_code ids a.path b.path)

abbrev owner_code : Owner-F (List ℤ) (List ℤ) → List ℤ
owner_code (Name n) = pos 0 ∷ name_code n
owner_code (Spec c) = pos 1 ∷ c

abbrev fields_code : SigType-F (List ℤ) (List ℤ) → List ℤ
fields_code (Prim p) = pos (prim_place p) ∷ []
fields_code (Class n) = name_code n
fields_code (Value n) = name_code n
fields_code (Inst v n args) = (pos (flag v) ∷ []) ++ (name_code n ++ listed (λ c. c) args)
fields_code (Var n) = pos n ∷ []
fields_code (MVar n) = pos n ∷ []
fields_code (SzArray c) = c
fields_code (Array c r s l) = c ++ ((pos r ∷ []) ++ (listed number_code s ++ listed signed_code l))
fields_code (ByRef c) = c
fields_code (Pointer c) = c
fields_code (Mod r o c) = (pos (flag r) ∷ []) ++ (o ++ c)
fields_code (Pinned c) = c

abbrev type_code : SigType-F (List ℤ) (List ℤ) → List ℤ
type_code x = pos (place x) ∷ fields_code x

abbrev written : SigType → List ℤ
written = fold-SigType (List ℤ) (List ℤ) owner_code type_code

abbrev owner_written : Owner → List ℤ
owner_written = fold-Owner (List ℤ) (List ℤ) owner_code type_code

abbrev TypeSplits : SigType → Type 0
TypeSplits a = (b : SigType) → Splits (written a) (written b) (term_order a b)

abbrev OwnerSplits : Owner → Type 0
OwnerSplits a = (b : Owner) → Splits (owner_written a) (owner_written b) (owner_order a b)

abbrev Types : Type 0
Types = TypeWith OwnerSplits TypeSplits

abbrev Owners : Type 0
Owners = OwnerWith OwnerSplits TypeSplits

abbrev values : SigType-F Owners Types → SigType-F Owner SigType
values = type_values OwnerSplits TypeSplits

abbrev named : Owner-F Owners Types → Owner-F Owner SigType
named = owner_values OwnerSplits TypeSplits

-- one layer written out, and as orders
abbrev written_layer : SigType-F Owner SigType → SigType-F (List ℤ) (List ℤ)
written_layer = map-SigType Owner SigType (List ℤ) (List ℤ) owner_written written

abbrev order_layer : SigType-F Owner SigType → SigType-F (Owner → Ordering) (SigType → Ordering)
order_layer = map-SigType Owner SigType (Owner → Ordering) (SigType → Ordering) owner_order term_order

abbrev written_owner : Owner-F Owner SigType → Owner-F (List ℤ) (List ℤ)
written_owner = map-Owner Owner SigType (List ℤ) (List ℤ) owner_written written

abbrev order_owner : Owner-F Owner SigType → Owner-F (Owner → Ordering) (SigType → Ordering)
order_owner = map-Owner Owner SigType (Owner → Ordering) (SigType → Ordering) owner_order term_order

args_split : (xs : List Types) (ys : List SigType) → Splits (listed (λ c. c) (map written (map (λ (a : Types). a.0) xs))) (listed (λ c. c) (map written ys)) (slice_cmp (λ f y. f y) (map term_order (map (λ (a : Types). a.0) xs)) ys)
args_split [] [] = splits (λ x y. refl)
args_split [] (b ∷ ys) = splits (λ x y. refl)
args_split (a ∷ xs) [] = splits (λ x y. refl)
args_split (a ∷ xs) (b ∷ ys) = after (pos 1) (both (a.1 b) (args_split xs ys))

layers : (a : SigType-F Owners Types) (b : SigType-F Owner SigType) → Splits (type_code (written_layer (values a))) (type_code (written_layer b)) (ordering_then (nat_cmp (place (order_layer (values a))) (place b)) (fields_order (order_layer (values a)) b))
layers (Prim p) (Prim q) = after (pos 0) (number (prim_place p) (prim_place q))
layers (Class n) (Class m) = after (pos 1) (names n m)
layers (Value n) (Value m) = after (pos 2) (names n m)
layers (Inst v n xs) (Inst w m ys) = after (pos 3) (both (flags v w) (both (names n m) (args_split xs ys)))
layers (Var n) (Var m) = after (pos 4) (number n m)
layers (MVar n) (MVar m) = after (pos 5) (number n m)
layers (SzArray a) (SzArray b) = after (pos 6) (a.1 b)
layers (Array a r s l) (Array b q z w) = after (pos 7) (both (a.1 b) (both (number r q) (both (lists nat_cmp number_code number_code number s z) (lists int_cmp signed_code signed_code signed l w))))
layers (ByRef a) (ByRef b) = after (pos 8) (a.1 b)
layers (Pointer a) (Pointer b) = after (pos 9) (a.1 b)
layers (Mod r o a) (Mod q p b) = after (pos 10) (both (flags r q) (both (o.1 p) (a.1 b)))
layers (Pinned a) (Pinned b) = after (pos 11) (a.1 b)
layers a b = splits (λ x y. refl)

owner_pairs : (a : Owner-F Owners Types) (b : Owner-F Owner SigType) → Splits (owner_code (written_owner (named a))) (owner_code (written_owner b)) (owner_layers (order_owner (named a)) b)
owner_pairs (Name n) (Name m) = after (pos 0) (names n m)
owner_pairs (Name n) (Spec b) = splits (λ x y. refl)
owner_pairs (Spec a) (Name m) = splits (λ x y. refl)
owner_pairs (Spec a) (Spec b) = after (pos 1) (a.1 b)

-- two spelled lists and an order that are equal to those that split
along : {u u' v v' : List ℤ} {r r' : Ordering} → u ≡ u' → v ≡ v' → r ≡ r' → Splits u' v' r' → Splits u v r
along p q e h = rw (p, q, e) h

type_made : (a : SigType-F Owners Types) → TypeSplits (roll-SigType (values a))
type_made a b =
    along
    (fold-roll-SigType (List ℤ) (List ℤ) owner_code type_code (values a))
    (fold_out-SigType (List ℤ) (List ℤ) owner_code type_code b)
    (ap (λ f. f b) (fold-roll-SigType (Owner → Ordering) (SigType → Ordering) owner_step term_step (values a)))
    (layers a (out-SigType b))

owner_made : (a : Owner-F Owners Types) → OwnerSplits (roll-Owner (named a))
owner_made a b =
    along
    (fold-roll-Owner (List ℤ) (List ℤ) owner_code type_code (named a))
    (fold_out-Owner (List ℤ) (List ℤ) owner_code type_code b)
    (ap (λ f. f b) (fold-roll-Owner (Owner → Ordering) (SigType → Ordering) owner_step term_step (named a)))
    (owner_pairs a (out-Owner b))

terms_split : (a : SigType) → TypeSplits a
terms_split = by_layers OwnerSplits TypeSplits owner_made type_made

owners_split : (a : Owner) → OwnerSplits a
owners_split = owner_by_layers OwnerSplits TypeSplits owner_made type_made

as_written : {u v : List ℤ} {r : Ordering} → Splits u v r → lists_order u v ≡ r
as_written {u} {v} {r} p =
    let e : lists_order (u ++ []) (v ++ []) ≡ ordering_then r Equal = p.tells [] [] in
    rw (append-nil u, append-nil v) at e ∙ then_equal r

pub terms_total : IsTotalOrder term_order
terms_total = subst IsTotalOrder (λ i a b. as_written (terms_split a b) i) (on_total written (lists_total int_cmp_total))

pub owners_total : IsTotalOrder owner_order
owners_total = subst IsTotalOrder (λ i a b. as_written (owners_split a b) i) (on_total owner_written (lists_total int_cmp_total))

-- ---- what ties is equal

then_ties : (r s : Ordering) → ordering_then r s ≡ Equal → (r ≡ Equal) × (s ≡ Equal)
then_ties Less s e = absurd (true≢false (sym (ap is_eq e)))
then_ties Equal s e = (refl, e)
then_ties Greater s e = absurd (true≢false (sym (ap is_eq e)))

number_ties : (n m : ℕ) → nat_cmp n m ≡ Equal → n ≡ m
number_ties n m e = ranked n m Equal (sym e)

signed_ties : (i j : ℤ) → int_cmp i j ≡ Equal → i ≡ j
signed_ties i j e = int_ranked i j Equal (sym e)

flag_ties : (v w : Bool) → bool_cmp v w ≡ Equal → v ≡ w
flag_ties false false e = refl
flag_ties false true e = absurd (true≢false (sym (ap is_eq e)))
flag_ties true false e = absurd (true≢false (sym (ap is_eq e)))
flag_ties true true e = refl

lists_tie : {A : Type 0} (R : A → A → Ordering) → ((x y : A) → R x y ≡ Equal → x ≡ y) → (xs ys : List A) → slice_cmp R xs ys ≡ Equal → xs ≡ ys
lists_tie R t [] [] e = refl
lists_tie R t [] (y ∷ ys) e = absurd (true≢false (sym (ap is_eq e)))
lists_tie R t (x ∷ xs) [] e = absurd (true≢false (sym (ap is_eq e)))
lists_tie R t (x ∷ xs) (y ∷ ys) e =
    let d = then_ties (R x y) (slice_cmp R xs ys) e in
    let head : x ≡ y = t x y d.0 in
    let tail : xs ≡ ys = lists_tie R t xs ys d.1 in
    λ i. head i ∷ tail i

scope_ties : (a b : Scope) → scope_order a b ≡ Equal → a ≡ b
scope_ties Here Here e = refl
scope_ties Here (Extern m) e = absurd (true≢false (sym (ap is_eq e)))
scope_ties (Extern n) Here e = absurd (true≢false (sym (ap is_eq e)))
scope_ties (Extern n) (Extern m) e = ap Extern (number_ties n m e)

text_ties : (a b : List ℕ) → text_order a b ≡ Equal → a ≡ b
text_ties = lists_tie nat_cmp number_ties

id_ties : (a b : TypeId) → id_order a b ≡ Equal → a ≡ b
id_ties a b e =
    let d = then_ties (text_order a.space b.space) (text_order a.name b.name) e in
    let s : a.space ≡ b.space = text_ties a.space b.space d.0 in
    let n : a.name ≡ b.name = text_ties a.name b.name d.1 in
    λ i. record { space = s i; name = n i }

name_ties : (a b : TypeName) → name_order a b ≡ Equal → a ≡ b
name_ties a b e =
    let d = then_ties (scope_order a.scope b.scope) (slice_cmp id_order a.path b.path) e in
    let s : a.scope ≡ b.scope = scope_ties a.scope b.scope d.0 in
    let p : a.path ≡ b.path = lists_tie id_order id_ties a.path b.path d.1 in
    λ i. record { scope = s i; path = p i }

abbrev prims : List prim.Primitive
prims = prim_is.Void ∷ prim_is.Bool ∷ prim_is.Char ∷ prim_is.I1 ∷ prim_is.U1 ∷ prim_is.I2 ∷ prim_is.U2 ∷ prim_is.I4 ∷ prim_is.U4 ∷ prim_is.I8 ∷ prim_is.U8 ∷ prim_is.R4 ∷ prim_is.R8 ∷ prim_is.Str ∷ prim_is.Object ∷ prim_is.TypedRef ∷ prim_is.NInt ∷ prim_is.NUint ∷ []

prim_back : (p : prim.Primitive) → get_or prims (prim_place p) prim_is.Void ≡ p
prim_back prim_is.Void = refl
prim_back prim_is.Bool = refl
prim_back prim_is.Char = refl
prim_back prim_is.I1 = refl
prim_back prim_is.U1 = refl
prim_back prim_is.I2 = refl
prim_back prim_is.U2 = refl
prim_back prim_is.I4 = refl
prim_back prim_is.U4 = refl
prim_back prim_is.I8 = refl
prim_back prim_is.U8 = refl
prim_back prim_is.R4 = refl
prim_back prim_is.R8 = refl
prim_back prim_is.Str = refl
prim_back prim_is.Object = refl
prim_back prim_is.TypedRef = refl
prim_back prim_is.NInt = refl
prim_back prim_is.NUint = refl

prim_ties : (p q : prim.Primitive) → prim_place p ≡ prim_place q → p ≡ q
prim_ties p q e = sym (prim_back p) ∙ ap (λ n. get_or prims n prim_is.Void) e ∙ prim_back q

abbrev TypeTies : SigType → Type 0
TypeTies a = (b : SigType) → term_order a b ≡ Equal → a ≡ b

abbrev OwnerTies : Owner → Type 0
OwnerTies a = (b : Owner) → owner_order a b ≡ Equal → a ≡ b

abbrev Tied : Type 0
Tied = TypeWith OwnerTies TypeTies

args_tie : (xs : List Tied) (ys : List SigType) → slice_cmp (λ f y. f y) (map term_order (map (λ (a : Tied). a.0) xs)) ys ≡ Equal → map (λ (a : Tied). a.0) xs ≡ ys
args_tie [] [] e = refl
args_tie [] (b ∷ ys) e = absurd (true≢false (sym (ap is_eq e)))
args_tie (a ∷ xs) [] e = absurd (true≢false (sym (ap is_eq e)))
args_tie (a ∷ xs) (b ∷ ys) e =
    let d = then_ties (term_order a.0 b) (slice_cmp (λ f y. f y) (map term_order (map (λ (c : Tied). c.0) xs)) ys) e in
    let head : a.0 ≡ b = a.1 b d.0 in
    let tail : map (λ (c : Tied). c.0) xs ≡ ys = args_tie xs ys d.1 in
    λ i. head i ∷ tail i

layers_tie : (a : SigType-F (OwnerWith OwnerTies TypeTies) Tied) (b : SigType-F Owner SigType) → ordering_then (nat_cmp (place (order_layer (type_values OwnerTies TypeTies a))) (place b)) (fields_order (order_layer (type_values OwnerTies TypeTies a)) b) ≡ Equal → type_values OwnerTies TypeTies a ≡ b
layers_tie (Prim p) (Prim q) e = ap Prim (prim_ties p q (number_ties (prim_place p) (prim_place q) e))
layers_tie (Class n) (Class m) e = ap Class (name_ties n m e)
layers_tie (Value n) (Value m) e = ap Value (name_ties n m e)
layers_tie (Inst v n xs) (Inst w m ys) e =
    let d = then_ties (bool_cmp v w) _ e in
    let g = then_ties (name_order n m) _ d.1 in
    let p : v ≡ w = flag_ties v w d.0 in
    let q : n ≡ m = name_ties n m g.0 in
    let r = args_tie xs ys g.1 in
    λ i. Inst (p i) (q i) (r i)
layers_tie (Var n) (Var m) e = ap Var (number_ties n m e)
layers_tie (MVar n) (MVar m) e = ap MVar (number_ties n m e)
layers_tie (SzArray a) (SzArray b) e = ap SzArray (a.1 b e)
layers_tie (Array a r s l) (Array b q z w) e =
    let d = then_ties (term_order a.0 b) _ e in
    let g = then_ties (nat_cmp r q) _ d.1 in
    let h = then_ties (slice_cmp nat_cmp s z) (slice_cmp int_cmp l w) g.1 in
    let of : a.0 ≡ b = a.1 b d.0 in
    let rank : r ≡ q = number_ties r q g.0 in
    let sizes : s ≡ z = lists_tie nat_cmp number_ties s z h.0 in
    let lower : l ≡ w = lists_tie int_cmp signed_ties l w h.1 in
    λ i. Array (of i) (rank i) (sizes i) (lower i)
layers_tie (ByRef a) (ByRef b) e = ap ByRef (a.1 b e)
layers_tie (Pointer a) (Pointer b) e = ap Pointer (a.1 b e)
layers_tie (Mod r o a) (Mod q p b) e =
    let d = then_ties (bool_cmp r q) _ e in
    let g = then_ties (owner_order o.0 p) _ d.1 in
    let req : r ≡ q = flag_ties r q d.0 in
    let by : o.0 ≡ p = o.1 p g.0 in
    let of : a.0 ≡ b = a.1 b g.1 in
    λ i. Mod (req i) (by i) (of i)
layers_tie (Pinned a) (Pinned b) e = ap Pinned (a.1 b e)
layers_tie a b e = absurd (true≢false (sym (ap is_eq e)))

owner_pairs_tie : (a : Owner-F (OwnerWith OwnerTies TypeTies) Tied) (b : Owner-F Owner SigType) → owner_layers (order_owner (owner_values OwnerTies TypeTies a)) b ≡ Equal → owner_values OwnerTies TypeTies a ≡ b
owner_pairs_tie (Name n) (Name m) e = ap Name (name_ties n m e)
owner_pairs_tie (Name n) (Spec b) e = absurd (true≢false (sym (ap is_eq e)))
owner_pairs_tie (Spec a) (Name m) e = absurd (true≢false (sym (ap is_eq e)))
owner_pairs_tie (Spec a) (Spec b) e = ap Spec (a.1 b e)

type_tied : (a : SigType-F (OwnerWith OwnerTies TypeTies) Tied) → TypeTies (roll-SigType (type_values OwnerTies TypeTies a))
type_tied a b e =
    let f = ap (λ g. g b) (fold-roll-SigType (Owner → Ordering) (SigType → Ordering) owner_step term_step (type_values OwnerTies TypeTies a)) in
    ap roll-SigType (layers_tie a (out-SigType b) (sym f ∙ e)) ∙ roll-out-SigType b

owner_tied : (a : Owner-F (OwnerWith OwnerTies TypeTies) Tied) → OwnerTies (roll-Owner (owner_values OwnerTies TypeTies a))
owner_tied a b e =
    let f = ap (λ g. g b) (fold-roll-Owner (Owner → Ordering) (SigType → Ordering) owner_step term_step (owner_values OwnerTies TypeTies a)) in
    ap roll-Owner (owner_pairs_tie a (out-Owner b) (sym f ∙ e)) ∙ roll-out-Owner b

terms_tie : (a : SigType) → TypeTies a
terms_tie = by_layers OwnerTies TypeTies owner_tied type_tied

owners_tie : (a : Owner) → OwnerTies a
owners_tie = owner_by_layers OwnerTies TypeTies owner_tied type_tied

pub equal_terms : (a b : SigType) (r : Ordering) → r ≡ term_order a b → (r ≡ Equal) ↔ (a ≡ b)
equal_terms a b r e = (λ h. terms_tie a b (sym e ∙ h), λ h. e ∙ ap (λ c. term_order c b) h ∙ tied_itself terms_total b)

pub equal_owners : (a b : Owner) (r : Ordering) → r ≡ owner_order a b → (r ≡ Equal) ↔ (a ≡ b)
equal_owners a b r e = (λ h. owners_tie a b (sym e ∙ h), λ h. e ∙ ap (λ c. owner_order c b) h ∙ tied_itself owners_total b)
