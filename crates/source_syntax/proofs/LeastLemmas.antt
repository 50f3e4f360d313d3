-- The least of several lists of tokens, and the first of what is broken at them.
use Rattle.std.proofs.Common.{◌≡◌, ℕ, List, [], ◌∷◌, ◌++◌, ap, sym, ◌∙◌, refl, arith, append_assoc}
use Rattle.std.specs.Prelude.{Option, None, Some, nat_lt, if◌then◌else◌, option_map}
use Rattle.std.specs.List.{flat_map}
use Rattle.source_model.specs.Faults.{Broken, earlier, earliest, rule_at}
use Rattle.source_nodes.specs.Least.{least, sooner}

three : (x y z : ℕ) → sooner (sooner (Some x) (Some y)) (Some z) ≡ sooner (Some x) (sooner (Some y) (Some z))
three x y z = grind arith

pub sooner_assoc : (a b c : Option ℕ) → sooner (sooner a b) c ≡ sooner a (sooner b c)
sooner_assoc None b c = refl
sooner_assoc (Some x) None c = refl
sooner_assoc (Some x) (Some y) None = refl
sooner_assoc (Some x) (Some y) (Some z) = three x y z

two : (x y : ℕ) → sooner (Some x) (Some y) ≡ sooner (Some y) (Some x)
two x y = grind arith

pub sooner_comm : (a b : Option ℕ) → sooner a b ≡ sooner b a
sooner_comm None None = refl
sooner_comm None (Some y) = refl
sooner_comm (Some x) None = refl
sooner_comm (Some x) (Some y) = two x y

pub least_append : (xs ys : List ℕ) → least (xs ++ ys) ≡ sooner (least xs) (least ys)
least_append [] ys = refl
least_append (x ∷ xs) ys = ap (sooner (Some x)) (least_append xs ys) ∙ sym (sooner_assoc (Some x) (least xs) (least ys))

swap : (a b c d : Option ℕ) → sooner (sooner a b) (sooner c d) ≡ sooner (sooner a c) (sooner b d)
swap a b c d =
    sooner_assoc a b (sooner c d)
    ∙ ap (sooner a) (sym (sooner_assoc b c d) ∙ ap (λ x. sooner x d) (sooner_comm b c) ∙ sooner_assoc c b d)
    ∙ sym (sooner_assoc a c (sooner b d))

-- what two rules find at each of some things is what each finds at all of them
pub least_of_both : {X : Type 0} (f g : X → List ℕ) (xs : List X)
    → least (flat_map (λ x. f x ++ g x) xs) ≡ sooner (least (flat_map f xs)) (least (flat_map g xs))
least_of_both f g [] = refl
least_of_both f g (x ∷ xs) =
    least_append (f x ++ g x) (flat_map (λ y. f y ++ g y) xs)
    ∙ ap (λ a. sooner a (least (flat_map (λ y. f y ++ g y) xs))) (least_append (f x) (g x))
    ∙ ap (sooner (sooner (least (f x)) (least (g x)))) (least_of_both f g xs)
    ∙ swap (least (f x)) (least (g x)) (least (flat_map f xs)) (least (flat_map g xs))
    ∙ ap (sooner (sooner (least (f x)) (least (flat_map f xs)))) (sym (least_append (g x) (flat_map g xs)))
    ∙ ap (λ a. sooner a (least (g x ++ flat_map g xs))) (sym (least_append (f x) (flat_map f xs)))

pub flat_append : {X : Type 0} (f : X → List ℕ) (xs ys : List X) → flat_map f (xs ++ ys) ≡ flat_map f xs ++ flat_map f ys
flat_append f [] ys = refl
flat_append f (x ∷ xs) ys = ap (λ ks. f x ++ ks) (flat_append f xs ys) ∙ sym (append_assoc (f x) (flat_map f xs) (flat_map f ys))

-- the first of what one rule is broken at is the least of its tokens
abbrev pub broken_at : ℕ → ℕ → Broken
broken_at rule k = record { token = k; rule = rule }

one : (rule x y : ℕ) → earlier (Some (broken_at rule x)) (Some (broken_at rule y)) ≡ Some (broken_at rule (if nat_lt y x then y else x))
one rule x y = grind arith

with_first : (rule x : ℕ) (o : Option ℕ) → earlier (Some (broken_at rule x)) (option_map (broken_at rule) o) ≡ option_map (broken_at rule) (sooner (Some x) o)
with_first rule x None = refl
with_first rule x (Some y) = one rule x y

pub earliest_of_rule : (rule : ℕ) (ks : List ℕ) → earliest (rule_at rule ks) ≡ option_map (broken_at rule) (least ks)
earliest_of_rule rule [] = refl
earliest_of_rule rule (k ∷ ks) = ap (earlier (Some (broken_at rule k))) (earliest_of_rule rule ks) ∙ with_first rule k (least ks)

pub earliest_by : (rule : ℕ) (o : Option ℕ) (ks : List ℕ) → o ≡ least ks → option_map (broken_at rule) o ≡ earliest (rule_at rule ks)
earliest_by rule o ks e = ap (option_map (broken_at rule)) e ∙ sym (earliest_of_rule rule ks)
