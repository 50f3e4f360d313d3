-- Names that aren't declared, from what is found of them.
use Rattle.std.proofs.Common.{◌≡◌, ℕ, suc, ◌+◌, List, [], ◌∷◌, ◌++◌, None, Some, length, cond, map, refl, ap, sym, ◌∙◌, arith}
use Rattle.std.specs.Prelude.{Bool, true, false, not, ◌||◌, ◌==◌, if◌then◌else◌, nat_lt, position, bytes_eq, is_some, find, filter}
use Rattle.std.specs.List.{flat_map, list_any, position_or_len}
use Rattle.ilasm_grammar.specs.declared.productions.TheConstants.{AT_NAME}
use Rattle.source_model.specs.Data.{label_token, labelled}
use Rattle.source_model.specs.Forest.{Forest, leaf_at}
use Rattle.source_model.specs.Nodes.{Node, nodes}
use Rattle.source_model.specs.Source.{Source}
use Rattle.source_model.specs.TypeRules.{name_unless_among}
use Rattle.source_model.specs.Undeclared.{data_undeclared, label_undeclared_of}
use Rattle.source_model.specs.Values.{name_text}
use Rattle.source_nodes.specs.Least.{least}
use Rattle.check_names.specs.Missing.{label_missing}
use Rattle.source_syntax.proofs.ScopeLemmas.{either_way}

-- ---- the first that passes is there where any passes

module _ {X : Type 0} (p : X → Bool) where
  pub some_place : (xs : List X) → is_some (position p xs) ≡ list_any p xs
  some_place xs = within (position_or_len p xs) ∙ len xs
    where
      within : (m : ℕ) → is_some (cond (nat_lt m (length xs)) (Some m) None) ≡ nat_lt m (length xs)
      within m = go (nat_lt m (length xs))
        where
          go : (b : Bool) → is_some (cond b (Some m) None) ≡ b
          go true = refl
          go false = refl

      len : (ys : List X) → nat_lt (position_or_len p ys) (length ys) ≡ list_any p ys
      len [] = refl
      len (y ∷ ys) = go (p y) (len ys)
        where
          go : (b : Bool) → nat_lt (position_or_len p ys) (length ys) ≡ list_any p ys
              → nat_lt (cond (not b) (1 + position_or_len p ys) 0) (suc (length ys)) ≡ (b || list_any p ys)
          go true e = positive (length ys)
            where
              positive : (n : ℕ) → nat_lt 0 (suc n) ≡ true
              positive n = grind arith
          go false e = both (position_or_len p ys) (length ys) ∙ e
            where
              both : (m n : ℕ) → nat_lt (1 + m) (suc n) ≡ nat_lt m n
              both m n = grind arith

  pub some_found : (xs : List X) → is_some (find p xs) ≡ list_any p xs
  some_found [] = refl
  some_found (x ∷ xs) = go (p x) (some_found xs)
    where
      go : (b : Bool) → is_some (find p xs) ≡ list_any p xs → is_some (cond b (Some x) (find p xs)) ≡ (b || list_any p xs)
      go true e = refl
      go false e = e

pub any_same : {X : Type 0} (p q : X → Bool) (xs : List X) → ((x : X) → p x ≡ q x) → list_any p xs ≡ list_any q xs
any_same p q [] same = refl
any_same p q (x ∷ xs) same = ap (λ b. b || list_any p xs) (same x) ∙ ap (λ b. q x || b) (any_same p q xs same)

-- ---- one name

pub there : (s : Source) (names : List (List ℕ)) (token at : ℕ) (text : List ℕ) → text ≡ name_text s token → position (bytes_eq text) names ≡ Some at
    → None ≡ least (name_unless_among s names token)
there s names token at text is found =
    let any : list_any (bytes_eq (name_text s token)) names ≡ true =
    ap (λ x. list_any (bytes_eq x) names) (sym is) ∙ sym (some_place (bytes_eq text) names) ∙ ap is_some found in
    sym (ap (λ (b : Bool). least (if b then [] else token ∷ [])) any)

pub absent : (s : Source) (names : List (List ℕ)) (token : ℕ) (text : List ℕ) → text ≡ name_text s token → position (bytes_eq text) names ≡ None
    → Some token ≡ least (name_unless_among s names token)
absent s names token text is none =
    let any : list_any (bytes_eq (name_text s token)) names ≡ false =
    ap (λ x. list_any (bytes_eq x) names) (sym is) ∙ sym (some_place (bytes_eq text) names) ∙ ap is_some none in
    sym (ap (λ (b : Bool). least (if b then [] else token ∷ [])) any)

-- ---- what is found at the productions of some kinds

pub flat_same : {X : Type 0} (f g : X → List ℕ) (xs : List X) → ((x : X) → f x ≡ g x) → flat_map f xs ≡ flat_map g xs
flat_same f g [] same = refl
flat_same f g (x ∷ xs) same = ap (λ ks. ks ++ flat_map f xs) (same x) ∙ ap (λ ks. g x ++ ks) (flat_same f g xs same)

pub flat_filtered : {X : Type 0} (p : X → Bool) (f : X → List ℕ) (xs : List X) → flat_map f (filter p xs) ≡ flat_map (λ x. if p x then f x else []) xs
flat_filtered p f [] = refl
flat_filtered p f (x ∷ xs) = go (p x) (flat_filtered p f xs)
  where
    go : (b : Bool) → flat_map f (filter p xs) ≡ flat_map (λ y. if p y then f y else []) xs
        → flat_map f (cond b (x ∷ filter p xs) (filter p xs)) ≡ (if b then f x else []) ++ flat_map (λ y. if p y then f y else []) xs
    go true e = ap (λ ks. f x ++ ks) e
    go false e = e

-- ---- labels

labelled_any : (s : Source) (text : List ℕ) (fs : List Forest)
    → list_any (λ f. bytes_eq (name_text s (label_token f)) text) fs ≡ list_any (bytes_eq text) (map (name_text s) (map label_token fs))
labelled_any s text [] = refl
labelled_any s text (f ∷ fs) =
    ap (λ b. b || list_any (λ g. bytes_eq (name_text s (label_token g)) text) fs) (either_way (name_text s (label_token f)) text)
    ∙ ap (λ b. bytes_eq text (name_text s (label_token f)) || b) (labelled_any s text fs)

one_label : (s : Source) (names : List (List ℕ)) → names ≡ map (name_text s) (map label_token (labelled s)) → (n : Node)
    → label_undeclared_of s n ≡ name_unless_among s names (leaf_at 1 n.below)
one_label s names e n =
    ap (λ (b : Bool). if b then [] else leaf_at 1 n.below ∷ [])
    (some_found (λ f. bytes_eq (name_text s (label_token f)) (name_text s (leaf_at 1 n.below))) (labelled s)
    ∙ labelled_any s (name_text s (leaf_at 1 n.below)) (labelled s) ∙ ap (list_any (bytes_eq (name_text s (leaf_at 1 n.below)))) (sym e))

pub labels_missing : (s : Source) (names : List (List ℕ)) → names ≡ map (name_text s) (map label_token (labelled s))
    → flat_map (label_missing names s) (nodes s) ≡ data_undeclared s
labels_missing s names e =
    sym (flat_filtered (λ (n : Node). (AT_NAME == n.production) || false) (label_undeclared_of s) (nodes s)
    ∙ flat_same _ (label_missing names s) (nodes s) same)
  where
    same : (n : Node) → (if (AT_NAME == n.production) || false then label_undeclared_of s n else []) ≡ label_missing names s n
    same n =
        ap (λ ks. if (AT_NAME == n.production) || false then ks else []) (one_label s names e n)
        ∙ ap (λ (b : Bool). if b then name_unless_among s names (leaf_at 1 n.below) else []) (turned n.production)
      where
        turned : (p : ℕ) → ((AT_NAME == p) || false) ≡ (p == AT_NAME)
        turned p = grind arith
