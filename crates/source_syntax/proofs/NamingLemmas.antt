-- The names of declarations, and those of them that stand there twice.
use Rattle.std.proofs.Common.{◌≡◌, ℕ, zero, suc, ◌+◌, ◌-◌, ◌<◌, ◌≤◌, inl, inr, List, [], ◌∷◌, ◌++◌, Option, None, Some, length, cond, map, take, drop, refl, ap, sym, subst, ◌∙◌, arith, append_assoc}
use Rattle.std.specs.Prelude.{Bool, true, false, not, ◌||◌, if◌then◌else◌, nat_lt, get_or, slice_get, position, bytes_eq, reverse, All, ⊤, filter}
use Rattle.std.specs.List.{flat_map, list_any, position_or_len}
use Rattle.std.proofs.lemmas.Bool.{cases_Bool, lt-ltb, ltb-true}
use Rattle.std.proofs.lemmas.List.{map-append, drop_more, get_or-map, take-map}
use Rattle.il_lexer.specs.declared.types.TokenKind.TheVariants as kind
use Rattle.ilasm_grammar.specs.declared.productions.TheConstants.{ASSEMBLY_EXTERN, DATA, DATA_LABEL, TYPARS_OPT_SOME}
use Rattle.ilasm_grammar.specs.declared.tree.TreeNode.{TreeNode}
use Rattle.ilasm_grammar.specs.declared.tree.TreeNode.TheVariants.{Branch}
use Rattle.source_model.specs.Data.{labelled, label_token}
use Rattle.source_model.specs.DeclaredTwice.{data_twice, externs_twice, repeats, repeats_after}
use Rattle.source_model.specs.Forest.{Forest, none, leaf, branch, preorder, child, each, has, leaf_at}
use Rattle.source_model.specs.Laws.{ForestsJoin}
use Rattle.source_model.specs.Names.{externs, key_token}
use Rattle.source_model.specs.Nodes.{typar_names, typars}
use Rattle.source_model.specs.Source.{Source}
use Rattle.source_model.specs.Values.{name_text}
use Rattle.source_nodes.specs.Derived.{HasBodies, OfEach}
use Rattle.source_nodes.specs.Least.{least, sooner}
use Rattle.source_syntax.specs.Namings.{AreNames, names_in, production_of, tokens_named}
use Rattle.source_nodes.specs.Readers.{IsOf}
use Rattle.source_syntax.specs.Repeats.{is_repeat}
use Rattle.source_nodes.specs.Walk.{Opens, is_of}
use Rattle.source_syntax.specs.declared.name_lists.Naming.{Naming}
use Rattle.source_syntax.specs.declared.name_lists.Naming.TheVariants.{Assembly, Label, Own, Slash, Typar}
use Rattle.source_nodes.specs.declared.walk.Opened.{Opened}
use Rattle.source_nodes.proofs.Collecting.{SoFar, each_other, each_own, ends, goes_in, is_other, starts}
use Rattle.source_syntax.proofs.LeastLemmas.{least_append, sooner_assoc}
use Rattle.source_nodes.proofs.WrittenNames.{slash_names}
use Rattle.source_syntax.proofs.NameTokens.{Each, IsBody, all_of_each, each_append, each_body, child_bodies, assembly_is_name, key_is_name, label_is_name, typar_is_name}

-- ---- the first place of a text, and whether it stands before another

any_before : {X : Type 0} (p : X → Bool) (xs : List X) (k : ℕ) → k ≤ length xs → list_any p (take k xs) ≡ nat_lt (position_or_len p xs) k
any_before p [] zero h = refl
any_before p [] (suc k) h = absurd (omega arith)
any_before p (x ∷ xs) zero h = sym (never (position_or_len p (x ∷ xs)))
  where
    never : (n : ℕ) → nat_lt n 0 ≡ false
    never n = elim (cases_Bool (nat_lt n 0)) [
      | inl e ↦ let less = ltb-true n 0 e in absurd (omega (arith, less))
      | inr e ↦ e
    ]
any_before p (x ∷ xs) (suc k) h = go (λ m. any_before p xs k m) (p x) refl
  where
    one_less : (m : ℕ) → nat_lt m k ≡ nat_lt (1 + m) (suc k)
    one_less m = grind arith

    go : (k ≤ length xs → list_any p (take k xs) ≡ nat_lt (position_or_len p xs) k) → (b : Bool) → p x ≡ b → (b || list_any p (take k xs)) ≡ nat_lt (cond (not b) (1 + position_or_len p xs) 0) (suc k)
    go rest true e = sym (lt-ltb 0 (suc k) (omega arith))
    go rest false e = rest (omega (arith, h)) ∙ one_less (position_or_len p xs)

pub repeat_if_found : (names : List (List ℕ)) (text : List ℕ) (k first : ℕ) → k < length names → text ≡ get_or names k []
    → position (bytes_eq text) names ≡ Some first → nat_lt first k ≡ is_repeat names k
repeat_if_found names text k first within is at =
    ap (λ m. nat_lt m k) (sym (place (position_or_len (bytes_eq text) names) at))
    ∙ sym (any_before (bytes_eq text) names k (omega (arith, within)))
    ∙ ap (λ x. list_any (bytes_eq x) (take k names)) is
  where
    place : (m : ℕ) → cond (nat_lt m (length names)) (Some m) None ≡ Some first → m ≡ first
    place m e = elim (cases_Bool (nat_lt m (length names))) [
      | inl y ↦ let same : Some m ≡ Some first = sym (ap (λ b. cond b (Some m) None) y) ∙ e in cc
      | inr n ↦ let none : None ≡ Some first = sym (ap (λ b. cond b (Some m) None) n) ∙ e in absurd cc
    ]

pub no_repeat_if_absent : (names : List (List ℕ)) (text : List ℕ) (k : ℕ) → k < length names → text ≡ get_or names k []
    → position (bytes_eq text) names ≡ None → false ≡ is_repeat names k
no_repeat_if_absent names text k within is at =
    sym (over (position_or_len (bytes_eq text) names) at)
    ∙ sym (any_before (bytes_eq text) names k (omega (arith, within)))
    ∙ ap (λ x. list_any (bytes_eq x) (take k names)) is
  where
    over : (m : ℕ) → cond (nat_lt m (length names)) (Some m) None ≡ None → nat_lt m k ≡ false
    over m e = elim (cases_Bool (nat_lt m k)) [
      | inr n ↦ n
      | inl y ↦
          let less = ltb-true m k y in
          let some : Some m ≡ None = sym (ap (λ b. cond b (Some m) None) (lt-ltb m (length names) (omega (arith, less, within)))) ∙ e in
          absurd cc
    ]

-- ---- what repeats in a list and in what it is mapped to

module _ {X Y : Type 0} (same : Y → Y → Bool) (h : X → Y) where
  any_mapped : (y : Y) (zs : List X) → list_any (λ z. same y (h z)) zs ≡ list_any (same y) (map h zs)
  any_mapped y [] = refl
  any_mapped y (z ∷ zs) = ap (λ b. same y (h z) || b) (any_mapped y zs)

  one_mapped : (x : X) (b : Bool) → map h (if b then x ∷ [] else []) ≡ (if b then h x ∷ [] else [])
  one_mapped x true = refl
  one_mapped x false = refl

  mapped_after : (before xs : List X) → map h (repeats_after (λ x y. same (h x) (h y)) before xs) ≡ repeats_after same (map h before) (map h xs)
  mapped_after before [] = refl
  mapped_after before (x ∷ xs) =
      let rest = repeats_after (λ u v. same (h u) (h v)) (before ++ x ∷ []) xs in
      map-append h (if list_any (λ z. same (h x) (h z)) before then x ∷ [] else []) rest
      ∙ ap (λ ys. ys ++ map h rest)
      (one_mapped x (list_any (λ z. same (h x) (h z)) before) ∙ ap (λ (b : Bool). if b then h x ∷ [] else []) (any_mapped (h x) before))
      ∙ ap (λ ys. (if list_any (same (h x)) (map h before) then h x ∷ [] else []) ++ ys)
      (mapped_after (before ++ x ∷ []) xs ∙ ap (λ zs. repeats_after same zs (map h xs)) (map-append h before (x ∷ [])))

  pub repeats_mapped : (xs : List X) → map h (repeats (λ x y. same (h x) (h y)) xs) ≡ repeats same (map h xs)
  repeats_mapped xs = mapped_after [] xs

-- ---- a walk along a list for what repeats

module _ (text : ℕ → List ℕ) where
  abbrev pub same_text : ℕ → ℕ → Bool
  same_text j k = bytes_eq (text j) (text k)

  repeat_is : (tokens : List ℕ) (names : List (List ℕ)) (k : ℕ) → k < length tokens → names ≡ map text tokens
      → is_repeat names k ≡ list_any (same_text (get_or tokens k 0)) (take k tokens)
  repeat_is tokens names k within e =
      ap (λ ns. is_repeat ns k) e
      ∙ ap (λ x. list_any (bytes_eq x) (take k (map text tokens))) (get_or-map text tokens k 0 [] within)
      ∙ ap (list_any (bytes_eq (text (get_or tokens k 0)))) (take-map text k tokens)
      ∙ sym (any_mapped bytes_eq text (text (get_or tokens k 0)) (take k tokens))

  one_more : (tokens : List ℕ) (k : ℕ) → k < length tokens → take (suc k) tokens ≡ take k tokens ++ get_or tokens k 0 ∷ []
  one_more [] k within = absurd (omega (arith, within))
  one_more (x ∷ tokens) zero within = refl
  one_more (x ∷ tokens) (suc k) within = ap (λ ys. x ∷ ys) (one_more tokens k (omega (arith, within)))

  -- what was found, with what repeats in the rest
  abbrev pub Found : List ℕ → ℕ → Option ℕ → Type 0
  Found tokens k found = sooner found (least (repeats_after same_text (take k tokens) (drop k tokens))) ≡ least (repeats same_text tokens)

  rest_is : (tokens : List ℕ) (k : ℕ) → k < length tokens
      → repeats_after same_text (take k tokens) (drop k tokens)
      ≡ (if list_any (same_text (get_or tokens k 0)) (take k tokens) then get_or tokens k 0 ∷ [] else [])
      ++ repeats_after same_text (take (suc k) tokens) (drop (suc k) tokens)
  rest_is tokens k within =
      ap (repeats_after same_text (take k tokens)) (drop_more tokens k 0 within ∙ ap (λ m. get_or tokens k 0 ∷ drop m tokens) (plus_one k))
      ∙ ap (λ zs. (if list_any (same_text (get_or tokens k 0)) (take k tokens) then get_or tokens k 0 ∷ [] else []) ++ repeats_after same_text zs (drop (suc k) tokens))
      (sym (one_more tokens k within))
    where
      plus_one : (m : ℕ) → m + 1 ≡ suc m
      plus_one m = omega arith

  one_on : (n : ℕ) → suc n ≡ n + 1
  one_on n = omega arith

  pub found_repeat : (tokens : List ℕ) (names : List (List ℕ)) (k token : ℕ) (found : Option ℕ) → k < length tokens → names ≡ map text tokens
      → is_repeat names k ≡ true → token ≡ get_or tokens k 0 → Found tokens k found → Found tokens (k + 1) (sooner found (Some token))
  found_repeat tokens names k token found within e again is so_far =
      let rest = repeats_after same_text (take (suc k) tokens) (drop (suc k) tokens) in
      subst (λ m. Found tokens m (sooner found (Some token))) (one_on k) (sooner_assoc found (Some token) (least rest)
      ∙ ap (λ t. sooner found (sooner (Some t) (least rest))) is
      ∙ ap (sooner found) (sym (ap least (rest_is tokens k within
      ∙ ap (λ (b : Bool). (if b then get_or tokens k 0 ∷ [] else []) ++ rest) (sym (repeat_is tokens names k within e) ∙ again))))
      ∙ so_far)

  pub found_other : (tokens : List ℕ) (names : List (List ℕ)) (k : ℕ) (found : Option ℕ) → k < length tokens → names ≡ map text tokens
      → is_repeat names k ≡ false → Found tokens k found → Found tokens (k + 1) found
  found_other tokens names k found within e once so_far =
      let rest = repeats_after same_text (take (suc k) tokens) (drop (suc k) tokens) in
      subst (λ m. Found tokens m found) (one_on k) (ap (λ ks. sooner found (least ks)) (sym (rest_is tokens k within
      ∙ ap (λ (b : Bool). (if b then get_or tokens k 0 ∷ [] else []) ++ rest) (sym (repeat_is tokens names k within e) ∙ once)))
      ∙ so_far)

  pub found_all : (tokens : List ℕ) (k : ℕ) (found : Option ℕ) → length tokens ≤ k → Found tokens k found → found ≡ least (repeats same_text tokens)
  found_all tokens k found over so_far =
      nothing found ∙ ap (λ ks. sooner found (least (repeats_after same_text (take k tokens) ks))) (sym (past tokens k over)) ∙ so_far
    where
      nothing : (o : Option ℕ) → o ≡ sooner o None
      nothing None = refl
      nothing (Some x) = refl

      past : (xs : List ℕ) (n : ℕ) → length xs ≤ n → drop n xs ≡ []
      past [] zero h = refl
      past [] (suc n) h = refl
      past (x ∷ xs) zero h = absurd (omega (arith, h))
      past (x ∷ xs) (suc n) h = past xs n (omega (arith, h))

-- ---- the names of a source

each_named : (s : Source) (naming : Naming) (f : Forest) → IsBody s (production_of naming) f → Each (IsOf s kind.Name) (tokens_named naming f)
each_named s Assembly f h = (key_is_name s f h, tt)
each_named s Label f h = go (has DATA_LABEL f) refl
  where
    go : (b : Bool) → has DATA_LABEL f ≡ b → Each (IsOf s kind.Name) (if b then label_token f ∷ [] else [])
    go true e = (label_is_name s f e h.1, tt)
    go false e = tt
each_named s Typar f h = (typar_is_name s f h, tt)
each_named s Slash f h = (slash_names s f h.0, tt)
each_named s Own f h = (assembly_is_name s f h, tt)

all_named : (s : Source) (naming : Naming) (fs : List Forest) → Each (IsBody s (production_of naming)) fs → Each (IsOf s kind.Name) (flat_map (tokens_named naming) fs)
all_named s naming [] h = tt
all_named s naming (f ∷ fs) h = each_append (IsOf s kind.Name) (tokens_named naming f) (flat_map (tokens_named naming) fs) (each_named s naming f h.0) (all_named s naming fs h.1)

-- they are names
pub names_are_names : (s : Source) (naming : Naming) (f : Forest) → HasBodies s f → All (IsOf s kind.Name) (names_in naming f)
names_are_names s naming f h = all_of_each (IsOf s kind.Name) (names_in naming f) (all_named s naming (each (production_of naming) f) (each_body s (production_of naming) f h))

keys_are : (fs : List Forest) → flat_map (tokens_named Assembly) fs ≡ map key_token fs
keys_are [] = refl
keys_are (f ∷ fs) = ap (λ ks. key_token f ∷ ks) (keys_are fs)

pub labels_are : (fs : List Forest) → flat_map (tokens_named Label) fs ≡ map label_token (filter (has DATA_LABEL) fs)
labels_are [] = refl
labels_are (f ∷ fs) = go (labels_are fs) (has DATA_LABEL f) refl
  where
    go : flat_map (tokens_named Label) fs ≡ map label_token (filter (has DATA_LABEL) fs) → (b : Bool) → has DATA_LABEL f ≡ b → (if b then label_token f ∷ [] else []) ++ flat_map (tokens_named Label) fs
        ≡ map label_token (cond b (f ∷ filter (has DATA_LABEL) fs) (filter (has DATA_LABEL) fs))
    go rest true e = ap (λ ks. label_token f ∷ ks) rest
    go rest false e = rest

pub keys_repeat : (s : Source) → least (repeats (same_text (name_text s)) (names_in Assembly s.tree)) ≡ least (externs_twice s)
keys_repeat s = ap least (ap (repeats (same_text (name_text s))) (keys_are (externs s)) ∙ sym (repeats_mapped (same_text (name_text s)) key_token (externs s)))

pub labels_repeat : (s : Source) → least (repeats (same_text (name_text s)) (names_in Label s.tree)) ≡ least (data_twice s)
labels_repeat s =
    ap least (ap (repeats (same_text (name_text s))) (labels_are (each DATA s.tree)) ∙ sym (repeats_mapped (same_text (name_text s)) label_token (labelled s)))

typars_are : (s : Source) (fs : List Forest) → map (name_text s) (flat_map (tokens_named Typar) fs) ≡ map (λ g. name_text s (leaf_at 0 g)) fs
typars_are s [] = refl
typars_are s (f ∷ fs) = ap (λ ts. name_text s (leaf_at 0 f) ∷ ts) (typars_are s fs)

-- the names of the generic parameters of a class or a method
pub typar_names_are : (s : Source) (f : Forest) → map (name_text s) (names_in Typar (child (TYPARS_OPT_SOME ∷ []) f)) ≡ typar_names s f
typar_names_are s f = typars_are s (typars f)

pub typars_are_names : (s : Source) (f : Forest) → HasBodies s f → All (IsOf s kind.Name) (names_in Typar (child (TYPARS_OPT_SOME ∷ []) f))
typars_are_names s f h = names_are_names s Typar (child (TYPARS_OPT_SOME ∷ []) f) (child_bodies s (TYPARS_OPT_SOME ∷ []) f h)

-- ---- a walk for the names

abbrev pub Any : ℕ → Forest → Type 0
Any p f = ⊤

any_bodies : (f : Forest) → OfEach Any f
any_bodies none = tt
any_bodies (leaf k a) = any_bodies a
any_bodies (branch p b a) = (tt, any_bodies b, any_bodies a)

module _ (naming : Naming) where
  abbrev pub Names : Forest → List TreeNode → List ℕ → Type 0
  Names f left found = SoFar Any (names_in naming) (names_in naming f) left found

  pub names_start : (f : Forest) (nodes : List TreeNode) → preorder f ≡ nodes → Names f nodes []
  names_start f nodes e = starts Any (names_in naming) (names_in naming f) f nodes [] e (any_bodies f) refl

  pub names_take : (f : Forest) (left : List TreeNode) (x : Opened) (found more : List ℕ) (p count : ℕ) → Opens left x → x.node ≡ Branch p count
      → p ≡ production_of naming → ((b : Forest) → preorder b ≡ x.below.now → more ≡ found ++ tokens_named naming b) → Names f left found → Names f x.after.now more
  names_take f left x found more p count o is own adds sf =
      let b = o.branch sf.rest p count sf.is is in
      record {
        rest = b.rest;
        is = b.rest-is;
        each = any_bodies b.rest;
        same = ap (λ ks. ks ++ names_in naming b.rest) (adds b.inner b.inner-is) ∙ append_assoc found (tokens_named naming b.inner) (names_in naming b.rest)
            ∙ ap (λ ks. found ++ ks) (sym (taken b.inner b.rest) ∙ ap (names_in naming) (sym b.is)) ∙ sf.same;
      }
    where
      taken : (b a : Forest) → names_in naming (branch p b a) ≡ tokens_named naming b ++ names_in naming a
      taken b a =
          ap (λ q. flat_map (tokens_named naming) (each (production_of naming) (branch q b a))) own
          ∙ ap (flat_map (tokens_named naming)) (each_own (production_of naming) b a)

  pub names_go_in : ForestsJoin → (f : Forest) (left : List TreeNode) (x : Opened) (found : List ℕ) → Opens left x → is_of (production_of naming) x.node ≡ false
      → Names f left found → Names f x.behind.now found
  names_go_in joins f left x found o other sf =
      goes_in Any (names_in naming) (names_in naming f) left x found o (λ k a. refl)
      (λ q count b a is. ap (flat_map (tokens_named naming)) (each_other (production_of naming) joins q b a (is_other (production_of naming) x.node q count other is))) sf

  pub names_end : (f : Forest) (left : List TreeNode) (found : List ℕ) → left ≡ [] → Names f left found → found ≡ names_in naming f
  names_end f left found e sf = ends Any (names_in naming) (names_in naming f) left found e refl sf

-- ---- a walk back along names

pub text_before : (s : Source) (tokens : List ℕ) (names longer : List (List ℕ)) (k token : ℕ) (text : List ℕ) → 0 < k → k ≤ length tokens
    → token ≡ get_or tokens (k - 1) 0 → text ≡ name_text s token → names ≡ map (name_text s) (drop k tokens) → longer ≡ text ∷ names
    → longer ≡ map (name_text s) (drop (k - 1) tokens)
text_before s tokens names longer zero token text some within at is so_far more = absurd (omega (arith, some))
text_before s tokens names longer (suc k) token text some within at is so_far more =
    more ∙ ap (λ n. n ∷ names) (is ∙ ap (name_text s) (at ∙ ap (λ m. get_or tokens m 0) (one_less k))) ∙ ap (λ ns. name_text s (get_or tokens k 0) ∷ ns) so_far
    ∙ ap (map (name_text s)) (ap (λ m. get_or tokens k 0 ∷ drop m tokens) (plus_one k) ∙ sym (drop_more tokens k 0 (omega (arith, within))))
    ∙ ap (λ m. map (name_text s) (drop m tokens)) (sym (one_less k))
  where
    one_less : (n : ℕ) → suc n - 1 ≡ n
    one_less n = omega arith

    plus_one : (n : ℕ) → suc n ≡ n + 1
    plus_one n = omega arith
