-- The lengths of data, counted up to a most.
use Rattle.std.proofs.Common.{◌≡◌, ℕ, zero, suc, ◌+◌, ◌≤◌, List, [], ◌∷◌, ◌++◌, cond, map, min, subst, append_assoc, ap, sym, ◌∙◌, refl, arith, Option, None, Some}
use Rattle.std.specs.Prelude.{Bool, true, false, ◌||◌, fold, if◌then◌else◌, filter, find, bytes_eq, position, option_map, slice_get}
use Rattle.std.specs.List.{list_any}
use Rattle.std.proofs.lemmas.Option.{slice_get-map}
use Rattle.std.proofs.lemmas.Slice.Eq.{bytes_eq-Decides}
use Rattle.ilasm_grammar.specs.declared.productions.TheConstants.{DATA, DATA_LABEL}
use Rattle.ilasm_grammar.specs.declared.tree.TreeNode.{TreeNode}
use Rattle.ilasm_grammar.specs.declared.tree.TreeNode.TheVariants.{Branch}
use Rattle.source_model.specs.Data.{data_items, data_length, data_named, item_length, label_token, labelled}
use Rattle.source_model.specs.Forest as tree
use Rattle.source_model.specs.Forest.{Forest, Part, each, has, joined, part, preorder}
use Rattle.source_model.specs.Laws.{ForestsJoin}
use Rattle.source_model.specs.OutOfRange.{stands_too_often}
use Rattle.source_model.specs.Source.{Source}
use Rattle.source_model.specs.Values.{name_text}
use Rattle.source_nodes.specs.Derived.{FitsBody, HasBodies}
use Rattle.source_nodes.specs.Walk.{Opens, is_of}
use Rattle.source_nodes.specs.declared.walk.Opened.{Opened}
use Rattle.source_nodes.proofs.Collecting.{SoFar, each_other, each_own, ends, goes_in, is_other, starts}
use Rattle.source_nodes.specs.declared.reader.Reader.{Reader}
use Rattle.source_syntax.proofs.LabelLemmas.{position_first}
use Rattle.check_names.specs.DataItems.{is_item, known_length}
use Rattle.check_names.specs.MappedData.{counted_by, counted_length, length_labelled}
use Rattle.check_names.proofs.DataLemmas.{In, items_other, items_own}

-- ---- sums

abbrev pub sum_from : Source → ℕ → List Part → ℕ
sum_from s n ps = fold (λ m p. m + item_length s p) n ps

same_sum : (s : Source) (most m n : ℕ) (ps : List Part) → min m most ≡ min n most → min (sum_from s m ps) most ≡ min (sum_from s n ps) most
same_sum s most m n [] e = e
same_sum s most m n (p ∷ ps) e =
    let next : min (m + item_length s p) most ≡ min (n + item_length s p) most = omega (arith, e) in
    same_sum s most (m + item_length s p) (n + item_length s p) ps next

grown : (s : Source) (n : ℕ) (ps : List Part) → n ≤ sum_from s n ps
grown s n [] = omega arith
grown s n (p ∷ ps) = let more = grown s (n + item_length s p) ps in omega (arith, more)

abbrev pub too_often : Source → List Part → Bool
too_often s ps = list_any (λ p. stands_too_often s p.below) ps

-- the length with what is left, with so many bytes before it
abbrev pub sum_by : Source → Bool → ℕ → List Part → ℕ
sum_by s out n ps = if out then 0x100000000 else min (sum_from s n ps) 0x100000000

abbrev pub sum_asked : Source → ℕ → List Part → ℕ
sum_asked s n ps = sum_by s (too_often s ps) n ps

abbrev pub counted : ℕ → (r : Reader) (nodes : List TreeNode) → In r nodes → Forest → ℕ
counted total r nodes i f = sum_asked i.source total (data_items f)

pub counted_all : (s : Source) (f : Forest) → sum_asked s 0 (data_items f) ≡ counted_length s f
counted_all s f = go (too_often s (data_items f))
  where
    go : (c : Bool) → sum_by s c 0 (data_items f) ≡ counted_by (if c then None else Some (data_length s f))
    go true = refl
    go false = refl

module _ (s : Source) (total : ℕ) where
  one_counted : (next : ℕ) (p : Part) (ps : List Part) (out more : Bool) → next ≡ min (total + counted_by (if out then None else Some (item_length s p))) 0x100000000
      → sum_by s more next ps ≡ sum_by s (out || more) total (p ∷ ps)
  one_counted next p ps true true e = refl
  one_counted next p ps false true e = refl
  one_counted next p ps true false e =
      let large : next ≡ 0x100000000 = omega (arith, e) in
      let least = grown s next ps in
      omega (arith, large, least)
  one_counted next p ps false false e =
      let same : min next 0x100000000 ≡ min (total + item_length s p) 0x100000000 = omega (arith, e) in
      same_sum s 0x100000000 next (total + item_length s p) ps same

  pub counted_item : (length : Option ℕ) (next q : ℕ) (b a : Forest) → is_item q ≡ true → length ≡ known_length s (part q b) → next ≡ min (total + counted_by length) 0x100000000
      → sum_asked s next (data_items a) ≡ sum_asked s total (data_items (tree.branch q b a))
  counted_item length next q b a own is more =
      one_counted next (part q b) (data_items a) (stands_too_often s b) (too_often s (data_items a)) (more ∙ ap (λ o. min (total + counted_by o) 0x100000000) is)
      ∙ ap (λ ps. sum_asked s total ps) (sym (items_own q b a own))

  pub counted_other : ForestsJoin → (q : ℕ) (b a : Forest) → is_item q ≡ false
      → sum_asked s total (data_items (joined b a)) ≡ sum_asked s total (data_items (tree.branch q b a))
  counted_other joins q b a other = ap (λ ps. sum_asked s total ps) (items_other joins q b a other)

-- ---- data with labels

module _ (s : Source) where
  -- the lengths of those in a forest
  abbrev pub lengths_in : Forest → List ℕ
  lengths_in f = map (counted_length s) (filter (has DATA_LABEL) (each DATA f))

  abbrev pub Lengths : Forest → List TreeNode → List ℕ → Type 0
  Lengths f left found = SoFar (FitsBody s) lengths_in (lengths_in f) left found

  pub lengths_start : (f : Forest) (nodes : List TreeNode) → preorder f ≡ nodes → HasBodies s f → Lengths f nodes []
  lengths_start f nodes e h = starts (FitsBody s) lengths_in (lengths_in f) f nodes [] e h refl

  taken : (b a : Forest) → lengths_in (tree.branch DATA b a) ≡ length_labelled s b ++ lengths_in a
  taken b a = ap (λ fs. map (counted_length s) (filter (has DATA_LABEL) fs)) (each_own DATA b a) ∙ go (has DATA_LABEL b)
    where
      go : (c : Bool) → map (counted_length s) (cond c (b ∷ filter (has DATA_LABEL) (each DATA a)) (filter (has DATA_LABEL) (each DATA a)))
          ≡ (if c then counted_length s b ∷ [] else []) ++ lengths_in a
      go true = refl
      go false = refl

  pub lengths_take : (f : Forest) (left : List TreeNode) (x : Opened) (found more : List ℕ) (count : ℕ) → Opens left x → x.node ≡ Branch DATA count
      → ((b : Forest) → preorder b ≡ x.below.now → HasBodies s b → more ≡ found ++ length_labelled s b) → Lengths f left found → Lengths f x.after.now more
  lengths_take f left x found more count o is adds sf =
      let b = o.branch sf.rest DATA count sf.is is in
      let h : HasBodies s (tree.branch DATA b.inner b.rest) = subst (HasBodies s) b.is sf.each in
      record {
        rest = b.rest;
        is = b.rest-is;
        each = h.2;
        same = ap (λ ks. ks ++ lengths_in b.rest) (adds b.inner b.inner-is h.1) ∙ append_assoc found (length_labelled s b.inner) (lengths_in b.rest)
            ∙ ap (λ ks. found ++ ks) (sym (taken b.inner b.rest) ∙ ap lengths_in (sym b.is)) ∙ sf.same;
      }

  pub lengths_go_in : ForestsJoin → (f : Forest) (left : List TreeNode) (x : Opened) (found : List ℕ) → Opens left x → is_of DATA x.node ≡ false
      → Lengths f left found → Lengths f x.behind.now found
  lengths_go_in joins f left x found o other sf =
      goes_in (FitsBody s) lengths_in (lengths_in f) left x found o (λ k a. refl)
      (λ q count b a is. ap (λ fs. map (counted_length s) (filter (has DATA_LABEL) fs)) (each_other DATA joins q b a (is_other DATA x.node q count other is))) sf

  pub lengths_end : (f : Forest) (left : List TreeNode) (found : List ℕ) → left ≡ [] → Lengths f left found → found ≡ lengths_in f
  lengths_end f left found e sf = ends (FitsBody s) lengths_in (lengths_in f) left found e refl sf

-- ---- data by their labels

swapped : (a b : List ℕ) → bytes_eq a b ≡ bytes_eq b a
swapped a b = go (bytes_eq a b) (bytes_eq b a) refl refl
  where
    go : (c d : Bool) → bytes_eq a b ≡ c → bytes_eq b a ≡ d → c ≡ d
    go true true e h = refl
    go false false e h = refl
    go true false e h = let is : a ≡ b = (bytes_eq-Decides a b).0 e in let also = (bytes_eq-Decides b a).1 (sym is) in absurd cc
    go false true e h = let is : b ≡ a = (bytes_eq-Decides b a).0 h in let also = (bytes_eq-Decides a b).1 (sym is) in absurd cc

-- the data at a place among these
abbrev forest_at : List Forest → Option ℕ → Option Forest
forest_at fs None = None
forest_at fs (Some i) = slice_get fs i

module _ (s : Source) (text : List ℕ) where
  abbrev labels_of : List Forest → List (List ℕ)
  labels_of fs = map (name_text s) (map label_token fs)

  found_named : (fs : List Forest) → find (λ f. bytes_eq (name_text s (label_token f)) text) fs ≡ forest_at fs (position (bytes_eq text) (labels_of fs))
  found_named [] = refl
  found_named (f ∷ fs) =
      ap (λ c. cond c (Some f) (find (λ g. bytes_eq (name_text s (label_token g)) text) fs)) (swapped (name_text s (label_token f)) text)
      ∙ go (bytes_eq text (name_text s (label_token f))) (found_named fs)
      ∙ sym (ap (forest_at (f ∷ fs)) (position_first (bytes_eq text) (name_text s (label_token f)) (labels_of fs)))
    where
      next : (o : Option ℕ) → forest_at fs o ≡ forest_at (f ∷ fs) (option_map suc o)
      next None = refl
      next (Some i) = refl

      go : (c : Bool) → find (λ g. bytes_eq (name_text s (label_token g)) text) fs ≡ forest_at fs (position (bytes_eq text) (labels_of fs))
          → cond c (Some f) (find (λ g. bytes_eq (name_text s (label_token g)) text) fs)
          ≡ forest_at (f ∷ fs) (cond c (Some 0) (option_map suc (position (bytes_eq text) (labels_of fs))))
      go true rest = refl
      go false rest = rest ∙ next (position (bytes_eq text) (labels_of fs))

  module _ (names : List (List ℕ)) (lengths : List ℕ) (all : names ≡ labels_of (labelled s)) (each : lengths ≡ map (counted_length s) (labelled s)) where
    pub length_found : (k : ℕ) → Some k ≡ position (bytes_eq text) names → slice_get lengths k ≡ option_map (counted_length s) (data_named s text)
    length_found k at =
        ap (λ ls. slice_get ls k) each ∙ slice_get-map (counted_length s) (labelled s) k
        ∙ ap (option_map (counted_length s)) (sym (found_named (labelled s) ∙ ap (forest_at (labelled s)) (ap (position (bytes_eq text)) (sym all) ∙ sym at)))

    pub length_absent : None ≡ position (bytes_eq text) names → None ≡ option_map (counted_length s) (data_named s text)
    length_absent at =
        ap (option_map (counted_length s)) (sym (found_named (labelled s) ∙ ap (forest_at (labelled s)) (ap (position (bytes_eq text)) (sym all) ∙ sym at)))
