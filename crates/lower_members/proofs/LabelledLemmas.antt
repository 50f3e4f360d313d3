-- Data by its labels.
use Rattle.std.proofs.Common.{◌≡◌, ℕ, suc, List, [], ◌∷◌, ◌++◌, Option, None, Some, cond, map, refl, ap, sym, ◌∙◌}
use Rattle.std.specs.Prelude.{Bool, true, false, bytes_eq, filter, find, if◌then◌else◌, option_map, position, slice_get}
use Rattle.std.specs.List.{flat_map}
use Rattle.std.proofs.lemmas.Option.{slice_get-map}
use Rattle.std.proofs.lemmas.Slice.Eq.{bytes_eq-Decides}
use Rattle.ilasm_grammar.specs.Ilasm.{has_bit}
use Rattle.ilasm_grammar.specs.declared.productions.TheConstants.{DATA, DATA_LABEL}
use Rattle.ilasm_grammar.proofs.TableCheck.{ilasm_tables}
use Rattle.source_flags.specs.declared.outside.Shut.TheVariants.{Methods}
use Rattle.source_flags.proofs.Apart.{is_past, mask_of}
use Rattle.source_model.specs.Data.{bytes_at, data_bytes, data_named, label_token, labelled}
use Rattle.source_model.specs.Forest.{Forest, Part, below_each, has}
use Rattle.source_model.specs.Source.{Source}
use Rattle.source_model.specs.Values.{name_text}
use Rattle.ilasm_grammar.specs.declared.tree.TreeNode.{TreeNode}
use Rattle.source_nodes.specs.Pieces.{ArePieces}
use Rattle.source_syntax.proofs.LabelLemmas.{position_first}
use Rattle.lower_members.specs.Runs.{bytes_of_each, bytes_of_runs}
use Rattle.lower_members.specs.declared.runs.Run.{Run}

-- data stands in no method
pub data_past : is_past Methods (DATA ∷ []) ≡ true
unfolding is_past mask_of ilasm_tables has_bit
data_past = refl

pub none_found : (nodes : List TreeNode) (ps : List Part) → ArePieces nodes [] ps → ps ≡ []
none_found nodes [] e = refl
none_found nodes (p ∷ ps) e = absurd cc

-- ---- the bytes of those with labels

abbrev pub labelled_bytes : Source → Part → List (List ℕ)
labelled_bytes s p = if has DATA_LABEL p.below then data_bytes s p.below ∷ [] else []

pub chosen_bytes : (s : Source) (ps : List Part) → flat_map (labelled_bytes s) ps ≡ map (data_bytes s) (filter (has DATA_LABEL) (below_each ps))
chosen_bytes s [] = refl
chosen_bytes s (p ∷ ps) = go (has DATA_LABEL p.below) (chosen_bytes s ps)
  where
    go : (c : Bool) → flat_map (labelled_bytes s) ps ≡ map (data_bytes s) (filter (has DATA_LABEL) (below_each ps))
        → cond c (data_bytes s p.below ∷ []) [] ++ flat_map (labelled_bytes s) ps
        ≡ map (data_bytes s) (cond c (p.below ∷ filter (has DATA_LABEL) (below_each ps)) (filter (has DATA_LABEL) (below_each ps)))
    go true e = ap (λ l. data_bytes s p.below ∷ l) e
    go false e = e

-- ---- by their numbers

abbrev bytes_or_none : Option (List ℕ) → List ℕ
bytes_or_none None = []
bytes_or_none (Some bytes) = bytes

of_forest : (s : Source) (o : Option Forest) → bytes_or_none (option_map (data_bytes s) o) ≡ bytes_at s o
of_forest s None = refl
of_forest s (Some f) = refl

numbered : (s : Source) (contents : List (List Run)) (fs : List Forest) (k : ℕ) → bytes_of_each contents ≡ map (data_bytes s) fs
    → bytes_or_none (option_map bytes_of_runs (slice_get contents k)) ≡ bytes_at s (slice_get fs k)
numbered s contents fs k e =
    ap bytes_or_none (sym (slice_get-map bytes_of_runs contents k) ∙ ap (λ l. slice_get l k) e ∙ slice_get-map (data_bytes s) fs k)
    ∙ of_forest s (slice_get fs k)

pub some_numbered : (s : Source) (contents : List (List Run)) (fs : List Forest) (k : ℕ) (runs : List Run) → bytes_of_each contents ≡ map (data_bytes s) fs
    → Some runs ≡ slice_get contents k → bytes_of_runs runs ≡ bytes_at s (slice_get fs k)
some_numbered s contents fs k runs e found = ap (λ o. bytes_or_none (option_map bytes_of_runs o)) found ∙ numbered s contents fs k e

pub none_numbered : (s : Source) (contents : List (List Run)) (fs : List Forest) (k : ℕ) → bytes_of_each contents ≡ map (data_bytes s) fs
    → None ≡ slice_get contents k → [] ≡ bytes_at s (slice_get fs k)
none_numbered s contents fs k e found = ap (λ o. bytes_or_none (option_map bytes_of_runs o)) found ∙ numbered s contents fs k e

-- ---- by their labels

swapped : (a b : List ℕ) → bytes_eq a b ≡ bytes_eq b a
swapped a b = go (bytes_eq a b) (bytes_eq b a) refl refl
  where
    go : (c d : Bool) → bytes_eq a b ≡ c → bytes_eq b a ≡ d → c ≡ d
    go true true e h = refl
    go false false e h = refl
    go true false e h = let is : a ≡ b = (bytes_eq-Decides a b).0 e in let also = (bytes_eq-Decides b a).1 (sym is) in absurd cc
    go false true e h = let is : b ≡ a = (bytes_eq-Decides b a).0 h in let also = (bytes_eq-Decides a b).1 (sym is) in absurd cc

-- the forest at a place among these
abbrev forest_at : List Forest → Option ℕ → Option Forest
forest_at fs None = None
forest_at fs (Some i) = slice_get fs i

module _ (s : Source) (text : List ℕ) where
  abbrev labels_of : List Forest → List (List ℕ)
  labels_of fs = map (name_text s) (map label_token fs)

  found_named : (fs : List Forest) → find (λ f. bytes_eq (name_text s (label_token f)) text) fs ≡ forest_at fs (position (bytes_eq text) (labels_of fs))
  found_named [] = refl
  found_named (f ∷ fs) =
      ap (λ c. cond c (Some f) (find (λ g. bytes_eq (name_text s (label_token g)) text) fs)) (swapped (name_text s (label_token f)) text)
      ∙ go (bytes_eq text (name_text s (label_token f))) (found_named fs)
      ∙ sym (ap (forest_at (f ∷ fs)) (position_first (bytes_eq text) (name_text s (label_token f)) (labels_of fs)))
    where
      next : (o : Option ℕ) → forest_at fs o ≡ forest_at (f ∷ fs) (option_map suc o)
      next None = refl
      next (Some i) = refl

      go : (c : Bool) → find (λ g. bytes_eq (name_text s (label_token g)) text) fs ≡ forest_at fs (position (bytes_eq text) (labels_of fs))
          → cond c (Some f) (find (λ g. bytes_eq (name_text s (label_token g)) text) fs)
          ≡ forest_at (f ∷ fs) (cond c (Some 0) (option_map suc (position (bytes_eq text) (labels_of fs))))
      go true rest = refl
      go false rest = rest ∙ next (position (bytes_eq text) (labels_of fs))

module _ (s : Source) (text : List ℕ) (names : List (List ℕ)) (all : names ≡ map (name_text s) (map label_token (labelled s))) where
  named : data_named s text ≡ forest_at (labelled s) (position (bytes_eq text) names)
  named = found_named s text (labelled s) ∙ ap (λ ns. forest_at (labelled s) (position (bytes_eq text) ns)) (sym all)

  pub bytes_found : (k : ℕ) → Some k ≡ position (bytes_eq text) names → bytes_at s (slice_get (labelled s) k) ≡ bytes_at s (data_named s text)
  bytes_found k place = ap (λ o. bytes_at s (forest_at (labelled s) o)) place ∙ ap (bytes_at s) (sym named)

  pub bytes_absent : None ≡ position (bytes_eq text) names → [] ≡ bytes_at s (data_named s text)
  bytes_absent place = ap (λ o. bytes_at s (forest_at (labelled s) o)) place ∙ ap (bytes_at s) (sym named)
