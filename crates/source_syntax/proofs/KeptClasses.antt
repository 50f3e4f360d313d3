-- Classes whose texts stand in one list of bytes: none, one more, and one that wasn't kept.
use Rattle.std.proofs.Common.{◌≡◌, ℕ, suc, ◌+◌, ◌<◌, ◌≤◌, inl, inr, List, [], ◌∷◌, ◌++◌, Option, Some, None, length, map, cond, take, drop, sym, ◌∙◌, ap, refl, arith, append_assoc, length-append, length-drop}
use Rattle.std.specs.Prelude.{slice_get, slice_index_or, nat_eq, option_map}
use Rattle.std.proofs.lemmas.List.{get_or_default, length-map, map_push, drop-append-le, take-append-le}
use Rattle.std.proofs.lemmas.Option.{slice_get-get_or, slice_get-map}
use Rattle.std.proofs.Math.Seq.{drop-append_seam, take-append_seam, take-length}
use Rattle.source_syntax.specs.ClassNumbers.{IsNumber, class_hash, class_in, class_of}
use Rattle.source_syntax.specs.ClassTexts.{AreKept, AreWithin, class_at, classes_in, name_at, older_of, space_at}
use Rattle.source_nodes.specs.NameTexts.{id_with}
use Rattle.source_syntax.specs.declared.class_paths.KeptClass.{KeptClass}
use Rattle.source_nodes.proofs.ChainLemmas.{snoc_cases}
use Rattle.source_syntax.proofs.ClassLemmas.{found_none, found_push}

pub kept_none : (newest : ℕ → Option ℕ) (texts : List ℕ) → ((h : ℕ) → newest h ≡ None) → AreKept newest texts []
kept_none newest texts none = record { found = found_none newest none; within = λ k c at. absurd cc }

-- two parts of a class
pub same_class : (outer around : ℕ) (space name first last : List ℕ) → outer ≡ around → space ≡ first → name ≡ last
    → class_of outer (id_with space name) ≡ class_of around (id_with first last)
same_class outer around space name first last o s n = λ k. record { outer = o k; id = record { space = s k; name = n k } }

-- ---- more bytes

part_more : (texts more : List ℕ) (start len : ℕ) → start + len ≤ length texts → take len (drop start (texts ++ more)) ≡ take len (drop start texts)
part_more texts more start len within =
    let long = length-drop start texts in
    ap (take len) (drop-append-le start texts more (omega (arith, within))) ∙ take-append-le len (drop start texts) more (omega (arith, within, long))

class_more : (texts more : List ℕ) (c : KeptClass) → c.start + c.space + c.name ≤ length texts → class_at (texts ++ more) c ≡ class_at texts c
class_more texts more c within =
    same_class c.outer c.outer (space_at (texts ++ more) c) (name_at (texts ++ more) c) (space_at texts c) (name_at texts c) refl
    (part_more texts more c.start c.space (omega (arith, within))) (part_more texts more (c.start + c.space) c.name within)

pub classes_more : (texts more : List ℕ) (classes : List KeptClass) → AreWithin texts classes → classes_in (texts ++ more) classes ≡ classes_in texts classes
classes_more texts more [] within = refl
classes_more texts more (c ∷ classes) within =
    let first = class_more texts more c (within 0 c refl) in
    let rest = classes_more texts more classes (λ k n at. within (suc k) n at) in
    ap (λ d. d ∷ classes_in (texts ++ more) classes) first ∙ ap (λ ds. class_at texts c ∷ ds) rest

within_more : (texts more : List ℕ) (classes : List KeptClass) → AreWithin texts classes → AreWithin (texts ++ more) classes
within_more texts more classes within k c at = let w = within k c at in let long = length-append texts more in omega (arith, w, long)

-- classes after bytes were added that no class has
pub kept_more : (newest later : ℕ → Option ℕ) (texts more all : List ℕ) (classes : List KeptClass) → AreKept newest texts classes
    → ((q : ℕ) → later q ≡ newest q) → all ≡ texts ++ more → AreKept later all classes
kept_more newest later texts more all classes ok same e =
    let keeps : later ≡ newest = λ i q. same q i in
    rw (keeps, e) (record {
      found = rw (classes_more texts more classes ok.within) ok.found;
      within = within_more texts more classes ok.within;
    })

-- ---- one more class

module _ (texts space name : List ℕ) (c : KeptClass) (start : c.start ≡ length texts) (long : c.space ≡ length space) (wide : c.name ≡ length name) where
  new_space : space_at (texts ++ (space ++ name)) c ≡ space
  new_space =
      ap (λ n. take n (drop c.start (texts ++ (space ++ name)))) long ∙ ap (λ n. take (length space) (drop n (texts ++ (space ++ name)))) start
      ∙ ap (take (length space)) (drop-append_seam texts (space ++ name)) ∙ take-append_seam space name

  new_name : name_at (texts ++ (space ++ name)) c ≡ name
  new_name =
      let both = length-append texts space in
      let at : c.start + c.space ≡ length (texts ++ space) = omega (arith, start, long, both) in
      ap (λ n. take n (drop (c.start + c.space) (texts ++ (space ++ name)))) wide
      ∙ ap (λ n. take (length name) (drop n (texts ++ (space ++ name)))) at
      ∙ ap (λ ts. take (length name) (drop (length (texts ++ space)) ts)) (sym (append_assoc texts space name))
      ∙ ap (take (length name)) (drop-append_seam (texts ++ space) name) ∙ take-length name

  pub classes_push : (classes : List KeptClass) → AreWithin texts classes
      → classes_in (texts ++ (space ++ name)) (classes ++ c ∷ []) ≡ classes_in texts classes ++ class_of c.outer (id_with space name) ∷ []
  classes_push classes within =
      map_push (class_at (texts ++ (space ++ name))) classes c
      ∙ ap (λ ds. ds ++ class_at (texts ++ (space ++ name)) c ∷ []) (classes_more texts (space ++ name) classes within)
      ∙ ap (λ d. classes_in texts classes ++ d ∷ []) (same_class c.outer c.outer (space_at (texts ++ (space ++ name)) c) (name_at (texts ++ (space ++ name)) c) space name refl new_space new_name)

  pub kept_push : (newest later : ℕ → Option ℕ) (classes : List KeptClass) (place : ℕ) → AreKept newest texts classes
      → IsNumber (classes_in texts classes) c.outer → class_in (classes_in texts classes) (id_with space name) c.outer ≡ None
      → place ≡ length classes → c.next ≡ newest (class_hash (class_of c.outer (id_with space name)))
      → ((q : ℕ) → later q ≡ cond (nat_eq (class_hash (class_of c.outer (id_with space name))) q) (Some place) (newest q))
      → AreKept later (texts ++ (space ++ name)) (classes ++ c ∷ [])
  kept_push newest later classes place ok number fresh at next more =
      let count : place ≡ length (classes_in texts classes) = at ∙ sym (length-map classes (class_at texts)) in
      record {
        found = found_push newest later (classes_in texts classes) (classes_in (texts ++ (space ++ name)) (classes ++ c ∷ [])) (map older_of classes)
            (map older_of (classes ++ c ∷ [])) c.outer place (id_with space name) c.next ok.found number fresh count next more
            (classes_push classes ok.within) (map_push older_of classes c);
        within = λ k d here. elim (snoc_cases classes c d k here) [
          | inl old ↦ within_more texts (space ++ name) classes ok.within k d old
          | inr own ↦
              let s : d.start ≡ length texts = ap (λ (x : KeptClass). x.start) own.1 ∙ start in
              let l : d.space ≡ length space = ap (λ (x : KeptClass). x.space) own.1 ∙ long in
              let w : d.name ≡ length name = ap (λ (x : KeptClass). x.name) own.1 ∙ wide in
              let all = length-append texts (space ++ name) in
              let both = length-append space name in
              omega (arith, s, l, w, all, both)
        ];
      }

-- the class at a place
pub class_is : (texts : List ℕ) (classes : List KeptClass) (k : ℕ) (c : KeptClass) → slice_get classes k ≡ Some c
    → slice_get (classes_in texts classes) k ≡ Some (class_at texts c)
class_is texts classes k c at = slice_get-map (class_at texts) classes k ∙ ap (option_map (class_at texts)) at

pub older_is : (classes : List KeptClass) (k : ℕ) (c : KeptClass) → slice_get classes k ≡ Some c → slice_get (map older_of classes) k ≡ Some c.next
older_is classes k c at = slice_get-map older_of classes k ∙ ap (option_map older_of) at

pub classes_long : (texts : List ℕ) (classes : List KeptClass) → length (classes_in texts classes) ≡ length classes
classes_long texts classes = length-map classes (class_at texts)

-- as the code reads a class
abbrev pub read : List KeptClass → ℕ → KeptClass
read classes k = slice_index_or classes k record { outer = 0; start = 0; space = 0; name = 0; next = None }

pub read_is : (classes same : List KeptClass) (k : ℕ) → same ≡ classes → k < length classes → slice_get classes k ≡ Some (read same k)
read_is classes same k e less = slice_get-get_or classes k (read same k) less ∙ ap Some (go classes k less ∙ ap (λ cs. read cs k) (sym e))
  where
    go : (cs : List KeptClass) (n : ℕ) → n < length cs → slice_index_or cs n (read same k) ≡ read cs n
    go cs n below = get_or_default cs n (read same k) (record { outer = 0; start = 0; space = 0; name = 0; next = None }) below
