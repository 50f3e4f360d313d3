-- Names whose texts stand in one list of bytes: none, one more, and one that wasn't kept.
use Rattle.std.proofs.Common.{◌≡◌, ℕ, suc, ◌+◌, ◌≤◌, inl, inr, List, [], ◌∷◌, ◌++◌, Option, Some, None, length, map, cond, take, drop, reverse, sym, ◌∙◌, ap, refl, arith, length-append, length-drop}
use Rattle.std.specs.Prelude.{slice_get, nat_eq, option_map}
use Rattle.std.proofs.lemmas.List.{length-map, map_push, drop-append-le, take-append-le}
use Rattle.std.proofs.lemmas.Option.{slice_get-map}
use Rattle.std.proofs.Math.Seq.{drop-append_seam, take-length}
use Rattle.source_nodes.specs.ChainedTexts.{AreChained, AreWithin, next_of, text_in, texts_in}
use Rattle.source_nodes.specs.TextHash.{text_hash}
use Rattle.source_nodes.specs.declared.chained_names.ChainedName.{ChainedName}
use Rattle.source_nodes.proofs.ChainLemmas.{IsChained-none, chain_push, snoc_cases}
use Rattle.source_nodes.proofs.FirstLemmas.{reverse_push}

pub texts_none : (newest : ℕ → Option ℕ) (texts : List ℕ) → ((h : ℕ) → newest h ≡ None) → AreChained newest texts []
texts_none newest texts none = record { chained = IsChained-none text_hash newest none; within = λ k n at. absurd cc }

-- ---- more bytes

text_more : (texts more : List ℕ) (name : ChainedName) → name.start + name.len ≤ length texts → text_in (texts ++ more) name ≡ text_in texts name
text_more texts more name within =
    let long = length-drop name.start texts in
    ap (take name.len) (drop-append-le name.start texts more (omega (arith, within)))
    ∙ take-append-le name.len (drop name.start texts) more (omega (arith, within, long))

pub texts_more : (texts more : List ℕ) (names : List ChainedName) → AreWithin texts names → texts_in (texts ++ more) names ≡ texts_in texts names
texts_more texts more [] within = refl
texts_more texts more (name ∷ names) within =
    let first = text_more texts more name (within 0 name refl) in
    let rest = texts_more texts more names (λ k n at. within (suc k) n at) in
    ap (λ t. t ∷ texts_in (texts ++ more) names) first ∙ ap (λ ts. text_in texts name ∷ ts) rest

within_more : (texts more : List ℕ) (names : List ChainedName) → AreWithin texts names → AreWithin (texts ++ more) names
within_more texts more names within k n at = let w = within k n at in let long = length-append texts more in omega (arith, w, long)

-- names after bytes were added that no name has
pub chained_more : (newest later : ℕ → Option ℕ) (texts more all : List ℕ) (names : List ChainedName) → AreChained newest texts names
    → ((q : ℕ) → later q ≡ newest q) → all ≡ texts ++ more → AreChained later all names
chained_more newest later texts more all names ok same e =
    let keeps : later ≡ newest = λ i q. same q i in
    rw (keeps, e) (record {
      chained = rw (texts_more texts more names ok.within) ok.chained;
      within = within_more texts more names ok.within;
    })

-- ---- one more name

new_text : (texts text : List ℕ) (name : ChainedName) → name.start ≡ length texts → name.len ≡ length text → text_in (texts ++ text) name ≡ text
new_text texts text name start len =
    ap (λ n. take n (drop name.start (texts ++ text))) len
    ∙ ap (λ n. take (length text) (drop n (texts ++ text))) start
    ∙ ap (take (length text)) (drop-append_seam texts text) ∙ take-length text

pub texts_push : (texts text : List ℕ) (names : List ChainedName) (name : ChainedName) → AreWithin texts names → name.start ≡ length texts
    → name.len ≡ length text → texts_in (texts ++ text) (names ++ name ∷ []) ≡ texts_in texts names ++ text ∷ []
texts_push texts text names name within start len =
    map_push (text_in (texts ++ text)) names name
    ∙ ap (λ ts. ts ++ text_in (texts ++ text) name ∷ []) (texts_more texts text names within)
    ∙ ap (λ t. texts_in texts names ++ t ∷ []) (new_text texts text name start len)

pub chained_push : (newest later : ℕ → Option ℕ) (texts text : List ℕ) (names : List ChainedName) (name : ChainedName) (place : ℕ)
    → AreChained newest texts names → name.start ≡ length texts → name.len ≡ length text
    → place ≡ length names → name.next ≡ newest (text_hash text)
    → ((q : ℕ) → later q ≡ cond (nat_eq (text_hash text) q) (Some place) (newest q))
    → AreChained later (texts ++ text) (names ++ name ∷ [])
chained_push newest later texts text names name place ok start len at next more =
    let long : place ≡ length (texts_in texts names) = at ∙ sym (length-map names (text_in texts)) in
    let all = chain_push text_hash newest later (texts_in texts names) (map next_of names) text place name.next ok.chained long next more in
    record {
      chained = rw (texts_push texts text names name ok.within start len, map_push next_of names name) all;
      within = λ k n here. elim (snoc_cases names name n k here) [
        | inl old ↦ within_more texts text names ok.within k n old
        | inr own ↦
            let s : n.start ≡ length texts = ap (λ (x : ChainedName). x.start) own.1 ∙ start in
            let l : n.len ≡ length text = ap (λ (x : ChainedName). x.len) own.1 ∙ len in
            let both = length-append texts text in
            omega (arith, s, l, both)
      ];
    }

-- what the list is then, from the first
pub shown_push : (texts text : List ℕ) (names : List ChainedName) (name : ChainedName) → AreWithin texts names → name.start ≡ length texts
    → name.len ≡ length text → reverse (texts_in (texts ++ text) (names ++ name ∷ [])) ≡ text ∷ reverse (texts_in texts names)
shown_push texts text names name within start len =
    ap reverse (texts_push texts text names name within start len) ∙ reverse_push (texts_in texts names) text

pub texts_long : (texts : List ℕ) (names : List ChainedName) → length (texts_in texts names) ≡ length names
texts_long texts names = length-map names (text_in texts)

-- the text of the name at a place
pub text_is : (texts : List ℕ) (names : List ChainedName) (k : ℕ) (name : ChainedName) → slice_get names k ≡ Some name
    → slice_get (texts_in texts names) k ≡ Some (text_in texts name)
text_is texts names k name at = slice_get-map (text_in texts) names k ∙ ap (option_map (text_in texts)) at

pub next_is : (names : List ChainedName) (k : ℕ) (name : ChainedName) → slice_get names k ≡ Some name → slice_get (map next_of names) k ≡ Some name.next
next_is names k name at = slice_get-map next_of names k ∙ ap (option_map next_of) at
