-- The forest of a piece: its nodes, its tokens, and the source that has it.
use Rattle.std.proofs.Common.{◌≡◌, ℕ, zero, suc, ◌+◌, ◌<◌, List, [], ◌∷◌, ◌++◌, map, length, drop, slice_get, Option, None, Some, refl, ap, sym, ◌∙◌, arith, option_map, append_assoc, append-nil}
use Rattle.std.proofs.lemmas.List.{map-append}
use Rattle.std.proofs.lemmas.Option.{slice_get-map}
use Rattle.il_lexer.specs.Unplaced.{Spelling, spelling_in}
use Rattle.il_lexer.specs.declared.types.Token.{Token}
use Rattle.ilasm_grammar.specs.declared.tree.TreeNode.TheVariants.{Branch, Leaf as NodeLeaf}
use Rattle.source_model.specs.Forest as f
use Rattle.source_model.specs.Source.{Source, bytes_of}
use Rattle.listing_model.specs.Grown.{nodes}
use Rattle.listing_model.specs.Shown.{Leaf, Shown, leaves, size}
use Rattle.listing_reading.specs.Laws.{ForestsAgree}
use Rattle.listing_reading.specs.Numbered.{numbered, leaf_spelling, Is, Agrees}

nodes_are : (at : ℕ) (g : Shown) → f.preorder (numbered at g) ≡ nodes at g
nodes_are at Shown.none = refl
nodes_are at (Shown.leaf l after) = ap (λ ns. NodeLeaf at ∷ ns) (nodes_are (suc at) after)
nodes_are at (Shown.branch p below after) =
    ap (λ ns. Branch p (length ns) ∷ (ns ++ f.preorder (numbered (at + size below) after))) (nodes_are at below)
    ∙ ap (λ ns. Branch p (length (nodes at below)) ∷ (nodes at below ++ ns)) (nodes_are (at + size below) after)

-- ---- tokens

-- so many numbers from one on
abbrev from : ℕ → ℕ → List ℕ
from at zero = []
from at (suc k) = at ∷ from (suc at) k

from_joins : (at j k : ℕ) → from at j ++ from (at + j) k ≡ from at (j + k)
from_joins at zero k =
    let e : at + 0 ≡ at = omega arith in
    let d : 0 + k ≡ k = omega arith in
    ap (λ i. from i k) e ∙ ap (from at) (sym d)
from_joins at (suc j) k =
    let e : at + suc j ≡ suc at + j = omega arith in
    let d : suc (j + k) ≡ suc j + k = omega arith in
    ap (λ i. at ∷ (from (suc at) j ++ from i k)) e ∙ (ap (λ ks. at ∷ ks) (from_joins (suc at) j k) ∙ ap (from at) d)

tokens_are : (at : ℕ) (g : Shown) → f.tokens_of (numbered at g) ≡ from at (size g)
tokens_are at Shown.none = refl
tokens_are at (Shown.leaf l after) = ap (λ ks. at ∷ ks) (tokens_are (suc at) after)
tokens_are at (Shown.branch p below after) =
    ap (λ ks. ks ++ f.tokens_of (numbered (at + size below) after)) (tokens_are at below)
    ∙ (ap (λ ks. from at (size below) ++ ks) (tokens_are (at + size below) after) ∙ from_joins at (size below) (size after))

last_from : (other at k : ℕ) → suc (f.last_of other (from at (suc k))) ≡ at + suc k
last_from other at zero = omega arith
last_from other at (suc k) = let e : suc at + suc k ≡ at + suc (suc k) = omega arith in last_from at (suc at) k ∙ e

last_is : (at : ℕ) (g : Shown) → 0 < size g → suc (f.last_token (numbered at g)) ≡ at + size g
last_is at g some = ap (λ ks. suc (f.last_of 0 ks)) (tokens_are at g) ∙ by (size g) some
  where
    by : (k : ℕ) → 0 < k → suc (f.last_of 0 (from at k)) ≡ at + k
    by zero h = absurd (omega arith)
    by (suc k) h = last_from 0 at k

-- ---- a source

-- the first of a list from a place on
got : (ss : List Spelling) (at : ℕ) (x : Spelling) (xs : List Spelling) → drop at ss ≡ x ∷ xs → (slice_get ss at ≡ Some x) × (drop (suc at) ss ≡ xs)
got [] zero x xs e = absurd cc
got [] (suc at) x xs e = absurd cc
got (s ∷ ss) zero x xs e = let head : s ≡ x = cc in let tail : ss ≡ xs = cc in (ap (λ y. Some y) head, tail)
got (s ∷ ss) (suc at) x xs e = got ss at x xs e

leaf_is : (s : Source) (k : ℕ) (l : Leaf) (o : Option Token) → slice_get s.tokens k ≡ o → option_map (spelling_in s.bytes) o ≡ Some (leaf_spelling l) → Is s k l
leaf_is s k l None e h = absurd cc
leaf_is s k l (Some t) e h =
    let same : spelling_in s.bytes t ≡ leaf_spelling l = cc in
    record {
      kind = ap (option_map (λ (x : Token). x.kind)) e ∙ ap (λ (x : Spelling). Some x.kind) same;
      text = ap (bytes_of s.bytes) e ∙ ap (λ (x : Spelling). x.text) same;
    }

agrees_from : (s : Source) (at : ℕ) (g : Shown) (more : List Spelling) → drop at (map (spelling_in s.bytes) s.tokens) ≡ map leaf_spelling (leaves g) ++ more →
    Agrees s at g × (drop (at + size g) (map (spelling_in s.bytes) s.tokens) ≡ more)
agrees_from s at Shown.none more e = let same : at + 0 ≡ at = omega arith in (tt, ap (λ k. drop k (map (spelling_in s.bytes) s.tokens)) same ∙ e)
agrees_from s at (Shown.leaf l after) more e =
    let here = got (map (spelling_in s.bytes) s.tokens) at (leaf_spelling l) (map leaf_spelling (leaves after) ++ more) e in
    let later = agrees_from s (suc at) after more here.1 in
    let same : at + suc (size after) ≡ suc at + size after = omega arith in (
      (leaf_is s at l (slice_get s.tokens at) refl (sym (slice_get-map (spelling_in s.bytes) s.tokens at) ∙ here.0), later.0),
      ap (λ k. drop k (map (spelling_in s.bytes) s.tokens)) same ∙ later.1,
    )
agrees_from s at (Shown.branch p below after) more e =
    let split = ap (λ ss. ss ++ more) (map-append leaf_spelling (leaves below) (leaves after)) ∙ append_assoc (map leaf_spelling (leaves below)) (map leaf_spelling (leaves after)) more in
    let first = agrees_from s at below (map leaf_spelling (leaves after) ++ more) (e ∙ split) in
    let later = agrees_from s (at + size below) after more first.1 in
    let same : at + (size below + size after) ≡ (at + size below) + size after = omega arith in
    ((first.0, later.0), ap (λ k. drop k (map (spelling_in s.bytes) s.tokens)) same ∙ later.1)

tokens_agree : (s : Source) (g : Shown) → map (spelling_in s.bytes) s.tokens ≡ map leaf_spelling (leaves g) → Agrees s 0 g
tokens_agree s g e = (agrees_from s 0 g [] (e ∙ sym (append-nil (map leaf_spelling (leaves g))))).0

pub forests_agree : ForestsAgree
forests_agree = record { nodes = nodes_are; tokens = tokens_agree; last = last_is }
