-- The parts of a forest, of each of which something holds; and the last of them.
use Rattle.std.proofs.Common.{◌≡◌, ℕ, zero, suc, ◌+◌, ◌-◌, ◌<◌, ◌^◌, List, [], ◌∷◌, ◌++◌, Option, None, Some, length, drop, take, refl, ap, sym, subst, arith, length-drop, length-take}
use Rattle.std.specs.Prelude.{Bool, true, false, if◌then◌else◌, slice_get}
use Rattle.std.specs.List.{AllByRecursion}
use Rattle.std.proofs.lemmas.Option.{same_Some, slice_get-get_or, slice_get_within}
use Rattle.ilasm_grammar.specs.declared.tree.TreeNode.{TreeNode}
use Rattle.source_model.specs.Forest.{Forest, none, leaf, branch, Part, part, parts, is_among, preorder}
use Rattle.source_model.specs.Manifests.{last_said}
use Rattle.source_model.specs.Source.{Source}
use Rattle.source_nodes.specs.Derived.{HasBodies, OfEach}
use Rattle.source_nodes.specs.Pieces.{ArePieces, nodes_of}
use Rattle.source_syntax.specs.Places.{IsReadable}
use Rattle.source_nodes.specs.declared.pieces.Piece.{Piece}
use Rattle.source_flags.specs.InRange.{AllInRange}
use Rattle.source_nodes.proofs.PieceLemmas.{as_many, part_at}
use Rattle.source_syntax.proofs.SoundLemmas.{signature_fits}
use Rattle.source_flags.specs.Lines.{IsLast, IsPart, last_part}
use Rattle.source_flags.specs.declared.lines.Line.{Line}

-- ---- what is in range can be read

pub readable : (s : Source) (f : Forest) → AllInRange s f → IsReadable s f
readable s none h = tt
readable s (leaf k a) h = readable s a h
readable s (branch p b a) h = ((h.0.fits, signature_fits s p b h.0.types), readable s b h.1, readable s a h.2)

pub has_bodies : (s : Source) (f : Forest) → AllInRange s f → HasBodies s f
has_bodies s none h = tt
has_bodies s (leaf k a) h = has_bodies s a h
has_bodies s (branch p b a) h = (h.0.fits, has_bodies s b h.1, has_bodies s a h.2)

-- ---- lists of which something holds

pub all_append : {X : Type 0} (P : X → Type 0) (xs ys : List X) → AllByRecursion P xs → AllByRecursion P ys → AllByRecursion P (xs ++ ys)
all_append P [] ys h i = i
all_append P (x ∷ xs) ys h i = (h.0, all_append P xs ys h.1 i)

pub all_at : {X : Type 0} (P : X → Type 0) (xs : List X) (i : ℕ) (x : X) → AllByRecursion P xs → slice_get xs i ≡ Some x → P x
all_at P [] i x h e = absurd cc
all_at P (y ∷ ys) zero x h e = subst P (same_Some y x e) h.0
all_at P (y ∷ ys) (suc i) x h e = all_at P ys i x h.1 e

pub all_follow : {X : Type 0} (P Q : X → Type 0) (xs : List X) → ((x : X) → P x → Q x) → AllByRecursion P xs → AllByRecursion Q xs
all_follow P Q [] step h = tt
all_follow P Q (x ∷ xs) step h = (step x h.0, all_follow P Q xs step h.1)

-- ---- parts

module _ (P : ℕ → Forest → Type 0) (sought : List ℕ) where
  -- a part is of one of the productions, and this holds of it and below it
  abbrev pub IsSought : Part → Type 0
  IsSought q = (is_among sought q.production ≡ true) × P q.production q.below × OfEach P q.below

  parts_at : (p : ℕ) (b a : Forest) (c : Bool) → is_among sought p ≡ c
      → parts sought (branch p b a) ≡ (if c then part p b ∷ [] else parts sought b) ++ parts sought a
  parts_at p b a c e = ap (λ (d : Bool). (if d then part p b ∷ [] else parts sought b) ++ parts sought a) e

  pub of_parts : (f : Forest) → OfEach P f → AllByRecursion IsSought (parts sought f)
  of_parts none h = tt
  of_parts (leaf k a) h = of_parts a h
  of_parts (branch p b a) h = go (is_among sought p) refl (of_parts b h.1) (of_parts a h.2)
    where
      go : (c : Bool) → is_among sought p ≡ c → AllByRecursion IsSought (parts sought b) → AllByRecursion IsSought (parts sought a)
          → AllByRecursion IsSought (parts sought (branch p b a))
      go true is below after = subst (AllByRecursion IsSought) (sym (parts_at p b a true is)) ((is, h.0, h.1), after)
      go false is below after =
          subst (AllByRecursion IsSought) (sym (parts_at p b a false is)) (all_append IsSought (parts sought b) (parts sought a) below after)

-- ---- the nodes below a production are no more than all

pub few_below : (nodes : List TreeNode) (start count : ℕ) (below : List TreeNode) → below ≡ take count (drop start nodes) → length nodes < 2 ^ 32 → length below < 2 ^ 32
few_below nodes start count below e few =
    omega (arith, ap length e, length-take count (drop start nodes), length-drop start nodes, few)

-- ---- the last part

pub last_at : (ps : List Part) (i : ℕ) (p : Part) → slice_get ps i ≡ Some p → length ps ≡ i + 1 → last_part ps ≡ Some p
last_at [] i p e l = absurd cc
last_at (q ∷ []) zero p e l = e
last_at (q ∷ []) (suc i) p e l = absurd (omega (arith, l))
last_at (q ∷ r ∷ more) zero p e l = absurd (omega (arith, l))
last_at (q ∷ r ∷ more) (suc i) p e l = last_at (r ∷ more) i p e (omega (arith, l))

pub last_holds : (P : Part → Type 0) (ps : List Part) (p : Part) → AllByRecursion P ps → last_part ps ≡ Some p → P p
last_holds P [] p h e = absurd cc
last_holds P (q ∷ []) p h e = subst P (same_Some q p e) h.0
last_holds P (q ∷ r ∷ more) p h e = last_holds P (r ∷ more) p h.1 e

pub said_last : {X : Type 0} (of : Part → X) (other : X) (ps : List Part) (p : Part) → last_part ps ≡ Some p → last_said of other ps ≡ of p
said_last of other [] p e = absurd cc
said_last of other (q ∷ []) p e = ap of (same_Some q p e)
said_last of other (q ∷ r ∷ more) p e = said_last of (of q) (r ∷ more) p e

-- ---- a line that was found

module _ (P : ℕ → Forest → Type 0) (sought : List ℕ) where
  -- it is the last part, and this holds of it
  pub record Said (f : Forest) (x : Line) : Type 0 where
    pub of : Part
    pub last : last_part (parts sought f) ≡ Some of
    pub production : x.production ≡ of.production
    pub below : preorder of.below ≡ x.below.now
    pub sought-is : is_among sought of.production ≡ true
    pub own : P of.production of.below
    pub each : OfEach P of.below

  pub said : (f : Forest) (o : Option Line) (x : Line) → OfEach P f → o ≡ Some x → IsLast o (parts sought f) → Said f x
  said f o x h e l =
      let last = subst (λ y. IsLast y (parts sought f)) e l in
      let own = last_holds (IsSought P sought) (parts sought f) last.0 (of_parts P sought f h) last.1 in
      record {
        of = last.0;
        last = last.1;
        production = last.2.production;
        below = last.2.below;
        sought-is = own.0;
        own = own.1;
        each = own.2;
      }

pub nothing_said : (ps : List Part) (o : Option Line) → o ≡ None → IsLast o ps → ps ≡ []
nothing_said ps o e l = subst (λ y. IsLast y ps) e l

pub no_parts : (nodes : List TreeNode) (found : List Piece) (ps : List Part) → ArePieces nodes found ps → slice_get found (length found - 1) ≡ None → ps ≡ []
no_parts nodes [] [] e n = refl
no_parts nodes [] (p ∷ ps) e n = absurd cc
no_parts nodes (x ∷ xs) ps e n =
    let some = slice_get-get_or (x ∷ xs) (length (x ∷ xs) - 1) x (omega arith) in absurd cc

pub last_found : (nodes : List TreeNode) (found : List Piece) (ps : List Part) (x : Piece) → ArePieces nodes found ps → slice_get found (length found - 1) ≡ Some x
    → (p : Part) × (last_part ps ≡ Some p) × (x.production ≡ p.production) × (preorder p.below ≡ nodes_of nodes x)
last_found nodes found ps x e at =
    let m = part_at nodes found ps (length found - 1) x e at in
    let within = slice_get_within found (length found - 1) x at in
    let many = as_many nodes found ps e in
    (m.of, last_at ps (length found - 1) m.of m.at (omega (arith, within, many)), m.production, m.below)

-- a line that was found is the last part
pub last_of_line : (ps : List Part) (o : Option Line) (x : Line) → o ≡ Some x → IsLast o ps → (p : Part) × (last_part ps ≡ Some p) × IsPart x p
last_of_line ps o x e l = subst (λ y. IsLast y ps) e l
