-- The sizes of classes, member by member.
use Rattle.std.proofs.Common.{◌≡◌, ℕ, List, [], ◌∷◌, ◌++◌, cond, ap, sym, ◌∙◌, refl, arith, None, Some}
use Rattle.std.specs.Prelude.{Bool, true, false, ◌==◌, filter, fold, if◌then◌else◌, nat_lt, ℤ, Option}
use Rattle.assembly_tree.specs.DataSize.{layout_size}
use Rattle.ilasm_grammar.specs.declared.productions.TheConstants.{MEMBER_PACK, MEMBER_SIZE}
use Rattle.source_model.specs.Data.{last_number, layout, layout_from, lines_of}
use Rattle.source_model.specs.Forest as tree
use Rattle.source_model.specs.Forest.{Forest, Part, joined, leaf_at, part, parts}
use Rattle.source_model.specs.Laws.{ForestsJoin}
use Rattle.source_model.specs.OutOfRange.{asked_class_size, is_32_bits, is_size_in_range}
use Rattle.source_model.specs.Shapes.{natural}
use Rattle.source_model.specs.Source.{Source}
use Rattle.source_model.specs.Values.{int_at}
use Rattle.source_nodes.specs.Readers.{Reads}
use Rattle.source_nodes.specs.declared.reader.Reader.{Reader}
use Rattle.check_names.specs.ClassSizes.{is_member, last_size, member_productions, ranged_size, size_or}

-- the last of these numbers, or the one before
abbrev pub last_from : Source → Option ℕ → List Part → Option ℕ
last_from s n ps = fold (λ before p. ranged_size (int_at s (leaf_at 1 p.below))) n ps

abbrev pub sizes_in : Forest → List Part
sizes_in f = lines_of MEMBER_SIZE f

-- what the last number is in the end, with this one so far
abbrev pub ending : Option ℕ → (r : Reader) → ((s : Source) × Reads r s) → Forest → Option ℕ
ending last r i f = last_from i.0 last (sizes_in f)

module _ (s : Source) where
  -- past a member
  pub past_member : (q : ℕ) (last next : Option ℕ) (b a : Forest) → is_member q ≡ true → next ≡ size_or s q b last
      → last_from s next (sizes_in a) ≡ last_from s last (sizes_in (tree.branch q b a))
  past_member q last next b a own is =
      ap (λ n. last_from s n (sizes_in a)) is ∙ go (q == MEMBER_SIZE)
      ∙ sym (ap (λ (c : Bool). last_from s last (filter (λ p. p.production == MEMBER_SIZE) ((if c then part q b ∷ [] else parts member_productions b) ++ parts member_productions a))) own)
    where
      go : (c : Bool) → last_from s (if c then ranged_size (int_at s (leaf_at 1 b)) else last) (sizes_in a)
          ≡ last_from s last (cond c (part q b ∷ sizes_in a) (sizes_in a))
      go true = refl
      go false = refl

  pub into_other : ForestsJoin → (q : ℕ) (last : Option ℕ) (b a : Forest) → is_member q ≡ false
      → last_from s last (sizes_in (joined b a)) ≡ last_from s last (sizes_in (tree.branch q b a))
  into_other joins q last b a other =
      ap (λ ps. last_from s last (filter (λ p. p.production == MEMBER_SIZE) ps)) (joins.parts [] member_productions b a)
      ∙ sym (ap (λ (c : Bool). last_from s last (filter (λ p. p.production == MEMBER_SIZE) ((if c then part q b ∷ [] else parts member_productions b) ++ parts member_productions a))) other)

  -- ---- the size of a class

  size_from : (packs sizes : List Part) → layout_size (layout_from s packs sizes) ≡ cond (nat_lt 0 (last_number s sizes)) (Some (last_number s sizes)) None
  size_from [] [] = refl
  size_from [] (p ∷ ps) = refl
  size_from (p ∷ ps) sizes = refl

  abbrev where_ranged : Bool → ℕ → Option ℕ
  where_ranged c n = if c then Some n else None

  -- the last of these numbers, where it is in its range
  last_is : (ps : List Part) (c : Bool) (n : ℕ) → last_from s (where_ranged c n) ps
      ≡ where_ranged (fold (λ before p. is_32_bits (int_at s (leaf_at 1 p.below))) c ps) (fold (λ before p. natural (int_at s (leaf_at 1 p.below))) n ps)
  last_is [] c n = refl
  last_is (p ∷ ps) c n = last_is ps (is_32_bits (int_at s (leaf_at 1 p.below))) (natural (int_at s (leaf_at 1 p.below)))

  abbrev asked_by : Option ℕ → Option ℕ
  asked_by None = Some 0
  asked_by (Some n) = cond (nat_lt 0 n) (Some n) None

  asked_is : (f : Forest) → asked_by (last_size s f) ≡ asked_class_size s f
  asked_is f =
      ap asked_by (last_is (sizes_in f) true 0) ∙ go (is_size_in_range s f)
      ∙ ap (λ o. if is_size_in_range s f then o else Some 0) (sym (size_from (lines_of MEMBER_PACK f) (sizes_in f)))
    where
      go : (c : Bool) → asked_by (where_ranged c (last_number s (sizes_in f)))
          ≡ (if c then cond (nat_lt 0 (last_number s (sizes_in f))) (Some (last_number s (sizes_in f))) None else Some 0)
      go true = refl
      go false = refl

  pub none_asked : (f : Forest) → None ≡ last_size s f → Some 0 ≡ asked_class_size s f
  none_asked f e = ap asked_by e ∙ asked_is f

  pub no_size_there : (f : Forest) (n : ℕ) → n ≡ 0 → Some n ≡ last_size s f → None ≡ asked_class_size s f
  no_size_there f n zero_there e =
      let nothing : nat_lt 0 n ≡ false = grind arith in
      sym (ap (λ (c : Bool). cond c (Some n) None) nothing) ∙ ap asked_by e ∙ asked_is f

  pub some_size : (f : Forest) (n : ℕ) → (n ≡ 0 → ⊥) → Some n ≡ last_size s f → Some n ≡ asked_class_size s f
  some_size f n some e =
      let positive : nat_lt 0 n ≡ true = grind arith in
      sym (ap (λ (c : Bool). cond c (Some n) None) positive) ∙ ap asked_by e ∙ asked_is f
