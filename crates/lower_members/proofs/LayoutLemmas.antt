-- The lines that give a class its layout.
use Rattle.std.proofs.Common.{◌≡◌, ℕ, ◌+◌, ◌<◌, ◌^◌, ◌⊎◌, inl, inr, List, [], ◌∷◌, ◌++◌, Option, None, Some, cond, take, refl, ap, sym, subst, ◌∙◌, arith}
use Rattle.std.specs.Prelude.{Bool, true, false, ◌==◌, if◌then◌else◌, IfSome, filter, fold, ℤ, pos, negsuc, slice_get}
use Rattle.std.specs.List.{AllByRecursion}
use Rattle.std.proofs.lemmas.Bool.Decides.{Decides-eqb}
use Rattle.assembly_tree.specs.WellFormedTypes.{is_pack}
use Rattle.ilasm_grammar.specs.declared.productions.TheConstants.{MEMBER_PACK, MEMBER_SIZE}
use Rattle.source_model.specs.Data.{last_number, layout, layout_from, lines_of}
use Rattle.source_model.specs.Forest.{Forest, Part, leaf_at}
use Rattle.source_model.specs.Items.{members}
use Rattle.source_model.specs.OutOfRange.{is_32_bits, is_natural_with}
use Rattle.source_model.specs.Shapes.{natural}
use Rattle.source_model.specs.Source.{Source}
use Rattle.source_model.specs.Values.{int_at}
use Rattle.source_nodes.proofs.PieceLemmas.{take_next}
use Rattle.source_flags.specs.InRange.{IsInRange}
use Rattle.source_flags.proofs.Bits.{pack_bounds, of_test, passes_at}
use Rattle.lower_members.specs.Layouts.{last_member, layout_of, number_or}
use Rattle.param_lines.specs.Ranged.{IsRanged}

-- ---- a fold, one by one

fold_push : {X Y : Type 0} (f : Y → X → Y) (start : Y) (xs : List X) (x : X) → fold f start (xs ++ x ∷ []) ≡ f (fold f start xs) x
fold_push f start [] x = refl
fold_push f start (y ∷ ys) x = fold_push f (f start y) ys x

pub fold_next : {X Y : Type 0} (f : Y → X → Y) (start : Y) (xs : List X) (i : ℕ) (x : X) (before after : Y) → slice_get xs i ≡ Some x → before ≡ fold f start (take i xs)
    → after ≡ f before x → after ≡ fold f start (take (i + 1) xs)
fold_next f start xs i x before after at e h =
    h ∙ ap (λ y. f y x) e ∙ sym (fold_push f start (take i xs) x) ∙ ap (fold f start) (sym (take_next xs i x at))

-- ---- numbers of these lines

pack_32 : (z : ℤ) → is_natural_with is_pack z ≡ true → is_32_bits z ≡ true
pack_32 (pos n) e = go n (pack_bounds n e)
  where
    go : (m : ℕ) → m < 2 ^ 16 → is_32_bits (pos m) ≡ true
    go m h = search (arith, h)
pack_32 (negsuc n) e = absurd cc

pub line_fits : (s : Source) (production : ℕ) (p : Part) → (production ≡ MEMBER_PACK) ⊎ (production ≡ MEMBER_SIZE) → p.production ≡ production → IsRanged s p
    → is_32_bits (int_at s (leaf_at 1 p.below)) ≡ true
line_fits s production p (inl e) is h =
    let own = subst (λ q. IsInRange s q p.below) (is ∙ e) h.0 in
    pack_32 (int_at s (leaf_at 1 p.below)) (passes_at (is_natural_with is_pack) s (leaf_at 1 p.below) own.layouts)
line_fits s production p (inr e) is h =
    let own = subst (λ q. IsInRange s q p.below) (is ∙ e) h.0 in passes_at is_32_bits s (leaf_at 1 p.below) own.layouts

pack_low : (z : ℤ) → is_natural_with is_pack z ≡ true → natural z < 2 ^ 16
pack_low z e = let n = of_test 16 is_pack pack_bounds z e in subst (λ y. natural y < 2 ^ 16) (sym n.1) n.2

pub pack_fits : (s : Source) (ps : List Part) (before : Option ℕ) → AllByRecursion (IsRanged s) ps → IfSome before (λ n. n < 2 ^ 16)
    → IfSome (fold (number_or s MEMBER_PACK) before ps) (λ n. n < 2 ^ 16)
pack_fits s [] before h low = low
pack_fits s (p ∷ ps) before h low = pack_fits s ps (number_or s MEMBER_PACK before p) h.1 (go (p.production == MEMBER_PACK) refl)
  where
    go : (c : Bool) → (p.production == MEMBER_PACK) ≡ c → IfSome (if c then Some (natural (int_at s (leaf_at 1 p.below))) else before) (λ n. n < 2 ^ 16)
    go true is =
        let own = subst (λ q. IsInRange s q p.below) ((Decides-eqb p.production MEMBER_PACK).0 is) h.0.0 in
        pack_low (int_at s (leaf_at 1 p.below)) (passes_at (is_natural_with is_pack) s (leaf_at 1 p.below) own.layouts)
    go false is = low

-- ---- the last of them

abbrev said : Source → Option ℕ → List Part → Option ℕ
said s before [] = before
said s before (p ∷ ps) = Some (last_number s (p ∷ ps))

said_next : (s : Source) (before : Option ℕ) (p : Part) (ps : List Part) → said s (Some (natural (int_at s (leaf_at 1 p.below)))) ps ≡ said s before (p ∷ ps)
said_next s before p [] = refl
said_next s before p (q ∷ qs) = refl

last_of_lines : (s : Source) (production : ℕ) (before : Option ℕ) (ps : List Part)
    → fold (number_or s production) before ps ≡ said s before (filter (λ p. p.production == production) ps)
last_of_lines s production before [] = refl
last_of_lines s production before (p ∷ ps) =
    go (p.production == production) (last_of_lines s production (Some (natural (int_at s (leaf_at 1 p.below)))) ps) (last_of_lines s production before ps)
  where
    go : (c : Bool)
        → fold (number_or s production) (Some (natural (int_at s (leaf_at 1 p.below)))) ps
        ≡ said s (Some (natural (int_at s (leaf_at 1 p.below)))) (filter (λ r. r.production == production) ps)
        → fold (number_or s production) before ps ≡ said s before (filter (λ r. r.production == production) ps)
        → fold (number_or s production) (if c then Some (natural (int_at s (leaf_at 1 p.below))) else before) ps
        ≡ said s before (cond c (p ∷ filter (λ r. r.production == production) ps) (filter (λ r. r.production == production) ps))
    go true own other = own ∙ said_next s before p (filter (λ r. r.production == production) ps)
    go false own other = other

of_lines : (s : Source) (packs sizes : List Part) → layout_of (said s None packs) (said s None sizes) ≡ layout_from s packs sizes
of_lines s [] [] = refl
of_lines s [] (q ∷ qs) = refl
of_lines s (p ∷ ps) [] = refl
of_lines s (p ∷ ps) (q ∷ qs) = refl

pub layout_said : (s : Source) (f : Forest) → layout_of (last_member s MEMBER_PACK (members f)) (last_member s MEMBER_SIZE (members f)) ≡ layout s f
layout_said s f =
    ap (λ o. layout_of o (last_member s MEMBER_SIZE (members f))) (last_of_lines s MEMBER_PACK None (members f))
    ∙ ap (layout_of (said s None (lines_of MEMBER_PACK f))) (last_of_lines s MEMBER_SIZE None (members f))
    ∙ of_lines s (lines_of MEMBER_PACK f) (lines_of MEMBER_SIZE f)
