-- Numbers that lie beyond all bounds, and widths.
use Rattle.std.proofs.Common.{◌≡◌, ℕ, ◌<◌, ◌≤◌, List, [], ◌∷◌, ◌++◌, ap, sym, ◌∙◌, refl, arith}
use Rattle.std.specs.Prelude.{Bool, true, false, ◌==◌, ◌||◌, if◌then◌else◌, nat_le, ℤ, pos, negsuc, Option}
use Rattle.std.specs.List.{flat_map}
use Rattle.type_terms.specs.declared.term.Primitive.TheVariants as prim
use Rattle.ilasm_grammar.specs.declared.productions.TheConstants.{INT_TYPE_INT8, INT_TYPE_INT16, INT_TYPE_INT32, INT_TYPE_INT64, INT_TYPE_UINT8, INT_TYPE_UINT16, INT_TYPE_UINT32, UNSIGNED_INT_INT8, UNSIGNED_INT_INT16, UNSIGNED_INT_INT32}
use Rattle.source_model.specs.Constants.{bits_of}
use Rattle.source_model.specs.Forest as tree
use Rattle.source_model.specs.Forest.{Forest, below_each, each, has, joined, leaf_at, part, parts}
use Rattle.source_model.specs.Laws.{ForestsJoin}
use Rattle.source_model.specs.OutOfRange.{is_16_bits, is_32_bits, is_natural_with}
use Rattle.source_model.specs.Source.{Source}
use Rattle.source_model.specs.TypeRules.{is_within, unless}
use Rattle.source_model.specs.Types.{int_type}
use Rattle.source_nodes.specs.Integers.{distance}
use Rattle.source_nodes.specs.Least.{least, sooner}
use Rattle.check_visitor.specs.NumberTests.{test_of, unsigned_bits, version_out_of_range}
use Rattle.source_nodes.specs.Readers.{Reads}
use Rattle.check_visitor.specs.declared.ranges.Test.{Test}
use Rattle.check_visitor.specs.declared.ranges.Test.TheVariants.{ImageBase, FileAlignment, CorFlags, Implementation, Pack}
use Rattle.source_nodes.specs.declared.reader.Reader.{Reader}
use Rattle.source_syntax.proofs.LeastLemmas.{least_append, sooner_assoc}

-- what is further from 0 than both bounds lies outside
pub beyond : (low high z : ℤ) (m : ℕ) → distance low < m → distance high < m → m ≤ distance z → is_within low high z ≡ false
beyond (pos l) (pos h) (pos n) m a b e = grind arith
beyond (pos l) (negsuc h) (pos n) m a b e = grind arith
beyond (negsuc l) (pos h) (pos n) m a b e = grind arith
beyond (negsuc l) (negsuc h) (pos n) m a b e = grind arith
beyond (pos l) (pos h) (negsuc n) m a b e = grind arith
beyond (pos l) (negsuc h) (negsuc n) m a b e = grind arith
beyond (negsuc l) (pos h) (negsuc n) m a b e = grind arith
beyond (negsuc l) (negsuc h) (negsuc n) m a b e = grind arith

-- a number of more than 32 bits passes no test
large : (n : ℕ) → is_32_bits (pos n) ≡ false → nat_le n 0xFFFFFFFF ≡ false
large n e = grind arith

pub fails_beyond : (test : Test) (z : ℤ) → is_32_bits z ≡ false → is_natural_with (test_of test) z ≡ false
fails_beyond test (negsuc n) e = refl
fails_beyond ImageBase (pos n) e = let big = large n e in grind arith
fails_beyond FileAlignment (pos n) e = let big = large n e in grind arith
fails_beyond CorFlags (pos n) e = let big = large n e in grind arith
fails_beyond Implementation (pos n) e = let big = large n e in grind arith
fails_beyond Pack (pos n) e = let big = large n e in grind arith

-- ---- parts with a number each

module _ (test : ℤ → Bool) (p : ℕ) where
  -- the numbers of the parts that lie outside
  abbrev pub out_in_each : Source → Forest → List ℕ
  out_in_each s f = flat_map (λ g. unless test s (leaf_at 1 g)) (each p f)

  abbrev pub out_after : (r : Reader) → Option ℕ → ((s : Source) × Reads r s) → Forest → Option ℕ
  out_after r found i f = sooner found (least (out_in_each i.0 f))

  module _ (s : Source) (found : Option ℕ) where
    pub out_into : ForestsJoin → (q : ℕ) (b a : Forest) → (p == q) ≡ false
        → sooner found (least (out_in_each s (joined b a))) ≡ sooner found (least (out_in_each s (tree.branch q b a)))
    out_into joins q b a e =
        ap (λ ps. sooner found (least (flat_map (λ g. unless test s (leaf_at 1 g)) (below_each ps)))) (joins.parts [] (p ∷ []) b a)
        ∙ ap (λ (c : Bool). sooner found (least (flat_map (λ g. unless test s (leaf_at 1 g))
        (below_each ((if c || false then part q b ∷ [] else parts (p ∷ []) b) ++ parts (p ∷ []) a))))) (sym e)

    pub out_past : (q : ℕ) (b a : Forest) (here : Option ℕ) → (p == q) ≡ true → here ≡ least (unless test s (leaf_at 1 b))
        → sooner (sooner found here) (least (out_in_each s a)) ≡ sooner found (least (out_in_each s (tree.branch q b a)))
    out_past q b a here e h =
        sooner_assoc found here (least (out_in_each s a))
        ∙ ap (λ x. sooner found (sooner x (least (out_in_each s a)))) h
        ∙ ap (sooner found) (sym (least_append (unless test s (leaf_at 1 b)) (out_in_each s a)))
        ∙ ap (λ (c : Bool). sooner found (least (flat_map (λ g. unless test s (leaf_at 1 g))
        (below_each ((if c || false then part q b ∷ [] else parts (p ∷ []) b) ++ parts (p ∷ []) a))))) (sym e)

-- ---- versions

nil_right : (xs : List ℕ) → xs ≡ xs ++ []
nil_right [] = refl
nil_right (x ∷ xs) = ap (λ ys. x ∷ ys) (nil_right xs)

pub four : (s : Source) (f : Forest) (a b c d : Option ℕ) → a ≡ least (unless is_16_bits s (leaf_at 1 f)) → b ≡ least (unless is_16_bits s (leaf_at 3 f))
    → c ≡ least (unless is_16_bits s (leaf_at 5 f)) → d ≡ least (unless is_16_bits s (leaf_at 7 f))
    → sooner a (sooner b (sooner c d)) ≡ least (version_out_of_range s f)
four s f a b c d ea eb ec ed =
    let part = λ (k : ℕ). unless is_16_bits s (leaf_at k f) in
    ap (λ x. sooner x (sooner b (sooner c d))) ea
    ∙ ap (λ x. sooner (least (part 1)) (sooner x (sooner c d))) eb
    ∙ ap (λ x. sooner (least (part 1)) (sooner (least (part 3)) (sooner x d))) ec
    ∙ ap (λ x. sooner (least (part 1)) (sooner (least (part 3)) (sooner (least (part 5)) x))) (ed ∙ ap least (nil_right (part 7)))
    ∙ ap (λ x. sooner (least (part 1)) (sooner (least (part 3)) x)) (sym (least_append (part 5) (part 7 ++ [])))
    ∙ ap (sooner (least (part 1))) (sym (least_append (part 3) (part 5 ++ (part 7 ++ []))))
    ∙ sym (least_append (part 1) (part 3 ++ (part 5 ++ (part 7 ++ []))))

-- ---- widths

chosen_bits : (a b c d e g h : Bool)
    → bits_of (if a then prim.I1 else if b then prim.I2 else if c then prim.I4 else if d then prim.I8
    else if e then prim.U1 else if g then prim.U2 else if h then prim.U4 else prim.U8)
    ≡ (if a then 8 else if b then 16 else if c then 32 else if d then 64 else if e then 8 else if g then 16 else if h then 32 else 64)
chosen_bits true b c d e g h = refl
chosen_bits false true c d e g h = refl
chosen_bits false false true d e g h = refl
chosen_bits false false false true e g h = refl
chosen_bits false false false false true g h = refl
chosen_bits false false false false false true h = refl
chosen_bits false false false false false false true = refl
chosen_bits false false false false false false false = refl

pub bits_of_int : (f : Forest) → bits_of (int_type f)
    ≡ (if has INT_TYPE_INT8 f then 8 else if has INT_TYPE_INT16 f then 16 else if has INT_TYPE_INT32 f then 32
    else if has INT_TYPE_INT64 f then 64 else unsigned_bits f)
bits_of_int f =
    chosen_bits (has INT_TYPE_INT8 f) (has INT_TYPE_INT16 f) (has INT_TYPE_INT32 f) (has INT_TYPE_INT64 f)
    (has INT_TYPE_UINT8 f || has UNSIGNED_INT_INT8 f) (has INT_TYPE_UINT16 f || has UNSIGNED_INT_INT16 f)
    (has INT_TYPE_UINT32 f || has UNSIGNED_INT_INT32 f)
