-- The rows of MethodImpl of a method, as a chain leads through them.
use Rattle.std.proofs.Common.{◌≡◌, ◌≢◌, ℕ, zero, suc, ◌+◌, ◌-◌, ◌*◌, ◌<◌, ◌≤◌, inl, inr, Bool, true, false, cond, nat_eq, List, [], ◌∷◌, ◌++◌, filter, length, refl, sym, ◌∙◌, ap, subst, arith, length-append}
use Rattle.std.specs.Prelude.{slice_index}
use Rattle.std.specs.List.{AllZip, range_with_len}
use Rattle.std.proofs.lemmas.Bool.{cases_eq, eq-eqb, ne_eqb}
use Rattle.std.proofs.lemmas.List.Elements.{filter-append}
use Rattle.metadata_tables.specs.CodedIndex.{tag_of}
use Rattle.metadata_tables.specs.declared.coded.Coded.TheVariants.{MethodDefOrRef}
use Rattle.image_model.specs.Columns.{override_body}
use Rattle.image_model.specs.Reading.{overrides_of}
use Rattle.image_model.specs.Rows.{count_of, index_of, rows_of, rows_with}
use Rattle.row_chains.specs.Following.{Follows}
use Rattle.row_parts.proofs.Zips.{zip_push}
use Rattle.image_methods.specs.Overriders.{AreOverriders}

-- a list of rows, and more of them behind
range_splits : (a m n : ℕ) → range_with_len a (m + n) ≡ range_with_len a m ++ range_with_len (a + m) n
range_splits a zero n = let e : a ≡ a + 0 = omega arith in let z : 0 + n ≡ n = omega arith in ap (range_with_len a) z ∙ ap (λ (k : ℕ). range_with_len k n) e
range_splits a (suc m) n =
    let e : a + 1 + m ≡ a + suc m = omega arith in
    let s : suc m + n ≡ suc (m + n) = omega arith in
    ap (range_with_len a) s ∙ ap (λ (l : List ℕ). a ∷ l) (range_splits (a + 1) m n ∙ ap (λ (k : ℕ). range_with_len (a + 1) m ++ range_with_len k n) e)

none_pass : (test : ℕ → Bool) (a n : ℕ) → ((k : ℕ) → a ≤ k → k < a + n → test k ≡ false) → filter test (range_with_len a n) ≡ []
none_pass test a zero f = refl
none_pass test a (suc n) f =
    ap (λ (b : Bool). cond b (a ∷ filter test (range_with_len (a + 1) n)) (filter test (range_with_len (a + 1) n))) (f a (omega arith) (omega arith))
    ∙ none_pass test (a + 1) n (λ k from less. f k (omega arith) (omega arith))

one_passes : (test : ℕ → Bool) (a : ℕ) → test a ≡ true → filter test (range_with_len a 1) ≡ a ∷ []
one_passes test a e = ap (λ (b : Bool). cond b (a ∷ []) []) e

-- up to a row that passes, where none passes between
passes_next : (test : ℕ → Bool) (after at : ℕ) → after < at → ((k : ℕ) → after < k → k < at → test k ≡ false) → test at ≡ true
    → filter test (range_with_len 1 at) ≡ filter test (range_with_len 1 after) ++ at ∷ []
passes_next test after at less none does =
    let d : ℕ = at - after - 1 in
    let e : at ≡ after + (d + 1) = omega arith in
    let f : 1 + after + d ≡ at = omega arith in
    ap (λ (n : ℕ). filter test (range_with_len 1 n)) e
    ∙ ap (filter test) (range_splits 1 after (d + 1))
    ∙ filter-append test (range_with_len 1 after) (range_with_len (1 + after) (d + 1))
    ∙ ap (λ (l : List ℕ). filter test (range_with_len 1 after) ++ l)
    (ap (filter test) (range_splits (1 + after) d 1)
    ∙ filter-append test (range_with_len (1 + after) d) (range_with_len (1 + after + d) 1)
    ∙ ap (λ (l : List ℕ). l ++ filter test (range_with_len (1 + after + d) 1)) (none_pass test (1 + after) d (λ k from to. none k (omega arith) (omega arith)))
    ∙ ap (λ (k : ℕ). filter test (range_with_len k 1)) f
    ∙ one_passes test at does)

-- to the end, where none passes any more
passes_last : (test : ℕ → Bool) (after count : ℕ) → after ≤ count → ((k : ℕ) → after < k → k ≤ count → test k ≡ false)
    → filter test (range_with_len 1 count) ≡ filter test (range_with_len 1 after)
passes_last test after count le none =
    let d : ℕ = count - after in
    let e : count ≡ after + d = omega arith in
    ap (λ (n : ℕ). filter test (range_with_len 1 n)) e
    ∙ ap (filter test) (range_splits 1 after d)
    ∙ filter-append test (range_with_len 1 after) (range_with_len (1 + after) d)
    ∙ ap (λ (l : List ℕ). filter test (range_with_len 1 after) ++ l) (none_pass test (1 + after) d (λ k from to. none k (omega arith) (omega arith)))
    ∙ append_nil (filter test (range_with_len 1 after))
  where
    append_nil : (l : List ℕ) → l ++ [] ≡ l
    append_nil [] = refl
    append_nil (x ∷ l) = ap (λ (m : List ℕ). x ∷ m) (append_nil l)

-- ---- the rows of a method

abbrev pub is_of : List ℕ → ℕ → ℕ → Bool
is_of image method row = nat_eq (override_body image row) (index_of MethodDefOrRef 0x06 method)

method_index : (method : ℕ) → index_of MethodDefOrRef 0x06 method ≡ method * 2
unfolding tag_of
method_index method = omega arith

pub overrides_are : (image : List ℕ) (method : ℕ) → overrides_of image method ≡ filter (is_of image method) (range_with_len 1 (count_of image 0x19))
unfolding rows_with rows_of
overrides_are image method = refl

-- what a chain has led through, up to the row behind which it goes on
pub record Led (image bodies : List ℕ) (method : ℕ) {X : Type 0} (Is : ℕ → X → Type 0) (at : ℕ) (all : List X) : Type 0 where
  pub after : ℕ
  pub upto : after ≤ count_of image 0x19
  pub follows : Follows bodies method after at
  pub led : AllZip Is (filter (is_of image method) (range_with_len 1 after)) all

module _ (image bodies : List ℕ) (are : AreOverriders image bodies) (method : ℕ) where
  is : (row : ℕ) → 0 < row → row ≤ count_of image 0x19 → slice_index bodies row ≡ method → is_of image method row ≡ true
  is row some upto e = eq-eqb (override_body image row) (index_of MethodDefOrRef 0x06 method) (are.each row some upto ∙ ap (λ (k : ℕ). k * 2) e ∙ sym (method_index method))

  isnt : (row : ℕ) → 0 < row → row ≤ count_of image 0x19 → slice_index bodies row ≢ method → is_of image method row ≡ false
  isnt row some upto n = ne_eqb (override_body image row) (index_of MethodDefOrRef 0x06 method) (λ e. n (let a = are.each row some upto in let b = method_index method in omega (arith, a, b, e)))

  pub led_begin : {X : Type 0} (Is : ℕ → X → Type 0) (at : ℕ) → Follows bodies method 0 at → Led image bodies method Is at []
  led_begin Is at f = record { after = 0; upto = omega arith; follows = f; led = tt }

  -- the row to which the chain led
  pub at_row : {X : Type 0} (Is : ℕ → X → Type 0) (at : ℕ) (all : List X) → at ≢ 0 → Led image bodies method Is at all → (0 < at) × (at ≤ count_of image 0x19) × (at < length bodies) × (slice_index bodies at ≡ method)
  at_row Is at all n l = go l.follows
    where
      go : Follows bodies method l.after at → (0 < at) × (at ≤ count_of image 0x19) × (at < length bodies) × (slice_index bodies at ≡ method)
      go (inl z) = absurd (n z.0)
      go (inr f) = (let a = f.0 in omega arith, let b = f.1 in let long = are.long in omega arith, f.1, f.2)

  pub led_on : {X : Type 0} (Is : ℕ → X → Type 0) (at next : ℕ) (all : List X) (x : X) → at ≢ 0 → Led image bodies method Is at all → Is at x → Follows bodies (slice_index bodies at) at next → Led image bodies method Is next (all ++ x ∷ [])
  led_on Is at next all x n l h f =
      let r = at_row Is at all n l in
      record {
        after = at;
        upto = r.1;
        follows = subst (λ (m : ℕ). Follows bodies m at next) r.3 f;
        led = subst (λ rows. AllZip Is rows (all ++ x ∷ [])) (sym (passed l.follows)) (zip_push Is (filter (is_of image method) (range_with_len 1 l.after)) all at x l.led h);
      }
    where
      passed : Follows bodies method l.after at → filter (is_of image method) (range_with_len 1 at) ≡ filter (is_of image method) (range_with_len 1 l.after) ++ at ∷ []
      passed (inl z) = absurd (n z.0)
      passed (inr g) =
          let r = at_row Is at all n l in
          passes_next (is_of image method) l.after at g.0 (λ k from to. isnt k (omega arith) (let u = r.1 in omega arith) (g.3 k from to (let u = g.1 in omega arith))) (is at r.0 r.1 r.3)

  pub led_end : {X : Type 0} (Is : ℕ → X → Type 0) (at : ℕ) (all : List X) → at ≡ 0 → Led image bodies method Is at all → AllZip Is (overrides_of image method) all
  led_end Is at all z l = subst (λ rows. AllZip Is rows all) (sym (overrides_are image method ∙ passed l.follows)) l.led
    where
      passed : Follows bodies method l.after at → filter (is_of image method) (range_with_len 1 (count_of image 0x19)) ≡ filter (is_of image method) (range_with_len 1 l.after)
      passed (inl e) = passes_last (is_of image method) l.after (count_of image 0x19) l.upto (λ k from to. isnt k (omega arith) to (e.1 k from (let long = are.long in omega arith) (let long = are.long in omega arith)))
      passed (inr g) = absurd (let a = g.0 in omega arith)

  pub nearer : (at next : ℕ) → at ≢ 0 → at < length bodies → Follows bodies (slice_index bodies at) at next → cond (nat_eq next 0) 0 (length bodies - next) < cond (nat_eq at 0) 0 (length bodies - at)
  nearer at next n less (inl z) =
      let a : nat_eq next 0 ≡ true = eq-eqb next 0 z.0 in
      let b : nat_eq at 0 ≡ false = ne_eqb at 0 n in
      rw a (rw b (omega arith))
  nearer at next n less (inr f) =
      let a : nat_eq next 0 ≡ false = ne_eqb next 0 (λ e. let g = f.0 in omega arith) in
      let b : nat_eq at 0 ≡ false = ne_eqb at 0 n in
      let g = f.0 in let h = f.1 in
      rw a (rw b (omega arith))

-- ---- the methods that override, row by row

-- the bodies of the rows so far
pub record AreSoFar (image bodies : List ℕ) (row : ℕ) : Type 0 where
  pub long : length bodies ≡ row + 1
  pub each : (k : ℕ) → 0 < k → k ≤ row → override_body image k ≡ slice_index bodies k * 2

front : (xs : List ℕ) (x k : ℕ) → k < length xs → slice_index (xs ++ x ∷ []) k ≡ slice_index xs k
front [] x k less = absurd (omega arith)
front (y ∷ ys) x zero less = refl
front (y ∷ ys) x (suc k) less = front ys x k (omega arith)

last : (xs : List ℕ) (x k : ℕ) → k ≡ length xs → slice_index (xs ++ x ∷ []) k ≡ x
last [] x zero e = refl
last [] x (suc k) e = absurd (omega arith)
last (y ∷ ys) x zero e = absurd (omega arith)
last (y ∷ ys) x (suc k) e = last ys x k (omega arith)

pub begun : (image bodies : List ℕ) → bodies ≡ 0 ∷ [] → AreSoFar image bodies 0
begun image bodies e = record { long = ap length e; each = λ k some upto. absurd (omega arith) }

pub pushed : (image bodies more : List ℕ) (row x : ℕ) → more ≡ bodies ++ x ∷ [] → AreSoFar image bodies row → override_body image (row + 1) ≡ x * 2 → AreSoFar image more (row + 1)
pushed image bodies more row x e so h = record {
  long = ap length e ∙ length-append bodies (x ∷ []) ∙ (let l = so.long in omega arith);
  each = λ k some upto. elim (cases_eq k (row + 1)) [
    | inl is ↦ ap (override_body image) is ∙ h ∙ ap (λ (n : ℕ). n * 2) (sym (ap (λ (l : List ℕ). slice_index l k) e ∙ last bodies x k (is ∙ sym so.long)))
    | inr n ↦ so.each k some (omega arith) ∙ ap (λ (n : ℕ). n * 2) (sym (ap (λ (l : List ℕ). slice_index l k) e ∙ front bodies x k (let l = so.long in omega arith)))
  ];
}

pub all_so : (image bodies : List ℕ) → AreSoFar image bodies (count_of image 0x19) → AreOverriders image bodies
all_so image bodies so = record { long = so.long; each = so.each }
