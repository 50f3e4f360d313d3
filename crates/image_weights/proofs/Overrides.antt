-- The rows of MethodImpl of a method, as a chain leads through them, and what they weigh (II.22.27).
use Rattle.std.proofs.Common.{◌≡◌, ◌≢◌, ℕ, ◌-◌, List, [], ◌∷◌, ◌++◌, refl, sym, ◌∙◌, ap, arith}
use Rattle.std.specs.Prelude.{sum_by, slice_index}
use Rattle.std.specs.List.{AllZip}
use Rattle.std.proofs.lemmas.List.Sums.{sum_by-cons, sum_by_push}
use Rattle.image_methods.specs.Overriders.{AreOverriders}
use Rattle.image_methods.proofs.Overriding.{Led, led_begin, led_on, led_end}
use Rattle.image_model.specs.Reading.{overrides_of}
use Rattle.row_chains.specs.Following.{Follows}

-- each number is what its row weighs
abbrev pub Weighs : (ℕ → ℕ) → ℕ → ℕ → Type 0
Weighs f row n = n ≡ f row

all_same : (f : ℕ → ℕ) (rows all : List ℕ) → AllZip (Weighs f) rows all → sum_by f rows ≡ sum_by (λ n. n) all
all_same f [] [] z = refl
all_same f [] (n ∷ all) z = absurd z
all_same f (r ∷ rows) [] z = absurd z
all_same f (r ∷ rows) (n ∷ all) z =
    let a = sum_by-cons f r rows in let b = sum_by-cons (λ (n : ℕ). n) n all in let c = all_same f rows all z.1 in let e = z.0 in
    omega (arith, a, b, c, e)

-- the weights of the rows that the chain led through are taken off
pub record Taken (image bodies : List ℕ) (method : ℕ) (f : ℕ → ℕ) (before at left : ℕ) : Type 0 where
  pub all : List ℕ
  pub led : Led image bodies method (Weighs f) at all
  pub off : left ≡ before - sum_by (λ n. n) all

module _ (image bodies : List ℕ) (are : AreOverriders image bodies) (method : ℕ) (f : ℕ → ℕ) (before : ℕ) where
  pub taken_begin : (at : ℕ) → Follows bodies method 0 at → Taken image bodies method f before at before
  taken_begin at h = record { all = []; led = led_begin image bodies are method (Weighs f) at h; off = omega arith }

  pub taken_on : (at next left more : ℕ) → at ≢ 0 → Taken image bodies method f before at left → more ≡ left - f at → Follows bodies (slice_index bodies at) at next → Taken image bodies method f before next more
  taken_on at next left more n t e h = record {
    all = t.all ++ f at ∷ [];
    led = led_on image bodies are method (Weighs f) at next t.all (f at) n t.led refl h;
    off = let a = sum_by_push (λ (n : ℕ). n) t.all (f at) in let o = t.off in omega (arith, a, o, e);
  }

  pub taken_end : (at left : ℕ) → at ≡ 0 → Taken image bodies method f before at left → left ≡ before - sum_by f (overrides_of image method)
  taken_end at left z t =
      t.off ∙ ap (λ (n : ℕ). before - n) (sym (all_same f (overrides_of image method) t.all (led_end image bodies are method (Weighs f) at t.all z t.led)))
