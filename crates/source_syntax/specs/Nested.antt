-- Names that stand in one another, each by the number of the name that it stands in: 0 for none, else one more than its place
-- in the list.
use Rattle.std.specs.Prelude.{◌≡◌, ℕ, suc, ◌≤◌, ◌==◌, ◌&&◌, Bool, List, [], ◌∷◌, Option, None, Some, option_map, position, slice_get}

abbrev pub onward : (ℕ → Option ℕ) → Option ℕ → Option ℕ
onward f None = None
onward f (Some n) = f n

module _ {E I : Type 0} (outer : E → ℕ) (id : E → I) (same : I → I → Bool) where
  abbrev pub is_child : ℕ → I → E → Bool
  is_child n i e = outer e == n && same (id e) i

  -- the number of the first with this id that stands in another
  abbrev pub child : List E → I → ℕ → Option ℕ
  child es i n = option_map suc (position (is_child n i) es)

  -- the number to which these ids lead from another
  abbrev pub reached : List E → List I → ℕ → Option ℕ
  reached es [] n = Some n
  reached es (i ∷ is) n = onward (reached es is) (child es i n)

  -- each stands in one before it, and no two lists of ids lead to the same
  pub record IsNested (es : List E) : Type 0 where
    pub within : (k : ℕ) (e : E) → slice_get es k ≡ Some e → outer e ≤ k
    pub one : (p q : List I) (k : ℕ) → reached es p 0 ≡ Some k → reached es q 0 ≡ Some k → p ≡ q
