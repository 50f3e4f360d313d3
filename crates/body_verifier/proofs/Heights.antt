-- How many types lie above one in the world of an image and its references.
use Rattle.std.proofs.Common.{◌≡◌, ◌∙◌, refl, sym, ap, subst, ℕ, zero, suc, ◌+◌, ◌*◌, ◌<◌, ◌≤◌, ◌^◌, arith, Bool, true, false, cond, List, [], ◌∷◌, ◌++◌, length, map, Option, None, Some}
use Rattle.std.specs.Prelude.{IsTrue, if◌then◌else◌}
use Rattle.std.specs.List.{All, list_any, sum_by, flat_map, filter}
use Rattle.std.specs.Option.{option_map}
use Rattle.std.proofs.lemmas.List.{length-map, length-append}
use Rattle.std.proofs.lemmas.List.Elements.{All-weaker}
use Rattle.std.proofs.lemmas.List.Sums.{sum-map, sum_by-cons, sum_by-le}
use Rattle.type_terms.specs.declared.term.SigType.{SigType}
use Rattle.type_terms.specs.declared.name.TypeId.{TypeId}
use Rattle.assembly_tree.specs.declared.assembly.Assembly.{Assembly}
use Rattle.assembly_tree.specs.declared.typedef.TypeDef.{TypeDef}
use Rattle.assembly_tree.specs.declared.typedef.TypeDef.TheFolds.{fold_out-TypeDef}
use Rattle.assembly_tree.specs.declared.typedef.TypeDef.TheViews.{out-TypeDef}
use Rattle.assembly_tree.specs.Weight.{own_weight, typedef_step, typedef_weight, weight_of}
use Rattle.type_hierarchy.specs.Ancestors.{Paths, paths_step, typedef_paths, all_declared, declared_in, declaring, has_number}
use Rattle.type_hierarchy.specs.Hierarchy.{Hierarchy, parent}
use Rattle.type_hierarchy.specs.Laws.{IsGrounded, IsOrder}
use Rattle.type_hierarchy.specs.Names.{same_text}
use Rattle.type_hierarchy.specs.Scopes.{Sources, Member, members, members_from, member_of, name_of, own_scope}
use Rattle.type_hierarchy.specs.Tables.{hierarchy_in}
use Rattle.type_hierarchy.specs.World.{Content, hierarchy}
use Rattle.type_order.specs.Worlds.{IsFit}
use Rattle.type_order.specs.Worlds.{IsWorldSince}
use Rattle.body_verifier.specs.Checking.{one_more, above, setup}
use Rattle.code_flow.specs.Frames.{Frame}
use Rattle.code_flow.specs.Laws.{AreMonotone}
use Rattle.body_verifier.specs.StepBound.{height}
use Rattle.body_verifier.specs.Ways.{IsSetUp}

-- ---- types above one

module _ (w : Hierarchy) (h : SigType → ℕ) (g : IsGrounded w h) where
  settled_by : (m : ℕ) (o : Option SigType) → ((t : SigType) → o ≡ Some t → above w (suc m) t ≡ above w m t)
      → one_more (option_map (above w (suc m)) o) ≡ one_more (option_map (above w m) o)
  settled_by m None same = refl
  settled_by m (Some t) same = ap (λ (n : ℕ). n + 1) (same t refl)

  none_above : (t : SigType) (o : Option SigType) → parent w t ≡ o → h t ≤ 0 → one_more (option_map (above w 0) o) ≡ 0
  none_above t None e low = refl
  none_above t (Some p) e low = let l = g.lower t p e in absurd (omega arith)

  settled : (m : ℕ) (t : SigType) → h t ≤ m → above w (suc m) t ≡ above w m t
  unfolding above
  settled zero t low = none_above t (parent w t) refl low
  settled (suc k) t low = settled_by k (parent w t) (λ p e. settled k p (let l = g.lower t p e in omega arith))

  above_more : (m : ℕ) (s t : SigType) → parent w s ≡ Some t → above w (suc m) s ≡ above w m t + 1
  unfolding above
  above_more m s t e = ap (λ (o : Option SigType). one_more (option_map (above w m) o)) e

  lower : (n : ℕ) → ((t : SigType) → h t ≤ n) → (s t : SigType) → parent w s ≡ Some t → above w n t < above w n s
  lower zero low s t e = let l = g.lower s t e in let m = low s in absurd (omega arith)
  lower (suc m) low s t e =
      let l = g.lower s t e in
      let k = low s in
      let one = above_more m s t e in
      let same : above w (suc m) t ≡ above w m t = settled m t (omega arith) in
      omega arith

  pub grounded_above : (n : ℕ) → ((t : SigType) → h t ≤ n) → IsGrounded w (above w n)
  grounded_above n low = record {
    lower = lower n low;
    no_parent_array = g.no_parent_array;
    no_interface_array = g.no_interface_array;
    integral = g.integral;
  }

one_more_low : (w : Hierarchy) (n : ℕ) (o : Option SigType) → ((t : SigType) → above w n t ≤ n) → one_more (option_map (above w n) o) ≤ suc n
one_more_low w n None h = omega arith
one_more_low w n (Some t) h = let l = h t in omega arith

above_low : (w : Hierarchy) (n : ℕ) (t : SigType) → above w n t ≤ n
unfolding above
above_low w zero t = omega arith
above_low w (suc n) t = one_more_low w n (parent w t) (above_low w n)

-- ---- the world of a check

pub same_types : (s : Sources) (w : Content) (h : IsWorldSince s w) → hierarchy w ≡ Rattle.type_hierarchy.specs.Declarations.hierarchy_of s
same_types s w h = ap hierarchy_in h.stays.tables ∙ h.made.hierarchy

grounded_in : (s : Sources) (w : Content) → IsWorldSince s w → IsGrounded (hierarchy w) (above (hierarchy w) (length (all_declared s) + 4))
grounded_in s w h =
    let g = h.made.grounded in
    let P : Hierarchy → Type 0 = λ (x : Hierarchy). IsGrounded x (above x (length (all_declared s) + 4)) in
    subst P (sym (same_types s w h)) (grounded_above (Rattle.type_hierarchy.specs.Declarations.hierarchy_of s) g.0 g.1 (length (all_declared s) + 4) g.2)

pub grounded_types : (s : Sources) (w : Content) (x : Hierarchy) → IsWorldSince s w → x ≡ hierarchy w → IsGrounded x (above x (length (all_declared s) + 4))
grounded_types s w x h e =
    let P : Hierarchy → Type 0 = λ (y : Hierarchy). IsGrounded y (above y (length (all_declared s) + 4)) in
    subst P (sym e) (grounded_in s w h)

pub set_up : (s : Sources) (w : Content) (f : Frame) → IsWorldSince s w → f.types ≡ hierarchy w → 0 < length f.code
    → ((x : Hierarchy) (tall : SigType → ℕ) → IsGrounded x tall → IsOrder x) → ((f : Frame) (tall : SigType → ℕ) → IsGrounded f.types tall → AreMonotone f)
    → IsSetUp (hierarchy w) (setup s f)
set_up s w f h types some order monotone =
    let n = length (all_declared s) + 4 in
    let g = grounded_in s w h in
    let P : Hierarchy → Type 0 = λ (x : Hierarchy). IsGrounded (hierarchy w) (above x n) in
    record {
      types = types;
      some = some;
      grounded = subst P (sym types) g;
      low = λ t. let l = above_low f.types n t in omega arith;
      order = order (hierarchy w) (above (hierarchy w) n) g;
      monotone = monotone f (above f.types n) (grounded_types s w f.types h types);
    }

-- ---- how many types are declared

weight_parts : (t : TypeDef) → typedef_weight t ≡ own_weight (out-TypeDef t) + sum_by typedef_weight (out-TypeDef t).nested
unfolding own_weight
weight_parts t = fold_out-TypeDef ℕ typedef_step t ∙ ap (λ s. own_weight (out-TypeDef t) + s) (sum-map typedef_weight (out-TypeDef t).nested)

own_heavy : (t : TypeDef) → 64 + sum_by typedef_weight (out-TypeDef t).nested ≤ typedef_weight t
unfolding own_weight
own_heavy t = let e = weight_parts t in omega arith

each_of : (ts : List TypeDef) → flat_map (λ (paths : Paths). paths) (map typedef_paths ts) ≡ flat_map typedef_paths ts
each_of [] = refl
each_of (t ∷ ts) = ap (λ ps. typedef_paths t ++ ps) (each_of ts)

paths_count : (t : TypeDef) → length (typedef_paths t) ≡ 1 + length (flat_map typedef_paths (out-TypeDef t).nested)
paths_count t =
    let id = (out-TypeDef t).id in
    let e = fold_out-TypeDef Paths paths_step t ∙ ap (λ ps. (id ∷ []) ∷ map (λ path. id ∷ path) ps) (each_of (out-TypeDef t).nested) in
    let l = length-map (flat_map typedef_paths (out-TypeDef t).nested) (λ (path : List TypeId). id ∷ path) in
    ap length e ∙ (omega arith)

-- by the types that nest in at most so much weight
paths_low_by : (n : ℕ) → ((ts : List TypeDef) → sum_by typedef_weight ts ≤ n → 64 * length (flat_map typedef_paths ts) ≤ sum_by typedef_weight ts)
    → (ts : List TypeDef) → sum_by typedef_weight ts ≤ suc n → 64 * length (flat_map typedef_paths ts) ≤ sum_by typedef_weight ts
paths_low_by n below [] h = omega arith
paths_low_by n below (t ∷ ts) h =
    let sum = sum_by-cons typedef_weight t ts in
    let own = own_heavy t in
    let inner = below (out-TypeDef t).nested (omega arith) in
    let count = paths_count t in
    let more = paths_low_by n below ts (omega arith) in
    let both = length-append (typedef_paths t) (flat_map typedef_paths ts) in
    omega arith

paths_low : (n : ℕ) (ts : List TypeDef) → sum_by typedef_weight ts ≤ n → 64 * length (flat_map typedef_paths ts) ≤ sum_by typedef_weight ts
paths_low zero [] h = omega arith
paths_low zero (t ∷ ts) h = let sum = sum_by-cons typedef_weight t ts in let own = own_heavy t in absurd (omega arith)
paths_low (suc n) ts h = paths_low_by n (paths_low n) ts h

types_low : (a : Assembly) → sum_by typedef_weight a.types ≤ weight_of a
unfolding weight_of
types_low a = omega arith

abbrev heavy : Member → ℕ
heavy m = weight_of m.assembly

declared_low : (m : Member) → 64 * length (declared_in m) ≤ heavy m
declared_low m =
    let all = paths_low (sum_by typedef_weight m.assembly.types) m.assembly.types (omega arith) in
    let l = length-map (flat_map typedef_paths m.assembly.types) (λ (path : List TypeId). let d : Rattle.type_hierarchy.specs.Ancestors.Declared = record { member = m; path = path } in d) in
    let low = types_low m.assembly in
    omega arith

all_low : (ms : List Member) → 64 * length (flat_map declared_in ms) ≤ sum_by heavy ms
all_low [] = omega arith
all_low (m ∷ ms) =
    let more = all_low ms in
    let one = declared_low m in
    let both = length-append (declared_in m) (flat_map declared_in ms) in
    let sum = sum_by-cons heavy m ms in
    omega arith

filter_by : (p : Member → Bool) (m : Member) (ms : List Member) (b : Bool) → sum_by heavy (filter p ms) ≤ sum_by heavy ms → sum_by heavy (cond b (m ∷ filter p ms) (filter p ms)) ≤ sum_by heavy (m ∷ ms)
filter_by p m ms true h = let a = sum_by-cons heavy m (filter p ms) in let b = sum_by-cons heavy m ms in omega arith
filter_by p m ms false h = let b = sum_by-cons heavy m ms in omega arith

filter_low : (p : Member → Bool) (ms : List Member) → sum_by heavy (filter p ms) ≤ sum_by heavy ms
filter_low p [] = omega arith
filter_low p (m ∷ ms) = filter_by p m ms (p m) (filter_low p ms)

members_by : (k : ℕ) (before : List (List ℕ)) (r : Assembly) (rs : List Assembly) (b : Bool)
    → ((j : ℕ) (names : List (List ℕ)) → sum_by heavy (members_from j names rs) ≤ sum_by weight_of rs)
    → sum_by heavy (if b then members_from (k + 1) before rs else record { number = k; assembly = r } ∷ members_from (k + 1) (before ++ name_of r ∷ []) rs) ≤ sum_by weight_of (r ∷ rs)
members_by k before r rs true h = let l = h (k + 1) before in let b = sum_by-cons weight_of r rs in omega arith
members_by k before r rs false h =
    let l = h (k + 1) (before ++ name_of r ∷ []) in
    let a = sum_by-cons heavy (record { number = k; assembly = r }) (members_from (k + 1) (before ++ name_of r ∷ []) rs) in
    let b = sum_by-cons weight_of r rs in
    omega arith

members_low : (rs : List Assembly) (k : ℕ) (before : List (List ℕ)) → sum_by heavy (members_from k before rs) ≤ sum_by weight_of rs
members_low [] k before = omega arith
members_low (r ∷ rs) k before = members_by k before r rs (list_any (same_text (name_of r)) before) (members_low rs)

-- no world has more than 2 ^ 24 types above one
pub height_low : (s : Sources) (w : Content) → IsWorldSince s w → height s ≤ 2 ^ 24
unfolding all_declared
height_low s w h =
    let all = all_low (declaring s) in
    let kept = filter_low (λ (m : Member). has_number m.number (member_of s (own_scope s m))) (members s) in
    let given = members_low s.references 1 (name_of s.image ∷ []) in
    let first = sum_by-cons heavy (record { number = 0; assembly = s.image }) (members_from 1 (name_of s.image ∷ []) s.references) in
    let image = h.image.1 in
    let few = h.few in
    let each = sum_by-le weight_of (2 ^ 26) s.references (All-weaker IsFit (λ a. weight_of a ≤ 2 ^ 26) (λ a f. f.1) s.references h.references) in
    omega arith
