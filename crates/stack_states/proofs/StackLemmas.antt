-- Stacks value by value, and what is known where two of them meet.
use Rattle.std.proofs.Common.{◌≡◌, ◌≢◌, ◌⊎◌, inl, inr, refl, sym, ◌∙◌, ap, subst, ℕ, zero, suc, ◌+◌, ◌<◌, ◌≤◌, arith, List, [], ◌∷◌, ◌++◌, length, map, get_or, Some}
use Rattle.std.proofs.lemmas.Bool.{cases_lt}
use Rattle.std.proofs.lemmas.List.{length-map, length-append, length_push, get_or-map, get_or_append_left, get_or_push, ext_get_or}
use Rattle.std.specs.Prelude.{slice_get}
use Rattle.std.proofs.lemmas.Option.{get_or_from_slice_get, slice_get_within}
use Rattle.std.proofs.lemmas.List.Elements.{All-get_or, All-from_get_or, All-weaker}
use Rattle.sig_pool.specs.declared.node.Node.{Node}
use Rattle.type_hierarchy.specs.declared.stack_type.StackType.{StackType}
use Rattle.type_hierarchy.specs.declared.stack_type.StackType.TheVariants.{Bad}
use Rattle.type_hierarchy.specs.Hierarchy.{Hierarchy}
use Rattle.type_order.specs.Joining.{JoinsAs}
use Rattle.type_hierarchy.specs.Meaning.{meant, IsWithin}
use Rattle.type_hierarchy.specs.Relations.{Below, IsJoin}
use Rattle.type_hierarchy.specs.Stack.{Stack, bad}
use Rattle.type_order.specs.Staying.{KeepsKeys}
use Rattle.type_hierarchy.specs.Tables.{hierarchy_in}
use Rattle.type_hierarchy.specs.World.{Content, hierarchy, Stays}
use Rattle.stack_states.specs.Meetings.{IsMeeting, IsNewMeeting}
use Rattle.stack_rows.specs.RowMeanings.{stack_meant, IsStackWithin}
use Rattle.code_flow.specs.Stacks.{Each}
use Rattle.stack_states.specs.StateMeanings.{AllJoinAs}
use Rattle.code_flow.specs.Typings.{State, unreached, stack, clash, AtMost, below_all, above_all, stacks}

pub at_or_before : (i k : ℕ) → i < k + 1 → (i < k) ⊎ (i ≡ k)
at_or_before i k below = elim (cases_lt i k) [ inl h ↦ inl h | inr h ↦ inr (omega arith) ]

-- ---- maps of two lists

pub same_maps : {X Y : Type 0} (f : X → Y) (s t : List X) (d : X) → length s ≡ length t → ((i : ℕ) → i < length s → f (get_or s i d) ≡ f (get_or t i d)) → map f s ≡ map f t
same_maps f s t d e h =
    ext_get_or (f d) (map f s) (map f t) (length-map s f ∙ e ∙ sym (length-map t f))
    (λ i below. let i_s : i < length s = omega (arith, length-map s f) in
    get_or-map f s i d (f d) i_s ∙ h i i_s ∙ sym (get_or-map f t i d (f d) (omega arith)))

pub maps_at : {X Y : Type 0} (f : X → Y) (s t : List X) (d : X) (k : ℕ) → k < length s → k < length t → map f s ≡ map f t → f (get_or s k d) ≡ f (get_or t k d)
maps_at f s t d k in_s in_t e =
    sym (get_or-map f s k d (f d) in_s) ∙ ap (λ xs. get_or xs k (f d)) e ∙ get_or-map f t k d (f d) in_t

-- ---- relations value by value

pub each_depth : (R : Stack → Stack → Type 0) (xs ys : List Stack) → Each R xs ys → length xs ≡ length ys
each_depth R [] [] h = refl
each_depth R [] (y ∷ ys) h = absurd h
each_depth R (x ∷ xs) [] h = absurd h
each_depth R (x ∷ xs) (y ∷ ys) h = ap suc (each_depth R xs ys h.1)

pub each_at : (R : Stack → Stack → Type 0) (xs ys : List Stack) (k : ℕ) → Each R xs ys → k < length xs → R (get_or xs k bad) (get_or ys k bad)
each_at R [] [] k h below = absurd (omega arith)
each_at R [] (y ∷ ys) k h below = absurd h
each_at R (x ∷ xs) [] k h below = absurd h
each_at R (x ∷ xs) (y ∷ ys) zero h below = h.0
each_at R (x ∷ xs) (y ∷ ys) (suc k) h below = each_at R xs ys k h.1 (omega arith)

pub each_from : (R : Stack → Stack → Type 0) (xs ys : List Stack) → length xs ≡ length ys → ((k : ℕ) → k < length xs → R (get_or xs k bad) (get_or ys k bad)) → Each R xs ys
each_from R [] [] e h = tt
each_from R [] (y ∷ ys) e h = absurd (omega arith)
each_from R (x ∷ xs) [] e h = absurd (omega arith)
each_from R (x ∷ xs) (y ∷ ys) e h = (h 0 (omega arith), each_from R xs ys (omega arith) (λ k below. h (suc k) (omega arith)))

-- ---- meetings of two stacks

pub record AllJoin (w : Hierarchy) (xs ys zs : List Stack) : Type 0 where
  pub depth : length zs ≡ length xs
  pub other : length zs ≡ length ys
  pub each : (k : ℕ) → k < length zs → IsJoin w (get_or xs k bad) (get_or ys k bad) (get_or zs k bad)

below_least : (w : Hierarchy) (xs ys zs us : List Stack) → AllJoin w xs ys zs → Each (Below w) xs us → Each (Below w) ys us → Each (Below w) zs us
below_least w xs ys zs us j a b =
    each_from (Below w) zs us (j.depth ∙ each_depth (Below w) xs us a)
    (λ k below. (j.each k below).least (get_or us k bad) (each_at (Below w) xs us k a (omega (arith, j.depth))) (each_at (Below w) ys us k b (omega (arith, j.other))))

stacks_least : (w : Hierarchy) (xs ys zs : List Stack) → AllJoin w xs ys zs → (u : State) → AtMost w (stack xs) u → AtMost w (stack ys) u → AtMost w (stack zs) u
stacks_least w xs ys zs j unreached a b = elim a [ ]
stacks_least w xs ys zs j clash a b = above_all
stacks_least w xs ys zs j (stack us) (stacks a) (stacks b) = stacks (below_least w xs ys zs us j a b)

pub stacks_joined : (w : Hierarchy) (xs ys zs : List Stack) → AllJoin w xs ys zs → IsMeeting w (stack xs) (stack ys) (stack zs)
stacks_joined w xs ys zs j = record {
  left = stacks (each_from (Below w) xs zs (sym j.depth) (λ k below. (j.each k (omega (arith, j.depth))).left));
  right = stacks (each_from (Below w) ys zs (sym j.other) (λ k below. (j.each k (omega (arith, j.other))).right));
  least = stacks_least w xs ys zs j;
}

clash_least : (w : Hierarchy) (xs ys : List Stack) → length xs ≢ length ys → (u : State) → AtMost w (stack xs) u → AtMost w (stack ys) u → AtMost w clash u
clash_least w xs ys ne unreached a b = elim a [ ]
clash_least w xs ys ne clash a b = above_all
clash_least w xs ys ne (stack us) (stacks a) (stacks b) = absurd (ne (each_depth (Below w) xs us a ∙ sym (each_depth (Below w) ys us b)))

pub stacks_clash : (w : Hierarchy) (xs ys : List Stack) → length xs ≢ length ys → IsNewMeeting w (stack xs) (stack ys) clash
stacks_clash w xs ys ne = record {
  meets = record { left = above_all; right = above_all; least = clash_least w xs ys ne };
  other = λ e. cc;
}

-- ---- joins that are values of a pool

-- those of the first `k` values
pub record AreJoined (w : Hierarchy) (ns : List Node) (s t : List StackType) (ms : List Node) (js : List StackType) (k : ℕ) : Type 0 where
  pub depth : length js ≡ k
  pub each : (i : ℕ) → i < k → JoinsAs w ns (get_or s i Bad) (get_or t i Bad) ms (get_or js i Bad)

pub none_joined : (w : Hierarchy) (ns : List Node) (s t : List StackType) (ms : List Node) → AreJoined w ns s t ms [] 0
none_joined w ns s t ms = record { depth = refl; each = λ i below. absurd (omega arith) }

join_kept : (w : Hierarchy) (a b c : Content) (s t j : StackType) → KeepsKeys b c → JoinsAs w a.nodes s t b.nodes j → JoinsAs w a.nodes s t c.nodes j
join_kept w a b c s t j keeps h =
    let kept = keeps.stacks j h.within in
    let P : Stack → Type 0 = λ (x : Stack). IsJoin w (meant a.nodes s) (meant a.nodes t) x in
    record { within = kept.0; is = subst P (sym kept.1) h.is }

join_before : (w : Hierarchy) (a b c : Content) (s t j : StackType) → KeepsKeys a b → IsWithin (length a.nodes) s → IsWithin (length a.nodes) t → JoinsAs w b.nodes s t c.nodes j → JoinsAs w a.nodes s t c.nodes j
join_before w a b c s t j keeps in_s in_t h =
    let P : Stack → Type 0 = λ (x : Stack). IsJoin w x (meant a.nodes t) (meant c.nodes j) in
    let Q : Stack → Type 0 = λ (y : Stack). IsJoin w (meant b.nodes s) y (meant c.nodes j) in
    record { within = h.within; is = subst P (keeps.stacks s in_s).1 (subst Q (keeps.stacks t in_t).1 h.is) }

pub joined_more : (w : Hierarchy) (a b c : Content) (s t js : List StackType) (k : ℕ) (j : StackType) → KeepsKeys a b → KeepsKeys b c
    → IsWithin (length a.nodes) (get_or s k Bad) → IsWithin (length a.nodes) (get_or t k Bad) → AreJoined w a.nodes s t b.nodes js k
    → JoinsAs w b.nodes (get_or s k Bad) (get_or t k Bad) c.nodes j → AreJoined w a.nodes s t c.nodes (js ++ j ∷ []) (k + 1)
joined_more w a b c s t js k j ab bc in_s in_t h new = record {
  depth = length_push js j ∙ ap (λ n. n + 1) h.depth;
  each = λ i below. elim (at_or_before i k below) [
    | inl before ↦
        let P : StackType → Type 0 = λ (x : StackType). JoinsAs w a.nodes (get_or s i Bad) (get_or t i Bad) c.nodes x in
        subst P (sym (get_or_append_left js (j ∷ []) Bad i (omega (arith, h.depth)))) (join_kept w a b c (get_or s i Bad) (get_or t i Bad) (get_or js i Bad) bc (h.each i before))
    | inr is ↦
        let P : StackType → Type 0 = λ (x : StackType). JoinsAs w a.nodes (get_or s k Bad) (get_or t k Bad) c.nodes x in
        let Q : ℕ → Type 0 = λ (n : ℕ). JoinsAs w a.nodes (get_or s n Bad) (get_or t n Bad) c.nodes (get_or (js ++ j ∷ []) n Bad) in
        subst Q (sym is) (subst P (sym (get_or_push js j Bad k h.depth)) (join_before w a b c (get_or s k Bad) (get_or t k Bad) j ab in_s in_t new))
  ];
}

pub all_joined : (w : Hierarchy) (ns : List Node) (s t : List StackType) (ms : List Node) (js : List StackType) → AreJoined w ns s t ms js (length s) → AllJoinAs w ns s t ms js
all_joined w ns s t ms js h = record { depth = h.depth; each = λ k below. h.each k (omega (arith, h.depth)) }

-- what they mean
pub meant_joined : (w : Hierarchy) (ns : List Node) (s t : List StackType) (ms : List Node) (js : List StackType) → length s ≡ length t → AllJoinAs w ns s t ms js
    → AllJoin w (stack_meant ns s) (stack_meant ns t) (stack_meant ms js)
meant_joined w ns s t ms js e h = record {
  depth = length-map js (meant ms) ∙ h.depth ∙ sym (length-map s (meant ns));
  other = length-map js (meant ms) ∙ h.depth ∙ e ∙ sym (length-map t (meant ns));
  each = λ k below.
      let in_js : k < length js = omega (arith, length-map js (meant ms)) in
      let P : Stack → Type 0 = λ (x : Stack). IsJoin w x (get_or (stack_meant ns t) k bad) (get_or (stack_meant ms js) k bad) in
      let Q : Stack → Type 0 = λ (x : Stack). IsJoin w (meant ns (get_or s k Bad)) x (get_or (stack_meant ms js) k bad) in
      let R : Stack → Type 0 = λ (x : Stack). IsJoin w (meant ns (get_or s k Bad)) (meant ns (get_or t k Bad)) x in
      subst P (sym (get_or-map (meant ns) s k Bad bad (omega (arith, h.depth))))
      (subst Q (sym (get_or-map (meant ns) t k Bad bad (omega (arith, h.depth))))
      (subst R (sym (get_or-map (meant ms) js k Bad bad in_js)) (h.each k in_js).is));
}

pub joined_within : (w : Hierarchy) (ns : List Node) (s t : List StackType) (ms : List Node) (js : List StackType) → AllJoinAs w ns s t ms js → IsStackWithin (length ms) js
joined_within w ns s t ms js h = All-from_get_or (IsWithin (length ms)) js Bad (λ i below. (h.each i below).within)

-- ---- loops over two stacks

pub differ : (ns : List Node) (s t : List StackType) (k : ℕ) (a b : StackType) → slice_get s k ≡ Some a → slice_get t k ≡ Some b → (meant ns a ≡ meant ns b → ⊥)
    → stack_meant ns s ≡ stack_meant ns t → ⊥
differ ns s t k a b at_s at_t ne e =
    let m = maps_at (meant ns) s t Bad k (slice_get_within s k a at_s) (slice_get_within t k b at_t) e in
    ne (ap (meant ns) (sym (get_or_from_slice_get s k a Bad at_s)) ∙ m ∙ ap (meant ns) (get_or_from_slice_get t k b Bad at_t))

pub same_more : (ns : List Node) (s t : List StackType) (k : ℕ) (a b : StackType) → slice_get s k ≡ Some a → slice_get t k ≡ Some b → meant ns a ≡ meant ns b
    → ((i : ℕ) → i < k → meant ns (get_or s i Bad) ≡ meant ns (get_or t i Bad)) → (i : ℕ) → i < k + 1 → meant ns (get_or s i Bad) ≡ meant ns (get_or t i Bad)
same_more ns s t k a b at_s at_t e h i below = elim (at_or_before i k below) [
  | inl before ↦ h i before
  | inr is ↦
      let P : ℕ → Type 0 = λ (n : ℕ). meant ns (get_or s n Bad) ≡ meant ns (get_or t n Bad) in
      subst P (sym is) (ap (meant ns) (get_or_from_slice_get s k a Bad at_s) ∙ e ∙ ap (meant ns) (sym (get_or_from_slice_get t k b Bad at_t)))
]

pub within_at : (n : ℕ) (s : List StackType) (k : ℕ) → k < length s → IsStackWithin n s → IsWithin n (get_or s k Bad)
within_at n s k below h = All-get_or (IsWithin n) s k Bad below h

pub kept_at : (a b : Content) (s : List StackType) (k : ℕ) (x : StackType) → KeepsKeys a b → IsStackWithin (length a.nodes) s → slice_get s k ≡ Some x → IsWithin (length b.nodes) x
kept_at a b s k x keeps h at =
    let P : StackType → Type 0 = λ (y : StackType). IsWithin (length a.nodes) y in
    (keeps.stacks x (subst P (get_or_from_slice_get s k x Bad at) (within_at (length a.nodes) s k (slice_get_within s k x at) h))).0

-- one more join, by what the two calls say
pub joined_step : (a b c : Content) (s t js : List StackType) (k : ℕ) (x y j : StackType) → KeepsKeys a b → KeepsKeys b c → Stays a b
    → IsStackWithin (length a.nodes) s → IsStackWithin (length a.nodes) t → slice_get s k ≡ Some x → slice_get t k ≡ Some y → AreJoined (hierarchy a) a.nodes s t b.nodes js k
    → JoinsAs (hierarchy b) b.nodes x y c.nodes j → AreJoined (hierarchy a) a.nodes s t c.nodes (js ++ j ∷ []) (k + 1)
joined_step a b c s t js k x y j ab bc stays in_s in_t at_s at_t h new =
    let P : StackType → Type 0 = λ (v : StackType). JoinsAs (hierarchy a) b.nodes v (get_or t k Bad) c.nodes j in
    let Q : StackType → Type 0 = λ (v : StackType). JoinsAs (hierarchy a) b.nodes x v c.nodes j in
    let R : Hierarchy → Type 0 = λ (w : Hierarchy). JoinsAs w b.nodes x y c.nodes j in
    joined_more (hierarchy a) a b c s t js k j ab bc (within_at (length a.nodes) s k (slice_get_within s k x at_s) in_s) (within_at (length a.nodes) t k (slice_get_within t k y at_t) in_t) h
    (subst P (sym (get_or_from_slice_get s k x Bad at_s)) (subst Q (sym (get_or_from_slice_get t k y Bad at_t)) (subst R (ap hierarchy_in stays.tables) new)))

-- ---- two stacks of one depth meet

meant_later : (a b : Content) (s : List StackType) → KeepsKeys a b → IsStackWithin (length a.nodes) s → stack_meant b.nodes s ≡ stack_meant a.nodes s
meant_later a b s keeps h =
    ext_get_or bad (stack_meant b.nodes s) (stack_meant a.nodes s) (length-map s (meant b.nodes) ∙ sym (length-map s (meant a.nodes)))
    (λ i below. let i_s : i < length s = omega (arith, length-map s (meant b.nodes)) in
    get_or-map (meant b.nodes) s i Bad bad i_s ∙ (keeps.stacks (get_or s i Bad) (within_at (length a.nodes) s i i_s h)).1 ∙ sym (get_or-map (meant a.nodes) s i Bad bad i_s))

pub stack_kept : (a b : Content) (s : List StackType) → KeepsKeys a b → IsStackWithin (length a.nodes) s → IsStackWithin (length b.nodes) s × (stack_meant b.nodes s ≡ stack_meant a.nodes s)
stack_kept a b s keeps h =
    (All-weaker (IsWithin (length a.nodes)) (IsWithin (length b.nodes)) (λ x in_a. (keeps.stacks x in_a).0) s h, meant_later a b s keeps h)

-- the joins mean what the first stack means
pub stacks_meet_same : (w : Hierarchy) (a b : Content) (s t js : List StackType) (pool : List Node) → pool ≡ b.nodes → length s ≡ length t
    → AllJoinAs w a.nodes s t b.nodes js → KeepsKeys a b → IsStackWithin (length a.nodes) s → stack_meant pool s ≡ stack_meant pool js
    → IsMeeting w (stack (stack_meant a.nodes s)) (stack (stack_meant a.nodes t)) (stack (stack_meant a.nodes s))
stacks_meet_same w a b s t js pool is e h keeps in_s same =
    let joins : stack_meant b.nodes js ≡ stack_meant a.nodes s = ap (λ ns. stack_meant ns js) (sym is) ∙ sym same ∙ ap (λ ns. stack_meant ns s) is ∙ meant_later a b s keeps in_s in
    let P : List Stack → Type 0 = λ (zs : List Stack). IsMeeting w (stack (stack_meant a.nodes s)) (stack (stack_meant a.nodes t)) (stack zs) in
    subst P joins (stacks_joined w (stack_meant a.nodes s) (stack_meant a.nodes t) (stack_meant b.nodes js) (meant_joined w a.nodes s t b.nodes js e h))

same_stacks : (xs ys : List Stack) → stack xs ≡ stack ys → xs ≡ ys
same_stacks xs ys e = cc

-- or something else
pub stacks_meet_new : (w : Hierarchy) (a b : Content) (s t js : List StackType) (pool : List Node) → pool ≡ b.nodes → length s ≡ length t
    → AllJoinAs w a.nodes s t b.nodes js → KeepsKeys a b → IsStackWithin (length a.nodes) s → (stack_meant pool s ≡ stack_meant pool js → ⊥)
    → IsNewMeeting w (stack (stack_meant a.nodes s)) (stack (stack_meant a.nodes t)) (stack (stack_meant b.nodes js))
stacks_meet_new w a b s t js pool is e h keeps in_s ne = record {
  meets = stacks_joined w (stack_meant a.nodes s) (stack_meant a.nodes t) (stack_meant b.nodes js) (meant_joined w a.nodes s t b.nodes js e h);
  other = λ same.
      ne (ap (λ ns. stack_meant ns s) is ∙ meant_later a b s keeps in_s ∙ same_stacks (stack_meant a.nodes s) (stack_meant b.nodes js) same ∙ ap (λ ns. stack_meant ns js) (sym is));
}
