use Rattle.std.proofs.Common.{◌≡◌, ℕ, [], ◌∷◌, ◌<◌, ◌+◌, false, length, get_or, List, ◌++◌, sym, ◌∙◌, ap, subst, refl, arith}
use Rattle.std.specs.Prelude.{slice_set}
use Rattle.std.proofs.lemmas.List.{get_or_default}
use Rattle.stack_states.specs.Waiting.{Waiting, has, pushed}
use Rattle.stack_states.specs.Links.{numbers_in, IsLinked}
use Rattle.stack_states.proofs.LinkLemmas.{last_within, linked, linked_push, not_held, numbers_are}
use Rattle.stack_states.proofs.worklist.Worklist.push.Goals as goal

last_is : (before : List ℕ) (count last : ℕ) → length before ≡ count + 1 → last ≡ get_or before count last → last ≡ get_or before count 0
last_is before count last e is = is ∙ get_or_default before count last 0 (omega arith)

missing : (before after ks : List ℕ) (count k d : ℕ) → IsLinked before after count ks → k < count → d ≡ get_or after k d → d ≡ k → has ks k ≡ false
missing before after ks count k d h below is same =
    not_held before after ks count k h (get_or_default after k 0 d (omega (arith, h.afters)) ∙ sym is ∙ same)

after_push : (before after ks : List ℕ) (count k last : ℕ) → IsLinked before after count ks → k < count → has ks k ≡ false → last ≡ get_or before count last
    → IsLinked (slice_set (slice_set before k last) count k) (slice_set (slice_set after k count) last k) count (ks ++ k ∷ [])
after_push before after ks count k last h below miss is =
    let P : ℕ → Type 0 = λ (n : ℕ). IsLinked (slice_set (slice_set before k n) count k) (slice_set (slice_set after k count) n k) count (ks ++ k ∷ []) in
    subst P (sym (last_is before count last h.befores is)) (linked_push before after ks k count h below miss)

view_after : (w : Waiting) (k : ℕ) (after : List ℕ) → has w.numbers k ≡ false → numbers_in after w.count ≡ w.numbers ++ k ∷ []
    → record { count = w.count; numbers = numbers_in after w.count } ≡ pushed w k
view_after w k after miss e = rw (miss, e) refl

pub index_mut-requires-3 : goal.index_mut-requires-3
index_mut-requires-3 c =
    let i = c.self.inside in
    let h = c.self.invariant in
    omega (
      arith,
      last_is i.before.items i.count c.index-last.result.now h.befores c.index-last.ensures,
      last_within i.before.items i.after.items (numbers_in i.after.items i.count) i.count h,
      h.afters,
      i.after.ok,
    )

pub invariant_of-self : goal.invariant_of-self
invariant_of-self c =
    let i = c.self.inside in
    let h = c.self.invariant in
    let below : c.args.k < i.count = omega (arith, ap (λ (w : Waiting). w.count) c.self.view_is, c.requires) in
    let ks = numbers_in i.after.items i.count in
    let miss = missing i.before.items i.after.items ks i.count c.args.k c.index.result.now h below c.index.ensures c.if-index-k.false in
    linked _ _ _ _ (after_push i.before.items i.after.items ks i.count c.args.k c.index-last.result.now h below miss c.index-last.ensures)

pub returns : goal.returns
returns c =
    let i = c.self.inside in
    let h = c.self.invariant in
    let below : c.args.k < i.count = omega (arith, ap (λ (w : Waiting). w.count) c.self.view_is, c.requires) in
    let ks = numbers_in i.after.items i.count in
    let miss = missing i.before.items i.after.items ks i.count c.args.k c.index.result.now h below c.index.ensures c.if-index-k.false in
    let now = numbers_are _ _ _ _ (after_push i.before.items i.after.items ks i.count c.args.k c.index-last.result.now h below miss c.index-last.ensures) in
    view_after (record { count = i.count; numbers = ks }) c.args.k (slice_set (slice_set i.after.items c.args.k i.count) c.index-last.result.now c.args.k) miss now
    ∙ ap (λ (w : Waiting). pushed w c.args.k) c.self.view_is
