use Rattle.std.proofs.Common.{◌≡◌, ℕ, ◌∷◌, ◌<◌, ◌+◌, false, length, get_or, List, sym, ◌∙◌, ap, subst, refl, arith}
use Rattle.std.specs.Prelude.{slice_set}
use Rattle.std.proofs.lemmas.List.{get_or_default}
use Rattle.stack_states.specs.Waiting.{Waiting, has}
use Rattle.stack_states.specs.Links.{numbers_in, IsLinked}
use Rattle.stack_states.proofs.LinkLemmas.{linked, numbers_are, first_below, second_within, none_left, linked_pop, out_of_rest}
use Rattle.stack_states.proofs.worklist.Worklist.pop.Goals as goal

read : (xs : List ℕ) (k x : ℕ) → k < length xs → x ≡ get_or xs k x → x ≡ get_or xs k 0
read xs k x below is = is ∙ get_or_default xs k x 0 below

-- what is known once the first is read and isn't the end
record IsPopped (before after ks : List ℕ) (count first second : ℕ) : Type 0 where
  rest : List ℕ
  was : ks ≡ first ∷ rest
  below : first < count
  second_place : second < count + 1
  now : IsLinked (slice_set (slice_set before second count) first first) (slice_set (slice_set after count second) first first) count rest
  out : has rest first ≡ false

popped : (before after ks : List ℕ) (count first second : ℕ) → IsLinked before after count ks → first ≡ get_or after count first → (first ≡ count → ⊥)
    → second ≡ get_or after first second → IsPopped before after ks count first second
popped before after ks count first second h first_is ne second_is =
    let is : first ≡ get_or after count 0 = read after count first (omega (arith, h.afters)) first_is in
    let b = first_below before after ks count h (λ e. ne (is ∙ e)) in
    let k_is : first ≡ b.0 = is ∙ b.3 in
    let was : ks ≡ first ∷ b.1 = b.2 ∙ ap (λ n. n ∷ b.1) (sym k_is) in
    let P : List ℕ → Type 0 = λ (l : List ℕ). IsLinked before after count l in
    let h' : IsLinked before after count (first ∷ b.1) = subst P was h in
    let below : first < count = omega (arith, k_is, b.4) in
    let sec : second ≡ get_or after first 0 = read after first second (omega (arith, h.afters)) second_is in
    let Q : ℕ → Type 0 = λ (n : ℕ). IsLinked (slice_set (slice_set before n count) first first) (slice_set (slice_set after count n) first first) count b.1 in
    record {
      rest = b.1;
      was = was;
      below = below;
      second_place = omega (arith, sec, second_within before after b.1 first count h');
      now = subst Q (sym sec) (linked_pop before after b.1 first count h');
      out = out_of_rest before after b.1 first count h';
    }

first_place : (before after ks : List ℕ) (count first : ℕ) → IsLinked before after count ks → first ≡ get_or after count first → (first ≡ count → ⊥) → first < length after
first_place before after ks count first h first_is ne =
    let is : first ≡ get_or after count 0 = read after count first (omega (arith, h.afters)) first_is in
    let b = first_below before after ks count h (λ e. ne (is ∙ e)) in
    omega (arith, is, b.3, b.4, h.afters)

pub index-second-requires : goal.index-second-requires
index-second-requires c =
    let i = c.self.inside in
    let b = first_place i.before.items i.after.items (numbers_in i.after.items i.count) i.count c.index-first.result.now c.self.invariant c.index-first.ensures c.if-first-self.false in
    omega (arith, b, i.after.ok)

pub index_mut-requires-2 : goal.index_mut-requires-2
index_mut-requires-2 c =
    let i = c.self.inside in
    let p = popped i.before.items i.after.items (numbers_in i.after.items i.count) i.count c.index-first.result.now c.index-second.result.now c.self.invariant c.index-first.ensures c.if-first-self.false c.index-second.ensures in
    omega (arith, p.second_place, c.self.invariant.befores, i.before.ok)

pub index_mut-requires-3 : goal.index_mut-requires-3
index_mut-requires-3 c =
    let i = c.self.inside in
    let p = popped i.before.items i.after.items (numbers_in i.after.items i.count) i.count c.index-first.result.now c.index-second.result.now c.self.invariant c.index-first.ensures c.if-first-self.false c.index-second.ensures in
    omega (arith, p.below, c.self.invariant.befores, i.before.ok)

pub index_mut-requires-4 : goal.index_mut-requires-4
index_mut-requires-4 c =
    let i = c.self.inside in
    let p = popped i.before.items i.after.items (numbers_in i.after.items i.count) i.count c.index-first.result.now c.index-second.result.now c.self.invariant c.index-first.ensures c.if-first-self.false c.index-second.ensures in
    omega (arith, p.below, c.self.invariant.afters, i.after.ok)

pub returns-then-first-self-clause-taken : goal.returns-then-first-self-clause-taken
returns-then-first-self-clause-taken c =
    let i = c.self.inside in
    let h = c.self.invariant in
    let is = read i.after.items i.count c.index-first.result.now (omega (arith, h.afters)) c.index-first.ensures in (
      ap (λ (w : Waiting). w.numbers) (sym c.self.view_is)
          ∙ none_left i.before.items i.after.items (numbers_in i.after.items i.count) i.count h (sym is ∙ c.if-first-self.true),
      refl,
    )

pub invariant_of-self : goal.invariant_of-self
invariant_of-self c =
    let i = c.self.inside in
    let p = popped i.before.items i.after.items (numbers_in i.after.items i.count) i.count c.index-first.result.now c.index-second.result.now c.self.invariant c.index-first.ensures c.if-first-self.false c.index-second.ensures in
    linked _ _ _ _ p.now

pub returns-clause-taken : goal.returns-clause-taken
returns-clause-taken c =
    let i = c.self.inside in
    let p = popped i.before.items i.after.items (numbers_in i.after.items i.count) i.count c.index-first.result.now c.index-second.result.now c.self.invariant c.index-first.ensures c.if-first-self.false c.index-second.ensures in
    let left = numbers_are _ _ _ _ p.now in
    sym c.self.view_is ∙ ap (λ (l : List ℕ). record { count = i.count; numbers = l }) (p.was ∙ ap (λ (l : List ℕ). c.index-first.result.now ∷ l) (sym left))

pub returns-clause-below : goal.returns-clause-below
returns-clause-below c =
    let i = c.self.inside in
    let p = popped i.before.items i.after.items (numbers_in i.after.items i.count) i.count c.index-first.result.now c.index-second.result.now c.self.invariant c.index-first.ensures c.if-first-self.false c.index-second.ensures in
    p.below

pub returns-clause-once : goal.returns-clause-once
returns-clause-once c =
    let i = c.self.inside in
    let p = popped i.before.items i.after.items (numbers_in i.after.items i.count) i.count c.index-first.result.now c.index-second.result.now c.self.invariant c.index-first.ensures c.if-first-self.false c.index-second.ensures in
    ap (λ (l : List ℕ). has l c.index-first.result.now) (numbers_are _ _ _ _ p.now) ∙ p.out
