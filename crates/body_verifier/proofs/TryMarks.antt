-- The marks that are set stand where tries begin.
use Rattle.std.proofs.Common.{◌≡◌, ◌⊎◌, inl, inr, ℕ, ◌<◌, Bool, true, false, List, [], ◌∷◌, map, length, ◌∙◌, refl, subst, arith}
use Rattle.std.specs.Prelude.{nat_lt, replicate, slice_index_or}
use Rattle.std.specs.List.{Contains}
use Rattle.std.proofs.lemmas.List.{length-replicate}
use Rattle.assembly_tree.specs.declared.body.Clause.{Clause}
use Rattle.code_flow.specs.declared.blocks.Spans.{Spans}
use Rattle.code_flow.specs.BlockTests.{spans_of}
use Rattle.body_verifier.specs.CodeMarks.{HaveTries, marked_tries}
use Rattle.code_flow.specs.Frames.{Frame}
use Rattle.code_flow.specs.Marks.{set_mark}
use Rattle.code_flow.proofs.Marking.{set_length, after_to, was_kept, now_set, blank}
use Rattle.code_flow.proofs.Members.{here, there, either, none}

tries_length : (m : List Bool) (ss : List Spans) → length (marked_tries m ss) ≡ length m
tries_length m [] = refl
tries_length m (s ∷ ss) = tries_length (set_mark m s.guarded.start) ss ∙ set_length m s.guarded.start

pub tries_long : (n : ℕ) (ss : List Spans) → length (marked_tries (replicate n false) ss) ≡ n
tries_long n ss = tries_length (replicate n false) ss ∙ length-replicate n false

tries_to : (m : List Bool) (cs : List Clause) (t : ℕ) → slice_index_or (marked_tries m (map spans_of cs)) t false ≡ true
    → (slice_index_or m t false ≡ true) ⊎ ((c : Clause) × Contains cs c × (c.try_start ≡ t))
tries_to m [] t h = inl h
tries_to m (c ∷ cs) t h = elim (tries_to (set_mark m c.try_start) cs t h) [
  | inl e ↦ elim (after_to (nat_lt c.try_start (length m)) m c.try_start t e) [
    | inl g ↦ inl g
    | inr g ↦ inr (c, here c cs, g)
  ]
  | inr e ↦ inr (e.0, there c cs e.0 e.1, e.2)
]

tries_kept : (m : List Bool) (cs : List Clause) (t : ℕ) → t < length m → slice_index_or m t false ≡ true → slice_index_or (marked_tries m (map spans_of cs)) t false ≡ true
tries_kept m [] t less h = h
tries_kept m (c ∷ cs) t less h =
    tries_kept (set_mark m c.try_start) cs t (omega (arith, set_length m c.try_start)) (was_kept (nat_lt c.try_start (length m)) m c.try_start t less h)

to_tries : (m : List Bool) (cs : List Clause) (t : ℕ) → t < length m → (c : Clause) → Contains cs c → c.try_start ≡ t → slice_index_or (marked_tries m (map spans_of cs)) t false ≡ true
to_tries m [] t less c is e = absurd (none c is)
to_tries m (x ∷ xs) t less c is e =
    let still : t < length (set_mark m x.try_start) = omega (arith, set_length m x.try_start) in
    elim (either x xs c is) [
      | inl same ↦
          let at : x.try_start ≡ t = (λ i. (same i).try_start) ∙ e in
          tries_kept (set_mark m x.try_start) xs t still (subst (λ (z : ℕ). slice_index_or (set_mark m x.try_start) z false ≡ true) at (now_set m x.try_start (omega (arith, at))))
      | inr more ↦ to_tries (set_mark m x.try_start) xs t still c more e
    ]

pub have_tries : (f : Frame) → HaveTries f (marked_tries (replicate (length f.code) false) (map spans_of f.clauses))
have_tries f =
    let none_yet = replicate (length f.code) false in
    let begins = length-replicate (length f.code) false in
    record {
      count = tries_long (length f.code) (map spans_of f.clauses);
      are = λ t less. (
        λ h. elim (tries_to none_yet f.clauses t h) [
          | inl g ↦ absurd (blank (length f.code) t less g)
          | inr g ↦ record { clause = g.0; is = g.1; begins = g.2 }
        ],
        λ h. to_tries none_yet f.clauses t (omega (arith, begins)) h.clause h.is h.begins,
      );
    }
