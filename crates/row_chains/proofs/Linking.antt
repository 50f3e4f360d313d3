-- The chains behind a row, and one row more in front.
use Rattle.std.proofs.Common.{◌≡◌, ℕ, ◌+◌, ◌-◌, ◌<◌, ◌≤◌, ◌⊎◌, inl, inr, List, length, get_or, set, refl, sym, ◌∙◌, ap, subst, arith}
use Rattle.std.proofs.lemmas.Bool.{cases_eq, cases_lt}
use Rattle.std.proofs.lemmas.List.{length-set, get_or-set_same, get_or-set_other, get_or_past}
use Rattle.row_chains.specs.Following.{Follows, AreHeads, AreNexts}

-- the chains of the rows behind one
pub record AreLinked (owners before : List ℕ) (after : ℕ) (heads nexts : List ℕ) : Type 0 where
  pub within : after < length owners
  pub heads_long : length heads ≡ length before
  pub nexts_long : length nexts ≡ length owners
  pub heads_are : AreHeads owners after heads
  pub nexts_are : AreNexts owners after nexts

-- behind the last row there is none
pub linked_none : (owners heads nexts : List ℕ) (last : ℕ) → last + 1 ≡ length owners → ((owner : ℕ) → get_or heads owner 0 ≡ 0) → length nexts ≡ length owners
    → AreLinked owners heads last heads nexts
linked_none owners heads nexts last end zeros long = record {
  within = omega arith;
  heads_long = refl;
  nexts_long = long;
  heads_are = λ owner. inl (zeros owner, λ row behind less there e. absurd (omega arith));
  nexts_are = λ row behind there. absurd (omega arith);
}

module _ (owners before : List ℕ) (row after : ℕ) (heads nexts : List ℕ) (some : 0 < row) (next : after + 1 ≡ row) (so : AreLinked owners before row heads nexts)
    (room : get_or owners row 0 < length before) where
  abbrev owner : ℕ
  owner = get_or owners row 0

  -- the chain of another owner has no row more
  others_follow : (other value : ℕ) → (other ≡ owner → ⊥) → Follows owners other row value → Follows owners other after value
  others_follow other value n (inl none) = inl (
    none.0,
    λ q behind less there e. elim (cases_eq q row) [
      | inl is ↦ n (sym e ∙ ap (λ k. get_or owners k 0) is)
      | inr away ↦ none.1 q (omega arith) less there e
    ],
  )
  others_follow other value n (inr found) = inr (
    let b = found.0 in omega arith,
    found.1,
    found.2,
    λ q behind less there e. elim (cases_eq q row) [
      | inl is ↦ n (sym e ∙ ap (λ k. get_or owners k 0) is)
      | inr away ↦ found.3 q (omega arith) less there e
    ],
  )

  -- the row itself follows the one before it
  row_follows : Follows owners owner after row
  row_follows = inr (omega arith, so.within, refl, λ q behind less there e. absurd (omega arith))

  pub linked_more : AreLinked owners before after (set heads owner row) (set nexts row (get_or heads owner 0))
  linked_more = record {
    within = let w = so.within in omega arith;
    heads_long = length-set heads owner row ∙ so.heads_long;
    nexts_long = length-set nexts row (get_or heads owner 0) ∙ so.nexts_long;
    heads_are = λ other. elim (cases_eq other owner) [
      | inl is ↦
          let at : row ≡ get_or (set heads owner row) other 0
          = sym (ap (λ k. get_or (set heads owner row) k 0) is ∙ get_or-set_same heads owner row 0 (let l = so.heads_long in omega arith)) in
          subst (λ v. Follows owners other after v) at (subst (λ o. Follows owners o after row) (sym is) row_follows)
      | inr n ↦
          subst (λ v. Follows owners other after v) (sym (get_or-set_other heads owner other row 0 n)) (others_follow other (get_or heads other 0) n (so.heads_are other))
    ];
    nexts_are = λ q behind there. elim (cases_eq q row) [
      | inl is ↦
          let at : get_or heads owner 0 ≡ get_or (set nexts row (get_or heads owner 0)) q 0
          = sym (ap (λ k. get_or (set nexts row (get_or heads owner 0)) k 0) is ∙ get_or-set_same nexts row (get_or heads owner 0) 0 (let l = so.nexts_long in let w = so.within in omega arith)) in
          subst (λ v. Follows owners (get_or owners q 0) q v) at (subst (λ k. Follows owners (get_or owners k 0) k (get_or heads owner 0)) (sym is) (so.heads_are owner))
      | inr n ↦
          subst (λ v. Follows owners (get_or owners q 0) q v) (sym (get_or-set_other nexts row q (get_or heads owner 0) 0 n)) (so.nexts_are q (omega arith) there)
    ];
  }
