use Rattle.std.proofs.Common.{◌≡◌, ◌∙◌, ◌+◌, ◌*◌, ◌++◌, ℕ, List, [], length, take, get_or, ap, refl, sym, subst, arith}
use Rattle.std.proofs.lemmas.List.{length-append, append-nil, take_all}
use Rattle.body_codec.specs.declared.encoding.draft.Draft.{Draft}
use Rattle.body_codec.specs.Written.{far_from, number_bytes, signed_bytes, target_bytes}
use Rattle.body_codec.specs.Chains.{Drafts, IsDraft, IsKept, from_on, offsets_of}
use Rattle.body_codec.proofs.Numbers.{length-number}
use Rattle.body_codec.proofs.Links.{linked_wider}
use Rattle.body_codec.proofs.Drafts.{draft_more, joined, target_more}
use Rattle.body_codec.proofs.encoding.draft.Draft.push_switch.Goals as goal

counted : (old count new : List ℕ) → new ≡ old ++ count → length count ≡ 4 → length new ≡ length old + 4
counted old count new e l = ap length e ∙ length-append old count ∙ ap (λ n. length old + n) l

pub overflow_add-end : goal.overflow_add-end
overflow_add-end c =
    let e : length c.push_number.new.out ≡ length c.args.self.now.bytes + 4 =
    counted c.args.self.now.bytes (number_bytes 4 (length c.args.targets.now)) c.push_number.new.out c.in_ok-push_number.ensures (length-number 4 _) in
    omega (arith, e, c.len.ensures, c.requires.small)

pub overflow_cast-end : goal.overflow_cast-end
overflow_cast-end c =
    let e : length c.push_number.new.out ≡ length c.args.self.now.bytes + 4 =
    counted c.args.self.now.bytes (number_bytes 4 (length c.args.targets.now)) c.push_number.new.out c.in_ok-push_number.ensures (length-number 4 _) in
    omega (arith, e, c.len.ensures, c.requires.small)

pub loop-to-init : goal.loop-to-init
loop-to-init c =
    let old : Draft = c.args.self.now in
    let count : List ℕ = number_bytes 4 (length c.args.targets.now) in
    let new : List ℕ = c.push_number.new.out in
    let e : length new ≡ length old.bytes + 4 = counted old.bytes count new c.in_ok-push_number.ensures (length-number 4 _) in
    record {
      linked = linked_wider (length old.bytes) (length old.offsets) (length new) (length old.offsets) old.sites old.latest (omega arith) (omega arith) c.requires.linked;
      kept = record { offsets = refl; latest = refl };
      count = omega (arith, e);
      draft = λ code done want d.
          let P : List ℕ → Type 0 = λ bs. Drafts (from_on (length old.offsets)) code done (want ++ (count ++ [])) bs old.sites old.offsets old.far (length old.latest) in
          let Q : List ℕ → Type 0 = λ w. Drafts (from_on (length old.offsets)) code done (want ++ w) (old.bytes ++ count) old.sites old.offsets old.far (length old.latest) in
          subst P (sym c.in_ok-push_number.ensures)
          (subst Q (sym (append-nil count)) (draft_more (from_on (length old.offsets)) code done want old.bytes count old.sites old.offsets old.far (length old.latest) d));
    }

pub loop-to-preserved : goal.loop-to-preserved
loop-to-preserved c =
    let i = c.loop-to.invariant in
    let old : Draft = c.args.self.now in
    let d : Draft = c.loop-to.self in
    let e : Draft = c.push_target.new.self in
    let ts : List ℕ = c.args.targets.now in
    let k : ℕ = c.loop-to.to-index in
    let count : List ℕ = number_bytes 4 (length ts) in
    let end : ℕ = c.len.result + 4 * length ts in
    let kept : IsKept d e = c.in_ok-push_target.ensures.kept in
    let offsets : e.offsets ≡ old.offsets = kept.offsets ∙ i.kept.offsets in
    record {
      linked = c.in_ok-push_target.ensures.linked;
      kept = record { offsets = offsets; latest = kept.latest ∙ i.kept.latest };
      count = omega (arith, c.in_ok-push_target.ensures.grown, i.count);
      draft = λ code done want f.
          let os : List ℕ = offsets_of code in
          let A : ℕ → Type 0 = λ n. IsDraft (from_on n) code done (want ++ (count ++ target_bytes os end (take k ts))) d in
          let B : ℕ → Type 0 = λ n. IsDraft (from_on n) code done (want ++ (count ++ target_bytes os end (take k ts)) ++ signed_bytes 4 (far_from os end (get_or ts k 0))) e in
          let C : List ℕ → Type 0 = λ w. IsDraft (from_on (length old.offsets)) code done w e in
          let same : length old.offsets ≡ length d.offsets = ap length (sym i.kept.offsets) in
          let more = c.in_ok-push_target.ensures.draft code done (want ++ (count ++ target_bytes os end (take k ts))) (subst A same (i.draft code done want f)) (λ q. cc) in
          subst C (joined want count (target_bytes os end (take k ts)) (signed_bytes 4 (far_from os end (get_or ts k 0)))
          ∙ ap (λ (bs : List ℕ). want ++ (count ++ bs)) (sym (target_more os ts end k c.loop-to-test.true))) (subst B (sym same) more);
    }

pub returns-clause-draft : goal.returns-clause-draft
returns-clause-draft c = λ code done want f.
    let i = c.loop-to.invariant in
    let old : Draft = c.args.self.now in
    let ts : List ℕ = c.args.targets.now in
    let count : List ℕ = number_bytes 4 (length ts) in
    let e : length c.push_number.new.out ≡ length old.bytes + 4 = counted old.bytes count c.push_number.new.out c.in_ok-push_number.ensures (length-number 4 _) in
    let end : c.len.result + 4 * length ts ≡ length old.bytes + (4 + 4 * length ts) = omega (arith, e, c.len.ensures) in
    let all : take c.loop-to.to-index ts ≡ ts = take_all c.loop-to.to-index ts (omega arith) in
    let P : ℕ → Type 0 = λ n. IsDraft (from_on (length old.offsets)) code done (want ++ (count ++ target_bytes (offsets_of code) n ts)) c.loop-to.self in
    let Q : List ℕ → Type 0 = λ xs. IsDraft (from_on (length old.offsets)) code done (want ++ (count ++ target_bytes (offsets_of code) (c.len.result + 4 * length ts) xs)) c.loop-to.self in
    subst P end (subst Q all (i.draft code done want f))
