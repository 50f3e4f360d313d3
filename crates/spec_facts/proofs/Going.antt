-- What holds while the places are looked at, one after the other.
use Rattle.std.proofs.Common.{◌≡◌, ℕ, ◌+◌, ◌<◌, ◌≤◌, Bool, true, false, List, length, Option, Some, None, refl, sym, ap, subst, ◌∙◌, arith, below_more}
use Rattle.std.specs.Prelude.{slice_get}
use Rattle.signature_facts.specs.declared.facts.Facts.{Facts}
use Rattle.signature_facts.specs.Scanning.{OwnersFacts}
use Rattle.spec_facts.specs.Rounds.{TellsSpecs, IsSound, IsDone, IsFixed, RoundSo, unknown}

module _ (image : List ℕ) (names : OwnersFacts) (places heads : List ℕ) (old now new : List (Option Facts)) where
  no_more : (b : Bool) (place : ℕ) → RoundSo image names places heads old now b place → unknown now ≤ unknown old
  no_more true place so = (let a = so.fewer refl in omega arith)
  no_more false place so = (let a = ap unknown (so.same refl).0 in omega arith)

  pub going_found : (b : Bool) (place : ℕ) → RoundSo image names places heads old now b place → length new ≡ length now
      → ((true_map : OwnersFacts) → TellsSpecs image names true_map → IsSound image true_map heads now → IsSound image true_map heads new) → unknown new < unknown now
      → RoundSo image names places heads old new true (place + 1)
  going_found b place so long sound fewer = record {
    each = long ∙ so.each;
    sound = λ t h s. sound t h (so.sound t h s);
    fewer = λ _. (let a = no_more b place so in omega arith);
    same = λ e. absurd cc;
  }

  pub going_on : (b : Bool) (place : ℕ) → RoundSo image names places heads old now b place → new ≡ now → IsDone image names places heads now place
      → RoundSo image names places heads old new b (place + 1)
  going_on b place so same done = subst (λ (x : List (Option Facts)). RoundSo image names places heads old x b (place + 1)) (sym same) (record {
    each = so.each;
    sound = so.sound;
    fewer = so.fewer;
    same = λ e.
        let s = so.same e in
        let here : IsDone image names places heads old place = subst (λ (x : List (Option Facts)). IsDone image names places heads x place) s.0 done in
        (s.0, below_more (IsDone image names places heads old) place s.1 here);
  })

  pub started : length now ≡ length heads → old ≡ now → RoundSo image names places heads old now false 0
  started each same = record {
    each = each;
    sound = λ t h s. subst (IsSound image t heads) same s;
    fewer = λ e. absurd cc;
    same = λ e. (sym same, λ place lt. absurd (omega arith));
  }
