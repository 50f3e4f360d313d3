-- An assembly has one report.
use Rattle.std.proofs.Common.{◌≡◌, ◌∙◌, ap, subst, refl, ℕ, ◌+◌, List, ◌∷◌, ◌++◌, map}
use Rattle.std.specs.Cmp.{IsTotalOrder}
use Rattle.type_terms.specs.Order.{term_order}
use Rattle.type_terms.specs.declared.term.SigType.{SigType}
use Rattle.assembly_tree.specs.declared.assembly.Assembly.{Assembly}
use Rattle.type_hierarchy.specs.Hierarchy.{Hierarchy}
use Rattle.class_model.specs.declared.report.Slot.{Slot}
use Rattle.class_model.specs.declared.report.ClassReport.{ClassReport}
use Rattle.class_model.specs.declared.row.Row.{Row}
use Rattle.class_model.specs.Classes.{own_type}
use Rattle.class_model.specs.Missing.{slot_for, AreWithout, none, keeps, drops, AreLacking, AreMissing, no_face, next_face, Lists, no_class, skipped, checked, IsReport}
use Rattle.class_model.proofs.SortedLists.{sorted_same}

pub without_once : {X : Type 0} {P : X → Type 0} {xs ys zs : List X} → AreWithout P xs ys → AreWithout P xs zs → ys ≡ zs
without_once none none = refl
without_once (keeps {x = x} n r) (keeps m s) = ap (λ l. x ∷ l) (without_once r s)
without_once (keeps n r) (drops p s) = absurd (n p)
without_once (drops p r) (keeps n s) = absurd (n p)
without_once (drops p r) (drops q s) = without_once r s

lacking_once : IsTotalOrder term_order → (a : Assembly) (w : Hierarchy) (t : SigType) (fs gs : List SigType) → AreLacking a w t fs → AreLacking a w t gs → fs ≡ gs
lacking_once o a w t fs gs f g =
    sorted_same o fs gs f.rising g.rising (λ z c. (g.are z).1 ((f.are z).0 c)) (λ z c. (f.are z).1 ((g.are z).0 c))

missing_once : {a : Assembly} {w : Hierarchy} {r : Row} {t : SigType} {fs : List SigType} {ss us : List Slot} → AreMissing a w r t fs ss → AreMissing a w r t fs us → ss ≡ us
missing_once no_face no_face = refl
missing_once {w = w} {r = r} (next_face {face = face} {ms = ms} {rest = rest} h more) (next_face {ms = ns} {rest = others} k further) =
    ap (λ l. map (slot_for w r face) l ++ rest) (without_once h k) ∙ ap (λ l. map (slot_for w r face) ns ++ l) (missing_once more further)

record Same (ss us : List Slot) (n m k j : ℕ) : Type 0 where
  slots : ss ≡ us
  checks : n ≡ m
  skips : k ≡ j

module _ (o : IsTotalOrder term_order) {a : Assembly} {w : Hierarchy} where
  here_once : (r : Row) {fs gs : List SigType} {ss us : List Slot} → AreLacking a w (own_type w r) fs → AreLacking a w (own_type w r) gs →
      AreMissing a w r (own_type w r) fs ss → AreMissing a w r (own_type w r) gs us → ss ≡ us
  here_once r {fs} {gs} {ss} {us} f g x y =
      missing_once (subst (λ l. AreMissing a w r (own_type w r) l ss) (lacking_once o a w (own_type w r) fs gs f g) x) y

  once : {rs : List Row} {ss us : List Slot} {n m k j : ℕ} → Lists a w rs ss n k → Lists a w rs us m j → Same ss us n m k j
  once no_class no_class = record { slots = refl; checks = refl; skips = refl }
  once (skipped n r) (skipped m s) = let h = once r s in record { slots = h.slots; checks = h.checks; skips = ap (λ k. k + 1) h.skips }
  once (skipped n r) (checked c f x s) = absurd (n c)
  once (checked c f x r) (skipped n s) = absurd (n c)
  once (checked {r = row} {here = here} {slots = slots} c f x r) (checked {here = there} d g y s) =
      let h = once r s in
      record {
        slots = ap (λ l. l ++ slots) (here_once row f g x y) ∙ ap (λ l. there ++ l) h.slots;
        checks = ap (λ k. k + 1) h.checks;
        skips = h.skips;
      }

same_report : (r s : ClassReport) → r.missing ≡ s.missing → r.checked ≡ s.checked → r.skipped ≡ s.skipped → r ≡ s
same_report r s a b c = λ i. record { missing = a i; checked = b i; skipped = c i }

pub report_once : IsTotalOrder term_order → (a : Assembly) (w : Hierarchy) (r s : ClassReport) → IsReport a w r → IsReport a w s → r ≡ s
report_once o a w r s x y = let h = once o x y in same_report r s h.slots h.checks h.skips
