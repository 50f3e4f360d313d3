-- Declarations of some kinds with the attributes behind them, segment by segment.
use Rattle.std.proofs.Common.{◌≡◌, Bool, true, false, cond, List, [], ◌∷◌, ◌++◌, filter, take_while, refl, ap, ◌∙◌}
use Rattle.std.specs.List.{list_all}
use Rattle.source_model.specs.Forest as f
use Rattle.source_model.specs.Items.{is_custom, begins_run, Run, runs, customs_outside}
use Rattle.listing_reading.specs.Laws.{RunsAreRead}
use Rattle.listing_reading.specs.Rows.{IsEndOfRun}
use Rattle.listing_rows.specs.Laws.{runs_of, NonePass, AllOwned, RunsAreFiltered}

module _ (test : f.Part → Bool) where
  abbrev kept : List Run → List Run
  kept rs = filter (λ r. test r.head) rs

  past : (xs ys : List f.Part) → NonePass test xs → runs_of test (xs ++ ys) ≡ runs_of test ys
  past [] ys h = refl
  past (x ∷ xs) ys h =
      ap (λ c. cond c (record { head = x; customs = take_while is_custom (xs ++ ys) } ∷ kept (runs (xs ++ ys))) (kept (runs (xs ++ ys)))) h.0 ∙ past xs ys h.1

  none : (xs : List f.Part) → NonePass test xs → runs_of test xs ≡ []
  none [] h = refl
  none (x ∷ xs) h = ap (λ c. cond c (record { head = x; customs = take_while is_custom xs } ∷ kept (runs xs)) (kept (runs xs))) h.0 ∙ none xs h.1

  run : RunsAreRead → (head : f.Part) (customs after : List f.Part) → test head ≡ true → list_all is_custom customs ≡ true → NonePass test customs →
      IsEndOfRun after → runs_of test (head ∷ (customs ++ after)) ≡ record { head = head; customs = customs } ∷ runs_of test after
  run laws head customs after h all apart end =
      let one : Run = record { head = head; customs = customs } in
      ap kept (laws.run head customs after all end)
      ∙ (ap (λ c. cond c (one ∷ kept (runs (customs ++ after))) (kept (runs (customs ++ after)))) h ∙ ap (λ rs. one ∷ rs) (past customs after apart))

owned : RunsAreRead → (head : f.Part) (customs after : List f.Part) → is_custom head ≡ false → begins_run head ≡ true → list_all is_custom customs ≡ true →
    AllOwned after → AllOwned (head ∷ (customs ++ after))
owned laws head customs after h begins all rest b =
    laws.head b head (customs ++ after) h ∙ (ap (λ c. customs_outside c (customs ++ after)) begins ∙ (laws.inside customs after all ∙ rest true))

plain : RunsAreRead → (head : f.Part) (after : List f.Part) → is_custom head ≡ false → AllOwned after → AllOwned (head ∷ after)
plain laws head after h rest b = laws.head b head after h ∙ rest (begins_run head)

pub runs_are_filtered : RunsAreRead → RunsAreFiltered
runs_are_filtered laws = record { past = past; none = none; run = λ test. run test laws; owned = owned laws; plain = plain laws }
