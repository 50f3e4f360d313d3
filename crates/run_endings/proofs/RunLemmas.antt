-- How a run ends, from what was read, made in memory and performed.
use Rattle.std.proofs.Common.{◌≡◌, ℕ, ◌≤◌, ◌⊎◌, inl, inr, Bool, IsTrue, List, Option, None, Some, refl, sym, ap, subst, ◌∙◌, arith}
use Rattle.il_base.specs.Outside.{Files, Rose, ChangesOnly}
use Rattle.run_endings.specs.Ends.{Shelved, Spoken, IsBegun, IsCut, IsMade, IsPerformed, IsUntouched, in_file, in_console, in_out, in_err, whole, part, says_only}
use Rattle.run_endings.specs.Reads.{AreRead, StopsAt, IsLonger}
use Rattle.run_endings.specs.Runs.{IsPlanned, misfit, unread, too_long, reached, Merits, by_words, by_absence, by_length, by_inputs, Runs}
use Rattle.run_endings.specs.Texts.{usage_text, unread_text, long_text}
use Rattle.run_endings.specs.declared.ending.Ending.{Ending}
use Rattle.run_endings.specs.declared.ending.Made.{Made}
use Rattle.run_endings.specs.declared.input.Input.{Input}
use Rattle.run_endings.proofs.ReadLemmas.{no_stop, one_stop, one_given, not_both}

-- ---- performing, from a middle on

-- the second is the end of the first: between their beginnings no told file changed, and no write failed
pub record Ends (s t : Shelved) : Type 0 where
  pub tells : t.tells ≡ s.tells
  pub before : IsTrue s.tells → t.before ≡ s.before
  pub now : t.now ≡ s.now
  pub writes : t.writes ≡ s.writes
  pub writes_now : t.writes_now ≡ s.writes_now

module _ (s t : Shelved) (ends : Ends s t) where
  told : IsTrue s.tells → IsTrue t.tells
  told is = subst IsTrue (sym ends.tells) is

  changes : (name : List ℕ) → IsTrue s.tells → ChangesOnly name t.before t.now → ChangesOnly name s.before s.now
  changes name is only other differs = sym (ap (λ (files : Files). files other) ends.now) ∙ only other differs ∙ ap (λ (files : Files). files other) (ends.before is)

  pub made_since : (file : Option Made) → IsMade file t → IsMade file s
  made_since None made = λ is. sym ends.now ∙ made (told is) ∙ ends.before is
  made_since (Some m) made = λ is. let d = made (told is) in (sym (ap (λ (files : Files). files m.name) ends.now) ∙ d.0, changes m.name is d.1)

  begun_since : (m : Made) → IsBegun m t → IsBegun m s
  begun_since m begun = λ is. let d = begun (told is) in (
    elim d.0 [
      | inl same ↦ inl (sym ends.now ∙ same ∙ ends.before is)
      | inr front ↦ inr (front.0, sym (ap (λ (files : Files). files m.name) ends.now) ∙ front.1)
    ],
    changes m.name is d.1,
  )

  rose_since : Rose t.writes t.writes_now → Rose s.writes s.writes_now
  rose_since rose = subst (λ (n : ℕ). Rose s.writes n) ends.writes_now (subst (λ (n : ℕ). Rose n t.writes_now) ends.writes rose)

  cut_since : (e : Ending) (c : Spoken) → IsCut e t c → IsCut e s c
  cut_since e c (in_file m is rose begun quiet) = in_file m is (rose_since rose) (begun_since m begun) quiet
  cut_since e c (in_console made broken) = in_console (made_since e.file made) broken

  pub performed_since : (e : Ending) (c : Spoken) (number : ℕ) → IsPerformed e t c number → IsPerformed e s c number
  performed_since e c number (whole n is done) = whole n is (record { made = made_since e.file done.made; taken = done.taken })
  performed_since e c number (part n is cut) = part n is (cut_since e c cut)

-- ---- what each ending shows

module _ (usage : Option ℕ) (inputs : List Input) (Gives : List (List ℕ) → Ending → Type 0) (Due : List (List ℕ) → ℕ → Type 0) where
  -- there was no memory
  pub runs_lacking : (s : Shelved) (c : Spoken) → IsUntouched s c → Runs usage inputs Gives Due 6 s c
  runs_lacking s c untouched = record {
    range = omega arith;
    done = λ n4 n6. absurd (n6 refl);
    cut = λ four. absurd (omega arith);
    lacking = λ six. untouched;
    exactly = λ n due. inr (inl refl);
  }

  -- what was planned is performed
  module _ (s : Shelved) (c : Spoken) (e : Ending) (planned : IsPlanned usage inputs Gives Due s.tells s.before s.reads s.reads_now e) where
    cut_exactly : (number : ℕ) → number ≡ 4 → IsCut e s c → (n : ℕ) → Merits usage inputs Due s.tells s.before n
        → (number ≡ 4) × (((n ≡ 0) × Rose s.writes s.writes_now) ⊎ Rose c.failed c.failed_now)
    cut_exactly number four (in_file made made-is rose begun quiet) n due =
        let none : e.number ≡ 0 = planned.makes made made-is in
        elim (planned.due n due) [ inl d ↦ (four, inl (d ∙ none, rose)) | inr d ↦ absurd (omega (arith, d.0)) ]
    cut_exactly number four (in_console made (in_out some rose takes)) n due = (four, inr rose)
    cut_exactly number four (in_console made (in_err some rose takes)) n due = (four, inr rose)

    pub runs_planned : (number : ℕ) → IsPerformed e s c number → Runs usage inputs Gives Due number s c
    runs_planned number (whole m same done) = record {
      range = elim planned.number [ inl l ↦ omega arith | inr l ↦ omega arith ];
      done = λ n4 n6. (e, planned.is, same, done);
      cut = λ four. absurd (elim planned.number [ inl l ↦ omega arith | inr l ↦ omega arith ]);
      lacking = λ six. absurd (elim planned.number [ inl l ↦ omega arith | inr l ↦ omega arith ]);
      exactly = λ n due. elim (planned.due n due) [ inl d ↦ inl (same ∙ sym d) | inr d ↦ inr (inr (inl (same ∙ d.0, d.1, d.2))) ];
    }
    runs_planned number (part m four cut) = record {
      range = omega arith;
      done = λ n4 n6. absurd (n4 four);
      cut = λ f. (e, planned.is, cut);
      lacking = λ six. absurd (omega arith);
      exactly = λ n due. inr (inr (inr (cut_exactly number four cut n due)));
    }

  -- ---- plans

  module _ (tells : Bool) (files : Files) (reads reads_now : ℕ) where
    -- an ending that only says something makes no file
    no_file : (k : ℕ) (text : List ℕ) (e : Ending) → e ≡ says_only k text → (made : Made) → e.file ≡ Some made → ⊥
    no_file k text e is made made-is = let none : e.file ≡ None = ap (λ (x : Ending). x.file) is in absurd cc

    some_none : (word : ℕ) → usage ≡ Some word → usage ≡ None → ⊥
    some_none word some none = absurd cc

    -- a word doesn't fit
    misfit_due : (word : ℕ) → usage ≡ Some word → (n : ℕ) → Merits usage inputs Due tells files n → n ≡ 2
    misfit_due word fault n (by_words other is due) = due
    misfit_due word fault n (by_absence at fits told stops none due) = absurd (some_none word fault fits)
    misfit_due word fault n (by_length at fits told stops longer due) = absurd (some_none word fault fits)
    misfit_due word fault n (by_inputs given fits told are due) = absurd (some_none word fault fits)

    pub planned_misfit : (word : ℕ) (e : Ending) → usage ≡ Some word → e ≡ says_only 2 (usage_text word)
        → IsPlanned usage inputs Gives Due tells files reads reads_now e
    planned_misfit word e fault is = let two : e.number ≡ 2 = ap (λ (x : Ending). x.number) is in record {
      is = misfit word fault is;
      number = inl (omega arith);
      makes = λ made made-is. absurd (no_file 2 (usage_text word) e is made made-is);
      due = λ n due. inl (misfit_due word fault n due ∙ sym two);
    }

    module _ (fits : usage ≡ None) where
      -- an input can't be read
      unread_due : (at : Input) → StopsAt tells files inputs at → Rose reads reads_now ⊎ (IsTrue tells × (files at.name ≡ None))
          → (e : Ending) → e.number ≡ 3 → (n : ℕ) → Merits usage inputs Due tells files n → (n ≡ e.number) ⊎ ((e.number ≡ 3) × (usage ≡ None) × Rose reads reads_now)
      unread_due at stops (inl rose) e three n due = inr (three, fits, rose)
      unread_due at stops (inr gone) e three n (by_words word is due) = absurd (some_none word is fits)
      unread_due at stops (inr gone) e three n (by_absence at' fits' told stops' none due) = inl (due ∙ sym three)
      unread_due at stops (inr gone) e three n (by_length at' fits' told stops' longer due) =
          let same : at ≡ at' = one_stop tells files told inputs at at' stops stops' (inl gone.1) (inr longer) in
          absurd (not_both files at gone.1 (subst (λ (x : Input). IsLonger files x) (sym same) longer))
      unread_due at stops (inr gone) e three n (by_inputs given fits' told are due) = absurd (no_stop tells files told inputs given at are stops (inl gone.1))

      pub planned_unread : (at : Input) (e : Ending) → StopsAt tells files inputs at → Rose reads reads_now ⊎ (IsTrue tells × (files at.name ≡ None))
          → e ≡ says_only 3 (unread_text at.name) → IsPlanned usage inputs Gives Due tells files reads reads_now e
      planned_unread at e stops why is = let three : e.number ≡ 3 = ap (λ (x : Ending). x.number) is in record {
        is = unread at fits stops why is;
        number = inl (omega arith);
        makes = λ made made-is. absurd (no_file 3 (unread_text at.name) e is made made-is);
        due = unread_due at stops why e three;
      }

      -- an input is too long
      too_long_due : (at : Input) → StopsAt tells files inputs at → (IsTrue tells → IsLonger files at) → (n : ℕ) → Merits usage inputs Due tells files n → n ≡ 5
      too_long_due at stops why n (by_words word is due) = absurd (some_none word is fits)
      too_long_due at stops why n (by_absence at' fits' told stops' none due) =
          let same : at ≡ at' = one_stop tells files told inputs at at' stops stops' (inr (why told)) (inl none) in
          absurd (not_both files at' none (subst (λ (x : Input). IsLonger files x) same (why told)))
      too_long_due at stops why n (by_length at' fits' told stops' longer due) = due
      too_long_due at stops why n (by_inputs given fits' told are due) = absurd (no_stop tells files told inputs given at are stops (inr (why told)))

      pub planned_too_long : (at : Input) (e : Ending) → StopsAt tells files inputs at → (IsTrue tells → IsLonger files at)
          → e ≡ says_only 5 (long_text at.name at.limit) → IsPlanned usage inputs Gives Due tells files reads reads_now e
      planned_too_long at e stops why is = let five : e.number ≡ 5 = ap (λ (x : Ending). x.number) is in record {
        is = too_long at fits stops why is;
        number = inr five;
        makes = λ made made-is. absurd (no_file 5 (long_text at.name at.limit) e is made made-is);
        due = λ n due. inl (too_long_due at stops why n due ∙ sym five);
      }

      -- all is read
      reached_due : (given : List (List ℕ)) → AreRead tells files inputs given → (k : ℕ) → ((n : ℕ) → Due given n → k ≡ n) → (n : ℕ)
          → Merits usage inputs Due tells files n → n ≡ k
      reached_due given are k only n (by_words word is due) = absurd (some_none word is fits)
      reached_due given are k only n (by_absence at fits' told stops none due) = absurd (no_stop tells files told inputs given at are stops (inl none))
      reached_due given are k only n (by_length at fits' told stops longer due) = absurd (no_stop tells files told inputs given at are stops (inr longer))
      reached_due given are k only n (by_inputs given' fits' told are' due) =
          let same : given' ≡ given = one_given tells files told inputs given' given are' are in
          sym (only n (subst (λ (g : List (List ℕ)). Due g n) same due))

      pub planned_reached : (given : List (List ℕ)) (e : Ending) → AreRead tells files inputs given → Gives given e → e.number ≤ 1
          → ((made : Made) → e.file ≡ Some made → e.number ≡ 0) → ((n : ℕ) → Due given n → e.number ≡ n)
          → IsPlanned usage inputs Gives Due tells files reads reads_now e
      planned_reached given e are gives low makes only = record {
        is = reached given fits are gives low;
        number = inl (omega arith);
        makes = makes;
        due = λ n due. inl (reached_due given are e.number only n due);
      }
