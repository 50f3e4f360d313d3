-- The failures of methods, one more method at a time.
use Rattle.std.proofs.Common.{◌≡◌, ◌∙◌, ◌⊎◌, inl, inr, refl, sym, ap, subst, List, [], ◌∷◌, ◌++◌}
use Rattle.std.specs.List.{Contains}
use Rattle.std.proofs.lemmas.List.{append_assoc, append-nil}
use Rattle.assembly_tree.specs.declared.assembly.Assembly.{Assembly}
use Rattle.assembly_tree.specs.declared.body.Body.{Body}
use Rattle.assembly_tree.specs.declared.typedef.MethodPath.{MethodPath}
use Rattle.type_hierarchy.specs.Hierarchy.{Hierarchy}
use Rattle.code_flow.specs.Frames.{frame}
use Rattle.code_flow.specs.Methods.{Declared}
use Rattle.code_flow.specs.Paths.{NeverWrong}
use Rattle.code_flow.proofs.Members.{either, none, of_append}
use Rattle.body_verifier.specs.Checking.{HasBody}
use Rattle.body_verifier.specs.Reports.{Reports, ReportsEach, no_methods, method}
use Rattle.body_verifier.specs.declared.report.Failure.{Failure}
use Rattle.all_bodies.specs.Reporting.{AreFailures}

module _ (a : Assembly) (w : Hierarchy) where
  each_more : {paths : List MethodPath} {failures : List Failure} (path : MethodPath) (found : List Failure) → ReportsEach a w paths failures → Reports a w path found
      → ReportsEach a w (paths ++ path ∷ []) (failures ++ found)
  each_more path found no_methods r = subst (ReportsEach a w (path ∷ [])) (append-nil found) (method r no_methods)
  each_more path found (method {path = first} {paths = paths} {failures = those} {more = more} h rest) r =
      subst (ReportsEach a w (first ∷ (paths ++ path ∷ []))) (sym (append_assoc those more found)) (method h (each_more path found rest r))

  none_of_none : (failures : List Failure) → ReportsEach a w [] failures → [] ≡ failures
  none_of_none failures no_methods = refl

  record Parts (paths : List MethodPath) (path : MethodPath) (failures : List Failure) : Type 0 where
    before : List Failure
    found : List Failure
    is : failures ≡ before ++ found
    each : ReportsEach a w paths before
    last : Reports a w path found

  parts : (paths : List MethodPath) (path : MethodPath) (failures : List Failure) → ReportsEach a w (paths ++ path ∷ []) failures → Parts paths path failures
  parts [] path failures (method {failures = found} {more = more} h rest) = record {
    before = [];
    found = found;
    is = ap (λ (l : List Failure). found ++ l) (sym (none_of_none more rest)) ∙ append-nil found;
    each = no_methods;
    last = h;
  }
  parts (first ∷ paths) path failures (method {failures = those} {more = more} h rest) =
      let p = parts paths path more rest in
      record {
        before = those ++ p.before;
        found = p.found;
        is = ap (λ (l : List Failure). those ++ l) p.is ∙ sym (append_assoc those p.before p.found);
        each = method h p.each;
        last = p.last;
      }

  empty_left : (xs ys : List Failure) → xs ++ ys ≡ [] → xs ≡ []
  empty_left [] ys e = refl
  empty_left (x ∷ xs) ys e = absurd (let f : ⊥ = cc in f)

  empty_right : (xs ys : List Failure) → xs ++ ys ≡ [] → ys ≡ []
  empty_right [] ys e = e
  empty_right (x ∷ xs) ys e = absurd (let f : ⊥ = cc in f)

  pub no_failures : AreFailures a w [] []
  no_failures = record {
    each = no_methods;
    alone = none_of_none;
    right = λ e path d b c h. absurd (none path c);
  }

  -- what is known of one method
  pub one_more : (paths : List MethodPath) (path : MethodPath) (failures found : List Failure) → AreFailures a w paths failures → Reports a w path found
      → ((others : List Failure) → Reports a w path others → found ≡ others)
      → ((d : Declared) (b : Body) → HasBody a path d b → found ≡ [] → NeverWrong (frame a w d b))
      → AreFailures a w (paths ++ path ∷ []) (failures ++ found)
  one_more paths path failures found those reports alone right = record {
    each = each_more path found those.each reports;
    alone = λ others h.
        let p = parts paths path others h in
        (λ i. those.alone p.before p.each i ++ alone p.found p.last i) ∙ sym p.is;
    right = λ e q d b c h. elim (of_append paths (path ∷ []) q c) [
      | inl before ↦ those.right (empty_left failures found e) q d b before h
      | inr last ↦ elim (either path [] q last) [
        | inl is ↦
            let P : MethodPath → Type 0 = λ (x : MethodPath). HasBody a x d b in
            right d b (subst P (sym is) h) (empty_right failures found e)
        | inr more ↦ absurd (none q more)
      ]
    ];
  }
