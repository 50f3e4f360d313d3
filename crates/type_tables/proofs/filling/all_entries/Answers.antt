use Rattle.std.proofs.Common.{◌∙◌, ◌+◌, ◌∷◌, [], ap, sym, subst, length, List, ℕ}
use Rattle.std.proofs.lemmas.List.{length-append}
use Rattle.type_tables.specs.Building.{AreEntries}
use Rattle.type_hierarchy.specs.declared.tables.Declared.{Declared}
use Rattle.type_tables.proofs.FillLemmas.{entered_more}
use Rattle.type_tables.proofs.filling.all_entries.Goals as goal

pub loop-k-preserved : goal.loop-k-preserved
loop-k-preserved c =
    let now = c.loop-k.entries in
    let d = c.in_ok-entry.entry in
    let more = c.in_ok-push.ensures.ok in
    record {
      count = ap length more ∙ length-append now (d ∷ []) ∙ ap (λ (n : ℕ). n + 1) c.loop-k.invariant.count;
      each = λ s ok places values.
          subst (λ (l : List Declared). AreEntries s c.args.places.now.names l) (sym more)
          (entered_more s c.args.places.now.names now c.loop-k.k d c.loop-k.invariant.count (c.loop-k.invariant.each s ok places values)
          (c.in_ok-entry.ensures s ok places values));
    }
