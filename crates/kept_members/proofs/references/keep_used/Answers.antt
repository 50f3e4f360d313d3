use Rattle.std.proofs.Common.{List, ℕ, inl, refl, sym, ◌∙◌, subst}
use Rattle.std.proofs.lemmas.Bool.{false≢true}
use Rattle.image_model.specs.Used.{IsUsed}
use Rattle.kept_members.specs.Maps.{all_of}
use Rattle.kept_members.specs.Members.{IsMethodOf, IsFieldOf}
use Rattle.kept_members.proofs.Adding.{adds_none}
use Rattle.kept_members.proofs.references.keep_used.Goals as goal

pub keep_row-requires-clause-used : goal.keep_row-requires-clause-used
keep_row-requires-clause-used c = subst (λ (i : List ℕ). IsUsed i 0x0A c.args.row) c.requires.used (c.is_used.ensures.0 c.if-is_used.true).1

pub returns-clause-adds_methods : goal.returns-clause-adds_methods
returns-clause-adds_methods c = adds_none (IsMethodOf c.args.image.now c.args.known.now) (all_of c.args.methods.now)

pub returns-clause-adds_fields : goal.returns-clause-adds_fields
returns-clause-adds_fields c = adds_none (IsFieldOf c.args.image.now c.args.known.now) (all_of c.args.fields.now)

pub returns-clause-methods : goal.returns-clause-methods
returns-clause-methods c = λ h.
    absurd (false≢true (sym c.if-is_used.false ∙ c.is_used.ensures.1 (inl refl, subst (λ (i : List ℕ). IsUsed i 0x0A c.args.row) (sym c.requires.used) h.0)))

pub returns-clause-fields : goal.returns-clause-fields
returns-clause-fields c = λ h.
    absurd (false≢true (sym c.if-is_used.false ∙ c.is_used.ensures.1 (inl refl, subst (λ (i : List ℕ). IsUsed i 0x0A c.args.row) (sym c.requires.used) h.0)))
