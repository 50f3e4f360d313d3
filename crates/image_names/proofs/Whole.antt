-- All that is kept, together.
use Rattle.std.proofs.Common.{◌≡◌, List, ℕ, Some, sym, subst}
use Rattle.type_terms.specs.declared.term.Owner.{Owner}
use Rattle.body_codec.specs.Names.{NameMap}
use Rattle.image_namings.specs.Laws.{HangOnTokens}
use Rattle.image_ready.specs.Keeping.{Keeps}
use Rattle.kept_names.specs.Keeping.{kept_at}
use Rattle.kept_names.specs.Keys.{row_key}
use Rattle.kept_names.specs.declared.kept.Kept.{Kept}
use Rattle.kept_names.specs.declared.names.KeptNames.{KeptNames}
use Rattle.kept_members.specs.Maps.{all_of}
use Rattle.kept_members.specs.Members.{AreMembers}
use Rattle.kept_texts.specs.Texts.{AreLocalsKept, AreTextsKept}
use Rattle.image_names.specs.Named.{CanName}
use Rattle.image_names.proofs.Agreeing.{owner_kept}
use Rattle.image_names.proofs.Members.{methods_so, methods_kept, fields_so, fields_kept, locals_so, locals_kept}
use Rattle.image_names.proofs.Strings.{texts_so, texts_kept}

pub keeps : (image : List ℕ) (known kept : KeptNames) → HangOnTokens → kept.owners ≡ known.owners → AreMembers image known (all_of kept.methods) (all_of kept.fields) → AreLocalsKept image known (all_of kept.locals) → AreTextsKept image (all_of kept.texts)
    → (names : NameMap) → CanName image names known → Keeps image names kept
keeps image known kept hang same members locals texts names can = record {
  owners = λ table row o n r. subst (λ (k : Kept Owner). kept_at k.places k.items (row_key table row) ≡ Some o) (sym same) (owner_kept image names known can.named can.owners hang table row o n r);
  true_owners = λ table row o few e. can.owners.true_owners table row o few (subst (λ (k : Kept Owner). kept_at k.places k.items (row_key table row) ≡ Some o) same e);
  methods = λ token table row m n t e. methods_kept image names known can hang (all_of kept.methods) (all_of kept.fields) members token table row m n t e;
  true_methods = λ token m e. methods_so image names known can hang (all_of kept.methods) (all_of kept.fields) members token m e;
  fields = λ token table row f n t e. fields_kept image names known can hang (all_of kept.methods) (all_of kept.fields) members token table row f n t e;
  true_fields = λ token f e. fields_so image names known can hang (all_of kept.methods) (all_of kept.fields) members token f e;
  locals = λ token table row ts n t e. locals_kept image names known can hang (all_of kept.locals) locals token table row ts n t e;
  true_locals = λ token ts e. locals_so image names known can hang (all_of kept.locals) locals token ts e;
  texts = λ method token units there n e. texts_kept image names known can (all_of kept.texts) texts method token units there n e;
  true_texts = λ token units e. texts_so image names known can (all_of kept.texts) texts token units e;
}
