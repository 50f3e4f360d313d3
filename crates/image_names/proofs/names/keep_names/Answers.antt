use Rattle.std.proofs.Common.{List, ℕ, sym, subst}
use Rattle.type_terms.specs.declared.reference.FieldRef.{FieldRef}
use Rattle.type_terms.specs.declared.reference.MethodRef.{MethodRef}
use Rattle.type_terms.specs.declared.term.SigType.{SigType}
use Rattle.kept_names.specs.declared.kept.Kept.{Kept}
use Rattle.row_parts.proofs.Zips.{ok_has}
use Rattle.kept_members.specs.Maps.{all_of}
use Rattle.kept_members.specs.Members.{AreMembers}
use Rattle.kept_members.specs.declared.members.Members.{Members}
use Rattle.kept_texts.specs.Texts.{AreLocalsKept, AreTextsKept}
use Rattle.image_names.proofs.Ready.{can_keep, can_keep_locals}
use Rattle.image_names.proofs.Whole.{keeps}
use Rattle.image_names.proofs.names.keep_names.Goals as goal

pub keep_members-requires-clause-can : goal.keep_members-requires-clause-can
keep_members-requires-clause-can c = can_keep c.args.image.now c.requires.can.0 c.args.known c.requires.can.1 c.signatures_hang_on_tokens.ensures

pub keep_locals-requires-clause-can : goal.keep_locals-requires-clause-can
keep_locals-requires-clause-can c = can_keep_locals c.args.image.now c.requires.can.0 c.args.known c.requires.can.1 c.signatures_hang_on_tokens.ensures

pub returns : goal.returns
returns c =
    let image = c.args.image.now in
    let known = c.args.known in
    let it = c.in_ok-members in
    let e = c.in_ok-members.ensures in
    let w = c.whole.ensures in
    let members = ok_has (λ (m : Members). AreMembers image known (all_of m.methods) (all_of m.fields)) c.keep_members.result it.members e.0 c.keep_members.ensures in
    let locals = ok_has (λ (k : Kept (List SigType)). AreLocalsKept image known (all_of k)) c.keep_locals.result it.locals e.1.0 c.keep_locals.ensures in
    let texts = ok_has (λ (k : Kept (List ℕ)). AreTextsKept image (all_of k)) c.keep_texts.result it.texts e.1.1 c.keep_texts.ensures in
    let kept = c.whole.result in
    let methods = subst (λ (k : Kept MethodRef). AreMembers image known (all_of k) (all_of it.members.fields)) (sym w.methods) members in
    let all = subst (λ (k : Kept FieldRef). AreMembers image known (all_of kept.methods) (all_of k)) (sym w.fields) methods in
    keeps image known kept c.signatures_hang_on_tokens.ensures w.owners all (subst (λ (k : Kept (List SigType)). AreLocalsKept image known (all_of k)) (sym w.locals) locals)
    (subst (λ (k : Kept (List ℕ)). AreTextsKept image (all_of k)) (sym w.texts) texts)
