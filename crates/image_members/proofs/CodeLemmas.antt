-- Bodies that are written with the tokens that there are, one after another.
use Rattle.std.proofs.Common.{◌≡◌, ◌⊎◌, ap, refl, sym, ◌∙◌, subst, ℕ, zero, suc, ◌+◌, ◌*◌, ◌<◌, ◌≤◌, ◌^◌, List, [], ◌∷◌, ◌++◌, length, Option, Some, None, arith}
use Rattle.std.specs.Prelude.{◌≢◌, sum_by, slice_index_or}
use Rattle.std.specs.List.{All, AllByRecursion, AllZip}
use Rattle.std.specs.Option.{IsSome, is_some}
use Rattle.std.proofs.lemmas.List.{append-nil, append_assoc, length-append}
use Rattle.std.proofs.lemmas.List.Sums.{sum_by-cons}
use Rattle.assembly_tree.specs.declared.body.Body.{Body}
use Rattle.assembly_tree.specs.declared.body.Clause.{Clause}
use Rattle.assembly_tree.specs.declared.body.ClauseKind.{ClauseKind}
use Rattle.assembly_tree.specs.declared.body.ClauseKind.TheVariants as clause
use Rattle.assembly_tree.specs.declared.body.Ins.{Ins}
use Rattle.assembly_tree.specs.declared.body.Operand.{Operand}
use Rattle.assembly_tree.specs.declared.body.Operand.TheVariants as operand
use Rattle.opcode_table.specs.declared.kind.OperandKind.{OperandKind}
use Rattle.body_codec.specs.Encoding.{OperandFits, KindFits, ClauseFits, CanBeWritten, IsFarFault, IsFirstFar, IsWritten}
use Rattle.body_codec.specs.declared.fault.BodyFault.{BodyFault}
use Rattle.body_codec.specs.declared.fault.BodyFault.TheVariants as faults
use Rattle.body_codec.specs.Instruction.{kind}
use Rattle.body_codec.specs.Names.{TokenMap}
use Rattle.type_terms.specs.declared.term.SigType.{SigType}
use Rattle.image_tokens.specs.BodyTokens.{HasOperandToken, HasInstructionToken, HasHandledToken, HasClauseToken, HaveLocalsToken, HasBodyTokens, Notes}
use Rattle.image_members.specs.CodeBytes.{all_tokens, any_token, KeepsTokens, IsBodyAt, HasBody, code_room, stated_weight, stated_room, AddsBodies, AddsBody, CanPushBody, CanPushStated, CanPushBodies}
use Rattle.image_tokens.specs.KnownTokens.{methods_apart, fields_apart, locals_apart, texts_apart}
use Rattle.image_tokens.specs.NamesWeight.{names_weight}
use Rattle.image_members.specs.Placing.{StandsIn, Puts}
use Rattle.image_tokens.specs.References.{size, Grows, AreKnown, IsLocalsToken}
use Rattle.image_tokens.specs.Writable.{IsInstructionWritable, IsClauseWritable, IsBodyWritable}
use Rattle.image_tokens.specs.declared.references.References.{References}
use Rattle.image_members.proofs.BodyEnds.{body_few}
use Rattle.image_tokens.proofs.BodyLemmas.{instruction_can, clause_can}
use Rattle.image_tokens.proofs.GrowthLemmas.{grows_refl, grows_trans, token_kept, tokens_kept}
use Rattle.image_tokens.proofs.NameLemmas.{holds_of_found, all_weaker}
use Rattle.image_members.proofs.PlacingLemmas.{stands_later, puts_long}
use Rattle.image_tokens.proofs.WritableLemmas.{still_writable_each}
use Rattle.image_members.proofs.ZipLemmas.{zip_both, zip_later}

-- ---- tokens for all that a body names

there : {X : Type 0} → (o : Option X) (x : X) → o ≡ Some x → IsSome o
there o x e = ap is_some e

operand_known : (r : References) (count : ℕ) (k : OperandKind) (o : Operand) → HasOperandToken r o → OperandFits any_token count k o → OperandFits (all_tokens r) count k o
operand_known r count k operand.Nothing t h = h
operand_known r count k (operand.Var n) t h = h
operand_known r count k (operand.Int n) t h = h
operand_known r count k (operand.Real bits) t h = h
operand_known r count k (operand.Target at) t h = h
operand_known r count k (operand.Targets at) t h = h
operand_known r count k (operand.Method m) t h = (h.0, there _ t.0 t.1)
operand_known r count k (operand.Field f) t h = (h.0, there _ t.0 t.1)
operand_known r count k (operand.Of o) t h = (h.0, there _ t.0 t.1)
operand_known r count k (operand.Text units) t h = (h.0, there _ t.0 t.1)

kind_known : (r : References) (handler : ℕ) (k : ClauseKind) → HasHandledToken r k → KindFits any_token handler k → KindFits (all_tokens r) handler k
kind_known r handler (clause.Catch o) t h = there _ t.0 t.1
kind_known r handler (clause.Filter at) t h = h
kind_known r handler clause.Finally t h = h
kind_known r handler clause.Fault t h = h

clause_known : (r : References) (count : ℕ) (c : Clause) → HasClauseToken r c → ClauseFits any_token count c → ClauseFits (all_tokens r) count c
clause_known r count c t h = record {
  try_some = h.try_some;
  try_inside = h.try_inside;
  handler_some = h.handler_some;
  handler_inside = h.handler_inside;
  kind = kind_known r c.handler_start c.kind t h.kind;
}

at_place : {X : Type 0} (P : X → Type 0) (xs : List X) → AllByRecursion P xs → (k : ℕ) (d : X) → k < length xs → P (slice_index_or xs k d)
at_place P [] h k d low = absurd (omega arith)
at_place P (x ∷ xs) h zero d low = h.0
at_place P (x ∷ xs) h (suc k) d low = at_place P xs h.1 k d (omega arith)

locals_known : (r : References) (ts : List SigType) → AreKnown r → HaveLocalsToken r ts → ts ≢ [] → (token : ℕ) × ((all_tokens r).locals ts ≡ Some token) × (token ≢ 0)
locals_known r ts known have some =
    let t = have some in
    let is : IsLocalsToken r ts t.0 = holds_of_found locals_apart (λ e. IsLocalsToken r e.0 e.1) r.known.locals ts t.0 known.locals t.1 in
    (t.0, t.1, λ zero. (let e = is.is.is in omega arith))

pub can_be_written : (r : References) (b : Body) → AreKnown r → HasBodyTokens r b → CanBeWritten any_token b → CanBeWritten (all_tokens r) b
can_be_written r b known t h = record {
  some = h.some;
  operands = λ k d low. operand_known r (length b.code) (kind (slice_index_or b.code k d).op) (slice_index_or b.code k d).operand (at_place (HasInstructionToken r) b.code t.code k d low) (h.operands k d low);
  size = h.size;
  few = h.few;
  clauses = λ k d low. clause_known r (length b.code) (slice_index_or b.clauses k d) (at_place (HasClauseToken r) b.clauses t.clauses k d low) (h.clauses k d low);
  locals = λ some. locals_known r b.locals known t.locals some;
}

-- without a branch that is too far nothing but memory is lacking
pub no_fault : (code : List Ins) (f : BodyFault) → IsFarFault code f → (f ≡ faults.NoMemory → ⊥) → ((at : ℕ) → IsFirstFar code at → ⊥) → ⊥
no_fault code (faults.Far at) h other reaches = reaches at h
no_fault code faults.Header h other reaches = h
no_fault code (faults.Opcode offset) h other reaches = h
no_fault code (faults.Cut offset) h other reaches = h
no_fault code (faults.Target offset) h other reaches = h
no_fault code (faults.Range clause) h other reaches = h
no_fault code (faults.Token offset) h other reaches = h
no_fault code faults.NoMemory h other reaches = other refl

-- ---- what stays

tokens_stay : (earlier : TokenMap) (a b : References) → Grows a b → KeepsTokens earlier (all_tokens a) → KeepsTokens earlier (all_tokens b)
tokens_stay earlier a b g h = record {
  owners = λ o t e. tokens_kept a b g o t (h.owners o t e);
  methods = λ m t e. token_kept methods_apart a.known.methods b.known.methods m t g.known_methods (h.methods m t e);
  fields = λ f t e. token_kept fields_apart a.known.fields b.known.fields f t g.known_fields (h.fields f t e);
  locals = λ ts t e. token_kept locals_apart a.known.locals b.known.locals ts t g.known_locals (h.locals ts t e);
  texts = λ u t e. token_kept texts_apart a.known.texts b.known.texts u t g.known_texts (h.texts u t e);
}

body_at_later : (a b : References) (code more : List ℕ) → Grows a b → (rva : ℕ) (x : Body) → IsBodyAt a code x rva → IsBodyAt b (code ++ more) x rva
body_at_later a b code more g rva x h = record {
  bytes = h.bytes;
  stands = stands_later code more h.bytes rva h.stands;
  aligned = h.aligned;
  earlier = h.earlier;
  within = tokens_stay h.earlier a b g h.within;
  written = h.written;
}

pub body_later : (a b : References) (code more : List ℕ) → Grows a b → (rva : ℕ) (x : Option Body) → HasBody a code rva x → HasBody b (code ++ more) rva x
body_later a b code more g rva None h = h
body_later a b code more g rva (Some x) h = body_at_later a b code more g rva x h

body_can : (a b : References) → Grows a b → (x : Body) → CanPushBody a x → CanPushBody b x
body_can a b g x h = record {
  writable = record {
    locals = still_writable_each a b g x.locals h.writable.locals;
    count = h.writable.count;
    in_bounds = h.writable.in_bounds;
    code = all_weaker (IsInstructionWritable a) (IsInstructionWritable b) x.code (λ y k. instruction_can a b g y k) h.writable.code;
    clauses = all_weaker (IsClauseWritable a) (IsClauseWritable b) x.clauses (λ y k. clause_can a b g y k) h.writable.clauses;
  };
  form = h.form;
  reaches = h.reaches;
}

stated_can : (a b : References) → Grows a b → (x : Option Body) → CanPushStated a x → CanPushStated b x
stated_can a b g None h = h
stated_can a b g (Some x) h = body_can a b g x h

-- ---- one body

pub body_added : (a b : References) (from to : List ℕ) (x : Body) (bytes : List ℕ) (rva : ℕ) → Notes (λ r. HasBodyTokens r x) a b (names_weight x) → IsWritten (all_tokens b) x bytes
    → Puts 4 bytes from to rva → AddsBody x a b from to rva
body_added a b from to x bytes rva n w p = record {
  grows = n.grows;
  known = n.known;
  room = n.room;
  more = p.more;
  is = p.is;
  long = (let few = body_few (all_tokens b) x bytes w in let long = puts_long 4 rva bytes from to p in omega arith);
  at = record {
    bytes = bytes;
    stands = p.stands;
    aligned = p.aligned;
    earlier = all_tokens b;
    within = record { owners = λ o t e. e; methods = λ m t e. e; fields = λ f t e. e; locals = λ ts t e. e; texts = λ u t e. e };
    written = w;
  };
}

pub room_for_body : (numbers : TokenMap) (x : Body) (bytes from : List ℕ) → IsWritten numbers x bytes → length from + code_room x ≤ 2 ^ 26 → length from + length bytes < 2 ^ 27
room_for_body numbers x bytes from w room = let few = body_few numbers x bytes w in omega arith

-- ---- bodies in turn

no_bodies : (a : References) (from : List ℕ) → AreKnown a → AddsBodies [] a a from from []
no_bodies a from known = record { grows = grows_refl a; known = known; room = omega arith; more = []; is = sym (append-nil from); long = omega arith; each = tt }

pub no_body : (a : References) (from : List ℕ) (x : Option Body) → AreKnown a → x ≡ None → AddsBodies (x ∷ []) a a from from (0 ∷ [])
no_body a from x known e = record {
  grows = grows_refl a;
  known = known;
  room = omega arith;
  more = [];
  is = sym (append-nil from);
  long = omega arith;
  each = (subst (HasBody a from 0) (sym e) refl, tt);
}

pub a_body : (a b : References) (from to : List ℕ) (x : Option Body) (y : Body) (rva : ℕ) → x ≡ Some y → AddsBody y a b from to rva → AddsBodies (x ∷ []) a b from to (rva ∷ [])
a_body a b from to x y rva e h = record {
  grows = h.grows;
  known = h.known;
  room = (let room = h.room in let one = sum_by-cons stated_weight x [] in let same = ap stated_weight e in omega arith);
  more = h.more;
  is = h.is;
  long = (let long = h.long in let one = sum_by-cons stated_room x [] in let same = ap stated_room e in omega arith);
  each = (subst (HasBody b to rva) (sym e) h.at, tt);
}

bodies_both : (x : Option Body) (ys : List (Option Body)) (a b c : References) (from via to : List ℕ) (rva : ℕ) (rvas : List ℕ) → AddsBodies (x ∷ []) a b from via (rva ∷ [])
    → AddsBodies ys b c via to rvas → AddsBodies (x ∷ ys) a c from to (rva ∷ rvas)
bodies_both x ys a b c from via to rva rvas p q = record {
  grows = grows_trans a b c p.grows q.grows;
  known = q.known;
  room = (let first = p.room in let then = q.room in let one = sum_by-cons stated_weight x [] in let both = sum_by-cons stated_weight x ys in omega arith);
  more = p.more ++ q.more;
  is = q.is ∙ ap (λ xs. xs ++ q.more) p.is ∙ append_assoc from p.more q.more;
  long = (let first = p.long in let then = q.long in let one = sum_by-cons stated_room x [] in let both = sum_by-cons stated_room x ys in omega arith);
  each = (subst (λ code. HasBody c code rva x) (sym q.is) (body_later b c via q.more q.grows rva x p.each.0), q.each);
}

-- those before `rest` have been added, at these RVAs
pub record BodiesTo (a b : References) (from to : List ℕ) (rvas : List ℕ) (xs rest : List (Option Body)) : Type 0 where
  pub on : (c : References) (end more : List ℕ) → AddsBodies rest b c to end more → AddsBodies xs a c from end (rvas ++ more)
  pub can : CanPushBodies rest b to

pub bodies_begin : (a : References) (from : List ℕ) (xs : List (Option Body)) → CanPushBodies xs a from → BodiesTo a a from from [] xs xs
bodies_begin a from xs can = record { on = λ c end more h. h; can = can }

pub bodies_can : (a b : References) (from to rvas : List ℕ) (xs rest more : List (Option Body)) (x : Option Body) → rest ≡ x ∷ more → BodiesTo a b from to rvas xs rest → CanPushBodies (x ∷ []) b to
bodies_can a b from to rvas xs rest more x e d = record {
  known = d.can.known;
  each = ((subst (λ ys. AllByRecursion (CanPushStated b) ys) e d.can.each).0, tt);
  room = (let room = d.can.room in let one = sum_by-cons stated_weight x [] in let all = ap (sum_by stated_weight) e ∙ sum_by-cons stated_weight x more in omega arith);
  long = (let long = d.can.long in let one = sum_by-cons stated_room x [] in let all = ap (sum_by stated_room) e ∙ sum_by-cons stated_room x more in omega arith);
}

pub bodies_on : (a b c : References) (from via to rvas next : List ℕ) (xs rest more : List (Option Body)) (x : Option Body) (rva : ℕ) → rest ≡ x ∷ more → BodiesTo a b from via rvas xs rest
    → AddsBodies (x ∷ []) b c via to (rva ∷ []) → next ≡ rvas ++ rva ∷ [] → BodiesTo a c from to next xs more
bodies_on a b c from via to rvas next xs rest more x rva e d one is = record {
  on = λ later end others h. subst (AddsBodies xs a later from end) (sym (append_assoc rvas (rva ∷ []) others) ∙ ap (λ rs. rs ++ others) (sym is))
      (d.on later end (rva ∷ others) (subst (λ ys. AddsBodies ys b later via end (rva ∷ others)) (sym e) (bodies_both x more b c later via to end rva others one h)));
  can = record {
    known = one.known;
    each = all_weaker (CanPushStated b) (CanPushStated c) more (λ y h. stated_can b c one.grows y h) (subst (λ ys. AllByRecursion (CanPushStated b) ys) e d.can.each).1;
    room = (let room = d.can.room in let step = one.room in let alone = sum_by-cons stated_weight x [] in let all = ap (sum_by stated_weight) e ∙ sum_by-cons stated_weight x more in omega arith);
    long = (let long = d.can.long in let step = one.long in let alone = sum_by-cons stated_room x [] in let all = ap (sum_by stated_room) e ∙ sum_by-cons stated_room x more in omega arith);
  };
}

pub bodies_end : (a b : References) (from to rvas : List ℕ) (xs rest : List (Option Body)) → rest ≡ [] → BodiesTo a b from to rvas xs rest → AddsBodies xs a b from to rvas
bodies_end a b from to rvas xs rest e d =
    subst (AddsBodies xs a b from to) (append-nil rvas) (d.on b to [] (subst (λ ys. AddsBodies ys b b to to []) (sym e) (no_bodies b to d.can.known)))
