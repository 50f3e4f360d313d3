-- What a body names: what can be written still can as more comes, and what has a token keeps it.
use Rattle.std.proofs.Common.{◌≡◌, ap, refl, sym, ◌∙◌, subst, ℕ, ◌+◌, ◌*◌, ◌<◌, ◌≤◌, Bool, false, true≢false, List, [], ◌∷◌, length, arith}
use Rattle.std.specs.Prelude.{sum_by, IsTrue}
use Rattle.std.specs.List.{AllByRecursion}
use Rattle.assembly_tree.specs.Weight.{type_weight, owner_weight, handled_weight}
use Rattle.assembly_tree.specs.declared.body.Body.{Body}
use Rattle.assembly_tree.specs.declared.body.Clause.{Clause}
use Rattle.assembly_tree.specs.declared.body.ClauseKind.{ClauseKind}
use Rattle.assembly_tree.specs.declared.body.ClauseKind.TheVariants as kind
use Rattle.assembly_tree.specs.declared.body.Ins.{Ins}
use Rattle.assembly_tree.specs.declared.body.Operand.{Operand}
use Rattle.assembly_tree.specs.declared.body.Operand.TheVariants as operand
use Rattle.type_terms.specs.declared.reference.FieldRef.{FieldRef}
use Rattle.type_terms.specs.declared.reference.MethodRef.{MethodRef}
use Rattle.type_terms.specs.declared.reference.MethodSig.{MethodSig}
use Rattle.type_terms.specs.declared.term.Owner.{Owner}
use Rattle.type_terms.specs.declared.term.SigType.{SigType}
use Rattle.image_tokens.specs.BodyTokens.{HasOperandToken, HasHandledToken, HasInstructionToken, HasClauseToken, HaveLocalsToken, HasBodyTokens, HasSome, HasOwner, Notes}
use Rattle.image_tokens.specs.KnownTokens.{methods_apart, fields_apart, locals_apart, texts_apart}
use Rattle.image_tokens.specs.Members.{Leaves, HasLocals}
use Rattle.image_tokens.specs.NamesWeight.{named_weight, instruction_names, clause_names, names_weight}
use Rattle.image_tokens.specs.Noted.{IsOwned}
use Rattle.image_tokens.specs.References.{Grows, AreKnown}
use Rattle.image_tokens.specs.Units.{bytes_of_units}
use Rattle.image_tokens.specs.Writable.{IsMethodWritable, IsMethodRefWritable, IsFieldRefWritable, IsOperandWritable, IsInstructionWritable, IsHandledWritable, IsClauseWritable}
use Rattle.image_tokens.specs.declared.references.References.{References}
use Rattle.image_tokens.proofs.GivenLemmas.{arguments_can}
use Rattle.image_tokens.proofs.GrowthLemmas.{grows_refl, grows_trans, tokens_kept, token_kept}
use Rattle.image_tokens.proofs.NameLemmas.{all_weaker}
use Rattle.image_tokens.proofs.WritableLemmas.{still_writable, still_writable_owner, still_writable_each}

-- ---- what can be written

pub signature_can : (a b : References) → Grows a b → (s : MethodSig) → IsMethodWritable a s → IsMethodWritable b s
signature_can a b g s h = record {
  explicit = h.explicit;
  generic = h.generic;
  count = h.count;
  ret = still_writable a b g s.ret h.ret;
  params = still_writable_each a b g s.params h.params;
  sentinel = h.sentinel;
  in_bounds = h.in_bounds;
}

pub method_can : (a b : References) → Grows a b → (m : MethodRef) → IsMethodRefWritable a m → IsMethodRefWritable b m
method_can a b g m h = record {
  owner = still_writable_owner a b g m.owner h.owner;
  name = h.name;
  named = h.named;
  sig = signature_can a b g m.sig h.sig;
  args = arguments_can a b g m.args h.args;
  in_bounds = h.in_bounds;
}

pub field_can : (a b : References) → Grows a b → (f : FieldRef) → IsFieldRefWritable a f → IsFieldRefWritable b f
field_can a b g f h = record {
  owner = still_writable_owner a b g f.owner h.owner;
  name = h.name;
  named = h.named;
  of = still_writable a b g f.of h.of;
  in_bounds = h.in_bounds;
}

operand_can : (a b : References) → Grows a b → (o : Operand) → IsOperandWritable a o → IsOperandWritable b o
operand_can a b g (operand.Method m) h = method_can a b g m h
operand_can a b g (operand.Field f) h = field_can a b g f h
operand_can a b g (operand.Of o) h = still_writable_owner a b g o h
operand_can a b g (operand.Text units) h = (h.0, record { there = g.user.units h.0 (bytes_of_units units) h.1.there; used = g.user.used h.0 h.1.used }, h.2)
operand_can a b g operand.Nothing h = h
operand_can a b g (operand.Var n) h = h
operand_can a b g (operand.Int n) h = h
operand_can a b g (operand.Real bits) h = h
operand_can a b g (operand.Target at) h = h
operand_can a b g (operand.Targets at) h = h

pub instruction_can : (a b : References) → Grows a b → (i : Ins) → IsInstructionWritable a i → IsInstructionWritable b i
instruction_can a b g i h = operand_can a b g i.operand h

handled_can : (a b : References) → Grows a b → (k : ClauseKind) → IsHandledWritable a k → IsHandledWritable b k
handled_can a b g (kind.Catch o) h = still_writable_owner a b g o h
handled_can a b g (kind.Filter at) h = h
handled_can a b g kind.Finally h = h
handled_can a b g kind.Fault h = h

pub clause_can : (a b : References) → Grows a b → (c : Clause) → IsClauseWritable a c → IsClauseWritable b c
clause_can a b g c h = handled_can a b g c.kind h

-- ---- what has a token

operand_has : (a b : References) → Grows a b → (o : Operand) → HasOperandToken a o → HasOperandToken b o
operand_has a b g (operand.Method m) h = (h.0, token_kept methods_apart a.known.methods b.known.methods m h.0 g.known_methods h.1)
operand_has a b g (operand.Field f) h = (h.0, token_kept fields_apart a.known.fields b.known.fields f h.0 g.known_fields h.1)
operand_has a b g (operand.Of o) h = (h.0, tokens_kept a b g o h.0 h.1)
operand_has a b g (operand.Text units) h = (h.0, token_kept texts_apart a.known.texts b.known.texts units h.0 g.known_texts h.1)
operand_has a b g operand.Nothing h = h
operand_has a b g (operand.Var n) h = h
operand_has a b g (operand.Int n) h = h
operand_has a b g (operand.Real bits) h = h
operand_has a b g (operand.Target at) h = h
operand_has a b g (operand.Targets at) h = h

pub instruction_has : (a b : References) → Grows a b → (i : Ins) → HasInstructionToken a i → HasInstructionToken b i
instruction_has a b g i h = operand_has a b g i.operand h

handled_has : (a b : References) → Grows a b → (k : ClauseKind) → HasHandledToken a k → HasHandledToken b k
handled_has a b g (kind.Catch o) h = (h.0, tokens_kept a b g o h.0 h.1)
handled_has a b g (kind.Filter at) h = h
handled_has a b g kind.Finally h = h
handled_has a b g kind.Fault h = h

pub clause_has : (a b : References) → Grows a b → (c : Clause) → HasClauseToken a c → HasClauseToken b c
clause_has a b g c h = handled_has a b g c.kind h

pub locals_have : (a b : References) → Grows a b → (ts : List SigType) → HaveLocalsToken a ts → HaveLocalsToken b ts
locals_have a b g ts h some = let t = h some in (t.0, token_kept locals_apart a.known.locals b.known.locals ts t.0 g.known_locals t.1)

-- ---- weights

pub instruction_fits : (i : Ins) → named_weight i.operand ≤ instruction_names i
unfolding instruction_names
instruction_fits i = omega arith

pub clause_fits : (c : Clause) → handled_weight c.kind ≤ clause_names c
unfolding clause_names
clause_fits c = omega arith

pub body_weighs : (b : Body) → names_weight b ≡ 64 * length b.locals + sum_by type_weight b.locals + sum_by instruction_names b.code + sum_by clause_names b.clauses
unfolding names_weight
body_weighs b = refl

-- ---- a whole body

pub body_noted : (a b c d : References) (x : Body) (code : List Ins) (clauses : List Clause) → code ≡ x.code → clauses ≡ x.clauses
    → Notes (λ r. HaveLocalsToken r x.locals) a b (64 * length x.locals + sum_by type_weight x.locals)
    → Notes (λ r. AllByRecursion (HasInstructionToken r) code) b c (sum_by instruction_names code)
    → Notes (λ r. AllByRecursion (HasClauseToken r) clauses) c d (sum_by clause_names clauses) → Notes (λ r. HasBodyTokens r x) a d (names_weight x)
body_noted a b c d x code clauses same_code same_clauses l i h = record {
  grows = grows_trans a b d l.grows (grows_trans b c d i.grows h.grows);
  known = h.known;
  room =
      let first = l.room in
      let then = i.room in
      let last = h.room in
      let weighs = body_weighs x in
      let p = ap (sum_by instruction_names) same_code in
      let q = ap (sum_by clause_names) same_clauses in
      omega arith;
  has = record {
    locals = locals_have b d (grows_trans b c d i.grows h.grows) x.locals l.has;
    code = subst (λ (xs : List Ins). AllByRecursion (HasInstructionToken d) xs) same_code
        (all_weaker (HasInstructionToken c) (HasInstructionToken d) code (λ y k. instruction_has c d h.grows y k) i.has);
    clauses = subst (λ (xs : List Clause). AllByRecursion (HasClauseToken d) xs) same_clauses h.has;
  };
}

-- what is left to write still can

pub code_can : (a b : References) (code lent : List Ins) → Grows a b → lent ≡ code → AllByRecursion (IsInstructionWritable a) code → AllByRecursion (IsInstructionWritable b) lent
code_can a b code lent g same h =
    all_weaker (IsInstructionWritable a) (IsInstructionWritable b) lent (λ y k. instruction_can a b g y k) (subst (λ (xs : List Ins). AllByRecursion (IsInstructionWritable a) xs) (sym same) h)

pub clauses_can : (a b : References) (clauses lent : List Clause) → Grows a b → lent ≡ clauses → AllByRecursion (IsClauseWritable a) clauses → AllByRecursion (IsClauseWritable b) lent
clauses_can a b clauses lent g same h =
    all_weaker (IsClauseWritable a) (IsClauseWritable b) lent (λ y k. clause_can a b g y k) (subst (λ (xs : List Clause). AllByRecursion (IsClauseWritable a) xs) (sym same) h)

-- an owner has its token
pub owner_noted : (a b : References) (o : Owner) (token n : ℕ) → IsOwned a b o token → n ≡ owner_weight o → Notes (λ r. HasSome (HasOwner o) r) a b n
owner_noted a b o token n h same = record { grows = h.grows; known = h.known; room = (let room = h.room in omega arith); has = (token, h.token_is) }

-- what has a number is there
pub noted : (Is : References → ℕ → Type 0) (a b : References) (weight token n : ℕ) → Leaves Is a b weight token → weight ≤ n → Notes (λ r. HasSome Is r) a b n
noted Is a b weight token n h le = record { grows = h.grows; known = h.known; room = (let room = h.room in omega arith); has = (token, h.is) }

pub nothing_noted : (Has : References → Type 0) (a : References) (n : ℕ) → AreKnown a → Has a → Notes Has a a n
nothing_noted Has a n known h = record { grows = grows_refl a; known = known; room = omega arith; has = h }

-- ---- locals

pub some_locals : (ts : List SigType) (b : Bool) → (ts ≡ [] → IsTrue b) → b ≡ false → 0 < length ts
some_locals [] b h other = absurd (true≢false (sym (h refl) ∙ other))
some_locals (t ∷ ts) b h other = omega arith

pub locals_noted : (a b : References) (ts : List SigType) (token : ℕ) → 0 < length ts → Leaves (HasLocals ts) a b (sum_by type_weight ts + 17) token
    → Notes (λ r. HaveLocalsToken r ts) a b (64 * length ts + sum_by type_weight ts)
locals_noted a b ts token some h = record { grows = h.grows; known = h.known; room = (let room = h.room in omega arith); has = λ _. (token, h.is) }
