use Rattle.std.proofs.Common.{◌≡◌, ◌∙◌, ◌⊎◌, inl, inr, ◌+◌, ◌++◌, ℕ, List, length, ap, sym, subst}
use Rattle.std.proofs.lemmas.Result.{on_ok_weaker}
use Rattle.type_terms.specs.declared.reference.FieldRef.{FieldRef}
use Rattle.type_terms.specs.declared.reference.MethodRef.{MethodRef}
use Rattle.type_terms.specs.declared.term.Owner.{Owner}
use Rattle.opcode_table.specs.declared.kind.OperandKind.{OperandKind}
use Rattle.assembly_tree.specs.declared.body.Operand as operand
use Rattle.body_codec.specs.declared.encoding.draft.Draft.{Draft}
use Rattle.body_codec.specs.Encoding.{size_of}
use Rattle.body_codec.specs.Written.{number_bytes, tail_of}
use Rattle.body_codec.specs.Chains.{IsDraft, IsShort, IsWatched, from_on, offsets_of}
use Rattle.body_codec.proofs.Drafts.{draft_more}
use Rattle.body_codec.proofs.encoding.draft.Draft.push_operand.Goals as goal

pub returns-in-Target-clause-watched : goal.returns-in-Target-clause-watched
returns-in-Target-clause-watched c = λ code done want d short.
    let old : Draft = c.args.self.now in
    let e : c.args.operand.now ≡ operand.TheVariants.Target c.in-Target.to = c.in-Target.is in
    let P : operand.Operand → Type 0 = λ v. IsShort code c.args.at c.in-Target.to (length old.bytes + size_of c.args.kind v) in
    on_ok_weaker c.push_branch.result
    (λ w. λ to k f.
    let same : c.in-Target.to ≡ to = cc in
    let Q : ℕ → Type 0 = λ n. IsWatched (from_on (length old.offsets)) code c.push_branch.new.self.sites c.push_branch.new.self.far c.args.at n in
    subst Q same (w k))
    (c.push_branch.ensures.watched code done want d (λ k. subst P e (short c.in-Target.to k e)))

pub returns-in-Targets-clause-draft : goal.returns-in-Targets-clause-draft
returns-in-Targets-clause-draft c = λ code done want d short.
    let old : Draft = c.args.self.now in
    let e : c.args.operand.now ≡ operand.TheVariants.Targets c.in-Targets.targets = c.in-Targets.is in
    let same : c.as_slice.result.now ≡ c.in-Targets.targets = c.as_slice.ensures ∙ c.get.ensures in
    let f : c.args.operand.now ≡ operand.TheVariants.Targets c.as_slice.result.now = e ∙ ap operand.TheVariants.Targets (sym same) in
    let P : operand.Operand → Type 0 = λ v. IsDraft (from_on (length old.offsets)) code done
    (want ++ tail_of c.args.token (offsets_of code) (length old.bytes + size_of c.args.kind v) c.args.kind v) c.push_switch.new.self in
    on_ok_weaker c.push_switch.result (λ w. subst P (sym f) w) (c.push_switch.ensures.draft code done want d)

Names : operand.Operand → Type 0
Names v = ((x : MethodRef) × (v ≡ operand.TheVariants.Method x)) ⊎ (((x : FieldRef) × (v ≡ operand.TheVariants.Field x))
    ⊎ (((x : Owner) × (v ≡ operand.TheVariants.Of x)) ⊎ ((x : List ℕ) × (v ≡ operand.TheVariants.Text x))))

named_tail : (token n : ℕ) (os : List ℕ) (kd : OperandKind) (v : operand.Operand) → Names v → tail_of token os n kd v ≡ number_bytes 4 token
unfolding Names
named_tail token n os kd v names =
    elim names [
      | inl p ↦ ap (tail_of token os n kd) p.1
      | inr (inl p) ↦ ap (tail_of token os n kd) p.1
      | inr (inr (inl p)) ↦ ap (tail_of token os n kd) p.1
      | inr (inr (inr p)) ↦ ap (tail_of token os n kd) p.1
    ]

pub returns-in-Method-clause-draft : goal.returns-in-Method-clause-draft
unfolding Names
returns-in-Method-clause-draft c = λ code done want d short.
    let old : Draft = c.args.self.now in
    let token : ℕ = c.args.token in
    let n : ℕ = length old.bytes + size_of c.args.kind c.args.operand.now in
    let tail : tail_of token (offsets_of code) n c.args.kind c.args.operand.now ≡ number_bytes 4 token = named_tail token n (offsets_of code) c.args.kind c.args.operand.now c.in-Method.is in
    let with : List ℕ → Draft = λ b. record old { bytes = b } in
    let P : List ℕ → Type 0 = λ b. IsDraft (from_on (length old.offsets)) code done (want ++ tail_of token (offsets_of code) n c.args.kind c.args.operand.now) (with b) in
    let Q : List ℕ → Type 0 = λ w. IsDraft (from_on (length old.offsets)) code done (want ++ w) (with (old.bytes ++ number_bytes 4 token)) in
    on_ok_weaker c.push_number-in-Method.result
    (λ e. subst P (sym (e ∙ ap (λ m. old.bytes ++ number_bytes 4 m) c.from-in-Method.ensures))
    (subst Q (sym tail) (draft_more (from_on (length old.offsets)) code done want old.bytes (number_bytes 4 token) old.sites old.offsets old.far (length old.latest) d)))
    c.push_number-in-Method.ensures
