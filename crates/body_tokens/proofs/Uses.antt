-- A body without a fault has known tokens exactly where its operands and catches name what is wanted.
use Rattle.std.proofs.Common.{◌≡◌, ◌∙◌, sym, ap, subst, refl, ℕ, zero, suc, ◌+◌, ◌<◌, ◌≤◌, ◌^◌, ◌⊎◌, inl, inr, Bool, true, false, cond, List, [], ◌∷◌, ◌++◌, length, map, get_or, slice_index_or, Option, None, Some, option_map, arith}
use Rattle.std.specs.Prelude.{◌↔◌, ◌==◌, Contains}
use Rattle.std.specs.List.{All, filter_map, cons_option}
use Rattle.std.specs.Option.{option_or}
use Rattle.std.proofs.lemmas.Bool.{eqb-true, eq-eqb}
use Rattle.std.proofs.lemmas.Option.{none-some, same_Some}
use Rattle.std.proofs.lemmas.List.{length-map, get_or-map}
use Rattle.std.proofs.lemmas.List.Elements.{All-contains, Contains-get_or, Contains-append_left, Contains-append_right}
use Rattle.assembly_tree.specs.declared.body.Operand as operand
use Rattle.type_terms.specs.declared.term.Owner.{Owner}
use Rattle.type_terms.specs.declared.reference.FieldRef.{FieldRef}
use Rattle.type_terms.specs.declared.reference.MethodRef.{MethodRef}
use Rattle.opcode_table.specs.declared.kind.OperandKind.{OperandKind}
use Rattle.opcode_table.specs.declared.kind.OperandKind.TheVariants as kinds
use Rattle.body_codec.specs.declared.decoding.sections.ClauseRow.{ClauseRow}
use Rattle.body_codec.specs.Faults.{IsOutline, HasName, HaveNames, Catches, HaveCatches}
use Rattle.body_codec.specs.Header.{code_of}
use Rattle.body_codec.specs.Instruction.{Piece, kind, number}
use Rattle.body_codec.specs.NamedTokens.{caught_in, locals_in}
use Rattle.body_codec.specs.Names.{NameMap, named, takes_token}
use Rattle.body_codec.specs.Sections.{clause_rows}
use Rattle.body_codec.proofs.Outcomes.{cut_same, any_piece, any_row}
use Rattle.body_outlines.specs.Outlines.{Outlines, token_use, use_in, tokens_of}
use Rattle.body_outlines.specs.declared.outlined.BodyOutline.{BodyOutline}
use Rattle.body_outlines.specs.declared.outlined.TokenUse.{TokenUse}
use Rattle.image_model.specs.Bodies.{body_of, BodyNames, HasKnownTokens}
use Rattle.image_model.specs.Faults.{HasTables, HoldBefore, tokens}
use Rattle.image_model.specs.Naming.{IsToken}
use Rattle.image_model.specs.Namings.{AreNamings}
use Rattle.image_model.specs.Rows.{HasRow}
use Rattle.image_model.specs.Used.{IsUsed, IsReference}
use Rattle.method_states.specs.States.{HasGoodBody}
use Rattle.method_states.proofs.Naming.{of_names}
use Rattle.body_tokens.specs.Tokens.{IsTypeToken, IsMethodToken, IsFieldToken, IsTextToken, IsKnownUse, IsUseKnown, AreKnown}
use Rattle.body_tokens.proofs.Paths.{type_named, named_type}
use Rattle.body_tokens.proofs.Members.{method_named, named_method, field_named, named_field, text_named, named_text}

-- ---- what is kept of a list

later : {Y : Type 0} (o : Option Y) (ys : List Y) (y : Y) → Contains ys y → Contains (cons_option o ys) y
later None ys y c = c
later (Some z) ys y c = (suc c.0, let l = c.1 in omega arith, c.2)

in_kept : {X Y : Type 0} (f : X → Option Y) (xs : List X) (k : ℕ) (d : X) (y : Y) → k < length xs → f (get_or xs k d) ≡ Some y → Contains (filter_map f xs) y
in_kept f [] k d y l e = absurd (omega arith)
in_kept f (x ∷ xs) zero d y l e = subst (λ o. Contains (cons_option o (filter_map f xs)) y) (sym e) (0, omega arith, refl)
in_kept f (x ∷ xs) (suc k) d y l e = later (f x) (filter_map f xs) y (in_kept f xs k d y (omega arith) e)

abbrev KeptOf : (X Y : Type 0) → (X → Option Y) → List X → Y → Type 0
KeptOf X Y f xs y = (k : ℕ) × (k < length xs) × ((d : X) → f (get_or xs k d) ≡ Some y)

kept_behind : {X Y : Type 0} (f : X → Option Y) (x : X) (xs : List X) (y : Y) → KeptOf X Y f xs y → KeptOf X Y f (x ∷ xs) y
kept_behind f x xs y h = (suc h.0, let l = h.1 in omega arith, h.2)

kept_first : {X Y : Type 0} (f : X → Option Y) (x : X) (xs : List X) (y : Y) (o : Option Y) → f x ≡ o → Contains (cons_option o (filter_map f xs)) y
    → (Contains (filter_map f xs) y → KeptOf X Y f xs y) → KeptOf X Y f (x ∷ xs) y
kept_first f x xs y None e c rest = kept_behind f x xs y (rest c)
kept_first f x xs y (Some z) e (zero, l, g) rest = (0, omega arith, λ d. e ∙ ap Some g)
kept_first f x xs y (Some z) e (suc k, l, g) rest = kept_behind f x xs y (rest (k, omega arith, g))

of_kept : {X Y : Type 0} (f : X → Option Y) (xs : List X) (y : Y) → Contains (filter_map f xs) y → KeptOf X Y f xs y
of_kept f [] y c = absurd (let l = c.1 in omega arith)
of_kept f (x ∷ xs) y c = kept_first f x xs y (f x) refl c (of_kept f xs y)

in_map : {X Y : Type 0} (f : X → Y) (xs : List X) (x : X) → Contains xs x → Contains (map f xs) (f x)
in_map f xs x c = (c.0, let l = length-map xs f in let m = c.1 in omega arith, get_or-map f xs c.0 x (f x) c.1 ∙ ap f c.2)

if_some : {Y : Type 0} (b : Bool) (x y : Y) → cond b (Some x) None ≡ Some y → (b ≡ true) × (x ≡ y)
if_some true x y e = (refl, same_Some x y e)
if_some false x y e = absurd (none-some y e)

-- ---- names of a token

abbrev Given : {X : Type 0} → Option X → Type 0
Given {X = X} o = (x : X) × (o ≡ Some x)

map_given : {X Y : Type 0} (f : X → Y) (o : Option X) → Given o → Given (option_map f o)
map_given f o g = (f g.0, ap (option_map f) g.1)

given_map : {X Y : Type 0} (f : X → Y) (o : Option X) → Given (option_map f o) → Given o
given_map f None g = absurd (none-some g.0 g.1)
given_map f (Some x) g = (x, refl)

or_given : {X : Type 0} (a b : Option X) → Given a ⊎ Given b → Given (option_or a b)
or_given (Some x) b h = (x, refl)
or_given None b (inl g) = absurd (none-some g.0 g.1)
or_given None b (inr g) = g

given_or : {X : Type 0} (a b : Option X) → Given (option_or a b) → Given a ⊎ Given b
given_or (Some x) b g = inl (x, refl)
given_or None b g = inr g

module _ (image : List ℕ) (names : NameMap) (small : length image ≤ 2 ^ 26) (has : HasTables image) (tell : AreNamings image names) (before : HoldBefore image names tokens) where
  abbrev AreUsed : ℕ → Type 0
  AreUsed token = (table row : ℕ) → IsReference table → IsToken token table row → HasRow image table row → IsUsed image table row

  type_given : (t : ℕ) → AreUsed t → IsTypeToken image t → Given (names.owners t)
  type_given t used h = type_named image names has tell before t (λ row is there. used 0x1B row (inr (inr (inr (inl refl)))) is there) h

  of_members : (t : ℕ) → AreUsed t → (table row : ℕ) → (table ≡ 0x0A) ⊎ (table ≡ 0x2B) → IsToken t table row → HasRow image table row → IsUsed image table row
  of_members t used table row (inl e) is there = used table row (inr (inl e)) is there
  of_members t used table row (inr e) is there = used table row (inr (inr (inr (inr e)))) is there

  method_given : (t : ℕ) → AreUsed t → IsMethodToken image t → Given (names.methods t)
  method_given t used h = method_named image names small has tell before t (of_members t used) h

  field_given : (t : ℕ) → AreUsed t → IsFieldToken image t → Given (names.fields t)
  field_given t used h = field_named image names small has tell before t (of_members t used) h

  use_given : (k : OperandKind) (t : ℕ) → AreUsed t → IsKnownUse image k t → Given (named names k t)
  use_given kinds.Method t used h = map_given operand.TheVariants.Method (names.methods t) (method_given t used h)
  use_given kinds.Field t used h = map_given operand.TheVariants.Field (names.fields t) (field_given t used h)
  use_given kinds.Of t used h = map_given operand.TheVariants.Of (names.owners t) (type_given t used h)
  use_given kinds.Text t used h = map_given operand.TheVariants.Text (names.texts t) (text_named image names small has tell before t h)
  use_given kinds.Token t used h =
      or_given (option_map operand.TheVariants.Method (names.methods t)) (option_or (option_map operand.TheVariants.Field (names.fields t)) (option_map operand.TheVariants.Of (names.owners t)))
      (elim h [
        | inl m ↦ inl (map_given operand.TheVariants.Method (names.methods t) (method_given t used m))
        | inr u ↦ inr (or_given (option_map operand.TheVariants.Field (names.fields t)) (option_map operand.TheVariants.Of (names.owners t)) (elim u [
          | inl f ↦ inl (map_given operand.TheVariants.Field (names.fields t) (field_given t used f))
          | inr o ↦ inr (map_given operand.TheVariants.Of (names.owners t) (type_given t used o))
        ]))
      ])
  use_given _ t used h = absurd h

  given_type : (t : ℕ) → Given (names.owners t) → IsTypeToken image t
  given_type t g = named_type image names has tell before t g.0 g.1

  given_method : (t : ℕ) → Given (names.methods t) → IsMethodToken image t
  given_method t g = named_method image names small has tell before t g.0 g.1

  given_field : (t : ℕ) → Given (names.fields t) → IsFieldToken image t
  given_field t g = named_field image names small has tell before t g.0 g.1

  given_use : (k : OperandKind) (t : ℕ) → Given (named names k t) → IsKnownUse image k t
  given_use kinds.Method t g = given_method t (given_map operand.TheVariants.Method (names.methods t) g)
  given_use kinds.Field t g = given_field t (given_map operand.TheVariants.Field (names.fields t) g)
  given_use kinds.Of t g = given_type t (given_map operand.TheVariants.Of (names.owners t) g)
  given_use kinds.Text t g = let u = given_map operand.TheVariants.Text (names.texts t) g in named_text image names small has tell before t u.0 u.1
  given_use kinds.Token t g =
      elim (given_or (option_map operand.TheVariants.Method (names.methods t)) (option_or (option_map operand.TheVariants.Field (names.fields t)) (option_map operand.TheVariants.Of (names.owners t))) g) [
        | inl m ↦ inl (given_method t (given_map operand.TheVariants.Method (names.methods t) m))
        | inr u ↦ elim (given_or (option_map operand.TheVariants.Field (names.fields t)) (option_map operand.TheVariants.Of (names.owners t)) u) [
          | inl f ↦ inr (inl (given_field t (given_map operand.TheVariants.Field (names.fields t) f)))
          | inr o ↦ inr (inr (given_type t (given_map operand.TheVariants.Of (names.owners t) o)))
        ]
      ]
  given_use _ t g = absurd (none-some g.0 g.1)

  module _ (method : ℕ) (there : HasRow image 0x06 method) (good : HasGoodBody image method) (o : BodyOutline) (outline : Outlines (body_of image method) o) where
    token_used : (token : ℕ) → Contains (tokens_of o) token → AreUsed token
    token_used token c table row ref is at = IsUsed.by_body there (of_names image method token o good outline c) is ref at

    operand_token : (u : TokenUse) → Contains o.operands u → Contains (tokens_of o) u.token
    operand_token u c =
        Contains-append_right (locals_in o.locals) (map (λ (x : TokenUse). x.token) o.operands ++ o.catches) u.token
        (Contains-append_left (map (λ (x : TokenUse). x.token) o.operands) o.catches u.token (in_map (λ (x : TokenUse). x.token) o.operands u c))

    catch_token : (t : ℕ) → Contains o.catches t → Contains (tokens_of o) t
    catch_token t c =
        Contains-append_right (locals_in o.locals) (map (λ (x : TokenUse). x.token) o.operands ++ o.catches) t
        (Contains-append_right (map (λ (x : TokenUse). x.token) o.operands) o.catches t c)

    operand_at : (k : ℕ) (p : Piece) → k < length outline.pieces → takes_token (kind (get_or outline.pieces k p).op) ≡ true
        → Contains o.operands (token_use (kind (get_or outline.pieces k p).op) (number (get_or outline.pieces k p).tail))
    operand_at k p l e =
        let q = get_or outline.pieces k p in
        let u = token_use (kind q.op) (number q.tail) in
        subst (λ us. Contains us u) (sym outline.operands) (in_kept use_in outline.pieces k p u l (ap (λ b. cond b (Some u) None) e))

    names_have : AreKnown image o → HaveNames names outline.pieces (length outline.pieces)
    names_have h k p l e =
        let q = get_or outline.pieces k p in
        let u = token_use (kind q.op) (number q.tail) in
        let c = operand_at k p l e in
        use_given u.kind u.token (token_used u.token (operand_token u c)) (All-contains (IsUseKnown image) o.operands u h.operands c)

    catches_have : AreKnown image o → HaveCatches names (clause_rows (body_of image method)) (length (clause_rows (body_of image method)))
    catches_have h k r l e =
        let rows = clause_rows (body_of image method) in
        let row = get_or rows k r in
        let t = row.class_or_filter in
        let kept : Contains (filter_map caught_in rows) t = in_kept caught_in rows k r t l (ap (λ b. cond b (Some t) None) (eq-eqb row.kind 0 e)) in
        let c : Contains o.catches t = subst (λ ts. Contains ts t) (sym outline.catches) kept in
        type_given t (token_used t (catch_token t c)) (All-contains (IsTypeToken image) o.catches t h.catches c)

    pub known_tokens : AreKnown image o → HasKnownTokens names (body_of image method)
    known_tokens h = record { pieces = outline.pieces; outline = outline.outline; operands = names_have h; catches = catches_have h }

    have_known : HaveNames names outline.pieces (length outline.pieces) → HaveCatches names (clause_rows (body_of image method)) (length (clause_rows (body_of image method))) → AreKnown image o
    have_known h g = record {
      operands = λ k d l.
          let u = get_or o.operands k d in
          let c : Contains (filter_map use_in outline.pieces) u = subst (λ us. Contains us u) outline.operands (Contains-get_or o.operands k d l) in
          let at = of_kept use_in outline.pieces u c in
          let q = get_or outline.pieces at.0 any_piece in
          let is = if_some (takes_token (kind q.op)) (token_use (kind q.op) (number q.tail)) u (at.2 any_piece) in
          let v = h at.0 any_piece at.1 is.0 in
          subst (IsUseKnown image) is.1 (given_use (kind q.op) (number q.tail) v);
      catches = λ k d l.
          let rows = clause_rows (body_of image method) in
          let t = get_or o.catches k d in
          let c : Contains (filter_map caught_in rows) t = subst (λ ts. Contains ts t) outline.catches (Contains-get_or o.catches k d l) in
          let at = of_kept caught_in rows t c in
          let row = get_or rows at.0 any_row in
          let is = if_some (row.kind == 0) row.class_or_filter t (at.2 any_row) in
          let v = g at.0 any_row at.1 (eqb-true row.kind 0 is.0) in
          subst (IsTypeToken image) is.1 (given_type row.class_or_filter v);
    }

    pub tokens_known : HasKnownTokens names (body_of image method) → AreKnown image o
    tokens_known h =
        let same = cut_same (code_of (body_of image method)) h.pieces outline.pieces h.outline.code.cut outline.outline.code.cut in
        have_known (subst (λ ps. HaveNames names ps (length ps)) same h.operands) h.catches
