-- The rows of methods, and the bodies where they say.
use Rattle.std.proofs.Common.{◌≡◌, ◌≢◌, ap, sym, ◌∙◌, subst, ℕ, ◌+◌, ◌-◌, List, ◌++◌, length, Option, None, Some, arith}
use Rattle.std.specs.Prelude.{Contains, slice_get, slice_index}
use Rattle.assembly_tree.specs.declared.assembly.Assembly.{Assembly}
use Rattle.assembly_tree.specs.declared.body.Body.{Body}
use Rattle.assembly_tree.specs.declared.members.Method.{Method}
use Rattle.laws_image_parts.specs.in_code.Following.{BodiesMayBeFollowed, MoreMayFollow}
use Rattle.laws_image_parts.specs.in_code.Given.{IsGiven, NamedIsGiven, of_type, of_method, of_field, of_locals, of_text}
use Rattle.body_codec.specs.Back.{NamesBack}
use Rattle.body_codec.specs.Bodies.{Spells}
use Rattle.body_codec.specs.Encoding.{fits_tiny}
use Rattle.body_codec.specs.Header.{is_tiny}
use Rattle.body_codec.specs.NamedTokens.{AreNamed}
use Rattle.body_codec.specs.Names.{NameMap, TokenMap, reading, writing}
use Rattle.pe_layout.specs.FileMap.{readable, StandsAt}
use Rattle.image_tokens.specs.declared.references.References.{References}
use Rattle.image_members.specs.CodeBytes.{all_tokens, IsBodyAt, KeepsTokens}
use Rattle.image_members.specs.CodeBytes as made
use Rattle.image_members.specs.Places.{all_methods}
use Rattle.image_members.specs.declared.classes.Class.{Class}
use Rattle.image_model.specs.Bodies.{BodyNames, IsBody}
use Rattle.image_model.specs.Columns.{method_rva}
use Rattle.image_model.specs.Reading.{BodyIs}
use Rattle.image_model.specs.Rows.{HasRow, count_of}
use Rattle.laws_image_parts.specs.CodeRead.{CodeIsRead}
use Rattle.laws_image_parts.specs.RunsRead.{RunsRead}
use Rattle.laws_image_parts.proofs.tidiness.ListLemmas.{get_some}
use Rattle.laws_image_parts.specs.bodies.Bodies.{BodiesRead}

-- what was given a token earlier is given back, where all is that has one
back_earlier : (earlier later : TokenMap) (names : NameMap) → KeepsTokens earlier later → NamesBack later names → NamesBack earlier names
back_earlier earlier later names k b = record {
  owners = λ o t at. b.owners o t (k.owners o t at);
  methods = λ m t at. b.methods m t (k.methods m t at);
  fields = λ f t at. b.fields f t (k.fields f t at);
  locals = λ ts t at. b.locals ts t (k.locals ts t at);
  texts = λ units t at. b.texts units t (k.texts units t at);
  of_field = λ f t at. b.of_field f t (k.fields f t at);
  of_type = λ o t at. b.of_type o t (k.owners o t at);
}

given_later : (earlier later : TokenMap) (token : ℕ) → KeepsTokens earlier later → IsGiven earlier token → IsGiven later token
given_later earlier later token k (of_type {owner = o} at) = of_type (k.owners o token at)
given_later earlier later token k (of_method {method = m} at) = of_method (k.methods m token at)
given_later earlier later token k (of_field {field = f} at) = of_field (k.fields f token at)
given_later earlier later token k (of_locals {types = ts} at) = of_locals (k.locals ts token at)
given_later earlier later token k (of_text {units = units} at) = of_text (k.texts units token at)

module _ (a : Assembly) (classes : List Class) (r : References) (code image : List ℕ) (stands : StandsAt image 0x2050 code) (read : CodeIsRead)
    (runs : RunsRead a classes r code image) (count : count_of image 0x06 ≡ length (all_methods a classes)) where
  -- the RVA of a method is that of its body
  rva_of : (k : ℕ) (m : Method) → slice_get (all_methods a classes) k ≡ Some m → made.HasBody r code (method_rva image (1 + k)) m.body
  rva_of k m at =
      let row = runs.method_rows k m at in
      let rva : method_rva image (1 + k) ≡ row.0 = ap (λ (cs : List ℕ). slice_index cs 0) row.2.are in
      subst (λ n. made.HasBody r code n m.body) (sym rva) row.3

  -- the method of a row
  method_at : (row : ℕ) → HasRow image 0x06 row → (m : Method) × made.HasBody r code (method_rva image row) m.body
  method_at row there =
      let some = there.0 in
      let high = there.1 in
      let found = get_some (all_methods a classes) (row - 1) (omega arith) in
      let same : 1 + (row - 1) ≡ row = omega arith in
      (found.0, subst (λ n. made.HasBody r code (method_rva image n) found.0.body) same (rva_of (row - 1) found.0 found.1))

  -- a body that stands in the code
  begins : (rva : ℕ) (b : Body) (h : IsBodyAt r code b rva) → (rest : List ℕ) × (readable image rva ≡ h.bytes ++ rest)
  begins rva b h = read image code h.bytes rva stands h.stands

  module _ (same : MoreMayFollow) (longer : BodiesMayBeFollowed)
      (back : (numbers : TokenMap) (names : NameMap) → NamesBack numbers names → (bytes : List ℕ) (body : Body) (size : ℕ) → Spells (writing numbers) bytes body size → Spells (reading names) bytes body size)
      (names : NameMap) (given : NamesBack (all_tokens r) names) where
    spelled : (rva : ℕ) (b : Body) (h : IsBodyAt r code b rva) → Spells (reading names) (readable image rva) b (length h.bytes)
    spelled rva b h =
        let front = begins rva b h in
        let own = back h.earlier names (back_earlier h.earlier (all_tokens r) names h.within given) h.bytes b (length h.bytes) h.written.spelled in
        subst (λ bytes. Spells (reading names) bytes b (length h.bytes)) (sym front.1) (longer.read names h.bytes front.0 b (length h.bytes) own)

    body_is : (rva : ℕ) (o : Option Body) → made.HasBody r code rva o → BodyIs image names rva o
    body_is rva None h = h
    body_is rva (Some b) h = ((λ zero. let at = h.stands.at in omega arith), (length h.bytes, spelled rva b h))

    shortest_at : (rva : ℕ) (o : Option Body) → made.HasBody r code rva o → rva ≢ 0
        → (body : Body) × IsBody names (readable image rva) body × (is_tiny (readable image rva) ≡ fits_tiny body)
    shortest_at rva None h some = absurd (some h)
    shortest_at rva (Some b) h some =
        let front = begins rva b h in
        let tiny = (same h.bytes front.0 h.written.spelled.header h.written.spelled.read).tiny in
        (b, (length h.bytes, spelled rva b h), ap is_tiny front.1 ∙ tiny ∙ h.written.compact.tiny)

    pub bodies_read : BodiesRead a classes image names
    bodies_read = record {
      bodies = λ k m at. body_is (method_rva image (1 + k)) m.body (rva_of k m at);
      shortest = λ method there has. let m = method_at method there in shortest_at (method_rva image method) m.0.body m.1 has;
    }

  -- ---- what bodies name

  given_at : NamedIsGiven → (rva : ℕ) (o : Option Body) (tokens : List ℕ) (token : ℕ) → made.HasBody r code rva o → rva ≢ 0 → AreNamed (readable image rva) tokens → Contains tokens token
      → IsGiven (all_tokens r) token
  given_at law rva None tokens token h some n c = absurd (some h)
  given_at law rva (Some b) tokens token h some n c =
      let front = begins rva b h in
      given_later h.earlier (all_tokens r) token h.within
      (law h.earlier h.bytes front.0 tokens b (length h.bytes) token h.written.spelled (subst (λ bytes. AreNamed bytes tokens) front.1 n) c)

  pub tokens_given : NamedIsGiven → (method token : ℕ) → HasRow image 0x06 method → BodyNames image method token → IsGiven (all_tokens r) token
  tokens_given law method token there n =
      let m = method_at method there in
      given_at law (method_rva image method) m.0.body n.tokens token m.1 n.there n.named n.among
