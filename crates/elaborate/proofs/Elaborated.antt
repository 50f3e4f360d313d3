-- A source that is read, and what was answered of it.
use Rattle.std.proofs.Common.{◌≡◌, ℕ, ◌<◌, ◌≤◌, ◌^◌, ◌⊎◌, inl, inr, List, [], ◌∷◌, ◌++◌, length, Ok, Err, refl, ap, sym, subst, ◌∙◌, ◌*◌, arith}
use Rattle.std.specs.Prelude.{IfOk, IfErr, IsTrue, Result, true}
use Rattle.std.proofs.lemmas.List.{length-map}
use Rattle.assembly_tree.specs.WellFormed.{is_well_formed}
use Rattle.assembly_tree.specs.declared.assembly.Assembly.{Assembly}
use Rattle.il_base.specs.declared.pos.Pos.{Pos}
use Rattle.il_lexer.specs.Lexing.{Lexes, all_placed, placed}
use Rattle.il_lexer.specs.declared.types.Span.{Span}
use Rattle.il_lexer.specs.declared.types.Token.{Token}
use Rattle.ilasm_grammar.specs.Grammar.{Derives}
use Rattle.ilasm_grammar.specs.Ilasm.{ilasm}
use Rattle.ilasm_grammar.specs.Parsing.{IsTreeOf, terminals_of}
use Rattle.ilasm_grammar.specs.Terminals.{terminal_of}
use Rattle.ilasm_grammar.specs.declared.nonterminals.TheConstants.{SOURCE}
use Rattle.ilasm_grammar.specs.declared.symbol.Symbol.TheVariants.{Nonterminal}
use Rattle.ilasm_grammar.specs.declared.tree.TreeNode.{TreeNode}
use Rattle.ilasm_grammar.specs.declared.productions.TheConstants.{ASSEMBLY_ASSEMBLY_ATTR_STAR}
use Rattle.laws_formed_sources.specs.Laws.{DenotedIsFormed}
use Rattle.check_source.specs.SourceFaults.{BreaksFirst}
use Rattle.check_source.specs.declared.faults.Fault.{Fault}
use Rattle.source_model.specs.BodyFaults.{labels_undeclared, variables_undeclared}
use Rattle.source_model.specs.Classes.{assembly}
use Rattle.source_model.specs.Denotes.{Denotes, HasNameFault, IsRead, broken, broken_n}
use Rattle.source_model.specs.Faults.{IsFaultless, rule_at}
use Rattle.source_model.specs.Forest.{Forest, Part, below_each, has, is_any_part, parts, preorder}
use Rattle.source_model.specs.Laws.{OneMeaning}
use Rattle.source_model.specs.Source.{Source}
use Rattle.source_model.specs.Undeclared.{types_undeclared, scopes_undeclared, objects_undeclared, typars_undeclared, accessors_undeclared, assembly_undeclared, data_undeclared, end_unless_some}
use Rattle.source_model.specs.declared.fault.NameClass.{NameClass}
use Rattle.source_nodes.specs.Readers.{Reads}
use Rattle.source_nodes.specs.declared.reader.Reader.{Reader}
use Rattle.elaborate.specs.Elaborated.{IsCause}
use Rattle.elaborate.specs.declared.name_fault.NameFault.{NameFault}
use Rattle.elaborate.specs.declared.name_fault.NameFault.TheVariants.{Bad, NoMemory}

-- ---- what is read

pub is_read : (r : Reader) (s : Source) → Reads r s → IsRead r.source.now s
is_read r s h = record {
  bytes-are = h.bytes;
  lexes = subst (λ bytes. Lexes bytes s.tokens) h.bytes h.lexes;
  derived = h.derived;
}

abbrev pub source_of : List ℕ → List Token → Forest → Source
source_of bytes tokens f = record { bytes = bytes; tokens = tokens; tree = f }

pub reads : (r : Reader) (bytes : List ℕ) (spans : List Span) (tree : List TreeNode) (f : Forest) → r.source.now ≡ bytes → r.spans.now ≡ spans → r.nodes.now ≡ tree
    → preorder f ≡ tree → Lexes bytes (all_placed bytes spans) → IsTreeOf (all_placed bytes spans) tree → Reads r (source_of bytes (all_placed bytes spans) f)
reads r bytes spans tree f b t n e lexes derives = record {
  bytes = sym b;
  tokens = ap (all_placed bytes) (sym t) ∙ ap (λ x. all_placed x r.spans.now) (sym b);
  nodes = e ∙ sym n;
  lexes = lexes;
  derived = subst (IsTreeOf (all_placed bytes spans)) (sym e) derives;
}

pub few_nodes : ((kinds : List ℕ) (tree : List TreeNode) → Derives ilasm 0 (Nonterminal SOURCE ∷ []) kinds tree → length tree ≤ 7 * length kinds)
    → (bytes : List ℕ) (spans : List Span) (tree : List TreeNode) → length spans ≤ 2 ^ 24 → IsTreeOf (all_placed bytes spans) tree → length tree < 2 ^ 32
few_nodes few bytes spans tree le derives =
    let tokens = all_placed bytes spans in
    omega (arith, le, few (terminals_of tokens) tree derives, length-map tokens (λ (token : Token). terminal_of token.kind), length-map spans (placed bytes))

-- ---- what is answered

module _ (one : OneMeaning) (bytes : List ℕ) where
  pub denoted : (r : Result Assembly NameFault) → IfOk r (Denotes bytes) → IfErr r (IsCause bytes) → (a : Assembly) → Denotes bytes a → (r ≡ Ok a) ⊎ (r ≡ Err NoMemory)
  denoted (Ok b) good bad a h = inl (ap (λ x. Ok x) (one.assembly bytes b a good h))
  denoted (Err NoMemory) good bad a h = inr refl
  denoted (Err (Bad p c k)) good bad a h = absurd (one.apart bytes a p c k h bad)

  pub faulty : (r : Result Assembly NameFault) → IfOk r (Denotes bytes) → IfErr r (IsCause bytes) → (p : Pos) (c : NameClass) (k : ℕ) → HasNameFault bytes p c k
      → (r ≡ Err (Bad p c k)) ⊎ (r ≡ Err NoMemory)
  faulty (Ok b) good bad p c k h = absurd (one.apart bytes b p c k good h)
  faulty (Err NoMemory) good bad p c k h = inr refl
  faulty (Err (Bad q d l)) good bad p c k h =
      let same = one.fault bytes q p d c l k bad h in
      inl (ap (λ x. Err (Bad x d l)) same.0 ∙ ap (λ x. Err (Bad p x l)) same.1 ∙ ap (λ x. Err (Bad p c x)) same.2)

-- ---- a source that breaks no rule has the declaration of its assembly

none_of : {X : Type 0} (xs ys : List X) → xs ++ ys ≡ [] → (xs ≡ []) × (ys ≡ [])
none_of [] ys e = (refl, e)
none_of (x ∷ xs) ys e = absurd cc

nothing_at : (rule : ℕ) (ks : List ℕ) → rule_at rule ks ≡ [] → ks ≡ []
nothing_at rule [] e = refl
nothing_at rule (k ∷ ks) e = absurd cc

some_part : (ps : List Part) (end : ℕ) → end_unless_some (below_each ps) end ≡ [] → is_any_part ps ≡ true
some_part [] end e = absurd cc
some_part (p ∷ ps) end e = refl

module _ (s : Source) where
  declared : broken_n s ≡ [] → assembly_undeclared s ≡ []
  unfolding broken_n
  declared e =
      let before =
      rule_at 1 (types_undeclared s) ++ rule_at 2 (scopes_undeclared s ++ objects_undeclared s) ++ rule_at 3 (labels_undeclared s)
      ++ rule_at 4 (variables_undeclared s) ++ rule_at 5 (typars_undeclared s) ++ rule_at 6 (accessors_undeclared s) in
      let own = rule_at 7 (assembly_undeclared s) in
      nothing_at 7 (assembly_undeclared s) (none_of before own (none_of (before ++ own) (rule_at 8 (data_undeclared s)) e).0).1

  pub has_assembly : IsFaultless (broken s) → has ASSEMBLY_ASSEMBLY_ATTR_STAR s.tree ≡ true
  has_assembly h = some_part (parts (ASSEMBLY_ASSEMBLY_ATTR_STAR ∷ []) s.tree) (length s.tokens) (declared h.1)

-- ---- the first fault, and its cause

pub first_cause : (r : Reader) (s : Source) (f : Fault) → Reads r s → BreaksFirst s f → HasNameFault r.source.now f.pos f.class f.rule
first_cause r s f h b = record { source = s; read = is_read r s h; token = b.token; first = b.first; place = b.place }

pub denotes : (r : Reader) (s : Source) (a : Assembly) → Reads r s → IsFaultless (broken s) → a ≡ assembly s → Denotes r.source.now a
denotes r s a h faultless is = record { source = s; read = is_read r s h; faultless = faultless; is = is }

-- ---- what is answered is well formed

pub formed : DenotedIsFormed → (source : List ℕ) (r : Result Assembly NameFault) → IfOk r (Denotes source) → IfOk r (λ a. IsTrue (is_well_formed a))
formed law source (Ok a) denoted = law source a denoted
formed law source (Err e) denoted = denoted
