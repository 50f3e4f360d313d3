-- Productions of which no rule speaks break none.
use Rattle.std.proofs.Common.{◌≡◌, ℕ, ◌||◌, nat_eq, Bool, true, false, cond, List, [], ◌∷◌, ◌++◌, None, refl, ap, sym, ◌∙◌, arith}
use Rattle.std.proofs.lemmas.Bool.{false≢true}
use Rattle.ilasm_grammar.specs.declared.productions.TheConstants as p
use Rattle.source_model.specs.Forest as f
use Rattle.source_model.specs.Nodes.{Around, Node, nodes_in, entered}
use Rattle.source_model.specs.OutOfRange.{manifest_number_out_of_range, flags_out_of_range, constant_out_of_range, layout_number_out_of_range, data_number_out_of_range, data_too_long, param_out_of_range, barred_arguments, barred_in_property, number_out_of_range_at}
use Rattle.source_model.specs.Source.{Source}
use Rattle.source_model.specs.TypeRules.{type_undeclared_in, scope_undeclared_in, path_too_long_in, number_in_type_out_of_range, typars_out_of_range}
use Rattle.source_model.specs.Names.{written_name}
use Rattle.faultless_nodes.specs.Laws.{BreaksNothing, EachBreaksNothing, asked, UnaskedBreakNothing}

-- a number is none of these, whichever way it is asked
abbrev Apart : ℕ → List ℕ → Type 0
Apart x [] = Unit {0}
Apart x (q ∷ qs) = ((nat_eq q x ≡ false) × (nat_eq x q ≡ false)) × Apart x qs

turned : (j k : ℕ) → nat_eq j k ≡ false → nat_eq k j ≡ false
turned j k h = grind (arith, h)

apart : (x : ℕ) (qs : List ℕ) → f.is_among qs x ≡ false → Apart x qs
apart x [] e = tt
apart x (q ∷ qs) e = let es = neither (nat_eq q x) (f.is_among qs x) e in ((es.0, turned q x es.0), apart x qs es.1)
  where
    neither : (b c : Bool) → (b || c) ≡ false → (b ≡ false) × (c ≡ false)
    neither true c i = absurd (false≢true (sym i))
    neither false c i = (refl, i)

never : {X : Type 0} (b : Bool) → b ≡ false → b ≡ true → X
never b e i = absurd (false≢true (sym e ∙ i))

module _ (s : Source) (n : Node) (e : f.is_among asked n.production ≡ false) where
  h : Apart n.production asked
  h = apart n.production asked e

  no_name : written_name n.production n.below ≡ None
  no_name = simp (h.0.1, h.1.0.1, h.1.1.0.1, h.1.1.1.0.1, h.1.1.1.1.0.1, h.1.1.1.1.1.0.1)

  no_manifest : manifest_number_out_of_range s n ≡ []
  no_manifest = simp (h.1.1.1.1.1.1.1.1.1.1.0.1, h.1.1.1.1.1.1.1.1.1.1.1.0.1, h.1.1.1.1.1.1.1.1.1.1.1.1.0.1, h.1.1.1.1.1.1.1.1.1.1.1.1.1.0.1, h.1.1.1.1.1.1.1.1.1.1.1.1.1.1.0.1, h.1.1.1.1.1.1.1.1.1.1.1.1.1.1.1.0.1, h.1.1.1.1.1.1.1.1.1.1.1.1.1.1.1.1.0.1)

  no_flags : flags_out_of_range s n ≡ []
  no_flags = simp (h.1.1.1.1.1.1.1.1.1.1.1.1.1.1.1.1.1.0.1, h.1.1.1.1.1.1.1.1.1.1.1.1.1.1.1.1.1.1.0.1, h.1.1.1.1.1.1.1.1.1.1.1.1.1.1.1.1.1.1.1.0.1, h.1.1.1.1.1.1.1.1.1.1.1.1.1.1.1.1.1.1.1.1.0.0, h.1.1.1.1.1.1.1.1.1.1.1.1.1.1.1.1.1.1.1.1.1.0.0, h.1.1.1.1.1.1.1.1.1.1.1.1.1.1.1.1.1.1.1.1.1.1.0.0, h.1.1.1.1.1.1.1.1.1.1.1.1.1.1.1.1.1.1.1.1.1.1.1.0.0, h.1.1.1.1.1.1.1.1.1.1.1.1.1.1.1.1.1.1.1.1.1.1.1.1.0.0)

  no_constant : constant_out_of_range s n ≡ []
  no_constant = simp (h.1.1.1.1.1.1.1.1.1.1.1.1.1.1.1.1.1.1.1.1.1.1.1.1.1.0.1, h.1.1.1.1.1.1.1.1.1.1.1.1.1.1.1.1.1.1.1.1.1.1.1.1.1.1.0.1, h.1.1.1.1.1.1.1.1.1.1.1.1.1.1.1.1.1.1.1.1.1.1.1.1.1.1.1.0.1, h.1.1.1.1.1.1.1.1.1.1.1.1.1.1.1.1.1.1.1.1.1.1.1.1.1.1.1.1.0.1)

  no_layout : layout_number_out_of_range s n ≡ []
  no_layout = simp (h.1.1.1.1.1.1.1.1.1.1.1.1.1.1.1.1.1.1.1.1.1.1.1.1.1.1.1.1.1.0.1, h.1.1.1.1.1.1.1.1.1.1.1.1.1.1.1.1.1.1.1.1.1.1.1.1.1.1.1.1.1.1.0.1, h.1.1.1.1.1.1.1.1.1.1.1.1.1.1.1.1.1.1.1.1.1.1.1.1.1.1.1.1.1.1.1.0.1)

  no_data : data_number_out_of_range s n ≡ []
  no_data = simp (h.1.1.1.1.1.1.1.1.1.1.1.1.1.1.1.1.1.1.1.1.1.1.1.1.1.1.1.1.1.1.1.1.0.1)

  no_length : data_too_long s n ≡ []
  no_length = simp (h.1.1.1.1.1.1.1.1.1.1.1.1.1.1.1.1.1.1.1.1.1.1.1.1.1.1.1.1.1.1.1.1.1.0.1)

  no_param : param_out_of_range s n ≡ []
  no_param = simp (h.1.1.1.1.1.1.1.1.1.1.1.1.1.1.1.1.1.1.1.1.1.1.1.1.1.1.1.1.1.1.1.1.1.1.0.1, h.1.1.1.1.1.1.1.1.1.0.1, h.1.1.1.1.1.1.1.1.0.1)

  no_arguments : barred_arguments n ≡ []
  no_arguments = simp (h.1.1.1.1.1.1.1.1.1.1.1.1.1.1.1.1.1.1.1.1.1.1.1.1.1.1.1.1.1.1.1.1.1.1.1.0.0, h.1.1.1.1.1.1.1.1.1.1.1.1.1.1.1.1.1.1.1.1.1.1.1.1.1.1.1.1.1.1.1.1.1.1.1.1.0.0, h.1.1.1.1.1.1.1.1.1.1.1.1.1.1.1.1.1.1.1.1.1.1.1.1.1.1.1.1.1.1.1.1.1.1.1.1.1.0.0, h.1.1.1.1.1.1.1.1.1.1.1.1.1.1.1.1.1.1.1.1.1.1.1.1.1.1.1.1.1.1.1.1.1.1.1.1.1.1.0.0, h.1.1.1.1.1.1.1.1.1.1.1.1.1.1.1.1.1.1.1.1.1.1.1.1.1.1.1.1.1.1.1.1.1.1.1.1.1.1.1.0.0, h.1.1.1.1.1.1.1.1.1.1.1.1.1.1.1.1.1.1.1.1.1.1.1.1.1.1.1.1.1.1.1.1.1.1.1.1.1.1.1.1.0.0, h.1.1.1.1.1.1.1.1.1.1.1.1.1.1.1.1.1.1.1.1.1.1.1.1.1.1.1.1.1.1.1.1.1.1.1.1.1.1.1.1.1.0.0, h.1.1.1.1.1.1.1.1.1.1.1.1.1.1.1.1.1.1.1.1.1.1.1.1.1.1.1.1.1.1.1.1.1.1.1.1.1.1.1.1.1.1.0.0, h.1.1.1.1.1.1.1.1.1.1.1.1.1.1.1.1.1.1.1.1.1.1.1.1.1.1.1.1.1.1.1.1.1.1.1.1.1.1.1.1.1.1.1.0.0)

  no_property : barred_in_property n ≡ []
  no_property = simp (h.1.1.1.1.1.1.1.1.1.1.1.1.1.1.1.1.1.1.1.1.1.1.1.1.1.1.1.1.1.1.1.1.1.1.1.1.1.1.1.1.1.1.1.1.0.1)

  no_type : number_in_type_out_of_range s n ≡ []
  no_type = simp (h.1.1.1.1.1.1.0.1, h.1.1.1.1.1.1.1.0.1, h.1.1.1.1.1.1.1.1.1.1.1.1.1.1.1.1.1.1.1.1.1.1.1.1.1.1.1.1.1.1.1.1.1.1.1.1.1.1.1.1.1.1.1.1.1.0.1, h.1.1.1.1.1.1.1.1.1.1.1.1.1.1.1.1.1.1.1.1.1.1.1.1.1.1.1.1.1.1.1.1.1.1.1.1.1.1.1.1.1.1.1.1.1.1.0.1, h.1.1.1.1.1.1.1.1.1.1.1.1.1.1.1.1.1.1.1.1.1.1.1.1.1.1.1.1.1.1.1.1.1.1.1.1.1.1.1.1.1.1.1.1.1.1.1.0.1, h.1.1.1.1.1.1.1.1.1.1.1.1.1.1.1.1.1.1.1.1.1.1.1.1.1.1.1.1.1.1.1.1.1.1.1.1.1.1.1.1.1.1.1.1.1.1.1.1.0.1, h.1.1.1.1.1.1.1.1.1.1.1.1.1.1.1.1.1.1.1.1.1.1.1.1.1.1.1.1.1.1.1.1.1.1.1.1.1.1.1.1.1.1.1.1.1.1.1.1.1.0.1, h.1.1.1.1.1.1.1.1.1.1.1.1.1.1.1.1.1.1.1.1.1.1.1.1.1.1.1.1.1.1.1.1.1.1.1.1.1.1.1.1.1.1.1.1.1.1.1.1.1.1.0.1)

  no_typars : typars_out_of_range n ≡ []
  no_typars = simp (h.1.1.1.1.1.1.1.1.1.1.1.1.1.1.1.1.1.1.1.1.1.1.1.1.1.1.1.1.1.1.1.1.1.1.1.1.1.1.1.1.1.1.1.1.1.1.1.1.1.1.1.0.1)

  no_number : number_out_of_range_at s n ≡ []
  no_number i =
      no_manifest i ++ no_flags i ++ no_constant i ++ no_layout i ++ no_data i ++ no_length i ++ no_param i ++ no_arguments i ++ no_property i ++ no_type i ++ no_typars i

  breaks_nothing : BreaksNothing s n
  breaks_nothing = record {
    types = ap (type_undeclared_in s) no_name;
    scopes = ap (scope_undeclared_in s) no_name;
    typars = simp (h.1.1.1.1.1.1.0.1, h.1.1.1.1.1.1.1.0.1);
    param_types = simp (h.1.1.1.1.1.1.1.1.0.1, h.1.1.1.1.1.1.1.1.1.0.1);
    numbers = no_number;
    depth = simp (h.1.1.1.1.1.1.1.1.1.1.1.1.1.1.1.1.1.1.1.1.1.1.1.1.1.1.1.1.1.1.1.1.1.1.1.1.1.1.1.1.1.1.1.1.1.1.1.1.1.1.1.1.0.1);
    nesting = simp (h.1.1.1.1.1.1.1.1.1.1.1.1.1.1.1.1.1.1.1.1.1.1.1.1.1.1.1.1.1.1.1.1.1.1.1.1.1.1.1.1.1.1.1.1.1.1.1.1.1.1.1.1.1.0.1);
    paths = ap path_too_long_in no_name;
    class = λ i. never (f.is_among (p.CLASS ∷ []) n.production) (simp (h.1.1.1.1.1.1.1.1.1.1.1.1.1.1.1.1.1.1.1.1.1.1.1.1.1.1.1.1.1.1.1.1.1.1.1.1.1.1.1.1.1.1.1.1.1.1.1.1.1.1.1.1.1.0.0)) i;
    field = λ i. never (f.is_among (p.FIELD ∷ []) n.production) (simp (h.1.1.1.1.1.1.1.1.1.1.1.1.1.1.1.1.1.1.1.1.1.1.1.1.1.1.1.1.1.1.1.0.0)) i;
    label = λ i. never (f.is_among (p.AT_NAME ∷ []) n.production) (simp (h.1.1.1.1.1.1.1.1.1.1.1.1.1.1.1.1.1.1.1.1.1.1.1.1.1.1.1.1.1.1.1.1.1.1.1.1.1.1.1.1.1.1.1.1.1.1.1.1.1.1.1.1.1.1.0.0)) i;
    accessors = λ i. never (f.is_among (p.PROPERTY ∷ p.EVENT ∷ []) n.production) (simp (h.1.1.1.1.1.1.1.1.1.1.1.1.1.1.1.1.1.1.1.1.1.1.1.1.1.1.1.1.1.1.1.1.1.1.1.1.1.1.1.1.1.1.1.1.0.0, h.1.1.1.1.1.1.1.1.1.1.1.1.1.1.1.1.1.1.1.1.1.1.1.1.1.1.1.1.1.1.1.1.1.1.1.1.1.1.1.1.1.1.1.1.1.1.1.1.1.1.1.1.1.1.1.0.0)) i;
    method = λ i. never (f.is_among (p.METHOD ∷ []) n.production) (simp (h.1.1.1.1.1.1.1.1.1.1.1.1.1.1.1.1.1.1.1.1.1.1.1.1.1.1.1.1.1.1.1.1.1.1.1.1.1.1.1.1.1.1.1.1.1.1.1.1.1.1.1.1.1.1.1.1.0.0)) i;
  }

-- ---- forests

each_join : (s : Source) (xs ys : List Node) → EachBreaksNothing s xs → EachBreaksNothing s ys → EachBreaksNothing s (xs ++ ys)
each_join s [] ys h k = k
each_join s (x ∷ xs) ys h k = (h.0, each_join s xs ys h.1 k)

empty_front : (xs ys : List f.Part) → (xs ++ ys) ≡ [] → (xs ≡ []) × (ys ≡ [])
empty_front [] ys h = (refl, h)
empty_front (x ∷ xs) ys h = absurd cc

forest_quiet : (s : Source) (a : Around) (g : f.Forest) → f.parts asked g ≡ [] → EachBreaksNothing s (nodes_in s a g)
forest_quiet s a f.none h = tt
forest_quiet s a (f.leaf k after) h = forest_quiet s a after h
forest_quiet s a (f.branch q b after) h =
    by (f.is_among asked q) refl h (λ i. forest_quiet s (entered s a q b) b i) (λ i. forest_quiet s a after i)
  where
    by : (c : Bool) → f.is_among asked q ≡ c → (cond c (f.part q b ∷ []) (f.parts asked b) ++ f.parts asked after) ≡ [] →
        (f.parts asked b ≡ [] → EachBreaksNothing s (nodes_in s (entered s a q b) b)) → (f.parts asked after ≡ [] → EachBreaksNothing s (nodes_in s a after)) →
        EachBreaksNothing s (nodes_in s a (f.branch q b after))
    by true e i inside behind = absurd cc
    by false e i inside behind =
        let es = empty_front (f.parts asked b) (f.parts asked after) i in
        let own : Node = record { production = q; below = b; around = entered s a q b } in
        (breaks_nothing s own e, each_join s (nodes_in s (entered s a q b) b) (nodes_in s a after) (inside es.0) (behind es.1))

pub unasked_break_nothing : UnaskedBreakNothing
unasked_break_nothing = record {
  node = λ s n e. breaks_nothing s n e;
  forest = forest_quiet;
  branch = λ s a q below after own inside behind. (own, each_join s (nodes_in s (entered s a q below) below) (nodes_in s a after) inside behind);
}
