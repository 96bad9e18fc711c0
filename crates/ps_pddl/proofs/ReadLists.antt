-- Lists of typed names and declarations that are read: their names stand in the table, and may stand there.
use Rattle.std.proofs.Common.{◌≡◌, ℕ, nat_le, ◌<◌, Bool, true, false, All, List, [], ◌∷◌, ◌++◌, drop, find, length, Option, Some, None, Ok, Err, refl, ap, subst}
use Rattle.std.specs.Bool.{if◌then◌else◌}
use Rattle.std.specs.List.{list_any}
use Rattle.std.proofs.lemmas.List.Elements.{All-drop, All-filter, All-nil, All-push, All-weaker}
use Rattle.ps_world.specs.Names.{same_name, Table}
use Rattle.ps_world.specs.Knowledge.{is_type}
use Rattle.ps_world.specs.declared.names.Name.{Name}
use Rattle.ps_world.specs.declared.domains.Param.{Param}
use Rattle.ps_world.specs.declared.domains.Decl.{Decl}
use Rattle.ps_world.specs.declared.domains.Domain.{Domain}
use Rattle.ps_grammar.specs.Marks.{is, is_name, is_predicate_name}
use Rattle.ps_grammar.specs.declared.marks.Mark.{Mark}
use Rattle.ps_grammar.specs.declared.marks.Mark.TheVariants as mark
use Rattle.ps_lists.specs.Grammar.{AreFunctions, ArePredicates, IsDecl}
use Rattle.ps_lists.specs.TypedLists.{IsRun, IsTypedList, is_variable}
use Rattle.ps_lists.specs.TypedLists as list_of_names
use Rattle.ps_lists.specs.Grammar as grammar
use Rattle.ps_lists.specs.Nested.{Nested, Nesteds, word, none, more}
use Rattle.ps_lists.specs.Places.{head, word_of}
use Rattle.ps_lists.specs.declared.lexemes.Lexeme.{Lexeme}
use Rattle.ps_print.specs.CanonicalWords.{IsDeclOf, IsNameOf, IsParamOf}
use Rattle.ps_pddl.specs.Lists.{binding, counts, kept, kind_ahead, listed, listed_type, with_name}
use Rattle.ps_pddl.specs.Meaning as meaning
use Rattle.ps_conditions.specs.Steps.{◌>>=◌}
use Rattle.ps_pddl.specs.Types.{acyclic, is_cyclic, names_of, with_types}
use Rattle.ps_pddl.specs.declared.meaning.lists.Listing.{Listing}
use Rattle.ps_pddl.specs.declared.meaning.lists.Listing.TheVariants.{Bound, Params, Types}
use Rattle.ps_pddl.specs.declared.refusals.Cap.{Cap}
use Rattle.ps_pddl.specs.declared.refusals.DomainRefusal.TheVariants.{Limit, Twice, Unknown}
use Rattle.ps_pddl.proofs.Fits.{FitParams, FitsPredicate, IsVariableName}
use Rattle.ps_pddl.proofs.ReadMarks.{no_sound, predicate-is_name, yes_sound}
use Rattle.ps_pddl.proofs.ReadNames.{IsTold, AllTold, AreTold}
use Rattle.ps_pddl.proofs.ReadValues.{word_below}
use Rattle.ps_pddl.proofs.Sound.{Sound, also_sound, either_sound, then_sound, unless_sound}
use Rattle.ps_pddl.proofs.SoundLists.{Adds, name_adds}
use Rattle.ps_pddl.proofs.MeanMarks.{isnt-by}

-- a mark that is a variable
variable_mark : (m : Mark) → is_variable m ≡ true → m ≡ mark.Variable
variable_mark mark.Variable e = refl
variable_mark m e = absurd (cc)

module _ (after : Table) (first : 0 < length after) where
  head_below : (ts : Nesteds) → AreTold after ts → (head ts).name.0 < length after
  head_below none h = first
  head_below (more t ts) h = word_below after first t h.0

  either_below : (b : Bool) (m n : Name) → m.0 < length after → n.0 < length after → (if b then m else n).0 < length after
  either_below true m n h k = h
  either_below false m n h k = k

  -- the type of a run stands in the table
  kind_below : (ts : Nesteds) → AreTold after ts → (kind_ahead ts).0 < length after
  kind_below none h = first
  kind_below (more t ts) h = either_below (is mark.Minus (word_of t).mark) (head ts).name (kind_ahead ts) (head_below ts h.1) (kind_below ts h.1)

  -- ---- a list

  module _ (d : Domain) (listing : Listing) (Q : Name → Type 0) where
    -- a name of this kind, with a type in the table
    abbrev IsParamHere : Param → Type 0
    IsParamHere p = Q p.name × IsNameOf (length after) p.kind

    name_here : (l : Lexeme) (kind : Name) (before : List Param) → Q l.name → kind.0 < length after → All IsParamHere before → Sound (All IsParamHere) (with_name listing l kind before)
    name_here l kind before q lt h =
        let p : Param = record { name = l.name; kind = kind } in
        also_sound (Adds before l kind) (All IsParamHere) (with_name listing l kind before) (name_adds listing l kind before) (λ all e. rw e (All-push IsParamHere before p h (q, lt)))

    module _ (fits : Mark → Bool) (no_minus : fits mark.Minus ≡ false) (told : (l : Lexeme) → IsTold after l → fits l.mark ≡ true → Q l.name) where
      one_name : (l : Lexeme) (ts : Nesteds) (before : List Param) → fits l.mark ≡ true → IsTold after l → AreTold after ts → ((all : List Param) → All IsParamHere all → Sound (All IsParamHere) (listed d listing ts all)) → All IsParamHere before → Sound (All IsParamHere) (listed d listing (more (word l) ts) before)
      one_name l ts before m h k ih all =
          no_sound (All IsParamHere) (is mark.Minus l.mark) (listed_type d listing ts before) (with_name listing l (kind_ahead ts) before >>= λ x. listed d listing ts x) (isnt-by fits mark.Minus l.mark m no_minus)
          (then_sound (All IsParamHere) (All IsParamHere) (with_name listing l (kind_ahead ts) before) (λ x. listed d listing ts x) (name_here l (kind_ahead ts) before (told l h m) (kind_below ts k) all) (λ x p. ih x p))

      mutual
        list_here : (ts : Nesteds) (before : List Param) → IsTypedList fits ts → AreTold after ts → All IsParamHere before → Sound (All IsParamHere) (listed d listing ts before)
        list_here _ before (list_of_names.no_name _) h all = all
        list_here _ before (list_of_names.first_name _ l ts m r) h all = one_name l ts before m h.0 h.1 (λ x p. run_here ts x r h.1 p) all

        run_here : (ts : Nesteds) (before : List Param) → IsRun fits ts → AreTold after ts → All IsParamHere before → Sound (All IsParamHere) (listed d listing ts before)
        run_here _ before (list_of_names.run_end _) h all = all
        run_here _ before (list_of_names.next_name _ l ts m r) h all = one_name l ts before m h.0 h.1 (λ x p. run_here ts x r h.1 p) all
        run_here _ before (list_of_names.type_name _ l k ts m n r) h all =
            yes_sound (All IsParamHere) (is mark.Minus l.mark) (listed_type d listing (more (word k) ts) before) (with_name listing l (kind_ahead (more (word k) ts)) before >>= λ x. listed d listing (more (word k) ts) x) (ap (is mark.Minus) m)
            (either_sound (All IsParamHere) (is_type d k.name) (listed d listing ts before) (Err (Unknown k.at k.name)) (λ e. list_here ts before r h.1.1 all) (λ e. tt))

  -- names with types that stand in the table
  pub names_here : (d : Domain) (listing : Listing) (ts : Nesteds) → IsTypedList is_name ts → AreTold after ts → Sound (All (IsParamOf (length after))) (listed d listing ts [])
  names_here d listing ts g h = list_here d listing (IsNameOf (length after)) is_name refl (λ l k m. k.below) ts [] g h (All-nil (IsParamOf (length after)))

  -- parameters that stand in the table, and may be variables
  abbrev pub AreParamsHere : List Param → Type 0
  AreParamsHere ps = All (IsParamOf (length after)) ps × FitParams after ps

  params_after : (d : Domain) (listing : Listing) (ts : Nesteds) (before : List Param) → IsTypedList is_variable ts → AreTold after ts → AreParamsHere before → Sound AreParamsHere (listed d listing ts before)
  params_after d listing ts before g h k =
      let IsHere : Param → Type 0 = λ p. (IsNameOf (length after) p.name × IsVariableName after p.name) × IsNameOf (length after) p.kind in
      also_sound (All IsHere) AreParamsHere (listed d listing ts before)
      (list_here d listing (λ n. IsNameOf (length after) n × IsVariableName after n) is_variable refl (λ l k m. (k.below, k.variable (variable_mark l.mark m))) ts before g h (λ i x lt. (((k.0 i x lt).0, k.1 i x lt), (k.0 i x lt).1)))
      (λ ps p. (All-weaker IsHere (IsParamOf (length after)) (λ x q. (q.0.0, q.1)) ps p, All-weaker IsHere (λ x. IsVariableName after x.name) (λ x q. q.0.1) ps p))

  pub params_here : (d : Domain) (ts : Nesteds) → IsTypedList is_variable ts → AreTold after ts → Sound AreParamsHere (listed d Params ts [])
  params_here d ts g h = params_after d Params ts [] g h (All-nil (IsParamOf (length after)), All-nil (λ (p : Param). IsVariableName after p.name))

  -- so may the variables that a list binds, after others that may
  pub binding_here : (d : Domain) (most : ℕ) (ps : List Param) (ts : Nesteds) → IsTypedList is_variable ts → AreTold after ts → AreParamsHere ps → Sound AreParamsHere (binding d most ps ts)
  binding_here d most ps ts g h k =
      then_sound AreParamsHere AreParamsHere (listed d (Bound most) ts ps) (λ all. Ok (drop (length ps) all)) (params_after d (Bound most) ts ps g h k)
      (λ all p. (All-drop (IsParamOf (length after)) (length ps) all p.0, All-drop (λ (p : Param). IsVariableName after p.name) (length ps) all p.1))

  -- ---- types

  -- a domain whose name and types stand in the table
  abbrev pub HasTypesHere : Domain → Type 0
  HasTypesHere d = IsNameOf (length after) d.name × All (IsParamOf (length after)) d.types

  acyclic_here : (d : Domain) (o : Option Param) → HasTypesHere d → Sound HasTypesHere (acyclic d o)
  acyclic_here d None h = h
  acyclic_here d (Some p) h = tt

  pub types_here : (n : Name) (ts : Nesteds) → IsNameOf (length after) n → IsTypedList is_name ts → AreTold after ts → Sound HasTypesHere (with_types (meaning.bare n) ts)
  types_here n ts lt g h =
      let named : Domain = record (meaning.bare n) { types = names_of ts [] } in
      let typed : List Param → Domain = λ all. record (meaning.bare n) { types = kept Types all } in
      then_sound (All (IsParamOf (length after))) HasTypesHere (listed named Types ts []) (λ all. acyclic (typed all) (find (is_cyclic (typed all)) (kept Types all)))
      (names_here named Types ts g h)
      (λ all p. acyclic_here (typed all) (find (is_cyclic (typed all)) (kept Types all)) (lt, All-filter (counts Types) (IsParamOf (length after)) all p))

  -- ---- declarations

  module _ (d : Domain) (which : Cap) (P : Decl → Type 0) where
    declared_here : (l : Lexeme) (ts : Nesteds) (before : List Decl) → ((ps : List Param) → AreParamsHere ps → P (record { name = l.name; params = ps })) → IsTypedList is_variable ts → AreTold after ts → All P before → Sound (All P) (meaning.declared d which (more (word l) ts) before)
    declared_here l ts before made g h all =
        unless_sound (All P) (nat_le 256 (length before)) (list_any (λ decl. same_name l.name decl.name) before) (Limit l.at which) (Twice l.at l.name)
        (listed d Params ts [] >>= λ ps. Ok (before ++ record { name = l.name; params = ps } ∷ []))
        (λ few new. then_sound AreParamsHere (All P) (listed d Params ts []) (λ ps. Ok (before ++ record { name = l.name; params = ps } ∷ [])) (params_here d ts g h)
        (λ ps p. All-push P before (record { name = l.name; params = ps }) all (made ps p)))

    decl_here : (fits : Mark → Bool) (t : Nested) (ts : Nesteds) (before : List Decl) → IsDecl fits t → ((l : Lexeme) → fits l.mark ≡ true → IsTold after l → (ps : List Param) → AreParamsHere ps → P (record { name = l.name; params = ps })) → AllTold after t → All P before → ((all : List Decl) → All P all → Sound (All P) (meaning.all_declared d which ts all)) → Sound (All P) (meaning.all_declared d which (more t ts) before)
    decl_here _ _ ts before (grammar.decl fits l us m g) made h all ih =
        then_sound (All P) (All P) (meaning.declared d which (more (word l) us) before) (λ x. meaning.all_declared d which ts x) (declared_here l us before (made l m h.0) g h.1 all) ih

  -- a predicate that stands in the table, and may stand there
  abbrev pub IsPredicateHere : Decl → Type 0
  IsPredicateHere decl = IsDeclOf (length after) decl × FitsPredicate after decl

  predicate_here : (l : Lexeme) → is_predicate_name l.mark ≡ true → IsTold after l → (ps : List Param) → AreParamsHere ps → IsPredicateHere (record { name = l.name; params = ps })
  predicate_here l m h ps p = ((h.below, p.0), record { head = subst (λ (x : Mark). is_predicate_name x ≡ true) (h.named (predicate-is_name l.mark m)) m; params = p.1 })

  pub predicates_here : (d : Domain) (which : Cap) (ts : Nesteds) (before : List Decl) → ArePredicates ts → AreTold after ts → All IsPredicateHere before → Sound (All IsPredicateHere) (meaning.all_declared d which ts before)
  predicates_here d which _ before grammar.no_predicate h all = all
  predicates_here d which _ before (grammar.one_predicate t ts one r) h all =
      decl_here d which IsPredicateHere is_predicate_name t ts before one predicate_here h.0 all (λ x p. predicates_here d which ts x r h.1 p)

  -- a function that stands in the table, and may stand there
  abbrev pub IsFunctionHere : Decl → Type 0
  IsFunctionHere decl = IsDeclOf (length after) decl × FitParams after decl.params

  function_here : (l : Lexeme) → is_name l.mark ≡ true → IsTold after l → (ps : List Param) → AreParamsHere ps → IsFunctionHere (record { name = l.name; params = ps })
  function_here l m h ps p = ((h.below, p.0), p.1)

  pub functions_here : (d : Domain) (which : Cap) (ts : Nesteds) (before : List Decl) → AreFunctions ts → AreTold after ts → All IsFunctionHere before → Sound (All IsFunctionHere) (meaning.all_declared d which ts before)
  functions_here d which _ before grammar.no_function h all = all
  functions_here d which _ before (grammar.one_function t ts one r) h all =
      decl_here d which IsFunctionHere is_name t ts before one function_here h.0 all (λ x p. functions_here d which ts x r h.1 p)
  functions_here d which _ before (grammar.typed_function t l k ts one m n r) h all =
      decl_here d which IsFunctionHere is_name t (more (word l) (more (word k) ts)) before one function_here h.0 all (λ x p. functions_here d which ts x r h.1.1.1 p)
