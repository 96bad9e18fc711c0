-- A domain that was read: its names stand in the table, and the grammar takes its canonical text.
use Rattle.std.proofs.Common.{◌≡◌, ℕ, ◌<◌, true, All, List, [], length, Ok, sym, subst, inl, inr, arith}
use Rattle.std.proofs.lemmas.Bool.{cases_Bool}
use Rattle.std.proofs.lemmas.List.Elements.{All-nil, All-weaker}
use denote.Enum.Bare.{same_true}
use Rattle.ps_world.specs.Names.{Table}
use Rattle.ps_world.specs.declared.names.Name.{Name}
use Rattle.ps_world.specs.declared.domains.Domain.{Domain}
use Rattle.ps_world.specs.declared.actions.ActionDef.{ActionDef}
use Rattle.ps_text.specs.Names.{AreNames}
use Rattle.ps_grammar.specs.Marks.{is, is_name}
use Rattle.ps_grammar.specs.contracts.marks.Mark.{the_type}
use Rattle.ps_grammar.specs.declared.marks.Mark.{Mark}
use Rattle.ps_grammar.specs.declared.marks.Mark.TheVariants as mark
use Rattle.ps_grammar.specs.Symbols.{none_seen}
use Rattle.ps_grammar.specs.declared.symbols.Seen.{Seen}
use Rattle.ps_lists.specs.Grammar.{AreFunctions, ArePredicates, AreSections, IsActionBody, IsText}
use Rattle.ps_lists.specs.TypedLists.{IsTypedList}
use Rattle.ps_lists.specs.TypedLists.IsTypedList.{no_name}
use Rattle.ps_lists.specs.Grammar as grammar
use Rattle.ps_lists.specs.Nested.{Nested, Nesteds, word, group, none, more}
use Rattle.ps_lists.specs.Places.{head, items, rest, section}
use Rattle.ps_lists.specs.Spelling.{SpellAll}
use Rattle.ps_lists.specs.declared.lexemes.Lexeme.{Lexeme}
use Rattle.ps_print.specs.CanonicalWords.{IsActionOf, IsDeclOf, IsDomainOf, IsNameOf, IsParamOf}
use Rattle.ps_pddl.specs.Lists.{listed}
use Rattle.ps_pddl.specs.Meaning as meaning
use Rattle.ps_pddl.specs.Meaning.{domain_of}
use Rattle.ps_pddl.specs.Reading.{HasWords}
use Rattle.ps_conditions.specs.Steps.{◌>>=◌}
use Rattle.ps_pddl.specs.Types.{with_types}
use Rattle.ps_pddl.specs.declared.meaning.lists.Listing.TheVariants.{Constants}
use Rattle.ps_pddl.specs.declared.refusals.Cap.TheVariants as cap
use Rattle.ps_pddl.proofs.Fits.{FitParams, FitsAction, FitsDomain, FitsPredicate}
use Rattle.ps_pddl.proofs.ReadActions.{IsActionHere, action_here}
use Rattle.ps_pddl.proofs.ReadLists.{HasTypesHere, IsFunctionHere, IsPredicateHere, functions_here, names_here, predicates_here, types_here}
use Rattle.ps_pddl.proofs.ReadMarks.{no_has, yes_has}
use Rattle.ps_pddl.proofs.ReadNames.{AllTold, AreTold, first_below, lists_told, names_after}
use Rattle.ps_pddl.proofs.Sound.{Sound, either_sound, then_sound}

-- ---- sections

-- what follows a keyword in its section
abbrev IsBody : Mark → Nesteds → Type 0
IsBody mark.Types ts = IsTypedList is_name ts
IsBody mark.Constants ts = IsTypedList is_name ts
IsBody mark.Predicates ts = ArePredicates ts
IsBody mark.Functions ts = AreFunctions ts
IsBody mark.DurativeAction ts = IsActionBody 62 ts
IsBody m ts = Unit {0}

-- each section is so
abbrev AreBodies : Nesteds → Type 0
AreBodies none = Unit {0}
AreBodies (more t ts) = IsBody (head (items t)).mark (rest (items t)) × AreBodies ts

sections_are : (seen : Seen) (ts : Nesteds) → AreSections seen ts → AreBodies ts
sections_are _ _ (grammar.no_section seen) = tt
sections_are _ _ (grammar.requirements seen k ts us m new g r) = (subst (λ (x : Mark). IsBody x ts) (sym m) tt, sections_are (record seen { requirements = true }) us r)
sections_are _ _ (grammar.types seen k ts us m new g r) = (subst (λ (x : Mark). IsBody x ts) (sym m) g, sections_are (record seen { types = true }) us r)
sections_are _ _ (grammar.constants seen k ts us m new g r) = (subst (λ (x : Mark). IsBody x ts) (sym m) g, sections_are (record seen { constants = true }) us r)
sections_are _ _ (grammar.predicates seen k ts us m new g r) = (subst (λ (x : Mark). IsBody x ts) (sym m) g, sections_are (record seen { predicates = true }) us r)
sections_are _ _ (grammar.functions seen k ts us m new g r) = (subst (λ (x : Mark). IsBody x ts) (sym m) g, sections_are (record seen { functions = true }) us r)
sections_are _ _ (grammar.action seen k ts us m g r) = (subst (λ (x : Mark). IsBody x ts) (sym m) g, sections_are seen us r)

module _ (after : Table) (first : 0 < length after) where
  body_told : (t : Nested) → AllTold after t → AreTold after (rest (items t))
  body_told (word l) h = tt
  body_told (group none) h = tt
  body_told (group (more t ts)) h = h.1

  -- the words and the grammar of what a section has
  abbrev IsSectionHere : Mark → Nesteds → Type 0
  IsSectionHere m ts = IsBody m ts × AreTold after ts

  section_here : (m : Mark) (ts : Nesteds) → IsBody m none → AreBodies ts → AreTold after ts → IsSectionHere m (section m ts)
  section_here m none empty g h = (empty, tt)
  section_here m (more t ts) empty g h =
      let here : Mark = (head (items t)).mark in
      elim (cases_Bool (is m here)) [
        | inl e ↦ yes_has (IsSectionHere m) (is m here) (rest (items t)) (section m ts) e (subst (λ (x : Mark). IsBody x (rest (items t))) (same_true the_type tt here m e) g.0, body_told t h.0)
        | inr e ↦ no_has (IsSectionHere m) (is m here) (rest (items t)) (section m ts) e (section_here m ts empty g.1 h.1)
      ]

  actions_here : (d : Domain) (ts : Nesteds) (before : List ActionDef) → AreBodies ts → AreTold after ts → All (IsActionHere after first d) before → Sound (All (IsActionHere after first d)) (meaning.actions d ts before)
  actions_here d none before g h all = all
  actions_here d (more t ts) before g h all =
      let here : Mark = (head (items t)).mark in
      let AreHere : List ActionDef → Type 0 = λ x. All (IsActionHere after first d) x in
      either_sound AreHere (is mark.DurativeAction here) (meaning.action d (rest (items t)) before >>= λ x. meaning.actions d ts x) (meaning.actions d ts before)
      (λ e. then_sound AreHere AreHere (meaning.action d (rest (items t)) before) (λ x. meaning.actions d ts x)
      (action_here after first d 62 (rest (items t)) before (subst (λ (x : Mark). IsBody x (rest (items t))) (same_true the_type tt here mark.DurativeAction e) g.0) (omega arith) (body_told t h.0) all)
      (λ x p. actions_here d ts x g.1 h.1 p))
      (λ e. actions_here d ts before g.1 h.1 all)

  -- ---- what is read so far

  abbrev HasConstantsHere : Domain → Type 0
  HasConstantsHere d = HasTypesHere after first d × All (IsParamOf (length after)) d.constants

  abbrev HasPredicatesHere : Domain → Type 0
  HasPredicatesHere d = HasConstantsHere d × All (IsPredicateHere after first) d.predicates

  abbrev HasFunctionsHere : Domain → Type 0
  HasFunctionsHere d = HasPredicatesHere d × All (IsFunctionHere after first) d.functions

  abbrev IsDomainHere : Domain → Type 0
  IsDomainHere d = IsDomainOf (length after) d × FitsDomain after d

  with_constants_here : (d : Domain) (ts : Nesteds) → IsSectionHere mark.Constants ts → HasTypesHere after first d → Sound HasConstantsHere (meaning.with_constants d ts)
  with_constants_here d ts g h =
      then_sound (All (IsParamOf (length after))) HasConstantsHere (listed d Constants ts []) (λ x. Ok (record d { constants = x })) (names_here after first d Constants ts g.0 g.1) (λ x p. (h, p))

  with_predicates_here : (d : Domain) (ts : Nesteds) → IsSectionHere mark.Predicates ts → HasConstantsHere d → Sound HasPredicatesHere (meaning.with_predicates d ts)
  with_predicates_here d ts g h =
      then_sound (All (IsPredicateHere after first)) HasPredicatesHere (meaning.all_declared d cap.Predicates ts []) (λ x. Ok (record d { predicates = x }))
      (predicates_here after first d cap.Predicates ts [] g.0 g.1 (All-nil (IsPredicateHere after first))) (λ x p. (h, p))

  with_functions_here : (d : Domain) (ts : Nesteds) → IsSectionHere mark.Functions ts → HasPredicatesHere d → Sound HasFunctionsHere (meaning.with_functions d ts)
  with_functions_here d ts g h =
      then_sound (All (IsFunctionHere after first)) HasFunctionsHere (meaning.all_declared d cap.Functions ts []) (λ x. Ok (record d { functions = x }))
      (functions_here after first d cap.Functions ts [] g.0 g.1 (All-nil (IsFunctionHere after first))) (λ x p. (h, p))

  all_here : (d : Domain) (acts : List ActionDef) → HasFunctionsHere d → All (IsActionHere after first d) acts → IsDomainHere (record d { actions = acts })
  all_here d acts h k =
      let IsPredicate = IsPredicateHere after first in
      let IsFunction = IsFunctionHere after first in
      let IsAction = IsActionHere after first d in (
        record {
          name = h.0.0.0.0;
          types = h.0.0.0.1;
          constants = h.0.0.1;
          predicates = All-weaker IsPredicate (IsDeclOf (length after)) (λ x p. p.0) d.predicates h.0.1;
          functions = All-weaker IsFunction (IsDeclOf (length after)) (λ x p. p.0) d.functions h.1;
          actions = All-weaker IsAction (IsActionOf (length after)) (λ x p. p.0) acts k;
        },
        record {
          predicates = All-weaker IsPredicate (FitsPredicate after) (λ x p. p.1) d.predicates h.0.1;
          functions = All-weaker IsFunction (λ decl. FitParams after decl.params) (λ x p. p.1) d.functions h.1;
          actions = All-weaker IsAction (FitsAction after) (λ x p. p.1) acts k;
        },
      )

  with_actions_here : (d : Domain) (ts : Nesteds) → AreBodies ts → AreTold after ts → HasFunctionsHere d → Sound IsDomainHere (meaning.with_actions d ts)
  with_actions_here d ts g h k =
      then_sound (All (IsActionHere after first d)) IsDomainHere (meaning.actions d ts []) (λ x. Ok (record d { actions = x })) (actions_here d ts [] g h (All-nil (IsActionHere after first d)))
      (λ x p. all_here d x k p)

  -- ---- the domain

  with_sections_here : (n : Name) (ts : Nesteds) → IsNameOf (length after) n → AreBodies ts → AreTold after ts → Sound IsDomainHere (meaning.with_sections (meaning.bare n) ts)
  with_sections_here n ts lt g h =
      let types = section_here mark.Types ts (no_name is_name) g h in
      let constants = section_here mark.Constants ts (no_name is_name) g h in
      let predicates = section_here mark.Predicates ts grammar.no_predicate g h in
      let functions = section_here mark.Functions ts grammar.no_function g h in
      then_sound (HasTypesHere after first) IsDomainHere (with_types (meaning.bare n) (section mark.Types ts))
      (λ d. meaning.with_constants d (section mark.Constants ts) >>= λ x. meaning.with_predicates x (section mark.Predicates ts) >>= λ y. meaning.with_functions y (section mark.Functions ts) >>= λ z. meaning.with_actions z ts)
      (types_here after first n (section mark.Types ts) lt types.0 types.1)
      (λ d one. then_sound HasConstantsHere IsDomainHere (meaning.with_constants d (section mark.Constants ts))
      (λ x. meaning.with_predicates x (section mark.Predicates ts) >>= λ y. meaning.with_functions y (section mark.Functions ts) >>= λ z. meaning.with_actions z ts)
      (with_constants_here d (section mark.Constants ts) constants one)
      (λ x two. then_sound HasPredicatesHere IsDomainHere (meaning.with_predicates x (section mark.Predicates ts)) (λ y. meaning.with_functions y (section mark.Functions ts) >>= λ z. meaning.with_actions z ts)
      (with_predicates_here x (section mark.Predicates ts) predicates two)
      (λ y three. then_sound HasFunctionsHere IsDomainHere (meaning.with_functions y (section mark.Functions ts)) (λ z. meaning.with_actions z ts)
      (with_functions_here y (section mark.Functions ts) functions three)
      (λ z four. with_actions_here z ts g h four))))

  domain_here : (text : Nesteds) → IsText text → AreTold after text → Sound IsDomainHere (domain_of text)
  unfolding domain_of
  domain_here _ (grammar.text k m n ts define domain name g) h = with_sections_here n.name ts h.0.1.0.1.0.below (sections_are none_seen ts g) h.0.1.1

-- what a text is read as has its names in the table, and fits
pub read_fits : (table : Table) (bytes : List ℕ) (ls : List Lexeme) (after : Table) (ts : Nesteds) (d : Domain) → AreNames table → HasWords table bytes ls after → SpellAll ts ls → IsText ts → domain_of ts ≡ Ok d → AreNames after × IsDomainOf (length after) d × FitsDomain after d
read_fits table bytes ls after ts d names words spelt g e =
    let names_kept = names_after table bytes ls after names words in
    let first = first_below after names_kept in
    let here = subst (Sound (IsDomainHere after first)) e (domain_here after first ts g (lists_told table bytes ls after ts names words spelt)) in
    (names_kept, here.0, here.1)
