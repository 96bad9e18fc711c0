-- The lists of a text that was judged to be a domain's are of the grammar: what is taken where a list of names, an action, a section or a text is wanted is one.
use Rattle.std.proofs.Common.{◌≡◌, ℕ, suc, ◌+◌, List, [], ◌∷◌, true, refl, inl, inr, arith}
use Rattle.ps_grammar.specs.Marks.{is_name, is_predicate_name}
use Rattle.ps_grammar.specs.Shape.{deepest}
use Rattle.ps_grammar.specs.Symbols.{level, none_seen}
use Rattle.ps_grammar.specs.declared.marks.Mark.TheVariants as mark
use Rattle.ps_grammar.specs.declared.symbols.Seen.{Seen}
use Rattle.ps_grammar.specs.declared.symbols.Symbol.{Symbol}
use Rattle.ps_grammar.specs.declared.symbols.Symbol.TheVariants.{The, AnyName, InText, InList, InAction, InValue}
use Rattle.ps_grammar.specs.declared.symbols.TextPart.TheVariants.{Whole, Title, Sections}
use Rattle.ps_grammar.specs.declared.symbols.ListPart.TheVariants as list
use Rattle.ps_grammar.specs.declared.symbols.ActionPart.TheVariants.{AfterName, Parameters, AfterParameters, Duration, AfterDuration, AfterCondition}
use Rattle.ps_grammar.specs.declared.symbols.ValuePart.TheVariants as value
use Rattle.ps_grammar.specs.Shape.{text_start}
use Rattle.ps_lists.specs.Grammar.{IsConditionForm, AreKeywords, IsDecl, ArePredicates, AreFunctions, IsActionEnd, IsDuration, IsActionBody, AreSections, IsText}
use Rattle.ps_lists.specs.TypedLists.{IsTypedList, IsRun, is_variable}
use Rattle.ps_lists.specs.TypedLists.IsTypedList.{no_name, first_name}
use Rattle.ps_lists.specs.TypedLists.IsRun.{run_end, next_name, type_name}
use Rattle.ps_lists.specs.Grammar.AreKeywords.{no_keyword, one_keyword}
use Rattle.ps_lists.specs.Grammar.IsDecl.{decl}
use Rattle.ps_lists.specs.Grammar.ArePredicates.{no_predicate, one_predicate}
use Rattle.ps_lists.specs.Grammar.AreFunctions.{no_function, one_function, typed_function}
use Rattle.ps_lists.specs.Grammar.IsActionEnd.{neither, condition_only, effect_only, both}
use Rattle.ps_lists.specs.Grammar.IsDuration.{duration}
use Rattle.ps_lists.specs.Grammar.IsActionBody.{action_body}
use Rattle.ps_lists.specs.Grammar.AreSections.{no_section, requirements, types, constants, predicates, functions, action}
use Rattle.ps_lists.specs.Grammar.IsText.{text}
use Rattle.ps_lists.specs.Laws.{JudgedTextsAreGrammatical}
use Rattle.ps_lists.specs.Nested.{Nested, Nesteds, word, group, none, more}
use Rattle.ps_lists.specs.declared.lexemes.Lexeme.{Lexeme}
use Rattle.ps_lists.proofs.JudgedForms.{condition_form_of_taken, effect_form_of_taken, only_close, value_of_taken}
use Rattle.ps_lists.proofs.OneWord as one
use Rattle.ps_lists.proofs.OneWord.{no_word}
use Rattle.ps_lists.proofs.VariableLists.{variables_of_taken}
use Rattle.ps_lists.proofs.Taking.{Takes, TakesAll, taken_of_judged}

-- ---- lists of names

-- what is taken where keywords are wanted is keywords
keywords_of_taken : (ts : Nesteds) (st : List Symbol) (After : List Symbol → Type 0) → TakesAll ts After (InList list.Keywords ∷ st) → AreKeywords ts × After st
keywords_of_taken none st After h = (no_keyword, h)
keywords_of_taken (more (group us) ts) st After h = absurd h.1
keywords_of_taken (more (word l) ts) st After h =
    let first = one.keyword_told st (TakesAll ts After) l.mark h in
    let later = keywords_of_taken ts st After first.1 in
    (one_keyword l ts first.0 later.0, later.1)

mutual
  -- what is taken where a list of names is wanted is one
  names_of_taken : (ts : Nesteds) (st : List Symbol) (After : List Symbol → Type 0) → TakesAll ts After (InList list.Names ∷ st) → IsTypedList is_name ts × After st
  names_of_taken none st After h = (no_name is_name, h)
  names_of_taken (more (group us) ts) st After h = absurd h.1
  names_of_taken (more (word l) ts) st After h =
      let first = one.first_name_told st (TakesAll ts After) l.mark h in
      let later = run_of_taken_names ts st After first.1 in
      (first_name is_name l ts first.0 later.0, later.1)

  run_of_taken_names : (ts : Nesteds) (st : List Symbol) (After : List Symbol → Type 0) → TakesAll ts After (InList list.NameRun ∷ st) → IsRun is_name ts × After st
  run_of_taken_names none st After h = (run_end is_name, h)
  run_of_taken_names (more (group us) ts) st After h = absurd h.1
  run_of_taken_names (more (word l) ts) st After h =
      elim (one.next_name_told st (TakesAll ts After) l.mark h) [
        | inl minus ↦
            let later = type_of_taken_names ts st After minus.1 in
            (later.0 l minus.0, later.1)
        | inr name ↦
            let later = run_of_taken_names ts st After name.1 in
            (next_name is_name l ts name.0 later.0, later.1)
      ]

  type_of_taken_names : (ts : Nesteds) (st : List Symbol) (After : List Symbol → Type 0) → TakesAll ts After (InList list.TypeName ∷ InList list.Names ∷ st) → ((l : Lexeme) → l.mark ≡ mark.Minus → IsRun is_name (more (word l) ts)) × After st
  type_of_taken_names none st After h = absurd h
  type_of_taken_names (more (group us) ts) st After h = absurd h.1
  type_of_taken_names (more (word m) ts) st After h =
      let first = one.type_told (InList list.Names ∷ st) (TakesAll ts After) m.mark h in
      let later = names_of_taken ts st After first.1 in
      (λ l minus. type_name is_name l m ts minus first.0 later.0, later.1)

-- a predicate's name and its variables are its declaration
predicate_of_taken : (ts : Nesteds) (st : List Symbol) (After : List Symbol → Type 0) → TakesAll ts After (InList list.PredicateHead ∷ InList list.Variables ∷ st) → IsDecl is_predicate_name (group ts) × After st
predicate_of_taken none st After h = absurd h
predicate_of_taken (more (group us) ts) st After h = absurd h.1
predicate_of_taken (more (word l) ts) st After h =
    let name = one.predicate_told (InList list.Variables ∷ st) (TakesAll ts After) l.mark h in
    let later = variables_of_taken ts st After name.1 in
    (decl is_predicate_name l ts name.0 later.0, later.1)

-- what is taken where predicates are wanted is predicates
predicates_of_taken : (ts : Nesteds) (st : List Symbol) (After : List Symbol → Type 0) → TakesAll ts After (InList list.Predicates ∷ st) → ArePredicates ts × After st
predicates_of_taken none st After h = (no_predicate, h)
predicates_of_taken (more (word l) ts) st After h = absurd (no_word (InList list.Predicates) refl st (TakesAll ts After) l.mark h)
predicates_of_taken (more (group us) ts) st After h =
    let first = predicate_of_taken us (InList list.Predicates ∷ st) (TakesAll ts After) h.1 in
    let later = predicates_of_taken ts st After first.1 in
    (one_predicate (group us) ts first.0 later.0, later.1)

-- a function's name and its variables are its declaration
function_of_taken : (ts : Nesteds) (st : List Symbol) (After : List Symbol → Type 0) → TakesAll ts After (AnyName ∷ InList list.Variables ∷ st) → IsDecl is_name (group ts) × After st
function_of_taken none st After h = absurd h
function_of_taken (more (group us) ts) st After h = absurd h.1
function_of_taken (more (word l) ts) st After h =
    let name = one.name_told (InList list.Variables ∷ st) (TakesAll ts After) l.mark h in
    let later = variables_of_taken ts st After name.1 in
    (decl is_name l ts name.0 later.0, later.1)

mutual
  -- what is taken where functions are wanted is functions
  functions_of_taken : (ts : Nesteds) (st : List Symbol) (After : List Symbol → Type 0) → TakesAll ts After (InList list.Functions ∷ st) → AreFunctions ts × After st
  functions_of_taken none st After h = (no_function, h)
  functions_of_taken (more (word l) ts) st After h = absurd (no_word (InList list.Functions) refl st (TakesAll ts After) l.mark h)
  functions_of_taken (more (group us) ts) st After h =
      let first = function_of_taken us (InList list.FunctionRun ∷ st) (TakesAll ts After) h.1 in
      let later = after_taken_function ts st After first.1 in
      (later.0 (group us) first.0, later.1)

  -- what follows a function: its type or other functions
  after_taken_function : (ts : Nesteds) (st : List Symbol) (After : List Symbol → Type 0) → TakesAll ts After (InList list.FunctionRun ∷ st) → ((t : Nested) → IsDecl is_name t → AreFunctions (more t ts)) × After st
  after_taken_function none st After h = (λ t d. one_function t none d no_function, h)
  after_taken_function (more (word l) ts) st After h =
      let minus = one.function_run_told st (TakesAll ts After) l.mark h in
      let later = type_of_taken_function ts st After minus.1 in
      (λ t d. later.0 t l d minus.0, later.1)
  after_taken_function (more (group us) ts) st After h =
      let first = function_of_taken us (InList list.FunctionRun ∷ st) (TakesAll ts After) h.1 in
      let later = after_taken_function ts st After first.1 in
      (λ t d. one_function t (more (group us) ts) d (later.0 (group us) first.0), later.1)

  type_of_taken_function : (ts : Nesteds) (st : List Symbol) (After : List Symbol → Type 0) → TakesAll ts After (InList list.FunctionType ∷ InList list.Functions ∷ st) → ((t : Nested) (l : Lexeme) → IsDecl is_name t → l.mark ≡ mark.Minus → AreFunctions (more t (more (word l) ts))) × After st
  type_of_taken_function none st After h = absurd h
  type_of_taken_function (more (group us) ts) st After h = absurd h.1
  type_of_taken_function (more (word m) ts) st After h =
      let number = one.number_told (InList list.Functions ∷ st) (TakesAll ts After) m.mark h in
      let later = functions_of_taken ts st After number.1 in
      (λ t l d minus. typed_function t l m ts d minus number.0 later.0, later.1)

-- ---- actions

-- what is taken where an action's duration is wanted is one
duration_of_taken : (t : Nested) (room : ℕ) (st : List Symbol) (After : List Symbol → Type 0) → suc room + level st ≡ deepest → Takes t After (InAction Duration ∷ st) → IsDuration (suc room) t × After st
duration_of_taken (word l) room st After e h = absurd (no_word (InAction Duration) refl st After l.mark h)
duration_of_taken (group none) room st After e h = absurd h.1
duration_of_taken (group (more (group us) ts)) room st After e h = absurd h.1.1
duration_of_taken (group (more (word l) none)) room st After e h = absurd (one.equal_told st (TakesAll none After) l.mark h.1).1
duration_of_taken (group (more (word l) (more (group us) ts))) room st After e h =
    absurd (one.equal_told st (TakesAll (more (group us) ts) After) l.mark h.1).1.1
duration_of_taken (group (more (word l) (more (word m) none))) room st After e h =
    let equal = one.equal_told st (TakesAll (more (word m) none) After) l.mark h.1 in
    absurd (one.the_told (InValue value.Value ∷ The mark.Close ∷ st) (TakesAll none After) mark.Duration m.mark equal.1).1
duration_of_taken (group (more (word l) (more (word m) (more x ts)))) room st After e h =
    let equal = one.equal_told st (TakesAll (more (word m) (more x ts)) After) l.mark h.1 in
    let variable = one.the_told (InValue value.Value ∷ The mark.Close ∷ st) (TakesAll (more x ts) After) mark.Duration m.mark equal.1 in
    let first = value_of_taken x room (The mark.Close ∷ st) (TakesAll ts After) (omega arith) variable.1 in
    let end = only_close ts st After first.1 in
    (rw end.0 (duration room l m x equal.0 variable.0 first.0), end.1)

-- what follows an action's condition
after_taken_condition : (ts : Nesteds) (room : ℕ) (st : List Symbol) (After : List Symbol → Type 0) → suc (suc (suc room)) + level st ≡ deepest → TakesAll ts After (InAction AfterCondition ∷ st) → ((k : Lexeme) (c : Nested) → k.mark ≡ mark.ConditionKey → IsConditionForm (suc (suc room)) c → IsActionEnd (suc (suc room)) (more (word k) (more c ts))) × After st
after_taken_condition none room st After e h = (λ k c key form. condition_only (suc (suc room)) k c key form, h)
after_taken_condition (more (group us) ts) room st After e h = absurd h.1
after_taken_condition (more (word m) none) room st After e h = absurd (one.after_condition_told st (TakesAll none After) m.mark h).1
after_taken_condition (more (word m) (more t ts)) room st After e h =
    let other = one.after_condition_told st (TakesAll (more t ts) After) m.mark h in
    let first = effect_form_of_taken t room (The mark.Close ∷ st) (TakesAll ts After) (omega arith) other.1 in
    let end = only_close ts st After first.1 in
    (λ k c key form. rw end.0 (both (suc (suc room)) k m c t key form other.0 first.0), end.1)

-- what is taken after an action's duration is the end of an action
action_end_of_taken : (ts : Nesteds) (room : ℕ) (st : List Symbol) (After : List Symbol → Type 0) → suc (suc (suc room)) + level st ≡ deepest → TakesAll ts After (InAction AfterDuration ∷ st) → IsActionEnd (suc (suc room)) ts × After st
action_end_of_taken none room st After e h = (neither (suc (suc room)), h)
action_end_of_taken (more (group us) ts) room st After e h = absurd h.1
action_end_of_taken (more (word k) none) room st After e h =
    elim (one.after_duration_told st (TakesAll none After) k.mark h) [
      | inl key ↦ absurd key.1
      | inr key ↦ absurd key.1
    ]
action_end_of_taken (more (word k) (more t ts)) room st After e h =
    elim (one.after_duration_told st (TakesAll (more t ts) After) k.mark h) [
      | inl key ↦
          let first = condition_form_of_taken t room (InAction AfterCondition ∷ st) (TakesAll ts After) (omega arith) key.1 in
          let later = after_taken_condition ts room st After e first.1 in
          (later.0 k t key.0 first.0, later.1)
      | inr key ↦
          let first = effect_form_of_taken t room (The mark.Close ∷ st) (TakesAll ts After) (omega arith) key.1 in
          let end = only_close ts st After first.1 in
          (rw end.0 (effect_only (suc (suc room)) k t key.0 first.0), end.1)
    ]

-- what follows an action's parameters
after_taken_parameters : (ts : Nesteds) (room : ℕ) (st : List Symbol) (After : List Symbol → Type 0) → suc (suc (suc room)) + level st ≡ deepest → TakesAll ts After (InAction AfterParameters ∷ st) → ((n p : Lexeme) (ps : Nesteds) → is_name n.mark ≡ true → p.mark ≡ mark.Parameters → IsTypedList is_variable ps → IsActionBody (suc (suc room)) (more (word n) (more (word p) (more (group ps) ts)))) × After st
after_taken_parameters none room st After e h = absurd h
after_taken_parameters (more (group us) ts) room st After e h = absurd h.1
after_taken_parameters (more (word k) none) room st After e h = absurd (one.duration_key_told st (TakesAll none After) k.mark h).1
after_taken_parameters (more (word k) (more x ts)) room st After e h =
    let key = one.duration_key_told st (TakesAll (more x ts) After) k.mark h in
    let first = duration_of_taken x (suc room) (InAction AfterDuration ∷ st) (TakesAll ts After) (omega arith) key.1 in
    let later = action_end_of_taken ts room st After e first.1 in
    (λ n p ps name other typed. action_body (suc (suc room)) n p k ps ts x name other typed key.0 first.0 later.0, later.1)

-- what follows an action's name
after_taken_name : (ts : Nesteds) (room : ℕ) (st : List Symbol) (After : List Symbol → Type 0) → suc (suc (suc room)) + level st ≡ deepest → TakesAll ts After (InAction AfterName ∷ st) → ((n : Lexeme) → is_name n.mark ≡ true → IsActionBody (suc (suc room)) (more (word n) ts)) × After st
after_taken_name none room st After e h = absurd h
after_taken_name (more (group us) ts) room st After e h = absurd h.1
after_taken_name (more (word p) none) room st After e h = absurd (one.parameters_told st (TakesAll none After) p.mark h).1
after_taken_name (more (word p) (more (word l) ts)) room st After e h =
    let key = one.parameters_told st (TakesAll (more (word l) ts) After) p.mark h in
    absurd (no_word (InAction Parameters) refl (InAction AfterParameters ∷ st) (TakesAll ts After) l.mark key.1)
after_taken_name (more (word p) (more (group ps) ts)) room st After e h =
    let key = one.parameters_told st (TakesAll (more (group ps) ts) After) p.mark h in
    let first = variables_of_taken ps (InAction AfterParameters ∷ st) (TakesAll ts After) key.1.1 in
    let later = after_taken_parameters ts room st After e first.1 in
    (λ n name. later.0 n p ps name key.0 first.0, later.1)

-- what is taken where an action is wanted is one
action_of_taken : (ts : Nesteds) (room : ℕ) (st : List Symbol) (After : List Symbol → Type 0) → suc (suc (suc room)) + level st ≡ deepest → TakesAll ts After (AnyName ∷ InAction AfterName ∷ st) → IsActionBody (suc (suc room)) ts × After st
action_of_taken none room st After e h = absurd h
action_of_taken (more (group us) ts) room st After e h = absurd h.1
action_of_taken (more (word n) ts) room st After e h =
    let name = one.name_told (InAction AfterName ∷ st) (TakesAll ts After) n.mark h in
    let later = after_taken_name ts room st After e name.1 in
    (later.0 n name.0, later.1)

-- ---- sections and texts

-- what is taken where sections are wanted is sections
sections_of_taken : (ts : Nesteds) (seen : Seen) (After : List Symbol → Type 0) → TakesAll ts After (InText (Sections seen) ∷ []) → AreSections seen ts × After []
sections_of_taken none seen After h = (no_section seen, h)
sections_of_taken (more (word l) ts) seen After h = absurd (no_word (InText (Sections seen)) refl [] (TakesAll ts After) l.mark h)
sections_of_taken (more (group none) ts) seen After h = absurd h.1
sections_of_taken (more (group (more (group us) vs)) ts) seen After h = absurd h.1.1
sections_of_taken (more (group (more (word k) us)) ts) seen After h =
    elim (one.section_told [] (TakesAll us (TakesAll ts After)) seen k.mark h.1) [
      | inl (inl (inl key)) ↦
          let first = keywords_of_taken us (InText (Sections (record seen { requirements = true })) ∷ []) (TakesAll ts After) key.2 in
          let later = sections_of_taken ts (record seen { requirements = true }) After first.1 in
          (requirements seen k us ts key.0 key.1 first.0 later.0, later.1)
      | inl (inl (inr key)) ↦
          let first = names_of_taken us (InText (Sections (record seen { types = true })) ∷ []) (TakesAll ts After) key.2 in
          let later = sections_of_taken ts (record seen { types = true }) After first.1 in
          (types seen k us ts key.0 key.1 first.0 later.0, later.1)
      | inl (inr (inl key)) ↦
          let first = names_of_taken us (InText (Sections (record seen { constants = true })) ∷ []) (TakesAll ts After) key.2 in
          let later = sections_of_taken ts (record seen { constants = true }) After first.1 in
          (constants seen k us ts key.0 key.1 first.0 later.0, later.1)
      | inl (inr (inr key)) ↦
          let first = predicates_of_taken us (InText (Sections (record seen { predicates = true })) ∷ []) (TakesAll ts After) key.2 in
          let later = sections_of_taken ts (record seen { predicates = true }) After first.1 in
          (predicates seen k us ts key.0 key.1 first.0 later.0, later.1)
      | inr (inl key) ↦
          let first = functions_of_taken us (InText (Sections (record seen { functions = true })) ∷ []) (TakesAll ts After) key.2 in
          let later = sections_of_taken ts (record seen { functions = true }) After first.1 in
          (functions seen k us ts key.0 key.1 first.0 later.0, later.1)
      | inr (inr key) ↦
          let first = action_of_taken us 60 (InText (Sections seen) ∷ []) (TakesAll ts After) refl key.1 in
          let later = sections_of_taken ts seen After first.1 in
          (action seen k us ts key.0 first.0 later.0, later.1)
    ]

-- the title of a text and its sections
after_taken_define : (ts : Nesteds) (After : List Symbol → Type 0) → TakesAll ts After (InText Title ∷ InText (Sections none_seen) ∷ []) → ((k : Lexeme) → k.mark ≡ mark.Define → IsText (more (group (more (word k) ts)) none)) × After []
after_taken_define none After h = absurd h
after_taken_define (more (word l) ts) After h = absurd (no_word (InText Title) refl (InText (Sections none_seen) ∷ []) (TakesAll ts After) l.mark h)
after_taken_define (more (group none) ts) After h = absurd h.1
after_taken_define (more (group (more (group us) vs)) ts) After h = absurd h.1.1
after_taken_define (more (group (more (word m) none)) ts) After h =
    absurd (one.domain_told (AnyName ∷ The mark.Close ∷ InText (Sections none_seen) ∷ []) (TakesAll none (TakesAll ts After)) m.mark h.1).1
after_taken_define (more (group (more (word m) (more (group us) vs))) ts) After h =
    absurd (one.domain_told (AnyName ∷ The mark.Close ∷ InText (Sections none_seen) ∷ []) (TakesAll (more (group us) vs) (TakesAll ts After)) m.mark h.1).1.1
after_taken_define (more (group (more (word m) (more (word n) us))) ts) After h =
    let domain = one.domain_told (AnyName ∷ The mark.Close ∷ InText (Sections none_seen) ∷ []) (TakesAll (more (word n) us) (TakesAll ts After)) m.mark h.1 in
    let name = one.name_told (The mark.Close ∷ InText (Sections none_seen) ∷ []) (TakesAll us (TakesAll ts After)) n.mark domain.1 in
    let end = only_close us (InText (Sections none_seen) ∷ []) (TakesAll ts After) name.1 in
    let later = sections_of_taken ts none_seen After end.1 in
    (λ k define. rw end.0 (text k m n ts define domain.0 name.0 later.0), later.1)

-- what is taken where a text is wanted is one
text_of_taken : (t : Nested) (After : List Symbol → Type 0) → Takes t After text_start → IsText (more t none) × After []
text_of_taken (word l) After h = absurd (no_word (InText Whole) refl [] After l.mark h)
text_of_taken (group none) After h = absurd h.1
text_of_taken (group (more (group us) ts)) After h = absurd h.1.1
text_of_taken (group (more (word k) ts)) After h =
    let define = one.the_told (InText Title ∷ InText (Sections none_seen) ∷ []) (TakesAll ts After) mark.Define k.mark h.1 in
    let later = after_taken_define ts After define.1 in
    (later.0 k define.0, later.1)

-- the lists of a judged text are of the grammar
pub judged_grammatical : JudgedTextsAreGrammatical
judged_grammatical = taken_of_judged IsText text_of_taken
