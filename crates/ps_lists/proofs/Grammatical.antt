-- A text whose lists are of the grammar is judged to be a domain's: each list of names, action and section is taken where one is wanted.
use Rattle.std.proofs.Common.{◌≡◌, ℕ, suc, ◌+◌, ◌<◌, List, [], ◌∷◌, true, refl, arith}
use Rattle.ps_grammar.specs.Marks.{is_name, is_predicate_name}
use Rattle.ps_grammar.specs.Shape.{IsDomainShape, IsShallow, deepest}
use Rattle.ps_grammar.specs.Symbols.{level, none_seen}
use Rattle.ps_grammar.specs.declared.marks.Mark.TheVariants as mark
use Rattle.ps_grammar.specs.declared.symbols.Seen.{Seen}
use Rattle.ps_grammar.specs.declared.symbols.Symbol.{Symbol}
use Rattle.ps_grammar.specs.declared.symbols.Symbol.TheVariants.{The, AnyName, InText, InList, InAction, InValue}
use Rattle.ps_grammar.specs.declared.symbols.TextPart.TheVariants.{Title, TitleWord, Sections, SectionHead}
use Rattle.ps_grammar.specs.declared.symbols.ListPart.TheVariants as list
use Rattle.ps_grammar.specs.declared.symbols.ActionPart.TheVariants.{AfterName, Parameters, AfterParameters, Duration, DurationHead, AfterDuration, AfterCondition}
use Rattle.ps_grammar.specs.declared.symbols.ValuePart.TheVariants as value
use Rattle.ps_lists.specs.Grammar.{AreKeywords, IsDecl, ArePredicates, AreFunctions, IsActionEnd, IsDuration, IsActionBody, AreSections, IsText}
use Rattle.ps_lists.specs.TypedLists.{IsTypedList, IsRun}
use Rattle.ps_lists.specs.TypedLists.IsTypedList.{no_name, first_name}
use Rattle.ps_lists.specs.TypedLists.IsRun.{run_end, next_name, type_name}
use Rattle.ps_lists.specs.Grammar.AreKeywords.{no_keyword, one_keyword}
use Rattle.ps_lists.specs.Grammar.IsDecl.{decl}
use Rattle.ps_lists.specs.Grammar.ArePredicates.{no_predicate, one_predicate}
use Rattle.ps_lists.specs.Grammar.AreFunctions.{no_function, one_function, typed_function}
use Rattle.ps_lists.specs.Grammar.IsActionEnd.{neither, condition_only, effect_only, both}
use Rattle.ps_lists.specs.Grammar.IsDuration.{duration}
use Rattle.ps_lists.specs.Grammar.IsActionBody.{action_body}
use Rattle.ps_lists.specs.Grammar.AreSections.{no_section, requirements, types, constants, predicates, functions, action}
use Rattle.ps_lists.specs.Grammar.IsText.{text}
use Rattle.ps_lists.specs.Laws.{GrammaticalTextsAreJudged}
use Rattle.ps_lists.specs.Lexemes.{marks}
use Rattle.ps_lists.specs.Nested.{Nested, Nesteds, word, group, none, more}
use Rattle.ps_lists.specs.Spelling.{SpellAll}
use Rattle.ps_lists.specs.declared.lexemes.Lexeme.{Lexeme}
use Rattle.ps_lists.proofs.GrammaticalForms.{condition_form_taken, effect_form_taken, value_taken}
use Rattle.ps_lists.proofs.OneWord as one
use Rattle.ps_lists.proofs.VariableLists.{variables_taken}
use Rattle.ps_lists.proofs.Taking.{IsDone, Takes, TakesAll, judged_of_taken}

-- ---- lists of names

keywords_taken : (ts : Nesteds) → AreKeywords ts → (st : List Symbol) (After : List Symbol → Type 0) → After st → TakesAll ts After (InList list.Keywords ∷ st)
keywords_taken _ no_keyword st After k = k
keywords_taken _ (one_keyword l ts is later) st After k = one.keyword_fits st (TakesAll ts After) l.mark is (keywords_taken ts later st After k)

mutual
  names_taken : (ts : Nesteds) → IsTypedList is_name ts → (st : List Symbol) (After : List Symbol → Type 0) → After st → TakesAll ts After (InList list.Names ∷ st)
  names_taken _ (no_name _) st After k = k
  names_taken _ (first_name _ l ts is later) st After k = one.first_name_fits st (TakesAll ts After) l.mark is (run_of_names_taken ts later st After k)

  run_of_names_taken : (ts : Nesteds) → IsRun is_name ts → (st : List Symbol) (After : List Symbol → Type 0) → After st → TakesAll ts After (InList list.NameRun ∷ st)
  run_of_names_taken _ (run_end _) st After k = k
  run_of_names_taken _ (next_name _ l ts is later) st After k = one.next_name_fits st (TakesAll ts After) l.mark is (run_of_names_taken ts later st After k)
  run_of_names_taken _ (type_name _ l m ts minus name later) st After k =
      one.at_mark st (TakesAll (more (word m) ts) After) (InList list.NameRun) l.mark mark.Minus minus (one.type_fits (InList list.Names ∷ st) (TakesAll ts After) m.mark name (names_taken ts later st After k))

predicate_taken : (t : Nested) → IsDecl is_predicate_name t → (st : List Symbol) (After : List Symbol → Type 0) → suc (level st) < deepest → After (InList list.Predicates ∷ st) → Takes t After (InList list.Predicates ∷ st)
predicate_taken _ (decl _ l ts is all) st After e k =
    (omega arith, one.declared_predicate_fits (InList list.Variables ∷ InList list.Predicates ∷ st) (TakesAll ts After) l.mark is (variables_taken ts all (InList list.Predicates ∷ st) After k))

predicates_taken : (ts : Nesteds) → ArePredicates ts → (st : List Symbol) (After : List Symbol → Type 0) → suc (level st) < deepest → After st → TakesAll ts After (InList list.Predicates ∷ st)
predicates_taken _ no_predicate st After e k = k
predicates_taken _ (one_predicate t ts first later) st After e k =
    predicate_taken t first st (TakesAll ts After) e (predicates_taken ts later st After e k)

-- a function is taken as the first and after another
function_taken : (t : Nested) → IsDecl is_name t → (st : List Symbol) (After : List Symbol → Type 0) → suc (level st) < deepest → After (InList list.FunctionRun ∷ st) → Takes t After (InList list.Functions ∷ st) × Takes t After (InList list.FunctionRun ∷ st)
function_taken _ (decl _ l ts is all) st After e k =
    let inside : TakesAll (more (word l) ts) After (AnyName ∷ InList list.Variables ∷ InList list.FunctionRun ∷ st) = one.name_fits (InList list.Variables ∷ InList list.FunctionRun ∷ st) (TakesAll ts After) l.mark is (variables_taken ts all (InList list.FunctionRun ∷ st) After k) in
    ((omega arith, inside), (omega arith, inside))

-- functions are taken from the first on and after another
functions_taken : (ts : Nesteds) → AreFunctions ts → (st : List Symbol) (After : List Symbol → Type 0) → suc (level st) < deepest → After st → TakesAll ts After (InList list.Functions ∷ st) × TakesAll ts After (InList list.FunctionRun ∷ st)
functions_taken _ no_function st After e k = (k, k)
functions_taken _ (one_function t ts first later) st After e k =
    function_taken t first st (TakesAll ts After) e (functions_taken ts later st After e k).1
functions_taken _ (typed_function t l m ts first minus number later) st After e k =
    let rest = functions_taken ts later st After e k in
    function_taken t first st (TakesAll (more (word l) (more (word m) ts)) After) e (one.at_mark st (TakesAll (more (word m) ts) After) (InList list.FunctionRun) l.mark mark.Minus minus (one.at_mark (InList list.Functions ∷ st) (TakesAll ts After) (InList list.FunctionType) m.mark mark.NumberWord number rest.0))

-- ---- actions

duration_taken : (room : ℕ) (t : Nested) → IsDuration room t → (st : List Symbol) (After : List Symbol → Type 0) → room + level st ≡ deepest → After st → Takes t After (InAction Duration ∷ st)
duration_taken _ _ (duration room l m x equal variable own) st After e k =
    (omega arith, one.at_mark st (TakesAll (more (word m) (more x none)) After) (InAction DurationHead) l.mark mark.Equal equal (one.at_mark (InValue value.Value ∷ The mark.Close ∷ st) (TakesAll (more x none) After) (The mark.Duration) m.mark mark.Duration variable (value_taken room x own (The mark.Close ∷ st) (TakesAll none After) (omega arith) k)))

action_end_taken : (room : ℕ) (ts : Nesteds) → IsActionEnd room ts → (st : List Symbol) (After : List Symbol → Type 0) → suc room + level st ≡ deepest → After st → TakesAll ts After (InAction AfterDuration ∷ st)
action_end_taken _ _ (neither room) st After e k = k
action_end_taken _ _ (condition_only room l c key own) st After e k =
    one.at_mark st (TakesAll (more c none) After) (InAction AfterDuration) l.mark mark.ConditionKey key (condition_form_taken room c own (InAction AfterCondition ∷ st) (TakesAll none After) (omega arith) k)
action_end_taken _ _ (effect_only room l t key own) st After e k =
    one.at_mark st (TakesAll (more t none) After) (InAction AfterDuration) l.mark mark.EffectKey key (effect_form_taken room t own (The mark.Close ∷ st) (TakesAll none After) (omega arith) k)
action_end_taken _ _ (both room l m c t key own other form) st After e k =
    one.at_mark st (TakesAll (more c (more (word m) (more t none))) After) (InAction AfterDuration) l.mark mark.ConditionKey key (condition_form_taken room c own (InAction AfterCondition ∷ st) (TakesAll (more (word m) (more t none)) After) (omega arith) (one.at_mark st (TakesAll (more t none) After) (InAction AfterCondition) m.mark mark.EffectKey other (effect_form_taken room t form (The mark.Close ∷ st) (TakesAll none After) (omega arith) k)))

-- an action is taken where one may be opened
action_taken : (room : ℕ) (ts : Nesteds) → IsActionBody room ts → (st : List Symbol) (After : List Symbol → Type 0) → suc room + level st ≡ deepest → 1 + level st < deepest → After st → TakesAll ts After (AnyName ∷ InAction AfterName ∷ st)
action_taken _ _ (action_body room n p k ps ts x name key typed other own later) st After e opens done =
    let end : TakesAll ts After (InAction AfterDuration ∷ st) = action_end_taken room ts later st After e done in
    let time : Takes x (TakesAll ts After) (InAction Duration ∷ InAction AfterDuration ∷ st) = duration_taken room x own (InAction AfterDuration ∷ st) (TakesAll ts After) (omega arith) end in
    let after : TakesAll (more (word k) (more x ts)) After (InAction AfterParameters ∷ st) = one.at_mark st (TakesAll (more x ts) After) (InAction AfterParameters) k.mark mark.DurationKey other time in
    let params : Takes (group ps) (TakesAll (more (word k) (more x ts)) After) (InAction Parameters ∷ InAction AfterParameters ∷ st) = (omega arith, variables_taken ps typed (InAction AfterParameters ∷ st) (TakesAll (more (word k) (more x ts)) After) after) in
    one.name_fits (InAction AfterName ∷ st) (TakesAll (more (word p) (more (group ps) (more (word k) (more x ts)))) After) n.mark name (one.at_mark st (TakesAll (more (group ps) (more (word k) (more x ts))) After) (InAction AfterName) p.mark mark.Parameters key params)

-- ---- sections and texts

-- sections are taken after those that stood before
sections_taken : (seen : Seen) (ts : Nesteds) → AreSections seen ts → (After : List Symbol → Type 0) → After [] → TakesAll ts After (InText (Sections seen) ∷ [])
sections_taken _ _ (no_section seen) After k = k
sections_taken _ _ (requirements seen l ts rest key fresh own later) After k =
    (omega arith, one.at_mark [] (TakesAll ts (TakesAll rest After)) (InText (SectionHead seen)) l.mark mark.Requirements key (one.once_fits [] (TakesAll ts (TakesAll rest After)) seen.requirements list.Keywords (record seen { requirements = true }) fresh (keywords_taken ts own (InText (Sections (record seen { requirements = true })) ∷ []) (TakesAll rest After) (sections_taken (record seen { requirements = true }) rest later After k))))
sections_taken _ _ (types seen l ts rest key fresh own later) After k =
    (omega arith, one.at_mark [] (TakesAll ts (TakesAll rest After)) (InText (SectionHead seen)) l.mark mark.Types key (one.once_fits [] (TakesAll ts (TakesAll rest After)) seen.types list.Names (record seen { types = true }) fresh (names_taken ts own (InText (Sections (record seen { types = true })) ∷ []) (TakesAll rest After) (sections_taken (record seen { types = true }) rest later After k))))
sections_taken _ _ (constants seen l ts rest key fresh own later) After k =
    (omega arith, one.at_mark [] (TakesAll ts (TakesAll rest After)) (InText (SectionHead seen)) l.mark mark.Constants key (one.once_fits [] (TakesAll ts (TakesAll rest After)) seen.constants list.Names (record seen { constants = true }) fresh (names_taken ts own (InText (Sections (record seen { constants = true })) ∷ []) (TakesAll rest After) (sections_taken (record seen { constants = true }) rest later After k))))
sections_taken _ _ (predicates seen l ts rest key fresh own later) After k =
    (omega arith, one.at_mark [] (TakesAll ts (TakesAll rest After)) (InText (SectionHead seen)) l.mark mark.Predicates key (one.once_fits [] (TakesAll ts (TakesAll rest After)) seen.predicates list.Predicates (record seen { predicates = true }) fresh (predicates_taken ts own (InText (Sections (record seen { predicates = true })) ∷ []) (TakesAll rest After) (omega arith) (sections_taken (record seen { predicates = true }) rest later After k))))
sections_taken _ _ (functions seen l ts rest key fresh own later) After k =
    (omega arith, one.at_mark [] (TakesAll ts (TakesAll rest After)) (InText (SectionHead seen)) l.mark mark.Functions key (one.once_fits [] (TakesAll ts (TakesAll rest After)) seen.functions list.Functions (record seen { functions = true }) fresh (functions_taken ts own (InText (Sections (record seen { functions = true })) ∷ []) (TakesAll rest After) (omega arith) (sections_taken (record seen { functions = true }) rest later After k)).0))
sections_taken _ _ (action seen l ts rest key own later) After k =
    (omega arith, one.at_mark [] (TakesAll ts (TakesAll rest After)) (InText (SectionHead seen)) l.mark mark.DurativeAction key (action_taken 62 ts own (InText (Sections seen) ∷ []) (TakesAll rest After) refl (omega arith) (sections_taken seen rest later After k)))

-- a text of the grammar is judged, however it is written
text_judged : (ts : Nesteds) → IsText ts → (ls : List Lexeme) → SpellAll ts ls → IsDomainShape (marks ls) × IsShallow (marks ls)
text_judged _ (text k m n rest define domain name own) ls s =
    let done = sections_taken none_seen rest own IsDone refl in
    let title : TakesAll (more (word m) (more (word n) none)) (TakesAll rest IsDone) (InText TitleWord ∷ AnyName ∷ The mark.Close ∷ InText (Sections none_seen) ∷ []) = one.at_mark (AnyName ∷ The mark.Close ∷ InText (Sections none_seen) ∷ []) (TakesAll (more (word n) none) (TakesAll rest IsDone)) (InText TitleWord) m.mark mark.Domain domain (one.name_fits (The mark.Close ∷ InText (Sections none_seen) ∷ []) (TakesAll none (TakesAll rest IsDone)) n.mark name done) in
    let lists : Nesteds = more (group (more (word m) (more (word n) none))) rest in
    judged_of_taken (group (more (word k) lists)) ls s (omega arith, one.at_mark (InText Title ∷ InText (Sections none_seen) ∷ []) (TakesAll lists IsDone) (The mark.Define) k.mark mark.Define define (omega arith, title))

-- a text of the grammar is judged to be a domain's
pub grammatical_judged : GrammaticalTextsAreJudged
grammatical_judged ts ls s t = text_judged ts t ls s
