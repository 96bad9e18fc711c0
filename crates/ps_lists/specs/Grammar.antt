-- The grammar of a domain's text, over nested lists. The number counts the levels of parentheses that may still be opened where the list stands.
use Rattle.std.specs.Prelude.{◌≡◌, ℕ, suc, Bool, true, false}
use Rattle.ps_grammar.specs.Marks.{is_name, is_keyword, is_change, is_predicate_name}
use Rattle.ps_grammar.specs.Symbols.{has_forall, has_when, none_seen}
use Rattle.ps_grammar.specs.declared.marks.Mark.{Mark}
use Rattle.ps_grammar.specs.declared.marks.Mark.TheVariants as mark
use Rattle.ps_grammar.specs.declared.symbols.Reach.{Reach}
use Rattle.ps_grammar.specs.declared.symbols.Reach.TheVariants.{Spread, Guarded, Plain}
use Rattle.ps_grammar.specs.declared.symbols.Seen.{Seen}
use Rattle.ps_lists.specs.Conditions.{AreArguments, AreConditionsOf, IsAtomOf, IsConditionOf, IsValueOf, domains}
use Rattle.ps_lists.specs.Nested.{Nested, Nesteds, word, group, none, more}
use Rattle.ps_lists.specs.TypedLists.{IsTypedList, is_variable}
use Rattle.ps_lists.specs.declared.lexemes.Lexeme.{Lexeme}

-- ---- conditions of a domain

-- TERM*, where a TERM is a name or a variable
abbrev pub AreTerms : Nesteds → Type 0
AreTerms ts = AreArguments ts

-- (NAME TERM*)
abbrev pub IsAtom : ℕ → Nested → Type 0
IsAtom room t = IsAtomOf domains room t

-- X, which a TERM may be too, and its meaning judges it
abbrev pub IsValue : ℕ → Nested → Type 0
IsValue room t = IsValueOf domains room t

-- C, of TERMs
abbrev pub IsCondition : ℕ → Nested → Type 0
IsCondition room t = IsConditionOf domains room t

-- C*
abbrev pub AreConditions : ℕ → Nesteds → Type 0
AreConditions room ts = AreConditionsOf domains room ts

-- ---- timed conditions

-- the mark of the word after `at`
abbrev pub is_moment : Mark → Bool
is_moment mark.Start = true
is_moment mark.End = true
is_moment m = false

-- (at start C) | (over all C) | (at end C), where this many levels are left for the condition
pub data IsTimedCondition : ℕ → Nested → Type 0 where
  at_moment : (room : ℕ) (l m : Lexeme) (c : Nested) → l.mark ≡ mark.At → is_moment m.mark ≡ true → IsCondition room c → IsTimedCondition room (group (more (word l) (more (word m) (more c none))))
  over_all : (room : ℕ) (l m : Lexeme) (c : Nested) → l.mark ≡ mark.Over → m.mark ≡ mark.All → IsCondition room c → IsTimedCondition room (group (more (word l) (more (word m) (more c none))))

mutual
  -- TC within another: () | (and TC*) | (at start C) | (over all C) | (at end C)
  pub data IsPart : ℕ → Nested → Type 0 where
    empty_part : (room : ℕ) → IsPart (suc room) (group none)
    all_parts : (room : ℕ) (l : Lexeme) (ts : Nesteds) → l.mark ≡ mark.And → AreParts room ts → IsPart (suc room) (group (more (word l) ts))
    timed_part : (room : ℕ) (t : Nested) → IsTimedCondition room t → IsPart (suc room) t

  -- TC*
  pub data AreParts : ℕ → Nesteds → Type 0 where
    no_part : (room : ℕ) → AreParts room none
    one_part : (room : ℕ) (t : Nested) (ts : Nesteds) → IsPart room t → AreParts room ts → AreParts room (more t ts)

-- TC of an action: what stands in a timed form alone counts one level deeper, as if the form stood in an `and`
pub data IsConditionForm : ℕ → Nested → Type 0 where
  empty_condition : (room : ℕ) → IsConditionForm (suc room) (group none)
  listed_condition : (room : ℕ) (l : Lexeme) (ts : Nesteds) → l.mark ≡ mark.And → AreParts room ts → IsConditionForm (suc room) (group (more (word l) ts))
  lone_condition : (room : ℕ) (t : Nested) → IsTimedCondition room t → IsConditionForm (suc (suc room)) t

-- ---- effects

mutual
  -- E of an action, W of a `forall` and G of a `when`, by what may stand there: (and E*), or one effect
  pub data IsEffectOf : Reach → ℕ → Nested → Type 0 where
    all_effects : (reach : Reach) (room : ℕ) (l : Lexeme) (ts : Nesteds) → l.mark ≡ mark.And → AreEffectsOf reach room ts → IsEffectOf reach (suc room) (group (more (word l) ts))
    single : (reach : Reach) (room : ℕ) (t : Nested) → IsOneEffect reach room t → IsEffectOf reach room t

  -- (NAME TERM*) | (not (NAME TERM*)) | (NOP (NAME TERM*) X) | (when C G) | (forall (VLIST) W), the last two where they may stand
  pub data IsOneEffect : Reach → ℕ → Nested → Type 0 where
    addition : (reach : Reach) (room : ℕ) (l : Lexeme) (ts : Nesteds) → is_predicate_name l.mark ≡ true → AreTerms ts → IsOneEffect reach (suc room) (group (more (word l) ts))
    deletion : (reach : Reach) (room : ℕ) (l : Lexeme) (a : Nested) → l.mark ≡ mark.Not → IsAtom room a → IsOneEffect reach (suc room) (group (more (word l) (more a none)))
    change : (reach : Reach) (room : ℕ) (l : Lexeme) (a x : Nested) → is_change l.mark ≡ true → IsAtom room a → IsValue room x → IsOneEffect reach (suc room) (group (more (word l) (more a (more x none))))
    conditional : (reach : Reach) (room : ℕ) (l : Lexeme) (c t : Nested) → has_when reach ≡ true → l.mark ≡ mark.When → IsCondition room c → IsBody Plain room t → IsOneEffect reach (suc room) (group (more (word l) (more c (more t none))))
    for_each : (reach : Reach) (room : ℕ) (l : Lexeme) (vs : Nesteds) (t : Nested) → has_forall reach ≡ true → l.mark ≡ mark.Forall → IsTypedList is_variable vs → IsBody Guarded room t → IsOneEffect reach (suc room) (group (more (word l) (more (group vs) (more t none))))

  -- E*, W* or G*
  pub data AreEffectsOf : Reach → ℕ → Nesteds → Type 0 where
    no_effect : (reach : Reach) (room : ℕ) → AreEffectsOf reach room none
    one_effect : (reach : Reach) (room : ℕ) (e : Nested) (es : Nesteds) → IsEffectOf reach room e → AreEffectsOf reach room es → AreEffectsOf reach room (more e es)

  -- W in a `forall` and G in a `when`: one effect alone counts one level deeper, as if it stood in an `and`
  pub data IsBody : Reach → ℕ → Nested → Type 0 where
    listed_body : (reach : Reach) (room : ℕ) (l : Lexeme) (ts : Nesteds) → l.mark ≡ mark.And → AreEffectsOf reach room ts → IsBody reach (suc room) (group (more (word l) ts))
    lone_body : (reach : Reach) (room : ℕ) (t : Nested) → IsOneEffect reach room t → IsBody reach (suc room) t

-- E
abbrev pub IsEffect : ℕ → Nested → Type 0
IsEffect room t = IsEffectOf Spread room t

-- E*
abbrev pub AreEffects : ℕ → Nesteds → Type 0
AreEffects room ts = AreEffectsOf Spread room ts

-- (at start E) | (at end E), where this many levels are left for the effect
pub data IsTimedEffect : ℕ → Nested → Type 0 where
  effect_at : (room : ℕ) (l m : Lexeme) (e : Nested) → l.mark ≡ mark.At → is_moment m.mark ≡ true → IsEffect room e → IsTimedEffect room (group (more (word l) (more (word m) (more e none))))

mutual
  -- TE within another: () | (and TE*) | (at start E) | (at end E)
  pub data IsChange : ℕ → Nested → Type 0 where
    empty_change : (room : ℕ) → IsChange (suc room) (group none)
    all_changes : (room : ℕ) (l : Lexeme) (ts : Nesteds) → l.mark ≡ mark.And → AreChanges room ts → IsChange (suc room) (group (more (word l) ts))
    timed_change : (room : ℕ) (t : Nested) → IsTimedEffect room t → IsChange (suc room) t

  -- TE*
  pub data AreChanges : ℕ → Nesteds → Type 0 where
    no_change : (room : ℕ) → AreChanges room none
    one_change : (room : ℕ) (t : Nested) (ts : Nesteds) → IsChange room t → AreChanges room ts → AreChanges room (more t ts)

-- TE of an action, with the same count for a timed form alone
pub data IsEffectForm : ℕ → Nested → Type 0 where
  empty_effect : (room : ℕ) → IsEffectForm (suc room) (group none)
  listed_effect : (room : ℕ) (l : Lexeme) (ts : Nesteds) → l.mark ≡ mark.And → AreChanges room ts → IsEffectForm (suc room) (group (more (word l) ts))
  lone_effect : (room : ℕ) (t : Nested) → IsTimedEffect room t → IsEffectForm (suc (suc room)) t

-- ---- lists of names

-- KEYWORD*
pub data AreKeywords : Nesteds → Type 0 where
  no_keyword : AreKeywords none
  one_keyword : (l : Lexeme) (ts : Nesteds) → is_keyword l.mark ≡ true → AreKeywords ts → AreKeywords (more (word l) ts)

-- DECL, (NAME VLIST) with a name whose mark may stand there
pub data IsDecl : (Mark → Bool) → Nested → Type 0 where
  decl : (fits : Mark → Bool) (l : Lexeme) (ts : Nesteds) → fits l.mark ≡ true → IsTypedList is_variable ts → IsDecl fits (group (more (word l) ts))

-- DECL* of predicates
pub data ArePredicates : Nesteds → Type 0 where
  no_predicate : ArePredicates none
  one_predicate : (t : Nested) (ts : Nesteds) → IsDecl is_predicate_name t → ArePredicates ts → ArePredicates (more t ts)

-- FDECL*, where FDECL is DECL [- number]
pub data AreFunctions : Nesteds → Type 0 where
  no_function : AreFunctions none
  one_function : (t : Nested) (ts : Nesteds) → IsDecl is_name t → AreFunctions ts → AreFunctions (more t ts)
  typed_function : (t : Nested) (l m : Lexeme) (ts : Nesteds) → IsDecl is_name t → l.mark ≡ mark.Minus → m.mark ≡ mark.NumberWord → AreFunctions ts → AreFunctions (more t (more (word l) (more (word m) ts)))

-- ---- actions and sections

-- what follows an action's duration: [:condition TC] [:effect TE]
pub data IsActionEnd : ℕ → Nesteds → Type 0 where
  neither : (room : ℕ) → IsActionEnd room none
  condition_only : (room : ℕ) (k : Lexeme) (c : Nested) → k.mark ≡ mark.ConditionKey → IsConditionForm room c → IsActionEnd room (more (word k) (more c none))
  effect_only : (room : ℕ) (k : Lexeme) (e : Nested) → k.mark ≡ mark.EffectKey → IsEffectForm room e → IsActionEnd room (more (word k) (more e none))
  both : (room : ℕ) (k m : Lexeme) (c e : Nested) → k.mark ≡ mark.ConditionKey → IsConditionForm room c → m.mark ≡ mark.EffectKey → IsEffectForm room e → IsActionEnd room (more (word k) (more c (more (word m) (more e none))))

-- (= ?duration X)
pub data IsDuration : ℕ → Nested → Type 0 where
  duration : (room : ℕ) (l m : Lexeme) (x : Nested) → l.mark ≡ mark.Equal → m.mark ≡ mark.Duration → IsValue room x → IsDuration (suc room) (group (more (word l) (more (word m) (more x none))))

-- what follows :durative-action: NAME :parameters (VLIST) :duration (= ?duration X) [:condition TC] [:effect TE]
pub data IsActionBody : ℕ → Nesteds → Type 0 where
  action_body : (room : ℕ) (n p k : Lexeme) (ps rest : Nesteds) (x : Nested) → is_name n.mark ≡ true → p.mark ≡ mark.Parameters → IsTypedList is_variable ps → k.mark ≡ mark.DurationKey → IsDuration room x → IsActionEnd room rest → IsActionBody room (more (word n) (more (word p) (more (group ps) (more (word k) (more x rest)))))

-- SECTION*, after those that stood before: each but :durative-action stands at most once
pub data AreSections : Seen → Nesteds → Type 0 where
  no_section : (seen : Seen) → AreSections seen none
  requirements : (seen : Seen) (k : Lexeme) (ts rest : Nesteds) → k.mark ≡ mark.Requirements → seen.requirements ≡ false → AreKeywords ts → AreSections (record seen { requirements = true }) rest → AreSections seen (more (group (more (word k) ts)) rest)
  types : (seen : Seen) (k : Lexeme) (ts rest : Nesteds) → k.mark ≡ mark.Types → seen.types ≡ false → IsTypedList is_name ts → AreSections (record seen { types = true }) rest → AreSections seen (more (group (more (word k) ts)) rest)
  constants : (seen : Seen) (k : Lexeme) (ts rest : Nesteds) → k.mark ≡ mark.Constants → seen.constants ≡ false → IsTypedList is_name ts → AreSections (record seen { constants = true }) rest → AreSections seen (more (group (more (word k) ts)) rest)
  predicates : (seen : Seen) (k : Lexeme) (ts rest : Nesteds) → k.mark ≡ mark.Predicates → seen.predicates ≡ false → ArePredicates ts → AreSections (record seen { predicates = true }) rest → AreSections seen (more (group (more (word k) ts)) rest)
  functions : (seen : Seen) (k : Lexeme) (ts rest : Nesteds) → k.mark ≡ mark.Functions → seen.functions ≡ false → AreFunctions ts → AreSections (record seen { functions = true }) rest → AreSections seen (more (group (more (word k) ts)) rest)
  action : (seen : Seen) (k : Lexeme) (ts rest : Nesteds) → k.mark ≡ mark.DurativeAction → IsActionBody 62 ts → AreSections seen rest → AreSections seen (more (group (more (word k) ts)) rest)

-- DOMAIN: (define (domain NAME) SECTION*). Of 64 levels of parentheses the text and a section take two.
pub data IsText : Nesteds → Type 0 where
  text : (k m n : Lexeme) (rest : Nesteds) → k.mark ≡ mark.Define → m.mark ≡ mark.Domain → is_name n.mark ≡ true → AreSections none_seen rest → IsText (more (group (more (word k) (more (group (more (word m) (more (word n) none))) rest))) none)
