-- What one mark makes of a symbol of a domain's text where no form stands alone.
use Rattle.std.proofs.Common.{◌≡◌, ◌==◌, Bool, true, false, not, ◌&&◌, ◌||◌, if◌then◌else◌, List, [], ◌∷◌, Option, None, Some, refl, sym, subst}
use Rattle.std.specs.List.{list_all}
use Rattle.ps_grammar.specs.Forms.{opens}
use Rattle.ps_grammar.specs.Marks.{is}
use Rattle.ps_grammar.specs.Rules.{action_rule, condition_rule, effect_rule, list_rule, once, section_rule, step, text_rule, value_rule, where_it_is}
use Rattle.ps_grammar.specs.Symbols.{level, weight}
use Rattle.ps_grammar.specs.declared.marks.Mark.{Mark}
use Rattle.ps_grammar.specs.declared.marks.Mark.TheVariants.{Open, Close, Duration, Requirements, Types, Constants, Predicates, Functions, ConditionKey, EffectKey, Define, All, Forall, When}
use Rattle.ps_grammar.specs.declared.symbols.Seen.{Seen}
use Rattle.ps_grammar.specs.declared.symbols.Symbol.{Symbol}
use Rattle.ps_grammar.specs.declared.symbols.Symbol.TheVariants.{The, AnyName, InText, InList, InAction, InCondition, InEffect, InValue}
use Rattle.ps_grammar.specs.declared.symbols.TextPart.{TextPart}
use Rattle.ps_grammar.specs.declared.symbols.TextPart.TheVariants as text
use Rattle.ps_grammar.specs.declared.symbols.ListPart.{ListPart}
use Rattle.ps_grammar.specs.declared.symbols.ListPart.TheVariants as list
use Rattle.ps_grammar.specs.declared.symbols.ActionPart.{ActionPart}
use Rattle.ps_grammar.specs.declared.symbols.ActionPart.TheVariants as action
use Rattle.ps_grammar.specs.declared.symbols.ConditionPart.{ConditionPart}
use Rattle.ps_grammar.specs.declared.symbols.ConditionPart.TheVariants as condition
use Rattle.ps_grammar.specs.declared.symbols.EffectPart.{EffectPart}
use Rattle.ps_grammar.specs.declared.symbols.EffectPart.TheVariants as effect
use Rattle.ps_grammar.specs.declared.symbols.ValuePart.{ValuePart}
use Rattle.ps_grammar.specs.declared.symbols.ValuePart.TheVariants as value
use Rattle.ps_lists.proofs.Balance.{each_mark, every_mark}
use Rattle.ps_grammar.proofs.SameMarks.{mark_is}
use Rattle.ps_reading_laws.proofs.LevelSymbols.{is_none, moves}

-- ---- kinds of symbols

-- a symbol of a condition, where one is read, or of a value, or elsewhere of what stands around conditions and effects: within it no form
-- stands alone
abbrev pub is_calm : Bool → Symbol → Bool
is_calm c (The Close) = true
is_calm c (The Duration) = not c
is_calm c (The Define) = not c
is_calm c (The All) = c
is_calm c (The m) = false
is_calm c AnyName = not c
is_calm c (InText part) = not c
is_calm c (InList list.Names) = not c
is_calm c (InList list.NameRun) = not c
is_calm c (InList list.TypeName) = not c
is_calm c (InList list.Predicates) = not c
is_calm c (InList list.Functions) = not c
is_calm c (InList list.FunctionRun) = not c
is_calm c (InList list.FunctionType) = not c
is_calm c (InAction action.Parameters) = true
is_calm c (InAction part) = not c
is_calm c (InCondition condition.Condition) = c
is_calm c (InCondition condition.Conditions) = c
is_calm c (InCondition condition.Head) = c
is_calm c (InEffect effect.StartOrEnd) = c
is_calm c (InValue value.Terms) = false
is_calm c (InValue part) = true
is_calm c s = false

-- one of these that follows a parenthesis at once
abbrev pub is_head : Symbol → Bool
is_head (The Define) = true
is_head (InText text.TitleWord) = true
is_head (InText (text.SectionHead seen)) = true
is_head (InAction action.DurationHead) = true
is_head (InCondition condition.Head) = true
is_head (InValue value.Head) = true
is_head s = false

-- a symbol that ends a form in which no other stands
abbrev pub is_ending : Symbol → Bool
is_ending (InList list.Keywords) = true
is_ending (InList list.Variables) = true
is_ending (InList list.VariableRun) = true
is_ending (InValue value.Terms) = true
is_ending s = false

-- a symbol before such a one
abbrev pub is_before : Symbol → Bool
is_before AnyName = true
is_before (InList list.TypeName) = true
is_before (InList list.PredicateHead) = true
is_before s = false

-- what is wanted up to the end of such a form
abbrev pub are_flat : List Symbol → Bool
are_flat [] = false
are_flat (s ∷ []) = is_ending s
are_flat (s ∷ t ∷ st) = is_before s && are_flat (t ∷ st)

-- the same, and then symbols in which no form stands alone
abbrev pub are_flat_then : Bool → List Symbol → Bool
are_flat_then c [] = false
are_flat_then c (s ∷ st) = (is_ending s && list_all (is_calm c) st) || (is_before s && are_flat_then c st)

-- the form that stands after the keyword
abbrev pub is_form_of : Mark → Symbol → Bool
is_form_of ConditionKey (InCondition condition.Form) = true
is_form_of EffectKey (InEffect effect.Form) = true
is_form_of key s = false

-- the same, and then symbols in which no form stands alone
abbrev pub are_form_then : Mark → List Symbol → Bool
are_form_then key [] = false
are_form_then key (s ∷ st) = is_form_of key s && list_all (is_calm false) st

-- ---- kinds of marks

-- `forall` or `when`
abbrev pub is_split : Mark → Bool
is_split Forall = true
is_split When = true
is_split m = false

-- `:condition` or `:effect`
abbrev pub is_timed_key : Mark → Bool
is_timed_key ConditionKey = true
is_timed_key EffectKey = true
is_timed_key m = false

-- ---- what a mark leads to

-- the first of these follows a parenthesis at once
abbrev pub is_headed : List Symbol → Bool
is_headed [] = false
is_headed (s ∷ st) = is_head s

-- the last of these ends a form, if there is one
abbrev pub ends_form : List Symbol → Bool
ends_form [] = true
ends_form (s ∷ []) = not (weight s == 0)
ends_form (s ∷ t ∷ st) = ends_form (t ∷ st)

-- it goes on as before
abbrev pub goes_on : Bool → Symbol → Mark → List Symbol → Bool
goes_on c s m new = list_all (is_calm c) new && (not (is_timed_key m) && ((not (is Open m) || is_headed new) && (not (is_head s) || (c || not (is_split m)))))

-- it comes to a form in which no other stands
abbrev pub flattens : Bool → Mark → List Symbol → Bool
flattens c m new = not (is Close m) && are_flat_then c new

-- it comes to the form of a `:condition` or an `:effect`
abbrev pub comes_to_form : Bool → Symbol → Mark → List Symbol → Bool
comes_to_form c s m new = (not c && not (weight s == 0)) && are_form_then m new

-- what a mark leads to fits, where a symbol was wanted in which no form stands alone
abbrev pub calm_fits : Bool → Symbol → Mark → Option (List Symbol) → Bool
calm_fits c s m None = true
calm_fits c s m (Some new) = moves m (weight s) (level new) && ((weight s == 0 || ends_form new) && (goes_on c s m new || (flattens c m new || comes_to_form c s m new)))

-- the same where a form goes on in which no other stands
abbrev pub flat_fits : Symbol → Mark → Option (List Symbol) → Bool
flat_fits s m None = true
flat_fits s m (Some new) = not (is Open m) && (if is Close m then is_ending s && is_none new else if is_ending s then are_flat new else is_none new)

-- ---- each rule

calm_itself : (c : Bool) (m : Mark) → is_calm c (The m) ≡ true → calm_fits c (The m) m (Some []) ≡ true
calm_itself c Close e = refl
calm_itself false Duration e = refl
calm_itself false Define e = refl
calm_itself true All e = refl
calm_itself _ _ e = absurd (cc)

calm_the : (c : Bool) (wanted m : Mark) (b : Bool) → is wanted m ≡ b → is_calm c (The wanted) ≡ true → calm_fits c (The wanted) m (where_it_is b []) ≡ true
calm_the c wanted m false e h = refl
calm_the c wanted m true e h = subst (λ (x : Mark). calm_fits c (The wanted) x (Some []) ≡ true) (sym (mark_is wanted m e)) (calm_itself c wanted h)

calm_once : (before : Bool) (part : ListPart) (seen now : Seen) (m : Mark) → calm_fits false (InText (text.SectionHead seen)) m (Some (InList part ∷ InText (text.Sections now) ∷ [])) ≡ true → calm_fits false (InText (text.SectionHead seen)) m (once before part now) ≡ true
calm_once true part seen now m e = refl
calm_once false part seen now m e = e

calm_section : (seen : Seen) (m : Mark) → calm_fits false (InText (text.SectionHead seen)) m (section_rule seen m) ≡ true
calm_section seen Requirements = calm_once seen.requirements list.Keywords seen _ Requirements refl
calm_section seen Types = calm_once seen.types list.Names seen _ Types refl
calm_section seen Constants = calm_once seen.constants list.Names seen _ Constants refl
calm_section seen Predicates = calm_once seen.predicates list.Predicates seen _ Predicates refl
calm_section seen Functions = calm_once seen.functions list.Functions seen _ Functions refl
calm_section seen _ = refl

calm_text : (part : TextPart) (m : Mark) → calm_fits false (InText part) m (text_rule part m) ≡ true
calm_text (text.SectionHead seen) = calm_section seen
calm_text (text.Sections seen) = each_mark (λ m. calm_fits false (InText (text.Sections seen)) m (text_rule (text.Sections seen) m)) refl
calm_text text.Whole = each_mark (λ m. calm_fits false (InText text.Whole) m (text_rule text.Whole m)) refl
calm_text text.Title = each_mark (λ m. calm_fits false (InText text.Title) m (text_rule text.Title m)) refl
calm_text text.TitleWord = each_mark (λ m. calm_fits false (InText text.TitleWord) m (text_rule text.TitleWord m)) refl

calm_list : (part : ListPart) → is_calm false (InList part) ≡ true → list_all (λ m. calm_fits false (InList part) m (list_rule part m)) every_mark ≡ true
calm_list list.Keywords e = absurd (cc)
calm_list list.Variables e = absurd (cc)
calm_list list.VariableRun e = absurd (cc)
calm_list list.PredicateHead e = absurd (cc)
calm_list _ e = refl

calm_action : (part : ActionPart) → list_all (λ m. calm_fits false (InAction part) m (action_rule part m)) every_mark ≡ true
calm_action action.AfterName = refl
calm_action _ = refl

calm_condition : (part : ConditionPart) → is_calm true (InCondition part) ≡ true → list_all (λ m. calm_fits true (InCondition part) m (condition_rule part m)) every_mark ≡ true
calm_condition condition.Condition e = refl
calm_condition condition.Conditions e = refl
calm_condition condition.Head e = refl
calm_condition _ e = absurd (cc)

calm_value : (c : Bool) (part : ValuePart) → is_calm c (InValue part) ≡ true → list_all (λ m. calm_fits c (InValue part) m (value_rule part m)) every_mark ≡ true
calm_value c value.Terms e = absurd (cc)
calm_value true _ e = refl
calm_value false _ e = refl

no_list : (part : ListPart) → is_calm true (InList part) ≡ true → ⊥
no_list list.Names e = absurd (cc)
no_list _ e = absurd (cc)

no_condition : (part : ConditionPart) → is_calm false (InCondition part) ≡ true → ⊥
no_condition condition.Condition e = absurd (cc)
no_condition _ e = absurd (cc)

no_effect : (part : EffectPart) → is_calm false (InEffect part) ≡ true → ⊥
no_effect effect.Form e = absurd (cc)
no_effect _ e = absurd (cc)

-- where a symbol is wanted in which no form stands alone, a mark leads to others, to a form in which none stands, or to the form of a
-- `:condition` or an `:effect`
pub calm_step : (c : Bool) (s : Symbol) (m : Mark) → is_calm c s ≡ true → calm_fits c s m (step s m) ≡ true
calm_step c (The wanted) m h = calm_the c wanted m (is wanted m) refl h
calm_step false AnyName m h = each_mark (λ m. calm_fits false AnyName m (step AnyName m)) refl m
calm_step false (InText part) m h = calm_text part m
calm_step false (InList part) m h = each_mark (λ m. calm_fits false (InList part) m (list_rule part m)) (calm_list part h) m
calm_step false (InAction part) m h = each_mark (λ m. calm_fits false (InAction part) m (action_rule part m)) (calm_action part) m
calm_step true (InList part) m h = absurd (no_list part h)
calm_step true (InAction action.Parameters) m h = each_mark (λ m. calm_fits true (InAction action.Parameters) m (action_rule action.Parameters m)) refl m
calm_step false (InCondition part) m h = absurd (no_condition part h)
calm_step true (InCondition part) m h = each_mark (λ m. calm_fits true (InCondition part) m (condition_rule part m)) (calm_condition part h) m
calm_step false (InEffect part) m h = absurd (no_effect part h)
calm_step true (InEffect effect.StartOrEnd) m h = each_mark (λ m. calm_fits true (InEffect effect.StartOrEnd) m (effect_rule effect.StartOrEnd m)) refl m
calm_step c (InValue part) m h = each_mark (λ m. calm_fits c (InValue part) m (value_rule part m)) (calm_value c part h) m
calm_step _ _ m h = absurd (cc)

-- ---- forms in which no other stands

-- one of these symbols
abbrev pub is_flat : Symbol → Bool
is_flat s = is_before s || is_ending s

flat_list : (part : ListPart) → is_flat (InList part) ≡ true → list_all (λ m. flat_fits (InList part) m (list_rule part m)) every_mark ≡ true
flat_list list.Keywords e = refl
flat_list list.Variables e = refl
flat_list list.VariableRun e = refl
flat_list list.TypeName e = refl
flat_list list.PredicateHead e = refl
flat_list _ e = absurd (cc)

flat_value : (part : ValuePart) → is_flat (InValue part) ≡ true → list_all (λ m. flat_fits (InValue part) m (value_rule part m)) every_mark ≡ true
flat_value value.Terms e = refl
flat_value _ e = absurd (cc)

-- where such a symbol is wanted, a mark leads to others, or ends the form
pub flat_step : (s : Symbol) (m : Mark) → is_flat s ≡ true → flat_fits s m (step s m) ≡ true
flat_step AnyName m h = each_mark (λ m. flat_fits AnyName m (step AnyName m)) refl m
flat_step (InList part) m h = each_mark (λ m. flat_fits (InList part) m (list_rule part m)) (flat_list part h) m
flat_step (InValue part) m h = each_mark (λ m. flat_fits (InValue part) m (value_rule part m)) (flat_value part h) m
flat_step _ m h = absurd (cc)

-- ---- where a level is opened

-- the two say the same
abbrev agree : Bool → Bool → Bool
agree a b = if a then b else not b

agree_so : (a b : Bool) → agree a b ≡ true → a ≡ b
agree_so true true e = refl
agree_so true false e = absurd (cc)
agree_so false true e = absurd (cc)
agree_so false false e = refl

-- a body of an effect, after its parenthesis, is wanted
abbrev pub is_body_head : Option Symbol → Bool
is_body_head (Some (InEffect (effect.BodyHead reach))) = true
is_body_head wanted = false

other_effect : (part : EffectPart) → is_body_head (Some (InEffect part)) ≡ false → list_all (λ m. agree (opens (Some (InEffect part)) m) (is Open m)) every_mark ≡ true
other_effect (effect.BodyHead reach) h = absurd (cc)
other_effect effect.Form h = refl
other_effect _ h = refl

-- elsewhere a level is opened by a parenthesis alone
pub opens_elsewhere : (wanted : Option Symbol) (m : Mark) → is_body_head wanted ≡ false → opens wanted m ≡ is Open m
opens_elsewhere None m h = agree_so _ _ (each_mark (λ m. agree (opens None m) (is Open m)) refl m)
opens_elsewhere (Some (InEffect part)) m h = agree_so _ _ (each_mark (λ m. agree (opens (Some (InEffect part)) m) (is Open m)) (other_effect part h) m)
opens_elsewhere (Some s) m h = agree_so _ _ (each_mark (λ m. agree (opens (Some s) m) (is Open m)) refl m)
