-- A domain's text is balanced: each parenthesis has its other one.
use Rattle.std.proofs.Common.{◌≡◌, ℕ, zero, suc, ◌+◌, ◌==◌, Bool, true, false, ◌&&◌, List, [], ◌∷◌, ◌++◌, Option, None, Some, slice_get, refl, sym, ◌∙◌, ap, subst, arith}
use Rattle.std.specs.List.{list_all}
use Rattle.std.proofs.lemmas.Bool.{and_parts, eqb-true}
use denote.Enum.Bare.{same_true}
use denote.Enum.Declared.{tag_of}
use Rattle.ps_grammar.specs.contracts.marks.Mark.{the_type}
use Rattle.ps_grammar.specs.Marks.{is}
use Rattle.ps_grammar.specs.Rules.{once, where_it_is, section_rule, text_rule, list_rule, action_rule, condition_rule, effect_rule, value_rule, goal_rule, step}
use Rattle.ps_grammar.specs.Shape.{Derives, IsDomainShape}
use Rattle.ps_grammar.specs.Shape.Derives.{nothing, by_rule}
use Rattle.ps_grammar.specs.Symbols.{weight}
use Rattle.ps_grammar.specs.declared.marks.Mark.{Mark}
use Rattle.ps_grammar.specs.declared.marks.Mark.TheVariants.{Open, Close, Plus, Times, Divide, Equal, Less, Greater, LessEqual, GreaterEqual, Minus, Duration, Variable, Requirements, Types, Constants, Predicates, Functions, DurativeAction, Parameters, DurationKey, ConditionKey, EffectKey, Action, Derived, Constraints, Keyword, Number, Continuous, Define, Domain, Problem, At, Over, Start, End, All, And, Not, Or, Imply, Exists, Forall, When, Preference, Assign, Increase, Decrease, ScaleUp, ScaleDown, Either, NumberWord, Name}
use Rattle.ps_grammar.specs.declared.symbols.Seen.{Seen}
use Rattle.ps_grammar.specs.declared.symbols.Symbol.{Symbol}
use Rattle.ps_grammar.specs.declared.symbols.Symbol.TheVariants.{The, AnyName, InText, InList, InAction, InCondition, InEffect, InValue, InGoal}
use Rattle.ps_grammar.specs.declared.symbols.TextPart.{TextPart}
use Rattle.ps_grammar.specs.declared.symbols.TextPart.TheVariants as text
use Rattle.ps_grammar.specs.declared.symbols.ListPart.{ListPart}
use Rattle.ps_grammar.specs.declared.symbols.ListPart.TheVariants as list
use Rattle.ps_grammar.specs.declared.symbols.ActionPart.{ActionPart}
use Rattle.ps_grammar.specs.declared.symbols.ActionPart.TheVariants as action
use Rattle.ps_grammar.specs.declared.symbols.ConditionPart.{ConditionPart}
use Rattle.ps_grammar.specs.declared.symbols.ConditionPart.TheVariants as condition
use Rattle.ps_grammar.specs.declared.symbols.EffectPart.{EffectPart}
use Rattle.ps_grammar.specs.declared.symbols.EffectPart.TheVariants as effect
use Rattle.ps_grammar.specs.declared.symbols.Reach.TheVariants.{Spread, Guarded, Plain}
use Rattle.ps_grammar.specs.declared.symbols.ValuePart.{ValuePart}
use Rattle.ps_grammar.specs.declared.symbols.ValuePart.TheVariants as value
use Rattle.ps_grammar.specs.declared.symbols.GoalPart.{GoalPart}
use Rattle.ps_grammar.specs.declared.symbols.GoalPart.TheVariants as goal
use Rattle.ps_lists.specs.Spelling.{is_balanced}

-- ---- each mark

abbrev pub every_mark : List Mark
every_mark =
    Open ∷ Close ∷ Plus ∷ Times ∷ Divide ∷ Equal ∷ Less ∷ Greater ∷ LessEqual ∷ GreaterEqual ∷ Minus ∷ Duration ∷ Variable ∷ Requirements ∷ Types
    ∷ Constants ∷ Predicates ∷ Functions ∷ DurativeAction ∷ Parameters ∷ DurationKey ∷ ConditionKey ∷ EffectKey ∷ Action ∷ Derived ∷ Constraints
    ∷ Keyword ∷ Number ∷ Continuous ∷ Define ∷ Domain ∷ Problem ∷ At ∷ Over ∷ Start ∷ End ∷ All ∷ And ∷ Not ∷ Or ∷ Imply ∷ Exists ∷ Forall ∷ When
    ∷ Preference ∷ Assign ∷ Increase ∷ Decrease ∷ ScaleUp ∷ ScaleDown ∷ Either ∷ NumberWord ∷ Name ∷ []

has_mark : (m : Mark) → slice_get every_mark (tag_of the_type m) ≡ Some m
has_mark Open = refl
has_mark _ = refl

one_of_all : (p : Mark → Bool) (ms : List Mark) (i : ℕ) (m : Mark) → list_all p ms ≡ true → slice_get ms i ≡ Some m → p m ≡ true
one_of_all p [] i m all e = absurd (cc)
one_of_all p (x ∷ ms) zero m all e =
    let same : x ≡ m = cc in
    ap p (sym same) ∙ (and_parts _ _ all).0
one_of_all p (x ∷ ms) (suc i) m all e = one_of_all p ms i m (and_parts _ _ all).1 e

-- what a test says of every mark it says of each
pub each_mark : (p : Mark → Bool) → list_all p every_mark ≡ true → (m : Mark) → p m ≡ true
each_mark p all m = one_of_all p every_mark (tag_of the_type m) m all (has_mark m)

-- ---- how many parentheses close

-- in what the symbol stands for, beyond those that open there
abbrev closes : Symbol → ℕ
closes (InEffect effect.LoneTerms) = 1
closes (InEffect effect.FormEnd) = 1
closes s = weight s

abbrev closing : List Symbol → ℕ
closing [] = 0
closing (s ∷ st) = closes s + closing st

closing_more : (a b : List Symbol) → closing (a ++ b) ≡ closing a + closing b
closing_more [] b = omega arith
closing_more (s ∷ a) b = omega (arith, closing_more a b)

-- the symbol isn't an open parenthesis by itself
abbrev is_shut : Symbol → Bool
is_shut (The Open) = false
is_shut _ = true

-- how many close after a mark, where so many did before it
abbrev moves : Mark → ℕ → ℕ → Bool
moves Open before after = after == before + 1
moves Close before after = before == after + 1
moves _ before after = before == after

-- a mark leads from so many to what is wanted after it
abbrev fits : Option (List Symbol) → Mark → ℕ → Bool
fits None m before = true
fits (Some new) m before = list_all is_shut new && moves m before (closing new)

-- ---- each rule

fits_once : (before : Bool) (part : ListPart) (seen : Seen) (m : Mark) → fits (Some (InList part ∷ InText (text.Sections seen) ∷ [])) m 2 ≡ true → fits (once before part seen) m 2 ≡ true
fits_once true part seen m e = refl
fits_once false part seen m e = e

fits_section : (seen : Seen) (m : Mark) → fits (section_rule seen m) m 2 ≡ true
fits_section seen Requirements = fits_once seen.requirements list.Keywords _ Requirements refl
fits_section seen Types = fits_once seen.types list.Names _ Types refl
fits_section seen Constants = fits_once seen.constants list.Names _ Constants refl
fits_section seen Predicates = fits_once seen.predicates list.Predicates _ Predicates refl
fits_section seen Functions = fits_once seen.functions list.Functions _ Functions refl
fits_section seen _ = refl

fits_text : (part : TextPart) (m : Mark) → fits (text_rule part m) m (closes (InText part)) ≡ true
fits_text (text.SectionHead seen) = fits_section seen
fits_text (text.Sections seen) = each_mark (λ m. fits (text_rule (text.Sections seen) m) m (closes (InText (text.Sections seen)))) refl
fits_text text.Whole = each_mark (λ m. fits (text_rule text.Whole m) m (closes (InText text.Whole))) refl
fits_text text.Title = each_mark (λ m. fits (text_rule text.Title m) m (closes (InText text.Title))) refl
fits_text text.TitleWord = each_mark (λ m. fits (text_rule text.TitleWord m) m (closes (InText text.TitleWord))) refl

all_list : (part : ListPart) → list_all (λ m. fits (list_rule part m) m (closes (InList part))) every_mark ≡ true
all_list list.Keywords = refl
all_list _ = refl

all_action : (part : ActionPart) → list_all (λ m. fits (action_rule part m) m (closes (InAction part))) every_mark ≡ true
all_action action.AfterName = refl
all_action _ = refl

all_condition : (part : ConditionPart) → list_all (λ m. fits (condition_rule part m) m (closes (InCondition part))) every_mark ≡ true
all_condition condition.Form = refl
all_condition _ = refl

all_effect : (part : EffectPart) → list_all (λ m. fits (effect_rule part m) m (closes (InEffect part))) every_mark ≡ true
all_effect (effect.Head Spread) = refl
all_effect (effect.Head Guarded) = refl
all_effect (effect.Head Plain) = refl
all_effect (effect.BodyHead Spread) = refl
all_effect (effect.BodyHead Guarded) = refl
all_effect (effect.BodyHead Plain) = refl
all_effect _ = refl

all_value : (part : ValuePart) → list_all (λ m. fits (value_rule part m) m (closes (InValue part))) every_mark ≡ true
all_value value.Atom = refl
all_value _ = refl

all_names : (most : ℕ) → list_all (λ m. fits (goal_rule (goal.Names most) m) m 1) every_mark ≡ true
all_names zero = refl
all_names (suc more) = refl

all_goal : (part : GoalPart) → list_all (λ m. fits (goal_rule part m) m (closes (InGoal part))) every_mark ≡ true
all_goal (goal.Names most) = all_names most
all_goal goal.Condition = refl
all_goal _ = refl

fits_itself : (m : Mark) → is_shut (The m) ≡ true → fits (Some []) m (closes (The m)) ≡ true
fits_itself Open e = absurd (cc)
fits_itself _ e = refl

fits_the : (wanted m : Mark) (b : Bool) → is wanted m ≡ b → is_shut (The wanted) ≡ true → fits (where_it_is b []) m (closes (The wanted)) ≡ true
fits_the wanted m false e shut = refl
fits_the wanted m true e shut =
    let same : m ≡ wanted = same_true the_type tt m wanted e in
    subst (λ (x : Mark). fits (Some []) x (closes (The wanted)) ≡ true) (sym same) (fits_itself wanted shut)

fits_step : (s : Symbol) (m : Mark) → is_shut s ≡ true → fits (step s m) m (closes s) ≡ true
fits_step (The wanted) m shut = fits_the wanted m (is wanted m) refl shut
fits_step AnyName m shut = each_mark (λ m. fits (step AnyName m) m (closes AnyName)) refl m
fits_step (InText part) m shut = fits_text part m
fits_step (InList part) m shut = each_mark (λ m. fits (list_rule part m) m (closes (InList part))) (all_list part) m
fits_step (InAction part) m shut = each_mark (λ m. fits (action_rule part m) m (closes (InAction part))) (all_action part) m
fits_step (InCondition part) m shut = each_mark (λ m. fits (condition_rule part m) m (closes (InCondition part))) (all_condition part) m
fits_step (InEffect part) m shut = each_mark (λ m. fits (effect_rule part m) m (closes (InEffect part))) (all_effect part) m
fits_step (InValue part) m shut = each_mark (λ m. fits (value_rule part m) m (closes (InValue part))) (all_value part) m
fits_step (InGoal part) m shut = each_mark (λ m. fits (goal_rule part m) m (closes (InGoal part))) (all_goal part) m

-- ---- whole texts

pub after_mark : (m : Mark) (before after rest : ℕ) (ms : List Mark) → moves m before after ≡ true → is_balanced (after + rest) ms ≡ true → is_balanced (before + rest) (m ∷ ms) ≡ true
after_mark Open before after rest ms e b =
    let one : after ≡ before + 1 = eqb-true after (before + 1) e in
    let same : suc (before + rest) ≡ after + rest = omega (arith, one) in
    ap (λ n. is_balanced n ms) same ∙ b
after_mark Close before after rest ms e b =
    let one : before ≡ after + 1 = eqb-true before (after + 1) e in
    let same : before + rest ≡ suc (after + rest) = omega (arith, one) in
    ap (λ n. is_balanced n (Close ∷ ms)) same ∙ b
after_mark _ before after rest ms e b = ap (λ n. is_balanced (n + rest) ms) (eqb-true before after e) ∙ b

shut_more : (a b : List Symbol) → list_all is_shut a ≡ true → list_all is_shut b ≡ true → list_all is_shut (a ++ b) ≡ true
shut_more [] b p q = q
shut_more (s ∷ a) b p q =
    let parts = and_parts (is_shut s) (list_all is_shut a) p in
    rw (parts.0) (shut_more a b parts.1 q)

balanced : (st : List Symbol) (ms : List Mark) → Derives st ms → list_all is_shut st ≡ true → is_balanced (closing st) ms ≡ true
balanced _ _ nothing shut = refl
balanced _ _ (by_rule s st m ms new leads rest) shut =
    let own = and_parts (is_shut s) (list_all is_shut st) shut in
    let fit : fits (Some new) m (closes s) ≡ true = subst (λ (o : Option (List Symbol)). fits o m (closes s) ≡ true) leads (fits_step s m own.0) in
    let parts = and_parts (list_all is_shut new) (moves m (closes s) (closing new)) fit in
    let later : is_balanced (closing (new ++ st)) ms ≡ true = balanced (new ++ st) ms rest (shut_more new st parts.0 own.1) in
    after_mark m (closes s) (closing new) (closing st) ms parts.1 (subst (λ (n : ℕ). is_balanced n ms ≡ true) (closing_more new st) later)

-- a domain's text is balanced
pub balanced_shape : (ms : List Mark) → IsDomainShape ms → is_balanced 0 ms ≡ true
balanced_shape ms derived = balanced _ ms derived refl
