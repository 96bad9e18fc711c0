-- What is wanted after marks of a text, by the forms that are open after them.
use Rattle.std.proofs.Common.{◌≡◌, ℕ, suc, ◌+◌, ◌≤◌, ◌≢◌, ◌==◌, Bool, true, false, not, ◌&&◌, ◌||◌, if◌then◌else◌, List, [], ◌∷◌, ◌++◌, length, Option, None, Some, refl, sym, ◌∙◌, ap, subst, inl, inr, arith, append_assoc}
use Rattle.std.specs.List.{list_all, list_any}
use Rattle.std.proofs.lemmas.Bool.{and_from, and_parts, or_cases, or_left, or_right, eqb-true, eqb-false, not-true}
use Rattle.ps_grammar.specs.Marks.{is, is_change, is_predicate_name, is_term}
use Rattle.ps_grammar.specs.Rules.{one_effect_rule, step, where_it_is}
use Rattle.ps_grammar.specs.Fronts.{IsFront}
use Rattle.ps_grammar.specs.Shape.{IsDomainShape, next_wanted, text_start, wanted}
use Rattle.ps_grammar.specs.Symbols.{has_forall, has_when, level, weight}
use Rattle.ps_grammar.specs.declared.marks.Mark.{Mark}
use Rattle.ps_grammar.specs.declared.marks.Mark.TheVariants.{Open, Close, ConditionKey, EffectKey, At, Over, Start, End, All, And, Not, Forall, When}
use Rattle.ps_grammar.specs.declared.symbols.Symbol.{Symbol}
use Rattle.ps_grammar.specs.declared.symbols.Symbol.TheVariants.{The, AnyName, InList, InAction, InCondition, InEffect, InValue}
use Rattle.ps_grammar.specs.declared.symbols.ListPart.TheVariants as list
use Rattle.ps_grammar.specs.declared.symbols.ActionPart.TheVariants as action
use Rattle.ps_grammar.specs.declared.symbols.ConditionPart.TheVariants as condition
use Rattle.ps_grammar.specs.declared.symbols.EffectPart.TheVariants as effect
use Rattle.ps_grammar.specs.declared.symbols.Reach.{Reach}
use Rattle.ps_grammar.specs.declared.symbols.Reach.TheVariants.{Spread, Guarded, Plain}
use Rattle.ps_grammar.specs.declared.symbols.ValuePart.TheVariants as value
use Rattle.ps_grammar.proofs.Levels.{level_more}
use Rattle.ps_lists.proofs.Balance.{each_mark}
use Rattle.ps_reading_laws.specs.Levels.{OpenForm, closed, count_alone, forms_by, forms_from, is_alone, is_other, open_forms, opened_by, wants_condition, with_mark}
use Rattle.ps_grammar.proofs.SameMarks.{mark_is}
use Rattle.ps_reading_laws.proofs.LevelSymbols.{is_none, moves, none_of, opens_so}
use Rattle.ps_reading_laws.proofs.OpenForms.{Kind, are_safe, around_all, free_all, is_listed, is_safe, kind_of, listed_safe, not_alone, plain_around, plain_wants, safe_close, safe_first, safe_keyed, safe_mark, safe_none, want_alone}
use Rattle.ps_reading_laws.proofs.OpenForms.Kind.{closing, opening, standing}
use Rattle.ps_reading_laws.proofs.TextSymbols.{are_flat, are_flat_then, are_form_then, calm_fits, calm_step, comes_to_form, ends_form, flat_fits, flat_step, flattens, goes_on, is_before, is_calm, is_ending, is_form_of, is_head, is_headed, is_split, is_timed_key}
use Rattle.ps_reading_laws.proofs.Ways.{Leads, first_leads, front_leads}
use Rattle.ps_reading_laws.proofs.Ways.Leads.{no_mark, one_mark}

-- ---- symbols and marks, by what they belong to

-- conditions or effects with times, or effects
pub data Listing : Type 0 where
  parts : Bool → Listing
  effects : Reach → Listing

abbrev of_conditions : Listing → Bool
of_conditions (parts c) = c
of_conditions (effects reach) = false

abbrev pub list_of : Listing → Symbol
list_of (parts true) = InCondition condition.TimedList
list_of (parts false) = InEffect effect.TimedList
list_of (effects reach) = InEffect (effect.Effects reach)

abbrev pub head_of : Listing → Symbol
head_of (parts true) = InCondition condition.TimedHead
head_of (parts false) = InEffect effect.TimedHead
head_of (effects reach) = InEffect (effect.Head reach)

-- the form of a `:condition`, or of an `:effect`
abbrev pub key_of : Bool → Mark
key_of true = ConditionKey
key_of false = EffectKey

abbrev form_of : Bool → Symbol
form_of true = InCondition condition.Form
form_of false = InEffect effect.Form

abbrev pub form_head_of : Bool → Symbol
form_head_of true = InCondition condition.FormHead
form_head_of false = InEffect effect.FormHead

-- what ends a form that stands alone, or doesn't
abbrev pub end_of : Bool → Symbol
end_of true = InEffect effect.FormEnd
end_of false = The Close

abbrev terms_of : Bool → Symbol
terms_of true = InEffect effect.LoneTerms
terms_of false = InValue value.Terms

abbrev pub split_of : Bool → Mark
split_of true = Forall
split_of false = When

abbrev moment_of : Bool → Mark
moment_of true = Start
moment_of false = End

-- ---- what is wanted, by the open forms

-- the innermost form has begun, or what begins one is wanted
abbrev is_begun : List Symbol → List OpenForm → Bool
is_begun top [] = true
is_begun top ((m ∷ form) ∷ forms) = true
is_begun [] ([] ∷ forms) = true
is_begun (s ∷ top) ([] ∷ forms) = is_head s

-- Symbols in which no form stands alone are wanted within these forms: in a condition or not, and up to the end of the last form, or not.
pub record Calm (c one : Bool) (top : List Symbol) (forms : List OpenForm) : Type 0 where
  pub symbols : list_all (is_calm c) top ≡ true
  pub count : level top ≡ length forms
  pub safe : are_safe c forms ≡ true
  pub begun : is_begun top forms ≡ true
  pub whole : one ≡ true → (ends_form top ≡ true) × (1 ≤ length forms)

mutual
  -- what is wanted where these forms are open
  pub data Fits : List Symbol → List OpenForm → Type 0 where
    -- symbols in which no form stands alone
    calm : (c one : Bool) (top st : List Symbol) (forms outer : List OpenForm) → Calm c one top forms → Rest c one st outer → Fits (top ++ st) (forms ++ outer)
    -- a form in which no other stands
    flat : (top st : List Symbol) (form : OpenForm) (outer : List OpenForm) → are_flat top ≡ true → want_alone outer ≡ false → count_alone (with_mark Close outer) ≡ count_alone outer → Fits st (with_mark Close outer) → Fits (top ++ st) (form ∷ outer)
    -- the form of a `:condition` or an `:effect`
    keyed : (c : Bool) (st : List Symbol) (f : OpenForm) (fs : List OpenForm) → list_any wants_condition fs ≡ false → Fits st ((Close ∷ key_of c ∷ f) ∷ fs) → Fits (form_of c ∷ st) ((key_of c ∷ f) ∷ fs)
    headed : (c : Bool) (st : List Symbol) (f : OpenForm) (fs : List OpenForm) → list_any wants_condition fs ≡ false → Fits st ((Close ∷ key_of c ∷ f) ∷ fs) → Fits (form_head_of c ∷ st) ([] ∷ (key_of c ∷ f) ∷ fs)
    -- parts in an `and`
    listed : (l : Listing) (st : List Symbol) (g : OpenForm) (x : Mark) (f : OpenForm) (fs : List OpenForm) → is_listed g ≡ true → list_any wants_condition ((x ∷ f) ∷ fs) ≡ of_conditions l → Fits st ((Close ∷ x ∷ f) ∷ fs) → Fits (list_of l ∷ st) (g ∷ (x ∷ f) ∷ fs)
    begun : (l : Listing) (st : List Symbol) (x : Mark) (f : OpenForm) (fs : List OpenForm) → want_alone ((x ∷ f) ∷ fs) ≡ false → list_any wants_condition ((x ∷ f) ∷ fs) ≡ of_conditions l → Fits st ((Close ∷ x ∷ f) ∷ fs) → Fits (head_of l ∷ st) ([] ∷ (x ∷ f) ∷ fs)
    -- an effect with its time
    timed : (a : Bool) (st : List Symbol) (x : Mark) (f : OpenForm) (fs : List OpenForm) → is_alone (At ∷ []) ((x ∷ f) ∷ fs) ≡ a → list_any wants_condition ((x ∷ f) ∷ fs) ≡ false → Fits st ((Close ∷ x ∷ f) ∷ fs) → Fits (InEffect effect.StartOrEnd ∷ InEffect (effect.Effect Spread) ∷ end_of a ∷ st) ((At ∷ []) ∷ (x ∷ f) ∷ fs)
    effect_in : (a b : Bool) (st : List Symbol) (x : Mark) (f : OpenForm) (fs : List OpenForm) → is_alone (At ∷ []) ((x ∷ f) ∷ fs) ≡ a → list_any wants_condition ((x ∷ f) ∷ fs) ≡ false → Fits st ((Close ∷ x ∷ f) ∷ fs) → Fits (InEffect (effect.Effect Spread) ∷ end_of a ∷ st) ((moment_of b ∷ At ∷ []) ∷ (x ∷ f) ∷ fs)
    -- a `when`, a `forall`, and the body of either
    when_in : (a : Bool) (st : List Symbol) (x : Mark) (f : OpenForm) (fs : List OpenForm) → is_alone (When ∷ []) ((x ∷ f) ∷ fs) ≡ a → list_any wants_condition ((x ∷ f) ∷ fs) ≡ false → Fits st ((Close ∷ x ∷ f) ∷ fs) → Fits (InCondition condition.Condition ∷ InEffect (effect.Body Plain) ∷ end_of a ∷ st) ((When ∷ []) ∷ (x ∷ f) ∷ fs)
    forall_in : (a : Bool) (st : List Symbol) (x : Mark) (f : OpenForm) (fs : List OpenForm) → is_alone (Forall ∷ []) ((x ∷ f) ∷ fs) ≡ a → list_any wants_condition ((x ∷ f) ∷ fs) ≡ false → Fits st ((Close ∷ x ∷ f) ∷ fs) → Fits (InAction action.Parameters ∷ InEffect (effect.Body Guarded) ∷ end_of a ∷ st) ((Forall ∷ []) ∷ (x ∷ f) ∷ fs)
    body : (a b : Bool) (reach : Reach) (st : List Symbol) (x : Mark) (f : OpenForm) (fs : List OpenForm) → is_alone (split_of b ∷ []) ((x ∷ f) ∷ fs) ≡ a → list_any wants_condition ((x ∷ f) ∷ fs) ≡ false → Fits st ((Close ∷ x ∷ f) ∷ fs) → Fits (InEffect (effect.Body reach) ∷ end_of a ∷ st) ((Close ∷ split_of b ∷ []) ∷ (x ∷ f) ∷ fs)
    body_begun : (a b : Bool) (reach : Reach) (st : List Symbol) (x : Mark) (f : OpenForm) (fs : List OpenForm) → is_alone (split_of b ∷ []) ((x ∷ f) ∷ fs) ≡ a → list_any wants_condition ((x ∷ f) ∷ fs) ≡ false → Fits st ((Close ∷ x ∷ f) ∷ fs) → Fits (InEffect (effect.BodyHead reach) ∷ end_of a ∷ st) ([] ∷ (Close ∷ split_of b ∷ []) ∷ (x ∷ f) ∷ fs)
    -- the terms of a fact that stands alone
    lone_terms : (st : List Symbol) (y : Mark) (g : OpenForm) (x : Mark) (f : OpenForm) (fs : List OpenForm) → is_alone (y ∷ g) ((x ∷ f) ∷ fs) ≡ true → Fits st ((Close ∷ x ∷ f) ∷ fs) → Fits (InEffect effect.LoneTerms ∷ st) ((y ∷ g) ∷ (x ∷ f) ∷ fs)
    -- the end of a form
    ending : (a : Bool) (st : List Symbol) (y : Mark) (g : OpenForm) (x : Mark) (f : OpenForm) (fs : List OpenForm) → is_alone (y ∷ g) ((x ∷ f) ∷ fs) ≡ a → Fits st ((Close ∷ x ∷ f) ∷ fs) → Fits (end_of a ∷ st) ((y ∷ g) ∷ (x ∷ f) ∷ fs)

  -- what is wanted after such symbols where these forms are open: in a condition or not, and after one form alone, or not
  pub data Rest : Bool → Bool → List Symbol → List OpenForm → Type 0 where
    nothing_more : Rest false false [] []
    its_end : (c a : Bool) (st : List Symbol) (y : Mark) (g : OpenForm) (x : Mark) (f : OpenForm) (fs : List OpenForm) → is_safe false (y ∷ g) ≡ true → is_alone (y ∷ g) ((x ∷ f) ∷ fs) ≡ a → list_any wants_condition ((x ∷ f) ∷ fs) ≡ c → Fits st ((Close ∷ x ∷ f) ∷ fs) → Rest c false (end_of a ∷ st) ((y ∷ g) ∷ (x ∷ f) ∷ fs)
    after_form : (c : Bool) (st : List Symbol) (x : Mark) (f : OpenForm) (fs : List OpenForm) → want_alone ((x ∷ f) ∷ fs) ≡ false → list_any wants_condition ((x ∷ f) ∷ fs) ≡ c → Fits st ((Close ∷ x ∷ f) ∷ fs) → Rest c true st ((x ∷ f) ∷ fs)

-- ---- what a rest says of the forms around it

pub rest_around : (c one : Bool) (st : List Symbol) (outer : List OpenForm) → Rest c one st outer → list_any wants_condition outer ≡ c
rest_around _ _ _ _ nothing_more = refl
rest_around _ _ _ _ (its_end c a st y g x f fs safe alone around r) = plain_around c (y ∷ g) ((x ∷ f) ∷ fs) safe around
rest_around _ _ _ _ (after_form c st x f fs free around r) = around

pub rest_free : (c one : Bool) (st : List Symbol) (outer : List OpenForm) → Rest c one st outer → want_alone outer ≡ false
rest_free _ _ _ _ nothing_more = refl
rest_free _ _ _ _ (its_end c a st y g x f fs safe alone around r) = plain_wants (y ∷ g) ((x ∷ f) ∷ fs) safe
rest_free _ _ _ _ (after_form c st x f fs free around r) = free

rest_counts : (c one : Bool) (st : List Symbol) (outer : List OpenForm) → Rest c one st outer → count_alone (with_mark Close outer) ≡ count_alone outer
rest_counts _ _ _ _ nothing_more = refl
rest_counts _ _ _ _ (its_end c a st y g x f fs safe alone around r) = refl
rest_counts _ _ _ _ (after_form c st x f fs free around r) = refl

rest_marked : (c : Bool) (st : List Symbol) (outer : List OpenForm) (m : Mark) → is_timed_key m ≡ false → Rest c false st outer → Rest c false st (with_mark m outer)
rest_marked _ _ _ m key nothing_more = nothing_more
rest_marked _ _ _ m key (its_end c a st y g x f fs safe alone around r) = its_end c a st m (y ∷ g) x f fs (safe_mark false m y g safe key) alone around r

rest_closed : (c : Bool) (st : List Symbol) (outer : List OpenForm) → Rest c true st outer → Fits st (with_mark Close outer)
rest_closed _ _ _ (after_form c st x f fs free around r) = r

-- ---- symbols in which no form stands alone

calm_more : (c : Bool) (a b : List Symbol) → list_all (is_calm c) a ≡ true → list_all (is_calm c) b ≡ true → list_all (is_calm c) (a ++ b) ≡ true
calm_more c [] b p q = q
calm_more c (s ∷ a) b p q =
    let own = and_parts (is_calm c s) (list_all (is_calm c) a) p in
    rw (own.0) (calm_more c a b own.1 q)

ends_alone : (new : List Symbol) → ends_form new ≡ true → ends_form (new ++ []) ≡ true
ends_alone [] e = refl
ends_alone (s ∷ []) e = e
ends_alone (s ∷ t ∷ new) e = ends_alone (t ∷ new) e

ends_before : (new : List Symbol) (t : Symbol) (top : List Symbol) → ends_form (t ∷ top) ≡ true → ends_form (new ++ t ∷ top) ≡ true
ends_before [] t top e = e
ends_before (s ∷ []) t top e = e
ends_before (s ∷ k ∷ new) t top e = ends_before (k ∷ new) t top e

-- the last of what is wanted ends a form as before
ends_more : (s : Symbol) (top new : List Symbol) → ends_form (s ∷ top) ≡ true → ((weight s == 0) || ends_form new) ≡ true → ends_form (new ++ top) ≡ true
ends_more s [] new e h = ends_alone new (subst (λ b. (b || ends_form new) ≡ true) (not-true (weight s == 0) e) h)
ends_more s (t ∷ top) new e h = ends_before new t top e

ends_rest : (a b : List Symbol) → ends_form (a ++ b) ≡ true → ends_form b ≡ true
ends_rest [] b e = e
ends_rest (s ∷ []) [] e = refl
ends_rest (s ∷ []) (t ∷ b) e = e
ends_rest (s ∷ t ∷ a) b e = ends_rest (t ∷ a) b e

-- nothing is left of a form that has ended
no_symbol : (top : List Symbol) → ends_form top ≡ true → level top ≡ 0 → top ≡ []
no_symbol [] e l = refl
no_symbol (s ∷ []) e l = (let some = eqb-false (weight s) 0 (not-true (weight s == 0) e) in absurd (omega (arith, l, some)))
no_symbol (s ∷ t ∷ top) e l = (let none : t ∷ top ≡ [] = no_symbol (t ∷ top) e (omega (arith, l)) in absurd (cc))

-- what is wanted after a form has closed in these
after_close : (c one : Bool) (top st : List Symbol) (forms outer : List OpenForm) → list_all (is_calm c) top ≡ true → level top ≡ length forms → are_safe c forms ≡ true → (one ≡ true → ends_form top ≡ true) → Rest c one st outer
    → Fits (top ++ st) (with_mark Close (forms ++ outer))
after_close c true top st [] outer all count safe ends rest = rw (no_symbol top (ends refl) count) (rest_closed c st outer rest)
after_close c false top st [] outer all count safe ends rest =
    calm c false top st [] (with_mark Close outer) (record { symbols = all; count = count; safe = refl; begun = refl; whole = λ e. absurd (cc) }) (rest_marked c st outer Close refl rest)
after_close c one top st (form ∷ forms) outer all count safe ends rest =
    let own = and_parts (is_safe c form) (are_safe c forms) safe in
    calm c one top st ((Close ∷ form) ∷ forms) outer
    (record { symbols = all; count = count; safe = and_from (is_safe c (Close ∷ form)) (are_safe c forms) (safe_close c form own.0) own.1; begun = refl; whole = λ e. (ends e, omega arith) }) rest

module _ (c one : Bool) (s : Symbol) (top st : List Symbol) (outer : List OpenForm) (rest : Rest c one st outer) where
  module _ (new : List Symbol) (all : list_all (is_calm c) (new ++ top) ≡ true) (ends : one ≡ true → ends_form (new ++ top) ≡ true) where
    -- a mark in the innermost form
    marked : (m : Mark) (forms : List OpenForm) → is_timed_key m ≡ false → (not (is_head s) || (c || not (is_split m))) ≡ true
        → Calm c one (s ∷ top) forms → level (new ++ top) ≡ length forms → Fits ((new ++ top) ++ st) (with_mark m (forms ++ outer))
    marked m [] key first before count = marked_around one refl
      where
        marked_around : (b : Bool) → one ≡ b → Fits ((new ++ top) ++ st) (with_mark m outer)
        marked_around true e = (let whole = before.whole e in absurd (omega (arith, whole.1)))
        marked_around false e =
            calm c one (new ++ top) st [] (with_mark m outer) (record { symbols = all; count = count; safe = refl; begun = refl; whole = λ w. absurd (cc) })
            (subst (λ (b : Bool). Rest c b st (with_mark m outer)) (sym e) (rest_marked c st outer m key (subst (λ (b : Bool). Rest c b st outer) e rest)))
    marked m ([] ∷ forms) key first before count =
        let own = and_parts (is_safe c []) (are_safe c forms) before.safe in
        calm c one (new ++ top) st ((m ∷ []) ∷ forms) outer
        (record { symbols = all; count = count; safe = and_from (is_safe c (m ∷ [])) (are_safe c forms) (safe_first c m key (subst (λ b. (not b || (c || not (is_split m))) ≡ true) before.begun first)) own.1; begun = refl; whole = λ w. (ends w, (before.whole w).1) }) rest
    marked m ((n ∷ form) ∷ forms) key first before count =
        let own = and_parts (is_safe c (n ∷ form)) (are_safe c forms) before.safe in
        calm c one (new ++ top) st ((m ∷ n ∷ form) ∷ forms) outer
        (record { symbols = all; count = count; safe = and_from (is_safe c (m ∷ n ∷ form)) (are_safe c forms) (safe_mark c m n form own.0 key) own.1; begun = refl; whole = λ w. (ends w, (before.whole w).1) }) rest

    -- a parenthesis that opens
    opened_more : (forms : List OpenForm) → is_headed new ≡ true → Calm c one (s ∷ top) forms → level (new ++ top) ≡ suc (length forms) → Fits ((new ++ top) ++ st) ([] ∷ (forms ++ outer))
    opened_more forms head before count =
        calm c one (new ++ top) st ([] ∷ forms) outer
        (record { symbols = all; count = count; safe = and_from (is_safe c []) (are_safe c forms) (safe_none c) before.safe; begun = begun_new new head; whole = λ w. (ends w, omega arith) }) rest
      where
        begun_new : (new : List Symbol) → is_headed new ≡ true → is_begun (new ++ top) ([] ∷ forms) ≡ true
        begun_new [] h = absurd (cc)
        begun_new (s ∷ new) h = h

    -- a parenthesis that closes
    closed_more : (forms : List OpenForm) → Calm c one (s ∷ top) forms → length forms ≡ suc (level (new ++ top)) → Fits ((new ++ top) ++ st) (closed (forms ++ outer))
    closed_more [] before count = absurd (omega (arith, count))
    closed_more (form ∷ forms) before count =
        let own = and_parts (is_safe c form) (are_safe c forms) before.safe in
        after_close c one (new ++ top) st forms outer all (omega (arith, count)) own.1 ends rest

    went_on : (m : Mark) (forms : List OpenForm) → Kind m → goes_on c s m new ≡ true → moves m (weight s) (level new) ≡ true → Calm c one (s ∷ top) forms → Fits ((new ++ top) ++ st) (forms_by (forms ++ outer) m)
    went_on m forms k goes move before =
        let more = and_parts (list_all (is_calm c) new) (not (is_timed_key m) && ((not (is Open m) || is_headed new) && (not (is_head s) || (c || not (is_split m))))) goes in
        let key = and_parts (not (is_timed_key m)) ((not (is Open m) || is_headed new) && (not (is_head s) || (c || not (is_split m)))) more.1 in
        let first = and_parts (not (is Open m) || is_headed new) (not (is_head s) || (c || not (is_split m))) key.1 in
        let count : level (new ++ top) ≡ opened_by (length forms) m = level_more new top ∙ opens_so m (weight s) (level new) (level top) move ∙ ap (λ n. opened_by n m) before.count in
        by_kind m k move (not-true (is_timed_key m) key.0) first.0 first.1 count
      where
        by_kind : (m : Mark) → Kind m → moves m (weight s) (level new) ≡ true → is_timed_key m ≡ false → (not (is Open m) || is_headed new) ≡ true → (not (is_head s) || (c || not (is_split m))) ≡ true → level (new ++ top) ≡ opened_by (length forms) m → Fits ((new ++ top) ++ st) (forms_by (forms ++ outer) m)
        by_kind _ opening move key head first count = opened_more forms head before count
        by_kind _ closing move key head first count = closed_more forms before (omega (arith, before.count, level_more new top, eqb-true (weight s) (level new + 1) move))
        by_kind _ (standing m no_open no_close same stay) move key head first count = rw (stay (forms ++ outer)) (marked m forms key first before (count ∙ same (length forms)))

  -- as many forms stand alone after one more has closed
  counts_closed : (forms : List OpenForm) → are_safe c forms ≡ true → count_alone (with_mark Close (forms ++ outer)) ≡ count_alone (forms ++ outer)
  counts_closed [] safe = rest_counts c one st outer rest
  counts_closed (form ∷ forms) safe =
      let own = and_parts (is_safe c form) (are_safe c forms) safe in
      let free : want_alone (forms ++ outer) ≡ false = free_all c outer (rest_around c one st outer rest) (rest_free c one st outer rest) forms own.1 in
      rw (not_alone (Close ∷ form) (forms ++ outer) free, not_alone form (forms ++ outer) free) refl

  -- what is wanted up to the end of a form in which no other stands, and then these
  flattened : (m : Mark) (flats others : List Symbol) (forms : List OpenForm) → Kind m → is Close m ≡ false → are_flat flats ≡ true → list_all (is_calm c) (others ++ top) ≡ true → (one ≡ true → ends_form (others ++ top) ≡ true)
      → level flats ≡ 1 → level (flats ++ (others ++ top)) ≡ opened_by (length forms) m → are_safe c forms ≡ true → Fits (flats ++ ((others ++ top) ++ st)) (forms_by (forms ++ outer) m)
  flattened _ flats others forms closing close flat_so all ends one_level count safe = absurd (cc)
  flattened _ flats others forms opening close flat_so all ends one_level count safe =
      flat flats ((others ++ top) ++ st) [] (forms ++ outer) flat_so (free_all c outer (rest_around c one st outer rest) (rest_free c one st outer rest) forms safe) (counts_closed forms safe)
      (after_close c one (others ++ top) st forms outer all (omega (arith, level_more flats (others ++ top), count, one_level)) safe ends rest)
  flattened _ flats others [] (standing m no_open no_close same stay) close flat_so all ends one_level count safe = absurd (omega (arith, level_more flats (others ++ top), count, one_level, same 0))
  flattened _ flats others (form ∷ forms) (standing m no_open no_close same stay) close flat_so all ends one_level count safe =
      let own = and_parts (is_safe c form) (are_safe c forms) safe in
      rw (stay (form ∷ forms ++ outer))
      (flat flats ((others ++ top) ++ st) (m ∷ form) (forms ++ outer) flat_so (free_all c outer (rest_around c one st outer rest) (rest_free c one st outer rest) forms own.1) (counts_closed forms own.1)
      (after_close c one (others ++ top) st forms outer all (omega (arith, level_more flats (others ++ top), count, one_level, same (suc (length forms)))) own.1 ends rest))

  -- the form of a `:condition` or an `:effect`
  formed : (kind : Bool) (others : List Symbol) (forms : List OpenForm) → c ≡ false → list_all (is_calm c) (others ++ top) ≡ true → (one ≡ true → ends_form (others ++ top) ≡ true)
      → level (others ++ top) ≡ length forms → 1 ≤ length forms → are_safe c forms ≡ true → Fits (form_of kind ∷ ((others ++ top) ++ st)) (with_mark (key_of kind) (forms ++ outer))
  formed kind others [] out all ends count some safe = absurd (omega (arith, some))
  formed kind others (form ∷ forms) out all ends count some safe =
      let own = and_parts (is_safe c form) (are_safe c forms) safe in
      keyed kind ((others ++ top) ++ st) form (forms ++ outer) (around_all c outer (rest_around c one st outer rest) forms own.1 ∙ out)
      (calm c one (others ++ top) st ((Close ∷ key_of kind ∷ form) ∷ forms) outer
      (record { symbols = all; count = count; safe = and_from (is_safe c (Close ∷ key_of kind ∷ form)) (are_safe c forms) (keyed_safe kind form own.0) own.1; begun = refl; whole = λ w. (ends w, some) }) rest)
    where
      keyed_safe : (kind : Bool) (form : OpenForm) → is_safe c form ≡ true → is_safe c (Close ∷ key_of kind ∷ form) ≡ true
      keyed_safe true form h = subst (λ b. is_safe b (Close ∷ ConditionKey ∷ form) ≡ true) (sym out) (safe_keyed ConditionKey form refl (subst (λ b. is_safe b form ≡ true) out h))
      keyed_safe false form h = subst (λ b. is_safe b (Close ∷ EffectKey ∷ form) ≡ true) (sym out) (safe_keyed EffectKey form refl (subst (λ b. is_safe b form ≡ true) out h))

-- ---- what a mark leads to

ending_weight : (s : Symbol) → is_ending s ≡ true → weight s ≡ 1
ending_weight (InList list.Keywords) e = refl
ending_weight (InList list.Variables) e = refl
ending_weight (InList list.VariableRun) e = refl
ending_weight (InValue value.Terms) e = refl
ending_weight _ e = absurd (cc)

before_weight : (s : Symbol) → is_before s ≡ true → weight s ≡ 0
before_weight AnyName e = refl
before_weight (InList list.TypeName) e = refl
before_weight (InList list.PredicateHead) e = refl
before_weight _ e = absurd (cc)

pub flat_level : (st : List Symbol) → are_flat st ≡ true → level st ≡ 1
flat_level [] e = absurd (cc)
flat_level (s ∷ []) e = omega (arith, ending_weight s e)
flat_level (s ∷ t ∷ st) e =
    let parts = and_parts (is_before s) (are_flat (t ∷ st)) e in
    omega (arith, before_weight s parts.0, flat_level (t ∷ st) parts.1)

flat_more : (s : Symbol) (st : List Symbol) → is_before s ≡ true → are_flat st ≡ true → are_flat (s ∷ st) ≡ true
flat_more s [] b e = absurd (cc)
flat_more s (t ∷ st) b e = and_from (is_before s) (are_flat (t ∷ st)) b e

-- symbols up to the end of a form in which no other stands, and then others
splits : (c : Bool) (new : List Symbol) → are_flat_then c new ≡ true → (flats : List Symbol) × (others : List Symbol) × (new ≡ flats ++ others) × (are_flat flats ≡ true) × (list_all (is_calm c) others ≡ true)
splits c [] e = absurd (cc)
splits c (s ∷ new) e =
    elim (or_cases (is_ending s && list_all (is_calm c) new) (is_before s && are_flat_then c new) e) [
      | inl ends ↦ (let parts = and_parts (is_ending s) (list_all (is_calm c) new) ends in (s ∷ [], new, refl, parts.0, parts.1))
      | inr goes ↦
          let parts = and_parts (is_before s) (are_flat_then c new) goes in
          let more = splits c new parts.1 in
          (s ∷ more.0, more.1, ap (λ l. s ∷ l) more.2, flat_more s more.0 parts.0 more.3, more.4)
    ]

-- a form, and then others
form_kind : (m : Mark) (s : Symbol) → is_form_of m s ≡ true → (kind : Bool) × (m ≡ key_of kind) × (s ≡ form_of kind)
form_kind ConditionKey (InCondition condition.Form) e = (true, refl, refl)
form_kind EffectKey (InEffect effect.Form) e = (false, refl, refl)
form_kind _ _ e = absurd (cc)

pub form_weight : (kind : Bool) → weight (form_of kind) ≡ 0
form_weight true = refl
form_weight false = refl

key_opens : (kind : Bool) (n : ℕ) → opened_by n (key_of kind) ≡ n
key_opens true n = refl
key_opens false n = refl

key_stands : (kind : Bool) (forms : List OpenForm) → forms_by forms (key_of kind) ≡ with_mark (key_of kind) forms
key_stands true forms = refl
key_stands false forms = refl

-- where no form stands alone
module _ (c one : Bool) (s : Symbol) (top st : List Symbol) (forms outer : List OpenForm) (m : Mark) (rest : Rest c one st outer) (before : Calm c one (s ∷ top) forms) where
  around_new : (new : List Symbol) → Fits ((new ++ top) ++ st) (forms_by (forms ++ outer) m) → Fits (new ++ (top ++ st)) (forms_by (forms ++ outer) m)
  around_new new f = subst (λ (x : List Symbol). Fits x (forms_by (forms ++ outer) m)) (append_assoc new top st) f

  module _ (new : List Symbol) (move : moves m (weight s) (level new) ≡ true) (ends : one ≡ true → ends_form (new ++ top) ≡ true) where
    own_symbols : list_all (is_calm c) top ≡ true
    own_symbols = (and_parts (is_calm c s) (list_all (is_calm c) top) before.symbols).1

    new_count : level (new ++ top) ≡ opened_by (length forms) m
    new_count = level_more new top ∙ opens_so m (weight s) (level new) (level top) move ∙ ap (λ n. opened_by n m) before.count

    going_on : goes_on c s m new ≡ true → Fits (new ++ (top ++ st)) (forms_by (forms ++ outer) m)
    going_on goes =
        let all = (and_parts (list_all (is_calm c) new) _ goes).0 in
        around_new new (went_on c one s top st outer rest new (calm_more c new top all own_symbols) ends m forms (kind_of m) goes move before)

    flattening : flattens c m new ≡ true → Fits (new ++ (top ++ st)) (forms_by (forms ++ outer) m)
    flattening goes =
        let parts = and_parts (not (is Close m)) (are_flat_then c new) goes in
        let two = splits c new parts.1 in
        let whole : new ++ top ≡ two.0 ++ (two.1 ++ top) = ap (λ l. l ++ top) two.2 ∙ append_assoc two.0 two.1 top in
        let same : two.0 ++ ((two.1 ++ top) ++ st) ≡ new ++ (top ++ st) = sym (append_assoc two.0 (two.1 ++ top) st) ∙ ap (λ l. l ++ st) (sym whole) ∙ append_assoc new top st in
        subst (λ (x : List Symbol). Fits x (forms_by (forms ++ outer) m)) same
        (flattened c one s top st outer rest m two.0 two.1 forms (kind_of m) (not-true (is Close m) parts.0) two.3 (calm_more c two.1 top two.4 own_symbols)
        (λ w. ends_rest two.0 (two.1 ++ top) (subst (λ (x : List Symbol). ends_form x ≡ true) whole (ends w))) (flat_level two.0 two.3) (ap level (sym whole) ∙ new_count) before.safe)

  coming : (new : List Symbol) → moves m (weight s) (level new) ≡ true → (one ≡ true → ends_form (new ++ top) ≡ true) → c ≡ false → weight s ≢ 0 → are_form_then m new ≡ true → Fits (new ++ (top ++ st)) (forms_by (forms ++ outer) m)
  coming [] move ends out some goes = absurd (cc)
  coming (f ∷ others) move ends out some goes =
      let own = and_parts (is_form_of m f) (list_all (is_calm false) others) goes in
      let k = form_kind m f own.0 in
      let count : weight f + level (others ++ top) ≡ opened_by (length forms) m = new_count (f ∷ others) move ends in
      let still : opened_by (length forms) m ≡ length forms = ap (opened_by (length forms)) k.1 ∙ key_opens k.0 (length forms) in
      let light : weight f ≡ 0 = ap weight k.2 ∙ form_weight k.0 in
      let calm_others : list_all (is_calm c) others ≡ true = subst (λ b. list_all (is_calm b) others ≡ true) (sym out) own.1 in
      let stack : form_of k.0 ∷ ((others ++ top) ++ st) ≡ f ∷ (others ++ (top ++ st)) = ap (λ x. x ∷ ((others ++ top) ++ st)) (sym k.2) ∙ ap (λ l. f ∷ l) (append_assoc others top st) in
      let opened : with_mark (key_of k.0) (forms ++ outer) ≡ forms_by (forms ++ outer) m = sym (key_stands k.0 (forms ++ outer)) ∙ ap (forms_by (forms ++ outer)) (sym k.1) in
      subst (λ (x : List Symbol). Fits x (forms_by (forms ++ outer) m)) stack
      (subst (λ (x : List OpenForm). Fits (form_of k.0 ∷ ((others ++ top) ++ st)) x) opened
      (formed c one s top st outer rest k.0 others forms out (calm_more c others top calm_others (own_symbols (f ∷ others) move ends)) (λ w. ends_rest (f ∷ []) (others ++ top) (ends w)) (omega (arith, count, still, light)) (omega (arith, before.count, some)) before.safe))

  calm_on : (new : List Symbol) → step s m ≡ Some new → Fits (new ++ (top ++ st)) (forms_by (forms ++ outer) m)
  calm_on new e =
      let own = and_parts (is_calm c s) (list_all (is_calm c) top) before.symbols in
      let fits : calm_fits c s m (Some new) ≡ true = subst (λ (o : Option (List Symbol)). calm_fits c s m o ≡ true) e (calm_step c s m own.0) in
      let parts = and_parts (moves m (weight s) (level new)) ((weight s == 0 || ends_form new) && (goes_on c s m new || (flattens c m new || comes_to_form c s m new))) fits in
      let more = and_parts (weight s == 0 || ends_form new) (goes_on c s m new || (flattens c m new || comes_to_form c s m new)) parts.1 in
      let ends : one ≡ true → ends_form (new ++ top) ≡ true = λ w. ends_more s top new (before.whole w).0 more.0 in
      elim (or_cases (goes_on c s m new) (flattens c m new || comes_to_form c s m new) more.1) [
        | inl goes ↦ going_on new parts.0 ends goes
        | inr other ↦ elim (or_cases (flattens c m new) (comes_to_form c s m new) other) [
          | inl flats ↦ flattening new parts.0 ends flats
          | inr comes ↦
              let form = and_parts (not c && not (weight s == 0)) (are_form_then m new) comes in
              let out = and_parts (not c) (not (weight s == 0)) form.0 in
              coming new parts.0 ends (not-true c out.0) (eqb-false (weight s) 0 (not-true (weight s == 0) out.1)) form.1
        ]
      ]

-- within a form in which no other stands
ending_not_before : (s : Symbol) → is_before s ≡ true → is_ending s ≡ true → ⊥
ending_not_before (InList list.TypeName) b e = absurd (cc)
ending_not_before (InList list.PredicateHead) b e = absurd (cc)
ending_not_before AnyName b e = absurd (cc)
ending_not_before _ b e = absurd (cc)

module _ (st : List Symbol) (form : OpenForm) (outer : List OpenForm) (free : want_alone outer ≡ false) (counts : count_alone (with_mark Close outer) ≡ count_alone outer) (after : Fits st (with_mark Close outer)) where
  last_flat : (s : Symbol) (m : Mark) (new : List Symbol) → Kind m → is_ending s ≡ true → flat_fits s m (Some new) ≡ true → Fits (new ++ st) (forms_by (form ∷ outer) m)
  last_flat s _ new opening own fits = absurd (cc)
  last_flat s _ new closing own fits =
      let parts = and_parts (is_ending s) (is_none new) fits in
      rw (none_of new parts.1) after
  last_flat s _ new (standing m no_open no_close same stay) own fits =
      let parts = and_parts (not (is Open m)) (if is Close m then is_ending s && is_none new else if is_ending s then are_flat new else is_none new) fits in
      let all : are_flat new ≡ true = subst (λ b. (if b then are_flat new else is_none new) ≡ true) own (subst (λ b. (if b then is_ending s && is_none new else if is_ending s then are_flat new else is_none new) ≡ true) no_close parts.1) in
      rw (stay (form ∷ outer)) (flat new st (m ∷ form) outer all free counts after)

  before_flat : (s : Symbol) (top : List Symbol) (m : Mark) (new : List Symbol) → Kind m → is_before s ≡ true → are_flat top ≡ true → flat_fits s m (Some new) ≡ true → Fits (new ++ (top ++ st)) (forms_by (form ∷ outer) m)
  before_flat s top _ new opening own all fits = absurd (cc)
  before_flat s top _ new closing own all fits = absurd (ending_not_before s own (and_parts (is_ending s) (is_none new) fits).0)
  before_flat s top _ new (standing m no_open no_close same stay) own all fits =
      let parts = and_parts (not (is Open m)) (if is Close m then is_ending s && is_none new else if is_ending s then are_flat new else is_none new) fits in
      let none : is_none new ≡ true = nothing_new (is_ending s) refl (subst (λ b. (if b then is_ending s && is_none new else if is_ending s then are_flat new else is_none new) ≡ true) no_close parts.1) in
      rw (stay (form ∷ outer), none_of new none) (flat top st (m ∷ form) outer all free counts after)
    where
      nothing_new : (b : Bool) → is_ending s ≡ b → (if b then are_flat new else is_none new) ≡ true → is_none new ≡ true
      nothing_new true e h = absurd (ending_not_before s own e)
      nothing_new false e h = h

  flat_on : (top : List Symbol) (m : Mark) (next : List Symbol) → are_flat top ≡ true → next_wanted (top ++ st) m ≡ Some next → Fits next (forms_by (form ∷ outer) m)
  flat_on [] m next all e = absurd (cc)
  flat_on (s ∷ []) m next all e =
      let l = first_leads s st m next e in
      let fits : flat_fits s m (Some l.0) ≡ true = subst (λ (o : Option (List Symbol)). flat_fits s m o ≡ true) l.1 (flat_step s m (or_right (is_before s) (is_ending s) all)) in
      rw (l.2) (last_flat s m l.0 (kind_of m) all fits)
  flat_on (s ∷ t ∷ top) m next all e =
      let l = first_leads s (t ∷ top ++ st) m next e in
      let own = and_parts (is_before s) (are_flat (t ∷ top)) all in
      let fits : flat_fits s m (Some l.0) ≡ true = subst (λ (o : Option (List Symbol)). flat_fits s m o ≡ true) l.1 (flat_step s m (or_left (is_before s) (is_ending s) own.0)) in
      rw (l.2) (before_flat s (t ∷ top) m l.0 (kind_of m) own.0 own.1 fits)

-- ---- the form of a `:condition` or an `:effect`

so : (st new : List Symbol) (forms : List OpenForm) (now : List Symbol) → ◌≡◌ {A = Option (List Symbol)} (Some now) (Some new) → Fits (now ++ st) forms → Fits (new ++ st) forms
so st new forms now e f =
    let same : now ≡ new = cc in
    subst (λ (x : List Symbol). Fits (x ++ st) forms) same f

keyed_on : (c : Bool) (st : List Symbol) (f : OpenForm) (fs : List OpenForm) (m : Mark) (new : List Symbol) → list_any wants_condition fs ≡ false → Fits st ((Close ∷ key_of c ∷ f) ∷ fs) → step (form_of c) m ≡ Some new → Fits (new ++ st) (forms_by ((key_of c ∷ f) ∷ fs) m)
keyed_on true st f fs Open new out after e = so st new _ (form_head_of true ∷ []) e (headed true st f fs out after)
keyed_on false st f fs Open new out after e = so st new _ (form_head_of false ∷ []) e (headed false st f fs out after)
keyed_on true st f fs _ new out after e = absurd (cc)
keyed_on false st f fs _ new out after e = absurd (cc)

-- a timed condition in these forms, which stands alone or doesn't
timed_condition : (a : Bool) (t : Mark) (s : Symbol) (st : List Symbol) (x : Mark) (f : OpenForm) (fs : List OpenForm) → is_safe false (t ∷ []) ≡ true → is_calm true s ≡ true → weight s ≡ 0 → is_alone (t ∷ []) ((x ∷ f) ∷ fs) ≡ a → list_any wants_condition ((x ∷ f) ∷ fs) ≡ true → Fits st ((Close ∷ x ∷ f) ∷ fs)
    → Fits (s ∷ InCondition condition.Condition ∷ end_of a ∷ st) ((t ∷ []) ∷ (x ∷ f) ∷ fs)
timed_condition a t s st x f fs safe own light alone inside after =
    calm true false (s ∷ InCondition condition.Condition ∷ []) (end_of a ∷ st) [] ((t ∷ []) ∷ (x ∷ f) ∷ fs)
    (record { symbols = and_from (is_calm true s) true own refl; count = omega (arith, light); safe = refl; begun = refl; whole = λ w. absurd (cc) })
    (its_end true a st t [] x f fs safe alone inside after)

headed_on : (c : Bool) (st : List Symbol) (f : OpenForm) (fs : List OpenForm) (m : Mark) (new : List Symbol) → list_any wants_condition fs ≡ false → Fits st ((Close ∷ key_of c ∷ f) ∷ fs) → step (form_head_of c) m ≡ Some new → Fits (new ++ st) (forms_by ([] ∷ (key_of c ∷ f) ∷ fs) m)
headed_on true st f fs Close new out after e = so st new _ [] e after
headed_on true st f fs And new out after e = so st new _ (list_of (parts true) ∷ []) e (listed (parts true) st (And ∷ []) ConditionKey f fs refl refl after)
headed_on true st f fs At new out after e = so st new _ (InEffect effect.StartOrEnd ∷ InCondition condition.Condition ∷ end_of true ∷ []) e (timed_condition true At (InEffect effect.StartOrEnd) st ConditionKey f fs refl refl refl refl refl after)
headed_on true st f fs Over new out after e = so st new _ (The All ∷ InCondition condition.Condition ∷ end_of true ∷ []) e (timed_condition true Over (The All) st ConditionKey f fs refl refl refl refl refl after)
headed_on false st f fs Close new out after e = so st new _ [] e after
headed_on false st f fs And new out after e = so st new _ (list_of (parts false) ∷ []) e (listed (parts false) st (And ∷ []) EffectKey f fs refl out after)
headed_on false st f fs At new out after e = so st new _ (InEffect effect.StartOrEnd ∷ InEffect (effect.Effect Spread) ∷ end_of true ∷ []) e (timed true st EffectKey f fs refl out after)
headed_on true st f fs _ new out after e = absurd (cc)
headed_on false st f fs _ new out after e = absurd (cc)

-- ---- parts in an `and`

-- a part of those begins
part_begins : (l : Listing) (st : List Symbol) (g : OpenForm) (x : Mark) (f : OpenForm) (fs : List OpenForm) → is_listed g ≡ true → list_any wants_condition ((x ∷ f) ∷ fs) ≡ of_conditions l → Fits st ((Close ∷ x ∷ f) ∷ fs) → Fits (head_of l ∷ list_of l ∷ st) ([] ∷ g ∷ (x ∷ f) ∷ fs)
part_begins l st [] x f fs own inside after = absurd (cc)
part_begins l st (y ∷ g) x f fs own inside after =
    let safe : is_safe false (y ∷ g) ≡ true = listed_safe false (y ∷ g) own in
    begun l (list_of l ∷ st) y g ((x ∷ f) ∷ fs) (plain_wants (y ∷ g) ((x ∷ f) ∷ fs) safe) (plain_around (of_conditions l) (y ∷ g) ((x ∷ f) ∷ fs) safe inside)
    (listed l st (Close ∷ y ∷ g) x f fs own inside after)

listed_on : (l : Listing) (st : List Symbol) (g : OpenForm) (x : Mark) (f : OpenForm) (fs : List OpenForm) (m : Mark) (new : List Symbol) → is_listed g ≡ true → list_any wants_condition ((x ∷ f) ∷ fs) ≡ of_conditions l → Fits st ((Close ∷ x ∷ f) ∷ fs) → step (list_of l) m ≡ Some new
    → Fits (new ++ st) (forms_by (g ∷ (x ∷ f) ∷ fs) m)
listed_on (parts true) st g x f fs Open new own inside after e = so st new _ (head_of (parts true) ∷ list_of (parts true) ∷ []) e (part_begins (parts true) st g x f fs own inside after)
listed_on (parts true) st g x f fs Close new own inside after e = so st new _ [] e after
listed_on (parts true) st g x f fs _ new own inside after e = absurd (cc)
listed_on (parts false) st g x f fs Open new own inside after e = so st new _ (head_of (parts false) ∷ list_of (parts false) ∷ []) e (part_begins (parts false) st g x f fs own inside after)
listed_on (parts false) st g x f fs Close new own inside after e = so st new _ [] e after
listed_on (parts false) st g x f fs _ new own inside after e = absurd (cc)
listed_on (effects reach) st g x f fs Open new own inside after e = so st new _ (head_of (effects reach) ∷ list_of (effects reach) ∷ []) e (part_begins (effects reach) st g x f fs own inside after)
listed_on (effects reach) st g x f fs Close new own inside after e = so st new _ [] e after
listed_on (effects reach) st g x f fs _ new own inside after e = absurd (cc)

-- ---- one effect

-- a mark that begins an effect on one fact or value, or none
abbrev is_special : Mark → Bool
is_special Not = true
is_special When = true
is_special Forall = true
is_special m = false

one_effect : (reach : Reach) (terms end : Symbol) (m : Mark) → is_special m ≡ false → one_effect_rule reach terms end m ≡ (if is_change m then Some (InValue value.Atom ∷ InValue value.Value ∷ end ∷ []) else where_it_is (is_predicate_name m) (terms ∷ []))
one_effect reach terms end Not e = absurd (cc)
one_effect reach terms end When e = absurd (cc)
one_effect reach terms end Forall e = absurd (cc)
one_effect reach terms end _ e = refl

change_safe : (m : Mark) → (not (is_change m) || is_safe false (m ∷ [])) ≡ true
change_safe = each_mark (λ m. not (is_change m) || is_safe false (m ∷ [])) refl

passed : (b : Bool) (now new : List Symbol) → where_it_is b now ≡ Some new → (b ≡ true) × (◌≡◌ {A = Option (List Symbol)} (Some now) (Some new))
passed true now new e = (refl, e)
passed false now new e = absurd (cc)

-- one effect, which stands alone or doesn't, after the first word of its form
module _ (a : Bool) (reach : Reach) (st : List Symbol) (x : Mark) (f : OpenForm) (fs : List OpenForm) (out : list_any wants_condition ((x ∷ f) ∷ fs) ≡ false) (after : Fits st ((Close ∷ x ∷ f) ∷ fs)) where
  -- an atom, or an atom and a value, and the end
  values : (m : Mark) (top : List Symbol) → is_safe false (m ∷ []) ≡ true → is_alone (m ∷ []) ((x ∷ f) ∷ fs) ≡ a → list_all (is_calm false) top ≡ true → level top ≡ 0 → Fits (top ++ (end_of a ∷ st)) ((m ∷ []) ∷ (x ∷ f) ∷ fs)
  values m top safe alone all none =
      calm false false top (end_of a ∷ st) [] ((m ∷ []) ∷ (x ∷ f) ∷ fs) (record { symbols = all; count = none; safe = refl; begun = refl; whole = λ w. absurd (cc) })
      (its_end false a st m [] x f fs safe alone out after)

  other_on : (m : Mark) (new : List Symbol) (b : Bool) → is_change m ≡ b → is_alone (m ∷ []) ((x ∷ f) ∷ fs) ≡ a → Fits (terms_of a ∷ st) ((m ∷ []) ∷ (x ∷ f) ∷ fs)
      → (if b then Some (InValue value.Atom ∷ InValue value.Value ∷ end_of a ∷ []) else where_it_is (is_predicate_name m) (terms_of a ∷ [])) ≡ Some new → Fits (new ++ st) ((m ∷ []) ∷ (x ∷ f) ∷ fs)
  other_on m new true change alone terms e =
      so st new _ (InValue value.Atom ∷ InValue value.Value ∷ end_of a ∷ []) e
      (values m (InValue value.Atom ∷ InValue value.Value ∷ []) (subst (λ b. (not b || is_safe false (m ∷ [])) ≡ true) change (change_safe m)) alone refl refl)
  other_on m new false change alone terms e = so st new _ (terms_of a ∷ []) (passed (is_predicate_name m) (terms_of a ∷ []) new e).1 terms

  one_on : (m : Mark) (new : List Symbol) → is_alone (m ∷ []) ((x ∷ f) ∷ fs) ≡ a → Fits (terms_of a ∷ st) ((m ∷ []) ∷ (x ∷ f) ∷ fs) → one_effect_rule reach (terms_of a) (end_of a) m ≡ Some new → Fits (new ++ st) ((m ∷ []) ∷ (x ∷ f) ∷ fs)
  one_on Not new alone terms e = so st new _ (InValue value.Atom ∷ end_of a ∷ []) e (values Not (InValue value.Atom ∷ []) refl alone refl refl)
  one_on When new alone terms e =
      so st new _ (InCondition condition.Condition ∷ InEffect (effect.Body Plain) ∷ end_of a ∷ []) (passed (has_when reach) (InCondition condition.Condition ∷ InEffect (effect.Body Plain) ∷ end_of a ∷ []) new e).1
      (when_in a st x f fs alone out after)
  one_on Forall new alone terms e =
      so st new _ (InAction action.Parameters ∷ InEffect (effect.Body Guarded) ∷ end_of a ∷ []) (passed (has_forall reach) (InAction action.Parameters ∷ InEffect (effect.Body Guarded) ∷ end_of a ∷ []) new e).1
      (forall_in a st x f fs alone out after)
  one_on m new alone terms e = other_on m new (is_change m) refl alone terms e

-- the terms of a fact that doesn't stand alone
plain_terms : (st : List Symbol) (m x : Mark) (f : OpenForm) (fs : List OpenForm) → want_alone ((x ∷ f) ∷ fs) ≡ false → Fits st ((Close ∷ x ∷ f) ∷ fs) → Fits (terms_of false ∷ st) ((m ∷ []) ∷ (x ∷ f) ∷ fs)
plain_terms st m x f fs free after = flat (terms_of false ∷ []) st (m ∷ []) ((x ∷ f) ∷ fs) refl free refl after

-- ---- parts that begin

-- an effect that begins in a list or after its time
effect_on : (reach : Reach) (st : List Symbol) (x : Mark) (f : OpenForm) (fs : List OpenForm) (m : Mark) (new : List Symbol) → want_alone ((x ∷ f) ∷ fs) ≡ false → list_any wants_condition ((x ∷ f) ∷ fs) ≡ false → Fits st ((Close ∷ x ∷ f) ∷ fs) → step (head_of (effects reach)) m ≡ Some new
    → Fits (new ++ st) (forms_by ([] ∷ (x ∷ f) ∷ fs) m)
effect_on reach st x f fs Open new free out after e = absurd (cc)
effect_on reach st x f fs Close new free out after e = absurd (cc)
effect_on reach st x f fs And new free out after e = so st new _ (list_of (effects reach) ∷ []) e (listed (effects reach) st (And ∷ []) x f fs refl out after)
effect_on reach st x f fs m new free out after e = one_on false reach st x f fs out after m new (not_alone (m ∷ []) ((x ∷ f) ∷ fs) free) (plain_terms st m x f fs free after) e

begun_on : (l : Listing) (st : List Symbol) (x : Mark) (f : OpenForm) (fs : List OpenForm) (m : Mark) (new : List Symbol) → want_alone ((x ∷ f) ∷ fs) ≡ false → list_any wants_condition ((x ∷ f) ∷ fs) ≡ of_conditions l → Fits st ((Close ∷ x ∷ f) ∷ fs) → step (head_of l) m ≡ Some new
    → Fits (new ++ st) (forms_by ([] ∷ (x ∷ f) ∷ fs) m)
begun_on (effects reach) st x f fs m new free inside after e = effect_on reach st x f fs m new free inside after e
begun_on (parts true) st x f fs Close new free inside after e = so st new _ [] e after
begun_on (parts true) st x f fs And new free inside after e = so st new _ (list_of (parts true) ∷ []) e (listed (parts true) st (And ∷ []) x f fs refl inside after)
begun_on (parts true) st x f fs At new free inside after e =
    so st new _ (InEffect effect.StartOrEnd ∷ InCondition condition.Condition ∷ end_of false ∷ []) e
    (timed_condition false At (InEffect effect.StartOrEnd) st x f fs refl refl refl (not_alone (At ∷ []) ((x ∷ f) ∷ fs) free) inside after)
begun_on (parts true) st x f fs Over new free inside after e =
    so st new _ (The All ∷ InCondition condition.Condition ∷ end_of false ∷ []) e
    (timed_condition false Over (The All) st x f fs refl refl refl (not_alone (Over ∷ []) ((x ∷ f) ∷ fs) free) inside after)
begun_on (parts true) st x f fs _ new free inside after e = absurd (cc)
begun_on (parts false) st x f fs Close new free inside after e = so st new _ [] e after
begun_on (parts false) st x f fs And new free inside after e = so st new _ (list_of (parts false) ∷ []) e (listed (parts false) st (And ∷ []) x f fs refl inside after)
begun_on (parts false) st x f fs At new free inside after e =
    so st new _ (InEffect effect.StartOrEnd ∷ InEffect (effect.Effect Spread) ∷ end_of false ∷ []) e
    (timed false st x f fs (not_alone (At ∷ []) ((x ∷ f) ∷ fs) free) inside after)
begun_on (parts false) st x f fs _ new free inside after e = absurd (cc)

-- ---- effects with their time

module _ (a : Bool) (st : List Symbol) (x : Mark) (f : OpenForm) (fs : List OpenForm) (out : list_any wants_condition ((x ∷ f) ∷ fs) ≡ false) (after : Fits st ((Close ∷ x ∷ f) ∷ fs)) where
  timed_on : (m : Mark) (new : List Symbol) → is_alone (At ∷ []) ((x ∷ f) ∷ fs) ≡ a → step (InEffect effect.StartOrEnd) m ≡ Some new → Fits (new ++ (InEffect (effect.Effect Spread) ∷ end_of a ∷ st)) (forms_by ((At ∷ []) ∷ (x ∷ f) ∷ fs) m)
  timed_on Start new alone e = so (InEffect (effect.Effect Spread) ∷ end_of a ∷ st) new _ [] e (effect_in a true st x f fs alone out after)
  timed_on End new alone e = so (InEffect (effect.Effect Spread) ∷ end_of a ∷ st) new _ [] e (effect_in a false st x f fs alone out after)
  timed_on _ new alone e = absurd (cc)

  effect_in_on : (b : Bool) (m : Mark) (new : List Symbol) → is_alone (At ∷ []) ((x ∷ f) ∷ fs) ≡ a → step (InEffect (effect.Effect Spread)) m ≡ Some new → Fits (new ++ (end_of a ∷ st)) (forms_by ((moment_of b ∷ At ∷ []) ∷ (x ∷ f) ∷ fs) m)
  effect_in_on true Open new alone e =
      so (end_of a ∷ st) new _ (head_of (effects Spread) ∷ []) e
      (begun (effects Spread) (end_of a ∷ st) Start (At ∷ []) ((x ∷ f) ∷ fs) refl out (ending a st Close (Start ∷ At ∷ []) x f fs alone after))
  effect_in_on false Open new alone e =
      so (end_of a ∷ st) new _ (head_of (effects Spread) ∷ []) e
      (begun (effects Spread) (end_of a ∷ st) End (At ∷ []) ((x ∷ f) ∷ fs) refl out (ending a st Close (End ∷ At ∷ []) x f fs alone after))
  effect_in_on true _ new alone e = absurd (cc)
  effect_in_on false _ new alone e = absurd (cc)

  -- ---- a `when`, a `forall` and their bodies

  when_on : (m : Mark) (new : List Symbol) → is_alone (When ∷ []) ((x ∷ f) ∷ fs) ≡ a → step (InCondition condition.Condition) m ≡ Some new → Fits (new ++ (InEffect (effect.Body Plain) ∷ end_of a ∷ st)) (forms_by ((When ∷ []) ∷ (x ∷ f) ∷ fs) m)
  when_on Open new alone e =
      so (InEffect (effect.Body Plain) ∷ end_of a ∷ st) new _ (InCondition condition.Head ∷ []) e
      (calm true true (InCondition condition.Head ∷ []) (InEffect (effect.Body Plain) ∷ end_of a ∷ st) ([] ∷ []) ((When ∷ []) ∷ (x ∷ f) ∷ fs)
      (record { symbols = refl; count = refl; safe = refl; begun = refl; whole = λ w. (refl, omega arith) })
      (after_form true (InEffect (effect.Body Plain) ∷ end_of a ∷ st) When [] ((x ∷ f) ∷ fs) refl refl (body a false Plain st x f fs alone out after)))
  when_on _ new alone e = absurd (cc)

  forall_on : (m : Mark) (new : List Symbol) → is_alone (Forall ∷ []) ((x ∷ f) ∷ fs) ≡ a → step (InAction action.Parameters) m ≡ Some new → Fits (new ++ (InEffect (effect.Body Guarded) ∷ end_of a ∷ st)) (forms_by ((Forall ∷ []) ∷ (x ∷ f) ∷ fs) m)
  forall_on Open new alone e =
      so (InEffect (effect.Body Guarded) ∷ end_of a ∷ st) new _ (InList list.Variables ∷ []) e
      (flat (InList list.Variables ∷ []) (InEffect (effect.Body Guarded) ∷ end_of a ∷ st) [] ((Forall ∷ []) ∷ (x ∷ f) ∷ fs) refl refl refl (body a true Guarded st x f fs alone out after))
  forall_on _ new alone e = absurd (cc)

  body_on : (b : Bool) (reach : Reach) (m : Mark) (new : List Symbol) → is_alone (split_of b ∷ []) ((x ∷ f) ∷ fs) ≡ a → step (InEffect (effect.Body reach)) m ≡ Some new → Fits (new ++ (end_of a ∷ st)) (forms_by ((Close ∷ split_of b ∷ []) ∷ (x ∷ f) ∷ fs) m)
  body_on b reach Open new alone e = so (end_of a ∷ st) new _ (InEffect (effect.BodyHead reach) ∷ []) e (body_begun a b reach st x f fs alone out after)
  body_on b reach _ new alone e = absurd (cc)

  -- a body is in no condition
  body_out : (b : Bool) → list_any wants_condition ((Close ∷ split_of b ∷ []) ∷ (x ∷ f) ∷ fs) ≡ false
  body_out b = out

  body_alone : (b : Bool) (m : Mark) → is_other m ≡ true → is_alone (m ∷ []) ((Close ∷ split_of b ∷ []) ∷ (x ∷ f) ∷ fs) ≡ true
  body_alone true m other = rw (out, other) refl
  body_alone false m other = rw (out, other) refl

  body_ends : (b : Bool) → is_alone (split_of b ∷ []) ((x ∷ f) ∷ fs) ≡ a → Fits (end_of a ∷ st) ((Close ∷ Close ∷ split_of b ∷ []) ∷ (x ∷ f) ∷ fs)
  body_ends b alone = ending a st Close (Close ∷ split_of b ∷ []) x f fs alone after

  body_begun_on : (b : Bool) (reach : Reach) (m : Mark) (new : List Symbol) → is_alone (split_of b ∷ []) ((x ∷ f) ∷ fs) ≡ a → step (InEffect (effect.BodyHead reach)) m ≡ Some new → Fits (new ++ (end_of a ∷ st)) (forms_by ([] ∷ (Close ∷ split_of b ∷ []) ∷ (x ∷ f) ∷ fs) m)
  body_begun_on b reach Open new alone e = absurd (cc)
  body_begun_on b reach Close new alone e = absurd (cc)
  body_begun_on b reach And new alone e =
      so (end_of a ∷ st) new _ (list_of (effects reach) ∷ []) e
      (listed (effects reach) (end_of a ∷ st) (And ∷ []) Close (split_of b ∷ []) ((x ∷ f) ∷ fs) refl (body_out b) (body_ends b alone))
  body_begun_on b reach m new alone e =
      one_on true reach (end_of a ∷ st) Close (split_of b ∷ []) ((x ∷ f) ∷ fs) (body_out b) (body_ends b alone) m new (body_alone b m refl)
      (lone_terms (end_of a ∷ st) m [] Close (split_of b ∷ []) ((x ∷ f) ∷ fs) (body_alone b m refl) (body_ends b alone)) e

-- the terms of a fact that stands alone
lone_terms_on : (st : List Symbol) (y : Mark) (g : OpenForm) (x : Mark) (f : OpenForm) (fs : List OpenForm) (m : Mark) (new : List Symbol) → is_alone (y ∷ g) ((x ∷ f) ∷ fs) ≡ true → Fits st ((Close ∷ x ∷ f) ∷ fs) → step (InEffect effect.LoneTerms) m ≡ Some new → Fits (new ++ st) (forms_by ((y ∷ g) ∷ (x ∷ f) ∷ fs) m)
lone_terms_on st y g x f fs Open new alone after e = absurd (cc)
lone_terms_on st y g x f fs Close new alone after e = so st new _ [] e after
lone_terms_on st y g x f fs m new alone after e = so st new _ (InEffect effect.LoneTerms ∷ []) (passed (is_term m) (InEffect effect.LoneTerms ∷ []) new e).1 (lone_terms st m (y ∷ g) x f fs alone after)

-- ---- the end of a form

abbrev end_fits : Option (List Symbol) → Mark → Bool
end_fits None m = true
end_fits (Some new) m = is Close m && is_none new

end_step : (a : Bool) (m : Mark) → end_fits (step (end_of a) m) m ≡ true
end_step true = each_mark (λ m. end_fits (step (end_of true) m) m) refl
end_step false = each_mark (λ m. end_fits (step (end_of false) m) m) refl

ending_on : (a : Bool) (st : List Symbol) (g : OpenForm) (x : Mark) (f : OpenForm) (fs : List OpenForm) (m : Mark) (new : List Symbol) → Fits st ((Close ∷ x ∷ f) ∷ fs) → step (end_of a) m ≡ Some new → Fits (new ++ st) (forms_by (g ∷ (x ∷ f) ∷ fs) m)
ending_on a st g x f fs m new after e =
    let fits : end_fits (Some new) m ≡ true = subst (λ (o : Option (List Symbol)). end_fits o m ≡ true) e (end_step a m) in
    let parts = and_parts (is Close m) (is_none new) fits in
    rw (mark_is Close m parts.0, none_of new parts.1) after

rest_on : (c one : Bool) (st : List Symbol) (outer : List OpenForm) (m : Mark) (next : List Symbol) → Calm c one [] [] → Rest c one st outer → next_wanted st m ≡ Some next → Fits next (forms_by outer m)
rest_on _ _ _ _ m next before nothing_more e = absurd (cc)
rest_on _ _ _ _ m next before (its_end c a st y g x f fs safe alone inside after) e =
    let l = first_leads (end_of a) st m next e in
    rw (l.2) (ending_on a st (y ∷ g) x f fs m l.0 after l.1)
rest_on _ _ _ _ m next before (after_form c st x f fs free inside after) e = (let whole = before.whole refl in absurd (omega (arith, whole.1)))

-- ---- one mark

step_on : (st : List Symbol) (forms : List OpenForm) (m : Mark) (next : List Symbol) → Fits st forms → next_wanted st m ≡ Some next → Fits next (forms_by forms m)
step_on _ _ m next (calm c one [] st [] outer before rest) e = rest_on c one st outer m next before rest e
step_on _ _ m next (calm c one [] st (form ∷ forms) outer before rest) e = absurd (omega (arith, before.count))
step_on _ _ m next (calm c one (s ∷ top) st forms outer before rest) e =
    let l = first_leads s (top ++ st) m next e in
    rw (l.2) (calm_on c one s top st forms outer m rest before l.0 l.1)
step_on _ _ m next (flat top st form outer all free counts after) e = flat_on st form outer free counts after top m next all e
step_on _ _ m next (keyed c st f fs out after) e =
    let l = first_leads (form_of c) st m next e in
    rw (l.2) (keyed_on c st f fs m l.0 out after l.1)
step_on _ _ m next (headed c st f fs out after) e =
    let l = first_leads (form_head_of c) st m next e in
    rw (l.2) (headed_on c st f fs m l.0 out after l.1)
step_on _ _ m next (listed l st g x f fs own inside after) e =
    let n = first_leads (list_of l) st m next e in
    rw (n.2) (listed_on l st g x f fs m n.0 own inside after n.1)
step_on _ _ m next (begun l st x f fs free inside after) e =
    let n = first_leads (head_of l) st m next e in
    rw (n.2) (begun_on l st x f fs m n.0 free inside after n.1)
step_on _ _ m next (timed a st x f fs alone out after) e =
    let l = first_leads (InEffect effect.StartOrEnd) (InEffect (effect.Effect Spread) ∷ end_of a ∷ st) m next e in
    rw (l.2) (timed_on a st x f fs out after m l.0 alone l.1)
step_on _ _ m next (effect_in a b st x f fs alone out after) e =
    let l = first_leads (InEffect (effect.Effect Spread)) (end_of a ∷ st) m next e in
    rw (l.2) (effect_in_on a st x f fs out after b m l.0 alone l.1)
step_on _ _ m next (when_in a st x f fs alone out after) e =
    let l = first_leads (InCondition condition.Condition) (InEffect (effect.Body Plain) ∷ end_of a ∷ st) m next e in
    rw (l.2) (when_on a st x f fs out after m l.0 alone l.1)
step_on _ _ m next (forall_in a st x f fs alone out after) e =
    let l = first_leads (InAction action.Parameters) (InEffect (effect.Body Guarded) ∷ end_of a ∷ st) m next e in
    rw (l.2) (forall_on a st x f fs out after m l.0 alone l.1)
step_on _ _ m next (body a b reach st x f fs alone out after) e =
    let l = first_leads (InEffect (effect.Body reach)) (end_of a ∷ st) m next e in
    rw (l.2) (body_on a st x f fs out after b reach m l.0 alone l.1)
step_on _ _ m next (body_begun a b reach st x f fs alone out after) e =
    let l = first_leads (InEffect (effect.BodyHead reach)) (end_of a ∷ st) m next e in
    rw (l.2) (body_begun_on a st x f fs out after b reach m l.0 alone l.1)
step_on _ _ m next (lone_terms st y g x f fs alone after) e =
    let l = first_leads (InEffect effect.LoneTerms) st m next e in
    rw (l.2) (lone_terms_on st y g x f fs m l.0 alone after l.1)
step_on _ _ m next (ending a st y g x f fs alone after) e =
    let l = first_leads (end_of a) st m next e in
    rw (l.2) (ending_on a st (y ∷ g) x f fs m l.0 after l.1)

steps_on : (st end : List Symbol) (forms : List OpenForm) (ms : List Mark) → Fits st forms → Leads st ms end → Fits end (forms_from forms ms)
steps_on _ _ forms _ fit (no_mark st) = fit
steps_on _ _ forms _ fit (one_mark st next end m ms e rest) = steps_on next end (forms_by forms m) ms (step_on st forms m next fit e) rest

pub text_fits : (ms : List Mark) → IsFront IsDomainShape ms → Fits (wanted ms) (open_forms ms)
text_fits ms front =
    let start : Fits text_start [] = calm false false text_start [] [] [] (record { symbols = refl; count = refl; safe = refl; begun = refl; whole = λ w. absurd (cc) }) nothing_more in
    steps_on text_start (wanted ms) [] ms start (front_leads text_start ms front)
