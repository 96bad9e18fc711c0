-- What one word tells where a symbol is wanted (`told`), and which words fit there (`fits`).
use Rattle.std.proofs.Common.{◌≡◌, suc, ◌<◌, Bool, true, false, List, [], ◌∷◌, ◌++◌, Option, None, Some, refl, sym, subst, ◌⊎◌, inl, inr, arith}
use Rattle.std.specs.List.{list_all}
use Rattle.std.specs.Option.{option_and_then}
use denote.Enum.Bare.{same_true}
use Rattle.ps_grammar.specs.contracts.marks.Mark.{the_type}
use Rattle.ps_grammar.specs.Marks.{is, is_name, is_term, is_keyword, is_change, is_predicate_name, is_fact_name}
use Rattle.ps_grammar.specs.Rules.{where_it_is, once, one_effect_rule}
use Rattle.ps_grammar.specs.Shape.{deepest}
use Rattle.ps_grammar.specs.Symbols.{has_forall, has_when, level}
use Rattle.ps_grammar.specs.declared.marks.Mark.{Mark}
use Rattle.ps_grammar.specs.declared.marks.Mark.TheVariants as mark
use Rattle.ps_grammar.specs.declared.symbols.Symbol.{Symbol}
use Rattle.ps_grammar.specs.declared.symbols.Symbol.TheVariants.{The, AnyName, InText, InList, InAction, InCondition, InEffect, InValue}
use Rattle.ps_grammar.specs.declared.symbols.Reach.{Reach}
use Rattle.ps_grammar.specs.declared.symbols.Reach.TheVariants.{Spread, Guarded, Plain}
use Rattle.ps_grammar.specs.declared.symbols.Seen.{Seen}
use Rattle.ps_grammar.specs.declared.symbols.ListPart.{ListPart}
use Rattle.ps_grammar.specs.declared.symbols.TextPart.TheVariants as text
use Rattle.ps_grammar.specs.declared.symbols.ListPart.TheVariants as list
use Rattle.ps_grammar.specs.declared.symbols.ActionPart.TheVariants as action
use Rattle.ps_grammar.specs.declared.symbols.ConditionPart.TheVariants as condition
use Rattle.ps_grammar.specs.declared.symbols.EffectPart.TheVariants as effect
use Rattle.ps_grammar.specs.declared.symbols.ValuePart.TheVariants as value
use Rattle.ps_lists.specs.Conditions.{is_operator, is_relation}
use Rattle.ps_lists.specs.Grammar.{is_moment}
use Rattle.ps_lists.specs.TypedLists.{is_variable}
use Rattle.ps_lists.proofs.Balance.{each_mark, every_mark}
use Rattle.ps_lists.proofs.Taking.{Follows, after_word, allowed, of_allowed, opens_word, to_allowed, word_step}

-- a word with this mark fits where the symbol is wanted before others, and what is wanted after it is so
abbrev pub Fits : List Symbol → (List Symbol → Type 0) → Symbol → Mark → Type 0
Fits st After s m = Follows After (after_word (s ∷ st) m)

abbrev refuses : Option (List Symbol) → Bool
refuses None = true
refuses (Some new) = false

nothing_new : (o : Option (List Symbol)) (st : List Symbol) (After : List Symbol → Type 0) → refuses o ≡ true → Follows After (option_and_then (λ new. Some (new ++ st)) o) → ⊥
nothing_new None st After e h = h
nothing_new (Some new) st After e h = absurd (cc)

-- no word fits where none may stand
pub no_word : (s : Symbol) → list_all (λ m. refuses (word_step s m)) every_mark ≡ true → (st : List Symbol) (After : List Symbol → Type 0) (m : Mark) → Fits st After s m → ⊥
no_word s all st After m h =
    nothing_new (word_step s m) st After (each_mark (λ n. refuses (word_step s n)) all m) (of_allowed (opens_word s m) (level (s ∷ st)) After (option_and_then (λ new. Some (new ++ st)) (word_step s m)) h).1

module _ (st : List Symbol) (After : List Symbol → Type 0) where
  -- a word with this mark fits where the mark does
  pub at_mark : (s : Symbol) (m n : Mark) → m ≡ n → Fits st After s n → Fits st After s m
  at_mark s m n e h = subst (λ (x : Mark). Fits st After s x) (sym e) h

  passed : (b : Bool) (new : List Symbol) → Follows After (option_and_then (λ n. Some (n ++ st)) (where_it_is b new)) → (b ≡ true) × After (new ++ st)
  passed true new h = (refl, h)
  passed false new h = absurd h

  passes : (b : Bool) (new : List Symbol) → b ≡ true → After (new ++ st) → Follows After (option_and_then (λ n. Some (n ++ st)) (where_it_is b new))
  passes true new e h = h
  passes false new e h = absurd (cc)

  -- ---- single words

  pub the_told : (n m : Mark) → Fits st After (The n) m → (m ≡ n) × After st
  the_told n mark.Open h = absurd h
  the_told n mark.Close h = absurd h
  the_told n m h =
      let same = passed (is n m) [] h in
      (same_true the_type tt m n same.0, same.1)

  pub name_told : (m : Mark) → Fits st After AnyName m → (is_name m ≡ true) × After st
  name_told mark.Open h = absurd h
  name_told m h = passed (is_name m) [] h

  pub name_fits : (m : Mark) → is_name m ≡ true → After st → Fits st After AnyName m
  name_fits mark.Open e h = absurd (cc)
  name_fits m e h = passes (is_name m) [] e h

  -- ---- terms and values

  pub term_told : (m : Mark) → Fits st After (InValue value.Terms) m → (is_term m ≡ true) × After (InValue value.Terms ∷ st)
  term_told mark.Variable h = (refl, h)
  term_told m h = passed (is_name m) (InValue value.Terms ∷ []) h

  pub term_fits : (m : Mark) → is_term m ≡ true → After (InValue value.Terms ∷ st) → Fits st After (InValue value.Terms) m
  term_fits mark.Variable e h = h
  term_fits m e h = passes (is_name m) (InValue value.Terms ∷ []) e h

  pub value_told : (m : Mark) → Fits st After (InValue value.Value) m → ((m ≡ mark.Number) ⊎ (is_term m ≡ true)) × After st
  value_told mark.Number h = (inl refl, h)
  value_told mark.Variable h = (inr refl, h)
  value_told m h = let name = passed (is_name m) [] h in (inr name.0, name.1)

  pub value_fits : (m : Mark) → is_term m ≡ true → After st → Fits st After (InValue value.Value) m
  value_fits mark.Number e h = h
  value_fits mark.Variable e h = h
  value_fits m e h = passes (is_name m) [] e h

  pub last_value_told : (m : Mark) → Fits st After (InValue value.ValueOrEnd) m → Fits (The mark.Close ∷ st) After (InValue value.Value) m
  last_value_told mark.Variable h = h
  last_value_told m h = h

  pub last_value_fits : (m : Mark) → Fits (The mark.Close ∷ st) After (InValue value.Value) m → Fits st After (InValue value.ValueOrEnd) m
  last_value_fits mark.Variable h = h
  last_value_fits m h = h

  pub value_head_told : (m : Mark) → Fits st After (InValue value.Head) m → (m ≡ mark.Minus) × After (InValue value.Value ∷ InValue value.ValueOrEnd ∷ st) ⊎ ((is_operator m ≡ true) × After (InValue value.Value ∷ InValue value.Value ∷ The mark.Close ∷ st) ⊎ (is_name m ≡ true) × After (InValue value.Terms ∷ st))
  value_head_told mark.Minus h = inl (refl, h)
  value_head_told mark.Plus h = inr (inl (refl, h))
  value_head_told mark.Times h = inr (inl (refl, h))
  value_head_told mark.Divide h = inr (inl (refl, h))
  value_head_told m h = inr (inr (passed (is_name m) (InValue value.Terms ∷ []) h))

  pub operator_fits : (m : Mark) → is_operator m ≡ true → After (InValue value.Value ∷ InValue value.ValueOrEnd ∷ st) → After (InValue value.Value ∷ InValue value.Value ∷ The mark.Close ∷ st) → Fits st After (InValue value.Head) m
  operator_fits mark.Minus e h k = h
  operator_fits mark.Plus e h k = k
  operator_fits mark.Times e h k = k
  operator_fits mark.Divide e h k = k
  operator_fits m e h k = absurd (cc)

  pub function_fits : (m : Mark) → is_name m ≡ true → After (InValue value.Terms ∷ st) → Fits st After (InValue value.Head) m
  function_fits mark.Minus e h = absurd (cc)
  function_fits mark.Plus e h = absurd (cc)
  function_fits mark.Times e h = absurd (cc)
  function_fits mark.Divide e h = absurd (cc)
  function_fits m e h = passes (is_name m) (InValue value.Terms ∷ []) e h

  -- ---- conditions

  -- the head of several conditions, of one or two, of a quantifier, of a comparison, or of a fact
  pub condition_head_told : (m : Mark) → Fits st After (InCondition condition.Head) m
      → (((m ≡ mark.And) × After (InCondition condition.Conditions ∷ st) ⊎ (m ≡ mark.Or) × After (InCondition condition.Conditions ∷ st))
      ⊎ ((m ≡ mark.Not) × After (InCondition condition.Condition ∷ The mark.Close ∷ st) ⊎ (m ≡ mark.Imply) × After (InCondition condition.Condition ∷ InCondition condition.Condition ∷ The mark.Close ∷ st)))
      ⊎ (((m ≡ mark.Exists) ⊎ (m ≡ mark.Forall)) × After (InAction action.Parameters ∷ InCondition condition.Condition ∷ The mark.Close ∷ st)
      ⊎ ((is_relation m ≡ true) × After (InValue value.Value ∷ InValue value.Value ∷ The mark.Close ∷ st) ⊎ (is_fact_name m ≡ true) × After (InValue value.Terms ∷ st)))
  condition_head_told mark.And h = inl (inl (inl (refl, h)))
  condition_head_told mark.Or h = inl (inl (inr (refl, h)))
  condition_head_told mark.Not h = inl (inr (inl (refl, h)))
  condition_head_told mark.Imply h = inl (inr (inr (refl, h)))
  condition_head_told mark.Exists h = inr (inl (inl refl, h))
  condition_head_told mark.Forall h = inr (inl (inr refl, h))
  condition_head_told mark.Equal h = inr (inr (inl (refl, h)))
  condition_head_told mark.Less h = inr (inr (inl (refl, h)))
  condition_head_told mark.LessEqual h = inr (inr (inl (refl, h)))
  condition_head_told mark.GreaterEqual h = inr (inr (inl (refl, h)))
  condition_head_told mark.Greater h = inr (inr (inl (refl, h)))
  condition_head_told m h = inr (inr (inr (passed (is_fact_name m) (InValue value.Terms ∷ []) h)))

  pub relation_fits : (m : Mark) → is_relation m ≡ true → After (InValue value.Value ∷ InValue value.Value ∷ The mark.Close ∷ st) → Fits st After (InCondition condition.Head) m
  relation_fits mark.Equal e h = h
  relation_fits mark.Less e h = h
  relation_fits mark.LessEqual e h = h
  relation_fits mark.GreaterEqual e h = h
  relation_fits mark.Greater e h = h
  relation_fits m e h = absurd (cc)

  pub fact_fits : (m : Mark) → is_fact_name m ≡ true → After (InValue value.Terms ∷ st) → Fits st After (InCondition condition.Head) m
  fact_fits mark.And e h = absurd (cc)
  fact_fits mark.Not e h = absurd (cc)
  fact_fits mark.Or e h = absurd (cc)
  fact_fits mark.Imply e h = absurd (cc)
  fact_fits mark.Exists e h = absurd (cc)
  fact_fits mark.Forall e h = absurd (cc)
  fact_fits mark.Equal e h = absurd (cc)
  fact_fits mark.Less e h = absurd (cc)
  fact_fits mark.LessEqual e h = absurd (cc)
  fact_fits mark.GreaterEqual e h = absurd (cc)
  fact_fits mark.Greater e h = absurd (cc)
  fact_fits m e h = passes (is_fact_name m) (InValue value.Terms ∷ []) e h

  pub moment_told : (m : Mark) → Fits st After (InEffect effect.StartOrEnd) m → (is_moment m ≡ true) × After st
  moment_told mark.Start h = (refl, h)
  moment_told mark.End h = (refl, h)
  moment_told _ h = absurd h

  pub moment_fits : (m : Mark) → is_moment m ≡ true → After st → Fits st After (InEffect effect.StartOrEnd) m
  moment_fits mark.Start e h = h
  moment_fits mark.End e h = h
  moment_fits _ e h = absurd (cc)

  pub timed_head_told : (m : Mark) → Fits st After (InCondition condition.TimedHead) m → (m ≡ mark.And) × After (InCondition condition.TimedList ∷ st) ⊎ ((m ≡ mark.At) × After (InEffect effect.StartOrEnd ∷ InCondition condition.Condition ∷ The mark.Close ∷ st) ⊎ (m ≡ mark.Over) × After (The mark.All ∷ InCondition condition.Condition ∷ The mark.Close ∷ st))
  timed_head_told mark.And h = inl (refl, h)
  timed_head_told mark.At h = inr (inl (refl, h))
  timed_head_told mark.Over h = inr (inr (refl, h))
  timed_head_told _ h = absurd h

  pub form_head_told : (m : Mark) → Fits st After (InCondition condition.FormHead) m → (m ≡ mark.And) × After (InCondition condition.TimedList ∷ st) ⊎ ((m ≡ mark.At) × After (InEffect effect.StartOrEnd ∷ InCondition condition.Condition ∷ InEffect effect.FormEnd ∷ st) ⊎ (m ≡ mark.Over) × After (The mark.All ∷ InCondition condition.Condition ∷ InEffect effect.FormEnd ∷ st))
  form_head_told mark.And h = inl (refl, h)
  form_head_told mark.At h = inr (inl (refl, h))
  form_head_told mark.Over h = inr (inr (refl, h))
  form_head_told _ h = absurd h

  -- ---- effects

  -- these symbols follow the head of an effect, where they do
  abbrev pub HasHead : Reach → Symbol → Symbol → Mark → Type 0
  HasHead reach terms end m = Follows After (option_and_then (λ n. Some (n ++ st)) (one_effect_rule reach terms end m))

  -- the head of an effect but `and`, by what is wanted after it
  abbrev pub IsHead : Reach → Symbol → Symbol → Mark → Type 0
  IsHead reach terms end m =
      ((m ≡ mark.Not) × After (InValue value.Atom ∷ end ∷ st) ⊎ (is_change m ≡ true) × After (InValue value.Atom ∷ InValue value.Value ∷ end ∷ st))
      ⊎ ((((has_when reach ≡ true) × (m ≡ mark.When)) × After (InCondition condition.Condition ∷ InEffect (effect.Body Plain) ∷ end ∷ st) ⊎ ((has_forall reach ≡ true) × (m ≡ mark.Forall)) × After (InAction action.Parameters ∷ InEffect (effect.Body Guarded) ∷ end ∷ st))
      ⊎ (is_predicate_name m ≡ true) × After (terms ∷ st))

  pub head_told : (reach : Reach) (terms end : Symbol) (m : Mark) → HasHead reach terms end m → IsHead reach terms end m
  head_told reach terms end mark.Not h = inl (inl (refl, h))
  head_told reach terms end mark.Assign h = inl (inr (refl, h))
  head_told reach terms end mark.Increase h = inl (inr (refl, h))
  head_told reach terms end mark.Decrease h = inl (inr (refl, h))
  head_told reach terms end mark.ScaleUp h = inl (inr (refl, h))
  head_told reach terms end mark.ScaleDown h = inl (inr (refl, h))
  head_told reach terms end mark.When h =
      let has = passed (has_when reach) (InCondition condition.Condition ∷ InEffect (effect.Body Plain) ∷ end ∷ []) h in
      inr (inl (inl ((has.0, refl), has.1)))
  head_told reach terms end mark.Forall h =
      let has = passed (has_forall reach) (InAction action.Parameters ∷ InEffect (effect.Body Guarded) ∷ end ∷ []) h in
      inr (inl (inr ((has.0, refl), has.1)))
  head_told reach terms end m h = inr (inr (passed (is_predicate_name m) (terms ∷ []) h))

  pub effect_head_told : (reach : Reach) (m : Mark) → Fits st After (InEffect (effect.Head reach)) m → (m ≡ mark.And) × After (InEffect (effect.Effects reach) ∷ st) ⊎ IsHead reach (InValue value.Terms) (The mark.Close) m
  effect_head_told reach mark.And h = inl (refl, h)
  effect_head_told reach mark.Open h = absurd h
  effect_head_told reach mark.Close h = absurd h
  effect_head_told reach m h = inr (head_told reach (InValue value.Terms) (The mark.Close) m h)

  lone_told : (reach : Reach) (m : Mark) → Follows After (allowed true (level (InEffect (effect.BodyHead reach) ∷ st)) (option_and_then (λ n. Some (n ++ st)) (one_effect_rule reach (InEffect effect.LoneTerms) (InEffect effect.FormEnd) m))) → (suc (level st) < deepest) × IsHead reach (InEffect effect.LoneTerms) (InEffect effect.FormEnd) m
  lone_told reach m h =
      let both = of_allowed true (level (InEffect (effect.BodyHead reach) ∷ st)) After (option_and_then (λ n. Some (n ++ st)) (one_effect_rule reach (InEffect effect.LoneTerms) (InEffect effect.FormEnd) m)) h in
      let below : level (InEffect (effect.BodyHead reach) ∷ st) < deepest = both.0 refl in
      (omega (arith, below), head_told reach (InEffect effect.LoneTerms) (InEffect effect.FormEnd) m both.1)

  -- in a body, a head but `and` opens a level too
  pub body_head_told : (reach : Reach) (m : Mark) → Fits st After (InEffect (effect.BodyHead reach)) m → (m ≡ mark.And) × After (InEffect (effect.Effects reach) ∷ st) ⊎ (suc (level st) < deepest) × IsHead reach (InEffect effect.LoneTerms) (InEffect effect.FormEnd) m
  body_head_told reach mark.And h = inl (refl, h)
  body_head_told reach mark.Open h = absurd h
  body_head_told reach mark.Close h = absurd h
  body_head_told reach m h = inr (lone_told reach m h)

  pub head_fits : (reach : Reach) (m : Mark) → HasHead reach (InValue value.Terms) (The mark.Close) m → Fits st After (InEffect (effect.Head reach)) m
  head_fits reach mark.And h = absurd h
  head_fits reach m h = h

  pub body_head_fits : (reach : Reach) (m : Mark) → suc (level st) < deepest → HasHead reach (InEffect effect.LoneTerms) (InEffect effect.FormEnd) m → Fits st After (InEffect (effect.BodyHead reach)) m
  body_head_fits reach mark.And below h = absurd h
  body_head_fits reach mark.Open below h = absurd h
  body_head_fits reach mark.Close below h = absurd h
  body_head_fits reach m below h =
      to_allowed true (level (InEffect (effect.BodyHead reach) ∷ st)) After (option_and_then (λ n. Some (n ++ st)) (one_effect_rule reach (InEffect effect.LoneTerms) (InEffect effect.FormEnd) m)) (λ _. omega (arith, below)) h

  pub change_fits : (reach : Reach) (terms end : Symbol) (m : Mark) → is_change m ≡ true → After (InValue value.Atom ∷ InValue value.Value ∷ end ∷ st) → HasHead reach terms end m
  change_fits reach terms end mark.Assign e h = h
  change_fits reach terms end mark.Increase e h = h
  change_fits reach terms end mark.Decrease e h = h
  change_fits reach terms end mark.ScaleUp e h = h
  change_fits reach terms end mark.ScaleDown e h = h
  change_fits reach terms end m e h = absurd (cc)

  pub predicate_fits : (reach : Reach) (terms end : Symbol) (m : Mark) → is_predicate_name m ≡ true → After (terms ∷ st) → HasHead reach terms end m
  predicate_fits reach terms end mark.Not e h = absurd (cc)
  predicate_fits reach terms end mark.When e h = absurd (cc)
  predicate_fits reach terms end mark.Forall e h = absurd (cc)
  predicate_fits reach terms end mark.Assign e h = absurd (cc)
  predicate_fits reach terms end mark.Increase e h = absurd (cc)
  predicate_fits reach terms end mark.Decrease e h = absurd (cc)
  predicate_fits reach terms end mark.ScaleUp e h = absurd (cc)
  predicate_fits reach terms end mark.ScaleDown e h = absurd (cc)
  predicate_fits reach terms end m e h = passes (is_predicate_name m) (terms ∷ []) e h

  pub not_fits : (reach : Reach) (terms end : Symbol) (m : Mark) → m ≡ mark.Not → After (InValue value.Atom ∷ end ∷ st) → HasHead reach terms end m
  not_fits reach terms end m e h = subst (λ (x : Mark). HasHead reach terms end x) (sym e) h

  pub when_fits : (reach : Reach) (terms end : Symbol) (m : Mark) → has_when reach ≡ true → m ≡ mark.When → After (InCondition condition.Condition ∷ InEffect (effect.Body Plain) ∷ end ∷ st) → HasHead reach terms end m
  when_fits reach terms end m has e h =
      subst (λ (x : Mark). HasHead reach terms end x) (sym e) (passes (has_when reach) (InCondition condition.Condition ∷ InEffect (effect.Body Plain) ∷ end ∷ []) has h)

  pub forall_fits : (reach : Reach) (terms end : Symbol) (m : Mark) → has_forall reach ≡ true → m ≡ mark.Forall → After (InAction action.Parameters ∷ InEffect (effect.Body Guarded) ∷ end ∷ st) → HasHead reach terms end m
  forall_fits reach terms end m has e h =
      subst (λ (x : Mark). HasHead reach terms end x) (sym e) (passes (has_forall reach) (InAction action.Parameters ∷ InEffect (effect.Body Guarded) ∷ end ∷ []) has h)

  pub lone_term_told : (m : Mark) → Fits st After (InEffect effect.LoneTerms) m → (is_term m ≡ true) × After (InEffect effect.LoneTerms ∷ st)
  lone_term_told mark.Open h = absurd h
  lone_term_told mark.Close h = absurd h
  lone_term_told m h = passed (is_term m) (InEffect effect.LoneTerms ∷ []) h

  pub lone_term_fits : (m : Mark) → is_term m ≡ true → After (InEffect effect.LoneTerms ∷ st) → Fits st After (InEffect effect.LoneTerms) m
  lone_term_fits mark.Open e h = absurd (cc)
  lone_term_fits mark.Close e h = absurd (cc)
  lone_term_fits m e h = passes (is_term m) (InEffect effect.LoneTerms ∷ []) e h

  pub timed_effect_head_told : (m : Mark) → Fits st After (InEffect effect.TimedHead) m → (m ≡ mark.And) × After (InEffect effect.TimedList ∷ st) ⊎ (m ≡ mark.At) × After (InEffect effect.StartOrEnd ∷ InEffect (effect.Effect Spread) ∷ The mark.Close ∷ st)
  timed_effect_head_told mark.And h = inl (refl, h)
  timed_effect_head_told mark.At h = inr (refl, h)
  timed_effect_head_told _ h = absurd h

  pub effect_form_head_told : (m : Mark) → Fits st After (InEffect effect.FormHead) m → (m ≡ mark.And) × After (InEffect effect.TimedList ∷ st) ⊎ (m ≡ mark.At) × After (InEffect effect.StartOrEnd ∷ InEffect (effect.Effect Spread) ∷ InEffect effect.FormEnd ∷ st)
  effect_form_head_told mark.And h = inl (refl, h)
  effect_form_head_told mark.At h = inr (refl, h)
  effect_form_head_told _ h = absurd h

  -- ---- lists of names

  pub keyword_told : (m : Mark) → Fits st After (InList list.Keywords) m → (is_keyword m ≡ true) × After (InList list.Keywords ∷ st)
  keyword_told mark.Open h = absurd h
  keyword_told m h = passed (is_keyword m) (InList list.Keywords ∷ []) h

  pub keyword_fits : (m : Mark) → is_keyword m ≡ true → After (InList list.Keywords ∷ st) → Fits st After (InList list.Keywords) m
  keyword_fits mark.Open e h = absurd (cc)
  keyword_fits m e h = passes (is_keyword m) (InList list.Keywords ∷ []) e h

  pub first_name_told : (m : Mark) → Fits st After (InList list.Names) m → (is_name m ≡ true) × After (InList list.NameRun ∷ st)
  first_name_told mark.Open h = absurd h
  first_name_told m h = passed (is_name m) (InList list.NameRun ∷ []) h

  pub first_name_fits : (m : Mark) → is_name m ≡ true → After (InList list.NameRun ∷ st) → Fits st After (InList list.Names) m
  first_name_fits mark.Open e h = absurd (cc)
  first_name_fits m e h = passes (is_name m) (InList list.NameRun ∷ []) e h

  pub next_name_told : (m : Mark) → Fits st After (InList list.NameRun) m → (m ≡ mark.Minus) × After (InList list.TypeName ∷ InList list.Names ∷ st) ⊎ (is_name m ≡ true) × After (InList list.NameRun ∷ st)
  next_name_told mark.Minus h = inl (refl, h)
  next_name_told m h = inr (passed (is_name m) (InList list.NameRun ∷ []) h)

  pub next_name_fits : (m : Mark) → is_name m ≡ true → After (InList list.NameRun ∷ st) → Fits st After (InList list.NameRun) m
  next_name_fits mark.Minus e h = absurd (cc)
  next_name_fits m e h = passes (is_name m) (InList list.NameRun ∷ []) e h

  pub type_told : (m : Mark) → Fits st After (InList list.TypeName) m → (is_name m ≡ true) × After st
  type_told mark.Open h = absurd h
  type_told m h = passed (is_name m) [] h

  pub type_fits : (m : Mark) → is_name m ≡ true → After st → Fits st After (InList list.TypeName) m
  type_fits mark.Open e h = absurd (cc)
  type_fits m e h = passes (is_name m) [] e h

  pub first_variable_told : (m : Mark) → Fits st After (InList list.Variables) m → (is_variable m ≡ true) × After (InList list.VariableRun ∷ st)
  first_variable_told mark.Variable h = (refl, h)
  first_variable_told _ h = absurd h

  pub first_variable_fits : (m : Mark) → is_variable m ≡ true → After (InList list.VariableRun ∷ st) → Fits st After (InList list.Variables) m
  first_variable_fits mark.Variable e h = h
  first_variable_fits _ e h = absurd (cc)

  pub next_variable_told : (m : Mark) → Fits st After (InList list.VariableRun) m → (m ≡ mark.Minus) × After (InList list.TypeName ∷ InList list.Variables ∷ st) ⊎ (is_variable m ≡ true) × After (InList list.VariableRun ∷ st)
  next_variable_told mark.Minus h = inl (refl, h)
  next_variable_told mark.Variable h = inr (refl, h)
  next_variable_told _ h = absurd h

  pub next_variable_fits : (m : Mark) → is_variable m ≡ true → After (InList list.VariableRun ∷ st) → Fits st After (InList list.VariableRun) m
  next_variable_fits mark.Variable e h = h
  next_variable_fits _ e h = absurd (cc)

  pub predicate_told : (m : Mark) → Fits st After (InList list.PredicateHead) m → (is_predicate_name m ≡ true) × After st
  predicate_told mark.Open h = absurd h
  predicate_told m h = passed (is_predicate_name m) [] h

  pub declared_predicate_fits : (m : Mark) → is_predicate_name m ≡ true → After st → Fits st After (InList list.PredicateHead) m
  declared_predicate_fits mark.Open e h = absurd (cc)
  declared_predicate_fits m e h = passes (is_predicate_name m) [] e h

  pub function_run_told : (m : Mark) → Fits st After (InList list.FunctionRun) m → (m ≡ mark.Minus) × After (InList list.FunctionType ∷ InList list.Functions ∷ st)
  function_run_told mark.Minus h = (refl, h)
  function_run_told _ h = absurd h

  pub number_told : (m : Mark) → Fits st After (InList list.FunctionType) m → (m ≡ mark.NumberWord) × After st
  number_told mark.NumberWord h = (refl, h)
  number_told _ h = absurd h

  -- ---- actions and sections

  pub parameters_told : (m : Mark) → Fits st After (InAction action.AfterName) m → (m ≡ mark.Parameters) × After (InAction action.Parameters ∷ InAction action.AfterParameters ∷ st)
  parameters_told mark.Parameters h = (refl, h)
  parameters_told _ h = absurd h

  pub duration_key_told : (m : Mark) → Fits st After (InAction action.AfterParameters) m → (m ≡ mark.DurationKey) × After (InAction action.Duration ∷ InAction action.AfterDuration ∷ st)
  duration_key_told mark.DurationKey h = (refl, h)
  duration_key_told _ h = absurd h

  pub equal_told : (m : Mark) → Fits st After (InAction action.DurationHead) m → (m ≡ mark.Equal) × After (The mark.Duration ∷ InValue value.Value ∷ The mark.Close ∷ st)
  equal_told mark.Equal h = (refl, h)
  equal_told _ h = absurd h

  pub after_duration_told : (m : Mark) → Fits st After (InAction action.AfterDuration) m → (m ≡ mark.ConditionKey) × After (InCondition condition.Form ∷ InAction action.AfterCondition ∷ st) ⊎ (m ≡ mark.EffectKey) × After (InEffect effect.Form ∷ The mark.Close ∷ st)
  after_duration_told mark.ConditionKey h = inl (refl, h)
  after_duration_told mark.EffectKey h = inr (refl, h)
  after_duration_told _ h = absurd h

  pub after_condition_told : (m : Mark) → Fits st After (InAction action.AfterCondition) m → (m ≡ mark.EffectKey) × After (InEffect effect.Form ∷ The mark.Close ∷ st)
  after_condition_told mark.EffectKey h = (refl, h)
  after_condition_told _ h = absurd h

  pub domain_told : (m : Mark) → Fits st After (InText text.TitleWord) m → (m ≡ mark.Domain) × After st
  domain_told mark.Domain h = (refl, h)
  domain_told _ h = absurd h

  first_time : (n : Mark) (before : Bool) (part : ListPart) (seen : Seen) → Follows After (option_and_then (λ new. Some (new ++ st)) (once before part seen)) → (n ≡ n) × (before ≡ false) × After (InList part ∷ InText (text.Sections seen) ∷ st)
  first_time n true part seen h = absurd h
  first_time n false part seen h = (refl, refl, h)

  pub once_fits : (before : Bool) (part : ListPart) (seen : Seen) → before ≡ false → After (InList part ∷ InText (text.Sections seen) ∷ st) → Follows After (option_and_then (λ new. Some (new ++ st)) (once before part seen))
  once_fits true part seen e h = absurd (cc)
  once_fits false part seen e h = h

  -- the mark begins a section that did not stand before, and its list is wanted
  abbrev pub Begins : Mark → Mark → Bool → ListPart → Seen → Type 0
  Begins m n before part seen = (m ≡ n) × (before ≡ false) × After (InList part ∷ InText (text.Sections seen) ∷ st)

  pub section_told : (seen : Seen) (m : Mark) → Fits st After (InText (text.SectionHead seen)) m → ((Begins m mark.Requirements seen.requirements list.Keywords (record seen { requirements = true }) ⊎ Begins m mark.Types seen.types list.Names (record seen { types = true })) ⊎ (Begins m mark.Constants seen.constants list.Names (record seen { constants = true }) ⊎ Begins m mark.Predicates seen.predicates list.Predicates (record seen { predicates = true }))) ⊎ (Begins m mark.Functions seen.functions list.Functions (record seen { functions = true }) ⊎ (m ≡ mark.DurativeAction) × After (AnyName ∷ InAction action.AfterName ∷ InText (text.Sections seen) ∷ st))
  section_told seen mark.Requirements h = inl (inl (inl (first_time mark.Requirements seen.requirements list.Keywords (record seen { requirements = true }) h)))
  section_told seen mark.Types h = inl (inl (inr (first_time mark.Types seen.types list.Names (record seen { types = true }) h)))
  section_told seen mark.Constants h = inl (inr (inl (first_time mark.Constants seen.constants list.Names (record seen { constants = true }) h)))
  section_told seen mark.Predicates h = inl (inr (inr (first_time mark.Predicates seen.predicates list.Predicates (record seen { predicates = true }) h)))
  section_told seen mark.Functions h = inr (inl (first_time mark.Functions seen.functions list.Functions (record seen { functions = true }) h))
  section_told seen mark.DurativeAction h = inr (inr (refl, h))
  section_told seen _ h = absurd h
