-- What a condition means.
use Rattle.std.specs.Prelude.{if◌then◌else◌, Bool, true, false, Option, Some, None, List, [], ◌∷◌, ◌++◌}
use Rattle.ps_world.specs.Trees.{CondTree}
use Rattle.ps_world.specs.ExprViews.{expr_tree}
use Rattle.ps_world.specs.CondViews.{cond_tree}
use Rattle.ps_world.specs.declared.domains.Param.{Param}
use Rattle.ps_world.specs.declared.conditions.Rel.{Rel}
use Rattle.ps_world.specs.declared.conditions.Rel.TheVariants.{Eq}
use Rattle.ps_world.specs.declared.conditions.Cond.{Cond}
use Rattle.ps_world.specs.declared.conditions.Cond.TheVariants as cond
use Rattle.ps_grammar.specs.Marks.{is}
use Rattle.ps_grammar.specs.declared.marks.Mark.TheVariants.{Number}
use Rattle.ps_lists.specs.Nested.{Nested, Nesteds, word, group, none, more}
use Rattle.ps_lists.specs.Places.{items, word_of}
use Rattle.ps_lists.specs.declared.lexemes.Lexeme.{Lexeme}
use Rattle.ps_conditions.specs.Signs.{by_head, head_of, rel_of}
use Rattle.ps_conditions.specs.Steps.{Steps}
use Rattle.ps_conditions.specs.Values.{value}
use Rattle.ps_conditions.specs.Words.{Scopes, Words}

-- the empty condition, which is true
abbrev pub nothing : Cond
nothing = cond.And []

-- (REL X X)
abbrev pub comparison : (s : Steps) → Words s → Rel → Nested → Nested → s.Step Cond
comparison s w rel a b = s.then (value s w a) (λ a. s.then (value s w b) (λ b. s.done (cond.Cmp rel (expr_tree a) (expr_tree b))))

-- (= TERM TERM), by the word that the first operand is
abbrev pub same_as : (s : Steps) → Words s → Lexeme → Nested → s.Step Cond
same_as s w first b = s.then (w.term first) (λ a. s.then (w.second first b) (λ b. s.done (cond.Same a b)))

-- (= TERM TERM) | (= X X): numbers are compared where the first operand is a number or a parenthesis
abbrev pub equality : (s : Steps) → Words s → Nested → Nested → s.Step Cond
equality s w (group ts) b = comparison s w Eq (group ts) b
equality s w (word l) b = if is Number l.mark then comparison s w Eq (word l) b else same_as s w l b

-- (NAME TERM*)
abbrev pub stated : (s : Steps) → Words s → Lexeme → Nesteds → s.Step Cond
stated s w l ts = s.then (w.fact l ts) (λ f. s.done (cond.Holds f))

-- (= TERM TERM) | (REL X X), or else another condition
abbrev pub related : (s : Steps) → Words s → Option Rel → Nested → Nested → s.Step Cond → s.Step Cond
related s w None a b other = other
related s w (Some Eq) a b other = equality s w a b
related s w (Some rel) a b other = comparison s w rel a b

-- (NAME TERM*) | (= TERM TERM) | (REL X X), where REL is < <= = >= >
abbrev pub plain_condition : (s : Steps) → Words s → Lexeme → Nesteds → s.Step Cond
plain_condition s w l none = stated s w l none
plain_condition s w l (more a none) = stated s w l (more a none)
plain_condition s w l (more a (more b ts)) = related s w (rel_of l.mark) a b (stated s w l (more a (more b ts)))

-- a quantifier with its variables and its condition: of each choice, or of some
abbrev pub quantifier : Bool → List Param → CondTree → Cond
quantifier true qs c = cond.ForAll qs c
quantifier false qs c = cond.ForSome qs c

abbrev mutual
  -- C: (and C*) | (or C*) | (not C) | (imply C C) | (exists (VLIST) C) | (forall (VLIST) C) | (NAME TERM*) | (= TERM TERM) | (REL X X), where these
  -- variables are in force
  pub condition : (s : Steps) → Scopes s → List Param → Nested → s.Step Cond
  condition s w ps (word l) = s.done nothing
  condition s w ps (group ts) = form s w ps ts

  -- a head and what follows it
  pub form : (s : Steps) → Scopes s → List Param → Nesteds → s.Step Cond
  form s w ps none = s.done nothing
  form s w ps (more f ts) = by_head (head_of (word_of f).mark) (record {
    all = s.then (conditions s w ps ts []) (λ cs. s.done (cond.And cs));
    any = s.then (conditions s w ps ts []) (λ cs. s.done (cond.Or cs));
    no = negation s w ps ts;
    implied = implication s w ps ts;
    for_some = quantified s w ps false ts;
    for_all = quantified s w ps true ts;
    plain = plain_condition s (w.words ps) (word_of f) ts;
  })

  -- not the first of these
  pub negation : (s : Steps) → Scopes s → List Param → Nesteds → s.Step Cond
  negation s w ps none = s.done nothing
  negation s w ps (more c ts) = s.then (condition s w ps c) (λ c. s.done (cond.Not (cond_tree c)))

  -- the second of these, where the first holds
  pub implication : (s : Steps) → Scopes s → List Param → Nesteds → s.Step Cond
  implication s w ps none = s.done nothing
  implication s w ps (more a none) = s.done nothing
  implication s w ps (more a (more b ts)) =
      s.then (condition s w ps a) (λ a. s.then (condition s w ps b) (λ b. s.done (cond.Imply (cond_tree a) (cond_tree b))))

  -- the variables of a quantifier, and its condition, in which they are in force too
  pub quantified : (s : Steps) → Scopes s → List Param → Bool → Nesteds → s.Step Cond
  quantified s w ps each none = s.done nothing
  quantified s w ps each (more vs none) = s.done nothing
  quantified s w ps each (more vs (more c ts)) =
      s.then (w.bound ps (items vs)) (λ qs. s.then (condition s w (ps ++ qs) c) (λ c. s.done (quantifier each qs (cond_tree c))))

  -- these conditions, after others
  pub conditions : (s : Steps) → Scopes s → List Param → Nesteds → List CondTree → s.Step (List CondTree)
  conditions s w ps none before = s.done before
  conditions s w ps (more c cs) before = s.then (condition s w ps c) (λ c. conditions s w ps cs (before ++ cond_tree c ∷ []))
