-- What an effect means, and the parts of an action's effect.
use Rattle.std.specs.Prelude.{Bool, false, not, ◌&&◌, ℕ, ◌+◌, if◌then◌else◌, Option, Some, None, Ok, List, [], ◌∷◌, ◌++◌, length}
use Rattle.std.specs.Option.{is_none, option_map}
use Rattle.ps_world.specs.declared.domains.Param.{Param}
use Rattle.ps_world.specs.declared.domains.Domain.{Domain}
use Rattle.ps_world.specs.declared.actions.NumOp.{NumOp}
use Rattle.ps_world.specs.declared.actions.NumOp.TheVariants as op
use Rattle.ps_world.specs.declared.actions.Effect.{Effect}
use Rattle.ps_world.specs.declared.actions.Effect.TheVariants.{Add, Delete, Number}
use Rattle.ps_world.specs.declared.actions.Guarded.{Guarded}
use Rattle.ps_world.specs.declared.actions.Guarded.TheVariants.{Plain, When}
use Rattle.ps_world.specs.declared.actions.Spread.{Spread}
use Rattle.ps_world.specs.declared.actions.Spread.TheVariants.{Once, ForAll}
use Rattle.ps_grammar.specs.Marks.{is}
use Rattle.ps_grammar.specs.declared.marks.Mark.{Mark}
use Rattle.ps_grammar.specs.declared.marks.Mark.TheVariants as mark
use Rattle.ps_grammar.specs.declared.marks.Mark.TheVariants.{At, Start, And, Not, Forall, Assign, Increase, Decrease, ScaleUp, ScaleDown}
use Rattle.ps_lists.specs.Nested.{Nested, Nesteds, word, group, none, more}
use Rattle.ps_lists.specs.Places.{word_of, items, head, rest}
use Rattle.ps_pddl.specs.Terms.{fact, value_of}
use Rattle.ps_pddl.specs.Words.{scopes, value}
use Rattle.ps_pddl.specs.Lists.{binding}
use Rattle.ps_conditions.specs.Conditions as meant
use Rattle.ps_conditions.specs.Steps.{◌>>=◌}
use Rattle.ps_pddl.specs.Steps.{Read, reads}
use Rattle.ps_lists.specs.declared.lexemes.Lexeme.{Lexeme}
use Rattle.ps_world.specs.declared.actions.Effects.{Effects}

-- how the head of an effect changes a number
abbrev pub change_of : Mark → Option NumOp
change_of Assign = Some op.Assign
change_of Increase = Some op.Increase
change_of Decrease = Some op.Decrease
change_of ScaleUp = Some op.ScaleUp
change_of ScaleDown = Some op.ScaleDown
change_of m = None

-- (NAME TERM*), where these variables are in force
abbrev pub added : Domain → List Param → Lexeme → Nesteds → Read (Option Effect)
added d ps l ts = fact d ps l ts >>= λ f. Ok (Some (Add f))

-- (not (NAME TERM*))
abbrev pub deleted : Domain → List Param → Nested → Read (Option Effect)
deleted d ps a = fact d ps (head (items a)) (rest (items a)) >>= λ f. Ok (Some (Delete f))

-- (NOP (NAME TERM*) X)
abbrev pub changed : Domain → List Param → NumOp → Nested → Nested → Read (Option Effect)
changed d ps how a x =
    value_of d ps (head (items a)) (rest (items a)) >>= λ l. value d ps x >>= λ x. Ok (Some (Number how l x))

-- the same, or else another effect
abbrev pub changed_or : Domain → List Param → Option NumOp → Nested → Nested → Read (Option Effect) → Read (Option Effect)
changed_or d ps None a x other = other
changed_or d ps (Some how) a x other = changed d ps how a x

-- (NAME TERM*) | (NOP (NAME TERM*) X), where NOP is assign increase decrease scale-up scale-down
abbrev pub plain_effect : Domain → List Param → Lexeme → Nesteds → Read (Option Effect)
plain_effect d ps l none = added d ps l none
plain_effect d ps l (more a none) = added d ps l (more a none)
plain_effect d ps l (more a (more x ts)) = changed_or d ps (change_of l.mark) a x (added d ps l (more a (more x ts)))

-- the deletion of the first of these
abbrev pub deletion : Domain → List Param → Nesteds → Read (Option Effect)
deletion d ps none = Ok None
deletion d ps (more a ts) = deleted d ps a

-- FLAT: (NAME TERM*) | (not (NAME TERM*)) | (NOP (NAME TERM*) X), by its head and what follows it
abbrev pub flat_one : Domain → List Param → Lexeme → Nesteds → Read (Option Effect)
flat_one d ps l ts = if is Not l.mark then deletion d ps ts else plain_effect d ps l ts

-- these, and this one if there is one
abbrev pub followed_by : {A : Type 0} → List A → Option A → List A
followed_by before None = before
followed_by before (Some x) = before ++ x ∷ []

abbrev mutual
  -- (and E*) or one, which is read so from its head and what follows it; these follow those before, and `and` is flattened
  pub flattened : {A : Type 0} → (Lexeme → Nesteds → Read (Option A)) → Nested → List A → Read (List A)
  flattened one (word l) before = Ok before
  flattened one (group ts) before = flattened_form one ts before

  -- a head and what follows it
  pub flattened_form : {A : Type 0} → (Lexeme → Nesteds → Read (Option A)) → Nesteds → List A → Read (List A)
  flattened_form one none before = Ok before
  flattened_form one (more f ts) before =
      if is And (word_of f).mark then all_flattened one ts before
      else (one (word_of f) ts >>= λ x. Ok (followed_by before x))

  -- several
  pub all_flattened : {A : Type 0} → (Lexeme → Nesteds → Read (Option A)) → Nesteds → List A → Read (List A)
  all_flattened one none before = Ok before
  all_flattened one (more e es) before = flattened one e before >>= λ before. all_flattened one es before

-- G of a `when`: (and G*) | FLAT
abbrev pub flat : Domain → List Param → Nested → Read (List Effect)
flat d ps t = flattened (flat_one d ps) t []

-- the condition and the effects of a `when`, in an action with so many parameters
abbrev pub conditional : Domain → ℕ → List Param → Nesteds → Read (Option Guarded)
conditional d own ps none = Ok None
conditional d own ps (more c none) = Ok None
conditional d own ps (more c (more e ts)) =
    meant.condition reads (scopes d own) ps c >>= λ c. flat d ps e >>= λ es. Ok (Some (When c es))

-- FLAT | (when C G)
abbrev pub guarded_one : Domain → ℕ → List Param → Lexeme → Nesteds → Read (Option Guarded)
guarded_one d own ps l ts =
    if is mark.When l.mark then conditional d own ps ts else (flat_one d ps l ts >>= λ e. Ok (option_map Plain e))

-- W of a `forall`: (and W*) | FLAT | (when C G)
abbrev pub guarded : Domain → ℕ → List Param → Nested → Read (List Guarded)
guarded d own ps t = flattened (guarded_one d own ps) t []

-- the variable that an effect's list binds, of which there is one at most: its name is that of no parameter
abbrev pub bound_once : Domain → List Param → Nesteds → Read (List Param)
bound_once d ps ts = binding d (length ps + 1) ps ts

-- the variables of a `forall` and its effects, in which they are in force too
abbrev pub for_each : Domain → List Param → Nesteds → Read (Option Spread)
for_each d ps none = Ok None
for_each d ps (more vs none) = Ok None
for_each d ps (more vs (more e ts)) =
    bound_once d ps (items vs) >>= λ qs. guarded d (length ps) (ps ++ qs) e >>= λ gs. Ok (Some (ForAll qs gs))

-- FLAT | (when C G) | (forall (VLIST) W)
abbrev pub spread_one : Domain → List Param → Lexeme → Nesteds → Read (Option Spread)
spread_one d ps l ts =
    if is Forall l.mark then for_each d ps ts else (guarded_one d (length ps) ps l ts >>= λ g. Ok (option_map Once g))

-- E: (and E*) | FLAT | (when C G) | (forall (VLIST) W), in an action with these parameters, after other effects
abbrev pub effect : Domain → List Param → Nested → List Spread → Read (List Spread)
effect d ps t before = flattened (spread_one d ps) t before

-- the word heads an effect that adds a fact
abbrev pub adds_fact : Mark → Bool
adds_fact m = not (is And m) && not (is Not m) && not (is mark.When m) && not (is Forall m) && is_none (change_of m)

-- the list adds a fact
abbrev pub is_addition : Nested → Bool
is_addition (word l) = false
is_addition (group none) = false
is_addition (group (more f ts)) = adds_fact (word_of f).mark

-- (NAME TERM*), after other effects
abbrev pub addition : Domain → List Param → Nesteds → List Spread → Read (List Spread)
addition d ps ts before = fact d ps (head ts) (rest ts) >>= λ f. Ok (before ++ Once (Plain (Add f)) ∷ [])

-- changes with these at the start or at the end
abbrev pub at_start : Effects → List Spread → Effects
at_start changes es = record changes { at_start = es }

abbrev pub at_end : Effects → List Spread → Effects
at_end changes es = record changes { at_end = es }

-- the changes with an effect, by the word after its `at`
abbrev pub at_time : Domain → List Param → Mark → Nested → Effects → Read Effects
at_time d ps Start e changes = effect d ps e changes.at_start >>= λ es. Ok (at_start changes es)
at_time d ps m e changes = effect d ps e changes.at_end >>= λ es. Ok (at_end changes es)

-- (at start E) | (at end E), by the first word and what follows it
abbrev pub timed_part : Domain → List Param → Mark → Mark → Nested → Effects → Read Effects
timed_part d ps At moment e changes = at_time d ps moment e changes
timed_part d ps m moment e changes = Ok changes

-- the same of a list
abbrev pub timed_form : Domain → List Param → Lexeme → Nesteds → Effects → Read Effects
timed_form d ps l none changes = Ok changes
timed_form d ps l (more moment none) changes = Ok changes
timed_form d ps l (more moment (more e ts)) changes = timed_part d ps l.mark (word_of moment).mark e changes

abbrev mutual
  -- TE: () | (and TE*) | (at start E) | (at end E), whose effects follow those before; `and` is flattened
  pub timed : Domain → List Param → Nested → Effects → Read Effects
  timed d ps (word l) changes = Ok changes
  timed d ps (group ts) changes = timed_list d ps ts changes

  -- a head and what follows it
  pub timed_list : Domain → List Param → Nesteds → Effects → Read Effects
  timed_list d ps none changes = Ok changes
  timed_list d ps (more f ts) changes =
      if is And (word_of f).mark then all_timed d ps ts changes else timed_form d ps (word_of f) ts changes

  -- the changes of several forms
  pub all_timed : Domain → List Param → Nesteds → Effects → Read Effects
  all_timed d ps none changes = Ok changes
  all_timed d ps (more t ts) changes = timed d ps t changes >>= λ changes. all_timed d ps ts changes
