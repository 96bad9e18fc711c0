-- The parts of an action's condition.
use Rattle.std.specs.Prelude.{if◌then◌else◌, Ok, List, [], ◌∷◌, ◌++◌}
use Rattle.ps_world.specs.CondViews.{cond_tree}
use Rattle.ps_world.specs.declared.domains.Param.{Param}
use Rattle.ps_world.specs.declared.domains.Domain.{Domain}
use Rattle.ps_world.specs.declared.conditions.Cond.{Cond}
use Rattle.ps_world.specs.declared.actions.Conditions.{Conditions}
use Rattle.ps_grammar.specs.Marks.{is}
use Rattle.ps_grammar.specs.declared.marks.Mark.{Mark}
use Rattle.ps_grammar.specs.declared.marks.Mark.TheVariants.{At, Over, Start, And}
use Rattle.ps_lists.specs.Nested.{Nested, Nesteds, word, group, none, more}
use Rattle.ps_lists.specs.Places.{word_of}
use Rattle.ps_lists.specs.declared.lexemes.Lexeme.{Lexeme}
use Rattle.ps_conditions.specs.Steps.{◌>>=◌}
use Rattle.ps_pddl.specs.Steps.{Read}
use Rattle.ps_pddl.specs.Words.{condition}

-- parts with one more, which has to hold at the start, over all, or at the end
abbrev pub at_start : Cond → Conditions → Conditions
at_start c parts = record parts { at_start = parts.at_start ++ cond_tree c ∷ [] }

abbrev pub over_all : Cond → Conditions → Conditions
over_all c parts = record parts { over_all = parts.over_all ++ cond_tree c ∷ [] }

abbrev pub at_end : Cond → Conditions → Conditions
at_end c parts = record parts { at_end = parts.at_end ++ cond_tree c ∷ [] }

-- a part with the word after its `at`
abbrev pub at_time : Mark → Cond → Conditions → Conditions
at_time Start c parts = at_start c parts
at_time m c parts = at_end c parts

-- (at start C) | (over all C) | (at end C), by the first word and what follows it
abbrev pub timed_part : Domain → List Param → Mark → Mark → Nested → Conditions → Read Conditions
timed_part d ps At moment form parts = condition d ps form >>= λ c. Ok (at_time moment c parts)
timed_part d ps Over moment form parts = condition d ps form >>= λ c. Ok (over_all c parts)
timed_part d ps m moment form parts = Ok parts

-- the same of a list
abbrev pub timed_form : Domain → List Param → Lexeme → Nesteds → Conditions → Read Conditions
timed_form d ps l none parts = Ok parts
timed_form d ps l (more moment none) parts = Ok parts
timed_form d ps l (more moment (more form ts)) parts = timed_part d ps l.mark (word_of moment).mark form parts

abbrev mutual
  -- TC: () | (and TC*) | (at start C) | (over all C) | (at end C), whose parts follow those before; `and` is flattened
  pub timed : Domain → List Param → Nested → Conditions → Read Conditions
  timed d ps (word l) parts = Ok parts
  timed d ps (group ts) parts = timed_list d ps ts parts

  -- a head and what follows it
  pub timed_list : Domain → List Param → Nesteds → Conditions → Read Conditions
  timed_list d ps none parts = Ok parts
  timed_list d ps (more f ts) parts =
      if is And (word_of f).mark then all_timed d ps ts parts else timed_form d ps (word_of f) ts parts

  -- the parts of several forms
  pub all_timed : Domain → List Param → Nesteds → Conditions → Read Conditions
  all_timed d ps none parts = Ok parts
  all_timed d ps (more t ts) parts = timed d ps t parts >>= λ parts. all_timed d ps ts parts
