-- Lists of names with their types, over nested lists.
use Rattle.std.specs.Prelude.{◌≡◌, Bool, true, false}
use Rattle.ps_grammar.specs.Marks.{is_name}
use Rattle.ps_grammar.specs.declared.marks.Mark.{Mark}
use Rattle.ps_grammar.specs.declared.marks.Mark.TheVariants as mark
use Rattle.ps_lists.specs.Nested.{Nesteds, word, none, more}
use Rattle.ps_lists.specs.declared.lexemes.Lexeme.{Lexeme}

mutual
  -- TLIST of names with such marks: a run of them may be followed by - NAME
  pub data IsTypedList : (Mark → Bool) → Nesteds → Type 0 where
    no_name : (fits : Mark → Bool) → IsTypedList fits none
    first_name : (fits : Mark → Bool) (l : Lexeme) (ts : Nesteds) → fits l.mark ≡ true → IsRun fits ts → IsTypedList fits (more (word l) ts)

  -- what follows a name of a run
  pub data IsRun : (Mark → Bool) → Nesteds → Type 0 where
    run_end : (fits : Mark → Bool) → IsRun fits none
    next_name : (fits : Mark → Bool) (l : Lexeme) (ts : Nesteds) → fits l.mark ≡ true → IsRun fits ts → IsRun fits (more (word l) ts)
    type_name : (fits : Mark → Bool) (l m : Lexeme) (ts : Nesteds) → l.mark ≡ mark.Minus → is_name m.mark ≡ true → IsTypedList fits ts → IsRun fits (more (word l) (more (word m) ts))

-- the mark of a variable that is listed
abbrev pub is_variable : Mark → Bool
is_variable mark.Variable = true
is_variable m = false
