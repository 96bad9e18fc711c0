-- What stands at a place of nested lists. In a text of a domain's shape there is a word or a list wherever one is looked for.
use Rattle.std.specs.Prelude.{ℕ, pos, suc, zero, if◌then◌else◌, Option, Some, None}
use Rattle.ps_world.specs.Names.{object}
use Rattle.ps_grammar.specs.Marks.{is}
use Rattle.ps_grammar.specs.declared.marks.Mark.{Mark}
use Rattle.ps_grammar.specs.declared.marks.Mark.TheVariants.{Close}
use Rattle.ps_lists.specs.Nested.{Nested, Nesteds, word, group, none, more}
use Rattle.ps_lists.specs.declared.lexemes.Lexeme.{Lexeme}

-- no word
abbrev pub no_word : Lexeme
no_word = record { mark = Close; name = object; number = pos 0; at = 0 }

-- the word that stands alone
abbrev pub word_of : Nested → Lexeme
word_of (word l) = l
word_of (group ts) = no_word

-- what stands between two parentheses
abbrev pub items : Nested → Nesteds
items (word l) = none
items (group ts) = ts

-- how many there are
abbrev pub count : Nesteds → ℕ
count none = 0
count (more t ts) = suc (count ts)

-- the one at this place, from 0
abbrev pub at : Nesteds → ℕ → Option Nested
at none i = None
at (more t ts) zero = Some t
at (more t ts) (suc i) = at ts i

-- the first word
abbrev pub head : Nesteds → Lexeme
head none = no_word
head (more t ts) = word_of t

-- what follows the first
abbrev pub rest : Nesteds → Nesteds
rest none = none
rest (more t ts) = ts

-- what follows the first word with this mark
abbrev pub after : Mark → Nesteds → Nesteds
after m none = none
after m (more t ts) = if is m (word_of t).mark then ts else after m ts

-- what follows the head of the first list that has such a head
abbrev pub section : Mark → Nesteds → Nesteds
section m none = none
section m (more t ts) = if is m (head (items t)).mark then rest (items t) else section m ts

-- what stands between the first two parentheses, where they stand first
abbrev pub items_at : Nesteds → Nesteds
items_at none = none
items_at (more t ts) = items t
