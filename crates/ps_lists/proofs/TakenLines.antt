-- What the symbols of a line take of its nested lists.
use Rattle.std.proofs.Common.{◌≡◌, List, ◌++◌, sym, subst}
use Rattle.std.proofs.lemmas.List.{map-append}
use Rattle.ps_grammar.specs.Shape.{Derives, IsShallowFrom}
use Rattle.ps_grammar.specs.declared.marks.Mark.{Mark}
use Rattle.ps_grammar.specs.declared.symbols.Symbol.{Symbol}
use Rattle.ps_grammar.proofs.Runs.{derived_of_run, run_of_derived}
use Rattle.ps_lists.specs.Lexemes.{marks}
use Rattle.ps_lists.specs.Nested.{Nesteds, none, more}
use Rattle.ps_lists.specs.Spelling.{SpellAll}
use Rattle.ps_lists.specs.Spelling.SpellAll.{nothing, one_more}
use Rattle.ps_lists.specs.declared.lexemes.Lexeme.{Lexeme}
use Rattle.ps_lists.proofs.Taking.{IsDone, Takes, Passes, takes_more, passes_of_takes, takes_of_passes, run_of_passes, flat_of_passes, passes_of_run}

-- the words and lists fit where these symbols are wanted, no parenthesis in them opens too many levels, and nothing more is wanted after them
abbrev pub TakesLine : Nesteds → List Symbol → Type 0
TakesLine none st = IsDone st
TakesLine (more t ts) st = Takes t (λ now. TakesLine ts now) st

marks_of_two : (ls ks : List Lexeme) → marks (ls ++ ks) ≡ marks ls ++ marks ks
marks_of_two ls ks = map-append (λ l. l.mark) ls ks

-- the marks of a line that is taken pass
passes_of_line : (ts : Nesteds) (ls : List Lexeme) → SpellAll ts ls → (st : List Symbol) → TakesLine ts st → Passes (marks ls) IsDone st
passes_of_line _ _ nothing st h = h
passes_of_line _ _ (one_more t ts ls ks s r) st h =
    subst (λ (x : List Mark). Passes x IsDone st) (sym (marks_of_two ls ks)) (passes_of_takes t ls s (marks ks) IsDone st (takes_more t (TakesLine ts) (λ now. Passes (marks ks) IsDone now) st (λ now k. passes_of_line ts ks r now k) h))

-- a line whose marks pass is taken
line_of_passes : (ts : Nesteds) (ls : List Lexeme) → SpellAll ts ls → (st : List Symbol) → Passes (marks ls) IsDone st → TakesLine ts st
line_of_passes _ _ nothing st h = h
line_of_passes _ _ (one_more t ts ls ks s r) st h =
    takes_more t (λ now. Passes (marks ks) IsDone now) (TakesLine ts) st (λ now k. line_of_passes ts ks r now k) (takes_of_passes t ls s (marks ks) IsDone st (subst (λ (x : List Mark). Passes x IsDone st) (marks_of_two ls ks) h))

-- a line that is taken to its end is derived, and opens no level too many
pub judged_of_line : (start : List Symbol) (ts : Nesteds) (ls : List Lexeme) → SpellAll ts ls → TakesLine ts start → Derives start (marks ls) × IsShallowFrom start (marks ls)
judged_of_line start ts ls s h =
    let passes : Passes (marks ls) IsDone start = passes_of_line ts ls s start h in
    (derived_of_run start (marks ls) (run_of_passes (marks ls) start passes), λ at deep. flat_of_passes (marks ls) start at passes deep)

-- a line that is derived and opens no level too many is taken to its end
pub line_of_judged : (start : List Symbol) (ts : Nesteds) (ls : List Lexeme) → SpellAll ts ls → Derives start (marks ls) → IsShallowFrom start (marks ls) → TakesLine ts start
line_of_judged start ts ls s d flat =
    line_of_passes ts ls s start (passes_of_run (marks ls) start (run_of_derived start (marks ls) d) flat)
