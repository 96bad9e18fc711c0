-- The lists of a line whose words fit a form are a line of that form, and the words of a line of a form fit it.
use Rattle.std.proofs.Common.{◌≡◌, ℕ, zero, suc, List, [], ◌∷◌, refl, arith}
use Rattle.ps_grammar.specs.Shape.{deepest}
use Rattle.ps_grammar.specs.declared.marks.Mark.TheVariants as mark
use Rattle.ps_grammar.specs.declared.symbols.Symbol.{Symbol}
use Rattle.ps_grammar.specs.declared.symbols.Symbol.TheVariants.{The, AnyName, InGoal}
use Rattle.ps_grammar.specs.declared.symbols.GoalPart.TheVariants as goal
use Rattle.ps_lists.specs.Nested.{Nested, Nesteds, word, group, none, more}
use Rattle.ps_lists.proofs.JudgedForms.{only_close}
use Rattle.ps_lists.proofs.OneWord as one
use Rattle.ps_lists.proofs.OneWord.{no_word}
use Rattle.ps_lists.proofs.Taking.{Takes, TakesAll}
use Rattle.ps_script.specs.Forms.{start_of}
use Rattle.ps_script.specs.declared.forms.Form.{Form}
use Rattle.ps_script.specs.declared.forms.Form.TheVariants.{SetInstance, SetPredicate, SetFunction, SetGoal, RemoveInstance, RemovePredicate, RemoveFunction, RemoveGoal, ModelPredicate, ModelAction, Domain, Plan, Quit, Tree, Run, RunAction}
use Rattle.ps_grammar_laws.specs.LineForms.{GrammaticalLinesAreJudged, IsEnd, IsFact, IsGoal, IsLineForm, IsOne, IsSetting, JudgedLinesAreGrammatical, Names}
use Rattle.ps_grammar_laws.specs.LineForms.IsSetting.{setting}
use Rattle.ps_grammar_laws.proofs.GoalLists.{atom_of_taken, atom_taken, condition_of_taken, condition_taken}
use Rattle.ps_lists.proofs.TakenLines.{TakesLine, judged_of_line, line_of_judged}

-- these lists are a line where what is wanted is taken to its end
abbrev pub AreTaken : List Symbol → (Nesteds → Type 0) → Type 0
AreTaken st P = (ts : Nesteds) → TakesLine ts st → P ts

-- what is wanted is taken to its end where these lists are a line
abbrev pub Take : (Nesteds → Type 0) → List Symbol → Type 0
Take P st = (ts : Nesteds) → P ts → TakesLine ts st

-- so many names are wanted first
abbrev pub named : ℕ → List Symbol → List Symbol
named zero st = st
named (suc n) st = AnyName ∷ named n st

-- ---- names and ends

end_told : AreTaken [] IsEnd
end_told none h = refl
end_told (more (word l) ts) h = absurd h
end_told (more (group us) ts) h = absurd h.1

end_taken : Take IsEnd []
end_taken none e = refl
end_taken (more t ts) e = absurd (cc)

names_told : (n : ℕ) (st : List Symbol) (Then : Nesteds → Type 0) → AreTaken st Then → AreTaken (named n st) (Names n Then)
names_told zero st Then told ts h = told ts h
names_told (suc n) st Then told none h = absurd (cc)
names_told (suc n) st Then told (more (word l) ts) h =
    let first = one.name_told (named n st) (TakesLine ts) l.mark h in
    (first.0, names_told n st Then told ts first.1)
names_told (suc n) st Then told (more (group us) ts) h = absurd h.1

names_taken : (n : ℕ) (st : List Symbol) (Then : Nesteds → Type 0) → Take Then st → Take (Names n Then) (named n st)
names_taken zero st Then taken ts h = taken ts h
names_taken (suc n) st Then taken none h = absurd h
names_taken (suc n) st Then taken (more (word l) ts) h =
    one.name_fits (named n st) (TakesLine ts) l.mark h.0 (names_taken n st Then taken ts h.1)
names_taken (suc n) st Then taken (more (group us) ts) h = absurd h

-- ---- one list at the end

one_told : (st : List Symbol) (P : Nested → Type 0) → (st ≡ [] → ⊥) → ((t : Nested) (After : List Symbol → Type 0) → Takes t After st → P t × After []) → AreTaken st (IsOne P)
one_told st P some told none h = absurd (some h)
one_told st P some told (more t ts) h =
    let first = told t (TakesLine ts) h in
    (first.0, end_told ts first.1)

one_taken : (st : List Symbol) (P : Nested → Type 0) → ((t : Nested) (After : List Symbol → Type 0) → P t → After [] → Takes t After st) → Take (IsOne P) st
one_taken st P taken none h = absurd h
one_taken st P taken (more t ts) h = taken t (TakesLine ts) h.0 (end_taken ts h.1)

-- ---- what a function's value is set by

-- what is wanted after `=` where a function's value is set
abbrev after_equal : List Symbol
after_equal = InGoal goal.Atom ∷ The mark.Number ∷ The mark.Close ∷ []

-- what is wanted where a function's value is set
abbrev in_setting : List Symbol
in_setting = The mark.Open ∷ The mark.Equal ∷ after_equal

setting_told : (t : Nested) (After : List Symbol → Type 0) → Takes t After in_setting → IsSetting deepest t × After []
setting_told (word l) After h = absurd (no_word (The mark.Open) refl (The mark.Equal ∷ after_equal) After l.mark h)
setting_told (group none) After h = absurd h.1
setting_told (group (more (group us) ts)) After h = absurd h.1.1
setting_told (group (more (word l) none)) After h =
    absurd (one.the_told after_equal (TakesAll none After) mark.Equal l.mark h.1).1
setting_told (group (more (word l) (more a none))) After h =
    let equal = one.the_told after_equal (TakesAll (more a none) After) mark.Equal l.mark h.1 in
    absurd (atom_of_taken a 63 (The mark.Number ∷ The mark.Close ∷ []) (TakesAll none After) refl equal.1).1
setting_told (group (more (word l) (more a (more (group us) ts)))) After h =
    let equal = one.the_told after_equal (TakesAll (more a (more (group us) ts)) After) mark.Equal l.mark h.1 in
    absurd (atom_of_taken a 63 (The mark.Number ∷ The mark.Close ∷ []) (TakesAll (more (group us) ts) After) refl equal.1).1.1
setting_told (group (more (word l) (more a (more (word n) ts)))) After h =
    let equal = one.the_told after_equal (TakesAll (more a (more (word n) ts)) After) mark.Equal l.mark h.1 in
    let fact = atom_of_taken a 63 (The mark.Number ∷ The mark.Close ∷ []) (TakesAll (more (word n) ts) After) refl equal.1 in
    let number = one.the_told (The mark.Close ∷ []) (TakesAll ts After) mark.Number n.mark fact.1 in
    let end = only_close ts [] After number.1 in
    (rw end.0 (setting 63 l n a equal.0 fact.0 number.0), end.1)

setting_taken : (t : Nested) (After : List Symbol → Type 0) → IsSetting deepest t → After [] → Takes t After in_setting
setting_taken _ After (setting room l n a equal fact number) k =
    (omega arith, one.at_mark after_equal (TakesAll (more a (more (word n) none)) After) (The mark.Equal) l.mark mark.Equal equal (atom_taken 63 a fact (The mark.Number ∷ The mark.Close ∷ []) (TakesAll (more (word n) none) After) refl (one.at_mark (The mark.Close ∷ []) (TakesAll none After) (The mark.Number) n.mark mark.Number number k)))

-- ---- lines

pub names_only_told : (n : ℕ) → AreTaken (named n []) (Names n IsEnd)
names_only_told n = names_told n [] IsEnd end_told

pub names_only_taken : (n : ℕ) → Take (Names n IsEnd) (named n [])
names_only_taken n = names_taken n [] IsEnd end_taken

fact_told : AreTaken (named 2 (InGoal goal.Atom ∷ [])) (Names 2 (IsOne IsFact))
fact_told = names_told 2 (InGoal goal.Atom ∷ []) (IsOne IsFact) (one_told (InGoal goal.Atom ∷ []) IsFact (λ e. absurd (cc)) (λ t After h. atom_of_taken t deepest [] After refl h))

fact_taken : Take (Names 2 (IsOne IsFact)) (named 2 (InGoal goal.Atom ∷ []))
fact_taken = names_taken 2 (InGoal goal.Atom ∷ []) (IsOne IsFact) (one_taken (InGoal goal.Atom ∷ []) IsFact (λ t After is k. atom_taken deepest t is [] After refl k))

pub goal_told : (n : ℕ) → AreTaken (named n (InGoal goal.Condition ∷ [])) (Names n (IsOne IsGoal))
goal_told n = names_told n (InGoal goal.Condition ∷ []) (IsOne IsGoal) (one_told (InGoal goal.Condition ∷ []) IsGoal (λ e. absurd (cc)) (λ t After h. condition_of_taken t deepest [] After refl h))

pub goal_taken : (n : ℕ) → Take (Names n (IsOne IsGoal)) (named n (InGoal goal.Condition ∷ []))
goal_taken n = names_taken n (InGoal goal.Condition ∷ []) (IsOne IsGoal) (one_taken (InGoal goal.Condition ∷ []) IsGoal (λ t After is k. condition_taken deepest t is [] After refl k))

set_function_told : AreTaken (start_of SetFunction) (IsLineForm SetFunction)
set_function_told = names_told 2 in_setting (IsOne (IsSetting deepest)) (one_told in_setting (IsSetting deepest) (λ e. absurd (cc)) setting_told)

set_function_taken : Take (IsLineForm SetFunction) (start_of SetFunction)
set_function_taken = names_taken 2 in_setting (IsOne (IsSetting deepest)) (one_taken in_setting (IsSetting deepest) setting_taken)

-- what is taken where a form's symbols are wanted is a line of the form
pub line_told : (f : Form) → AreTaken (start_of f) (IsLineForm f)
line_told SetInstance = names_only_told 4
line_told SetPredicate = fact_told
line_told SetFunction = set_function_told
line_told SetGoal = goal_told 2
line_told RemoveInstance = names_only_told 3
line_told RemovePredicate = fact_told
line_told RemoveFunction = fact_told
line_told RemoveGoal = names_only_told 2
line_told ModelPredicate = names_only_told 4
line_told ModelAction = names_only_told 4
line_told Domain = names_only_told 2
line_told Plan = names_only_told 2
line_told Quit = names_only_told 1
line_told Tree = names_only_told 2
line_told Run = names_only_told 1
line_told RunAction = fact_told
line_told _ = names_only_told 3

-- a line of a form is taken where the form's symbols are wanted
pub line_taken : (f : Form) → Take (IsLineForm f) (start_of f)
line_taken SetInstance = names_only_taken 4
line_taken SetPredicate = fact_taken
line_taken SetFunction = set_function_taken
line_taken SetGoal = goal_taken 2
line_taken RemoveInstance = names_only_taken 3
line_taken RemovePredicate = fact_taken
line_taken RemoveFunction = fact_taken
line_taken RemoveGoal = names_only_taken 2
line_taken ModelPredicate = names_only_taken 4
line_taken ModelAction = names_only_taken 4
line_taken Domain = names_only_taken 2
line_taken Plan = names_only_taken 2
line_taken Quit = names_only_taken 1
line_taken Tree = names_only_taken 2
line_taken Run = names_only_taken 1
line_taken RunAction = fact_taken
line_taken _ = names_only_taken 3

pub judged_lines_are_grammatical : JudgedLinesAreGrammatical
judged_lines_are_grammatical f ts ls s derived shallow = line_told f ts (line_of_judged (start_of f) ts ls s derived shallow)

pub grammatical_lines_are_judged : GrammaticalLinesAreJudged
grammatical_lines_are_judged f ts ls s is = judged_of_line (start_of f) ts ls s (line_taken f ts is)
