-- Which parentheses stand open after marks, and which of them count for two levels.
use Rattle.std.specs.Prelude.{◌≡◌, ◌≤◌, ◌+◌, ◌-◌, ◌↔◌, ℕ, suc, Bool, true, false, not, ◌&&◌, ◌||◌, if◌then◌else◌, List, [], ◌∷◌, Option, None, Some, slice_get, take}
use Rattle.std.specs.List.{list_any}
use Rattle.ps_grammar.specs.Fronts.{IsFront}
use Rattle.ps_grammar.specs.Marks.{is}
use Rattle.ps_grammar.specs.Shape.{Derives, IsTooDeepFrom, deepest}
use Rattle.ps_grammar.specs.declared.marks.Mark.{Mark}
use Rattle.ps_grammar.specs.declared.marks.Mark.TheVariants.{Open, Close, ConditionKey, EffectKey, At, Over, And, Forall, When}
use Rattle.ps_grammar.specs.declared.symbols.Symbol.{Symbol}

-- ---- how many parentheses stand open

-- how many parentheses stand open after a mark, where so many did before it
abbrev pub opened_by : ℕ → Mark → ℕ
opened_by n Open = suc n
opened_by n Close = n - 1
opened_by n m = n

-- the same after these marks
abbrev pub opened : ℕ → List Mark → ℕ
opened n [] = n
opened n (m ∷ ms) = opened (opened_by n m) ms

-- how many parentheses stand open after the marks that begin a text
abbrev pub open_after : List Mark → ℕ
open_after ms = opened 0 ms

-- ---- what stands in them

-- An open form is told by the marks that stand in it by themselves, the last one first; a form in it that is closed has left its last
-- parenthesis there.
abbrev pub OpenForm : Type 0
OpenForm = List Mark

-- the open forms, the innermost first, after a mark more in the innermost one
abbrev pub with_mark : Mark → List OpenForm → List OpenForm
with_mark m [] = []
with_mark m (form ∷ outer) = (m ∷ form) ∷ outer

-- the same after the parenthesis that closes the innermost one
abbrev pub closed : List OpenForm → List OpenForm
closed [] = []
closed (form ∷ outer) = with_mark Close outer

-- the same after any mark
abbrev pub forms_by : List OpenForm → Mark → List OpenForm
forms_by forms Open = [] ∷ forms
forms_by forms Close = closed forms
forms_by forms m = with_mark m forms

-- the same after these marks
abbrev pub forms_from : List OpenForm → List Mark → List OpenForm
forms_from forms [] = forms
forms_from forms (m ∷ ms) = forms_from (forms_by forms m) ms

-- the open forms after the marks that begin a text
abbrev pub open_forms : List Mark → List OpenForm
open_forms ms = forms_from [] ms

-- ---- which forms stand alone

-- the first mark of a form passes
abbrev pub begins : (Mark → Bool) → OpenForm → Bool
begins passes [] = false
begins passes (m ∷ []) = passes m
begins passes (m ∷ n ∷ form) = begins passes (n ∷ form)

-- `at` or `over`, with which a timed form begins
abbrev pub is_time : Mark → Bool
is_time At = true
is_time Over = true
is_time m = false

-- any word but `and`
abbrev pub is_other : Mark → Bool
is_other m = not (is And m)

-- the next form in this one is that of a `:condition` or an `:effect`
abbrev pub wants_timed : OpenForm → Bool
wants_timed (ConditionKey ∷ form) = true
wants_timed (EffectKey ∷ form) = true
wants_timed form = false

-- the next form in this one is that of a `:condition`, or the condition of a `when`
abbrev pub wants_condition : OpenForm → Bool
wants_condition (ConditionKey ∷ form) = true
wants_condition (When ∷ []) = true
wants_condition form = false

-- the next form in this one is the body of a `forall` or a `when`
abbrev pub wants_body : OpenForm → Bool
wants_body (Close ∷ Forall ∷ []) = true
wants_body (Close ∷ When ∷ []) = true
wants_body form = false

-- the next form in these is that of a `:condition` or an `:effect`
abbrev pub want_timed : List OpenForm → Bool
want_timed [] = false
want_timed (form ∷ outer) = wants_timed form

-- the next form in these is the body of a `forall` or a `when`, which stands in no condition: that of an effect
abbrev pub want_body : List OpenForm → Bool
want_body [] = false
want_body (form ∷ outer) = wants_body form && not (list_any wants_condition outer)

-- A form in these stands alone: it is a timed form, or a body of an effect, where an `and` might stand around it.
abbrev pub is_alone : OpenForm → List OpenForm → Bool
is_alone form outer = (want_timed outer && begins is_time form) || (want_body outer && begins is_other form)

-- how many of the open forms stand alone
abbrev pub count_alone : List OpenForm → ℕ
count_alone [] = 0
count_alone (form ∷ outer) = if is_alone form outer then suc (count_alone outer) else count_alone outer

-- How many levels count after the marks that begin a text: one for each open form, and one more for each that stands alone.
abbrev pub levels_after : List Mark → ℕ
levels_after ms = open_after ms + count_alone (open_forms ms)

-- ---- which mark opens a level

-- the innermost open form is a body of an effect, and nothing stands in it yet
abbrev pub is_body_begun : List OpenForm → Bool
is_body_begun ([] ∷ outer) = want_body outer
is_body_begun forms = false

-- In these open forms the mark opens a level: a parenthesis does, and so does the first word of a body, which tells that it stands alone.
abbrev pub opens_in : List OpenForm → Option Mark → Bool
opens_in forms None = false
opens_in forms (Some Open) = true
opens_in forms (Some Close) = false
opens_in forms (Some m) = is_body_begun forms && is_other m

-- the place of the parenthesis to which the level belongs: such a word follows it
abbrev pub opened_in : List OpenForm → ℕ → ℕ
opened_in forms at = if is_body_begun forms then at - 1 else at

-- ---- lines

-- After marks that begin what these symbols derive, the mark here opens a level too many exactly where it is a parenthesis that opens
-- and as many stand open as levels may.
abbrev pub CountsParentheses : List Symbol → Type 0
CountsParentheses start = (ms : List Mark) (at : ℕ) → IsFront (Derives start) (take at ms) → IsTooDeepFrom start ms at ↔ ((slice_get ms at ≡ Some Open) × (deepest ≤ open_after (take at ms)))
