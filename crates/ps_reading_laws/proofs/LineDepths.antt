-- In a line of a form a parenthesis opens a level too many exactly where as many stand open as levels may.
use Rattle.std.proofs.Common.{◌≡◌, ◌⊎◌, ℕ, ◌≤◌, Bool, true, false, ◌&&◌, List, [], ◌∷◌, ◌++◌, Option, None, Some, slice_get, take, refl, sym, ◌∙◌, ap, subst, inl, inr, arith}
use Rattle.std.specs.List.{list_all}
use Rattle.std.proofs.lemmas.Bool.{and_parts}
use Rattle.ps_grammar.specs.Marks.{is}
use Rattle.ps_grammar.specs.Rules.{step}
use Rattle.ps_grammar.specs.Shape.{deepest, next_wanted, opens_level, wanted_from}
use Rattle.ps_grammar.specs.Symbols.{level, weight}
use Rattle.ps_grammar.specs.declared.marks.Mark.{Mark}
use Rattle.ps_grammar.specs.declared.marks.Mark.TheVariants.{Open}
use Rattle.ps_grammar.specs.declared.symbols.Symbol.{Symbol}
use Rattle.ps_grammar.specs.declared.symbols.Symbol.TheVariants.{The, AnyName, InEffect}
use Rattle.ps_grammar.proofs.Levels.{level_more}
use Rattle.ps_lists.proofs.Balance.{each_mark}
use Rattle.ps_script.specs.Forms as script
use Rattle.ps_script.specs.declared.forms.Form.{Form as ScriptForm}
use Rattle.ps_script.specs.declared.forms.Form.TheVariants.{SetFunction}
use Rattle.ps_script.proofs.Balance.{where_some}
use Rattle.ps_members.specs.Forms as member
use Rattle.ps_members.specs.declared.forms.Form.{Form as MemberForm}
use Rattle.ps_members.specs.declared.forms.Form.TheVariants.{Edit}
use Rattle.ps_reading_laws.specs.Laws.{LineDepthsAreParentheses, MemberDepthsAreParentheses}
use Rattle.ps_reading_laws.specs.Levels.{CountsParentheses, open_after, opened, opened_by}
use Rattle.ps_grammar.proofs.SameMarks.{mark_is}
use Rattle.ps_reading_laws.proofs.LevelSymbols.{inner_fits, inner_more, inner_step, is_inner, is_none, moves, none_of, opens_so}
use Rattle.ps_reading_laws.proofs.TextSymbols.{is_body_head, opens_elsewhere}
use Rattle.ps_reading_laws.proofs.Ways.{Leads, first_leads, front_leads}
use Rattle.ps_reading_laws.proofs.Ways.Leads.{no_mark, one_mark}

-- names are wanted, and then a parenthesis that opens by itself, before all that stands up to the one that closes it
data Begins : List Symbol → Type 0 where
  opens : (rest : List Symbol) → list_all is_inner rest ≡ true → level rest ≡ 1 → Begins (The Open ∷ rest)
  name : (st : List Symbol) → Begins st → Begins (AnyName ∷ st)

-- what is wanted where so many parentheses stand open
data Agrees : List Symbol → ℕ → Type 0 where
  goes_on : (st : List Symbol) (n : ℕ) → list_all is_inner st ≡ true → level st ≡ n → Agrees st n
  begins : (st : List Symbol) → Begins st → Agrees st 0

-- ---- one mark

going : (s : Symbol) (st : List Symbol) (m : Mark) (new : List Symbol) → list_all is_inner (s ∷ st) ≡ true → step s m ≡ Some new → Agrees (new ++ st) (opened_by (level (s ∷ st)) m)
going s st m new all e =
    let own = and_parts (is_inner s) (list_all is_inner st) all in
    let fits : inner_fits (Some new) m (weight s) ≡ true = subst (λ (o : Option (List Symbol)). inner_fits o m (weight s) ≡ true) e (inner_step s m own.0) in
    let parts = and_parts (moves m (weight s) (level new)) (list_all is_inner new) fits in
    goes_on (new ++ st) _ (inner_more new st parts.1 own.1) (level_more new st ∙ opens_so m (weight s) (level new) (level st) parts.0)

opening : (rest : List Symbol) (m : Mark) (new : List Symbol) → list_all is_inner rest ≡ true → level rest ≡ 1 → step (The Open) m ≡ Some new → Agrees (new ++ rest) (opened_by 0 m)
opening rest m new all one e =
    let w = where_some (is Open m) new e in
    rw (mark_is Open m w.0, w.1) (goes_on rest 1 all one)

-- what a name leads to
abbrev name_fits : Option (List Symbol) → Mark → Bool
name_fits None m = true
name_fits (Some new) m = moves m 0 0 && is_none new

name_step : (m : Mark) → name_fits (step AnyName m) m ≡ true
name_step = each_mark (λ m. name_fits (step AnyName m) m) refl

naming : (st : List Symbol) (m : Mark) (new : List Symbol) → Begins st → step AnyName m ≡ Some new → Agrees (new ++ st) (opened_by 0 m)
naming st m new b e =
    let fits : name_fits (Some new) m ≡ true = subst (λ (o : Option (List Symbol)). name_fits o m ≡ true) e (name_step m) in
    let parts = and_parts (moves m 0 0) (is_none new) fits in
    let still : 0 ≡ opened_by 0 m = opens_so m 0 0 0 parts.0 in
    rw (none_of new parts.1, ← still) (begins st b)

agrees_next : (st : List Symbol) (n : ℕ) (m : Mark) (next : List Symbol) → Agrees st n → next_wanted st m ≡ Some next → Agrees next (opened_by n m)
agrees_next _ _ m next (goes_on [] n all sum) e = absurd (cc)
agrees_next _ _ m next (goes_on (s ∷ st) n all sum) e =
    let l = first_leads s st m next e in
    rw (l.2, ← sum) (going s st m l.0 all l.1)
agrees_next _ _ m next (begins _ (opens rest all one)) e =
    let l = first_leads (The Open) rest m next e in
    rw (l.2) (opening rest m l.0 all one l.1)
agrees_next _ _ m next (begins _ (name st b)) e =
    let l = first_leads AnyName st m next e in
    rw (l.2) (naming st m l.0 b l.1)

-- ---- all marks

agrees_all : (st end : List Symbol) (n : ℕ) (ms : List Mark) → Agrees st n → Leads st ms end → Agrees end (opened n ms)
agrees_all _ _ n _ a (no_mark st) = a
agrees_all _ _ n _ a (one_mark st next end m ms e rest) = agrees_all next end (opened_by n m) ms (agrees_next st n m next a e) rest

begins_level : (st : List Symbol) → Begins st → level st ≡ 1
begins_level _ (opens rest all one) = omega (arith, one)
begins_level _ (name st b) = omega (arith, begins_level st b)

-- the level is the number of parentheses open, or one before the first
levels_agree : (st : List Symbol) (n : ℕ) → Agrees st n → (level st ≡ n) ⊎ ((level st ≡ 1) × (n ≡ 0))
levels_agree _ _ (goes_on st n all sum) = inl sum
levels_agree _ _ (begins st b) = inr (begins_level st b, refl)

-- so many levels are too many exactly where so many parentheses are
depths_agree : (a n : ℕ) → (a ≡ n) ⊎ ((a ≡ 1) × (n ≡ 0)) → (deepest ≤ a → deepest ≤ n) × (deepest ≤ n → deepest ≤ a)
depths_agree a n (inl same) = (λ h. omega arith, λ h. omega arith)
depths_agree a n (inr begun) = (let one : a ≡ 1 = begun.0 in let zero : n ≡ 0 = begun.1 in (λ h. absurd (omega arith), λ h. absurd (omega arith)))

-- no body of an effect is wanted
inner_no_body : (s : Symbol) → is_inner s ≡ true → is_body_head (Some s) ≡ false
inner_no_body (InEffect part) e = absurd (cc)
inner_no_body _ e = refl

no_body : (st : List Symbol) (n : ℕ) → Agrees st n → is_body_head (slice_get st 0) ≡ false
no_body _ _ (goes_on [] n all sum) = refl
no_body _ _ (goes_on (s ∷ st) n all sum) = inner_no_body s (and_parts (is_inner s) (list_all is_inner st) all).0
no_body _ _ (begins _ (opens rest all one)) = refl
no_body _ _ (begins _ (name st b)) = refl

-- so a level is opened by a parenthesis alone
opened_so : (st : List Symbol) (o : Option Mark) → is_body_head (slice_get st 0) ≡ false → (opens_level st o ≡ true → o ≡ Some Open) × (o ≡ Some Open → opens_level st o ≡ true)
opened_so st None h = (λ e. absurd (cc), λ e. absurd (cc))
opened_so st (Some m) h =
    let same = opens_elsewhere (slice_get st 0) m h in
    (λ e. ap Some (mark_is Open m (sym same ∙ e)), λ e. let here : m ≡ Open = cc in same ∙ rw here refl)

counts : (start : List Symbol) → Agrees start 0 → CountsParentheses start
counts start agrees ms at front =
    let now : List Symbol = wanted_from start (take at ms) in
    let n : ℕ = open_after (take at ms) in
    let end : Agrees now n = agrees_all start now 0 (take at ms) agrees (front_leads start (take at ms) front) in
    let deep = depths_agree (level now) n (levels_agree now n end) in
    let opens = opened_so now (slice_get ms at) (no_body now n end) in
    (λ h. (opens.0 h.0, deep.0 h.1), λ h. (opens.1 h.0, deep.1 h.1))

-- ---- lines

script_agrees : (f : ScriptForm) → Agrees (script.start_of f) 0
script_agrees SetFunction = begins _ (name _ (name _ (opens _ refl refl)))
script_agrees f = goes_on (script.start_of f) 0 refl refl

pub line_depths_are_parentheses : LineDepthsAreParentheses
line_depths_are_parentheses f = counts (script.start_of f) (script_agrees f)

member_agrees : (f : MemberForm) → Agrees (member.start_of f) 0
member_agrees (Edit f) = script_agrees f
member_agrees f = goes_on (member.start_of f) 0 refl refl

pub member_depths_are_parentheses : MemberDepthsAreParentheses
member_depths_are_parentheses f = counts (member.start_of f) (member_agrees f)
